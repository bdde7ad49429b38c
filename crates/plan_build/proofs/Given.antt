-- What the four passes give and what they refuse, in the words of the plan.
use Rattle.std.specs.Prelude.{◌≡◌, ℕ, ◌*◌, ◌<◌, ◌≤◌, ◌⊎◌, Bool, length}
use Rattle.std.proofs.Common.{sym, ap, subst, ◌∙◌, arith, inl, inr}
use Rattle.aq_base.specs.declared.lists.Memory.{Memory as NoMemory}
use Rattle.circuit.specs.PlainNets.{PlainView}
use Rattle.circuit.specs.Composed.{OfPart}
use Rattle.circuit.specs.declared.pass.ThenRefusal.{ThenRefusal}
use Rattle.circuit.specs.declared.pass.ThenRefusal.TheVariants.{First, Second}
use Rattle.blif_read.specs.Parts.{NetView}
use Rattle.blif_read.specs.Netlist.{IsNetlist}
use Rattle.rowed.specs.RowNets.{RowView}
use Rattle.rowed.specs.PlacedNets.{PlacedView, placed_rows}
use Rattle.maj_mapping.specs.Plan.{map_net}
use Rattle.maj_mapping.specs.Passes.{IsMappedNet}
use Rattle.level_balance.specs.Plan.{level_net}
use Rattle.level_balance.specs.Counts.{cell_count, capped}
use Rattle.level_balance.specs.Passes as level
use Rattle.level_balance.specs.declared.pass.LevelRefusal.{LevelRefusal}
use Rattle.level_balance.specs.declared.pass.LevelRefusal.TheVariants as levels
use Rattle.rowed.specs.Extent.{widest_packed}
use Rattle.rowed.specs.Limits.{width_limit, height_limit, KeepsWidth}
use Rattle.row_place.specs.Places.{place}
use Rattle.row_place.specs.Passes as places
use Rattle.row_place.specs.declared.pass.PlaceRefusal.{PlaceRefusal}
use Rattle.row_place.specs.declared.pass.PlaceRefusal.TheVariants as place_refusals
use Rattle.repeater_rows.specs.Repeaters.{repeated, repeated_rows}
use Rattle.repeater_rows.specs.Passes as repeats
use Rattle.repeater_rows.specs.declared.pass.RepeatRefusal.{RepeatRefusal}
use Rattle.repeater_rows.specs.declared.pass.RepeatRefusal.TheVariants as repeat_refusals
use Rattle.cell_library.specs.Library.{LibraryView}
use Rattle.cell_library.specs.Laws.{IsLibrary}
use Rattle.cell_library.specs.Reach.{reach_of, slot_width_of}
use Rattle.layout_make.specs.MayDraw.{MayDraw}
use Rattle.plan_build.specs.Plans.{ChipPlan, IsMadeFor, IsWithin, rows_of, places_of, chip_of, cells_before, span_before}
use Rattle.plan_build.specs.Plans.{rows_height}
use Rattle.plan_build.proofs.ChipLaws.{same_placed, same_height, chip_may_draw}
use Rattle.plan_build.specs.Refusals.{refusal_of, Refuses}

module _ (l : LibraryView) (plan : ChipPlan) (net : NetView) (made : IsMadeFor l plan) where
  abbrev pub GivesGates : PlainView → Type 0
  GivesGates gates = IsMappedNet net gates

  abbrev pub GivesRows : RowView → Type 0
  GivesRows rows = (gates : PlainView) × GivesGates gates × level.IsLevelled gates plan.first.first.second.three rows

  abbrev pub GivesPlaces : PlacedView → Type 0
  GivesPlaces placed = (rows : RowView) × GivesRows rows × places.ArePlaces rows plan.first.second.slot_width placed

  abbrev pub GivesChip : PlacedView → Type 0
  GivesChip chip = (placed : PlacedView) × GivesPlaces placed
      × repeats.AreRepeated placed plan.second.reach plan.second.height plan.second.channel chip

  count_is : (gates : PlainView) → gates ≡ map_net net
      → cell_count gates plan.first.first.second.three ≡ cells_before l net
  count_is gates e = ap (λ (g : PlainView). cell_count g plan.first.first.second.three) e
      ∙ ap (λ (t : Bool). cell_count (map_net net) t) made.three

  rows_given : (rows : RowView) → GivesRows rows → (rows ≡ rows_of l net) × (cells_before l net ≤ 2000000)
  rows_given rows given = (
    given.2.is_plan ∙ ap (λ (g : PlainView). level_net g plan.first.first.second.three) given.1.is_plan
        ∙ ap (λ (t : Bool). level_net (map_net net) t) made.three,
    omega (arith, given.2.few_cells, count_is given.0 given.1.is_plan),
  )

  width_is : (rows : RowView) → rows ≡ rows_of l net
      → widest_packed rows.rows * plan.first.second.slot_width ≡ span_before l net * slot_width_of l
  width_is rows e =
      ap (λ (r : RowView). widest_packed r.rows * plan.first.second.slot_width) e
      ∙ ap (λ (w : ℕ). span_before l net * w) made.width

  places_given : (placed : PlacedView) → GivesPlaces placed → (placed ≡ places_of l net)
      × (cells_before l net ≤ 2000000) × KeepsWidth (span_before l net) (slot_width_of l)
  places_given placed given =
      let rows = rows_given given.0 given.1 in (
        given.2.is_plan ∙ ap place rows.0,
        rows.1,
        subst (λ (w : ℕ). w ≤ width_limit) (width_is given.0 rows.0) given.2.within,
      )

  height_is : (rows : ℕ) → repeats.height_of plan.second.height plan.second.channel rows ≡ rows_height l rows
  height_is rows =
      ap (λ (h : ℕ). repeats.height_of h plan.second.channel rows) made.height
      ∙ ap (λ (c : ℕ). repeats.height_of l.height c rows) made.channel

  -- the chip, and that it keeps the limits
  pub chip_given : (chip : PlacedView) → GivesChip chip → IsNetlist net × (chip ≡ chip_of l net) × IsWithin l net
  chip_given chip given =
      let placed = places_given given.0 given.1 in
      let same : chip ≡ chip_of l net =
      given.2.is_plan ∙ ap (λ (p : PlacedView). repeated p plan.second.reach) placed.0
      ∙ ap (λ (r : ℕ). repeated (places_of l net) r) made.reach
      in (
        given.1.1.1.net_keeps,
        same,
        record {
          few_before = placed.1;
          narrow = placed.2;
          few_cells = sym (ap (λ (c : PlacedView). repeats.cells_past 0 (placed_rows c)) same) ∙ given.2.few_cells;
          low = subst (λ (c : PlacedView). rows_height l (length c.net.rows) ≤ height_limit) same
              (subst (λ (h : ℕ). h ≤ height_limit) (height_is (length chip.net.rows)) given.2.not_tall);
        },
      )

  -- so it can be drawn
  pub drawn_given : IsLibrary l → (chip : PlacedView) → GivesChip chip → MayDraw chip l
  drawn_given known chip given =
      let is = chip_given chip given in
      subst (λ (p : PlacedView). MayDraw p l) (sym is.1) (chip_may_draw l net known is.0 is.2)

  -- the rows with repeaters are those of the chip
  raised_is : (placed : PlacedView) → placed ≡ places_of l net
      → repeated_rows plan.second.reach (placed_rows placed)
      ≡ repeated_rows (reach_of l) (placed_rows (places_of l net))
  raised_is placed e =
      ap (λ (p : PlacedView). repeated_rows plan.second.reach (placed_rows p)) e
      ∙ ap (λ (r : ℕ). repeated_rows r (placed_rows (places_of l net))) made.reach

  past_is : (placed : PlacedView) → placed ≡ places_of l net
      → repeats.cells_past 0 (repeated_rows plan.second.reach (placed_rows placed))
      ≡ repeats.cells_past 0 (placed_rows (chip_of l net))
  past_is placed e = ap (repeats.cells_past 0) (raised_is placed e ∙ sym (same_placed l net))

  abbrev pub MeetsRows : LevelRefusal → Type 0
  MeetsRows r = (gates : PlainView) × GivesGates gates × level.IsTooLarge gates plan.first.first.second.three r

  abbrev pub MeetsPlaces : PlaceRefusal → Type 0
  MeetsPlaces r = (rows : RowView) × GivesRows rows × places.IsTooWide rows plan.first.second.slot_width r

  abbrev pub MeetsChip : RepeatRefusal → Type 0
  MeetsChip r = (placed : PlacedView) × GivesPlaces placed
      × repeats.IsTooLarge placed plan.second.reach plan.second.height plan.second.channel r

  abbrev pub ChipRefusal : Type 0
  ChipRefusal = ThenRefusal (ThenRefusal (ThenRefusal NoMemory LevelRefusal) PlaceRefusal) RepeatRefusal

  abbrev pub WantsMemory : ChipRefusal → Type 0
  WantsMemory = OfPart (OfPart (OfPart (λ (r : NoMemory). Unit {0}) (λ (r : LevelRefusal). r ≡ levels.Memory))
      (λ (r : PlaceRefusal). r ≡ place_refusals.Memory))
      (λ (r : RepeatRefusal). r ≡ repeat_refusals.Memory)

  abbrev pub MeetsLimit : ChipRefusal → Type 0
  MeetsLimit = OfPart (OfPart (OfPart (λ (r : NoMemory). ⊥) MeetsRows) MeetsPlaces) MeetsChip

  -- a refusal says which limit the plan passes
  pub refused : (r : ChipRefusal) → WantsMemory r ⊎ MeetsLimit r → Refuses l net (refusal_of r)
  refused (First (First (First r))) said = tt
  refused (First (First (Second levels.Memory))) said = tt
  refused (First (First (Second (levels.TooManyCells cells)))) (inl e) = absurd cc
  refused (First (First (Second (levels.TooManyCells cells)))) (inr met) =
      let count = count_is met.0 met.1.is_plan in
      inl (subst (λ (n : ℕ). 2000000 < n) count met.2.0, met.2.1 ∙ ap capped count)
  refused (First (Second place_refusals.Memory)) said = tt
  refused (First (Second (place_refusals.TooWide span))) (inl e) = absurd cc
  refused (First (Second (place_refusals.TooWide span))) (inr met) =
      let rows = rows_given met.0 met.1 in (
        rows.1,
        subst (λ (w : ℕ). width_limit < w) (width_is met.0 rows.0) met.2.0,
        met.2.1 ∙ ap (λ (r : RowView). widest_packed r.rows) rows.0,
      )
  refused (Second repeat_refusals.Memory) said = tt
  refused (Second (repeat_refusals.TooManyCells cells)) (inl e) = absurd cc
  refused (Second (repeat_refusals.TooManyCells cells)) (inr met) =
      let placed = places_given met.0 met.1 in
      inr (placed.1, placed.2, sym (past_is met.0 placed.0) ∙ met.2)
  refused (Second (repeat_refusals.TooTall rows)) (inl e) = absurd cc
  refused (Second (repeat_refusals.TooTall rows)) (inr met) =
      let placed = places_given met.0 met.1 in (
        placed.1,
        placed.2,
        sym (past_is met.0 placed.0) ∙ met.2.0,
        subst (λ (h : ℕ). height_limit < h) (height_is rows) met.2.1,
        met.2.2 ∙ ap length (raised_is met.0 placed.0) ∙ sym (same_height l net),
      )
