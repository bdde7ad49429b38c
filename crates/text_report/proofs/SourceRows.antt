-- The rows of the sources of nets, written pin by pin.
use Rattle.std.proofs.Common.{◌≡◌, ◌≢◌, ℕ, ◌+◌, ◌<◌, ◌≤◌, inl, inr, List, length, Option, Some, sym, ap}
use Rattle.std.proofs.Common.{subst}
use Rattle.std.proofs.Common.{◌∙◌, arith, suc, [], ◌∷◌, Bool, true, false, ◌&&◌}
use Rattle.std.specs.Prelude.{slice_get, slice_index, slice_set, ℤ, ◌⊎◌, not}
use Rattle.std.proofs.Math.ListN.{length-set}
use Rattle.std.proofs.lemmas.Bool.{cases_eq, cases_lt}
use Rattle.std.proofs.lemmas.List.{get_or-set_other}
use Rattle.std.proofs.lemmas.Option.{same_Some, slice_get_within, slice_get-get_or, slice_get_past}
use Rattle.shape_extract.proofs.FramePlaces.{read_same}
use Rattle.shape_extract.proofs.NetDrivers.{net_below}
use Rattle.geom.specs.declared.shapes.Shape.{Shape}
use Rattle.geom.specs.declared.shapes.Flat.{Flat}
use Rattle.layout_rules.specs.declared.layers.TheConstants.{OUTPUT_PIN}
use Rattle.layout_rules.specs.Layers.{is_frame, is_pin}
use Rattle.layout_rules.specs.Nets.{AreNets}
use Rattle.layout_rules.specs.Pins.{LiesIn}
use Rattle.layout_rules.specs.Rows.{AreRows, has_edge, lower_edges, row_of, row_count}
use Rattle.layout_rules.specs.Reports.{Passes}
use Rattle.layout_rules.proofs.NetLaws.{one_net}
use Rattle.layout_rules.proofs.Deciding.{settled}
use Rattle.layout_rules.proofs.RowLaws.{row_count-certified}
use Rattle.shape_extract.specs.Code.PinRows.{IsRowOf}
use Rattle.text_report.specs.Code.Heights.{BelongsTo}
use Rattle.text_report.specs.Code.Sources.{AreInOrder, AreSourceRows, HasSource, HaveSides}
use Rattle.text_report.proofs.PinRows.{pin_so, frame_of, row_is, row_within, belongs}

pub read_other : {X : Type 0} (xs : List X) (i j : ℕ) (v : X) → j ≢ i
    → slice_get (slice_set xs i v) j ≡ slice_get xs j
read_other xs i j v ne = by_length (cases_lt j (length xs))
  where
    by_length : (j < length xs) ⊎ (length xs ≤ j) → slice_get (slice_set xs i v) j ≡ slice_get xs j
    by_length (inl lt) =
        slice_get-get_or (slice_set xs i v) j v (omega (arith, length-set xs i v))
        ∙ (ap Some (get_or-set_other xs i j v v ne) ∙ sym (slice_get-get_or xs j v lt))
    by_length (inr ge) =
        slice_get_past (slice_set xs i v) j (omega (arith, length-set xs i v)) ∙ sym (slice_get_past xs j ge)

-- the rows of the first n shapes that are output pins are written
pub record RowsBelow (n : ℕ) (shapes : List Shape) (nets : List ℕ) (rows : List (Option ℕ)) : Type 0 where
  pub long : length rows ≡ length shapes
  pub each : (m : ℕ) (pin : Shape) (row : ℕ) → m < n → slice_get shapes m ≡ Some pin → pin.layer ≡ OUTPUT_PIN
      → IsRowOf shapes m row → slice_get rows (slice_index nets m) ≡ Some (Some row)
  pub only : (net row : ℕ) → slice_get rows net ≡ Some (Some row) → HasSource shapes nets net row
  pub within : (net row : ℕ) → slice_get rows net ≡ Some (Some row) → row < row_count shapes

module _ (flat : Flat) (nets : List ℕ) (order : AreInOrder flat nets) where
  -- output pins in one net are one
  pub one_output : (p q : ℕ) (pin other : Shape) → slice_get flat.shapes p ≡ Some pin
      → slice_get flat.shapes q ≡ Some other → pin.layer ≡ OUTPUT_PIN → other.layer ≡ OUTPUT_PIN
      → slice_index nets p ≡ slice_index nets q → p ≡ q
  one_output p q pin other p_is q_is on also same =
      settled p q (λ ne. order.driven p q (inl (record {
        pin = record { shape = pin; shape_is = p_is; passes_so = pin_so pin on };
        other = other;
        other_is = q_is;
        one_layer = on ∙ sym also;
        apart = ne;
        joined = one_net flat.shapes nets order.are_nets p q (slice_get_within flat.shapes p pin p_is)
            (slice_get_within flat.shapes q other q_is) same;
      })))

  module _ (n : ℕ) (rows : List (Option ℕ)) (here : Shape) (below : RowsBelow n flat.shapes nets rows)
      (got : slice_get flat.shapes n ≡ Some here) where
    pub rows_same : here.layer ≢ OUTPUT_PIN → RowsBelow (n + 1) flat.shapes nets rows
    rows_same off = record {
      long = below.long;
      each = λ m pin row lt is on stands. elim (cases_eq m n) [
        | inl e ↦ absurd (off (ap (λ (s : Shape). s.layer)
            (same_Some here pin (sym got ∙ (ap (slice_get flat.shapes) (sym e) ∙ is))) ∙ on))
        | inr ne ↦ below.each m pin row (omega arith) is on stands
      ];
      only = below.only;
      within = below.within;
    }

    module _ (edges : List ℤ) (are_rows : AreRows flat.shapes edges) (sides : HaveSides flat.shapes)
        (on : here.layer ≡ OUTPUT_PIN) (v : ℕ)
        (found : (row : ℕ) → BelongsTo edges row here.rect.y0 → v ≡ row) where
      pin_here : Passes is_pin flat.shapes n
      pin_here = record { shape = here; shape_is = got; passes_so = pin_so here on }

      lies : (f : ℕ) × LiesIn flat.shapes n f
      lies = frame_of flat.shapes order.cells n pin_here

      same_pin : lies.1.pin ≡ here
      same_pin = same_Some lies.1.pin here (sym lies.1.pin_is ∙ got)

      v_is : v ≡ row_of flat.shapes lies.1.frame.rect.y0
      v_is =
          found (row_of flat.shapes lies.1.frame.rect.y0)
          (subst (λ (s : Shape). BelongsTo edges (row_of flat.shapes lies.1.frame.rect.y0) s.rect.y0) same_pin
          (belongs flat.shapes order.frames sides edges are_rows n lies.0 lies.1))

      stands_here : IsRowOf flat.shapes n v
      stands_here = record { frame = lies.0; lies = lies.1; row_is = sym v_is }

      source_here : (net row : ℕ) → net ≡ slice_index nets n → v ≡ row → HasSource flat.shapes nets net row
      source_here net row same is = record {
        number = n;
        pin = here;
        pin_is = got;
        of_layer = on;
        net_is = sym same;
        stands = subst (IsRowOf flat.shapes n) is stands_here;
      }

      v_within : v < row_count flat.shapes
      v_within =
          omega (
            arith,
            v_is,
            row_count-certified flat.shapes edges are_rows,
            row_within flat.shapes order.frames sides edges are_rows n lies.0 lies.1,
          )

      within_here : slice_index nets n < length rows
      within_here =
          omega (
            arith,
            below.long,
            net_below flat.shapes nets order.are_nets n (slice_get_within flat.shapes n here got),
          )

      inner : (a b : ℕ) → Some (Some a) ≡ Some (Some b) → a ≡ b
      inner a b e = same_Some a b (same_Some (Some a) (Some b) e)

      pub rows_more : RowsBelow (n + 1) flat.shapes nets (slice_set rows (slice_index nets n) (Some v))
      rows_more = record {
        long = length-set rows (slice_index nets n) (Some v) ∙ below.long;
        each = λ m pin row lt is also stands. elim (cases_eq m n) [
          | inl e ↦
              let one : v ≡ row =
              v_is ∙ row_is flat.shapes order.cells n pin_here row lies.0
              (subst (λ (k : ℕ). IsRowOf flat.shapes k row) e stands) lies.1 in
              read_same rows (slice_index nets n) (slice_index nets m) (Some v) within_here (ap (slice_index nets) e)
              ∙ ap (λ (k : ℕ). Some (Some k)) one
          | inr ne ↦
              read_other rows (slice_index nets n) (slice_index nets m) (Some v)
              (λ same. ne (one_output m n pin here is got also on same))
              ∙ below.each m pin row (omega arith) is also stands
        ];
        only = λ net row at. elim (cases_eq net (slice_index nets n)) [
          | inl same ↦ source_here net row same
              (inner v row (sym (read_same rows (slice_index nets n) net (Some v) within_here same) ∙ at))
          | inr other ↦
              below.only net row (sym (read_other rows (slice_index nets n) net (Some v) other) ∙ at)
        ];
        within = λ net row at. elim (cases_eq net (slice_index nets n)) [
          | inl same ↦ subst (λ (k : ℕ). k < row_count flat.shapes)
              (inner v row (sym (read_same rows (slice_index nets n) net (Some v) within_here same) ∙ at)) v_within
          | inr other ↦
              below.within net row (sym (read_other rows (slice_index nets n) net (Some v) other) ∙ at)
        ];
      }

pub rows_all : (n : ℕ) (shapes : List Shape) (nets : List ℕ) (rows : List (Option ℕ)) → length shapes ≤ n
    → RowsBelow n shapes nets rows → AreSourceRows shapes nets rows
rows_all n shapes nets rows all below = record {
  long = below.long;
  each = λ m pin row is on stands.
      (let lt : m < length shapes = slice_get_within shapes m pin is in
      below.each m pin row (omega arith) is on stands);
  only = below.only;
  within = below.within;
}

-- each shape's net has a place in the table
pub nets_within : (shapes : List Shape) (nets : List ℕ) (count : ℕ) → AreNets shapes nets → count ≡ length shapes
    → (i : ℕ) → i < length nets → slice_index nets i < count
nets_within shapes nets count are long i lt =
    omega (arith, net_below shapes nets are i (omega (arith, are.long)), long)

-- there are at most as many rows as shapes
at_most : (b : Bool) (y : ℤ) (l : List ℤ) → length {A = ℤ} (elim b [ true ↦ y ∷ l | false ↦ l ]) ≤ suc (length l)
at_most true y l = omega arith
at_most false y l = omega arith

pub rows_short : (shapes : List Shape) → row_count shapes ≤ length shapes
rows_short [] = omega arith
rows_short (s ∷ ss) =
    let less : row_count ss ≤ length ss = rows_short ss in
    let one : row_count (s ∷ ss) ≤ suc (row_count ss) =
    at_most (is_frame s && not (has_edge ss s.rect.y0)) s.rect.y0 (lower_edges ss) in
    omega arith
