-- Where lines are laid out and reached, each layer is one path, and chains that never turn back run along it.
use Rattle.std.proofs.Common.{◌≡◌, ◌≢◌, ℕ, zero, suc, ◌+◌, ◌-◌, ◌<◌, ◌≤◌, ◌⊎◌, inl, inr, true, false, List, [], ◌∷◌}
use Rattle.std.proofs.Common.{length, Some, refl, sym, ap, subst, ◌∙◌, arith, slice_get, slice_index, ◌==◌, reverse}
use Rattle.std.specs.List.{IsDistinct, AllByRecursion, list_any}
use Rattle.std.proofs.lemmas.Bool.{cases_eq, cases_lt, cases_order, or_cases, or_left, or_right, eqb-true, eq-eqb}
use Rattle.std.proofs.lemmas.Bool.{ne_eqb}
use Rattle.std.proofs.Math.Dec.{eqb}
use Rattle.std.proofs.lemmas.Option.{same_Some, slice_get_within, get_or_from_slice_get}
use Rattle.std.proofs.lemmas.List.{get_or-reverse, length-reverse}
use Rattle.std.proofs.lemmas.Grind.{same_number_lists}
use Rattle.std.proofs.lemmas.Map.Steps.{length-le_from_distinct_below}
use Rattle.geom.specs.declared.shapes.Shape.{Shape}
use Rattle.layout_rules.specs.declared.layers.TheConstants.{EVEN_LINE, ODD_LINE, START}
use Rattle.layout_rules.specs.Layers.{is_line}
use Rattle.layout_rules.proofs.LineLaws.{Contact-back}
use Rattle.layout_rules.proofs.PlaceLaws.{PassesAt, list_any-place}
use Rattle.layout_rules.specs.Reports.{ReportsNone, Alone, Passes}
use Rattle.layout_rules.proofs.ReportLaws.{alone_kept}
use Rattle.layout_rules.specs.ExcitationLines.{Contact, IsPart, IsChain, IsReached, is_on, IsLine, HasOneLine, Before}
use Rattle.layout_rules.specs.ExcitationRule.{HasOneStart, LacksOneStart, IsCutOff, AreLaidOut}
use Rattle.layout_rules.specs.Code.LineChains.{NeverTurnsBack, ChainBefore}
use Rattle.layout_rules.proofs.Deciding.{dec_both, dec_not, dec_equal, dec_some, affirmed}
use Rattle.layout_rules.proofs.DecidedShapes.{dec_passes, passes_within}
use Rattle.layout_rules.proofs.LineWays.{dec_contact, contact_within, dec_reached}
use Rattle.layout_rules.proofs.JudgedLines.{dec_one_start}
use Rattle.layout_rules.proofs.ChainsAgree.{LeastOn, first_on, contact_layer, contact_line, start_one, two_contacts}
use Rattle.layout_rules.proofs.ChainsAgree.{one_start, chain_some, chain_contact, chain_start, turns, apart, one_before}
use Rattle.layout_rules.proofs.ChainsAgree.{start_layer}

-- ---- a path read back from one of its places is a chain that never turns back

module _ (shapes : List Shape) (layer : ℕ) (path : List ℕ) (line : IsLine shapes layer path) where
  -- the path from its start to place k, read back
  abbrev back : ℕ → List ℕ
  back zero = slice_index path 0 ∷ []
  back (suc k) = slice_index path (suc k) ∷ back k

  back_chain : (k : ℕ) → k < length path → IsChain shapes (back k)
  back_chain zero lt = line.start (omega arith)
  back_chain (suc zero) lt = (line.next 0 lt, back_chain zero (omega arith))
  back_chain (suc (suc k)) lt = (line.next (suc k) lt, back_chain (suc k) (omega arith))

  back_onward : (k : ℕ) → k < length path → NeverTurnsBack (back k)
  back_onward zero lt = tt
  back_onward (suc zero) lt = tt
  back_onward (suc (suc zero)) lt = (λ e. line.once 0 2 (omega arith) lt (sym e), tt)
  back_onward (suc (suc (suc k))) lt =
      (λ e. line.once (suc k) (suc (suc (suc k))) (omega arith) lt (sym e), back_onward (suc (suc k)) (omega arith))

  back_before : (k : ℕ) → suc k < length path → ChainBefore shapes (slice_index path k) (slice_index path (suc k))
  back_before zero lt = record { rest = []; chain = back_chain 1 lt; onward = tt }
  back_before (suc k) lt = record {
    rest = back k;
    chain = back_chain (suc (suc k)) lt;
    onward = back_onward (suc (suc k)) lt;
  }

-- the shape before another one is before it by a chain
pub chain_from_path : (shapes : List Shape) (a b : ℕ) → Before shapes a b → ChainBefore shapes a b
chain_from_path shapes a b before =
    subst (ChainBefore shapes a) before.second_is
    (subst (λ (x : ℕ). ChainBefore shapes x (slice_index before.path (suc before.place))) before.first_is
    (back_before shapes before.layer before.path before.line before.place before.within))

-- ---- the longest chain

-- one shape more for a chain
abbrev GoesOn : List Shape → List ℕ → ℕ → Type 0
GoesOn shapes chain j = IsChain shapes (j ∷ chain) × NeverTurnsBack (j ∷ chain)

dec_goes_on : (shapes : List Shape) (chain : List ℕ) → IsChain shapes chain → NeverTurnsBack chain → (j : ℕ)
    → Dec (GoesOn shapes chain j)
dec_goes_on shapes [] is onward j = absurd is
dec_goes_on shapes (a ∷ []) is onward j = dec_both (dec_both (dec_contact shapes a j) (yes is)) (yes tt)
dec_goes_on shapes (b ∷ a ∷ rest) is onward j =
    dec_both (dec_both (dec_contact shapes b j) (yes is)) (dec_both (dec_not (dec_equal j a)) (yes onward))

goes_on_contact : (shapes : List Shape) (chain : List ℕ) → IsChain shapes chain → (j : ℕ) → GoesOn shapes chain j
    → Contact shapes (slice_index chain 0) j
goes_on_contact shapes [] is j goes = absurd is
goes_on_contact shapes (b ∷ rest) is j goes = goes.0.0

-- places that hold different numbers make a list of distinct ones
distinct_by_places : (xs : List ℕ)
    → ((i j : ℕ) → i < j → j < length xs → slice_index xs i ≢ slice_index xs j) → IsDistinct eqb xs
unfolding IsDistinct
distinct_by_places [] apart = tt
distinct_by_places (x ∷ xs) apart = (
  others xs (λ k lt e. apart 0 (suc k) (omega arith) (omega arith) e),
  distinct_by_places xs
      (λ i j ij lt. apart (suc i) (suc j) (omega arith) (omega arith)),
)
  where
    others : (ys : List ℕ) → ((k : ℕ) → k < length ys → x ≢ slice_index ys k) → AllByRecursion (λ y. eqb x y ≡ false) ys
    others [] none = tt
    others (y ∷ ys) none = (ne_eqb x y (none 0 (omega arith)), others ys (λ k lt. none (suc k) (omega arith)))

-- a shape of a layer, and a contact of it
on_layer : (shapes : List Shape) (layer i : ℕ) (s : Shape) → slice_get shapes i ≡ Some s → s.layer ≡ layer
    → Passes (is_on layer) shapes i
on_layer shapes layer i s is on = record { shape = s; shape_is = is; passes_so = eq-eqb s.layer layer on }

layer_of : (shapes : List Shape) (layer i : ℕ) (s : Shape) → Passes (is_on layer) shapes i
    → slice_get shapes i ≡ Some s → s.layer ≡ layer
layer_of shapes layer i s on is = ap (λ (x : Shape). x.layer) (same_Some s on.shape (sym is ∙ on.shape_is))
    ∙ eqb-true on.shape.layer layer on.passes_so

module _ (shapes : List Shape) (lines : AreLaidOut shapes) where
  contact_on : (layer i j : ℕ) → Contact shapes i j → Passes (is_on layer) shapes i → Passes (is_on layer) shapes j
  contact_on layer i j c on = on_layer shapes layer j c.second c.second_is (sym (contact_layer shapes lines i j c)
      ∙ layer_of shapes layer i c.first on c.first_is)

  contact_back_on : (layer i j : ℕ) → Contact shapes i j → Passes (is_on layer) shapes j → Passes (is_on layer) shapes i
  contact_back_on layer i j c on = contact_on layer j i (Contact-back c) on

  -- two starts of a layer are one
  one_start_on : (layer i j : ℕ) → IsPart shapes START i → IsPart shapes START j → Passes (is_on layer) shapes i
      → Passes (is_on layer) shapes j → i ≡ j
  one_start_on layer i j p q on also = one_start shapes lines i j p q (layer_of shapes layer i p.shape on p.shape_is
      ∙ sym (layer_of shapes layer j q.shape also q.shape_is))

  -- a chain of shapes of the layer
  record Trail (layer : ℕ) : Type 0 where
    chain : List ℕ
    is : IsChain shapes chain
    onward : NeverTurnsBack chain
    on : (k : ℕ) → k < length chain → Passes (is_on layer) shapes (slice_index chain k)

  longer : (layer : ℕ) (trail : Trail layer) (j : ℕ) → GoesOn shapes trail.chain j → Trail layer
  longer layer trail j goes = record { chain = j ∷ trail.chain; is = goes.0; onward = goes.1; on = on_more }
    where
      some : 0 < length trail.chain
      some = chain_some shapes lines trail.chain trail.is

      on_more : (k : ℕ) → k < length (j ∷ trail.chain) → Passes (is_on layer) shapes (slice_index (j ∷ trail.chain) k)
      on_more zero lt = contact_on layer (slice_index trail.chain 0) j
          (goes_on_contact shapes trail.chain trail.is j goes) (trail.on 0 some)
      on_more (suc k) lt = trail.on k (omega arith)

  -- it has no shape twice, and so no more than there are
  once : (layer : ℕ) (trail : Trail layer) (i j : ℕ) → i < j → j < length trail.chain
      → slice_index trail.chain i ≢ slice_index trail.chain j
  once layer trail i j lt within e = apart shapes lines trail.chain trail.is trail.onward
      (j - suc i) i j (omega arith) within e

  bounded : (layer : ℕ) (trail : Trail layer) → length trail.chain ≤ length shapes
  bounded layer trail = length-le_from_distinct_below trail.chain (length shapes)
      (distinct_by_places trail.chain (once layer trail)) below
    where
      below : (q : ℕ) → list_any (eqb q) trail.chain ≡ true → q < length shapes
      below q e =
          let found : PassesAt (eqb q) trail.chain = list_any-place (eqb q) trail.chain e in
          let there : slice_index trail.chain found.place ≡ found.item =
          get_or_from_slice_get trail.chain found.place found.item 0 found.item_is in
          let lt : found.place < length trail.chain =
          slice_get_within trail.chain found.place found.item found.item_is in
          let here : slice_index trail.chain found.place < length shapes = passes_within (is_on layer) shapes
          (slice_index trail.chain found.place) (trail.on found.place lt) in
          let same : q ≡ found.item = eqb-true q found.item found.passes_so in
          omega arith

  -- a chain that nothing makes longer
  record Longest (layer : ℕ) : Type 0 where
    trail : Trail layer
    ends : (j : ℕ) → GoesOn shapes trail.chain j → ⊥

  grown : (layer fuel : ℕ) (trail : Trail layer) → length shapes ≤ length trail.chain + fuel → Longest layer
  unfolding longer
  grown layer zero trail le =
      record {
        trail = trail;
        ends =
            λ j goes. (let more : length (j ∷ trail.chain) ≤ length shapes = bounded layer
            (longer layer trail j goes) in omega arith);
      }
  grown layer (suc fuel) trail le = by_next (λ j goes. grown layer fuel (longer layer trail j goes))
      (dec_some (GoesOn shapes trail.chain) (length shapes) (dec_goes_on shapes trail.chain trail.is trail.onward)
      (λ j goes. contact_within shapes (slice_index trail.chain 0) j
      (goes_on_contact shapes trail.chain trail.is j goes)))
    where
      by_next : ((j : ℕ) (goes : GoesOn shapes trail.chain j) → length shapes ≤ length (j ∷ trail.chain) + fuel
          → Longest layer) → Dec ((j : ℕ) × GoesOn shapes trail.chain j) → Longest layer
      by_next more (yes next) = more next.0 next.1 (omega arith)
      by_next more (no none) = record { trail = trail; ends = λ j goes. none (j, goes) }

  -- ---- which holds each shape of its layer

  abbrev HasPlace : List ℕ → ℕ → Type 0
  HasPlace chain i = (k : ℕ) × ((k < length chain) × (slice_index chain k ≡ i))

  -- a contact of the last shape is the one before it, or makes the chain longer
  at_end : (chain : List ℕ) → IsChain shapes chain → NeverTurnsBack chain → (i : ℕ)
      → Contact shapes (slice_index chain 0) i → HasPlace chain i ⊎ GoesOn shapes chain i
  at_end [] is onward i c = absurd is
  at_end (b ∷ []) is onward i c = inr ((c, is), tt)
  at_end (b ∷ a ∷ rest) is onward i c = elim (cases_eq i a) [
    | inl e ↦ inl (1, (omega arith, sym e))
    | inr ne ↦ inr ((c, is), (ne, onward))
  ]

  -- a contact of a shape of the chain is one too
  beside : (layer : ℕ) (long : Longest layer) (k i : ℕ) → k < length long.trail.chain
      → Contact shapes (slice_index long.trail.chain k) i → HasPlace long.trail.chain i
  beside layer long zero i lt c =
      elim (at_end long.trail.chain long.trail.is long.trail.onward i c)
      [ inl place ↦ place | inr goes ↦ absurd (long.ends i goes) ]
  beside layer long (suc m) i lt c = elim (cases_lt (suc (suc m)) (length chain)) [
    | inl more ↦ elim (cases_eq i (slice_index chain m)) [
      | inl e ↦ (m, (omega arith, sym e))
      | inr ne ↦ (
        suc (suc m),
        (
          more,
          two_contacts shapes lines (slice_index chain (suc m)) (slice_index chain m)
              (slice_index chain (suc (suc m))) i down (up more) c
              (turns shapes lines chain long.trail.onward m more) (λ e. ne (sym e)),
        ),
      )
    ]
    | inr last ↦ (
      m,
      (
        omega arith,
        start_one shapes lines (slice_index chain (suc m)) (slice_index chain m) i
            (chain_start shapes lines chain long.trail.is (suc m) (omega arith)) down c,
      ),
    )
  ]
    where
      chain : List ℕ
      chain = long.trail.chain

      down : Contact shapes (slice_index chain (suc m)) (slice_index chain m)
      down = chain_contact shapes lines chain long.trail.is m lt

      up : suc (suc m) < length chain → Contact shapes (slice_index chain (suc m)) (slice_index chain (suc (suc m)))
      up more = Contact-back (chain_contact shapes lines chain long.trail.is (suc m) more)

  -- the first shape of the chain is its start, in the last place
  first_place : (layer : ℕ) (long : Longest layer) → (k : ℕ) × (suc k ≡ length long.trail.chain)
  first_place layer long = (
    length long.trail.chain - 1,
    let some =
        chain_some shapes lines long.trail.chain long.trail.is in omega arith,
  )

  has_reached : (layer : ℕ) (long : Longest layer) (rest : List ℕ) (i : ℕ) → IsChain shapes (i ∷ rest)
      → Passes (is_on layer) shapes i → HasPlace long.trail.chain i
  has_reached layer long [] i start on =
      let last : (k : ℕ) × (suc k ≡ length long.trail.chain) = first_place layer long in
      let lt : last.0 < length long.trail.chain = omega (arith, last.1) in (
        last.0,
        (
          lt,
          one_start_on layer (slice_index long.trail.chain last.0) i
              (chain_start shapes lines long.trail.chain long.trail.is last.0 last.1) start
              (long.trail.on last.0 lt) on,
        ),
      )
  has_reached layer long (a ∷ rest) i chain on =
      next (has_reached layer long rest a chain.1 (contact_back_on layer a i chain.0 on))
    where
      next : HasPlace long.trail.chain a → HasPlace long.trail.chain i
      next place = beside layer long place.0 i place.1.0 (subst (λ (x : ℕ). Contact shapes x i) (sym place.1.1) chain.0)

  -- ---- and read back it is the path

  module _ (layer : ℕ) (long : Longest layer) (reached : (i : ℕ) → Passes is_line shapes i → IsReached shapes i) where
    chain : List ℕ
    chain = long.trail.chain

    path : List ℕ
    path = reverse chain

    long_as : length path ≡ length chain
    unfolding path
    long_as = length-reverse chain

    -- place k of the path is place m of the chain
    turned : (k m : ℕ) → suc (k + m) ≡ length chain → slice_index path k ≡ slice_index chain m
    unfolding path
    turned k m e =
        let from_end : length chain - 1 - k ≡ m = omega arith in
        get_or-reverse chain k 0 (omega arith) ∙ ap (slice_index chain) from_end

    -- the place of the chain that is place k of the path
    opposite : (k : ℕ) → k < length path → (m : ℕ) × (suc (k + m) ≡ length chain)
    opposite k lt = let e = long_as in (length chain - suc k, omega arith)

    path_start : 0 < length path → IsPart shapes START (slice_index path 0)
    unfolding chain
    path_start lt =
        let last : (m : ℕ) × (suc (0 + m) ≡ length chain) = opposite 0 lt in
        subst (IsPart shapes START) (sym (turned 0 last.0 last.1))
        (chain_start shapes lines chain long.trail.is last.0 (omega (arith, last.1)))

    path_next : (k : ℕ) → suc k < length path → Contact shapes (slice_index path k) (slice_index path (suc k))
    unfolding chain
    path_next k lt =
        let there : (m : ℕ) × (suc (suc k + m) ≡ length chain) = opposite (suc k) lt in
        let here : slice_index path k ≡ slice_index chain (suc there.0) = turned k (suc there.0)
        (omega (arith, there.1)) in
        subst (λ (x : ℕ). Contact shapes x (slice_index path (suc k))) (sym here)
        (subst (Contact shapes (slice_index chain (suc there.0))) (sym (turned (suc k) there.0 there.1))
        (chain_contact shapes lines chain long.trail.is there.0 (omega (arith, there.1))))

    path_within : (k : ℕ) → k < length path → Passes (is_on layer) shapes (slice_index path k)
    unfolding chain
    path_within k lt =
        let there : (m : ℕ) × (suc (k + m) ≡ length chain) = opposite k lt in
        subst (Passes (is_on layer) shapes) (sym (turned k there.0 there.1))
        (long.trail.on there.0 (omega (arith, there.1)))

    path_once : (j k : ℕ) → j < k → k < length path → slice_index path j ≢ slice_index path k
    unfolding chain
    path_once j k lt within same =
        let far : (m : ℕ) × (suc (j + m) ≡ length chain) = opposite j (omega arith) in
        let near : (m : ℕ) × (suc (k + m) ≡ length chain) = opposite k within in
        once layer long.trail near.0 far.0 (omega (arith, near.1, far.1)) (omega (arith, far.1))
        (sym (turned k near.0 near.1) ∙ sym same ∙ turned j far.0 far.1)

    path_all : (line : (i : ℕ) → Passes (is_on layer) shapes i → Passes is_line shapes i) → (i : ℕ)
        → Passes (is_on layer) shapes i → HasPlace path i
    unfolding chain
    path_all line i on =
        let way : IsReached shapes i = reached i (line i on) in
        let place : HasPlace chain i = has_reached layer long way.rest i way.chain on in
        let k : ℕ = length chain - suc place.0 in
        let e : suc (k + place.0) ≡ length chain = omega (arith, place.1.0) in
        (k, (omega (arith, long_as), turned k place.0 e ∙ place.1.1))

    path_is_line : ((i : ℕ) → Passes (is_on layer) shapes i → Passes is_line shapes i) → IsLine shapes layer path
    path_is_line line = record {
      start = path_start;
      next = path_next;
      within = path_within;
      all = path_all line;
      once = path_once;
    }

  -- each layer of lines has its path
  module _ (cut : ReportsNone (Alone (IsCutOff shapes))) where
    reached : (i : ℕ) → Passes is_line shapes i → IsReached shapes i
    reached i part = affirmed (dec_reached shapes i)
        (λ none. alone_kept (IsCutOff shapes) cut i (record { part = part; not_reached = none }))

    abbrev LacksNone : ℕ → Type 0
    LacksNone layer = (n : ℕ) → LacksOneStart shapes layer n → ⊥

    -- a layer of lines
    abbrev IsLineLayer : ℕ → Type 0
    IsLineLayer layer = (layer ≡ EVEN_LINE) ⊎ (layer ≡ ODD_LINE)

    lacks_none : (layer : ℕ) → IsLineLayer layer → LacksNone layer
    lacks_none layer (inl e) = subst LacksNone (sym e) (alone_kept (LacksOneStart shapes EVEN_LINE) lines.even)
    lacks_none layer (inr e) = subst LacksNone (sym e) (alone_kept (LacksOneStart shapes ODD_LINE) lines.odd)

    on_line : (layer : ℕ) → IsLineLayer layer → (i : ℕ) → Passes (is_on layer) shapes i → Passes is_line shapes i
    on_line layer of i on = record { shape = on.shape; shape_is = on.shape_is; passes_so = part of }
      where
        same : on.shape.layer ≡ layer
        same = eqb-true on.shape.layer layer on.passes_so

        part : IsLineLayer layer → is_line on.shape ≡ true
        part (inl e) = or_left (on.shape.layer == EVEN_LINE) (on.shape.layer == ODD_LINE)
            (eq-eqb on.shape.layer EVEN_LINE (same ∙ e))
        part (inr e) = or_right (on.shape.layer == EVEN_LINE) (on.shape.layer == ODD_LINE)
            (eq-eqb on.shape.layer ODD_LINE (same ∙ e))

    start_of : (layer : ℕ) → LacksNone layer → (i : ℕ) → Passes (is_on layer) shapes i → HasOneStart shapes layer
    start_of layer lacks i on = affirmed (dec_one_start shapes layer) (λ none. lacks first.number (record {
      shape = first.shape;
      shape_is = first.shape_is;
      of_layer = first.of_layer;
      least = first.least;
      not_one = none;
    }))
      where
        first : LeastOn layer shapes
        first = first_on layer shapes i on.shape on.shape_is (eqb-true on.shape.layer layer on.passes_so)

    from_start : (layer : ℕ) → HasOneStart shapes layer → Longest layer
    from_start layer one = grown layer (length shapes) (record {
      chain = one.number ∷ [];
      is = one.start.start;
      onward = tt;
      on = only_place;
    }) (omega arith)
      where
        only_place : (k : ℕ) → k < length (one.number ∷ [])
            → Passes (is_on layer) shapes (slice_index (one.number ∷ []) k)
        only_place zero lt = on_layer shapes layer one.number one.start.start.shape
            one.start.start.shape_is one.start.of_layer
        only_place (suc k) lt = absurd (omega arith)

    pub some_line : (layer : ℕ) → IsLineLayer layer → (path : List ℕ) × IsLine shapes layer path
    some_line layer of = by_shape
        (dec_some (Passes (is_on layer) shapes) (length shapes) (dec_passes (is_on layer) shapes)
        (passes_within (is_on layer) shapes))
      where
        by_shape : Dec ((i : ℕ) × Passes (is_on layer) shapes i) → (path : List ℕ) × IsLine shapes layer path
        by_shape (yes shape) =
            let long : Longest layer = from_start layer (start_of layer (lacks_none layer of) shape.0 shape.1) in
            (path layer long reached, path_is_line layer long reached (on_line layer of))
        by_shape (no none) = (
          [],
          record {
            start = λ lt. absurd (omega arith);
            next = λ k lt. absurd (omega arith);
            within = λ k lt. absurd (omega arith);
            all = λ i on. absurd (none (i, on));
            once = λ j k lt within. absurd (omega arith);
          },
        )

    -- ---- chains run along the path

    chain_layer : (a b : ℕ) (c : Contact shapes a b) → IsLineLayer c.second.layer
    chain_layer a b c = elim (or_cases (c.first.layer == EVEN_LINE) (c.first.layer == ODD_LINE)
        (contact_line shapes lines a b c)) [
          | inl e ↦ inl (sym (contact_layer shapes lines a b c) ∙ eqb-true c.first.layer EVEN_LINE e)
          | inr e ↦ inr (sym (contact_layer shapes lines a b c) ∙ eqb-true c.first.layer ODD_LINE e)
        ]

    -- a chain of several shapes doesn't come back to its start
    not_start : (layer a b : ℕ) → ChainBefore shapes a b → Passes (is_on layer) shapes b → IsPart shapes START b → ⊥
    not_start layer a b before on start =
        let chain : List ℕ = b ∷ a ∷ before.rest in
        let last : ℕ = suc (length before.rest) in
        let first : IsPart shapes START (slice_index (b ∷ a ∷ before.rest) last) = chain_start shapes lines
        (b ∷ a ∷ before.rest) before.chain last (omega arith) in
        let layers : first.shape.layer ≡ before.chain.0.second.layer = start_layer shapes lines
        (b ∷ a ∷ before.rest) before.chain last
        (omega arith) first before.chain.0.second before.chain.0.second_is in
        let also : start.shape.layer ≡ before.chain.0.second.layer = ap (λ (x : Shape). x.layer)
        (same_Some start.shape before.chain.0.second (sym start.shape_is ∙ before.chain.0.second_is)) in
        let same : slice_index (b ∷ a ∷ before.rest) last ≡ b = one_start shapes lines
        (slice_index (b ∷ a ∷ before.rest) last) b first start (layers ∙ sym also) in
        apart shapes lines (b ∷ a ∷ before.rest) before.chain before.onward (length before.rest) 0 last
        (omega arith) (omega arith) (sym same)

    on_its_line : (layer : ℕ) (path : List ℕ) → IsLine shapes layer path → (a b : ℕ) → ChainBefore shapes a b
        → Passes (is_on layer) shapes b → Before shapes a b
    on_its_line layer path line a b before on = at_place (line.all b on)
      where
        at_place : HasPlace path b → Before shapes a b
        at_place (zero, (lt, e)) =
            absurd (not_start layer a b before on (subst (IsPart shapes START) e (line.start lt)))
        at_place (suc k, (lt, e)) =
            let there : ChainBefore shapes (slice_index path k) b = chain_from_path shapes (slice_index path k) b
            (record {
              layer = layer;
              path = path;
              line = line;
              place = k;
              within = lt;
              first_is = refl;
              second_is = e;
            }) in
            record {
              layer = layer;
              path = path;
              line = line;
              place = k;
              within = lt;
              first_is = one_before shapes lines (slice_index path k) a b there before;
              second_is = e;
            }

    -- the shape before another one by a chain is the one before it on its line
    pub path_from_chain : (a b : ℕ) → ChainBefore shapes a b → Before shapes a b
    path_from_chain a b before =
        let contact : Contact shapes a b = before.chain.0 in
        let line : (path : List ℕ) × IsLine shapes contact.second.layer path = some_line contact.second.layer
        (chain_layer a b contact) in
        on_its_line contact.second.layer line.0 line.1 a b before
        (on_layer shapes contact.second.layer b contact.second contact.second_is refl)

  -- ---- two paths of a layer are one

  module _ (layer : ℕ) (path other : List ℕ) (line : IsLine shapes layer path) (also : IsLine shapes layer other) where
    agree : (k : ℕ) → k < length path → k < length other → slice_index path k ≡ slice_index other k
    agree zero lt within = one_start_on layer (slice_index path 0) (slice_index other 0) (line.start lt)
        (also.start within) (line.within 0 lt) (also.within 0 within)
    agree (suc zero) lt within =
        let same : slice_index other 0 ≡ slice_index path 0 = sym (agree zero (omega arith) (omega arith)) in
        start_one shapes lines (slice_index path 0) (slice_index path 1) (slice_index other 1)
        (line.start (omega arith)) (line.next 0 lt)
        (subst (λ (x : ℕ). Contact shapes x (slice_index other 1)) same (also.next 0 within))
    agree (suc (suc k)) lt within =
        let here : slice_index other (suc k) ≡ slice_index path (suc k) =
        sym (agree (suc k) (omega arith) (omega arith)) in
        let before : slice_index path k ≡ slice_index other k = agree k (omega arith) (omega arith) in
        two_contacts shapes lines (slice_index path (suc k)) (slice_index path k) (slice_index path (suc (suc k)))
        (slice_index other (suc (suc k)))
        (Contact-back (line.next k (omega arith))) (line.next (suc k) lt)
        (subst (λ (x : ℕ). Contact shapes x (slice_index other (suc (suc k)))) here (also.next (suc k) within))
        (line.once k (suc (suc k)) (omega arith) lt)
        (λ e. also.once k (suc (suc k)) (omega arith) within (sym before ∙ e))

    not_shorter : length path < length other → ⊥
    not_shorter lt =
        let place : HasPlace path (slice_index other (length path)) = line.all (slice_index other (length path))
        (also.within (length path) lt) in
        also.once place.0 (length path) place.1.0 lt
        (sym (agree place.0 place.1.0 (omega (arith, place.1.0))) ∙ place.1.1)

  same_path : (layer : ℕ) (path other : List ℕ) → IsLine shapes layer path → IsLine shapes layer other → path ≡ other
  same_path layer path other line also = same_number_lists path other
      (elim (cases_order (length path) (length other)) [
        | inl e ↦ e
        | inr ne ↦ elim ne [
          | inl lt ↦ absurd (not_shorter layer path other line also lt)
          | inr gt ↦ absurd (not_shorter layer other path also line gt)
        ]
      ])
      (λ k lt. elim (cases_lt k (length other)) [
        | inl within ↦ agree layer path other line also k lt within
        | inr past ↦ absurd (not_shorter layer other path also line (omega arith))
      ])

  -- each layer of lines has one path
  pub one_path : ReportsNone (Alone (IsCutOff shapes)) → (layer : ℕ) → (layer ≡ EVEN_LINE) ⊎ (layer ≡ ODD_LINE)
      → HasOneLine shapes layer
  one_path cut layer of =
      let some : (path : List ℕ) × IsLine shapes layer path = some_line cut layer of in
      record { path = some.0; line = some.1; only = λ other line. same_path layer other some.0 line some.1 }
