-- Tables of blocks, model by model in the order of calls.
use Rattle.std.proofs.Common.{◌≡◌, ℕ, zero, suc, ◌+◌, ◌<◌, ◌^◌, ◌||◌, true, false, List, [], ◌∷◌, ◌++◌, map, length}
use Rattle.std.proofs.Common.{take, get_or, slice_get, set, reverse, refl, sym, ap, ◌∙◌, subst, arith, inl, inr, Option}
use Rattle.std.proofs.Common.{Some, None, flat_map, replicate, get_or-set_other, get_or-set_same, length-set}
use Rattle.std.specs.Prelude.{nat_eq}
use Rattle.std.specs.List.{AllByRecursion, IsDistinct}
use Rattle.std.specs.Str.{bytes_eq}
use Rattle.std.proofs.lemmas.Bool.{cases_Bool, eqb-true, eqb-false, true≢false}
use Rattle.std.proofs.lemmas.List.{length-replicate}
use Rattle.std.proofs.lemmas.List.Elements.{Contains-get_or}
use Rattle.blif_read.specs.Walk.{on}
use Rattle.blif_read.specs.Walked.{Settled}
use Rattle.blif_read.specs.declared.models.Call.{Call}
use Rattle.blif_read.specs.declared.models.BlifModel.{BlifModel}
use Rattle.blif_flat.specs.Designs.{names_in, model_number, no_model}
use Rattle.blif_flat.specs.DesignFaults.{AreJoined, number_in as listed, callees}
use Rattle.blif_flat.specs.declared.expansion.pieces.Piece.{Piece}
use Rattle.blif_flat.specs.declared.models.outlines.Outline.{Outline}
use Rattle.blif_flat.specs.Code.Calls.{IsCallOrder}
use Rattle.blif_flat.specs.Code.Blocks.{wide, block_names, pieces, AreNarrow, HasBlocks}
use Rattle.blif_flat.specs.Code.Outlines.{IsOutline, HasOutline, IsOutlined, AreOutlined}
use Rattle.blif_flat.proofs.Members.{apart_front}
use Rattle.blif_flat.proofs.JoinedModels.{is_joined}
use Rattle.blif_flat.proofs.Settling.{order_fits, next_done, next_reads, settled_to, all_to, in_order}
use Rattle.blif_flat.proofs.Sizing.{at, callees_at, same_is}
use Rattle.blif_flat.proofs.BlockNames.{width_is}
use Rattle.blif_flat.proofs.KeptNames.{distinct}

-- ---- one entry of a table

get_set_same : {X : Type 0} (xs : List X) (n : ℕ) (v : X) → n < length xs → slice_get (set xs n v) n ≡ Some v
get_set_same [] n v lt = absurd (omega arith)
get_set_same (x ∷ xs) zero v lt = refl
get_set_same (x ∷ xs) (suc n) v lt = get_set_same xs n v (omega arith)

get_set_other : {X : Type 0} (xs : List X) (n q : ℕ) (v : X) → (q ≡ n → ⊥) → slice_get (set xs n v) q ≡ slice_get xs q
get_set_other [] n q v ne = refl
get_set_other (x ∷ xs) zero zero v ne = absurd (ne refl)
get_set_other (x ∷ xs) zero (suc q) v ne = refl
get_set_other (x ∷ xs) (suc n) zero v ne = refl
get_set_other (x ∷ xs) (suc n) (suc q) v ne = get_set_other xs n q v (λ e. ne (ap suc e))

pub has_more : (models : List BlifModel) (done : List ℕ) (blocks : List (List Piece)) (n : ℕ) (block : List Piece)
    → HasBlocks models done blocks → n < length models → block ≡ pieces (wide models) models (at models n)
    → HasBlocks models (n ∷ done) (set blocks n block)
has_more models done blocks n block has lt is = record {
  size = length-set blocks n block ∙ has.size;
  held = λ q e. elim (cases_Bool (nat_eq q n)) [
    | inl same ↦
        let here : q ≡ n = eqb-true q n same in
        let small : n < length blocks = (let s = has.size in omega arith) in
        subst (λ x. get_or (set blocks n block) x [] ≡ pieces (wide models) models (at models x)) (sym here)
        (get_or-set_same blocks n block [] small ∙ is)
    | inr other ↦ get_or-set_other blocks n q block [] (eqb-false q n other)
        ∙ has.held q (subst (λ b. b || on done q ≡ true) other e)
  ];
  others = λ q e. elim (cases_Bool (nat_eq q n)) [
    | inl same ↦ absurd (true≢false (sym (ap (λ b. b || on done q) same) ∙ e))
    | inr other ↦ get_or-set_other blocks n q block [] (eqb-false q n other)
        ∙ has.others q (subst (λ b. b || on done q ≡ false) other e)
  ];
}

abbrev pub Outlined : List BlifModel → List ℕ → List Outline → Type 0
Outlined models done outlines = (n : ℕ) → on done n ≡ true → HasOutline models outlines n

pub outlined_more : (models : List BlifModel) (done : List ℕ) (outlines : List Outline) (n : ℕ) (outline : Outline)
    → Outlined models done outlines → length outlines ≡ length models → n < length models
    → IsOutline models (at models n) outline
    → Outlined models (n ∷ done) (set outlines n outline)
outlined_more models done outlines n outline known size lt is q e = elim (cases_Bool (nat_eq q n)) [
  | inl same ↦
      let here : q ≡ n = eqb-true q n same in
      subst (HasOutline models (set outlines n outline))
      (sym here) record { outline = outline; at = get_set_same outlines n outline (omega arith); is = is }
  | inr other ↦
      let old = known q (subst (λ b. b || on done q ≡ true) other e) in
      record {
        outline = old.outline;
        at = get_set_other outlines n q outline (eqb-false q n other) ∙ old.at;
        is = old.is;
      }
]

outlined_calls : (models : List BlifModel) (done : List ℕ) (outlines : List Outline) → Outlined models done outlines
    → (calls : List Call) → AllByRecursion (λ q. on done q ≡ true)
    (flat_map (λ c. listed (model_number models c.model)) calls) → AreOutlined models outlines calls
outlined_calls models done outlines known [] h = tt
outlined_calls models done outlines known (c ∷ cs) h = one (model_number models c.model) h
    (outlined_calls models done outlines known cs)
  where
    one : (o : Option ℕ) → AllByRecursion (λ q. on done q ≡ true)
        (listed o ++ flat_map (λ c. listed (model_number models c.model)) cs)
        → (AllByRecursion (λ q. on done q ≡ true) (flat_map (λ c. listed (model_number models c.model)) cs)
        → AreOutlined models outlines cs)
        → IsOutlined models outlines o × AreOutlined models outlines cs
    one None h rest = (tt, rest h)
    one (Some q) h rest = (known q h.0, rest h.1)

-- ---- the model that stands at a place of the order

module _ (models : List BlifModel) (order : List ℕ) (i : ℕ) (o : IsCallOrder models order) (lt : i < length order) where
  abbrev here : ℕ
  here = get_or order i 0

  pub small : here < length models
  small = in_order (λ n. n < length models) order i 0 lt o.bounded

  pub calls_outlined : (outlines : List Outline) → Outlined models (reverse (take i order)) outlines
      → AreOutlined models outlines (at models here).calls
  calls_outlined outlines known = outlined_calls models (reverse (take i order)) outlines known (at models here).calls
      (subst (AllByRecursion (λ q. on (reverse (take i order)) q ≡ true)) (callees_at models here)
      (next_reads (callees models) order i 0 lt o.settled))

  pub full_here : wide models (at models here) ≡ length (block_names (wide models) models (at models here))
  full_here =
      let whole = next_done order i 0 lt in
      let s = subst (Settled 0 (callees models)) whole (settled_to (callees models) order (i + 1) o.settled) in
      let b = subst (AllByRecursion (λ n. n < length models)) whole
      (all_to (λ n. n < length models) order (i + 1) o.bounded) in
      let fits = order_fits (callees models) (length models) (here ∷ reverse (take i order)) s b in
      width_is models (here ∷ reverse (take i order)) here s (let same = same_is here in rw same refl) fits

  pub few_names : AreNarrow models (reverse order) → length (block_names (wide models) models (at models here)) < 2 ^ 32
  few_names narrow =
      let few : wide models (at models here) < 2 ^ 32 = in_order
      (λ n. wide models (at models n) < 2 ^ 32) order i 0 lt narrow in
      let full = full_here in
      omega arith

  pub inputs_distinct : AreJoined models → IsDistinct bytes_eq (names_in (at models here).inputs)
  inputs_distinct joined =
      let model = at models here in
      let apart = (is_joined models joined model (Contains-get_or models here no_model small)).apart in
      let outs = map (λ d. d.output) model.defs in
      distinct (names_in model.inputs)
      (apart_front (names_in model.inputs) outs (apart_front (names_in model.inputs ++ outs) _ apart))

  pub blocks_next : (blocks : List (List Piece)) (block : List Piece) → HasBlocks models (reverse (take i order)) blocks
      → block ≡ pieces (wide models) models (at models here)
      → HasBlocks models (reverse (take (i + 1) order)) (set blocks here block)
  blocks_next blocks block has is = subst (λ done. HasBlocks models done (set blocks here block))
      (sym (next_done order i 0 lt)) (has_more models (reverse (take i order)) blocks here block has small is)

  pub outlines_next : (outlines : List Outline) (outline : Outline) → Outlined models (reverse (take i order)) outlines
      → length outlines ≡ length models → IsOutline models (at models here) outline
      → Outlined models (reverse (take (i + 1) order)) (set outlines here outline)
  outlines_next outlines outline known size is = subst (λ done. Outlined models done (set outlines here outline))
      (sym (next_done order i 0 lt))
      (outlined_more models (reverse (take i order)) outlines here outline known size small is)

-- before the first model
pub no_blocks : (models : List BlifModel) (blocks : List (List Piece)) (count : ℕ) → blocks ≡ replicate count []
    → count ≡ length models → HasBlocks models [] blocks
no_blocks models blocks count e c = record {
  size = ap length e ∙ length-replicate count [] ∙ c;
  held = λ n off. absurd (true≢false (sym off));
  others = λ n off. ap (λ bs. get_or bs n []) e ∙ none_at count n;
}
  where
    none_at : (count n : ℕ) → get_or {A = List Piece} (replicate count []) n [] ≡ []
    none_at zero n = refl
    none_at (suc count) zero = refl
    none_at (suc count) (suc n) = none_at count n
