-- The wires of a block, as the names that its model has for them: so wide it is, and so places are found by names.
use Rattle.std.proofs.Common.{◌≡◌, ℕ, zero, suc, ◌+◌, ◌<◌, ◌≤◌, Bool, true, false, not, cond, ◌&&◌, List, [], ◌∷◌, ◌++◌}
use Rattle.std.proofs.Common.{map, length, refl, sym, ap, ◌∙◌, subst, arith, inl, inr, Option, Some, None, flat_map}
use Rattle.std.proofs.Common.{replicate}
use Rattle.std.specs.Prelude.{nat_eq, slice_index_or, ◌==◌}
use Rattle.std.specs.List.{AllByRecursion, position_or_len}
use Rattle.std.specs.Str.{bytes_eq}
use Rattle.std.proofs.lemmas.Bool.{cases_Bool, eqb-true}
use Rattle.std.proofs.lemmas.List.{map-append, length-map}
use Rattle.blif_read.specs.Walk.{on}
use Rattle.blif_read.specs.Walked.{Settled}
use Rattle.blif_read.specs.declared.models.Call.{Call}
use Rattle.blif_read.specs.declared.models.BlifModel.{BlifModel}
use Rattle.blif_flat.specs.Designs.{model_number, no_model, model_at, called, actual_of, joined_outputs}
use Rattle.blif_flat.specs.DesignFaults.{number_in as listed, callees}
use Rattle.blif_flat.specs.Expansion.{Wire, wire, same_wire, WireDef, expanded, expanded_call, expanded_calls}
use Rattle.blif_flat.specs.Expansion.{calls_within, number}
use Rattle.blif_flat.specs.declared.expansion.pieces.Piece.{Piece}
use Rattle.blif_flat.specs.Code.Blocks.{is_that, own_names, call_names, block_names, block_width, place, pieces}
use Rattle.blif_flat.proofs.Members.{Among, all_weaker, map_map, same_bytes}
use Rattle.blif_flat.proofs.JoinedModels.{driven_names}
use Rattle.blif_flat.proofs.SoundModels.{IsSound}
use Rattle.blif_flat.proofs.Blocks.{defined_in, block, driven_is_there}
use Rattle.blif_flat.proofs.DistinctWires.{IsFrom, is_block, call_defines, block_parts, actual_wires}
use Rattle.blif_flat.proofs.Settling.{agrees}
use Rattle.blif_flat.proofs.Sizing.{at, each_called, callees_at, same_is}

-- ---- widths

call_names_same : (f g : BlifModel → ℕ) (models : List BlifModel) (calls : List Call) → f no_model ≡ g no_model
    → AllByRecursion (λ q. f (at models q) ≡ g (at models q))
    (flat_map (λ c. listed (model_number models c.model)) calls)
    → flat_map (call_names f models) calls ≡ flat_map (call_names g models) calls
call_names_same f g models [] n h = refl
call_names_same f g models (c ∷ cs) n h =
    let both = each_called models (λ m. f m ≡ g m) (model_number models c.model)
    (flat_map (λ c. listed (model_number models c.model)) cs) n h in
    let rest : flat_map (call_names f models) cs ≡ flat_map (call_names g models) cs =
    call_names_same f g models cs n both.1 in
    let same : f (called models c) ≡ g (called models c) = both.0 in
    (λ i. (replicate (same i) None ++ map (λ o. Some (actual_of c o)) (joined_outputs models c)) ++ rest i)

pub none_width : (steps : ℕ) (models : List BlifModel) → block_width steps models no_model ≡ 0
none_width zero models = refl
none_width (suc steps) models = refl

Agree : List BlifModel → ℕ → ℕ → ℕ → Type 0
Agree models j k n = block_width j models (at models n) ≡ block_width k models (at models n)

one_step : (models : List BlifModel) (j k n : ℕ) → AllByRecursion (Agree models j k) (callees models n)
    → Agree models (suc j) (suc k) n
unfolding Agree
one_step models j k n h = ap (λ back. length (map (λ t. Some t) (own_names (at models n)) ++ back))
    (call_names_same (block_width j models) (block_width k models) models (at models n).calls (none_width j models
    ∙ sym (none_width k models))
    (subst (AllByRecursion (λ q. block_width j models (at models q) ≡ block_width k models (at models q)))
    (callees_at models n) h))

-- the width of a model in an order of calls is that of its names
pub width_is : (models : List BlifModel) (done : List ℕ) (n : ℕ) → Settled 0 (callees models) done → on done n ≡ true
    → length done ≤ length models
    → block_width (length models) models (at models n) ≡ length
    (block_names (block_width (length models) models) models (at models n))
unfolding Agree
width_is models done n s e le =
    sym (agrees (callees models) (Agree models) (one_step models) done s n e (suc (length models))
    (length models) (omega arith) le)

-- ---- what a table has planned

-- the model of a number is so wide, and its block has these pieces
pub record IsPlanned (models : List BlifModel) (width : BlifModel → ℕ)
    (blocks : List (List Piece)) (n : ℕ) : Type 0 where
  pub wide : width (at models n) ≡ length (block_names width models (at models n))
  pub held : slice_index_or blocks n [] ≡ pieces width models (at models n)

-- and so for the models that it calls, down chains of so many steps
abbrev pub ArePlanned : List BlifModel → (BlifModel → ℕ) → List (List Piece) → ℕ → ℕ → Type 0
ArePlanned models width blocks zero n = Unit {0}
ArePlanned models width blocks (suc steps) n = IsPlanned models width blocks n
    × AllByRecursion (ArePlanned models width blocks steps)
    (flat_map (λ c. listed (model_number models c.model)) (at models n).calls)

-- ---- wires as names

abbrev pub shown : ℕ → Wire → Option (List ℕ)
shown k w = cond (k == w.call) (Some w.name) None

own_shown : (k : ℕ) (names : List (List ℕ)) → map (shown k) (map (wire k) names) ≡ map (λ n. Some n) names
own_shown k [] = refl
own_shown k (n ∷ ns) = λ i. cond (same_is k i) (Some n) None ∷ own_shown k ns i

hidden : (k n : ℕ) → k < n → (ws : List Wire) → AllByRecursion (λ w. n ≤ w.call) ws
    → map (shown k) ws ≡ replicate (length ws) None
hidden k n lt [] h = refl
hidden k n lt (w ∷ ws) h =
    let off : nat_eq k w.call ≡ false =
    elim (cases_Bool (nat_eq k w.call)) [
      | inl same ↦ absurd
          (let e = eqb-true k w.call same in let le = h.0 in omega arith)
      | inr other ↦ other
    ] in
    (λ i. cond (off i) (Some w.name) None ∷ hidden k n lt ws h.1 i)

actuals_shown : (models : List BlifModel) (k : ℕ) (call : Call)
    → map (shown k) (actual_wires models k call) ≡ map (λ o. Some (actual_of call o)) (joined_outputs models call)
actuals_shown models k call =
    map_map (shown k) (λ o. wire k (actual_of call o)) (joined_outputs models call)
    ∙ (λ i. map (λ o. cond (same_is k i) (Some (actual_of call o)) None) (joined_outputs models call))

module _ (models : List BlifModel) (width : BlifModel → ℕ) (blocks : List (List Piece))
    (none : width no_model ≡ 0) where
  -- a called model is as wide as its block
  abbrev IsWide : ℕ → BlifModel → Type 0
  IsWide steps model = (m : ℕ) → length (block steps models m model) ≡ width model

  calls_shown : (steps k n : ℕ) (calls : List Call) → k < n
      → AllByRecursion (λ c. IsSound steps models (called models c)) calls
      → AllByRecursion (λ c. IsWide steps (called models c)) calls
      → map (shown k) (defined_in (expanded_calls steps models (expanded steps models) k n calls)) ≡ flat_map
      (call_names width models) calls
  calls_shown steps k n [] lt sound wide = refl
  calls_shown steps k n (c ∷ cs) lt sound wide =
      let next = n + 1 + calls_within steps models (called models c) in
      let here = expanded_call models (expanded steps models) k n c in
      let rest = expanded_calls steps models (expanded steps models) k next cs in
      let inner = block steps models n (called models c) in
      let low = all_weaker (IsFrom n next) (λ w. n ≤ w.call) (λ w f. f.above) inner
      (is_block models steps n (called models c) sound.0).lie in
      let first : map (shown k) inner ≡ replicate (width (called models c)) None = hidden k n lt inner low
      ∙ ap (λ m. replicate m None) (wide.0 n) in
      ap (map (shown k)) (map-append (λ (d : WireDef). d.output) here rest
      ∙ ap (λ front. front ++ defined_in rest) (call_defines models steps k n c))
      ∙ map-append (shown k) (inner ++ actual_wires models k c) (defined_in rest)
      ∙ ap (λ front. front ++ map (shown k) (defined_in rest)) (map-append (shown k) inner (actual_wires models k c)
      ∙ (λ i. first i ++ actuals_shown models k c i))
      ∙ ap (λ back. call_names width models c ++ back) (calls_shown steps k next cs (omega arith) sound.1 wide.1)

  none_wide : (steps : ℕ) → IsSound steps models no_model → IsWide steps no_model
  none_wide zero ok = absurd ok
  none_wide (suc steps) ok = λ m. sym none

  wide_calls : (steps : ℕ) (calls : List Call)
      → ((q : ℕ) → IsSound steps models (at models q) → ArePlanned models width blocks steps q
      → IsWide steps (at models q))
      → AllByRecursion (λ c. IsSound steps models (called models c)) calls
      → AllByRecursion (ArePlanned models width blocks steps)
      (flat_map (λ c. listed (model_number models c.model)) calls)
      → AllByRecursion (λ c. IsWide steps (called models c)) calls
  wide_calls steps [] inner sound planned = tt
  wide_calls steps (c ∷ cs) inner sound planned = one (model_number models c.model) sound.0 planned
      (wide_calls steps cs inner sound.1)
    where
      one : (o : Option ℕ) → IsSound steps models (model_at models o)
          → AllByRecursion (ArePlanned models width blocks steps)
          (listed o ++ flat_map (λ c. listed (model_number models c.model)) cs)
          → (AllByRecursion (ArePlanned models width blocks steps)
          (flat_map (λ c. listed (model_number models c.model)) cs)
          → AllByRecursion (λ c. IsWide steps (called models c)) cs)
          → IsWide steps (model_at models o) × AllByRecursion (λ c. IsWide steps (called models c)) cs
      one None ok h rest = (none_wide steps ok, rest h)
      one (Some q) ok h rest = (inner q ok h.0, rest h.1)

  wide_from : (steps n : ℕ) → IsSound steps models (at models n) → ArePlanned models width blocks steps n
      → ((k : ℕ) → map (shown k) (block steps models k (at models n)) ≡ block_names width models (at models n))
      → IsWide steps (at models n)
  wide_from zero n ok planned names = absurd ok
  wide_from (suc steps) n ok planned names =
      λ m. sym (length-map (block (suc steps) models m (at models n)) (shown m))
      ∙ ap length (names m) ∙ sym planned.0.wide

  -- the wires of a block are what its model has names for
  pub block_shown : (steps n : ℕ) → IsSound steps models (at models n) → ArePlanned models width blocks steps n
      → (k : ℕ) → map (shown k) (block steps models k (at models n)) ≡ block_names width models (at models n)
  block_shown zero n ok planned k = absurd ok
  block_shown (suc steps) n ok planned k =
      let model = at models n in
      let wides = wide_calls steps model.calls
      (λ q sound held. wide_from steps q sound held (block_shown steps q sound held)) ok.1 planned.1 in
      ap (map (shown k)) (block_parts models steps k model)
      ∙ map-append (shown k) (map (wire k) (own_names model))
      (defined_in (expanded_calls steps models (expanded steps models) k (k + 1) model.calls))
      ∙ (λ i. own_shown k (own_names model) i ++ calls_shown steps k (k + 1) model.calls (omega arith) ok.1 wides i)

  pub block_wide : (steps n : ℕ) → IsSound steps models (at models n) → ArePlanned models width blocks steps n
      → IsWide steps (at models n)
  block_wide steps n ok planned = wide_from steps n ok planned (block_shown steps n ok planned)

  -- ---- places

  skipped : (p : Wire → Bool) (pre rest : List Wire) → AllByRecursion (λ w. p w ≡ false) pre
      → position_or_len p (pre ++ rest) ≡ length pre + position_or_len p rest
  skipped p [] rest h = let z : position_or_len p rest ≡ 0 + position_or_len p rest = omega arith in z
  skipped p (w ∷ pre) rest h =
      let one : 1 + (length pre + position_or_len p rest) ≡ suc (length pre) + position_or_len p rest = omega arith in
      (λ i. cond (not (h.0 i)) (1 + skipped p pre rest h.1 i) 0) ∙ one

  stopped : (p : Wire → Bool) (xs ys : List Wire) (w : Wire) → Among w xs → p w ≡ true
      → position_or_len p (xs ++ ys) ≡ position_or_len p xs
  stopped p [] ys w h e = absurd h
  stopped p (x ∷ xs) ys w (inl same) e = let on : p x ≡ true = ap p same
      ∙ e in (λ i. cond (not (on i)) (1 + position_or_len p (xs ++ ys)) 0)
      ∙ sym (λ i. cond (not (on i)) (1 + position_or_len p xs) 0)
  stopped p (x ∷ xs) ys w (inr there) e = λ i. cond (not (p x)) (1 + stopped p xs ys w there e i) 0

  test_shown : (t : List ℕ) (b : Bool) (name : List ℕ) → b && bytes_eq t name ≡ is_that t (cond b (Some name) None)
  test_shown t true name = refl
  test_shown t false name = refl

  place_shown : (k : ℕ) (t : List ℕ) (ws : List Wire)
      → position_or_len (same_wire (wire k t)) ws ≡ position_or_len (is_that t) (map (shown k) ws)
  place_shown k t [] = refl
  place_shown k t (w ∷ ws) = λ i. cond (not (test_shown t (k == w.call) w.name i)) (1 + place_shown k t ws i) 0

  is_itself : (k : ℕ) (t : List ℕ) → same_wire (wire k t) (wire k t) ≡ true
  is_itself k t = (λ i. same_is k i && same_bytes t t refl i)

  off_before : (k : ℕ) (t : List ℕ) (w : Wire) → w.call < k → same_wire (wire k t) w ≡ false
  off_before k t w lt =
      let off : nat_eq k w.call ≡ false =
      elim (cases_Bool (nat_eq k w.call)) [
        | inl same ↦ absurd
            (let e = eqb-true k w.call same in omega arith)
        | inr other ↦ other
      ] in
      ap (λ b. b && bytes_eq t w.name) off

  -- the number of a wire of a block that starts at a base, where wires before it are of lower calls
  pub number_in_block : (steps n : ℕ) → IsSound steps models (at models n) → ArePlanned models width blocks steps n
      → (all pre post : List Wire) (k base : ℕ) (t : List ℕ) → all ≡ pre ++ (block steps models k (at models n) ++ post)
      → length pre ≡ base → AllByRecursion (λ w. w.call < k) pre
      → Among t (driven_names models (at models n)) → number all (wire k t) ≡ base + place width models (at models n) t
  number_in_block steps n ok planned all pre post k base t e size low among =
      let own = block steps models k (at models n) in
      let p = same_wire (wire k t) in
      ap (position_or_len p) e
      ∙ skipped p pre (own ++ post) (all_weaker (λ w. w.call < k) (λ w. p w ≡ false) (off_before k t) pre low)
      ∙ (λ i. size i + stopped p own post (wire k t)
      (driven_is_there models steps k (at models n) ok t among) (is_itself k t) i)
      ∙ ap (λ x. base + x) (place_shown k t own ∙ ap (position_or_len (is_that t)) (block_shown steps n ok planned k))
