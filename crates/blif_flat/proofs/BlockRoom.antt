-- What a block holds fits in its width, and the first block is as wide as there are wires: so 32 bits hold their
-- numbers.
use Rattle.std.proofs.Common.{◌≡◌, ℕ, zero, suc, ◌+◌, ◌<◌, ◌≤◌, ◌^◌, Bool, true, List, [], ◌∷◌, ◌++◌, map, length}
use Rattle.std.proofs.Common.{reverse, refl, sym, subst, arith, inl, inr, Option, Some, None, flat_map, replicate}
use Rattle.std.proofs.Common.{length-append}
use Rattle.std.specs.Prelude.{slice_index_or, nat_lt, ◌&&◌}
use Rattle.std.specs.List.{AllByRecursion}
use Rattle.std.proofs.lemmas.Bool.{cases_Bool, and_parts, and_from, lt-ltb, ltb-true}
use Rattle.std.proofs.lemmas.List.{length-map, length-replicate}
use Rattle.blif_read.proofs.Within.{all_join}
use Rattle.blif_read.specs.Netlist.{AreParts}
use Rattle.blif_read.specs.Walk.{on}
use Rattle.blif_read.specs.Walked.{IsSetFrom}
use Rattle.blif_read.specs.declared.models.Call.{Call}
use Rattle.blif_read.specs.declared.models.NamedDef.{NamedDef}
use Rattle.blif_read.specs.declared.models.BlifModel.{BlifModel}
use Rattle.blif_flat.specs.Designs.{names_in, model_number, model_at, no_model, called, actual_of, joined_outputs}
use Rattle.blif_flat.specs.DesignFaults.{number_in as listed, callees}
use Rattle.blif_flat.specs.DesignText.{IsLaidOut}
use Rattle.blif_flat.specs.Expansion.{wires, expansion}
use Rattle.blif_flat.specs.declared.expansion.pieces.Piece.{Piece}
use Rattle.blif_flat.specs.declared.expansion.pieces.Piece.TheVariants.{Own, Inner}
use Rattle.blif_flat.specs.Code.Calls.{IsCallOrder}
use Rattle.blif_flat.specs.Code.Blocks.{own_names, call_names, block_names, place, placed, buffer_of, call_pieces}
use Rattle.blif_flat.specs.Code.Blocks.{calls_pieces, pieces, wide, FitsIn, AreNarrow, HasBlocks, HaveRoom}
use Rattle.blif_flat.proofs.Members.{all_weaker}
use Rattle.blif_flat.proofs.SoundModels.{first_is_sound}
use Rattle.blif_flat.proofs.Settling.{order_fits, reads_done}
use Rattle.blif_flat.proofs.Sizing.{at, each_called, callees_at}
use Rattle.blif_flat.proofs.BlockNames.{none_width, width_is, block_wide}
use Rattle.blif_flat.proofs.StraightBlocks.{planned}
use Rattle.blif_flat.proofs.Finishing.{few_wires}
use Rattle.blif_flat.proofs.Assembling.{place_within}

module _ (models : List BlifModel) where
  -- a block is as wide as its model has names for its wires
  abbrev IsFull : BlifModel → Type 0
  IsFull model = length (block_names (wide models) models model) ≡ wide models model

  -- how wide the block of the model of a number is
  abbrev pub wide_at : ℕ → ℕ
  wide_at n = wide models (at models n)

  names_fit : (total : ℕ) (model : BlifModel)
      → length (block_names (wide models) models model) ≤ total → (ts : List (List ℕ))
      → AllByRecursion (λ p. p ≤ total) (map (place (wide models) models model) ts)
  names_fit total model le [] = tt
  names_fit total model le (t ∷ ts) =
      (let low = place_within models model t in omega arith, names_fit total model le ts)

  defs_fit : (total : ℕ) (model : BlifModel)
      → length (block_names (wide models) models model) ≤ total → (defs : List NamedDef)
      → AllByRecursion (FitsIn wide_at total) (map (λ d. Own (placed (place (wide models) models model) d)) defs)
  defs_fit total model le [] = tt
  defs_fit total model le (d ∷ ds) = (names_fit total model le d.inputs, defs_fit total model le ds)

  buffers_fit : (total line : ℕ) (from : List ℕ → ℕ) → ((t : List ℕ) → from t ≤ total) → (ts : List (List ℕ))
      → AllByRecursion (FitsIn wide_at total) (map (λ t. Own (buffer_of line (from t))) ts)
  buffers_fit total line from low [] = tt
  buffers_fit total line from low (t ∷ ts) = ((low t, tt), buffers_fit total line from low ts)

  inner_fits : (total start : ℕ) (o : Option ℕ) → start + wide models (model_at models o) ≤ total
      → AllByRecursion (FitsIn wide_at total) (map (λ n. Inner n start) (listed o))
  inner_fits total start None le = tt
  inner_fits total start (Some n) le = (le, tt)

  call_fits : (total start : ℕ) (model : BlifModel) (call : Call)
      → length (block_names (wide models) models model) ≤ total
      → start + length (call_names (wide models) models call) ≤ total → IsFull (called models call)
      → AllByRecursion (FitsIn wide_at total) (call_pieces (wide models) models model start call)
  call_fits total start model call le room full =
      let within = called models call in
      let ins = map (λ i. Own (buffer_of call.line (place (wide models) models model (actual_of call i))))
      (names_in within.inputs) in
      let middle = map (λ n. Inner n start) (listed (model_number models call.model)) in
      let outs = map (λ o. Own (buffer_of call.line (start + place (wide models) models within o)))
      (joined_outputs models call) in
      let parts = length-append (replicate {A = Option (List ℕ)} (wide models within) None)
      (map (λ o. Some (actual_of call o)) (joined_outputs models call)) in
      let inside = length-replicate {A = Option (List ℕ)} (wide models within) None in
      let ends : start + wide models within ≤ total = omega arith in
      all_join (FitsIn wide_at total) (ins ++ middle) outs
      (all_join (FitsIn wide_at total) ins middle
      (buffers_fit total call.line (λ i. place (wide models) models model (actual_of call i))
      (λ i. let low = place_within models model (actual_of call i) in omega arith) (names_in within.inputs))
      (inner_fits total start (model_number models call.model) ends))
      (buffers_fit total call.line (λ o. start + place (wide models) models within o)
      (λ o. let low = place_within models within o in omega arith) (joined_outputs models call))

  calls_fit : (total start : ℕ) (model : BlifModel) (calls : List Call)
      → length (block_names (wide models) models model) ≤ total
      → start + length (flat_map (call_names (wide models) models) calls) ≤ total
      → AllByRecursion (λ c. IsFull (called models c)) calls
      → AllByRecursion (FitsIn wide_at total) (calls_pieces (wide models) models model start calls)
  calls_fit total start model [] le room full = tt
  calls_fit total start model (c ∷ cs) le room full =
      let behind = start + length (call_names (wide models) models c) in
      let parts = length-append (call_names (wide models) models c) (flat_map (call_names (wide models) models) cs) in
      all_join (FitsIn wide_at total) (call_pieces (wide models) models model start c)
      (calls_pieces (wide models) models model behind cs)
      (call_fits total start model c le (omega arith) full.0) (calls_fit total behind model cs le (omega arith) full.1)

  pieces_fit : (model : BlifModel) → IsFull model → AllByRecursion (λ c. IsFull (called models c)) model.calls
      → AllByRecursion (FitsIn wide_at (wide models model)) (pieces (wide models) models model)
  pieces_fit model full each =
      let total = wide models model in
      let start = length (own_names model) in
      let parts = length-append (map (λ n. Some n) (own_names model))
      (flat_map (call_names (wide models) models) model.calls) in
      let mine = length-map (own_names model) (λ n. Some n) in
      all_join (FitsIn wide_at total) (map (λ d. Own (placed (place (wide models) models model) d)) model.defs)
      (calls_pieces (wide models) models model start model.calls)
      (defs_fit total model (omega arith) model.defs)
      (calls_fit total start model model.calls (omega arith) (omega arith) each)

  called_full : (calls : List Call)
      → AllByRecursion (λ q. IsFull (at models q)) (flat_map (λ c. listed (model_number models c.model)) calls)
      → AllByRecursion (λ c. IsFull (called models c)) calls
  called_full [] h = tt
  called_full (c ∷ cs) h =
      let both = each_called models (λ m. IsFull m) (model_number models c.model)
      (flat_map (λ c. listed (model_number models c.model)) cs) (sym (none_width (length models) models)) h in
      (both.0, called_full cs both.1)

  module _ (order : List ℕ) (o : IsCallOrder models order) where
    full_at : (n : ℕ) → on (reverse order) n ≡ true → IsFull (at models n)
    full_at n e = sym (width_is models (reverse order) n o.settled e
        (order_fits (callees models) (length models) (reverse order) o.settled o.bounded))

    calls_full : (n : ℕ) → on (reverse order) n ≡ true
        → AllByRecursion (λ c. IsFull (called models c)) (at models n).calls
    calls_full n e = called_full (at models n).calls
        (subst (AllByRecursion (λ q. IsFull (at models q))) (callees_at models n)
        (all_weaker (λ q. on (reverse order) q ≡ true) (λ q. IsFull (at models q)) full_at (callees models n)
        (reads_done (callees models) (reverse order) n o.settled e)))

    -- the pieces of a table's blocks fit in them
    blocks_fit : (blocks : List (List Piece)) → HasBlocks models (reverse order) blocks → (n : ℕ)
        → AllByRecursion (FitsIn wide_at (wide_at n)) (slice_index_or blocks n [])
    blocks_fit blocks has n = elim (cases_Bool (on (reverse order) n)) [
      | inl is ↦ subst (AllByRecursion (FitsIn wide_at (wide_at n))) (sym (has.held n is))
          (pieces_fit (at models n) (full_at n is) (calls_full n is))
      | inr off ↦ subst (AllByRecursion (FitsIn wide_at (wide_at n))) (sym (has.others n off)) tt
    ]

    -- ---- the first block

    each_held : (f : BlifModel → List Piece) → f no_model ≡ [] → (ms : List BlifModel) (n : ℕ)
        → slice_index_or (map f ms) n [] ≡ f (slice_index_or ms n no_model)
    each_held f none [] n = sym none
    each_held f none (m ∷ ms) zero = refl
    each_held f none (m ∷ ms) (suc n) = each_held f none ms n

    -- the first model's block has all wires
    pub first_wide : IsLaidOut models → 0 < length models → wide_at 0 ≡ length (wires models)
    first_wide ok some =
        let blocks = map (pieces (wide models) models) models in
        sym (block_wide models (wide models) blocks (none_width (length models) models) (length models) 0
        (first_is_sound models ok some)
        (planned models (reverse order) blocks o.settled o.bounded
        (λ n e. each_held (pieces (wide models) models) refl models n) (length models) 0 o.rooted) 0)

    pub first_few : IsLaidOut models → 0 < length models → AreParts (expansion models) → wide_at 0 < 2 ^ 32
    first_few ok some parts = let wide = first_wide ok some in let few = few_wires models parts in omega arith

module _ (models : List BlifModel) (order : List ℕ) (o : IsCallOrder models order) where
  -- the block of a called model is within its caller's
  calls_narrow : (limit : ℕ) (calls : List Call) → length (flat_map (call_names (wide models) models) calls) < limit
      → AllByRecursion (λ q. wide_at models q < limit) (flat_map (λ c. listed (model_number models c.model)) calls)
  calls_narrow limit [] few = tt
  calls_narrow limit (c ∷ cs) few =
      let parts = length-append (call_names (wide models) models c) (flat_map (call_names (wide models) models) cs) in
      let within = called models c in
      let inner = length-append (replicate {A = Option (List ℕ)} (wide models within) None)
      (map (λ o. Some (actual_of c o)) (joined_outputs models c)) in
      let size = length-replicate {A = Option (List ℕ)} (wide models within) None in
      one (model_number models c.model) (omega arith) (calls_narrow limit cs (omega arith))
    where
      one : (m : Option ℕ) → wide models (model_at models m) < limit
          → AllByRecursion (λ q. wide_at models q < limit) (flat_map (λ c. listed (model_number models c.model)) cs)
          → AllByRecursion (λ q. wide_at models q < limit)
          (listed m ++ flat_map (λ c. listed (model_number models c.model)) cs)
      one None lt rest = rest
      one (Some q) lt rest = (lt, rest)

  callees_narrow : (n : ℕ) → on (reverse order) n ≡ true → wide_at models n < 2 ^ 32
      → AllByRecursion (λ q. wide_at models q < 2 ^ 32) (callees models n)
  callees_narrow n e few =
      let names = map (λ n. Some n) (own_names (at models n)) in
      let parts = length-append names (flat_map (call_names (wide models) models) (at models n).calls) in
      let full : length (block_names (wide models) models (at models n)) ≡ wide_at models n =
      full_at models order o n e in
      subst (AllByRecursion (λ q. wide_at models q < 2 ^ 32)) (sym (callees_at models n))
      (calls_narrow (2 ^ 32) (at models n).calls (omega arith))

  -- the models of the order whose places 32 bits hold
  abbrev is_narrow : ℕ → Bool
  is_narrow n = on (reverse order) n && nat_lt (wide_at models n) (2 ^ 32)

  both_narrow : (xs : List ℕ) → AllByRecursion (λ q. on (reverse order) q ≡ true) xs
      → AllByRecursion (λ q. wide_at models q < 2 ^ 32) xs
      → AllByRecursion (λ q. is_narrow q ≡ true) xs
  both_narrow [] there few = tt
  both_narrow (x ∷ xs) there few = (
    and_from (on (reverse order) x) (nat_lt (wide_at models x) (2 ^ 32)) there.0
        (lt-ltb (wide_at models x) (2 ^ 32) few.0),
    both_narrow xs there.1 few.1,
  )

  narrow_set : wide_at models 0 < 2 ^ 32 → IsSetFrom (callees models) 0 is_narrow
  narrow_set few = record {
    rooted = and_from (on (reverse order) 0) (nat_lt (wide_at models 0) (2 ^ 32)) o.rooted
        (lt-ltb (wide_at models 0) (2 ^ 32) few);
    closed = λ n e.
        (let both = and_parts (on (reverse order) n) (nat_lt (wide_at models n) (2 ^ 32)) e in
        both_narrow (callees models n) (reads_done (callees models) (reverse order) n o.settled both.0)
        (callees_narrow n both.0 (ltb-true (wide_at models n) (2 ^ 32) both.1)));
  }

  -- no model of the order is wider than 32 bits hold, since the first, which leads to each, is not
  pub all_narrow : IsLaidOut models → 0 < length models → AreParts (expansion models) → AreNarrow models (reverse order)
  all_narrow ok some parts = all_weaker (λ n. is_narrow n ≡ true) (λ n. wide_at models n < 2 ^ 32)
      (λ n e. ltb-true (wide_at models n) (2 ^ 32)
      (and_parts (on (reverse order) n) (nat_lt (wide_at models n) (2 ^ 32)) e).1)
      (reverse order) (o.led is_narrow (narrow_set (first_few models order o ok some parts)))

pub have_room : (models : List BlifModel) (order : List ℕ) (blocks : List (List Piece)) → IsLaidOut models
    → 0 < length models → IsCallOrder models order → AreParts (expansion models)
    → HasBlocks models (reverse order) blocks → HaveRoom blocks
have_room models order blocks ok some o parts has = record {
  width = wide_at models;
  fits = blocks_fit models order o blocks has;
  few = first_few models order o ok some parts;
}
