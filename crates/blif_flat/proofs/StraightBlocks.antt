-- Where models stand in an order of their calls, chains of their blocks come to an end.
use Rattle.std.proofs.Common.{◌≡◌, ℕ, zero, suc, ◌+◌, ◌<◌, ◌≤◌, true, List, [], ◌∷◌, ◌++◌, map, length, reverse, refl}
use Rattle.std.proofs.Common.{sym, ap, ◌∙◌, subst, arith, inl, inr, flat_map}
use Rattle.std.specs.Prelude.{slice_index_or}
use Rattle.std.specs.List.{AllByRecursion, sum_by}
use Rattle.std.proofs.lemmas.Bool.{cases_Bool}
use Rattle.std.proofs.lemmas.List.Sums.{sum_by-cons}
use Rattle.blif_read.proofs.Within.{all_join}
use Rattle.blif_read.specs.Walk.{on}
use Rattle.blif_read.specs.Walked.{Settled}
use Rattle.blif_read.specs.declared.netlist.Def.{Def}
use Rattle.blif_read.specs.declared.models.Call.{Call}
use Rattle.blif_read.specs.declared.models.BlifModel.{BlifModel}
use Rattle.blif_flat.specs.Designs.{names_in, model_number, called, actual_of, joined_outputs}
use Rattle.blif_flat.specs.DesignFaults.{number_in as listed, callees}
use Rattle.blif_flat.specs.DesignText.{IsLaidOut}
use Rattle.blif_flat.specs.Expansion.{expansion}
use Rattle.blif_flat.specs.declared.expansion.pieces.Piece.{Piece}
use Rattle.blif_flat.specs.declared.expansion.pieces.Piece.TheVariants.{Own, Inner}
use Rattle.blif_flat.specs.Code.Calls.{IsCallOrder}
use Rattle.blif_flat.specs.Code.Blocks.{own_names, call_names, place, placed, buffer_of, call_pieces, calls_pieces}
use Rattle.blif_flat.specs.Code.Blocks.{pieces, of_piece, laid_out, piece_turns, turns, AreStraight, wide, HasBlocks}
use Rattle.blif_flat.proofs.Members.{all_weaker}
use Rattle.blif_flat.proofs.SoundModels.{first_is_sound}
use Rattle.blif_flat.proofs.Settling.{agrees, order_fits, reads_done}
use Rattle.blif_flat.proofs.Sizing.{at, callees_at}
use Rattle.blif_flat.proofs.BlockNames.{none_width, width_is, ArePlanned}
use Rattle.blif_flat.proofs.LaidBlocks.{definitions_laid}

-- of pieces that are blocks
abbrev Inside : (ℕ → Type 0) → Piece → Type 0
Inside Q (Own def) = Unit {0}
Inside Q (Inner n start) = Q n

owns : {X : Type 0} (Q : ℕ → Type 0) (f : X → Def) (xs : List X) → AllByRecursion (Inside Q) (map (λ x. Own (f x)) xs)
owns Q f [] = tt
owns Q f (x ∷ xs) = (tt, owns Q f xs)

inners : (Q : ℕ → Type 0) (start : ℕ) (ns : List ℕ) → AllByRecursion Q ns
    → AllByRecursion (Inside Q) (map (λ n. Inner n start) ns)
inners Q start [] h = tt
inners Q start (n ∷ ns) h = (h.0, inners Q start ns h.1)

all_parts : (Q : ℕ → Type 0) (xs ys : List ℕ) → AllByRecursion Q (xs ++ ys) → AllByRecursion Q xs × AllByRecursion Q ys
all_parts Q [] ys h = (tt, h)
all_parts Q (x ∷ xs) ys h = let both = all_parts Q xs ys h.1 in ((h.0, both.0), both.1)

-- the blocks in a block are those of the models that its model calls
inside_calls : (Q : ℕ → Type 0) (width : BlifModel → ℕ) (models : List BlifModel) (model : BlifModel)
    (start : ℕ) (calls : List Call)
    → AllByRecursion Q (flat_map (λ c. listed (model_number models c.model)) calls)
    → AllByRecursion (Inside Q) (calls_pieces width models model start calls)
inside_calls Q width models model start [] h = tt
inside_calls Q width models model start (c ∷ cs) h =
    let both = all_parts Q (listed (model_number models c.model))
    (flat_map (λ c. listed (model_number models c.model)) cs) h in
    let ins = map (λ i. Own (buffer_of c.line (place width models model (actual_of c i))))
    (names_in (called models c).inputs) in
    let middle = map (λ n. Inner n start) (listed (model_number models c.model)) in
    let outs = map (λ o. Own (buffer_of c.line (start + place width models (called models c) o)))
    (joined_outputs models c) in
    all_join (Inside Q) (call_pieces width models model start c)
    (calls_pieces width models model (start + length (call_names width models c)) cs)
    (all_join (Inside Q) (ins ++ middle) outs
    (all_join (Inside Q) ins middle
    (owns Q (λ i. buffer_of c.line (place width models model (actual_of c i))) (names_in (called models c).inputs))
    (inners Q start (listed (model_number models c.model)) both.0))
    (owns Q (λ o. buffer_of c.line (start + place width models (called models c) o)) (joined_outputs models c)))
    (inside_calls Q width models model (start + length (call_names width models c)) cs both.1)

inside_pieces : (Q : ℕ → Type 0) (width : BlifModel → ℕ) (models : List BlifModel) (n : ℕ)
    → AllByRecursion Q (callees models n) → AllByRecursion (Inside Q) (pieces width models (at models n))
inside_pieces Q width models n h =
    let model = at models n in
    all_join (Inside Q) (map (λ d. Own (placed (place width models model) d)) model.defs)
    (calls_pieces width models model (length (own_names model)) model.calls)
    (owns Q (placed (place width models model)) model.defs)
    (inside_calls Q width models model (length (own_names model)) model.calls
    (subst (AllByRecursion Q) (callees_at models n) h))

piece_same : (f g : ℕ → ℕ → List Def) (base : ℕ) (p : Piece) → Inside (λ q. (b : ℕ) → f q b ≡ g q b) p
    → of_piece f base p ≡ of_piece g base p
piece_same f g base (Own def) h = refl
piece_same f g base (Inner n start) h = h (base + start)

laid_same : (f g : ℕ → ℕ → List Def) (base : ℕ) (ps : List Piece)
    → AllByRecursion (Inside (λ q. (b : ℕ) → f q b ≡ g q b)) ps
    → flat_map (of_piece f base) ps ≡ flat_map (of_piece g base) ps
laid_same f g base [] h = refl
laid_same f g base (p ∷ ps) h = λ i. piece_same f g base p h.0 i ++ laid_same f g base ps h.1 i

turn_same : (f g : ℕ → ℕ) (p : Piece) → Inside (λ q. f q ≡ g q) p → piece_turns f p ≡ piece_turns g p
turn_same f g (Own def) h = refl
turn_same f g (Inner n start) h = ap (λ k. 1 + k) h

turns_same : (f g : ℕ → ℕ) (ps : List Piece) → AllByRecursion (Inside (λ q. f q ≡ g q)) ps
    → sum_by (piece_turns f) ps ≡ sum_by (piece_turns g) ps
turns_same f g [] h = refl
turns_same f g (p ∷ ps) h = sum_by-cons (piece_turns f) p ps ∙ (λ i. turn_same f g p h.0 i + turns_same f g ps h.1 i)
    ∙ sym (sum_by-cons (piece_turns g) p ps)

module _ (models : List BlifModel) (done : List ℕ) (blocks : List (List Piece))
    (settled : Settled 0 (callees models) done) (bounded : AllByRecursion (λ n. n < length models) done)
    (has : HasBlocks models done blocks) where
  fits : length done ≤ length models
  fits = order_fits (callees models) (length models) done settled bounded

  -- what holds of the models that a model calls holds of the blocks in its block
  inside_block : (Q : ℕ → Type 0) (n : ℕ) → AllByRecursion Q (callees models n)
      → AllByRecursion (Inside Q) (slice_index_or blocks n [])
  inside_block Q n h = elim (cases_Bool (on done n)) [
    | inl is ↦ subst (AllByRecursion (Inside Q)) (sym (has.held n is)) (inside_pieces Q (wide models) models n h)
    | inr off ↦ subst (AllByRecursion (Inside Q)) (sym (has.others n off)) tt
  ]

  Laid : ℕ → ℕ → ℕ → Type 0
  Laid j k n = (base : ℕ) → laid_out blocks j n base ≡ laid_out blocks k n base

  laid_step : (j k n : ℕ) → AllByRecursion (Laid j k) (callees models n) → Laid (suc j) (suc k) n
  unfolding Laid
  laid_step j k n h base = laid_same (laid_out blocks j) (laid_out blocks k) base (slice_index_or blocks n [])
      (inside_block (λ q. (b : ℕ) → laid_out blocks j q b ≡ laid_out blocks k q b) n h)

  Turned : ℕ → ℕ → ℕ → Type 0
  Turned j k n = turns blocks j n ≡ turns blocks k n

  turned_step : (j k n : ℕ) → AllByRecursion (Turned j k) (callees models n) → Turned (suc j) (suc k) n
  unfolding Turned
  turned_step j k n h = ap (λ s. 1 + s)
      (turns_same (turns blocks j) (turns blocks k) (slice_index_or blocks n [])
      (inside_block (λ q. turns blocks j q ≡ turns blocks k q) n h))

  steady_laid : (n : ℕ) → on done n ≡ true → (base : ℕ)
      → laid_out blocks (suc (length models)) n base ≡ laid_out blocks (length models) n base
  unfolding Laid
  steady_laid n e base = agrees (callees models) Laid laid_step done settled n e (suc (length models)) (length models)
      (omega (arith, fits)) fits base

  steady_turns : (n : ℕ) → on done n ≡ true → turns blocks (suc (length models)) n ≡ turns blocks (length models) n
  unfolding Turned
  steady_turns n e = agrees (callees models) Turned turned_step done settled n e (suc (length models)) (length models)
      (omega (arith, fits)) fits

  -- a model that is not in the order has no block
  bare_laid : (steps n base : ℕ) → slice_index_or blocks n [] ≡ [] → 0 < steps
      → laid_out blocks steps n base ≡ flat_map (of_piece (laid_out blocks steps) base) (slice_index_or blocks n [])
  bare_laid zero n base e some = absurd (omega arith)
  bare_laid (suc steps) n base e some = ap (flat_map (of_piece (laid_out blocks steps) base)) e
      ∙ sym (ap (flat_map (of_piece (laid_out blocks (suc steps)) base)) e)

  bare_turns : (steps n : ℕ) → slice_index_or blocks n [] ≡ [] → 0 < steps
      → turns blocks steps n ≡ 1 + sum_by (piece_turns (turns blocks steps)) (slice_index_or blocks n [])
  bare_turns zero n e some = absurd (omega arith)
  bare_turns (suc steps) n e some = ap (λ ps. 1 + sum_by (piece_turns (turns blocks steps)) ps) e
      ∙ sym (ap (λ ps. 1 + sum_by (piece_turns (turns blocks (suc steps))) ps) e)

  straight_models : 0 < length models → (m : ℕ) → m ≡ length models → (n base : ℕ)
      → laid_out blocks m n base ≡ flat_map (of_piece (laid_out blocks m) base) (slice_index_or blocks n [])
  straight_models some m e n base = elim (cases_Bool (on done n)) [
    | inl is ↦ subst (λ k. laid_out blocks k n base ≡ flat_map (of_piece (laid_out blocks k) base)
        (slice_index_or blocks n [])) (sym e) (sym (steady_laid n is base))
    | inr off ↦ bare_laid m n base (has.others n off) (omega arith)
  ]

  straight_turns : 0 < length models → (m : ℕ) → m ≡ length models → (n : ℕ)
      → turns blocks m n ≡ 1 + sum_by (piece_turns (turns blocks m)) (slice_index_or blocks n [])
  straight_turns some m e n = elim (cases_Bool (on done n)) [
    | inl is ↦ subst (λ k. turns blocks k n ≡ 1 + sum_by (piece_turns (turns blocks k)) (slice_index_or blocks n []))
        (sym e) (sym (steady_turns n is))
    | inr off ↦ bare_turns m n (has.others n off) (omega arith)
  ]

  pub straight : 0 < length models → AreStraight blocks
  straight some = record {
    laid = straight_models some (length blocks) has.size;
    ends = straight_turns some (length blocks) has.size;
  }

-- blocks that a table has for the models of an order are planned
pub planned : (models : List BlifModel) (done : List ℕ) (blocks : List (List Piece)) → Settled 0 (callees models) done
    → AllByRecursion (λ n. n < length models) done
    → ((n : ℕ) → on done n ≡ true → slice_index_or blocks n [] ≡ pieces (wide models) models (at models n))
    → (steps n : ℕ) → on done n ≡ true → ArePlanned models (wide models) blocks steps n
planned models done blocks settled bounded held zero n e = tt
planned models done blocks settled bounded held (suc steps) n e = (
  record {
    wide = width_is models done n settled e (order_fits (callees models) (length models) done settled bounded);
    held = held n e;
  },
  subst (AllByRecursion (ArePlanned models (wide models) blocks steps)) (callees_at models n)
      (all_weaker (λ q. on done q ≡ true) (ArePlanned models (wide models) blocks steps)
      (planned models done blocks settled bounded held steps) (callees models n)
      (reads_done (callees models) done n settled e)),
)

-- a design's definitions, by its table of blocks
pub design_laid : (models : List BlifModel) (order : List ℕ) (blocks : List (List Piece)) → IsLaidOut models
    → 0 < length models → IsCallOrder models order → HasBlocks models (reverse order) blocks
    → laid_out blocks (length blocks) 0 0 ≡ (expansion models).defs
design_laid models order blocks ok some o has =
    ap (λ n. laid_out blocks n 0 0) has.size
    ∙ sym (definitions_laid models (wide models) blocks (none_width (length models) models)
    (first_is_sound models ok some)
    (planned models (reverse order) blocks o.settled o.bounded has.held (length models) 0 o.rooted))
