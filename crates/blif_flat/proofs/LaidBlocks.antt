-- Blocks laid out are the expanded models, with numbers in place of wires.
use Rattle.std.proofs.Common.{◌≡◌, ℕ, zero, suc, ◌+◌, ◌<◌, Bool, true, List, [], ◌∷◌, ◌++◌, codes, map, length, refl}
use Rattle.std.proofs.Common.{sym, ap, ◌∙◌, arith, Option, Some, None, flat_map, replicate, append_assoc, length-append}
use Rattle.std.specs.List.{AllByRecursion}
use Rattle.std.proofs.lemmas.List.{map-append, length-map, length-replicate, append-nil}
use Rattle.std.proofs.lemmas.List.Concat.{flat_map-append}
use Rattle.blif_read.proofs.Within.{all_join}
use Rattle.blif_read.specs.declared.netlist.Def.{Def}
use Rattle.blif_read.specs.declared.netlist.Cube.{Cube}
use Rattle.blif_read.specs.declared.models.Call.{Call}
use Rattle.blif_read.specs.declared.models.NamedDef.{NamedDef}
use Rattle.blif_read.specs.declared.models.BlifModel.{BlifModel}
use Rattle.blif_flat.specs.Designs.{names_in, model_number, no_model, model_at, called, actual_of, joined_outputs}
use Rattle.blif_flat.specs.Designs.{first_model}
use Rattle.blif_flat.specs.DesignFaults.{number_in as listed}
use Rattle.blif_flat.specs.Expansion.{Wire, wire, WireDef, own, buffer, expanded, expanded_call, expanded_calls}
use Rattle.blif_flat.specs.Expansion.{calls_within, number, numbered, wires, expansion}
use Rattle.blif_flat.specs.declared.expansion.pieces.Piece.{Piece}
use Rattle.blif_flat.specs.declared.expansion.pieces.Piece.TheVariants.{Own, Inner}
use Rattle.blif_flat.specs.Code.Blocks.{own_names, call_names, place, placed, buffer_of, call_pieces, calls_pieces}
use Rattle.blif_flat.specs.Code.Blocks.{of_piece, laid_out}
use Rattle.blif_flat.proofs.Members.{Among, all_weaker, all_from, at_among}
use Rattle.blif_flat.proofs.JoinedModels.{driven_names, IsJoinedCall, joined_is_output}
use Rattle.blif_flat.proofs.SoundModels.{IsSound}
use Rattle.blif_flat.proofs.Blocks.{defined_in, block}
use Rattle.blif_flat.proofs.DistinctWires.{IsFrom, is_block, call_defines, block_parts, actual_wires}
use Rattle.blif_flat.proofs.Sizing.{at}
use Rattle.blif_flat.proofs.BlockNames.{ArePlanned, block_wide, number_in_block}

abbrev def_of : ℕ → List ℕ → Bool → List Cube → Def
def_of line inputs on cubes = record { line = line; inputs = inputs; on = on; cubes = cubes }

-- the wires of a call and of what follows
call_wires : (models : List BlifModel) (steps k n : ℕ) (call : Call) (rest : List WireDef)
    → defined_in (expanded_call models (expanded steps models) k n call ++ rest)
    ≡ block steps models n (called models call) ++ (actual_wires models k call ++ defined_in rest)
call_wires models steps k n call rest =
    map-append (λ (d : WireDef). d.output) (expanded_call models (expanded steps models) k n call) rest
    ∙ ap (λ front. front ++ defined_in rest) (call_defines models steps k n call)
    ∙ append_assoc (block steps models n (called models call)) (actual_wires models k call) (defined_in rest)

module _ (models : List BlifModel) (width : BlifModel → ℕ) (blocks : List (List Piece))
    (none : width no_model ≡ 0) (all : List Wire) where
  -- where a model's names stand, in a block that starts at a base
  abbrev Stand : ℕ → ℕ → BlifModel → Type 0
  Stand k base model = (t : List ℕ) → Among t (driven_names models model)
      → number all (wire k t) ≡ base + place width models model t

  -- ---- a model's own definitions

  inputs_moved : (k base : ℕ) (model : BlifModel) → Stand k base model → (names : List (List ℕ))
      → AllByRecursion (λ s. Among s (driven_names models model)) names
      → map (number all) (map (wire k) names) ≡ map (λ p. base + p) (map (place width models model) names)
  inputs_moved k base model stand [] h = refl
  inputs_moved k base model stand (s ∷ ss) h = λ i. stand s h.0 i ∷ inputs_moved k base model stand ss h.1 i

  owned_laid : (of : ℕ → ℕ → List Def) (k base : ℕ) (model : BlifModel) → Stand k base model → (defs : List NamedDef)
      → AllByRecursion (λ d. AllByRecursion (λ s. Among s (driven_names models model)) d.inputs) defs
      → map (numbered all) (map (own k) defs) ≡ flat_map (of_piece of base)
      (map (λ d. Own (placed (place width models model) d)) defs)
  owned_laid of k base model stand [] h = refl
  owned_laid of k base model stand (d ∷ ds) h =
      λ i. def_of d.line (inputs_moved k base model stand d.inputs h.0 i) d.on d.cubes ∷ owned_laid of k
      base model stand ds h.1 i

  -- ---- buffers

  inputs_laid : (of : ℕ → ℕ → List Def) (k n base : ℕ) (model : BlifModel) (call : Call) → Stand k base model
      → (names : List (List ℕ))
      → AllByRecursion (λ i. Among (actual_of call i) (driven_names models model)) names
      → map (numbered all) (map (λ i. buffer call.line (wire k (actual_of call i)) (wire n i)) names)
      ≡ flat_map (of_piece of base)
      (map (λ i. Own (buffer_of call.line (place width models model (actual_of call i)))) names)
  inputs_laid of k n base model call stand [] h = refl
  inputs_laid of k n base model call stand (s ∷ ss) h =
      λ i. def_of call.line (stand (actual_of call s) h.0 i ∷ []) true
      (record { plane = codes "1" } ∷ []) ∷ inputs_laid of k n base model call stand ss h.1 i

  outputs_laid : (of : ℕ → ℕ → List Def) (k n base start : ℕ) (model : BlifModel) (call : Call)
      → Stand n (base + start) model → (names : List (List ℕ))
      → AllByRecursion (λ o. Among o (driven_names models model)) names
      → map (numbered all) (map (λ o. buffer call.line (wire n o) (wire k (actual_of call o))) names)
      ≡ flat_map (of_piece of base) (map (λ o. Own (buffer_of call.line (start + place width models model o))) names)
  outputs_laid of k n base start model call stand [] h = refl
  outputs_laid of k n base start model call stand (s ∷ ss) h =
      let here : number all (wire n s) ≡ base + (start + place width models model s) = stand s h.0
      ∙ (let a : base + start + place width models model s ≡ base + (start + place width models model s) =
      omega arith in a) in
      λ i. def_of call.line (here i ∷ []) true (record { plane = codes "1" } ∷ []) ∷ outputs_laid of k n base start
      model call stand ss h.1 i

  -- ---- called models

  -- where the block of a model stands among all wires
  pub record Stands (steps k base : ℕ) (model : BlifModel) : Type 0 where
    pub pre : List Wire
    pub post : List Wire
    pub whole : all ≡ pre ++ (block steps models k model ++ post)
    pub from : length pre ≡ base
    pub low : AllByRecursion (λ w. w.call < k) pre

  -- what is known of a called model of some number
  record IsLaid (steps : ℕ) (o : Option ℕ) : Type 0 where
    wide : (m : ℕ) → length (block steps models m (model_at models o)) ≡ width (model_at models o)
    stand : (m base : ℕ) → Stands steps m base (model_at models o) → Stand m base (model_at models o)
    laid : (m base start : ℕ) → Stands steps m (base + start) (model_at models o)
        → map (numbered all) (expanded steps models m (model_at models o)) ≡ flat_map
        (of_piece (laid_out blocks steps) base) (map (λ q. Inner q start) (listed o))

  none_laid : (steps : ℕ) → IsSound steps models no_model → IsLaid steps None
  none_laid zero ok = absurd ok
  none_laid (suc steps) ok =
      record { wide = λ m. sym none; stand = λ m base s t h. absurd h; laid = λ m base start s. refl }

  outputs_driven : (steps : ℕ) (model : BlifModel) → IsSound steps models model
      → AllByRecursion (λ o. Among o (driven_names models model)) (names_in model.outputs)
  outputs_driven zero model ok = absurd ok
  outputs_driven (suc steps) model ok = ok.0.outputs

  -- ---- calls of call k, whose model stands at a base

  module _ (steps k base : ℕ) (model : BlifModel) (stand : Stand k base model) where
    call_laid : (n start : ℕ) (call : Call) → IsJoinedCall models (driven_names models model) call
        → IsSound steps models (called models call)
        → IsLaid steps (model_number models call.model) → Stands steps n (base + start) (called models call)
        → map (numbered all) (expanded_call models (expanded steps models) k n call) ≡ flat_map
        (of_piece (laid_out blocks steps) base) (call_pieces width models model start call)
    call_laid n start call joined sound inner stands =
        let of = laid_out blocks steps in
        let ins = map (λ i. buffer call.line (wire k (actual_of call i)) (wire n i))
        (names_in (called models call).inputs) in
        let body = expanded steps models n (called models call) in
        let outs = map (λ o. buffer call.line (wire n o) (wire k (actual_of call o))) (joined_outputs models call) in
        let in_pieces = map (λ i. Own (buffer_of call.line (place width models model (actual_of call i))))
        (names_in (called models call).inputs) in
        let inner_pieces = map (λ q. Inner q start) (listed (model_number models call.model)) in
        let out_pieces = map (λ o. Own (buffer_of call.line (start + place width models (called models call) o)))
        (joined_outputs models call) in
        let driven = all_from (λ o. Among o (driven_names models (called models call))) (joined_outputs models call)
        (λ o h. at_among (λ s. Among s (driven_names models (called models call)))
        (names_in (called models call).outputs) o (outputs_driven steps (called models call) sound)
        (joined_is_output models call joined.apart o h)) in
        let first = inputs_laid of k n base model call stand (names_in (called models call).inputs) joined.given in
        let middle = inner.laid n base start stands in
        let last = outputs_laid of k n base start (called models call) call (inner.stand n (base + start) stands)
        (joined_outputs models call) driven in
        map-append (numbered all) (ins ++ body) outs
        ∙ ap (λ front. front ++ map (numbered all) outs) (map-append (numbered all) ins body)
        ∙ (λ i. (first i ++ middle i) ++ last i)
        ∙ sym (flat_map-append (of_piece of base) (in_pieces ++ inner_pieces) out_pieces
        ∙ ap (λ front. front ++ flat_map (of_piece of base) out_pieces)
        (flat_map-append (of_piece of base) in_pieces inner_pieces))

    -- where calls stand, of which the first is call n and starts at a place
    record CallsStand (n start : ℕ) (calls : List Call) : Type 0 where
      pre : List Wire
      post : List Wire
      whole : all ≡ pre ++ (defined_in (expanded_calls steps models (expanded steps models) k n calls) ++ post)
      from : length pre ≡ base + start
      low : AllByRecursion (λ w. w.call < n) pre
      after : k < n

    first_stands : (n start : ℕ) (c : Call) (cs : List Call) → CallsStand n start (c ∷ cs)
        → Stands steps n (base + start) (called models c)
    first_stands n start c cs s =
        let rest = expanded_calls steps models (expanded steps models) k
        (n + 1 + calls_within steps models (called models c)) cs in
        let own_wires = block steps models n (called models c) in
        let back = actual_wires models k c ++ defined_in rest in
        record {
          pre = s.pre;
          post = back ++ s.post;
          whole = s.whole ∙ ap (λ ws. s.pre ++ (ws ++ s.post)) (call_wires models steps k n c rest)
              ∙ ap (λ ws. s.pre ++ ws) (append_assoc own_wires back s.post);
          from = s.from;
          low = s.low;
        }

    others_stand : (n start : ℕ) (c : Call) (cs : List Call) → IsSound steps models (called models c)
        → length (block steps models n (called models c)) ≡ width (called models c)
        → CallsStand n start (c ∷ cs)
        → CallsStand (n + 1 + calls_within steps models (called models c))
        (start + length (call_names width models c)) cs
    others_stand n start c cs sound wide s =
        let next = n + 1 + calls_within steps models (called models c) in
        let rest = expanded_calls steps models (expanded steps models) k next cs in
        let own_wires = block steps models n (called models c) in
        let joined = actual_wires models k c in
        let after : k < n = s.after in
        record {
          pre = s.pre ++ (own_wires ++ joined);
          post = s.post;
          whole = s.whole ∙ ap (λ ws. s.pre ++ (ws ++ s.post)) (call_wires models steps k n c rest
              ∙ sym (append_assoc own_wires joined (defined_in rest)))
              ∙ ap (λ ws. s.pre ++ ws) (append_assoc (own_wires ++ joined) (defined_in rest) s.post)
              ∙ sym (append_assoc s.pre (own_wires ++ joined) (defined_in rest ++ s.post));
          from = (let one = length-append s.pre (own_wires ++ joined) in
              let two = length-append own_wires joined in
              let three : length joined ≡ length (joined_outputs models c) = length-map (joined_outputs models c)
              (λ o. wire k (actual_of c o)) in
              let four = length-append (replicate (width (called models c)) None)
              (map (λ o. Some (actual_of c o)) (joined_outputs models c)) in
              let five : length (replicate {A = Option (List ℕ)} (width (called models c)) None) ≡ width
              (called models c) = length-replicate (width (called models c)) None in
              let six : length (map (λ o. Some (actual_of c o)) (joined_outputs models c)) ≡ length
              (joined_outputs models c) = length-map (joined_outputs models c) (λ o. Some (actual_of c o)) in
              let seven = s.from in
              omega arith);
          low = all_join (λ w. w.call < next) s.pre (own_wires ++ joined)
              (all_weaker (λ w. w.call < n) (λ w. w.call < next) (λ w lt. omega arith) s.pre s.low)
              (all_join (λ w. w.call < next) own_wires joined
              (all_weaker (IsFrom n next) (λ w. w.call < next) (λ w f. f.below) own_wires
              (is_block models steps n (called models c) sound).lie)
              (joined_low next (omega arith) (joined_outputs models c)));
          after = omega arith;
        }
      where
        joined_low : (next : ℕ) → k < next → (os : List (List ℕ))
            → AllByRecursion (λ w. w.call < next) (map (λ o. wire k (actual_of c o)) os)
        joined_low next lt [] = tt
        joined_low next lt (o ∷ os) = (lt, joined_low next lt os)

    calls_laid : (n start : ℕ) (calls : List Call)
        → AllByRecursion (IsJoinedCall models (driven_names models model)) calls
        → AllByRecursion (λ c. IsSound steps models (called models c)) calls
        → AllByRecursion (λ c. IsLaid steps (model_number models c.model)) calls → CallsStand n start calls
        → map (numbered all) (expanded_calls steps models (expanded steps models) k n calls) ≡ flat_map
        (of_piece (laid_out blocks steps) base) (calls_pieces width models model start calls)
    calls_laid n start [] joined sound inner s = refl
    calls_laid n start (c ∷ cs) joined sound inner s =
        let next = n + 1 + calls_within steps models (called models c) in
        let here = expanded_call models (expanded steps models) k n c in
        let rest = expanded_calls steps models (expanded steps models) k next cs in
        let first = call_laid n start c joined.0 sound.0 inner.0 (first_stands n start c cs s) in
        let others = calls_laid next (start + length (call_names width models c)) cs joined.1 sound.1 inner.1
        (others_stand n start c cs sound.0 (inner.0.wide n) s) in
        map-append (numbered all) here rest ∙ (λ i. first i ++ others i)
        ∙ sym (flat_map-append (of_piece (laid_out blocks steps) base) (call_pieces width models model start c)
        (calls_pieces width models model (start + length (call_names width models c)) cs))

  -- ---- models

  laid_calls : (steps : ℕ) (calls : List Call)
      → ((q : ℕ) → IsSound steps models (at models q) → ArePlanned models width blocks steps q → IsLaid steps (Some q))
      → AllByRecursion (λ c. IsSound steps models (called models c)) calls
      → AllByRecursion (ArePlanned models width blocks steps)
      (flat_map (λ c. listed (model_number models c.model)) calls)
      → AllByRecursion (λ c. IsLaid steps (model_number models c.model)) calls
  laid_calls steps [] inner sound planned = tt
  laid_calls steps (c ∷ cs) inner sound planned = one (model_number models c.model) sound.0 planned
      (laid_calls steps cs inner sound.1)
    where
      one : (o : Option ℕ) → IsSound steps models (model_at models o)
          → AllByRecursion (ArePlanned models width blocks steps)
          (listed o ++ flat_map (λ c. listed (model_number models c.model)) cs)
          → (AllByRecursion (ArePlanned models width blocks steps)
          (flat_map (λ c. listed (model_number models c.model)) cs)
          → AllByRecursion (λ c. IsLaid steps (model_number models c.model)) cs)
          → IsLaid steps o × AllByRecursion (λ c. IsLaid steps (model_number models c.model)) cs
      one None ok h rest = (none_laid steps ok, rest h)
      one (Some q) ok h rest = (inner q ok h.0, rest h.1)

  stand_of : (steps n : ℕ) → IsSound steps models (at models n) → ArePlanned models width blocks steps n → (k base : ℕ)
      → Stands steps k base (at models n) → Stand k base (at models n)
  stand_of steps n ok planned k base s t h =
      number_in_block models width blocks none steps n ok planned all s.pre s.post k base t s.whole s.from s.low h

  -- the calls of a block stand behind its own wires
  calls_stand : (steps k base : ℕ) (model : BlifModel) (stand : Stand k base model) → Stands (suc steps) k base model
      → CallsStand steps k base model stand (k + 1) (length (own_names model)) model.calls
  calls_stand steps k base model stand s =
      let mine = map (wire k) (own_names model) in
      let below = defined_in (expanded_calls steps models (expanded steps models) k (k + 1) model.calls) in
      record {
        pre = s.pre ++ mine;
        post = s.post;
        whole = s.whole ∙ ap (λ ws. s.pre ++ (ws ++ s.post)) (block_parts models steps k model)
            ∙ ap (λ ws. s.pre ++ ws) (append_assoc mine below s.post) ∙ sym (append_assoc s.pre mine (below ++ s.post));
        from = length-append s.pre mine ∙ (λ i. s.from i + length-map (own_names model) (wire k) i);
        low = all_join (λ w. w.call < k + 1) s.pre mine
            (all_weaker (λ w. w.call < k) (λ w. w.call < k + 1) (λ w lt. omega arith) s.pre s.low)
            (own_low (own_names model));
        after = omega arith;
      }
    where
      own_low : (names : List (List ℕ)) → AllByRecursion (λ w. w.call < k + 1) (map (wire k) names)
      own_low [] = tt
      own_low (t ∷ ts) = (omega arith, own_low ts)

  -- a block laid out where it stands
  pub block_laid : (steps n : ℕ) → IsSound steps models (at models n) → ArePlanned models width blocks steps n
      → (k base : ℕ) → Stands steps k base (at models n)
      → map (numbered all) (expanded steps models k (at models n)) ≡ laid_out blocks steps n base
  block_laid zero n ok planned k base s = absurd ok
  block_laid (suc steps) n ok planned k base s =
      let model = at models n in
      let of = laid_out blocks steps in
      let stand = stand_of (suc steps) n ok planned k base s in
      let inner : (q : ℕ) → IsSound steps models (at models q) → ArePlanned models width blocks steps q
      → IsLaid steps (Some q) = λ q sound held. record {
        wide = block_wide models width blocks none steps q sound held;
        stand = λ m b st. stand_of steps q sound held m b st;
        laid = λ m b start st. block_laid steps q sound held m (b + start) st
            ∙ sym (append-nil (laid_out blocks steps q (b + start)));
      } in
      let mine = map (own k) model.defs in
      let below = expanded_calls steps models (expanded steps models) k (k + 1) model.calls in
      let first = owned_laid of k base model stand model.defs ok.0.defs in
      let others = calls_laid steps k base model stand (k + 1) (length (own_names model)) model.calls ok.0.calls ok.1
      (laid_calls steps model.calls inner ok.1 planned.1) (calls_stand steps k base model stand s) in
      map-append (numbered all) mine below ∙ (λ i. first i ++ others i)
      ∙ sym (ap (flat_map (of_piece of base)) planned.0.held
      ∙ flat_map-append (of_piece of base) (map (λ d. Own (placed (place width models model) d)) model.defs)
      (calls_pieces width models model (length (own_names model)) model.calls))

-- the definitions of a design are those that its first model's block gives
pub definitions_laid : (models : List BlifModel) (width : BlifModel → ℕ)
    (blocks : List (List Piece)) → width no_model ≡ 0
    → IsSound (length models) models (first_model models) → ArePlanned models width blocks (length models) 0
    → (expansion models).defs ≡ laid_out blocks (length models) 0 0
unfolding expansion
definitions_laid models width blocks none sound planned =
    block_laid models width blocks none (wires models) (length models) 0 sound planned 0 0 record {
      pre = [];
      post = [];
      whole = sym (append-nil (wires models));
      from = refl;
      low = tt;
    }
