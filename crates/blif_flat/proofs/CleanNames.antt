-- No name in the models of a text holds a number sign, since comments are dropped before lines are cut into tokens.
use Rattle.std.proofs.Common.{◌≡◌, ℕ, zero, suc, ◌+◌, ◌-◌, Bool, true, false, not, cond, List, [], ◌∷◌, ◌++◌, map}
use Rattle.std.proofs.Common.{length, take, drop, filter, flat_map, Some, None, refl, subst, arith}
use Rattle.std.specs.Prelude.{slice_index}
use Rattle.std.specs.List.{AllByRecursion, slice_split, onto_first, before_first, position_or_len}
use Rattle.std.proofs.lemmas.Bool.{eqb-false}
use Rattle.blif_read.proofs.Within.{all_join}
use Rattle.blif_read.specs.Lines.{Line, is_number_sign, is_backslash, is_blank, is_token, cut, has_tokens}
use Rattle.blif_read.specs.Lines.{physical_lines, without_comment, joined_to, before_lines, joined, logical_lines}
use Rattle.blif_read.specs.Statements.{word, arguments, is_model, last_of, inputs_in}
use Rattle.blif_read.specs.Parts.{rows_before_others}
use Rattle.blif_read.specs.Models.{onto, ended, parts_behind, parts_of, first_name, named, named_inputs, formal_in}
use Rattle.blif_read.specs.Models.{named_definition, named_definition_at, named_definitions, is_port, port_of, ports_in}
use Rattle.blif_read.specs.Models.{call_of, calls_in, model_of}
use Rattle.blif_read.specs.declared.words.Statement.{Statement}
use Rattle.blif_read.specs.declared.words.Statement.TheVariants.{Model, Inputs, Outputs, Names, Subckt, End, Passed}
use Rattle.blif_read.specs.declared.words.Statement.TheVariants.{Other, Row}
use Rattle.blif_read.specs.declared.models.Named.{Named}
use Rattle.blif_read.specs.declared.models.Call.{Call}
use Rattle.blif_read.specs.declared.models.NamedDef.{NamedDef}
use Rattle.blif_read.specs.declared.models.BlifModel.{BlifModel}
use Rattle.blif_flat.specs.Designs.{names_in, output_ports}
use Rattle.blif_flat.proofs.Members.{all_from, all_mapped, all_weaker, at_among, passes}
use Rattle.blif_flat.proofs.JoinedModels.{driven_names}

-- a text without a number sign
abbrev pub IsClean : List ℕ → Type 0
IsClean name = AllByRecursion (λ b. b ≡ 35 → ⊥) name

-- ---- parts of lists

all_taken : {X : Type 0} (P : X → Type 0) (n : ℕ) (xs : List X) → AllByRecursion P xs → AllByRecursion P (take n xs)
all_taken P zero xs h = tt
all_taken P (suc n) [] h = tt
all_taken P (suc n) (x ∷ xs) h = (h.0, all_taken P n xs h.1)

all_dropped : {X : Type 0} (P : X → Type 0) (n : ℕ) (xs : List X) → AllByRecursion P xs → AllByRecursion P (drop n xs)
all_dropped P zero xs h = h
all_dropped P (suc n) [] h = tt
all_dropped P (suc n) (x ∷ xs) h = all_dropped P n xs h.1

all_last : {X : Type 0} (P : X → Type 0) (xs : List X) → AllByRecursion P xs → AllByRecursion P (last_of xs)
all_last P [] h = tt
all_last P (x ∷ []) h = h
all_last P (x ∷ y ∷ xs) h = all_last P (y ∷ xs) h.1

all_flat : {X Y : Type 0} (P : Y → Type 0) (f : X → List Y) (xs : List X)
    → AllByRecursion (λ x. AllByRecursion P (f x)) xs
    → AllByRecursion P (flat_map f xs)
all_flat P f [] h = tt
all_flat P f (x ∷ xs) h = all_join P (f x) (flat_map f xs) h.0 (all_flat P f xs h.1)

pub all_filtered : {X : Type 0} (P : X → Type 0) (t : X → Bool) (xs : List X) → AllByRecursion P xs
    → AllByRecursion P (filter t xs)
all_filtered P t xs h = all_from P (filter t xs) (λ x k. at_among P xs x h (passes t xs x k).there)

-- ---- lines and their tokens

clean_before : (xs : List ℕ) → IsClean (before_first is_number_sign xs)
clean_before [] = tt
clean_before (x ∷ xs) = by (is_number_sign x) refl (clean_before xs)
  where
    by : (b : Bool) → is_number_sign x ≡ b → IsClean (before_first is_number_sign xs)
        → IsClean (take (cond (not b) (1 + position_or_len is_number_sign xs) 0) (x ∷ xs))
    by true e more = tt
    by false e more =
        let n : suc (position_or_len is_number_sign xs) ≡ 1 + position_or_len is_number_sign xs = omega arith in
        subst (λ k. IsClean (take k (x ∷ xs))) n (eqb-false x 35 e, more)

clean_split : (p : ℕ → Bool) (xs : List ℕ) → IsClean xs → AllByRecursion IsClean (slice_split p xs)
clean_split p [] h = (tt, tt)
clean_split p (x ∷ xs) h = by (p x) (slice_split p xs) (clean_split p xs h.1)
  where
    by : (b : Bool) (parts : List (List ℕ)) → AllByRecursion IsClean parts
        → AllByRecursion IsClean (cond b ([] ∷ parts) (onto_first x parts))
    by true parts more = (tt, more)
    by false [] more = ((h.0, tt), tt)
    by false (part ∷ parts) more = ((h.0, more.0), more.1)

abbrev IsCleanLine : ℕ × List ℕ → Type 0
IsCleanLine line = IsClean line.1

clean_joined : (n : ℕ) (lines : List (List ℕ)) → AllByRecursion IsClean lines
    → AllByRecursion IsCleanLine (joined n lines)
clean_joined n [] h = tt
clean_joined n (line ∷ lines) h = by (is_backslash (slice_index line (length line - 1))) (joined (n + 1) lines)
    (clean_joined (n + 1) lines h.1)
  where
    to : (front : List ℕ) (rest : List (ℕ × List ℕ)) → IsClean front → AllByRecursion IsCleanLine rest
        → AllByRecursion IsCleanLine (joined_to n front rest)
    to front [] f more = (f, tt)
    to front (next ∷ rest) f more = (all_join (λ b. b ≡ 35 → ⊥) front next.1 f more.0, more.1)

    by : (b : Bool) (rest : List (ℕ × List ℕ)) → AllByRecursion IsCleanLine rest
        → AllByRecursion IsCleanLine (before_lines n line (cond b (Some (take (length line - 1) line)) None) rest)
    by true rest more = to (take (length line - 1) line ++ 32 ∷ []) rest
        (all_join (λ b. b ≡ 35 → ⊥) (take (length line - 1) line) (32 ∷ [])
        (all_taken (λ b. b ≡ 35 → ⊥) (length line - 1) line h.0) (λ e. omega (arith, e), tt)) more
    by false rest more = (h.0, more)

abbrev HasCleanTokens : Line → Type 0
HasCleanTokens line = AllByRecursion IsClean line.tokens

clean_lines : (text : List ℕ) → AllByRecursion HasCleanTokens (logical_lines text)
clean_lines text =
    let lines = joined 1 (map without_comment (physical_lines text)) in
    let clean : AllByRecursion IsCleanLine lines = clean_joined 1 (map without_comment (physical_lines text))
    (all_mapped IsClean without_comment (physical_lines text)
    (all_from (λ l. IsClean (without_comment l)) (physical_lines text) (λ l h. clean_before l))) in
    all_filtered HasCleanTokens has_tokens (map cut lines)
    (all_mapped HasCleanTokens cut lines
    (all_weaker IsCleanLine (λ l. HasCleanTokens (cut l))
    (λ l h. all_filtered IsClean is_token (slice_split is_blank l.1) (clean_split is_blank l.1 h)) lines clean))

-- ---- the parts of a text

module _ (P : Line → Type 0) where
  all_onto : (line : Line) (parts : List (List Line)) → P line → AllByRecursion (AllByRecursion P) parts
      → AllByRecursion (AllByRecursion P) (onto line parts)
  all_onto line [] p h = ((p, tt), tt)
  all_onto line (part ∷ parts) p h = ((p, h.0), h.1)

  all_ended : (b : Bool) (parts : List (List Line)) → AllByRecursion (AllByRecursion P) parts
      → AllByRecursion (AllByRecursion P) (ended b parts)
  all_ended true parts h = (tt, h)
  all_ended false parts h = h

  all_behind : (lines : List Line) → AllByRecursion P lines → AllByRecursion (AllByRecursion P) (parts_behind lines)
  all_behind [] h = (tt, tt)
  all_behind (line ∷ lines) h = all_ended (is_model (word line)) (onto line (parts_behind lines))
      (all_onto line (parts_behind lines) h.0 (all_behind lines h.1))

  pub all_parts : (lines : List Line) → AllByRecursion P lines → AllByRecursion (AllByRecursion P) (parts_of lines)
  all_parts [] h = (tt, tt)
  all_parts (line ∷ lines) h = all_onto line (parts_behind lines) h.0 (all_behind lines h.1)

-- ---- models

-- a model whose signals have names without number signs
pub record IsCleanModel (model : BlifModel) : Type 0 where
  pub inputs : AllByRecursion (λ n. IsClean n.name) model.inputs
  pub outputs : AllByRecursion (λ d. IsClean d.output) model.defs
  pub actuals : AllByRecursion (λ c. AllByRecursion (λ p. IsClean p.actual) c.ports) model.calls

input_word : (w : Statement) (names : List (List ℕ)) → AllByRecursion IsClean names
    → AllByRecursion IsClean (elim w as (λ (x : Statement). List (List ℕ)) [ Inputs ↦ names | _ ↦ [] ])
input_word Inputs names h = h
input_word Model names h = tt
input_word Outputs names h = tt
input_word Names names h = tt
input_word Subckt names h = tt
input_word End names h = tt
input_word Passed names h = tt
input_word Other names h = tt
input_word Row names h = tt

definition_word : (w : Statement) (def : NamedDef) → IsClean def.output
    → AllByRecursion (λ d. IsClean d.output)
    (elim w as (λ (x : Statement). List NamedDef) [ Names ↦ def ∷ [] | _ ↦ [] ])
definition_word Names def h = (h, tt)
definition_word Model def h = tt
definition_word Inputs def h = tt
definition_word Outputs def h = tt
definition_word Subckt def h = tt
definition_word End def h = tt
definition_word Passed def h = tt
definition_word Other def h = tt
definition_word Row def h = tt

abbrev HasCleanActuals : Call → Type 0
HasCleanActuals call = AllByRecursion (λ p. IsClean p.actual) call.ports

call_word : (w : Statement) (call : Call) → HasCleanActuals call
    → AllByRecursion HasCleanActuals (elim w as (λ (x : Statement). List Call) [ Subckt ↦ call ∷ [] | _ ↦ [] ])
call_word Subckt call h = (h, tt)
call_word Model call h = tt
call_word Inputs call h = tt
call_word Outputs call h = tt
call_word Names call h = tt
call_word End call h = tt
call_word Passed call h = tt
call_word Other call h = tt
call_word Row call h = tt

clean_first : (names : List (List ℕ)) → AllByRecursion IsClean names → IsClean (first_name names)
clean_first [] h = tt
clean_first (name ∷ names) h = h.0

clean_ports : (b : Bool) (token : List ℕ) → IsClean token
    → AllByRecursion (λ p. IsClean p.actual) (cond b (port_of token ∷ []) [])
clean_ports true token h = (all_dropped (λ b. b ≡ 35 → ⊥) (suc (length (formal_in token))) token h, tt)
clean_ports false token h = tt

clean_arguments : (line : Line) → HasCleanTokens line → AllByRecursion IsClean (arguments line)
clean_arguments line h = all_dropped IsClean 1 line.tokens h

clean_definitions : (lines : List Line) → AllByRecursion HasCleanTokens lines
    → AllByRecursion (λ d. IsClean d.output) (named_definitions lines)
clean_definitions [] h = tt
clean_definitions (line ∷ lines) h =
    all_join (λ d. IsClean d.output) (named_definition_at line lines) (named_definitions lines)
    (definition_word (word line) (named_definition line.number (arguments line) (rows_before_others lines))
    (clean_first (last_of (arguments line)) (all_last IsClean (arguments line) (clean_arguments line h.0))))
    (clean_definitions lines h.1)

clean_model : (lines : List Line) → AllByRecursion HasCleanTokens lines → IsCleanModel (model_of lines)
clean_model lines h = record {
  inputs = all_flat (λ n. IsClean n.name) named_inputs lines
      (all_weaker HasCleanTokens (λ l. AllByRecursion (λ n. IsClean n.name) (named_inputs l))
      (λ l c. all_mapped (λ (n : Named). IsClean n.name) (named l.number) (inputs_in l)
      (input_word (word l) (arguments l) (clean_arguments l c))) lines h);
  outputs = clean_definitions lines h;
  actuals = all_flat HasCleanActuals calls_in lines
      (all_weaker HasCleanTokens (λ l. AllByRecursion HasCleanActuals (calls_in l))
      (λ l c. call_word (word l) (call_of l.number (arguments l))
      (all_flat (λ p. IsClean p.actual) ports_in (drop 1 (arguments l))
      (all_weaker IsClean (λ t. AllByRecursion (λ p. IsClean p.actual) (ports_in t))
      (λ t clean. clean_ports (is_port t) t clean) (drop 1 (arguments l))
      (all_dropped IsClean 1 (arguments l) (clean_arguments l c))))) lines h);
}

pub clean_models : (text : List ℕ) → AllByRecursion IsCleanModel (map model_of (parts_of (logical_lines text)))
clean_models text = all_mapped IsCleanModel model_of (parts_of (logical_lines text))
    (all_weaker (AllByRecursion HasCleanTokens) (λ part. IsCleanModel (model_of part)) clean_model
    (parts_of (logical_lines text)) (all_parts HasCleanTokens (logical_lines text) (clean_lines text)))

-- what such a model drives has names without number signs
pub clean_driven : (models : List BlifModel) (model : BlifModel) → IsCleanModel model
    → AllByRecursion IsClean (driven_names models model)
clean_driven models model ok =
    all_join IsClean (names_in model.inputs ++ map (λ d. d.output) model.defs)
    (flat_map (λ c. map (λ p. p.actual) (output_ports models c)) model.calls)
    (all_join IsClean (names_in model.inputs) (map (λ d. d.output) model.defs)
    (all_mapped IsClean (λ n. n.name) model.inputs ok.inputs)
    (all_mapped IsClean (λ d. d.output) model.defs ok.outputs))
    (all_flat IsClean (λ c. map (λ p. p.actual) (output_ports models c)) model.calls
    (all_weaker HasCleanActuals (λ c. AllByRecursion IsClean (map (λ p. p.actual) (output_ports models c)))
    (λ c h. all_mapped IsClean (λ p. p.actual) (output_ports models c)
    (all_filtered (λ p. IsClean p.actual) _ c.ports h)) model.calls ok.actuals))
