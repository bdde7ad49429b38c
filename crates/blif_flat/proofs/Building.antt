-- What the program tells of a text and of its models, step by step.
use Rattle.std.proofs.Common.{◌≡◌, ℕ, ◌+◌, ◌*◌, ◌<◌, ◌≤◌, ◌^◌, Bool, true, false, inl, inr, List, [], ◌∷◌, length, refl}
use Rattle.std.proofs.Common.{sym, ap, ◌∙◌, subst, arith}
use Rattle.std.specs.Prelude.{Result, Ok, Err, IfOk, IfErr}
use Rattle.std.specs.List.{AllByRecursion}
use Rattle.std.proofs.lemmas.List.{length-map}
use Rattle.std.proofs.lemmas.List.Sums.{sum_by-cons}
use Rattle.blif_read.specs.Lines.{Line, logical_lines}
use Rattle.blif_read.specs.Statements.{word, is_model}
use Rattle.blif_read.specs.Code.Size.{bytes_of, token_bytes, IsCut}
use Rattle.blif_read.specs.Parts.{NetView}
use Rattle.blif_read.specs.Models.{onto, ended, parts_of, parts_behind, model_of, is_design, SaysModels, ModelsFault}
use Rattle.blif_read.specs.Says.{SaysNet, Fault, IfBad}
use Rattle.blif_read.specs.declared.netlist.BlifRefusal.{BlifRefusal}
use Rattle.blif_read.specs.declared.netlist.BlifRefusal.TheVariants.{Bad}
use Rattle.blif_read.specs.Reads.{SaysText, TextFault}
use Rattle.blif_read.specs.declared.texts.ReadText.{ReadText}
use Rattle.blif_read.specs.declared.texts.ReadText.TheVariants.{Design as Models}
use Rattle.blif_read.specs.declared.netlist.BlifFault.{BlifFault}
use Rattle.blif_read.specs.declared.models.BlifModel.{BlifModel}
use Rattle.blif_flat.specs.DesignText.{SaysNetlist, IsNetlistRefusal, IsDesignRefusal, IsTextRefusal, OfModels}
use Rattle.blif_flat.specs.DesignText.{SaysExpansion}
use Rattle.blif_flat.specs.Code.Building.{IsModelsRefusal}
use Rattle.blif_flat.specs.declared.design.FlatRefusal.{FlatRefusal}
use Rattle.blif_flat.specs.declared.design.FlatRefusal.TheVariants.{Text, Design, TooMany, Memory}
use Rattle.blif_read.proofs.Counted.{text_is_cut, token_each}

-- ---- the text

some_onto : (line : Line) (parts : List (List Line)) → 0 < length (onto line parts)
some_onto line [] = omega arith
some_onto line (p ∷ ps) = omega arith

some_parts : (lines : List Line) → 0 < length (parts_of lines)
some_parts [] = omega arith
some_parts (l ∷ ls) = some_onto l (parts_behind ls)

pub some_models : (text : List ℕ) (models : List BlifModel) → SaysModels text models → 0 < length models
some_models text models says =
    let some = some_parts (logical_lines text) in
    let size : length models ≡ length (parts_of (logical_lines text)) = ap length says.each
    ∙ length-map (parts_of (logical_lines text)) model_of in omega arith

few_onto : (line : Line) (parts : List (List Line)) → length (onto line parts) ≤ length parts + 1
few_onto line [] = omega arith
few_onto line (part ∷ parts) = omega arith

few_ended : (b : Bool) (parts : List (List Line)) → length (ended b parts) ≤ length parts + 1
few_ended true parts = omega arith
few_ended false parts = omega arith

few_behind : (lines : List Line) → length (parts_behind lines) ≤ 2 * length lines + 1
few_behind [] = omega arith
few_behind (line ∷ lines) =
    let more = few_behind lines in
    omega (
      arith,
      more,
      few_onto line (parts_behind lines),
      few_ended (is_model (word line))
          (onto line (parts_behind lines)),
    )

few_parts : (lines : List Line) → length (parts_of lines) ≤ 2 * length lines + 1
few_parts [] = omega arith
few_parts (line ∷ lines) = let more = few_behind lines in omega (arith, more, few_onto line (parts_behind lines))

few_lines : (lines : List Line) → AllByRecursion IsCut lines → length lines ≤ bytes_of lines
few_lines [] h = omega arith
few_lines (line ∷ lines) h =
    let more = few_lines lines h.1 in
    let some = h.0.tokens in
    omega (
      arith,
      more,
      some,
      token_each line.tokens h.0.filled,
      sum_by-cons
          (λ (l : Line). token_bytes l.tokens) line lines,
    )

pub few_models : (text : List ℕ) (models : List BlifModel) → length text ≤ 2 ^ 27
    → SaysModels text models → length models < 2 ^ 32
few_models text models few says =
    let lines = logical_lines text in
    let cut = text_is_cut text in
    let fits = cut.fits in
    let size : length models ≡ length (parts_of lines) = ap length says.each ∙ length-map (parts_of lines) model_of in
    omega (arith, size, few_parts lines, few_lines lines cut.each, fits, few)

netlist_at : (b : Bool) (text : List ℕ) → is_design (logical_lines text) ≡ b → (net : NetView)
    → elim b as (λ (x : Bool). Type 0) [ true ↦ OfModels text (SaysExpansion net) | false ↦ SaysNet text net ]
    → SaysNetlist text net
netlist_at b text e net h =
    subst (λ (x : Bool). elim x as (λ (y : Bool). Type 0) [
      | true ↦ OfModels text
          (SaysExpansion net)
      | false ↦ SaysNet text net
    ]) (sym e) h

pub says_plain : (text : List ℕ) (net : NetView) → is_design (logical_lines text) ≡ false
    → SaysNet text net → SaysNetlist text net
says_plain text net e h = netlist_at false text e net h

pub says_design : (text : List ℕ) (models : List BlifModel) (net : NetView) → is_design (logical_lines text) ≡ true
    → SaysModels text models → SaysExpansion net models → SaysNetlist text net
says_design text models net e says h = netlist_at true text e net (record { models = models; said = says; fact = h })

refusal_at : (b : Bool) (text : List ℕ) → is_design (logical_lines text) ≡ b → (refusal : FlatRefusal)
    → elim b as (λ (x : Bool). Type 0) [ true ↦ IsDesignRefusal text refusal | false ↦ IsTextRefusal text refusal ]
    → IsNetlistRefusal text refusal
refusal_at b text e refusal h =
    subst (λ (x : Bool). elim x as (λ (y : Bool). Type 0)
    [ true ↦ IsDesignRefusal text refusal | false ↦ IsTextRefusal text refusal ]) (sym e) h

models_refused : (text : List ℕ) (models : List BlifModel) (refusal : FlatRefusal) → SaysModels text models
    → IsModelsRefusal models refusal → IsDesignRefusal text refusal
models_refused text models (Text fault) says h = inr (record { models = models; said = says; fact = h })
models_refused text models (Design line kind) says h = record { models = models; said = says; fact = h }
models_refused text models (TooMany size) says h = record { models = models; said = says; fact = h }
models_refused text models Memory says h = tt

pub refuses_design : (text : List ℕ) (models : List BlifModel) (refusal : FlatRefusal)
    → is_design (logical_lines text) ≡ true → SaysModels text models → IsModelsRefusal models refusal
    → IsNetlistRefusal text refusal
refuses_design text models refusal e says h = refusal_at true text e refusal (models_refused text models refusal says h)

pub refuses_text : (text : List ℕ) (fault : BlifFault) → TextFault text fault → IsNetlistRefusal text (Text fault)
refuses_text text fault h = by (is_design (logical_lines text)) refl
  where
    by : (b : Bool) → is_design (logical_lines text) ≡ b → IsNetlistRefusal text (Text fault)
    by true e = refusal_at true text e (Text fault)
        (inl (subst (λ (x : Bool). elim x as (λ (y : Bool). Type 0)
        [ true ↦ ModelsFault text fault | false ↦ Fault text fault ]) e h))
    by false e = refusal_at false text e (Text fault)
        (subst (λ (x : Bool). elim x as (λ (y : Bool). Type 0)
        [ true ↦ ModelsFault text fault | false ↦ Fault text fault ]) e h)

pub refuses_memory : (text : List ℕ) → IsNetlistRefusal text Memory
refuses_memory text = by (is_design (logical_lines text)) refl
  where
    by : (b : Bool) → is_design (logical_lines text) ≡ b → IsNetlistRefusal text Memory
    by true e = refusal_at true text e Memory tt
    by false e = refusal_at false text e Memory tt

pub refuses : (text : List ℕ) (refusal : BlifRefusal) → IfBad refusal (TextFault text) → (fault : BlifFault)
    → refusal ≡ Bad fault → IsNetlistRefusal text (Text fault)
refuses text refusal h fault e = refuses_text text fault (subst (λ r. IfBad r (TextFault text)) e h)

-- ---- facts of results

pub if_ok : {X E : Type 0} (P Q : X → Type 0) (r : Result X E) → ((x : X) → P x → Q x) → IfOk r P → IfOk r Q
if_ok P Q (Ok x) f h = f x h
if_ok P Q (Err e) f h = tt

pub if_err : {X E : Type 0} (P Q : E → Type 0) (r : Result X E) → ((e : E) → P e → Q e) → IfErr r P → IfErr r Q
if_err P Q (Ok x) f h = tt
if_err P Q (Err e) f h = f e h

pub models_at : (text : List ℕ) (read : ReadText) (models shown : List BlifModel) → SaysText text read
    → read ≡ Models models → shown ≡ models → (is_design (logical_lines text) ≡ true) × SaysModels text shown
models_at text read models shown h e f = let g : SaysText text (Models models) =
    subst (λ (r : ReadText). SaysText text r) e h in (g.0, subst (SaysModels text) (sym f) g.1)
