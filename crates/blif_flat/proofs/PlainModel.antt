-- The netlist of lines without calls and without faults is the expansion of the one model that they say, in which it
-- has the same signals by other numbers' names: its inputs, its definitions and its outputs are those.
use Rattle.std.proofs.Common.{◌≡◌, ℕ, ◌+◌, ◌&&◌, Bool, true, false, not, cond, List, [], ◌∷◌, ◌++◌, map}
use Rattle.std.proofs.Common.{Option, Some, None, refl, sym, ap, ◌∙◌, flat_map}
use Rattle.std.specs.List.{list_any}
use Rattle.std.specs.Str.{bytes_eq}
use Rattle.std.proofs.lemmas.Bool.{or_parts}
use Rattle.std.proofs.lemmas.List.{map-append}
use Rattle.blif_read.specs.Lines.{Line, is_empty}
use Rattle.blif_read.specs.Statements.{word, arguments, is_names, last_of, inputs_in, outputs_in, defined_in}
use Rattle.blif_read.specs.Parts.{number, definitions, rows_before_others}
use Rattle.blif_read.specs.Faults.{is_control, is_token_fault, before_of, kind_in, kind_of, duplicate_in, at_line}
use Rattle.blif_read.specs.Faults.{line_fault}
use Rattle.blif_read.specs.Models.{named, named_inputs, named_outputs, named_definition, named_definition_at}
use Rattle.blif_read.specs.Models.{named_definitions, calls_in, call_of, is_call, first_name}
use Rattle.blif_read.specs.declared.words.Statement.{Statement}
use Rattle.blif_read.specs.declared.words.Statement.TheVariants.{Model, Inputs, Outputs, Names, Subckt, End, Passed}
use Rattle.blif_read.specs.declared.words.Statement.TheVariants.{Other, Row}
use Rattle.blif_read.specs.declared.netlist.Def.{Def}
use Rattle.blif_read.specs.declared.models.Call.{Call}
use Rattle.blif_read.specs.declared.models.NamedDef.{NamedDef}
use Rattle.blif_read.proofs.Distinct.{none_or, no_kind}
use Rattle.blif_flat.specs.Designs.{names_in}
use Rattle.blif_flat.specs.Expansion.{wire, own, numbered}
use Rattle.blif_flat.specs.Expansion as flat
use Rattle.blif_flat.proofs.JoinedModels.{flat_names}

-- ---- the names of a model's signals are those of the lines

named_back : (n : ℕ) (names : List (List ℕ)) → names_in (map (named n) names) ≡ names
named_back n [] = refl
named_back n (name ∷ names) = ap (λ more. name ∷ more) (named_back n names)

pub inputs_named : (lines : List Line) → names_in (flat_map named_inputs lines) ≡ flat_map inputs_in lines
inputs_named lines = flat_names named_inputs inputs_in (λ l. named_back l.number (inputs_in l)) lines

pub outputs_named : (lines : List Line) → names_in (flat_map named_outputs lines) ≡ flat_map outputs_in lines
outputs_named lines = flat_names named_outputs outputs_in (λ l. named_back l.number (outputs_in l)) lines

-- the signal of a definition
abbrev pub output : NamedDef → List ℕ
output d = d.output

one_last : (args : List (List ℕ)) → is_empty args ≡ false → last_of args ≡ first_name (last_of args) ∷ []
one_last [] e = absurd cc
one_last (a ∷ []) e = refl
one_last (a ∷ b ∷ args) e = one_last (b ∷ args) refl

defined_at : (w : Statement) (args : List (List ℕ)) (def : NamedDef) → is_names w && is_empty args ≡ false
    → def.output ≡ first_name (last_of args)
    → (elim w as (λ (x : Statement). List (List ℕ)) [ Names ↦ last_of args | _ ↦ [] ])
    ≡ map output (elim w as (λ (x : Statement). List NamedDef) [ Names ↦ def ∷ [] | _ ↦ [] ])
defined_at Names args def e is = one_last args e ∙ ap (λ name. name ∷ []) (sym is)
defined_at Model args def e is = refl
defined_at Inputs args def e is = refl
defined_at Outputs args def e is = refl
defined_at Subckt args def e is = refl
defined_at End args def e is = refl
defined_at Passed args def e is = refl
defined_at Other args def e is = refl
defined_at Row args def e is = refl

test_off : {Y : Type 0} (b : Bool) (y : Y) (o : Option Y) → cond b (Some y) o ≡ None → b ≡ false
test_off true y o e = absurd cc
test_off false y o e = refl

pub defined_named : (done lines : List Line) → line_fault false done lines ≡ None
    → flat_map defined_in lines ≡ map output (named_definitions lines)
defined_named done [] e = refl
defined_named done (l ∷ ls) e =
    let both = none_or (at_line l.number (kind_of false done l)) (line_fault false (l ∷ done) ls) e in
    let kind = (none_or (kind_in false (before_of done) l) (duplicate_in done l)
    (no_kind l.number (kind_of false done l) both.0)).0 in
    let some = (or_parts (list_any (list_any is_control) l.tokens) (is_names (word l) && is_empty (arguments l))
    (test_off (is_token_fault l) _ _ kind)).1 in
    let def = named_definition l.number (arguments l) (rows_before_others ls) in
    let here = defined_at (word l) (arguments l) def some refl in
    let more = defined_named (l ∷ done) ls both.1 in
    (λ i. here i ++ more i) ∙ sym (map-append output (named_definition_at l ls) (named_definitions ls))

-- ---- its definitions are those of the lines

abbrev pub by_number : List (List ℕ) → NamedDef → Def
by_number names d = record {
  line = d.line;
  inputs = map (number names) d.inputs;
  on = d.on;
  cubes = d.cubes;
}

numbered_at : (w : Statement) (names : List (List ℕ)) (def : NamedDef)
    → (elim w as (λ (x : Statement). List Def) [ Names ↦ by_number names def ∷ [] | _ ↦ [] ])
    ≡ map (by_number names) (elim w as (λ (x : Statement). List NamedDef) [ Names ↦ def ∷ [] | _ ↦ [] ])
numbered_at Names names def = refl
numbered_at Model names def = refl
numbered_at Inputs names def = refl
numbered_at Outputs names def = refl
numbered_at Subckt names def = refl
numbered_at End names def = refl
numbered_at Passed names def = refl
numbered_at Other names def = refl
numbered_at Row names def = refl

pub definitions_named : (names : List (List ℕ)) (lines : List Line)
    → definitions names lines ≡ map (by_number names) (named_definitions lines)
definitions_named names [] = refl
definitions_named names (l ∷ ls) =
    let here = numbered_at (word l) names (named_definition l.number (arguments l) (rows_before_others ls)) in
    let more = definitions_named names ls in
    (λ i. here i ++ more i) ∙ sym (map-append (by_number names) (named_definition_at l ls) (named_definitions ls))

-- ---- it has no calls

not_called : (w : Statement) (call : Call) → is_call w ≡ false
    → (elim w as (λ (x : Statement). List Call) [ Subckt ↦ call ∷ [] | _ ↦ [] ]) ≡ []
not_called Subckt call e = absurd cc
not_called Names call e = refl
not_called Model call e = refl
not_called Inputs call e = refl
not_called Outputs call e = refl
not_called End call e = refl
not_called Passed call e = refl
not_called Other call e = refl
not_called Row call e = refl

pub none_called : (lines : List Line) → list_any (λ line. is_call (word line)) lines ≡ false
    → flat_map calls_in lines ≡ []
none_called [] e = refl
none_called (l ∷ ls) e =
    let both = or_parts (is_call (word l)) (list_any (λ line. is_call (word line)) ls) e in
    let here = not_called (word l) (call_of l.number (arguments l)) both.0 in
    let more = none_called ls both.1 in
    λ i. here i ++ more i

-- ---- numbers of wires of one call are those of their names

pub number_is : (names : List (List ℕ)) (s : List ℕ) → flat.number (map (wire 0) names) (wire 0 s) ≡ number names s
number_is [] s = refl
number_is (n ∷ names) s = ap (λ m. cond (not (bytes_eq s n)) (1 + m) 0) (number_is names s)

numbers_are : (names xs : List (List ℕ)) → map (flat.number (map (wire 0) names)) (map (wire 0) xs)
    ≡ map (number names) xs
numbers_are names [] = refl
numbers_are names (x ∷ xs) = λ i. number_is names x i ∷ numbers_are names xs i

pub own_numbered : (names : List (List ℕ)) (defs : List NamedDef)
    → map (numbered (map (wire 0) names)) (map (own 0) defs) ≡ map (by_number names) defs
own_numbered names [] = refl
own_numbered names (d ∷ defs) =
    λ i. record { line = d.line; inputs = numbers_are names d.inputs i; on = d.on; cubes = d.cubes }
    ∷ own_numbered names defs i

pub outputs_numbered : (names outputs : List (List ℕ))
    → map (λ o. flat.number (map (wire 0) names) (wire 0 o)) outputs ≡ map (number names) outputs
outputs_numbered names [] = refl
outputs_numbered names (o ∷ os) = λ i. number_is names o i ∷ outputs_numbered names os i
