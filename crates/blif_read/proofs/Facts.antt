-- The netlist of lines without a fault keeps the facts of a netlist.
use Rattle.std.proofs.Common.{◌≡◌, ℕ, zero, suc, ◌+◌, ◌-◌, ◌^◌, ◌≤◌, ◌<◌, ◌||◌, ◌&&◌, Bool, true, false, not, cond}
use Rattle.std.proofs.Common.{List, [], ◌∷◌, map, length, Option, Some, None, refl, sym, ap, ◌∙◌, subst, arith}
use Rattle.std.proofs.Common.{length-append}
use Rattle.std.specs.List.{AllByRecursion, list_any, flat_map}
use Rattle.std.specs.Prelude.{nat_lt, slice_get}
use Rattle.std.proofs.lemmas.Bool.{le-ltb}
use Rattle.std.proofs.lemmas.List.{length-map}
use Rattle.blif_read.specs.Lines.{Line, is_empty}
use Rattle.blif_read.specs.Statements.{word, arguments, is_names, front_of, last_of, truth, inputs_in, outputs_in}
use Rattle.blif_read.specs.Statements.{defined_in}
use Rattle.blif_read.specs.Parts.{signals, number, plane, says_zero, definition, definition_at, definitions}
use Rattle.blif_read.specs.Parts.{rows_before_others, netlist_of, operands, operands_at}
use Rattle.blif_read.specs.Faults.{is_control, is_token_fault, has_shape, before_of, cover_after, with_row, kind_in}
use Rattle.blif_read.specs.Faults.{kind_of, duplicate_in, at_line, line_fault, outputs_fault, undefined_fault}
use Rattle.blif_read.specs.Netlist.{HasNoCycle, IsPlane, IsDef, IsNetlist}
use Rattle.blif_read.specs.Code.Size.{AreCut}
use Rattle.blif_read.specs.declared.before.Cover.{Cover}
use Rattle.blif_read.specs.declared.words.Statement.{Statement}
use Rattle.blif_read.specs.declared.words.Statement.TheVariants.{Model, Inputs, Outputs, Names, Subckt, End, Passed}
use Rattle.blif_read.specs.declared.words.Statement.TheVariants.{Other, Row}
use Rattle.blif_read.specs.declared.netlist.Def.{Def}
use Rattle.blif_read.proofs.Counted.{netlist_size}
use Rattle.blif_read.proofs.Distinct.{none_or, no_kind, signals_distinct}
use Rattle.blif_read.proofs.Shapes.{rows_fit, plane_fits}
use Rattle.blif_read.proofs.Within.{IsWithinDef, all_join, definitions_within, outputs_within}

-- a line without a fault: what stands before it, and behind it
record Passes (calls : Bool) (done : List Line) (line : Line) (rest : List Line) : Type 0 where
  kind : kind_in calls (before_of done) line ≡ None
  later : line_fault calls (line ∷ done) rest ≡ None

passes : (calls : Bool) (done : List Line) (l : Line) (ls : List Line)
    → line_fault calls done (l ∷ ls) ≡ None → Passes calls done l ls
passes calls done l ls e =
    let both = none_or (at_line l.number (kind_of calls done l)) (line_fault calls (l ∷ done) ls) e in
    record {
      kind = (none_or (kind_in calls (before_of done) l) (duplicate_in done l)
          (no_kind l.number (kind_of calls done l) both.0)).0;
      later = both.1;
    }

test_off : {Y : Type 0} (b : Bool) (y : Y) (o : Option Y) → cond b (Some y) o ≡ None → b ≡ false
test_off true y o e = absurd (cc)
test_off false y o e = refl

right_off : (a b : Bool) → a || b ≡ false → b ≡ false
right_off true b e = absurd (cc)
right_off false b e = e

-- a definition has a signal
some_signal : (args : List (List ℕ)) → is_empty args ≡ false → length (last_of args) ≡ 1
some_signal [] e = absurd (cc)
some_signal (a ∷ []) e = refl
some_signal (a ∷ b ∷ args) e = some_signal (b ∷ args) refl

one_each : (w : Statement) (args : List (List ℕ)) (def : Def) → is_names w && is_empty args ≡ false
    → length (elim w as (λ (x : Statement). List (List ℕ)) [ Names ↦ last_of args | _ ↦ [] ]) ≡ length
    (elim w as (λ (x : Statement). List Def) [ Names ↦ def ∷ [] | _ ↦ [] ])
one_each Names args def e = some_signal args e
one_each Model args def e = refl
one_each Inputs args def e = refl
one_each Outputs args def e = refl
one_each Subckt args def e = refl
one_each End args def e = refl
one_each Passed args def e = refl
one_each Other args def e = refl
one_each Row args def e = refl

defined_count : (calls : Bool) (names : List (List ℕ)) (done lines : List Line) → line_fault calls done lines ≡ None
    → length (flat_map defined_in lines) ≡ length (definitions names lines)
defined_count calls names done [] e = refl
defined_count calls names done (l ∷ ls) e =
    let p = passes calls done l ls e in
    let named = right_off (list_any (list_any is_control) l.tokens) (is_names (word l) && is_empty (arguments l))
    (test_off (is_token_fault l) _ _ p.kind) in
    let here = one_each (word l) (arguments l)
    (definition names l.number (arguments l) (rows_before_others ls)) named in
    let rest = defined_count calls names (l ∷ done) ls p.later in
    omega (
      arith,
      length-append (defined_in l) (flat_map defined_in ls),
      length-append
          (definition_at names l ls) (definitions names ls),
    )

pub signals_count : (calls : Bool) (lines : List Line) → line_fault calls [] lines ≡ None
    → length (signals lines) ≡ length (flat_map inputs_in lines) + length (definitions (signals lines) lines)
signals_count calls lines e = length-append (flat_map inputs_in lines) (flat_map defined_in lines)
    ∙ ap (λ n. length (flat_map inputs_in lines) + n) (defined_count calls (signals lines) [] lines e)

-- the cover of a definition fits it
record Covers (def : Def) : Type 0 where
  planes : AllByRecursion (IsPlane (length def.inputs)) def.cubes
  empty : length def.cubes ≡ 0 → def.on ≡ true

planes_of : (n : ℕ) (rows : List (List (List ℕ))) → AllByRecursion (λ row. has_shape n row ≡ true) rows
    → AllByRecursion (IsPlane n) (map plane rows)
planes_of n [] h = tt
planes_of n (row ∷ rows) h = (plane_fits n row h.0, planes_of n rows h.1)

none_is_on : (rows : List (List (List ℕ))) → length (map plane rows) ≡ 0 → not (list_any says_zero rows) ≡ true
none_is_on [] e = refl
none_is_on (row ∷ rows) e = absurd (omega arith)

definition_covers : (names : List (List ℕ)) (n : ℕ) (args : List (List ℕ)) (rows : List (List (List ℕ)))
    → AllByRecursion (λ row. has_shape (length (front_of args)) row ≡ true) rows → Covers (definition names n args rows)
definition_covers names n args rows h = record {
  planes = subst (λ k. AllByRecursion (IsPlane k) (map plane rows)) (sym (length-map (front_of args) (number names)))
      (planes_of (length (front_of args)) rows h);
  empty = none_is_on rows;
}

at_word : (w : Statement) (def : Def) → (w ≡ Names → Covers def)
    → AllByRecursion Covers (elim w as (λ (x : Statement). List Def) [ Names ↦ def ∷ [] | _ ↦ [] ])
at_word Names def h = (h refl, tt)
at_word Model def h = tt
at_word Inputs def h = tt
at_word Outputs def h = tt
at_word Subckt def h = tt
at_word End def h = tt
at_word Passed def h = tt
at_word Other def h = tt
at_word Row def h = tt

-- the cover behind a definition is its own
own_cover : (o : Option Cover) (l : Line) → word l ≡ Names
    → cover_after o l ≡ Some (record { width = length (front_of (arguments l)); first = None })
own_cover o l w = ap (λ x. elim x as (λ (y : Statement). Option Cover) [
  | Names ↦ Some (record { width = length (front_of (arguments l)); first = None })
  | Row ↦ with_row
      (truth l.tokens) o
  | _ ↦ None
]) w

covers : (calls : Bool) (names : List (List ℕ)) (done lines : List Line) → line_fault calls done lines ≡ None
    → AllByRecursion Covers (definitions names lines)
covers calls names done [] e = tt
covers calls names done (l ∷ ls) e =
    let p = passes calls done l ls e in
    all_join Covers (definition_at names l ls) (definitions names ls)
    (at_word (word l) (definition names l.number (arguments l) (rows_before_others ls))
    (λ w. definition_covers names l.number (arguments l) (rows_before_others ls)
    (rows_fit calls (l ∷ done) ls (record { width = length (front_of (arguments l)); first = None })
    (own_cover (before_of done).cover l w) p.later)))
    (covers calls names (l ∷ done) ls p.later)

both_hold : (n : ℕ) (defs : List Def) → AllByRecursion (IsWithinDef n) defs → AllByRecursion Covers defs
    → AllByRecursion (IsDef n) defs
both_hold n [] w c = tt
both_hold n (def ∷ defs) w c =
    (record { names = w.0; planes = c.0.planes; empty = c.0.empty }, both_hold n defs w.1 c.1)

some_there : (xs : List (List ℕ)) → is_empty xs ≡ false → 0 < length xs
some_there [] e = absurd (cc)
some_there (x ∷ xs) e = omega arith

pub some_output : (lines : List Line) → outputs_fault lines ≡ None → 0 < length (flat_map outputs_in lines)
some_output lines e = some_there (flat_map outputs_in lines) (test_off (is_empty (flat_map outputs_in lines)) _ _ e)

-- past the signals nothing is read
pub nothing_past : (inputs : ℕ) (defs : List Def) (s : ℕ) → inputs + length defs ≤ s → operands inputs defs s ≡ []
nothing_past inputs defs s le = let k : nat_lt s inputs ≡ false = le-ltb s inputs (omega arith) in
    ap (λ b. cond b [] (operands_at (slice_get defs (s - inputs)))) k ∙ past defs (s - inputs) (omega arith)
  where
    past : (defs : List Def) (j : ℕ) → length defs ≤ j → operands_at (slice_get defs j) ≡ []
    past [] j le = refl
    past (def ∷ defs) zero le = absurd (omega arith)
    past (def ∷ defs) (suc j) le = past defs j (omega arith)

pub netlist_facts : (lines : List Line) → line_fault false [] lines ≡ None → outputs_fault lines ≡ None
    → undefined_fault (signals lines) lines ≡ None → AreCut (2 ^ 28) lines →
    HasNoCycle (length (flat_map inputs_in lines)) (definitions (signals lines) lines) → IsNetlist (netlist_of lines)
netlist_facts lines e o u c acyclic = record {
  distinct = signals_distinct false lines e;
  count = signals_count false lines e;
  each_def = both_hold (length (signals lines)) (definitions (signals lines) lines)
      (definitions_within (signals lines) lines u) (covers false (signals lines) [] lines e);
  each_output = outputs_within (signals lines) lines u;
  some_output = (let s = some_output lines o in omega
      (arith, length-map (flat_map outputs_in lines) (number (signals lines))));
  no_cycle = acyclic;
  small = (let s = netlist_size lines c.each (some_output lines o) in let f = c.fits in omega arith);
}
