-- A netlist has one answer to each word: its ranks order the equations of its signals, and such equations have one
-- solution.
use Rattle.std.specs.Prelude.{◌≡◌, ℕ, zero, suc, ◌+◌, ◌-◌, ◌<◌, Bool, true, false, cond, not, ◌&&◌, ◌||◌, nat_lt, List}
use Rattle.std.specs.Prelude.{[], ◌∷◌, map, length, Option, Some, None, slice_get, slice_index_or}
use Rattle.std.specs.List.{AllByRecursion, list_any}
use Rattle.std.proofs.Common.{refl, sym, ap, ◌∙◌, arith, inl, inr, subst}
use Rattle.std.proofs.lemmas.Bool.{le-ltb, lt-ltb, cases_lt}
use Rattle.std.proofs.lemmas.List.{length-map}
use Rattle.blif_read.specs.Parts.{NetView, operands, operands_at}
use Rattle.blif_read.specs.Equations.{takes, matches, cover_value, Fits, IsAnswer}
use Rattle.circuit.specs.Ranked.{IsRanked, Solves}
use Rattle.circuit.specs.OneAnswer.{HasOneAnswer}
use Rattle.circuit.proofs.Solutions.{some_solution}
use Rattle.blif_read.specs.Netlist.{IsRankedBy, IsDef, IsNetlist}
use Rattle.blif_read.specs.declared.netlist.Def.{Def}
use Rattle.blif_read.specs.declared.netlist.Cube.{Cube}

-- the equation of each signal
abbrev pub cover_equation : Option Def → (ℕ → Bool) → Bool
cover_equation None v = false
cover_equation (Some def) v = cover_value def v

-- the value of signal s by those of others: an input's is its bit of the word, another's that of its cover
abbrev pub equation : NetView → List Bool → ℕ → (ℕ → Bool) → Bool
equation net word s v =
    cond (nat_lt s net.inputs) (slice_index_or word s false) (cover_equation (slice_get net.defs (s - net.inputs)) v)

matches_same : (plane signals : List ℕ) (v w : ℕ → Bool) → AllByRecursion (λ s. v s ≡ w s) signals
    → matches plane signals v ≡ matches plane signals w
matches_same [] signals v w h = refl
matches_same (b ∷ bs) [] v w h = refl
matches_same (b ∷ bs) (s ∷ signals) v w h =
    ap (λ x. takes b x && matches bs signals v) h.0 ∙ ap (λ y. takes b (w s) && y) (matches_same bs signals v w h.1)

some_matches_same : (cubes : List Cube) (signals : List ℕ) (v w : ℕ → Bool) → AllByRecursion (λ s. v s ≡ w s) signals
    → list_any (λ cube. matches cube.plane signals v) cubes ≡ list_any (λ cube. matches cube.plane signals w) cubes
some_matches_same [] signals v w h = refl
some_matches_same (c ∷ cs) signals v w h =
    ap (λ x. x || list_any (λ cube. matches cube.plane signals v) cs) (matches_same c.plane signals v w h)
    ∙ ap (λ y. matches c.plane signals w || y) (some_matches_same cs signals v w h)

by_on : (on : Bool) (a b : Bool) → a ≡ b → (elim on as (λ (x : Bool). Bool) [ true ↦ a | false ↦ not a ])
    ≡ (elim on as (λ (x : Bool). Bool) [ true ↦ b | false ↦ not b ])
by_on true a b e = e
by_on false a b e = ap not e

-- a cover reads the inputs of its definition alone
pub value_same : (def : Def) (v w : ℕ → Bool) → AllByRecursion (λ s. v s ≡ w s) def.inputs → cover_value def v
    ≡ cover_value def w
value_same def v w h = by_on def.on _ _ (some_matches_same def.cubes def.inputs v w h)

cover_same : (o : Option Def) (v w : ℕ → Bool) → AllByRecursion (λ s. v s ≡ w s) (operands_at o) → cover_equation o v
    ≡ cover_equation o w
cover_same None v w h = refl
cover_same (Some def) v w h = value_same def v w h

equation_same : (input bit : Bool) (o : Option Def) (v w : ℕ → Bool)
    → AllByRecursion (λ s. v s ≡ w s) (cond input [] (operands_at o)) → cond input bit (cover_equation o v)
    ≡ cond input bit (cover_equation o w)
equation_same true bit o v w h = refl
equation_same false bit o v w h = cover_same o v w h

lower_same : (rank : ℕ → ℕ) (v w : ℕ → Bool) (c : ℕ) → ((d : ℕ) → rank d < rank c → v d ≡ w d) → (xs : List ℕ)
    → AllByRecursion (λ d. rank d < rank c) xs → AllByRecursion (λ s. v s ≡ w s) xs
lower_same rank v w c same [] h = tt
lower_same rank v w c same (x ∷ xs) h = (same x h.0, lower_same rank v w c same xs h.1)

-- the equation of a signal reads signals of lower rank alone
pub is_ranked : (net : NetView) (word : List Bool) (rank : ℕ → ℕ) → IsRankedBy rank net.inputs net.defs
    → IsRanked rank (equation net word)
is_ranked net word rank r c v w same =
    equation_same (nat_lt c net.inputs) (slice_index_or word c false) (slice_get net.defs (c - net.inputs)) v w
    (lower_same rank v w c same (operands net.inputs net.defs c) (r.lower c))

-- what solves the equations fits the word
solution_fits : (net : NetView) (word : List Bool) (v : ℕ → Bool) → Solves (equation net word) v
    → Fits net.inputs net.defs word v
solution_fits net word v s = record {
  bits = λ i lt. s i ∙ (let k : nat_lt i net.inputs ≡ true = lt-ltb i net.inputs lt in rw k refl);
  covers = λ j def is. s (net.inputs + j) ∙ (let k : nat_lt (net.inputs + j) net.inputs ≡ false =
      le-ltb (net.inputs + j) net.inputs (omega arith) in
      let m : net.inputs + j - net.inputs ≡ j = omega arith in rw (k, m) (ap (λ o. cover_equation o v) is));
}

-- for each word some values of the signals fit it
pub some_valuation : (net : NetView) (word : List Bool) → IsNetlist net → (v : ℕ → Bool)
    × Fits net.inputs net.defs word v
some_valuation net word ok = (
  _,
  solution_fits net word _ (some_solution ok.no_cycle.rank (equation net word)
      (is_ranked net word ok.no_cycle.rank ok.no_cycle.ranked)),
)

-- a netlist answers each word
pub some_answer : (net : NetView) (word : List Bool) → IsNetlist net → (answer : List Bool) × IsAnswer net word answer
some_answer net word ok = let some =
    some_valuation net word ok in (map some.0 net.outputs, record { values = some.0; fit = some.1; shown = refl })

-- what two fitting valuations say of the signals is the same
def_at : (P : Def → Type 0) (defs : List Def) (j : ℕ) (def : Def) → AllByRecursion P defs → slice_get defs j ≡ Some def
    → P def
def_at P [] j def all is = absurd (cc)
def_at P (d ∷ ds) zero def all is = let e : d ≡ def = cc in subst P e all.0
def_at P (d ∷ ds) (suc j) def all is = def_at P ds j def all.1 is

get_some : (defs : List Def) (j : ℕ) → j < length defs → (def : Def) × (slice_get defs j ≡ Some def)
get_some [] j lt = absurd (omega arith)
get_some (d ∷ ds) zero lt = (d, refl)
get_some (d ∷ ds) (suc j) lt = get_some ds j (omega arith)

both : (P Q : ℕ → Type 0) (R : ℕ → Type 0) (xs : List ℕ) → ((x : ℕ) → P x → Q x → R x) → AllByRecursion P xs
    → AllByRecursion Q xs → AllByRecursion R xs
both P Q R [] f p q = tt
both P Q R (x ∷ xs) f p q = (f x p.0 q.0, both P Q R xs f p.1 q.1)

same_values : (net : NetView) (word : List Bool) (ok : IsNetlist net) (v w : ℕ → Bool)
    → Fits net.inputs net.defs word v → Fits net.inputs net.defs word w → (n s : ℕ) → ok.no_cycle.rank s < n
    → s < length net.names → v s ≡ w s
same_values net word ok v w fv fw zero s lt at = absurd (omega arith)
same_values net word ok v w fv fw (suc n) s lt at = elim (cases_lt s net.inputs) [
  | inl small ↦ fv.bits s small ∙ sym (fw.bits s small)
  | inr large ↦
      let count = ok.count in
      let j_lt : s - net.inputs < length net.defs = omega arith in
      let found = get_some net.defs (s - net.inputs) j_lt in
      let back : net.inputs + (s - net.inputs) ≡ s = omega arith in
      let def_ok = def_at (IsDef (length net.names)) net.defs (s - net.inputs) found.0 ok.each_def found.1 in
      let k : nat_lt s net.inputs ≡ false = le-ltb s net.inputs large in
      let reads : operands net.inputs net.defs s ≡ found.0.inputs =
      ap (λ b. cond b [] (operands_at (slice_get net.defs (s - net.inputs)))) k ∙ ap operands_at found.1 in
      let lower : AllByRecursion (λ d. ok.no_cycle.rank d < ok.no_cycle.rank s) found.0.inputs =
      subst (AllByRecursion (λ d. ok.no_cycle.rank d < ok.no_cycle.rank s)) reads (ok.no_cycle.ranked.lower s) in
      sym (ap v back) ∙ fv.covers (s - net.inputs) found.0 found.1
      ∙ ap (λ x. x) (value_same found.0 v w
      (both (λ d. ok.no_cycle.rank d < ok.no_cycle.rank s) (λ d. d < length net.names)
      (λ d. v d ≡ w d) found.0.inputs
      (λ x lt2 in_range. same_values net word ok v w fv fw n x (omega arith) in_range) lower def_ok.names))
      ∙ sym (fw.covers (s - net.inputs) found.0 found.1) ∙ ap w back
]

-- values that fit the same word are the same for each signal of the netlist
pub one_valuation : (net : NetView) (word : List Bool) (v w : ℕ → Bool) → IsNetlist net
    → Fits net.inputs net.defs word v → Fits net.inputs net.defs word w → (s : ℕ) → s < length net.names → v s ≡ w s
one_valuation net word v w ok p q s at = same_values net word ok v w p q (suc (ok.no_cycle.rank s)) s (omega arith) at

same_shown : (net : NetView) (v w : ℕ → Bool) → ((s : ℕ) → s < length net.names → v s ≡ w s) → (outputs : List ℕ)
    → AllByRecursion (λ s. s < length net.names) outputs → map v outputs ≡ map w outputs
same_shown net v w same [] all = refl
same_shown net v w same (o ∷ os) all =
    ap (λ b. b ∷ map v os) (same o all.0) ∙ ap (λ bs. w o ∷ bs) (same_shown net v w same os all.1)

-- a netlist has no two answers to a word
pub one_answer : (net : NetView) (word a b : List Bool) → IsNetlist net → IsAnswer net word a → IsAnswer net word b → a
    ≡ b
one_answer net word a b ok p q =
    p.shown
    ∙ same_shown net p.values q.values (one_valuation net word p.values q.values ok p.fit q.fit) net.outputs
    ok.each_output ∙ sym q.shown

-- an answer has one bit for each output
pub answer_length : (net : NetView) (word answer : List Bool) → IsAnswer net word answer → length answer
    ≡ length net.outputs
answer_length net word answer a = ap length a.shown ∙ length-map net.outputs a.values

-- so a netlist has one answer to each word
pub netlist_once : (net : NetView) → IsNetlist net → HasOneAnswer net.inputs (length net.outputs) (IsAnswer net)
netlist_once net ok = record {
  some = λ x long. some_answer net x ok;
  only = λ x y z long a b. one_answer net x y z ok a b;
  whole = λ x y long a. answer_length net x y a;
}
