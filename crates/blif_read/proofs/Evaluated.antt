-- Values that are computed in order are those of every valuation that fits.
use Rattle.std.proofs.Common.{◌≡◌, ℕ, ◌+◌, ◌-◌, ◌<◌, ◌≤◌, ◌||◌, Bool, true, false, cond, List, [], ◌∷◌, ◌++◌, map}
use Rattle.std.proofs.Common.{length, take, drop, set, get_or, reverse, Some, Result, Ok, Err, refl, sym, ap, ◌∙◌}
use Rattle.std.proofs.Common.{subst, arith, inl, inr, add-one, drop-cons, append_assoc, get_or-set_other}
use Rattle.std.proofs.Common.{get_or-set_same}
use Rattle.std.specs.Prelude.{nat_lt, nat_eq, slice_get, IfOk}
use Rattle.std.specs.List.{AllByRecursion}
use Rattle.std.proofs.lemmas.Bool.{cases_Bool, eqb-true, eqb-false, ltb-false, le-ltb}
use Rattle.std.proofs.lemmas.List.{take-append-drop, take_more, reverse-append}
use Rattle.std.proofs.lemmas.Option.{slice_get-get_or}
use Rattle.blif_read.specs.Parts.{NetView, operands, operands_at}
use Rattle.circuit.specs.Gates.{valuation}
use Rattle.blif_read.specs.Equations.{matches, cover_value, Fits, IsAnswer}
use Rattle.blif_read.proofs.OneAnswer.{value_same, some_answer}
use Rattle.blif_read.specs.Netlist.{IsNetlist}
use Rattle.blif_read.specs.Walked.{known, Settled}
use Rattle.blif_read.specs.Walked.{IsOrder}
use Rattle.blif_read.specs.declared.netlist.Def.{Def}
use Rattle.blif_read.proofs.Closing.{all_map}

-- a plane that is longer than the signals matches past them
pub matches_past : (plane signals : List ℕ) (v : ℕ → Bool) → signals ≡ [] → matches plane signals v ≡ true
matches_past plane signals v e = ap (λ ss. matches plane ss v) e ∙ none plane
  where
    none : (plane : List ℕ) → matches plane [] v ≡ true
    none [] = refl
    none (b ∷ bs) = refl

settled_part : (inputs : ℕ) (reads : ℕ → List ℕ) (xs ys : List ℕ) → Settled inputs reads (xs ++ ys)
    → Settled inputs reads ys
settled_part inputs reads [] ys s = s
settled_part inputs reads (x ∷ xs) ys s = settled_part inputs reads xs ys s.2

all_part : (P : ℕ → Type 0) (xs ys : List ℕ) → AllByRecursion P (xs ++ ys) → AllByRecursion P ys
all_part P [] ys h = h
all_part P (x ∷ xs) ys h = all_part P xs ys h.1

-- the signals up to one in an order, latest first
split : (order : List ℕ) (i : ℕ) → i < length order
    → reverse order ≡ reverse (drop (i + 1) order) ++ get_or order i 0 ∷ reverse (take i order)
split order i lt =
    ap reverse (sym (take-append-drop i order)) ∙ reverse-append (take i order) (drop i order)
    ∙ ap (λ xs. reverse xs ++ reverse (take i order)) (drop-cons order i 0 lt)
    ∙ ap (λ n. reverse (get_or order i 0 ∷ drop n order) ++ reverse (take i order)) (sym (add-one i))
    ∙ ap (λ xs. xs ++ reverse (take i order)) (reverse-append (get_or order i 0 ∷ []) (drop (i + 1) order))
    ∙ append_assoc (reverse (drop (i + 1) order)) (get_or order i 0 ∷ []) (reverse (take i order))

-- a signal of the order: it is defined, and what it reads is known
pub record Turn (inputs : ℕ) (defs : List Def) (done : List ℕ) (s : ℕ) : Type 0 where
  pub defined : inputs ≤ s
  pub within : s < inputs + length defs
  pub reads : AllByRecursion (λ q. known inputs done q ≡ true) (operands inputs defs s)

left_off : (a b : Bool) → a || b ≡ false → a ≡ false
left_off true b e = e
left_off false b e = refl

pub turn : (inputs : ℕ) (defs : List Def) (order : List ℕ) (i : ℕ) → IsOrder inputs defs order → i < length order
    → Turn inputs defs (reverse (take i order)) (get_or order i 0)
turn inputs defs order i o lt =
    let s = settled_part inputs (operands inputs defs) (reverse (drop (i + 1) order))
    (get_or order i 0 ∷ reverse (take i order))
    (subst (Settled inputs (operands inputs defs)) (split order i lt) o.settled) in
    let b = all_part (λ q. q < inputs + length defs) (reverse (drop (i + 1) order))
    (get_or order i 0 ∷ reverse (take i order))
    (subst (AllByRecursion (λ q. q < inputs + length defs)) (split order i lt) o.bounded) in
    record { defined = ltb-false _ _ (left_off _ _ s.0); within = b.0; reads = s.1 }

was_known : (a b c : Bool) → b ≡ false → a || (b || c) ≡ true → a || c ≡ true
was_known true b c e f = refl
was_known false b c e f = subst (λ x. x || c ≡ true) e f

-- one more value
pub one_more_value : (inputs : ℕ) (defs : List Def) (word : List Bool) (order : List ℕ) (i : ℕ)
    (values read : List Bool) (def : Def) (value : Bool)
    → IsOrder inputs defs order → i < length order → length values ≡ inputs + length defs
    → def ≡ get_or defs (get_or order i 0 - inputs) def → read ≡ values → value ≡ cover_value def (valuation read)
    → ((v : ℕ → Bool) → Fits inputs defs word v → (q : ℕ) → known inputs (reverse (take i order)) q ≡ true
    → valuation values q ≡ v q)
    → (v : ℕ → Bool) → Fits inputs defs word v → (q : ℕ) → known inputs (reverse (take (i + 1) order)) q ≡ true
    → valuation (set values (get_or order i 0) value) q ≡ v q
one_more_value inputs defs word order i values read def value o lt size is r val agrees v fit q k =
    let t = turn inputs defs order i o lt in
    let defined = t.defined in
    let within = t.within in
    let done : reverse (take (i + 1) order) ≡ get_or order i 0 ∷ reverse (take i order) = ap reverse
    (take_more order i 0 lt) ∙ reverse-append (take i order) (get_or order i 0 ∷ []) in
    let place : get_or order i 0 < length values = omega arith in
    elim (cases_Bool (nat_eq q (get_or order i 0))) [
      | inl same ↦
          let at : q ≡ get_or order i 0 = eqb-true q (get_or order i 0) same in
          let found : slice_get defs (get_or order i 0 - inputs) ≡ Some def = slice_get-get_or defs
          (get_or order i 0 - inputs) def (omega arith) ∙ ap (λ x. Some x) (sym is) in
          let off : nat_lt (get_or order i 0) inputs ≡ false = le-ltb (get_or order i 0) inputs defined in
          let reads : operands inputs defs (get_or order i 0) ≡ def.inputs =
          ap (λ b. cond b [] (operands_at (slice_get defs (get_or order i 0 - inputs)))) off
          ∙ ap operands_at found in
          let same_reads = all_map (λ x. known inputs (reverse (take i order)) x ≡ true)
          (λ x. valuation values x ≡ v x) def.inputs (λ x kx. agrees v fit x kx)
          (subst (AllByRecursion (λ x. known inputs (reverse (take i order)) x ≡ true)) reads t.reads) in
          let back : inputs + (get_or order i 0 - inputs) ≡ get_or order i 0 = omega arith in
          subst (λ x. valuation (set values (get_or order i 0) value) x ≡ v x) (sym at)
          (get_or-set_same values (get_or order i 0) value false place ∙ val
          ∙ ap (λ vs. cover_value def (valuation vs)) r ∙ value_same def (valuation values) v same_reads
          ∙ sym (fit.covers (get_or order i 0 - inputs) def found) ∙ ap v back)
      | inr other ↦ get_or-set_other values (get_or order i 0) q value false (eqb-false q (get_or order i 0) other)
          ∙ agrees v fit q (was_known (nat_lt q inputs) (nat_eq q (get_or order i 0)) _ other
          (subst (λ ds. known inputs ds q ≡ true) done k))
    ]

-- the outputs' values are the answer
shown_same : (values : List Bool) (v : ℕ → Bool) (total : ℕ) → ((s : ℕ) → s < total → valuation values s ≡ v s)
    → (outputs : List ℕ) → AllByRecursion (λ s. s < total) outputs → map (valuation values) outputs ≡ map v outputs
shown_same values v total same [] all = refl
shown_same values v total same (o ∷ os) all = ap (λ b. b ∷ map (valuation values) os) (same o all.0)
    ∙ ap (λ bs. v o ∷ bs) (shown_same values v total same os all.1)

answers : (net : NetView) (word values answer : List Bool) → IsNetlist net
    → ((v : ℕ → Bool) → Fits net.inputs net.defs word v → (s : ℕ) → s < net.inputs + length net.defs
    → valuation values s ≡ v s) → answer ≡ map (valuation values) net.outputs → IsAnswer net word answer
answers net word values answer facts agrees e =
    let some = (some_answer net word facts).1 in
    record {
      values = some.values;
      fit = some.fit;
      shown = e ∙ shown_same values some.values (length net.names)
          (λ s lt. agrees some.values some.fit s (let c = facts.count in omega arith)) net.outputs facts.each_output;
    }

pub shown_answers : {E : Type 0} (r : Result (List Bool) E) (net self : NetView) (defs : List Def) (outputs : List ℕ)
    (word given values read : List Bool)
    → IsNetlist net → net ≡ self → defs ≡ net.defs → outputs ≡ net.outputs → given ≡ word → read ≡ values
    → ((v : ℕ → Bool) → Fits net.inputs defs given v → (s : ℕ) → s < net.inputs + length defs
    → valuation values s ≡ v s)
    → IfOk r (λ answer. answer ≡ map (valuation read) outputs) → IfOk r (λ answer. IsAnswer self word answer)
shown_answers (Err e) net self defs outputs word given values read facts n d o g r agrees shown = tt
shown_answers (Ok answer) net self defs outputs word given values read facts n d o g r agrees shown =
    subst (λ x. IsAnswer x word answer) n
    (answers net word values answer facts
    (subst (λ w. (v : ℕ → Bool) → Fits net.inputs net.defs w v → (s : ℕ) → s < net.inputs + length net.defs
    → valuation values s ≡ v s) g
    (subst (λ ds. (v : ℕ → Bool) → Fits net.inputs ds given v → (s : ℕ) → s < net.inputs + length ds
    → valuation values s ≡ v s) d agrees))
    (shown ∙ ap (λ vs. map (valuation vs) outputs) r ∙ ap (map (valuation values)) o))
