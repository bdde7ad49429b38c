-- What is computed over arrays is what the plan fixes before a cell is made.
use Rattle.std.proofs.Common.{◌≡◌, ℕ, suc, ◌+◌, ◌<◌, ◌≤◌, Bool, true, false, cond, List, [], ◌∷◌, ◌++◌, length}
use Rattle.std.proofs.Common.{replicate, get_or, Some, refl, sym, ap, ◌∙◌, subst, arith, append_assoc}
use Rattle.std.specs.Prelude.{slice_get}
use Rattle.std.specs.List.{AllByRecursion}
use Rattle.std.proofs.lemmas.Option.{slice_get_within}
use Rattle.circuit.specs.declared.gate.Gate.{Gate}
use Rattle.circuit.specs.declared.gate.Gate.TheVariants as gates
use Rattle.circuit.specs.PlainNets.{PlainView, is_constant, IsPlainNet}
use Rattle.level_balance.specs.Uses.{operands, needed, counts, uses_from, uses, use_count}
use Rattle.level_balance.specs.Levels.{greatest, level_of, levels_from, levels, output_row, user_rows_from}
use Rattle.level_balance.specs.Levels.{user_rows}
use Rattle.level_balance.specs.Code.Arrays.{greatest_by, level_by, levels_by}
use Rattle.level_balance.specs.Code.Chained.{AreLinks}
use Rattle.level_balance.specs.Plan.{Frame, frame}
use Rattle.level_balance.proofs.Marks.{AllIn}
use Rattle.level_balance.proofs.Plain.{is_plain}

-- the numbers of uses agree at these gates
abbrev FansAre : List ℕ → List ℕ → List ℕ → Type 0
FansAre fans us xs = AllIn (λ x. get_or fans x 0 ≡ use_count us x) xs

greatest_is_by : (n b : ℕ) (fans us done xs : List ℕ) → FansAre fans us xs
    → greatest_by n b fans done xs ≡ greatest n b us done xs
greatest_is_by n b fans us done [] h = refl
greatest_is_by n b fans us done (x ∷ xs) h = by (is_constant n x) refl (greatest_is_by n b fans us done xs h.1)
  where
    by : (c : Bool) → is_constant n x ≡ c → greatest_by n b fans done xs ≡ greatest n b us done xs
        → greatest_by n b fans done (x ∷ xs) ≡ greatest n b us done (x ∷ xs)
    by true e same = rw (e, greatest_by, greatest) same
    by false e same = rw (e, greatest_by, greatest) (rw (h.0, same) refl)

level_is_by : (n b : ℕ) (fans us done : List ℕ) (g : Gate) → FansAre fans us (operands g)
    → level_by n b fans done g ≡ level_of n b us done g
level_is_by n b fans us done (gates.Input i) h = refl
level_is_by n b fans us done gates.Zero h = refl
level_is_by n b fans us done gates.One h = refl
level_is_by n b fans us done (gates.Buf x) h = ap suc (greatest_is_by n b fans us done (x ∷ []) h)
level_is_by n b fans us done (gates.Inv x) h = ap suc (greatest_is_by n b fans us done (x ∷ []) h)
level_is_by n b fans us done (gates.Maj x y z) h = ap suc (greatest_is_by n b fans us done (x ∷ y ∷ z ∷ []) h)

levels_are_by : (n b : ℕ) (fans us done : List ℕ) (gs : List Gate)
    → ((k : ℕ) (g : Gate) → slice_get gs k ≡ Some g → FansAre fans us (operands g))
    → levels_by n b fans done gs ≡ levels_from n b us done gs
levels_are_by n b fans us done [] h = refl
levels_are_by n b fans us done (g ∷ gs) h =
    ap (λ (l : ℕ). levels_by n b fans (done ++ l ∷ []) gs) (level_is_by n b fans us done g (h 0 g refl))
    ∙ levels_are_by n b fans us (done ++ level_of n b us done g ∷ []) gs (λ k x e. h (suc k) x e)

fans_at : (gates : ℕ) (first next fans us : List ℕ) → AreLinks first next fans gates us → (i : ℕ) (xs : List ℕ)
    → i ≤ gates → AllIn (λ x. x < i) xs → FansAre fans us xs
fans_at gates first next fans us links i [] le low = tt
fans_at gates first next fans us links i (x ∷ xs) le low =
    (links.counts x (let lt = low.0 in omega arith), fans_at gates first next fans us links i xs le low.1)

-- every use is of a gate that is there
all_low : (m i : ℕ) (xs ys : List ℕ) → i ≤ m → AllIn (λ x. x < i) xs → AllByRecursion (λ g. g < m) ys
    → AllByRecursion (λ g. g < m) (xs ++ ys)
all_low m i [] ys le low rest = rest
all_low m i (x ∷ xs) ys le low rest = ((let lt = low.0 in omega arith), all_low m i xs ys le low.1 rest)

uses_low_from : (n m : ℕ) (marks : List Bool) (i : ℕ) (gs : List Gate) (outs : List ℕ) → i + length gs ≤ m
    → ((k : ℕ) (g : Gate) → slice_get gs k ≡ Some g → AllIn (λ x. x < i + k) (operands g))
    → AllByRecursion (λ g. g < m) outs → AllByRecursion (λ g. g < m) (uses_from n marks i gs ++ outs)
uses_low_from n m marks i [] outs le low rest = rest
uses_low_from n m marks i (g ∷ gs) outs le low rest =
    by (counts n marks i) refl
    (uses_low_from n m marks (suc i) gs outs (omega arith)
    (λ k x e. subst (λ t. AllIn (λ y. y < t) (operands x))
    (let z : i + suc k ≡ suc i + k = omega arith in z) (low (suc k) x e)) rest)
  where
    by : (b : Bool) → counts n marks i ≡ b → AllByRecursion (λ y. y < m) (uses_from n marks (suc i) gs ++ outs)
        → AllByRecursion (λ y. y < m) (uses_from n marks i (g ∷ gs) ++ outs)
    by true c h =
        rw (c, uses_from)
        (subst (AllByRecursion (λ y. y < m)) (sym (append_assoc (operands g) (uses_from n marks (suc i) gs) outs))
        (all_low m (i + 0) (operands g) (uses_from n marks (suc i) gs ++ outs) (omega arith) (low 0 g refl) h))
    by false c h = rw (c, uses_from) h

pub uses_low : (net : PlainView) → IsPlainNet net → (marks : List Bool) (us : List ℕ)
    → us ≡ uses_from net.inputs marks 0 net.gates ++ net.outputs → AllByRecursion (λ g. g < length net.gates) us
uses_low net known marks us is =
    let plain = is_plain net known in
    subst (AllByRecursion (λ g. g < length net.gates)) (sym is)
    (uses_low_from net.inputs (length net.gates) marks 0 net.gates net.outputs (omega arith)
    (λ k g e. subst (λ t. AllIn (λ y. y < t) (operands g)) (let z : k ≡ 0 + k = omega arith in z)
    (plain.lower k g e)) known.each_output)

pub all_out : (m : ℕ) (xs : List ℕ) → AllByRecursion (λ x. x < m) xs → AllIn (λ x. x < m) xs
all_out m [] h = tt
all_out m (x ∷ xs) h = (h.0, all_out m xs h.1)

abbrev pub built : ℕ → ℕ → List Bool → List ℕ → List ℕ → ℕ → List ℕ → Frame
built n b marks us ls last urs =
    record { inputs = n; base = b; marks = marks; uses = us; levels = ls; last = last; user_rows = urs }

-- the outline is the plan's frame
pub outline_is : (net : PlainView) (three : Bool) → IsPlainNet net
    → (b : ℕ) (marks : List Bool) (us first next fans ls : List ℕ) (row last : ℕ) (urs : List ℕ)
    → b ≡ cond three 3 2 → marks ≡ needed net → us ≡ uses_from net.inputs marks 0 net.gates ++ net.outputs
    → AreLinks first next fans (length net.gates) us
    → ls ≡ levels_by net.inputs b fans [] net.gates
    → row ≡ greatest_by net.inputs b fans ls net.outputs → last ≡ row + 1
    → urs ≡ user_rows_from net.inputs marks ls 0 net.gates ++ replicate (length net.outputs) last
    → built net.inputs b marks us ls last urs ≡ frame net three
unfolding frame
outline_is net three known b marks us first next fans ls row last urs be me ue links le re lste ure =
    let plain = is_plain net known in
    let B = cond three 3 2 in
    let M = needed net in
    let U = uses net M in
    let L = levels net B U in
    let uu : us ≡ U = rw (ue, me) refl in
    let low = λ (k : ℕ) (g : Gate) (e : slice_get net.gates k ≡ Some g). fans_at
    (length net.gates) first next fans us links k (operands g)
    (let lt = slice_get_within net.gates k g e in omega arith) (plain.lower k g e) in
    let ll : ls ≡ L = rw (le, levels_are_by net.inputs b fans us [] net.gates low, be, uu) refl in
    let outs = fans_at (length net.gates) first next fans us links (length net.gates) net.outputs (omega arith)
    (all_out (length net.gates) net.outputs known.each_output) in
    let rr : row ≡ greatest net.inputs B U L net.outputs =
    rw (re, greatest_is_by net.inputs b fans us ls net.outputs outs, be, uu, ll) refl in
    let tt_is : last ≡ output_row net B U L = lste ∙ (let z : row + 1 ≡ suc row = omega arith in z) ∙ ap suc rr in
    let uru : urs ≡ user_rows net M L (output_row net B U L) = rw (ure, me, ll, tt_is) refl in
    rw (be, me, uu, ll, tt_is, uru) refl
