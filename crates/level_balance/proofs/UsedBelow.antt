-- Uses counted from the last gate down: a gate has uses exactly where an output needs it, and as many as the plan says.
use Rattle.std.proofs.Common.{◌≡◌, ℕ, zero, suc, ◌+◌, ◌<◌, ◌≤◌, ◌&&◌, ◌||◌, Bool, true, false, not, ltb, List, [], ◌∷◌}
use Rattle.std.proofs.Common.{◌++◌, map, length, take, replicate, get_or, set, slice_get, Some, Option, refl, sym, ap}
use Rattle.std.proofs.Common.{◌∙◌, arith, inl, inr, take-suc, lt-ltb, append_assoc}
use Rattle.std.proofs.Math.Seq.{take-length}
use Rattle.std.proofs.lemmas.Bool.{cases_Bool, ltb-true, eqb-true, or_cases}
use Rattle.std.proofs.lemmas.List.{length-replicate, length-take-le, map-set}
use Rattle.std.proofs.lemmas.Option.{slice_get-get_or}
use Rattle.circuit.specs.declared.gate.Gate.{Gate}
use Rattle.circuit.specs.declared.gate.Gate.TheVariants as gates
use Rattle.circuit.specs.PlainNets.{PlainView, is_constant, MayStand, IsPlainNet}
use Rattle.level_balance.specs.Uses.{operands, operands_by, mark_each, mark_below, needed, uses_from, uses, use_count}
use Rattle.level_balance.specs.Code.Steps.{counted_operands}
use Rattle.level_balance.specs.Code.Served.{used_each, counts_by, operands_used, used_below, at_place}
use Rattle.level_balance.proofs.AtMost.{used_append}
use Rattle.level_balance.proofs.Marks.{mark, own_mark}
use Rattle.level_balance.proofs.Plain.{is_plain}
use Rattle.level_balance.proofs.Used.{uses_step}
use Rattle.level_balance.proofs.UsedEach.{used_length, used_at, none_at}

-- which gates have uses
abbrev pub have_uses : List ℕ → List Bool
have_uses fans = map (λ fan. ltb 0 fan) fans

pub has_uses : (fans : List ℕ) (i : ℕ) → mark (have_uses fans) i ≡ ltb 0 (get_or fans i 0)
has_uses [] i = refl
has_uses (x ∷ xs) zero = refl
has_uses (x ∷ xs) (suc i) = has_uses xs i

each_has_uses : (fans xs : List ℕ) → mark_each (have_uses fans) xs ≡ have_uses (used_each fans xs)
each_has_uses fans [] = refl
each_has_uses fans (x ∷ xs) =
    let more = suc (get_or fans x 0) in
    let some : ltb 0 more ≡ true = lt-ltb 0 more (omega arith) in
    ap (λ (b : Bool). mark_each (set (have_uses fans) x b) xs) (sym some)
    ∙ ap (λ (ms : List Bool). mark_each ms xs) (sym (map-set (λ fan. ltb 0 fan) fans x more))
    ∙ each_has_uses (set fans x more) xs

none_has_uses : (m : ℕ) → replicate m false ≡ have_uses (replicate m 0)
none_has_uses zero = refl
none_has_uses (suc m) = ap (λ (ms : List Bool). false ∷ ms) (none_has_uses m)

-- inputs and constants read no gate
no_operands : (n i : ℕ) (g : Gate) → MayStand n i g → i < n + 2 → operands g ≡ []
no_operands n i (gates.Input k) may lt = refl
no_operands n i gates.Zero may lt = refl
no_operands n i gates.One may lt = refl
no_operands n i (gates.Buf x) may lt = absurd (let k = may.0 in omega arith)
no_operands n i (gates.Inv x) may lt = absurd (let k = may.0 in omega arith)
no_operands n i (gates.Maj x y z) may lt = absurd (let k = may.0 in omega arith)

constant_low : (n i : ℕ) → is_constant n i ≡ true → i < n + 2
constant_low n i con = elim (or_cases _ _ con) [
  | inl e ↦ (let k = eqb-true i n e in omega arith)
  | inr e ↦ (let k = eqb-true i (n + 1) e in omega arith)
]

-- of a gate that has uses the operands count, and of no other
used_operands : (n fan i : ℕ) (g : Gate) → MayStand n i g
    → operands_used n fan i (Some g) ≡ elim (ltb 0 fan) as (λ (b : Bool). List ℕ) [ true ↦ operands g | false ↦ [] ]
used_operands n fan i g may = elim (cases_Bool (ltb i n)) [
  | inl low ↦ none (no_operands n i g may (let k = ltb-true i n low in omega arith))
  | inr high ↦ elim (cases_Bool (is_constant n i)) [
    | inl con ↦ none (no_operands n i g may (constant_low n i con))
    | inr free ↦ some high free
  ]
]
  where
    either : (b : Bool) (xs : List ℕ) → xs ≡ [] → elim b as (λ (t : Bool). List ℕ) [ true ↦ xs | false ↦ [] ] ≡ []
    either true xs e = e
    either false xs e = refl

    none : operands g ≡ [] → operands_used n fan i
        (Some g) ≡ elim (ltb 0 fan) as (λ (b : Bool). List ℕ) [ true ↦ operands g | false ↦ [] ]
    none e = either (counts_by n fan i) (operands g) e ∙ sym (either (ltb 0 fan) (operands g) e)

    same : (low con has : Bool) → low ≡ false → con ≡ false → (low || (has && not con)) ≡ has
    same true con has l c = let z : true ≡ false = l in cc
    same false true has l c = let z : true ≡ false = c in cc
    same false false true l c = refl
    same false false false l c = refl

    some : ltb i n ≡ false → is_constant n i ≡ false
        → operands_used n fan i (Some g) ≡ elim (ltb 0 fan) as (λ (b : Bool). List ℕ) [ true ↦ operands g | false ↦ [] ]
    some high free = ap (λ (b : Bool). elim b as (λ (t : Bool). List ℕ) [ true ↦ operands g | false ↦ [] ])
        (same (ltb i n) (is_constant n i) (ltb 0 fan) high free)

-- the uses of a list in two parts
counted_append : (j : ℕ) (xs ys : List ℕ) → use_count (xs ++ ys) j ≡ use_count xs j + use_count ys j
counted_append j xs ys =
    let zeros = replicate {A = ℕ} (suc j) 0 in
    let size : length zeros ≡ suc j = length-replicate (suc j) 0 in
    let more = used_length zeros xs in
    let a = used_at zeros (xs ++ ys) 0 j (omega arith) in
    let b = used_at zeros xs 0 j (omega arith) in
    let c = used_at (used_each zeros xs) ys 0 j (omega arith) in
    let e = ap (λ (fans : List ℕ). get_or fans j 0) (used_append zeros xs ys) in omega arith

-- the uses by one gate more
uses_after : (n : ℕ) (marks : List Bool) (i : ℕ) (gs : List Gate) (g : Gate)
    → uses_from n marks i (gs ++ g ∷ []) ≡ uses_from n marks i gs ++ counted_operands n marks (i + length gs) g
uses_after n marks i [] g = uses_step n marks i g [] ∙ (let z : i ≡ i + 0 = omega arith in go z)
  where
    nil : (xs : List ℕ) → xs ++ [] ≡ xs
    nil [] = refl
    nil (x ∷ xs) = ap (λ (t : List ℕ). x ∷ t) (nil xs)

    go : i ≡ i + 0 → counted_operands n marks i g ++ [] ≡ counted_operands n marks (i + 0) g
    go z = nil (counted_operands n marks i g) ∙ ap (λ (k : ℕ). counted_operands n marks k g) z
uses_after n marks i (h ∷ gs) g =
    uses_step n marks i h (gs ++ g ∷ [])
    ∙ ap (λ (us : List ℕ). counted_operands n marks i h ++ us) (uses_after n marks (suc i) gs g)
    ∙ sym (append_assoc (counted_operands n marks i h) (uses_from n marks (suc i) gs)
    (counted_operands n marks (suc i + length gs) g))
    ∙ ap (λ (us : List ℕ). us ++ counted_operands n marks (suc i + length gs) g) (sym (uses_step n marks i h gs))
    ∙ ap (λ (k : ℕ). uses_from n marks i (h ∷ gs) ++ counted_operands n marks k g)
    (let z : suc i + length gs ≡ i + suc (length gs) = omega arith in z)

module _ (net : PlainView) (known : IsPlainNet net) where
  abbrev n : ℕ
  n = net.inputs

  abbrev gs : List Gate
  gs = net.gates

  -- the numbers after the turn of gate k
  abbrev turned : ℕ → List ℕ → List ℕ
  turned k fans = used_each fans (operands_used n (get_or fans k 0) k (slice_get gs k))

  here : (k : ℕ) → k < length gs → slice_get gs k ≡ Some (get_or gs k gates.Zero)
  here k lt = slice_get-get_or gs k gates.Zero lt

  operands_here : (k fan : ℕ) → k < length gs
      → operands_used n fan k (slice_get gs k) ≡ elim (ltb 0 fan) as (λ (b : Bool). List ℕ) [
        | true ↦ operands_by
            (slice_get gs k)
        | false ↦ []
      ]
  operands_here k fan lt =
      let g = get_or gs k gates.Zero in
      ap (operands_used n fan k) (here k lt) ∙ used_operands n fan k g (known.gates_stand.stands k g (here k lt))
      ∙ ap (λ (o : Option Gate). elim (ltb 0 fan) as (λ (b : Bool). List ℕ) [ true ↦ operands_by o | false ↦ [] ])
      (sym (here k lt))

  turn_is : (k : ℕ) (fans : List ℕ) → k < length gs
      → (elim (mark (have_uses fans) k) as (λ (b : Bool). List Bool) [
        | true ↦ mark_each (have_uses fans)
            (operands_by (slice_get gs k))
        | false ↦ have_uses fans
      ]) ≡ have_uses (turned k fans)
  turn_is k fans lt =
      let os = operands_by (slice_get gs k) in
      ap (λ (b : Bool). elim b as (λ (t : Bool). List Bool) [
        | true ↦ mark_each
            (have_uses fans) os
        | false ↦ have_uses fans
      ]) (has_uses fans k)
      ∙ go (ltb 0 (get_or fans k 0)) os
      ∙ ap (λ (xs : List ℕ). have_uses (used_each fans xs)) (sym (operands_here k (get_or fans k 0) lt))
    where
      go : (b : Bool) (os : List ℕ)
          → (elim b as (λ (t : Bool). List Bool) [ true ↦ mark_each (have_uses fans) os | false ↦ have_uses fans ])
          ≡ have_uses (used_each fans (elim b as (λ (t : Bool). List ℕ) [ true ↦ os | false ↦ [] ]))
      go true os = each_has_uses fans os
      go false os = refl

  -- what is marked has uses
  marks_below : (k : ℕ) (fans : List ℕ) → k ≤ length gs
      → mark_below k gs (have_uses fans) ≡ have_uses (used_below n k gs fans)
  marks_below zero fans le = refl
  marks_below (suc k) fans le = ap (mark_below k gs) (turn_is k fans (omega arith))
      ∙ marks_below k (turned k fans) (omega arith)

  below_length : (k : ℕ) (fans : List ℕ) → length (used_below n k gs fans) ≡ length fans
  below_length zero fans = refl
  below_length (suc k) fans = below_length k (turned k fans)
      ∙ used_length fans (operands_used n (get_or fans k 0) k (slice_get gs k))

  counted_here : (marks : List Bool) (k : ℕ) (fans : List ℕ) → k < length gs
      → marks ≡ mark_below (suc k) gs (have_uses fans)
      → operands_used n (get_or fans k 0) k (slice_get gs k) ≡ counted_operands n marks k (get_or gs k gates.Zero)
  counted_here marks k fans lt is =
      let plain = is_plain net known in
      let has : mark marks k ≡ ltb 0 (get_or fans k 0) = ap (λ (ms : List Bool). mark ms k) is
      ∙ own_mark gs plain.lower k (have_uses fans) ∙ has_uses fans k in
      ap (operands_used n (get_or fans k 0) k) (here k lt)
      ∙ ap (λ (b : Bool). elim (ltb k n || (b && not (is_constant n k))) as (λ (t : Bool). List ℕ) [
        | true ↦ operands
            (get_or gs k gates.Zero)
        | false ↦ []
      ]) (sym has)

  -- the uses by the gates below k
  counted_below : (marks : List Bool) (k : ℕ) (fans : List ℕ) (j : ℕ) → k ≤ length gs → j < length fans
      → marks ≡ mark_below k gs (have_uses fans)
      → get_or (used_below n k gs fans) j 0 ≡ get_or fans j 0 + use_count (uses_from n marks 0 (take k gs)) j
  counted_below marks zero fans j le lt is = omega arith
  counted_below marks (suc k) fans j le lt is =
      let g = get_or gs k gates.Zero in
      let os = operands_used n (get_or fans k 0) k (slice_get gs k) in
      let size = used_length fans os in
      let rest = counted_below marks k (turned k fans) j (omega arith) (omega arith)
      (is ∙ ap (mark_below k gs) (turn_is k fans (omega arith))) in
      let own = used_at fans os 0 j lt in
      let same = ap (λ (xs : List ℕ). use_count xs j) (counted_here marks k fans (omega arith) is) in
      let list = ap (λ (hs : List Gate). use_count (uses_from n marks 0 hs) j)
      (take-suc gs k gates.Zero (omega arith)) in
      let last = ap (λ (us : List ℕ). use_count us j) (uses_after n marks 0 (take k gs) g
      ∙ ap (λ (p : ℕ). uses_from n marks 0 (take k gs) ++ counted_operands n marks p g) (before k (omega arith))) in
      let parts = counted_append j (uses_from n marks 0 (take k gs)) (counted_operands n marks k g) in omega arith
    where
      before : (k : ℕ) → k < length gs → 0 + length (take k gs) ≡ k
      before k lt = let e = length-take-le k gs (omega arith) in omega arith

  abbrev begun : List ℕ
  begun = used_each (replicate (length gs) 0) net.outputs

  abbrev fans : List ℕ
  fans = used_below n (length gs) gs begun

  begun_marks : needed net ≡ mark_below (length gs) gs (have_uses begun)
  begun_marks =
      ap (λ (ms : List Bool). mark_below (length gs) gs (mark_each ms net.outputs)) (none_has_uses (length gs))
      ∙ ap (mark_below (length gs) gs) (each_has_uses (replicate (length gs) 0) net.outputs)

  pub fans_length : length fans ≡ length gs
  fans_length = below_length (length gs) begun ∙ used_length (replicate (length gs) 0) net.outputs
      ∙ length-replicate (length gs) 0

  -- an output needs exactly the gates that have uses
  pub needed_has_uses : (i : ℕ) → mark (needed net) i ≡ ltb 0 (at_place fans i)
  needed_has_uses i = ap (λ (ms : List Bool). mark ms i) (begun_marks ∙ marks_below (length gs) begun (omega arith))
      ∙ has_uses fans i

  -- each gate has the uses of the plan
  pub fans_counted : (j : ℕ) → j < length gs → at_place fans j ≡ use_count (uses net (needed net)) j
  fans_counted j lt =
      let zeros = replicate {A = ℕ} (length gs) 0 in
      let size : length zeros ≡ length gs = length-replicate (length gs) 0 in
      let more = used_length zeros net.outputs in
      let below = counted_below (needed net) (length gs) begun j (omega arith) (omega arith) begun_marks in
      let outs = used_at zeros net.outputs 0 j (omega arith) in
      let none = none_at (length gs) j in
      let whole = ap (λ (hs : List Gate). use_count (uses_from n (needed net) 0 hs) j) (take-length gs) in
      let parts = counted_append j (uses_from n (needed net) 0 gs) net.outputs in omega arith
