-- A fold in halves is the operation on the folds of its halves.
use Rattle.std.specs.Prelude.{◌≡◌, ℕ, zero, suc, ◌+◌, ◌/◌, ◌<◌, ◌≤◌, List, [], ◌∷◌, length, take, drop}
use Rattle.std.proofs.Common.{refl, ap, ◌∙◌, arith, length-take, length-drop}
use Rattle.circuit.specs.declared.gate.Gate.{Gate}
use Rattle.maj_mapping.specs.declared.maker.Join.{Join}
use Rattle.maj_mapping.specs.Operations.{Made, halves}
use Rattle.maj_mapping.specs.Covers.{join, none, fold}
use Rattle.maj_mapping.specs.Code.MakerView.{MakerView, with_gates}
use Rattle.maj_mapping.proofs.Growing.{join_grows, fold_grows}

halves_same : (op : List Gate → ℕ → ℕ → Made) (none k l : ℕ) (gs : List Gate) (xs : List ℕ) → length xs ≤ suc k
    → length xs ≤ suc l → halves op none k gs xs ≡ halves op none l gs xs
halves_same op none k l gs [] a b = refl
halves_same op none k l gs (x ∷ []) a b = refl
halves_same op none zero l gs (x ∷ y ∷ xs) a b = absurd (omega arith)
halves_same op none (suc k) zero gs (x ∷ y ∷ xs) a b = absurd (omega arith)
halves_same op none (suc k) (suc l) gs (x ∷ y ∷ xs) a b =
    let all = x ∷ y ∷ xs in
    let m : ℕ = (length all + 1) / 2 in
    let ll : length (take m all) ≡ m = length-take m all ∙ omega arith in
    let lr = length-drop m all in
    let p = halves_same op none k l gs (take m all) (omega arith) (omega arith) in
    let q = halves_same op none k l (halves op none l gs (take m all)).gates (drop m all) (omega arith) (omega arith) in
    ap (λ (t : Made). let r = halves op none k t.gates (drop m all) in op r.gates t.at r.at) p
    ∙ ap (λ (r : Made). op r.gates (halves op none l gs (take m all)).at r.at) q

halves_step : (op : List Gate → ℕ → ℕ → Made) (none m : ℕ) (gs : List Gate) (xs : List ℕ) → 2 ≤ length xs
    → m ≡ (length xs + 1) / 2
    → (let l = halves op none (length (take m xs)) gs (take m xs) in let r = halves op none (length (drop m xs)) l.gates
    (drop m xs) in op r.gates l.at r.at) ≡ halves op none (length xs) gs xs
halves_step op none m gs [] two e = absurd (omega arith)
halves_step op none m gs (x ∷ []) two e = absurd (omega arith)
halves_step op none m gs (x ∷ y ∷ xs) two e =
    let all = x ∷ y ∷ xs in
    let k = suc (length xs) in
    let ll : length (take m all) ≡ m = length-take m all ∙ omega arith in
    let lr = length-drop m all in
    let p = halves_same op none (length (take m all)) k gs (take m all) (omega arith) (omega arith) in
    let q = halves_same op none (length (drop m all)) k (halves op none k gs (take m all)).gates (drop m all)
    (omega arith) (omega arith) in
    ap (λ (t : Made). let r = halves op none (length (drop m all)) t.gates (drop m all) in op r.gates t.at r.at) p
    ∙ ap (λ (r : Made). op r.gates (halves op none k gs (take m all)).at r.at) q
    ∙ ap (λ (h : ℕ). let l = halves op none k gs (take h all) in let r = halves op none k l.gates
    (drop h all) in op r.gates l.at r.at) e

-- what the two halves and the operation come to, as the code has them
pub fold_whole : (which : Join) (maker s t : MakerView) (m : ℕ) (xs left right : List ℕ) (a b : ℕ) → 2 ≤ length xs
    → m ≡ (length xs + 1) / 2 → left ≡ take m xs → right ≡ drop m xs
    → s ≡ with_gates maker (fold which maker.inputs maker.gates left).gates
    → a ≡ (fold which maker.inputs maker.gates left).at
    → t ≡ with_gates s (fold which s.inputs s.gates right).gates → b ≡ (fold which s.inputs s.gates right).at
    → (join which t.inputs t.gates a b ≡ fold which maker.inputs maker.gates xs) × (t.inputs ≡ maker.inputs)
fold_whole which maker s t m xs left right a b two e l r es ea et eb = (
  rw (et, ea, eb, es, l, r)
      (halves_step (join which maker.inputs) (none which maker.inputs) m maker.gates xs two e),
  rw (et, es) refl,
)

-- each half has at most the gates of the whole
record HaveRoom (which : Join) (n : ℕ) (gs : List Gate) (m most : ℕ) (xs : List ℕ) : Type 0 where
  first : length (fold which n gs (take m xs)).gates < most
  second : length (fold which n (fold which n gs (take m xs)).gates (drop m xs)).gates < most

have_room : (which : Join) (n : ℕ) (gs : List Gate) (m most : ℕ) (xs : List ℕ) → 2 ≤ length xs → m ≡ (length xs + 1) / 2
    → length (fold which n gs xs).gates < most → HaveRoom which n gs m most xs
have_room which n gs m most xs two e few =
    let l = fold which n gs (take m xs) in
    let r = fold which n l.gates (drop m xs) in
    let whole : join which n r.gates l.at r.at ≡ fold which n gs xs = halves_step (join which n)
    (none which n) m gs xs two e in
    let sizes = ap (λ (t : Made). length t.gates) whole in
    let op = join_grows which n r.gates l.at r.at in
    let right = fold_grows which n l.gates (drop m xs) in
    record { first = omega (arith, sizes, op, right, few); second = omega (arith, sizes, op, few) }

pub first_room : (which : Join) (maker : MakerView) (m most : ℕ) (xs left : List ℕ) → 2 ≤ length xs
    → m ≡ (length xs + 1) / 2 → left ≡ take m xs
    → length (fold which maker.inputs maker.gates xs).gates < most
    → length (fold which maker.inputs maker.gates left).gates < most
first_room which maker m most xs left two e l few =
    rw l ((have_room which maker.inputs maker.gates m most xs two e few).first)

pub second_room : (which : Join) (maker s : MakerView) (m most : ℕ) (xs left right : List ℕ) → 2 ≤ length xs
    → m ≡ (length xs + 1) / 2 → left ≡ take m xs → right ≡ drop m xs
    → s ≡ with_gates maker (fold which maker.inputs maker.gates left).gates
    → length (fold which maker.inputs maker.gates xs).gates < most
    → length (fold which s.inputs s.gates right).gates < most
second_room which maker s m most xs left right two e l r es few = rw (es, l, r)
    ((have_room which maker.inputs maker.gates m most xs two e few).second)
