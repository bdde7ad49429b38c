-- The loop that links uses from the last one down.
use Rattle.std.proofs.Common.{◌≡◌, ◌≢◌, ℕ, zero, suc, ◌+◌, ◌-◌, ◌<◌, ◌≤◌, List, [], ◌∷◌, length, drop, set}
use Rattle.std.proofs.Common.{get_or, refl, sym, ap, ◌∙◌, subst, arith, inl, inr, drop-cons}
use Rattle.std.specs.List.{AllByRecursion}
use Rattle.std.proofs.lemmas.Bool.{cases_eq, cases_lt, eq-eqb, ne_eqb}
use Rattle.std.proofs.lemmas.List.{get_or_past, length-drop, length-set, get_or-set_same, get_or-set_other}
use Rattle.level_balance.specs.Uses.{uses_of}
use Rattle.level_balance.specs.Code.Chained.{Chained, AreLinksFrom}
use Rattle.level_balance.specs.Code.Served.{IsAtMost}
use Rattle.level_balance.proofs.LawOfGates.{In, from_uses}

-- a chain of higher numbers is not changed by a lower one
chained_set : (next : List ℕ) (stop at q v : ℕ) (qs : List ℕ) → ((p : ℕ) → In p qs → q < p) → Chained next stop at qs
    → Chained (set next q v) stop at qs
chained_set next stop at q v [] high h = h
chained_set next stop at q v (p ∷ qs) high h =
    let lt = high p (inl refl) in
    let same : get_or (set next q v) p stop ≡ get_or next p stop =
    get_or-set_other next q p v stop (λ e. omega arith) in (
      h.0,
      h.1,
      chained_set next stop (get_or (set next q v) p stop) q v qs (λ r i. high r (inr i))
          (subst (λ t. Chained next stop t qs) (sym same) h.2),
    )

later_uses : (g q : ℕ) (us : List ℕ) (p : ℕ) → In p (uses_of g (suc q) us) → q < p
later_uses g q us p i = let r = from_uses g (suc q) p us i in let e = r.1 in omega arith

pub uses_same : (g q : ℕ) (h : ℕ) (us : List ℕ) → h ≡ g → uses_of g q (h ∷ us) ≡ q ∷ uses_of g (suc q) us
uses_same g q h us e = rw (eq-eqb h g e, uses_of) refl

pub uses_other : (g q : ℕ) (h : ℕ) (us : List ℕ) → h ≢ g → uses_of g q (h ∷ us) ≡ uses_of g (suc q) us
uses_other g q h us other = rw (ne_eqb h g other, uses_of) refl

pub link_turn : (first next fans first' next' fans' : List ℕ) (gates : ℕ) (us : List ℕ) (q g : ℕ) → q < length us
    → g ≡ get_or us q 0 → g < gates
    → first' ≡ set first g q → next' ≡ set next q (get_or first g 0) → fans' ≡ set fans g (get_or fans g 0 + 1)
    → AreLinksFrom first next fans gates us (suc q) → AreLinksFrom first' next' fans' gates us q
link_turn first next fans first' next' fans' gates us q g lt is low fe ne ae h =
    let rest = drop (suc q) us in
    let list : drop q us ≡ g ∷ rest = drop-cons us q 0 lt ∙ ap (λ (t : ℕ). t ∷ rest) (sym is) in
    let stop = length us in
    let v = get_or first g 0 in
    let a = h.first_length in
    let b = h.next_length in
    let d = h.fans_length in
    record {
      first_length = ap length fe ∙ length-set first g q ∙ h.first_length;
      next_length = ap length ne ∙ length-set next q v ∙ h.next_length;
      fans_length = ap length ae ∙ length-set fans g (get_or fans g 0 + 1) ∙ h.fans_length;
      chains = λ k below. elim (cases_eq g k) [
        | inl same ↦
            (let at : get_or first' k 0 ≡ q = ap (λ (t : List ℕ). get_or t k 0) fe
            ∙ ap (λ (t : ℕ). get_or (set first g q) t 0) (sym same) ∙ get_or-set_same first g q 0 (omega arith) in
            let to : get_or next' q stop ≡ v = ap (λ (t : List ℕ). get_or t q stop) ne
            ∙ get_or-set_same next q v stop (omega arith) in
            let old : Chained next stop v (uses_of k (suc q) rest) =
            subst (λ t. Chained next stop (get_or first t 0) (uses_of k (suc q) rest))
            (sym same) (h.chains k below) in
            let new : Chained next' stop (get_or next' q stop) (uses_of k (suc q) rest) =
            subst (λ t. Chained next' stop t (uses_of k (suc q) rest)) (sym to)
            (subst (λ t. Chained t stop v (uses_of k (suc q) rest)) (sym ne)
            (chained_set next stop v q v (uses_of k (suc q) rest) (later_uses k q rest) old)) in
            subst (λ t. Chained next' stop (get_or first' k 0) t)
            (sym (ap (uses_of k q) list ∙ uses_same k q g rest same)) (at, lt, new))
        | inr other ↦
            (let at : get_or first' k 0 ≡ get_or first k 0 = ap (λ (t : List ℕ). get_or t k 0) fe
            ∙ get_or-set_other first g k q 0 (λ e. other (sym e)) in
            let new : Chained next' stop (get_or first k 0) (uses_of k (suc q) rest) =
            subst (λ t. Chained t stop (get_or first k 0) (uses_of k (suc q) rest)) (sym ne)
            (chained_set next stop (get_or first k 0) q v (uses_of k (suc q) rest)
            (later_uses k q rest) (h.chains k below)) in
            subst (λ t. Chained next' stop (get_or first' k 0) t)
            (sym (ap (uses_of k q) list ∙ uses_other k q g rest other))
            (subst (λ t. Chained next' stop t (uses_of k (suc q) rest)) (sym at) new))
      ];
      counts = λ k below. elim (cases_eq g k) [
        | inl same ↦
            (let e : get_or fans' k 0 ≡ get_or fans g 0 + 1 = ap (λ (t : List ℕ). get_or t k 0) ae
            ∙ ap (λ (t : ℕ). get_or (set fans g (get_or fans g 0 + 1)) t 0) (sym same)
            ∙ get_or-set_same fans g (get_or fans g 0 + 1) 0 (omega arith) in
            let c = h.counts k below in
            let s = ap (λ (t : ℕ). get_or fans t 0) same in
            let z = ap length (ap (uses_of k q) list ∙ uses_same k q g rest same) in omega arith)
        | inr other ↦
            (let e : get_or fans' k 0 ≡ get_or fans k 0 = ap (λ (t : List ℕ). get_or t k 0) ae
            ∙ get_or-set_other fans g k (get_or fans g 0 + 1) 0 (λ e. other (sym e)) in
            let c = h.counts k below in
            let z = ap length (ap (uses_of k q) list ∙ uses_other k q g rest other) in omega arith)
      ];
    }

pub within : (gates : ℕ) (us : List ℕ) (q : ℕ) → AllByRecursion (λ g. g < gates) us
    → q < length us → get_or us q 0 < gates
within gates [] q all lt = absurd (omega arith)
within gates (u ∷ us) zero all lt = all.0
within gates (u ∷ us) (suc q) all lt = within gates us q all.1 (omega arith)

pub link_step : (first next fans first' next' fans' : List ℕ) (gates : ℕ) (us : List ℕ) (left : ℕ) → 0 < left
    → left ≤ length us → AllByRecursion (λ g. g < gates) us
    → first' ≡ set first (get_or us (left - 1) 0) (left - 1)
    → next' ≡ set next (left - 1) (get_or first (get_or us (left - 1) 0) 0)
    → fans' ≡ set fans (get_or us (left - 1) 0) (get_or fans (get_or us (left - 1) 0) 0 + 1)
    → AreLinksFrom first next fans gates us left → AreLinksFrom first' next' fans' gates us (left - 1)
link_step first next fans first' next' fans' gates us left some le all fe ne ae h =
    let q = left - 1 in
    let z : left ≡ suc q = omega arith in
    link_turn first next fans first' next' fans' gates us q (get_or us q 0) (omega arith) refl
    (within gates us q all (omega arith)) fe ne ae (subst (λ t. AreLinksFrom first next fans gates us t) z h)

uses_shorter : (g q : ℕ) (us : List ℕ) → length (uses_of g q us) ≤ length us
uses_shorter g q [] = omega arith
uses_shorter g q (h ∷ us) = elim (cases_eq h g) [
  | inl same ↦ (let a = ap length (uses_same g q h us same) in let b = uses_shorter g (suc q) us in omega arith)
  | inr other ↦ (let a = ap length (uses_other g q h us other) in let b = uses_shorter g (suc q) us in omega arith)
]

-- a gate has no more uses than there are
pub fan_low : (first next fans : List ℕ) (gates : ℕ) (us : List ℕ) (q most : ℕ) → length us ≤ most
    → AreLinksFrom first next fans gates us q → IsAtMost most fans
fan_low first next fans gates us q most le h = λ x. elim (cases_lt x gates) [
  | inl below ↦ (let e = h.counts x below in let a = uses_shorter x q (drop q us) in let b =
      length-drop q us in omega arith)
  | inr past ↦ (let size = h.fans_length in let e = get_or_past fans x 0 (omega arith) in omega arith)
]
