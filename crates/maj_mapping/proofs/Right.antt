-- What each operation on gates keeps and gives: the gates before it keep their values, and the gate that it gives has
-- the value of the operation.
use Rattle.std.specs.Prelude.{◌≡◌, ℕ, suc, ◌+◌, ◌<◌, ◌≤◌, ◌&&◌, ◌||◌, Bool, true, false, not, eqb, List, [], ◌∷◌, ◌++◌}
use Rattle.std.specs.Prelude.{length, slice_get, Option, Some, None}
use Rattle.std.proofs.Common.{refl, sym, ap, ◌∙◌, inl, inr, arith, length-append, zero-add}
use Rattle.std.proofs.lemmas.Bool.{and_left, and_right, or_left, or_right, eqb-true, eqb-false}
use Rattle.std.proofs.lemmas.Option.{slice_get_within, same_Some}
use Rattle.circuit.specs.declared.gate.Gate.{Gate}
use Rattle.circuit.specs.declared.gate.Gate.TheVariants.{Input, Zero, One, Buf, Inv, Maj}
use Rattle.circuit.specs.Function.{majority}
use Rattle.circuit.specs.Gates.{gate_value, Fits}
use Rattle.circuit.specs.PlainNets.{is_constant, MayStand, AreGates}
use Rattle.case_tables.proofs.TruthLaws.{same_two}
use Rattle.maj_mapping.proofs.Grown.{get_front, get_last, get_cases}
use Rattle.maj_mapping.specs.declared.maker.Side.{Side}
use Rattle.maj_mapping.specs.declared.maker.Side.TheVariants.{IsZero, IsOne, Neither}
use Rattle.maj_mapping.specs.Operations.{Made, keep, make, side, inverts, inverter_from, inverted, inv_made, inv_other}
use Rattle.maj_mapping.specs.Operations.{inv_case, inv, unless_same, and_case, and, or_case, or, maj_case, maj_same}
use Rattle.maj_mapping.specs.Operations.{maj}

-- what a majority with at most one constant needs
few_xy : (a b c : Bool) → a ≡ false → b ≡ false → majority a b c ≡ false
few_xy a b c p q = rw (p, q) refl

few_xz : (a b c : Bool) → a ≡ false → c ≡ false → majority a b c ≡ false
few_xz a b c p q = rw (p, q) (and_right b false refl)

few_yz : (a b c : Bool) → b ≡ false → c ≡ false → majority a b c ≡ false
few_yz a b c p q = rw (p, q, and_right a false refl) refl

-- a gate on neither side is no constant
other_by : (n x : ℕ) (a b : Bool) → eqb x n ≡ a → eqb x (n + 1) ≡ b → side n x ≡ Neither → is_constant n x ≡ false
other_by n x true b p q e = let k : side n x ≡ IsZero = rw (p, side) refl in cc
other_by n x false true p q e = let k : side n x ≡ IsOne = rw (p, q, side) refl in cc
other_by n x false false p q e = rw (p, q) refl

other_is : (n x : ℕ) → side n x ≡ Neither → is_constant n x ≡ false
other_is n x e = other_by n x (eqb x n) (eqb x (n + 1)) refl refl e

-- m comes from gs by at most `cost` gates, and gives f of the gates' values
pub record Right (n : ℕ) (gs : List Gate) (m : Made) (cost : ℕ) (f : (ℕ → Bool) → Bool) : Type 0 where
  pub good : AreGates n m.gates
  pub inside : m.at < length m.gates
  pub grown : length gs ≤ length m.gates
  pub few : length m.gates ≤ length gs + cost
  pub earlier : (word : List Bool) (v : ℕ → Bool) → Fits word v m.gates → Fits word v gs
  pub value : (word : List Bool) (v : ℕ → Bool) → Fits word v m.gates → v m.at ≡ f v

pub past_constants : (n : ℕ) (gs : List Gate) → AreGates n gs → n + 1 < length gs
past_constants n gs ok = slice_get_within gs (n + 1) One ok.one_at

-- one more gate
pub good_make : (n : ℕ) (gs : List Gate) (g : Gate) → AreGates n gs → MayStand n (length gs) g
    → AreGates n (gs ++ g ∷ [])
good_make n gs g ok may = record {
  zero_at = get_front gs _ n Zero ok.zero_at;
  one_at = get_front gs _ (n + 1) One ok.one_at;
  stands = λ i h e. elim (get_cases gs g i h e) [ inl old ↦ ok.stands i h old | inr new ↦ rw (new.0, ← new.1) may ];
}

pub earlier_make : (gs : List Gate) (g : Gate) (word : List Bool) (v : ℕ → Bool)
    → Fits word v (gs ++ g ∷ []) → Fits word v gs
earlier_make gs g word v fits i h e = fits i h (get_front gs _ i h e)

-- an operation that makes no gate
pub right_keep : (n : ℕ) (gs : List Gate) (x c : ℕ) (f : (ℕ → Bool) → Bool) → AreGates n gs → x < length gs
    → ((word : List Bool) (v : ℕ → Bool) → Fits word v gs → v x ≡ f v) → Right n gs (keep gs x) c f
right_keep n gs x c f ok lt value = record {
  good = ok;
  inside = lt;
  grown = omega arith;
  few = omega arith;
  earlier = λ word v fits. fits;
  value = value;
}

-- an operation that makes one
pub right_make : (n : ℕ) (gs : List Gate) (g : Gate) (f : (ℕ → Bool) → Bool) → AreGates n gs → MayStand n (length gs) g
    → ((word : List Bool) (v : ℕ → Bool) → Fits word v gs → gate_value word v g ≡ f v) → Right n gs (make gs g) 1 f
right_make n gs g f ok may value = record {
  good = good_make n gs g ok may;
  inside = simp length-append (omega arith);
  grown = simp length-append (omega arith);
  few = simp length-append (omega arith);
  earlier = earlier_make gs g;
  value = λ word v fits. fits (length gs) g (get_last gs g) ∙ value word v (earlier_make gs g word v fits);
}

-- what the sides say
side_zero : (n x : ℕ) (a b : Bool) → eqb x n ≡ a → eqb x (n + 1) ≡ b → side n x ≡ IsZero → x ≡ n
side_zero n x true b p q e = eqb-true x n p
side_zero n x false true p q e = let k : side n x ≡ IsOne = rw (p, q, side) refl in cc
side_zero n x false false p q e = let k : side n x ≡ Neither = rw (p, q, side) refl in cc

side_one : (n x : ℕ) (a b : Bool) → eqb x n ≡ a → eqb x (n + 1) ≡ b → side n x ≡ IsOne → x ≡ n + 1
side_one n x true b p q e = let k : side n x ≡ IsZero = rw (p, side) refl in cc
side_one n x false true p q e = eqb-true x (n + 1) q
side_one n x false false p q e = let k : side n x ≡ Neither = rw (p, q, side) refl in cc

module _ (n : ℕ) (gs : List Gate) (ok : AreGates n gs) where
  pub at_zero : (word : List Bool) (v : ℕ → Bool) → Fits word v gs → v n ≡ false
  at_zero word v fits = fits n Zero ok.zero_at

  pub at_one : (word : List Bool) (v : ℕ → Bool) → Fits word v gs → v (n + 1) ≡ true
  at_one word v fits = fits (n + 1) One ok.one_at

  pub is_false : (x : ℕ) → side n x ≡ IsZero → (word : List Bool) (v : ℕ → Bool) → Fits word v gs → v x ≡ false
  is_false x e word v fits = ap v (side_zero n x _ _ refl refl e) ∙ at_zero word v fits

  pub is_true : (x : ℕ) → side n x ≡ IsOne → (word : List Bool) (v : ℕ → Bool) → Fits word v gs → v x ≡ true
  is_true x e word v fits = ap v (side_one n x _ _ refl refl e) ∙ at_one word v fits

-- facts on truth values
and_one : (a b : Bool) → a ≡ true → b ≡ (a && b)
and_one a b e = rw e refl

and_one_right : (a b : Bool) → b ≡ true → a ≡ (a && b)
and_one_right true b e = sym e
and_one_right false b e = refl

and_same : (a b : Bool) → a ≡ b → a ≡ (a && b)
and_same true b e = e
and_same false b e = refl

and_majority : (a z b : Bool) → z ≡ false → majority a z b ≡ (a && b)
and_majority a z b e = rw e (same_two (λ a b. majority a false b) (λ a b. a && b) refl a b)

or_zero : (a b : Bool) → a ≡ false → b ≡ (a || b)
or_zero a b e = rw e refl

or_zero_right : (a b : Bool) → b ≡ false → a ≡ (a || b)
or_zero_right true b e = refl
or_zero_right false b e = sym e

or_same : (a b : Bool) → a ≡ b → a ≡ (a || b)
or_same true b e = refl
or_same false b e = e

or_majority : (a z b : Bool) → z ≡ true → majority a z b ≡ (a || b)
or_majority a z b e = rw e (same_two (λ a b. majority a true b) (λ a b. a || b) refl a b)

-- the majority where two are equal, or two are opposites
majority_xy : (x y z : Bool) → x ≡ y → x ≡ majority x y z
majority_xy x y z e = rw (← e) (same_two (λ x z. x) (λ x z. majority x x z) refl x z)

majority_xz : (x y z : Bool) → x ≡ z → x ≡ majority x y z
majority_xz x y z e = rw (← e) (same_two (λ x y. x) (λ x y. majority x y x) refl x y)

majority_yz : (x y z : Bool) → y ≡ z → y ≡ majority x y z
majority_yz x y z e = rw (← e) (same_two (λ x y. y) (λ x y. majority x y y) refl x y)

majority_first : (x y z : Bool) → z ≡ not y → x ≡ majority x y z
majority_first x y z e = rw e (same_two (λ x y. x) (λ x y. majority x y (not y)) refl x y)

majority_second : (x y z : Bool) → z ≡ not x → y ≡ majority x y z
majority_second x y z e = rw e (same_two (λ x y. y) (λ x y. majority x y (not x)) refl x y)

majority_third : (x y z : Bool) → y ≡ not x → z ≡ majority x y z
majority_third x y z e = rw e (same_two (λ x z. z) (λ x z. majority x (not x) z) refl x z)

not_false_is : (a b : Bool) → a ≡ true → b ≡ false → a ≡ not b
not_false_is a b p q = rw (p, q) refl

not_true_is : (a b : Bool) → a ≡ false → b ≡ true → a ≡ not b
not_true_is a b p q = rw (p, q) refl

module _ (n : ℕ) (gs : List Gate) (ok : AreGates n gs) where
  and_unless : (x y : ℕ) → x < length gs → y < length gs → side n x ≡ Neither → side n y ≡ Neither → (b : Bool)
      → eqb x y ≡ b → Right n gs (unless_same gs x (Maj x n y) b) 1 (λ v. v x && v y)
  and_unless x y lx ly p q true e = right_keep n gs x 1 _ ok lx
      (λ word v fits. and_same (v x) (v y) (ap v (eqb-true x y e)))
  and_unless x y lx ly p q false e = let k = past_constants n gs ok in right_make n gs _ _ ok
      (omega arith, lx, omega arith, ly, few_xz _ _ _ (other_is n x p) (other_is n y q))
      (λ word v fits. and_majority (v x) (v n) (v y) (at_zero n gs ok word v fits))

  and_sides : (x y : ℕ) → x < length gs → y < length gs → (s t : Side) → side n x ≡ s → side n y ≡ t
      → Right n gs (and_case n gs x y s t) 1 (λ v. v x && v y)
  and_sides x y lx ly IsZero t p q = right_keep n gs n 1 _ ok (slice_get_within gs n Zero ok.zero_at)
      (λ word v fits. at_zero n gs ok word v fits ∙ sym (and_left (v x) (v y) (is_false n gs ok x p word v fits)))
  and_sides x y lx ly IsOne IsZero p q = right_keep n gs n 1 _ ok (slice_get_within gs n Zero ok.zero_at)
      (λ word v fits. at_zero n gs ok word v fits ∙ sym (and_right (v x) (v y) (is_false n gs ok y q word v fits)))
  and_sides x y lx ly Neither IsZero p q = right_keep n gs n 1 _ ok (slice_get_within gs n Zero ok.zero_at)
      (λ word v fits. at_zero n gs ok word v fits ∙ sym (and_right (v x) (v y) (is_false n gs ok y q word v fits)))
  and_sides x y lx ly IsOne IsOne p q = right_keep n gs y 1 _ ok ly
      (λ word v fits. and_one (v x) (v y) (is_true n gs ok x p word v fits))
  and_sides x y lx ly IsOne Neither p q = right_keep n gs y 1 _ ok ly
      (λ word v fits. and_one (v x) (v y) (is_true n gs ok x p word v fits))
  and_sides x y lx ly Neither IsOne p q = right_keep n gs x 1 _ ok lx
      (λ word v fits. and_one_right (v x) (v y) (is_true n gs ok y q word v fits))
  and_sides x y lx ly Neither Neither p q = and_unless x y lx ly p q _ refl

  pub and_is_right : (x y : ℕ) → x < length gs → y < length gs → Right n gs (and n gs x y) 1 (λ v. v x && v y)
  and_is_right x y lx ly = and_sides x y lx ly _ _ refl refl

  or_unless : (x y : ℕ) → x < length gs → y < length gs → side n x ≡ Neither → side n y ≡ Neither → (b : Bool)
      → eqb x y ≡ b → Right n gs (unless_same gs x (Maj x (n + 1) y) b) 1 (λ v. v x || v y)
  or_unless x y lx ly p q true e = right_keep n gs x 1 _ ok lx
      (λ word v fits. or_same (v x) (v y) (ap v (eqb-true x y e)))
  or_unless x y lx ly p q false e = let k = past_constants n gs ok in right_make n gs _ _ ok
      (omega arith, lx, omega arith, ly, few_xz _ _ _ (other_is n x p) (other_is n y q))
      (λ word v fits. or_majority (v x) (v (n + 1)) (v y) (at_one n gs ok word v fits))

  or_sides : (x y : ℕ) → x < length gs → y < length gs → (s t : Side) → side n x ≡ s → side n y ≡ t
      → Right n gs (or_case n gs x y s t) 1 (λ v. v x || v y)
  or_sides x y lx ly IsOne t p q = right_keep n gs (n + 1) 1 _ ok (past_constants n gs ok)
      (λ word v fits. at_one n gs ok word v fits ∙ sym (or_left (v x) (v y) (is_true n gs ok x p word v fits)))
  or_sides x y lx ly IsZero IsOne p q = right_keep n gs (n + 1) 1 _ ok (past_constants n gs ok)
      (λ word v fits. at_one n gs ok word v fits ∙ sym (or_right (v x) (v y) (is_true n gs ok y q word v fits)))
  or_sides x y lx ly Neither IsOne p q = right_keep n gs (n + 1) 1 _ ok (past_constants n gs ok)
      (λ word v fits. at_one n gs ok word v fits ∙ sym (or_right (v x) (v y) (is_true n gs ok y q word v fits)))
  or_sides x y lx ly IsZero IsZero p q = right_keep n gs y 1 _ ok ly
      (λ word v fits. or_zero (v x) (v y) (is_false n gs ok x p word v fits))
  or_sides x y lx ly IsZero Neither p q = right_keep n gs y 1 _ ok ly
      (λ word v fits. or_zero (v x) (v y) (is_false n gs ok x p word v fits))
  or_sides x y lx ly Neither IsZero p q = right_keep n gs x 1 _ ok lx
      (λ word v fits. or_zero_right (v x) (v y) (is_false n gs ok y q word v fits))
  or_sides x y lx ly Neither Neither p q = or_unless x y lx ly p q _ refl

  pub or_is_right : (x y : ℕ) → x < length gs → y < length gs → Right n gs (or n gs x y) 1 (λ v. v x || v y)
  or_is_right x y lx ly = or_sides x y lx ly _ _ refl refl

  rises : (x y : ℕ) → side n x ≡ IsZero → side n y ≡ IsOne → (word : List Bool) (v : ℕ → Bool) → Fits word v gs
      → v y ≡ not (v x)
  rises x y p q word v fits = not_false_is _ _ (is_true n gs ok y q word v fits) (is_false n gs ok x p word v fits)

  falls : (x y : ℕ) → side n x ≡ IsOne → side n y ≡ IsZero → (word : List Bool) (v : ℕ → Bool) → Fits word v gs
      → v y ≡ not (v x)
  falls x y p q word v fits = not_true_is _ _ (is_false n gs ok y q word v fits) (is_true n gs ok x p word v fits)

  maj_sides : (x y z : ℕ) → x < length gs → y < length gs → z < length gs → (s t r : Side) → side n x ≡ s
      → side n y ≡ t → side n z ≡ r
      → (eqb x y ≡ false) → (eqb x z ≡ false) → (eqb y z ≡ false)
      → Right n gs (maj_case gs x y z s t r) 1 (λ v. majority (v x) (v y) (v z))
  maj_sides x y z lx ly lz Neither Neither s p q o a b c = let k = past_constants n gs ok in right_make n gs _ _ ok
      (omega arith, lx, ly, lz, few_xy _ _ _ (other_is n x p) (other_is n y q)) (λ word v fits. refl)
  maj_sides x y z lx ly lz Neither IsZero Neither p q o a b c = let k = past_constants n gs ok in right_make n gs _ _ ok
      (omega arith, lx, ly, lz, few_xz _ _ _ (other_is n x p) (other_is n z o)) (λ word v fits. refl)
  maj_sides x y z lx ly lz Neither IsOne Neither p q o a b c = let k = past_constants n gs ok in right_make n gs _ _ ok
      (omega arith, lx, ly, lz, few_xz _ _ _ (other_is n x p) (other_is n z o)) (λ word v fits. refl)
  maj_sides x y z lx ly lz IsZero Neither Neither p q o a b c = let k = past_constants n gs ok in right_make n gs _ _ ok
      (omega arith, lx, ly, lz, few_yz _ _ _ (other_is n y q) (other_is n z o)) (λ word v fits. refl)
  maj_sides x y z lx ly lz IsOne Neither Neither p q o a b c = let k = past_constants n gs ok in right_make n gs _ _ ok
      (omega arith, lx, ly, lz, few_yz _ _ _ (other_is n y q) (other_is n z o)) (λ word v fits. refl)
  maj_sides x y z lx ly lz Neither IsZero IsZero p q o a b c =
      absurd (eqb-false y z c (side_zero n y _ _ refl refl q ∙ sym (side_zero n z _ _ refl refl o)))
  maj_sides x y z lx ly lz Neither IsZero IsOne p q o a b c = right_keep n gs x 1 _ ok lx
      (λ word v fits. majority_first (v x) (v y) (v z) (rises y z q o word v fits))
  maj_sides x y z lx ly lz Neither IsOne IsZero p q o a b c = right_keep n gs x 1 _ ok lx
      (λ word v fits. majority_first (v x) (v y) (v z) (falls y z q o word v fits))
  maj_sides x y z lx ly lz Neither IsOne IsOne p q o a b c =
      absurd (eqb-false y z c (side_one n y _ _ refl refl q ∙ sym (side_one n z _ _ refl refl o)))
  maj_sides x y z lx ly lz IsZero Neither IsZero p q o a b c =
      absurd (eqb-false x z b (side_zero n x _ _ refl refl p ∙ sym (side_zero n z _ _ refl refl o)))
  maj_sides x y z lx ly lz IsZero Neither IsOne p q o a b c = right_keep n gs y 1 _ ok ly
      (λ word v fits. majority_second (v x) (v y) (v z) (rises x z p o word v fits))
  maj_sides x y z lx ly lz IsOne Neither IsZero p q o a b c = right_keep n gs y 1 _ ok ly
      (λ word v fits. majority_second (v x) (v y) (v z) (falls x z p o word v fits))
  maj_sides x y z lx ly lz IsOne Neither IsOne p q o a b c =
      absurd (eqb-false x z b (side_one n x _ _ refl refl p ∙ sym (side_one n z _ _ refl refl o)))
  maj_sides x y z lx ly lz IsZero IsZero s p q o a b c =
      absurd (eqb-false x y a (side_zero n x _ _ refl refl p ∙ sym (side_zero n y _ _ refl refl q)))
  maj_sides x y z lx ly lz IsZero IsOne s p q o a b c = right_keep n gs z 1 _ ok lz
      (λ word v fits. majority_third (v x) (v y) (v z) (rises x y p q word v fits))
  maj_sides x y z lx ly lz IsOne IsZero s p q o a b c = right_keep n gs z 1 _ ok lz
      (λ word v fits. majority_third (v x) (v y) (v z) (falls x y p q word v fits))
  maj_sides x y z lx ly lz IsOne IsOne s p q o a b c =
      absurd (eqb-false x y a (side_one n x _ _ refl refl p ∙ sym (side_one n y _ _ refl refl q)))

  maj_tests : (x y z : ℕ) → x < length gs → y < length gs → z < length gs → (a b c : Bool) → eqb x y ≡ a → eqb x z ≡ b
      → eqb y z ≡ c → Right n gs (maj_same n gs x y z a b c) 1 (λ v. majority (v x) (v y) (v z))
  maj_tests x y z lx ly lz true b c p q o = right_keep n gs x 1 _ ok lx
      (λ word v fits. majority_xy (v x) (v y) (v z) (ap v (eqb-true x y p)))
  maj_tests x y z lx ly lz false true c p q o = right_keep n gs x 1 _ ok lx
      (λ word v fits. majority_xz (v x) (v y) (v z) (ap v (eqb-true x z q)))
  maj_tests x y z lx ly lz false false true p q o = right_keep n gs y 1 _ ok ly
      (λ word v fits. majority_yz (v x) (v y) (v z) (ap v (eqb-true y z o)))
  maj_tests x y z lx ly lz false false false p q o = maj_sides x y z lx ly lz _ _ _ refl refl refl p q o

  pub maj_is_right : (x y z : ℕ) → x < length gs → y < length gs → z < length gs
      → Right n gs (maj n gs x y z) 1 (λ v. majority (v x) (v y) (v z))
  maj_is_right x y z lx ly lz = maj_tests x y z lx ly lz _ _ _ refl refl refl

-- the inverter that is found stands there
inverts_is : (x : ℕ) (g : Gate) → inverts x g ≡ true → g ≡ Inv x
inverts_is x (Inv y) e = ap (λ (k : ℕ). Inv k) (sym (eqb-true x y e))
inverts_is x (Input i) e = cc
inverts_is x Zero e = cc
inverts_is x One e = cc
inverts_is x (Buf y) e = cc
inverts_is x (Maj y z w) e = cc

inverter_found : (x i : ℕ) (hs : List Gate) (k : ℕ) → inverter_from x i hs ≡ Some k → (j : ℕ) × (k ≡ i + j)
    × (slice_get hs j ≡ Some (Inv x))
inverter_found x i [] k e = cc
inverter_found x i (h ∷ hs) k e = go (inverts x h) refl e (inverter_found x (suc i) hs k)
  where
    go : (b : Bool) → inverts x h ≡ b
        → (elim b as (λ (t : Bool). Option ℕ) [ true ↦ Some i | false ↦ inverter_from x (suc i) hs ]) ≡ Some k
        → (inverter_from x (suc i) hs ≡ Some k → (j : ℕ) × (k ≡ suc i + j) × (slice_get hs j ≡ Some (Inv x))) → (j : ℕ)
        × (k ≡ i + j) × (slice_get (h ∷ hs) j ≡ Some (Inv x))
    go true p q later = (0, sym (same_Some i k q) ∙ omega arith, ap (λ (g : Gate). Some g) (inverts_is x h p))
    go false p q later = let r = later q in (suc r.0, omega arith, r.2)

inverted_is : (o : Option Gate) (y : ℕ) → inverted o ≡ Some y → o ≡ Some (Inv y)
inverted_is None y e = cc
inverted_is (Some (Inv x)) y e = ap (λ (k : ℕ). Some (Inv k)) (same_Some x y e)
inverted_is (Some (Input i)) y e = cc
inverted_is (Some Zero) y e = cc
inverted_is (Some One) y e = cc
inverted_is (Some (Buf x)) y e = cc
inverted_is (Some (Maj x z w)) y e = cc

not_swap : (a b : Bool) → a ≡ not b → b ≡ not a
not_swap true true e = e
not_swap true false e = refl
not_swap false true e = refl
not_swap false false e = e

module _ (n : ℕ) (gs : List Gate) (ok : AreGates n gs) where
  inv_made_right : (x : ℕ) → x < length gs → side n x ≡ Neither → (o : Option ℕ) → inverter_from x 0 gs ≡ o
      → Right n gs (inv_made gs x o) 1 (λ v. not (v x))
  inv_made_right x lx p (Some g) e =
      let f = inverter_found x 0 gs g e in
      let here : slice_get gs g ≡ Some (Inv x) = rw (f.1, zero-add) f.2 in
      right_keep n gs g 1 _ ok (slice_get_within gs g (Inv x) here) (λ word v fits. fits g (Inv x) here)
  inv_made_right x lx p None e = let k = past_constants n gs ok in right_make n gs (Inv x) _ ok
      (omega arith, lx, other_is n x p) (λ word v fits. refl)

  inv_other_right : (x : ℕ) → x < length gs → side n x ≡ Neither → (o : Option ℕ) → inverted (slice_get gs x) ≡ o
      → Right n gs (inv_other gs x o) 1 (λ v. not (v x))
  inv_other_right x lx p (Some y) e =
      let here = inverted_is (slice_get gs x) y e in
      let may = ok.stands x (Inv y) here in
      right_keep n gs y 1 _ ok (omega arith) (λ word v fits. not_swap (v x) (v y) (fits x (Inv y) here))
  inv_other_right x lx p None e = inv_made_right x lx p _ refl

  inv_sides : (x : ℕ) → x < length gs → (s : Side) → side n x ≡ s → Right n gs (inv_case n gs x s) 1 (λ v. not (v x))
  inv_sides x lx IsZero p = right_keep n gs (n + 1) 1 _ ok (past_constants n gs ok)
      (λ word v fits. not_false_is _ (v x) (at_one n gs ok word v fits) (is_false n gs ok x p word v fits))
  inv_sides x lx IsOne p = right_keep n gs n 1 _ ok (slice_get_within gs n Zero ok.zero_at)
      (λ word v fits. not_true_is _ (v x) (at_zero n gs ok word v fits) (is_true n gs ok x p word v fits))
  inv_sides x lx Neither p = inv_other_right x lx p _ refl

  pub inv_is_right : (x : ℕ) → x < length gs → Right n gs (inv n gs x) 1 (λ v. not (v x))
  inv_is_right x lx = inv_sides x lx _ refl
