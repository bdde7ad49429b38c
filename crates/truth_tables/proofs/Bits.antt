-- Bits of tables as truth values.
use Rattle.std.specs.Prelude.{◌≡◌, ℕ, zero, suc, ◌+◌, ◌-◌, ◌*◌, ◌/◌, ◌%◌, ◌^◌, ◌<◌, ◌≤◌, ◌==◌, ◌&&◌, ◌||◌, min, max}
use Rattle.std.specs.Prelude.{Bool, true, false, not, cond, List, [], ◌∷◌, length, slice_index_or, bit_and, bit_or}
use Rattle.std.specs.Prelude.{bit_xor}
use Rattle.std.specs.Int.{bit_at, bit_not}
use Rattle.std.proofs.Common.{refl, ap, ◌∙◌, arith, w64, lit<, pow_mono}
use Rattle.std.proofs.Math.Nat.{pow-suc}
use Rattle.std.proofs.lemmas.Nat.Bits.{bit_at-zero, bit_at-lt, bit_at-suc, bit_at_lowest, bit_at_and, bit_at_or}
use Rattle.std.proofs.lemmas.Nat.Bits.{bit_at_xor, bit_at_not, bit_at_ones}
use Rattle.std.proofs.lemmas.Bool.{agree_below_at}
use Rattle.circuit.specs.Function.{majority}
use Rattle.truth_tables.specs.Tables.{holds, mask, index}

min_test : (a b : ℕ) → a < 2 → b < 2 → (min a b == 1) ≡ ((a == 1) && (b == 1))
min_test zero zero p q = refl
min_test zero (suc zero) p q = refl
min_test zero (suc (suc b)) p q = absurd (omega arith)
min_test (suc zero) zero p q = refl
min_test (suc zero) (suc zero) p q = refl
min_test (suc zero) (suc (suc b)) p q = absurd (omega arith)
min_test (suc (suc a)) b p q = absurd (omega arith)

max_test : (a b : ℕ) → a < 2 → b < 2 → (max a b == 1) ≡ ((a == 1) || (b == 1))
max_test zero zero p q = refl
max_test zero (suc zero) p q = refl
max_test zero (suc (suc b)) p q = absurd (omega arith)
max_test (suc zero) zero p q = refl
max_test (suc zero) (suc zero) p q = refl
max_test (suc zero) (suc (suc b)) p q = absurd (omega arith)
max_test (suc (suc a)) b p q = absurd (omega arith)

xor_test : (a b : ℕ) → a < 2 → b < 2 → ((a + b) % 2 == 1) ≡ cond (a == 1) (not (b == 1)) (b == 1)
xor_test zero zero p q = refl
xor_test zero (suc zero) p q = refl
xor_test zero (suc (suc b)) p q = absurd (omega arith)
xor_test (suc zero) zero p q = refl
xor_test (suc zero) (suc zero) p q = refl
xor_test (suc zero) (suc (suc b)) p q = absurd (omega arith)
xor_test (suc (suc a)) b p q = absurd (omega arith)

not_test : (a : ℕ) → a < 2 → ((1 - a) == 1) ≡ not (a == 1)
not_test zero p = refl
not_test (suc zero) p = refl
not_test (suc (suc a)) p = absurd (omega arith)

pub holds_and : (a b i : ℕ) → holds (bit_and a b) i ≡ (holds a i && holds b i)
unfolding holds
holds_and a b i = ap (λ n. n == 1) (bit_at_and a b i)
    ∙ min_test (bit_at a i) (bit_at b i) (bit_at-lt a i) (bit_at-lt b i)

pub holds_or : (a b i : ℕ) → holds (bit_or a b) i ≡ (holds a i || holds b i)
unfolding holds
holds_or a b i = ap (λ n. n == 1) (bit_at_or a b i) ∙ max_test (bit_at a i) (bit_at b i) (bit_at-lt a i) (bit_at-lt b i)

pub holds_xor : (a b i : ℕ) → holds (bit_xor a b) i ≡ cond (holds a i) (not (holds b i)) (holds b i)
unfolding holds
holds_xor a b i = ap (λ n. n == 1) (bit_at_xor a b i)
    ∙ xor_test (bit_at a i) (bit_at b i) (bit_at-lt a i) (bit_at-lt b i)

pub holds_not : (a i : ℕ) → a < 2 ^ 64 → i < 64 → holds (bit_not w64 a) i ≡ not (holds a i)
unfolding holds
holds_not a i p q = ap (λ n. n == 1) (bit_at_not w64 a i p q) ∙ not_test (bit_at a i) (bit_at-lt a i)

pub holds_none : (i : ℕ) → holds 0 i ≡ false
unfolding holds
holds_none i = ap (λ n. n == 1) (bit_at-zero i)

pub holds_all : (i : ℕ) → i < 64 → holds 18446744073709551615 i ≡ true
unfolding holds
holds_all i lt = ap (λ n. n == 1) (bit_at_ones 64 i lt)

-- bit i of a mask is the bit of i at its place
pub holds_mask : (place i : ℕ) → place < 6 → i < 64 → holds (mask place) i ≡ holds i place
unfolding holds
holds_mask zero i low lt = agree_below_at (λ i. bit_at (mask 0) i == 1) (λ i. bit_at i 0 == 1) 64 i refl lt
holds_mask (suc zero) i low lt = agree_below_at (λ i. bit_at (mask 1) i == 1) (λ i. bit_at i 1 == 1) 64 i refl lt
holds_mask (suc (suc zero)) i low lt = agree_below_at (λ i. bit_at (mask 2) i == 1) (λ i. bit_at i 2 == 1) 64 i refl lt
holds_mask (suc (suc (suc zero))) i low lt =
    agree_below_at (λ i. bit_at (mask 3) i == 1) (λ i. bit_at i 3 == 1) 64 i refl lt
holds_mask (suc (suc (suc (suc zero)))) i low lt =
    agree_below_at (λ i. bit_at (mask 4) i == 1) (λ i. bit_at i 4 == 1) 64 i refl lt
holds_mask (suc (suc (suc (suc (suc zero))))) i low lt =
    agree_below_at (λ i. bit_at (mask 5) i == 1) (λ i. bit_at i 5 == 1) 64 i refl lt
holds_mask (suc (suc (suc (suc (suc (suc p)))))) i low lt = absurd (omega arith)

parity : (x : Bool) (k : ℕ) → ((cond x 1 0 + 2 * k) % 2 == 1) ≡ x
parity true k = ap (λ n. n == 1) (let e : (1 + 2 * k) % 2 ≡ 1 = omega arith in e)
parity false k = ap (λ n. n == 1) (let e : (0 + 2 * k) % 2 ≡ 0 = omega arith in e)

half : (x : Bool) (k : ℕ) → (cond x 1 0 + 2 * k) / 2 ≡ k
half true k = omega arith
half false k = omega arith

-- the bits of the place of some values are these values
pub holds_index : (xs : List Bool) (j : ℕ) → holds (index xs) j ≡ slice_index_or xs j false
unfolding holds
holds_index [] j = ap (λ n. n == 1) (bit_at-zero j)
holds_index (x ∷ xs) zero = ap (λ n. n == 1) (bit_at_lowest (index (x ∷ xs))) ∙ parity x (index xs)
holds_index (x ∷ xs) (suc j) =
    ap (λ n. n == 1) (bit_at-suc (index (x ∷ xs)) j ∙ ap (λ n. bit_at n j) (half x (index xs))) ∙ holds_index xs j

double : (x : Bool) (k p : ℕ) → k < p → cond x 1 0 + 2 * k < 2 * p
double true k p lt = omega arith
double false k p lt = omega arith

-- of up to six values it is below 64
index_low : (xs : List Bool) → index xs < 2 ^ length xs
index_low [] = lit< tt
index_low (x ∷ xs) =
    (let p : 2 ^ suc (length xs) ≡ 2 ^ length xs * 2 = pow-suc 2 (length xs) in let h =
    double x (index xs) (2 ^ length xs) (index_low xs) in omega arith)

pub index_below : (xs : List Bool) → length xs ≤ 6 → index xs < 64
index_below xs le = (let h = index_low xs in let p : 2 ^ length xs ≤ 2 ^ 6 = pow_mono le in omega arith)

or_three : (a b c d e f : Bool) → (((a && b) || (c && d)) || (e && f)) ≡ ((a && b) || (c && d) || (e && f))
or_three true true c d e f = refl
or_three true false true true e f = refl
or_three true false true false e f = refl
or_three true false false d e f = refl
or_three false b true true e f = refl
or_three false b true false e f = refl
or_three false b false d e f = refl

-- the majority of three tables
pub majority_holds : (x y z i : ℕ)
    → holds (bit_or (bit_or (bit_and x y) (bit_and x z)) (bit_and y z)) i ≡ majority (holds x i) (holds y i) (holds z i)
majority_holds x y z i =
    holds_or (bit_or (bit_and x y) (bit_and x z)) (bit_and y z) i
    ∙ ap (λ t. t || holds (bit_and y z) i) (holds_or (bit_and x y) (bit_and x z) i)
    ∙ ap (λ t. (t || holds (bit_and x z) i) || holds (bit_and y z) i) (holds_and x y i)
    ∙ ap (λ t. ((holds x i && holds y i) || t) || holds (bit_and y z) i) (holds_and x z i)
    ∙ ap (λ t. ((holds x i && holds y i) || (holds x i && holds z i)) || t) (holds_and y z i)
    ∙ or_three (holds x i) (holds y i) (holds x i) (holds z i) (holds y i) (holds z i)
