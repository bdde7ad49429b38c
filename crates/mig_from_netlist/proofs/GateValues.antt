-- What the operations on literals give.
use Rattle.std.proofs.Common.{◌≡◌, ℕ, ◌&&◌, ◌||◌, Bool, true, false, not, cond, List, Result, Ok, Err, Option, Some}
use Rattle.std.proofs.Common.{None, IfOk, IfSome, refl, ap, ◌∙◌}
use Rattle.circuit.specs.Function.{majority}
use Rattle.mig.specs.Graphs.{literal_value, node_value, Fits, turned}
use Rattle.mig.specs.Building.{BuilderView, Grown, Gives}
use Rattle.mig.proofs.Built.{gives_later, grown_then}
use Rattle.mig.proofs.Folded.{turned_value}

pub zero_value : (v : ℕ → Bool) → v 0 ≡ false → literal_value v 0 ≡ false
unfolding literal_value
zero_value v e = e

pub one_value : (v : ℕ → Bool) → v 0 ≡ false → literal_value v 1 ≡ true
unfolding literal_value
one_value v e = ap not e

-- the same value by another name
pub gives_same : (b : BuilderView) (l : ℕ) (f g : (ℕ → Bool) → Bool)
    → ((word : List Bool) (v : ℕ → Bool) → Fits b.inputs b.nodes word v → f v ≡ g v) → Gives b l f → Gives b l g
gives_same b l f g same given =
    record { below = given.below; shows = λ word v fit. given.shows word v fit ∙ same word v fit }

pub result_same : {E : Type 0} (r : Result ℕ E) (b : BuilderView) (f g : (ℕ → Bool) → Bool)
    → ((word : List Bool) (v : ℕ → Bool) → Fits b.inputs b.nodes word v → f v ≡ g v)
    → IfOk r (λ l. Gives b l f) → IfOk r (λ l. Gives b l g)
result_same (Err e) b f g same given = tt
result_same (Ok l) b f g same given = gives_same b l f g same given

low_majority : (z a b : Bool) → z ≡ false → majority z a b ≡ (a && b)
low_majority true a b e = absurd (let k : true ≡ false = e in cc)
low_majority false true true e = refl
low_majority false true false e = refl
low_majority false false b e = refl

high_majority : (z a b : Bool) → z ≡ true → majority z a b ≡ (a || b)
high_majority false a b e = absurd (let k : false ≡ true = e in cc)
high_majority true true b e = refl
high_majority true false true e = refl
high_majority true false false e = refl

pub and_value : (b : BuilderView) (x y : ℕ) (word : List Bool) (v : ℕ → Bool) → Fits b.inputs b.nodes word v
    → node_value v (record { x = 0; y = x; z = y }) ≡ (literal_value v x && literal_value v y)
unfolding node_value
and_value b x y word v fit = low_majority (literal_value v 0) (literal_value v x) (literal_value v y)
    (zero_value v fit.none)

pub or_value : (b : BuilderView) (x y : ℕ) (word : List Bool) (v : ℕ → Bool) → Fits b.inputs b.nodes word v
    → node_value v (record { x = 1; y = x; z = y }) ≡ (literal_value v x || literal_value v y)
unfolding node_value
or_value b x y word v fit = high_majority (literal_value v 1) (literal_value v x) (literal_value v y)
    (one_value v fit.none)

differ_is : (x y : Bool) → ((x || y) && not (x && y)) ≡ cond x (not y) y
differ_is true true = refl
differ_is true false = refl
differ_is false true = refl
differ_is false false = refl

choice_is : (x h l : Bool) → ((x && h) || (not x && l)) ≡ cond x h l
choice_is true true l = refl
choice_is true false l = refl
choice_is false h l = refl

pub differ_value : (b1 b2 b3 : BuilderView) (x y some both t : ℕ) → t ≡ turned both → Grown b1 b2 → Grown b2 b3
    → Gives b1 some (λ v. literal_value v x || literal_value v y)
    → Gives b2 both (λ v. literal_value v x && literal_value v y)
    → (word : List Bool) (v : ℕ → Bool) → Fits b3.inputs b3.nodes word v
    → (literal_value v some && literal_value v t) ≡ cond (literal_value v x) (not (literal_value v y))
    (literal_value v y)
differ_value b1 b2 b3 x y some both t e g2 g3 one two word v fit =
    let p = (gives_later b1 b3 some (λ w. literal_value w x || literal_value w y)
    (grown_then b1 b2 b3 g2 g3) one).shows word v fit in
    let q = (gives_later b2 b3 both (λ w. literal_value w x && literal_value w y) g3 two).shows word v fit in
    ap (λ a. a && literal_value v t) p
    ∙ ap (λ a. (literal_value v x || literal_value v y) && a) (ap (literal_value v) e ∙ turned_value v both ∙ ap not q)
    ∙ differ_is (literal_value v x) (literal_value v y)

pub choice_value : (b1 b2 b3 : BuilderView) (x t high low first second : ℕ) → t ≡ turned x → Grown b1 b2 → Grown b2 b3
    → Gives b1 first (λ v. literal_value v x && literal_value v high)
    → Gives b2 second (λ v. literal_value v t && literal_value v low)
    → (word : List Bool) (v : ℕ → Bool) → Fits b3.inputs b3.nodes word v
    → (literal_value v first || literal_value v second) ≡ cond (literal_value v x) (literal_value v high)
    (literal_value v low)
choice_value b1 b2 b3 x t high low first second e g2 g3 one two word v fit =
    let p = (gives_later b1 b3 first (λ w. literal_value w x && literal_value w high)
    (grown_then b1 b2 b3 g2 g3) one).shows word v fit in
    let q = (gives_later b2 b3 second (λ w. literal_value w t && literal_value w low) g3 two).shows word v fit in
    ap (λ a. a || literal_value v second) p
    ∙ ap (λ a. (literal_value v x && literal_value v high) || a)
    (q ∙ ap (λ a. a && literal_value v low) (ap (literal_value v) e ∙ turned_value v x))
    ∙ choice_is (literal_value v x) (literal_value v high) (literal_value v low)

pub option_same : {E : Type 0} (r : Result (Option ℕ) E) (b : BuilderView) (f g : (ℕ → Bool) → Bool)
    → ((word : List Bool) (v : ℕ → Bool) → Fits b.inputs b.nodes word v → f v ≡ g v)
    → IfOk r (λ o. IfSome o (λ l. Gives b l f)) → IfOk r (λ o. IfSome o (λ l. Gives b l g))
option_same (Err e) b f g same given = tt
option_same (Ok None) b f g same given = tt
option_same (Ok (Some l)) b f g same given = gives_same b l f g same given
