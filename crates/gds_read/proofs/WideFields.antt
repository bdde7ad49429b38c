-- The points, grids and rings of a wide stream's fields.
use Rattle.std.proofs.Common.{◌≡◌, ◌≢◌, ℕ, zero, suc, ◌+◌, ◌*◌, ◌/◌, ◌^◌, ◌<◌, ◌≤◌, List, [], ◌∷◌, ◌++◌, Bool, true}
use Rattle.std.proofs.Common.{false}
use Rattle.std.proofs.Common.{drop-cons, get_or, length, drop, refl, sym, ap, ◌∙◌, arith, ℤ, pos, ◌-ℤ◌, FitsSigned}
use Rattle.std.proofs.Common.{of_z, to_z, append_assoc, nat_eq}
use Rattle.std.specs.Prelude.{◌&&◌, int_rem, unsigned_abs}
use Rattle.std.specs.Int.{w32, w64}
use Rattle.std.specs.Ordering.{int_eq}
use Rattle.std.proofs.lemmas.Int.{ints, rem_below}
use Rattle.std.proofs.lemmas.List.{length-drop}
use Rattle.std.proofs.lemmas.Bool.Decides.{nat_tests}
use Rattle.poly_cut.specs.declared.layout.Point.{Point}
use Rattle.poly_cut.specs.Turns.{point}
use Rattle.gds_records.specs.Scan.{IsBytes}
use Rattle.gds_records.specs.Values.{at, unsigned_value}
use Rattle.gds_records.specs.Drawing.{coordinate}
use Rattle.gds_records.specs.WideValues.{some_points, points, is_multiple, is_lattice}
use Rattle.gds_records.proofs.RectangleRings.{further}
use Rattle.gds_read.proofs.Placed.{four_low, drop_is_bytes, coordinate_fits}

-- ---- points

pub points_more : (xy : List ℕ) → 8 ≤ length xy → points xy ≡ point (coordinate xy 0) (coordinate xy 1)
    ∷ points (drop 8 xy)
points_more xy h =
    let e : length xy / 8 ≡ suc (length (drop 8 xy) / 8) = omega (arith, length-drop 8 xy) in
    ap (λ (n : ℕ). some_points n xy) e

pub points_none : (xy : List ℕ) → length xy < 8 → points xy ≡ []
points_none xy h = let e : length xy / 8 ≡ 0 = omega arith in ap (λ (n : ℕ). some_points n xy) e

-- one point more of those that are read
pub one_point : (xy rest more : List ℕ) (found grown : List Point) (p : Point) → 8 ≤ length rest
    → more ≡ drop 8 rest → p ≡ point (coordinate rest 0) (coordinate rest 1) → grown ≡ found ++ p ∷ []
    → found ++ points rest ≡ points xy → grown ++ points more ≡ points xy
one_point xy rest more found grown p h m e g i =
    ap (λ (l : List Point). l ++ points more) g ∙ append_assoc found (p ∷ []) (points more)
    ∙ (λ k. found ++ e k ∷ points (m k)) ∙ ap (λ (l : List Point). found ++ l) (sym (points_more rest h)) ∙ i

length_points : (n : ℕ) (xy : List ℕ) → length (some_points n xy) ≡ n
length_points zero xy = refl
length_points (suc n) xy = ap suc (length_points n (drop 8 xy))

further_twice : (xy : List ℕ) (i : ℕ) → coordinate (drop 8 (drop 8 xy)) i ≡ coordinate xy (i + 2 + 2)
further_twice xy i = further (drop 8 xy) i ∙ further xy (i + 2)

three_points : (xy : List ℕ) → length xy / 8 ≡ 3
    → points xy ≡ point (coordinate xy 0) (coordinate xy 1) ∷ point (coordinate xy 2) (coordinate xy 3)
    ∷ point (coordinate xy 4) (coordinate xy 5) ∷ []
three_points xy e =
    ap (λ (n : ℕ). some_points n xy) e
    ∙ (λ k. point (coordinate xy 0) (coordinate xy 1) ∷ point (further xy 0 k) (further xy 1 k)
    ∷ point (further_twice xy 0 k) (further_twice xy 1 k) ∷ [])

-- ---- grids

zero_test : (r : ℤ) → unsigned_abs r < 65536 → nat_eq (of_z w64 r) 0 ≡ int_eq r (pos 0)
zero_test r h = grind (arith, ints, nat_tests)

same_number : (z : ℤ) → FitsSigned w64 z → to_z w64 (of_z w64 z) ≡ z
same_number z f = omega (arith, ints)

passed_on : (z : ℤ) → FitsSigned w32 z → to_z w32 (of_z w32 z) ≡ z
passed_on z f = omega (arith, ints)

pub multiple_is : (n : ℕ) (a b d z : ℤ) → FitsSigned w32 a → FitsSigned w32 b → n ≢ 0 → n < 65536
    → d ≡ to_z w32 (of_z w32 b) -ℤ to_z w32 (of_z w32 a) → z ≡ pos n
    → nat_eq (of_z w64 (int_rem (to_z w64 (of_z w64 d)) (to_z w64 (of_z w64 z)))) 0 ≡ is_multiple n a b
multiple_is n a b d z f g some small made q =
    let e : d ≡ b -ℤ a = made ∙ (λ k. passed_on b g k -ℤ passed_on a f k) in
    let w : FitsSigned w64 (b -ℤ a) = omega (arith, ints) in
    let u : FitsSigned w64 (pos n) = omega (arith, ints) in
    let below : unsigned_abs (int_rem (b -ℤ a) (pos n)) < n = rem_below (b -ℤ a) (pos n) (omega arith) in
    (λ k. nat_eq (of_z w64 (int_rem (to_z w64 (of_z w64 (e k))) (to_z w64 (of_z w64 (q k))))) 0)
    ∙ (λ k. nat_eq (of_z w64 (int_rem (same_number (b -ℤ a) w k) (same_number (pos n) u k))) 0)
    ∙ zero_test (int_rem (b -ℤ a) (pos n)) (omega arith)

and_so : (s t u : Bool) → s ≡ true → u ≡ t → u ≡ (s && t)
and_so s t u e f = f ∙ (λ k. sym e k && t)

-- a coordinate as it is passed on
pub passed : (xy : List ℕ) → IsBytes xy → (i : ℕ) (a : ℤ) → a ≡ coordinate xy i
    → to_z w32 (of_z w32 a) ≡ coordinate xy i
passed xy bytes i a e = ap (λ (z : ℤ). to_z w32 (of_z w32 z)) e
    ∙ passed_on (coordinate xy i) (coordinate_fits xy i bytes)

pub both_multiples : (n : ℕ) (xy : List ℕ) (bytes : IsBytes xy) (i : ℕ) (a x b y : ℤ) (s u : Bool) → a ≡ coordinate xy 0
    → x ≡ coordinate xy i
    → b ≡ coordinate xy 1 → y ≡ coordinate xy (i + 1)
    → s ≡ is_multiple n (to_z w32 (of_z w32 a)) (to_z w32 (of_z w32 x)) → s ≡ true
    → u ≡ is_multiple n (to_z w32 (of_z w32 b)) (to_z w32 (of_z w32 y))
    → u ≡ (is_multiple n (coordinate xy 0) (coordinate xy i) && is_multiple n (coordinate xy 1) (coordinate xy (suc i)))
both_multiples n xy bytes i a x b y s u p q r t e f g =
    let next : i + 1 ≡ suc i = omega arith in
    let w : y ≡ coordinate xy (suc i) = t ∙ ap (λ (k : ℕ). coordinate xy k) next in
    and_so _ _ u (sym (λ k. is_multiple n (passed xy bytes 0 a p k) (passed xy bytes i x q k)) ∙ sym e ∙ f)
    (g ∙ (λ k. is_multiple n (passed xy bytes 1 b r k) (passed xy bytes (suc i) y w k)))

pub lattice_three : (columns rows : ℕ) (xy : List ℕ) → length xy / 8 ≡ 3
    → is_lattice columns rows (points xy)
    ≡ ((is_multiple columns (coordinate xy 0) (coordinate xy 2) && is_multiple columns (coordinate xy 1)
    (coordinate xy 3))
    && (is_multiple rows (coordinate xy 0) (coordinate xy 4) && is_multiple rows (coordinate xy 1) (coordinate xy 5)))
lattice_three columns rows xy e = ap (λ (ps : List Point). is_lattice columns rows ps) (three_points xy e)

no_lattice : (columns rows : ℕ) (ps : List Point) → length ps ≢ 3 → false ≡ is_lattice columns rows ps
no_lattice columns rows [] h = refl
no_lattice columns rows (p ∷ []) h = refl
no_lattice columns rows (p ∷ q ∷ []) h = refl
no_lattice columns rows (p ∷ q ∷ r ∷ []) h = absurd (h refl)
no_lattice columns rows (p ∷ q ∷ r ∷ s ∷ ps) h = refl

pub lattice_other : (columns rows : ℕ) (xy : List ℕ) → length xy / 8 ≢ 3 → false ≡ is_lattice columns rows (points xy)
lattice_other columns rows xy h =
    no_lattice columns rows (points xy) (λ e. h (sym (length_points (length xy / 8) xy) ∙ e))

-- ---- rings

pub at_fits : (xy : List ℕ) → IsBytes xy → (k : ℕ) → at xy k < 2 ^ 32
at_fits xy f k = four_low (drop (4 * k) xy) (drop_is_bytes (4 * k) xy f)

-- ---- numbers

value_grows : (n : ℕ) (bs : List ℕ) → n ≤ unsigned_value n bs
value_grows n [] = omega arith
value_grows n (b ∷ bs) = omega (arith, value_grows (n * 256 + b) bs)

-- a number with more than its front of so many bytes is greater
pub too_great : (bytes : List ℕ) (so_far i number : ℕ) → i < length bytes → number / 256 < so_far
    → unsigned_value so_far (drop i bytes) ≡ unsigned_value 0 bytes → false ≡ nat_eq (unsigned_value 0 bytes) number
too_great bytes so_far i number lt h e =
    let next = ap (λ (l : List ℕ). unsigned_value so_far l) (drop-cons bytes i 0 lt) in
    let above : number < unsigned_value 0 bytes
    = omega (arith, value_grows (so_far * 256 + get_or bytes i 0) (drop (suc i) bytes), next, e) in
    grind (arith, nat_tests)
