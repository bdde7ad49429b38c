-- What the values of a wide stream promise of its figures and grids.
use Rattle.std.proofs.Common.{◌≡◌, ◌≢◌, ℕ, ℤ, pos, ◌+ℤ◌, ◌-ℤ◌, ◌*ℤ◌, ◌<ℤ◌, List, [], ◌∷◌, Bool, true, false}
use Rattle.std.proofs.Common.{length, refl, sym, subst, ◌∙◌, arith, inl, inr}
use Rattle.std.specs.Prelude.{not, ◌&&◌, ◌||◌, ◌==◌, int_lt, int_div, int_rem}
use Rattle.std.specs.Ordering.{int_eq}
use Rattle.std.proofs.lemmas.Bool.{and_parts, not-true, or_cases}
use Rattle.std.proofs.lemmas.Int.{ints, quot-rem}
use Rattle.geom.specs.Rectangle.{Rectangle}
use Rattle.poly_cut.specs.declared.layout.Point.{Point}
use Rattle.poly_cut.specs.declared.layout.Figure.TheVariants.{Ring}
use Rattle.poly_cut.specs.Cuts.{ring_cut}
use Rattle.poly_cut.specs.Figures.{StepsTo, IsRound, GoesInTurn, IsBent, IsFigure}
use Rattle.poly_cut.specs.Conditions.{far}
use Rattle.poly_cut.proofs.RingLaw.{some_square}
use Rattle.gds_records.specs.WideValues.{Way, Right, Left, Up, Down, Still, Slanted, along, way, is_straight, is_same}
use Rattle.gds_records.specs.WideValues.{back, is_round_to, is_round, is_ring, goes_on, is_path, turns_from, turns}
use Rattle.gds_records.specs.WideValues.{is_multiple}
use Rattle.gds_records.specs.WideDrawing.{step}

eq_so : (a b : ℤ) → int_eq a b ≡ true → a ≡ b
eq_so a b e = grind (arith, ints)

eq_not : (a b : ℤ) → int_eq a b ≡ false → a ≢ b
eq_not a b e = grind (arith, ints)

-- ---- boundaries

same_point : (p z : Point) → p.x ≡ z.x → p.y ≡ z.y → p ≡ z
same_point p z e f = λ i. record { x = e i; y = f i }

steps_so : (z p : Point) (qs : List Point) → is_round_to z p qs ≡ true → StepsTo z p qs
steps_so z p [] h = let e = and_parts (int_eq p.x z.x) (int_eq p.y z.y) h in
    same_point p z (eq_so p.x z.x e.0) (eq_so p.y z.y e.1)
steps_so z p (q ∷ qs) h =
    let e = and_parts (int_eq p.x q.x || int_eq p.y q.y) (is_round_to z q qs) h in (
      elim (or_cases (int_eq p.x q.x) (int_eq p.y q.y) e.0) [
        | inl f ↦ inl (eq_so p.x q.x f)
        | inr f ↦ inr (eq_so p.y q.y f)
      ],
      steps_so z q qs e.1,
    )

round_so : (ps : List Point) → is_round ps ≡ true → IsRound ps
round_so [] h = absurd cc
round_so (p ∷ ps) h = steps_so p p ps h

some_so : (rs : List Rectangle) → not (length rs == 0) ≡ true → rs ≢ []
some_so [] h = absurd cc
some_so (r ∷ rs) h = λ e. cc

pub ring_so : (ps : List Point) → is_ring ps ≡ true → IsFigure (Ring ps)
ring_so ps h = let e = and_parts (is_round ps) (not (length (ring_cut ps) == 0)) h in
    (round_so ps e.0, some_square ps (round_so ps e.0) (some_so (ring_cut ps) e.1))

-- ---- paths

abbrev across : Way → Bool
across Right = true
across Left = true
across w = false

-- what a way says
abbrev Goes : Way → Point → Point → Type 0
Goes Right p q = (p.x <ℤ q.x) × (p.y ≡ q.y)
Goes Left p q = (q.x <ℤ p.x) × (p.y ≡ q.y)
Goes Up p q = (p.x ≡ q.x) × (p.y <ℤ q.y)
Goes Down p q = (p.x ≡ q.x) × (q.y <ℤ p.y)
Goes w p q = Unit {0}

before_so : (a b : ℤ) → int_lt a b ≡ true → a <ℤ b
before_so a b h = grind (arith, ints)

behind_so : (a b : ℤ) → int_lt a b ≡ false → a ≢ b → b <ℤ a
behind_so a b h ne = grind (arith, ints)

way_goes : (p q : Point) → Goes (way p q) p q
way_goes p q = turn (int_eq p.x q.x) refl (int_eq p.y q.y) refl (int_lt p.x q.x) refl (int_lt p.y q.y) refl
  where
    turn : (a : Bool) → int_eq p.x q.x ≡ a → (b : Bool) → int_eq p.y q.y ≡ b → (c : Bool) → int_lt p.x q.x ≡ c
        → (d : Bool) → int_lt p.y q.y ≡ d
        → Goes (elim a as (λ (t : Bool). Way) [
          | true ↦ elim b as (λ (t : Bool). Way) [
            | true ↦ Still
            | false ↦ elim d as (λ (t : Bool). Way) [ true ↦ Up | false ↦ Down ]
          ]
          | false ↦ elim b as (λ (t : Bool). Way) [
            | true ↦ elim c as (λ (t : Bool). Way) [ true ↦ Right | false ↦ Left ]
            | false ↦ Slanted
          ]
        ]) p q
    turn true e true f c g d h = tt
    turn true e false f c g true h = (eq_so p.x q.x e, before_so p.y q.y h)
    turn true e false f c g false h = (eq_so p.x q.x e, behind_so p.y q.y h (eq_not p.y q.y f))
    turn false e true f true g d h = (before_so p.x q.x g, eq_so p.y q.y f)
    turn false e true f false g d h = (behind_so p.x q.x g (eq_not p.x q.x e), eq_so p.y q.y f)
    turn false e false f c g d h = tt

-- straight on is straight
on_goes : (w : Way) (p q r : Point) → Goes w p q → Goes w q r → Goes w p r
on_goes Right p q r a b = (omega (arith, ints, a.0, b.0), a.1 ∙ b.1)
on_goes Left p q r a b = (omega (arith, ints, a.0, b.0), a.1 ∙ b.1)
on_goes Up p q r a b = (a.0 ∙ b.0, omega (arith, ints, a.1, b.1))
on_goes Down p q r a b = (a.0 ∙ b.0, omega (arith, ints, a.1, b.1))
on_goes w p q r a b = tt

same_so : (w v : Way) → is_same w v ≡ true → w ≡ v
same_so Right Right h = refl
same_so Left Left h = refl
same_so Up Up h = refl
same_so Down Down h = refl
same_so w v h = absurd cc

-- neither on nor back is a turn
turn_so : (w v : Way) → is_straight w ≡ true → is_straight v ≡ true → is_same w v ≡ false → is_same v (back w) ≡ false
    → across v ≡ not (across w)
turn_so Right Up a b c d = refl
turn_so Right Down a b c d = refl
turn_so Left Up a b c d = refl
turn_so Left Down a b c d = refl
turn_so Up Right a b c d = refl
turn_so Up Left a b c d = refl
turn_so Down Right a b c d = refl
turn_so Down Left a b c d = refl
turn_so w v a b c d = absurd cc

-- a first step in a straight way, and then turns
one_turn : (w : Way) (p q : Point) (qs : List Point) → is_straight w ≡ true → Goes w p q
    → GoesInTurn (not (across w)) q qs → GoesInTurn (across w) p (q ∷ qs)
one_turn Right p q qs s g t = (λ e. omega (arith, ints, g.0, e), g.1, t)
one_turn Left p q qs s g t = (λ e. omega (arith, ints, g.0, e), g.1, t)
one_turn Up p q qs s g t = (g.0, λ e. omega (arith, ints, g.1, e), t)
one_turn Down p q qs s g t = (g.0, λ e. omega (arith, ints, g.1, e), t)
one_turn w p q qs s g t = absurd cc

-- the points that are kept behind p, from which q was come to by the way w
run : (w : Way) (p q : Point) (qs : List Point) → is_straight w ≡ true → Goes w p q → goes_on w q qs ≡ true
    → GoesInTurn (across w) p (turns_from w q qs)
run w p q [] s g h = one_turn w p q [] s g tt
run w p q (r ∷ rs) s g h =
    let a = and_parts (is_straight (way q r)) (not (is_same (way q r) (back w)) && goes_on (way q r) r rs) h in
    let b = and_parts (not (is_same (way q r) (back w))) (goes_on (way q r) r rs) a.1 in
    turn (is_same w (way q r)) refl a.0 (not-true (is_same (way q r) (back w)) b.0)
    (λ e. run (way q r) p r rs a.0 (on_goes (way q r) p q r (ap_goes e) (way_goes q r)) b.1)
    (run (way q r) q r rs a.0 (way_goes q r) b.1)
  where
    ap_goes : w ≡ way q r → Goes (way q r) p q
    ap_goes e = subst (λ (v : Way). Goes v p q) e g

    turn : (t : Bool) → is_same w (way q r) ≡ t → is_straight (way q r) ≡ true → is_same (way q r) (back w) ≡ false
        → (w ≡ way q r → GoesInTurn (across (way q r)) p (turns_from (way q r) r rs))
        → GoesInTurn (across (way q r)) q (turns_from (way q r) r rs)
        → GoesInTurn (across w) p
        (elim t as (λ (x : Bool). List Point) [
          | true ↦ turns_from (way q r) r rs
          | false ↦ q ∷ turns_from (way q r) r rs
        ])
    turn true e st bk on off = let k : w ≡ way q r = same_so w (way q r) e in
        subst (λ (v : Way). GoesInTurn (across v) p (turns_from (way q r) r rs)) (sym k) (on k)
    turn false e st bk on off = one_turn w p q (turns_from (way q r) r rs) s g
        (subst (λ (b : Bool). GoesInTurn b q (turns_from (way q r) r rs)) (turn_so w (way q r) s st e bk) off)

kept_some : (along : Bool) (p : Point) (w : Way) (q : Point) (qs : List Point) → GoesInTurn along p (turns_from w q qs)
    → IsBent (p ∷ turns_from w q qs)
kept_some along p w q qs t = turn along (turns_from w q qs) (some w q qs) t
  where
    some : (w : Way) (q : Point) (qs : List Point) → (r : Point) × (rs : List Point) × (turns_from w q qs ≡ r ∷ rs)
    some w q [] = (q, [], refl)
    some w q (r ∷ rs) = pick (is_same w (way q r)) (some (way q r) r rs)
      where
        pick : (t : Bool) → ((s : Point) × (ss : List Point) × (turns_from (way q r) r rs ≡ s ∷ ss))
            → (s : Point) × (ss : List Point)
            × ((elim t as (λ (x : Bool). List Point) [
              | true ↦ turns_from (way q r) r rs
              | false ↦ q ∷ turns_from (way q r) r rs
            ]) ≡ s ∷ ss)
        pick true k = k
        pick false k = (q, turns_from (way q r) r rs, refl)

    bent : (along : Bool) (r : Point) (rs : List Point) → GoesInTurn along p (r ∷ rs) → IsBent (p ∷ r ∷ rs)
    bent true r rs t = inl t
    bent false r rs t = inr t

    turn : (along : Bool) (l : List Point) → ((r : Point) × (rs : List Point) × (l ≡ r ∷ rs)) → GoesInTurn along p l
        → IsBent (p ∷ l)
    turn along l k t = subst (λ (x : List Point). IsBent (p ∷ x)) (sym k.2)
        (bent along k.0 k.1 (subst (λ (x : List Point). GoesInTurn along p x) k.2 t))

pub path_so : (ps : List Point) → is_path ps ≡ true → IsBent (turns ps)
path_so [] h = absurd cc
path_so (p ∷ []) h = absurd cc
path_so (p ∷ q ∷ qs) h =
    let a = and_parts (is_straight (way p q)) (not (is_same (way p q) Still) && goes_on (way p q) q qs) h in
    let b = and_parts (not (is_same (way p q) Still)) (goes_on (way p q) q qs) a.1 in
    kept_some (across (way p q)) p (way p q) q qs (run (way p q) p q qs a.0 (way_goes p q) b.1)

-- ---- grids

whole_steps : (n : ℕ) (a b : ℤ) → is_multiple n a b ≡ true → a +ℤ pos n *ℤ int_div (b -ℤ a) (pos n) ≡ b
whole_steps n a b h =
    let e : int_rem (b -ℤ a) (pos n) ≡ pos 0 = eq_so (int_rem (b -ℤ a) (pos n)) (pos 0) h in
    let q : int_div (b -ℤ a) (pos n) *ℤ pos n +ℤ int_rem (b -ℤ a) (pos n) ≡ b -ℤ a = quot-rem (b -ℤ a) (pos n) in
    let c : pos n *ℤ int_div (b -ℤ a) (pos n) ≡ int_div (b -ℤ a) (pos n) *ℤ pos n =
    times_comm (pos n) (int_div (b -ℤ a) (pos n)) in
    omega (arith, ints, e, q, c)
  where
    times_comm : (x y : ℤ) → x *ℤ y ≡ y *ℤ x
    times_comm x y = grind (arith, ints)

-- the steps lead from the first point to where the grid ends
pub grid_so : (n : ℕ) (p q : Point) → is_multiple n p.x q.x ≡ true → is_multiple n p.y q.y ≡ true
    → far n (step n p q) p ≡ q
grid_so n p q hx hy = same_point (far n (step n p q) p) q (whole_steps n p.x q.x hx) (whole_steps n p.y q.y hy)
