-- Rising walls and levels: parities, and what toggling and placing do.
use Rattle.std.proofs.Common.{◌≡◌, ℤ, ◌<ℤ◌, ◌≤ℤ◌, ◌⊎◌, List, [], ◌∷◌, Bool, true, false, refl, sym, ap, subst, ◌∙◌}
use Rattle.std.proofs.Common.{arith, inl, inr}
use Rattle.std.specs.Prelude.{not, ◌&&◌, ◌||◌, int_le, int_lt}
use Rattle.std.specs.declared.cmp.Ordering.{Ordering}
use Rattle.std.specs.declared.cmp.Ordering.TheVariants.{Less, Equal, Greater}
use Rattle.std.specs.Ordering.{int_cmp, MatchOrdering}
use Rattle.std.proofs.lemmas.Int.{ints}
use Rattle.std.proofs.lemmas.Cmp.{int_ranked}
use Rattle.poly_cut.specs.Squares.{differ}
use Rattle.poly_cut.specs.Rings.{Edge, covers, odd_left}
use Rattle.poly_cut.specs.Cuts.{toggled, walls, placed}
use Rattle.poly_cut.specs.Code.Sweeping.{Above, Rising}

-- ---- one of two and not the other

pub differ_false : (a : Bool) → differ a false ≡ a
differ_false true = refl
differ_false false = refl

pub differ_self : (a : Bool) → differ a a ≡ false
differ_self true = refl
differ_self false = refl

pub differ_twice : (a b : Bool) → differ a (differ a b) ≡ b
differ_twice true true = refl
differ_twice true false = refl
differ_twice false b = refl

pub differ_swap : (a b c : Bool) → differ a (differ b c) ≡ differ b (differ a c)
differ_swap true true c = refl
differ_swap true false c = refl
differ_swap false true c = refl
differ_swap false false c = refl

pub differ_through : (a b c : Bool) → differ (differ a b) (differ b c) ≡ differ a c
differ_through true true true = refl
differ_through true true false = refl
differ_through true false c = refl
differ_through false true true = refl
differ_through false true false = refl
differ_through false false c = refl

pub not_differs : (a b : Bool) → not (differ a b) ≡ differ (not a) b
not_differs true true = refl
not_differs true false = refl
not_differs false b = refl

pub and_true : (a : Bool) → (a && true) ≡ a
and_true true = refl
and_true false = refl

pub and_false : (a : Bool) → (a && false) ≡ false
and_false true = refl
and_false false = refl

pub or_false : (a : Bool) → (a || false) ≡ a
or_false true = refl
or_false false = refl

pub or_assoc : (a b c : Bool) → ((a || b) || c) ≡ (a || (b || c))
or_assoc true b c = refl
or_assoc false b c = refl

pub or_comm : (a b : Bool) → (a || b) ≡ (b || a)
or_comm true true = refl
or_comm true false = refl
or_comm false true = refl
or_comm false false = refl

pub and_or : (a b c : Bool) → ((a && b) || (a && c)) ≡ (a && (b || c))
and_or true b c = refl
and_or false b c = refl

pub or_and : (a b c : Bool) → ((a && c) || (b && c)) ≡ ((a || b) && c)
or_and true true true = refl
or_and true true false = refl
or_and true false true = refl
or_and true false false = refl
or_and false b c = refl

-- ---- tests of signed numbers

pub le_is : (a b : ℤ) → a ≤ℤ b → int_le a b ≡ true
le_is a b h = grind (arith, ints)

pub le_not : (a b : ℤ) → b <ℤ a → int_le a b ≡ false
le_not a b h = grind (arith, ints)

pub le_so : (a b : ℤ) → int_le a b ≡ true → a ≤ℤ b
le_so a b h = grind (arith, ints)

pub le_less : (a b : ℤ) → int_le a b ≡ false → b <ℤ a
le_less a b h = grind (arith, ints)

pub lt_is : (a b : ℤ) → a <ℤ b → int_lt a b ≡ true
lt_is a b h = grind (arith, ints)

pub lt_not : (a b : ℤ) → b ≤ℤ a → int_lt a b ≡ false
lt_not a b h = grind (arith, ints)

-- ---- rising numbers

pub above_lower : (a b : ℤ) (ws : List ℤ) → a <ℤ b → Above b ws → Above a ws
above_lower a b [] lt h = tt
above_lower a b (w ∷ ws) lt h = (omega (arith, ints, lt, h.0), h.1)

pub rising_of : (a : ℤ) (ws : List ℤ) → Above a ws → Rising ws
rising_of a [] h = tt
rising_of a (w ∷ ws) h = h.1

abbrev pub In : ℤ → List ℤ → Type 0
In v [] = ⊥
In v (l ∷ ls) = (v ≡ l) ⊎ In v ls

pub in_above : (v a : ℤ) (ls : List ℤ) → Above a ls → In v ls → a <ℤ v
in_above v a [] h i = absurd i
in_above v a (l ∷ ls) h (inl e) = rw e h.0
in_above v a (l ∷ ls) h (inr i) = let n : l <ℤ v = in_above v l ls h.1 i in omega (arith, ints, h.0, n)

-- an odd number of the walls stand at most at i
abbrev pub odd_upto : List ℤ → ℤ → Bool
odd_upto [] i = false
odd_upto (w ∷ ws) i = differ (int_le w i) (odd_upto ws i)

pub none_upto : (b i : ℤ) (ws : List ℤ) → Above b ws → i ≤ℤ b → odd_upto ws i ≡ false
none_upto b i [] h le = refl
none_upto b i (w ∷ ws) h le =
    let m : i <ℤ w = omega (arith, ints, h.0, le) in
    ap (λ (t : Bool). differ t (odd_upto ws i)) (le_not w i m) ∙ none_upto w i ws h.1 (omega (arith, ints, m))

abbrev pub is_odd : List ℤ → Bool
is_odd [] = false
is_odd (w ∷ ws) = not (is_odd ws)

-- ---- toggling

abbrev toggled_by : Ordering → ℤ → ℤ → List ℤ → List ℤ
toggled_by Less x w ws = x ∷ w ∷ ws
toggled_by Equal x w ws = ws
toggled_by Greater x w ws = w ∷ toggled x ws

by_cases : (x w : ℤ) (ws : List ℤ) → toggled x (w ∷ ws) ≡ toggled_by (int_cmp x w) x w ws
by_cases x w ws = turn (int_cmp x w)
  where
    turn : (o : Ordering)
        → (elim o as (λ (k : Ordering). List ℤ) [
          | Less ↦ x ∷ w ∷ ws
          | Equal ↦ ws
          | Greater ↦ w ∷ toggled x ws
        ]) ≡ toggled_by o x w ws
    turn Less = refl
    turn Equal = refl
    turn Greater = refl

pub toggled_odd : (x : ℤ) (ws : List ℤ) (i : ℤ) → odd_upto (toggled x ws) i ≡ differ (int_le x i) (odd_upto ws i)
toggled_odd x [] i = refl
toggled_odd x (w ∷ ws) i = ap (λ (l : List ℤ). odd_upto l i) (by_cases x w ws)
    ∙ turn (int_cmp x w) (int_ranked x w (int_cmp x w) refl) (toggled_odd x ws i)
  where
    turn : (o : Ordering) → MatchOrdering o (x <ℤ w) (x ≡ w) (w <ℤ x)
        → odd_upto (toggled x ws) i ≡ differ (int_le x i) (odd_upto ws i)
        → odd_upto (toggled_by o x w ws) i ≡ differ (int_le x i) (differ (int_le w i) (odd_upto ws i))
    turn Less h ih = refl
    turn Equal h ih = rw h (sym (differ_twice (int_le w i) (odd_upto ws i)))
    turn Greater h ih = ap (λ (b : Bool). differ (int_le w i) b) ih
        ∙ differ_swap (int_le w i) (int_le x i) (odd_upto ws i)

pub toggled_length : (x : ℤ) (ws : List ℤ) → is_odd (toggled x ws) ≡ not (is_odd ws)
toggled_length x [] = refl
toggled_length x (w ∷ ws) = ap (λ (l : List ℤ). is_odd l) (by_cases x w ws) ∙ turn (int_cmp x w) (toggled_length x ws)
  where
    not_not : (b : Bool) → b ≡ not (not b)
    not_not true = refl
    not_not false = refl

    turn : (o : Ordering) → is_odd (toggled x ws) ≡ not (is_odd ws)
        → is_odd (toggled_by o x w ws) ≡ not (not (is_odd ws))
    turn Less ih = refl
    turn Equal ih = not_not (is_odd ws)
    turn Greater ih = ap (λ (b : Bool). not b) ih

pub toggled_above : (a x : ℤ) (ws : List ℤ) → a <ℤ x → Above a ws → Above a (toggled x ws)
toggled_above a x [] lt h = (lt, tt)
toggled_above a x (w ∷ ws) lt h = subst (λ (l : List ℤ). Above a l) (sym (by_cases x w ws))
    (turn (int_cmp x w) (int_ranked x w (int_cmp x w) refl) (λ m. toggled_above w x ws m h.1))
  where
    turn : (o : Ordering) → MatchOrdering o (x <ℤ w) (x ≡ w) (w <ℤ x) → (w <ℤ x → Above w (toggled x ws))
        → Above a (toggled_by o x w ws)
    turn Less m ih = (lt, (m, h.1))
    turn Equal m ih = above_lower a w ws h.0 h.1
    turn Greater m ih = (h.0, ih m)

pub toggled_rising : (x : ℤ) (ws : List ℤ) → Rising ws → Rising (toggled x ws)
toggled_rising x [] h = tt
toggled_rising x (w ∷ ws) h = subst (λ (l : List ℤ). Rising l) (sym (by_cases x w ws))
    (turn (int_cmp x w) (int_ranked x w (int_cmp x w) refl))
  where
    turn : (o : Ordering) → MatchOrdering o (x <ℤ w) (x ≡ w) (w <ℤ x) → Rising (toggled_by o x w ws)
    turn Less m = (m, h)
    turn Equal m = rising_of w ws h
    turn Greater m = toggled_above w x ws m h

-- ---- placing

abbrev placed_by : Ordering → ℤ → ℤ → List ℤ → List ℤ
placed_by Less y l ls = y ∷ l ∷ ls
placed_by Equal y l ls = l ∷ ls
placed_by Greater y l ls = l ∷ placed y ls

placed_cases : (y l : ℤ) (ls : List ℤ) → placed y (l ∷ ls) ≡ placed_by (int_cmp y l) y l ls
placed_cases y l ls = turn (int_cmp y l)
  where
    turn : (o : Ordering)
        → (elim o as (λ (k : Ordering). List ℤ) [
          | Less ↦ y ∷ l ∷ ls
          | Equal ↦ l ∷ ls
          | Greater ↦ l ∷ placed y ls
        ]) ≡ placed_by o y l ls
    turn Less = refl
    turn Equal = refl
    turn Greater = refl

pub placed_above : (a y : ℤ) (ls : List ℤ) → a <ℤ y → Above a ls → Above a (placed y ls)
placed_above a y [] lt h = (lt, tt)
placed_above a y (l ∷ ls) lt h = subst (λ (x : List ℤ). Above a x) (sym (placed_cases y l ls))
    (turn (int_cmp y l) (int_ranked y l (int_cmp y l) refl) (λ m. placed_above l y ls m h.1))
  where
    turn : (o : Ordering) → MatchOrdering o (y <ℤ l) (y ≡ l) (l <ℤ y) → (l <ℤ y → Above l (placed y ls))
        → Above a (placed_by o y l ls)
    turn Less m ih = (lt, (m, h.1))
    turn Equal m ih = h
    turn Greater m ih = (h.0, ih m)

pub placed_rising : (y : ℤ) (ls : List ℤ) → Rising ls → Rising (placed y ls)
placed_rising y [] h = tt
placed_rising y (l ∷ ls) h = subst (λ (x : List ℤ). Rising x) (sym (placed_cases y l ls))
    (turn (int_cmp y l) (int_ranked y l (int_cmp y l) refl))
  where
    turn : (o : Ordering) → MatchOrdering o (y <ℤ l) (y ≡ l) (l <ℤ y) → Rising (placed_by o y l ls)
    turn Less m = (m, h)
    turn Equal m = h
    turn Greater m = placed_above l y ls m h

pub in_placed : (y : ℤ) (ls : List ℤ) → In y (placed y ls)
in_placed y [] = inl refl
in_placed y (l ∷ ls) = subst (λ (x : List ℤ). In y x) (sym (placed_cases y l ls))
    (turn (int_cmp y l) (int_ranked y l (int_cmp y l) refl) (in_placed y ls))
  where
    turn : (o : Ordering) → MatchOrdering o (y <ℤ l) (y ≡ l) (l <ℤ y) → In y (placed y ls) → In y (placed_by o y l ls)
    turn Less m ih = inl refl
    turn Equal m ih = inl m
    turn Greater m ih = inr ih

pub in_still : (v y : ℤ) (ls : List ℤ) → In v ls → In v (placed y ls)
in_still v y [] i = absurd i
in_still v y (l ∷ ls) i = subst (λ (x : List ℤ). In v x) (sym (placed_cases y l ls))
    (turn (int_cmp y l) i (λ j. in_still v y ls j))
  where
    turn : (o : Ordering) → In v (l ∷ ls) → (In v ls → In v (placed y ls)) → In v (placed_by o y l ls)
    turn Less i ih = inr i
    turn Equal i ih = i
    turn Greater (inl e) ih = inl e
    turn Greater (inr i) ih = inr (ih i)

-- ---- walls

pub walls_odd : (es : List Edge) (i j : ℤ) → odd_upto (walls es j) i ≡ odd_left es i j
walls_odd [] i j = refl
walls_odd (e ∷ es) i j = turn (covers e j) (walls_odd es i j)
  where
    turn : (b : Bool) → odd_upto (walls es j) i ≡ odd_left es i j
        → odd_upto (elim b as (λ (k : Bool). List ℤ) [ true ↦ toggled e.x (walls es j) | false ↦ walls es j ])
        i ≡ differ (int_le e.x i && b) (odd_left es i j)
    turn true ih = toggled_odd e.x (walls es j) i ∙ (λ k. differ (sym (and_true (int_le e.x i)) k) (ih k))
    turn false ih = ih ∙ sym (ap (λ (b : Bool). differ b (odd_left es i j)) (and_false (int_le e.x i)))

pub walls_rising : (es : List Edge) (j : ℤ) → Rising (walls es j)
walls_rising [] j = tt
walls_rising (e ∷ es) j = turn (covers e j) (walls_rising es j)
  where
    turn : (b : Bool) → Rising (walls es j)
        → Rising (elim b as (λ (k : Bool). List ℤ) [ true ↦ toggled e.x (walls es j) | false ↦ walls es j ])
    turn true ih = toggled_rising e.x (walls es j) ih
    turn false ih = ih

-- an odd number of edges cover j to j + 1
abbrev pub odd_cover : List Edge → ℤ → Bool
odd_cover [] j = false
odd_cover (e ∷ es) j = differ (covers e j) (odd_cover es j)

pub walls_even : (es : List Edge) (j : ℤ) → is_odd (walls es j) ≡ odd_cover es j
walls_even [] j = refl
walls_even (e ∷ es) j = turn (covers e j) (walls_even es j)
  where
    turn : (b : Bool) → is_odd (walls es j) ≡ odd_cover es j
        → is_odd (elim b as (λ (k : Bool). List ℤ) [ true ↦ toggled e.x (walls es j) | false ↦ walls es j ]) ≡ differ b
        (odd_cover es j)
    turn true ih = toggled_length e.x (walls es j) ∙ ap (λ (b : Bool). not b) ih
    turn false ih = ih

pub in_placed_cases : (v y : ℤ) (ls : List ℤ) → In v (placed y ls) → (v ≡ y) ⊎ In v ls
in_placed_cases v y [] (inl e) = inl e
in_placed_cases v y [] (inr i) = absurd i
in_placed_cases v y (l ∷ ls) i = turn (int_cmp y l) (subst (λ (x : List ℤ). In v x) (placed_cases y l ls) i)
    (λ j. in_placed_cases v y ls j)
  where
    turn : (o : Ordering) → In v (placed_by o y l ls) → (In v (placed y ls) → (v ≡ y) ⊎ In v ls)
        → (v ≡ y) ⊎ In v (l ∷ ls)
    turn Less (inl e) ih = inl e
    turn Less (inr i) ih = inr i
    turn Equal i ih = inr i
    turn Greater (inl e) ih = inr (inl e)
    turn Greater (inr i) ih = elim (ih i) [ inl e ↦ inl e | inr k ↦ inr (inr k) ]
