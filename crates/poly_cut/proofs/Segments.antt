-- A path, segment by segment.
use Rattle.std.proofs.Common.{◌≡◌, ℕ, zero, suc, ◌+◌, ◌-◌, ◌<◌, ◌≤◌, ◌^◌, ℤ, pos, Bool, true, false, List, [], ◌∷◌}
use Rattle.std.proofs.Common.{◌++◌, length, get_or, drop, refl, sym, ap, ◌∙◌, arith, append_assoc, drop-cons, inl, inr}
use Rattle.std.specs.Prelude.{◌==◌}
use Rattle.std.proofs.lemmas.Int.{ints}
use Rattle.std.proofs.lemmas.List.{append-nil}
use Rattle.std.proofs.lemmas.Bool.Decides.{nat_tests}
use Rattle.geom.specs.Rectangle.{Rectangle}
use Rattle.poly_cut.specs.declared.layout.Point.{Point}
use Rattle.poly_cut.specs.declared.strokes.Extent.{Extent}
use Rattle.poly_cut.specs.Paths.{segment, segments, past, end_of, path_cut, before_of}
use Rattle.poly_cut.specs.Figures.{GoesInTurn, IsBent}
use Rattle.poly_cut.specs.Code.Strokes.{IsHalfWidth, IsSegment, IsExtent}
use Rattle.poly_cut.specs.Turns.{point}

pub past_some : (half end : ℤ) (ps : List Point) (k : ℕ) → k < length ps → past half end (drop k ps) ≡ half
past_some half end [] k lt = absurd (omega arith)
past_some half end (p ∷ ps) zero lt = refl
past_some half end (p ∷ ps) (suc k) lt = past_some half end ps k (omega arith)

pub past_none : (half end : ℤ) (ps : List Point) (k : ℕ) → length ps ≤ k → past half end (drop k ps) ≡ end
past_none half end [] zero le = refl
past_none half end [] (suc k) le = refl
past_none half end (p ∷ ps) zero le = absurd (omega arith)
past_none half end (p ∷ ps) (suc k) le = past_none half end ps k (omega arith)

in_turn : (along : Bool) (p : Point) (qs : List Point) (n : ℕ) (d : Point) → GoesInTurn along p qs → n < length qs
    → IsSegment (get_or (p ∷ qs) n d) (get_or qs n d)
in_turn along p [] n d t lt = absurd (omega arith)
in_turn true p (q ∷ qs) zero d t lt = inl (t.0, t.1)
in_turn false p (q ∷ qs) zero d t lt = inr (t.0, t.1)
in_turn true p (q ∷ qs) (suc n) d t lt = in_turn false q qs n d t.2 (omega arith)
in_turn false p (q ∷ qs) (suc n) d t lt = in_turn true q qs n d t.2 (omega arith)

straight : (ps : List Point) (n : ℕ) (d : Point) → IsBent ps → suc n < length ps
    → IsSegment (get_or ps n d) (get_or ps (suc n) d)
straight [] n d b lt = absurd (omega arith)
straight (p ∷ []) n d b lt = absurd (omega arith)
straight (p ∷ q ∷ qs) n d (inl t) lt = in_turn true p (q ∷ qs) n d t (omega arith)
straight (p ∷ q ∷ qs) n d (inr t) lt = in_turn false p (q ∷ qs) n d t (omega arith)

pub straight_at : (ps : List Point) (i : ℕ) (d : Point) → IsBent ps → 1 ≤ i → i < length ps
    → IsSegment (get_or ps (i - 1) d) (get_or ps i d)
straight_at ps zero d b lo hi = absurd (omega arith)
straight_at ps (suc n) d b lo hi = let e : suc n - 1 ≡ n = omega arith in rw e (straight ps n d b hi)

pub end_short : (extended : Bool) (half : ℕ) → half ≤ 2 ^ 30 → IsHalfWidth (end_of extended half)
end_short true half le = (omega (arith, ints), omega (arith, ints))
end_short false half le = (omega (arith, ints), omega (arith, ints))

pub half_short : (half : ℕ) → half ≤ 2 ^ 30 → IsHalfWidth (pos half)
half_short half le = (omega (arith, ints), omega (arith, ints))

before_short : (half : ℕ) (extended : Bool) (i : ℕ) → half ≤ 2 ^ 30 → IsHalfWidth (before_of half extended i)
before_short half extended i le = turn (i == 1)
  where
    turn : (b : Bool) → IsHalfWidth (elim b as (λ (x : Bool). ℤ) [ true ↦ end_of extended half | false ↦ pos half ])
    turn true = end_short extended half le
    turn false = half_short half le

past_short : (half : ℕ) (extended : Bool) (ps : List Point) → half ≤ 2 ^ 30
    → IsHalfWidth (past (pos half) (end_of extended half) ps)
past_short half extended [] le = end_short extended half le
past_short half extended (p ∷ ps) le = half_short half le

pub extent_short : (half : ℕ) (extended : Bool) (i : ℕ) (rest : List Point) (e : Extent) → 0 < half → half ≤ 2 ^ 30
    → e.half ≡ pos half → e.before ≡ before_of half extended i → e.behind ≡ past (pos half) (end_of extended half) rest
    → IsExtent e
extent_short half extended i rest e some le a b c = record {
  some = rw a (omega (arith, ints));
  half = rw a (half_short half le);
  before = rw b (before_short half extended i le);
  behind = rw c (past_short half extended rest le);
}

-- the rectangles so far, and those of the segments that are left
abbrev pub DrawnUpTo : ℕ → Bool → ℕ → List Point → List Rectangle → Type 0
DrawnUpTo i extended half ps rects =
    rects ++ segments (pos half) (end_of extended half) (before_of half extended i)
    (get_or ps (i - 1) (point (pos 0) (pos 0))) (drop i ps) ≡ path_cut extended half ps

pub drawn_none : (extended : Bool) (half : ℕ) (ps : List Point) → IsBent ps → DrawnUpTo 1 extended half ps []
drawn_none extended half [] b = absurd b
drawn_none extended half (p ∷ []) b = absurd b
drawn_none extended half (p ∷ q ∷ qs) b = refl

not_first : (i : ℕ) (a b : ℤ) → 1 ≤ i → (elim (i + 1 == 1) as (λ (x : Bool). ℤ) [ true ↦ a | false ↦ b ]) ≡ b
not_first i a b lo = turn (i + 1 == 1) (no i lo)
  where
    turn : (t : Bool) → t ≡ false → (elim t as (λ (x : Bool). ℤ) [ true ↦ a | false ↦ b ]) ≡ b
    turn true e = absurd cc
    turn false e = refl

    no : (i : ℕ) → 1 ≤ i → (i + 1 == 1) ≡ false
    no i lo = grind (arith, nat_tests)

pub drawn_more : (i : ℕ) (extended : Bool) (half : ℕ) (ps : List Point) (rects new : List Rectangle) (r : Rectangle)
    (e : Extent) → 1 ≤ i → i < length ps → DrawnUpTo i extended half ps rects
    → e.half ≡ pos half → e.before ≡ before_of half extended i
    → e.behind ≡ past (pos half) (end_of extended half) (drop (i + 1) ps)
    → r ≡ segment e.half e.before e.behind (get_or ps (i - 1) (point (pos 0) (pos 0)))
    (get_or ps i (point (pos 0) (pos 0))) → new ≡ rects ++ r ∷ [] → DrawnUpTo (i + 1) extended half ps new
drawn_more i extended half ps rects new r e lo hi inv a b c q n =
    let d = point (pos 0) (pos 0) in
    let k : suc i ≡ i + 1 = omega arith in
    let m : i + 1 - 1 ≡ i = omega arith in
    let rest = segments (pos half) (end_of extended half) (pos half) (get_or ps i d) (drop (i + 1) ps) in
    (λ t. n t ++ segments (pos half) (end_of extended half) (not_first i (end_of extended half) (pos half) lo t)
    (get_or ps (m t) d) (drop (i + 1) ps))
    ∙ append_assoc rects (r ∷ []) rest
    ∙ ap (λ (x : Rectangle). rects ++ x ∷ rest)
    (q ∙ (λ t. segment (a t) (b t) (c t) (get_or ps (i - 1) d) (get_or ps i d)))
    ∙ ap (λ (l : List Point). rects ++ segments (pos half) (end_of extended half) (before_of half extended i)
    (get_or ps (i - 1) d) l) (sym (drop-cons ps i d hi ∙ ap (λ (j : ℕ). get_or ps i d ∷ drop j ps) k))
    ∙ inv

pub drawn_all : (i : ℕ) (extended : Bool) (half : ℕ) (ps : List Point) (rects : List Rectangle) → length ps ≤ i
    → DrawnUpTo i extended half ps rects → rects ≡ path_cut extended half ps
drawn_all i extended half ps rects le inv =
    sym (append-nil rects)
    ∙ ap (λ (l : List Point). rects ++ segments (pos half) (end_of extended half) (before_of half extended i)
    (get_or ps (i - 1) (point (pos 0) (pos 0))) l) (sym (none ps i le)) ∙ inv
  where
    none : (ps : List Point) (i : ℕ) → length ps ≤ i → drop i ps ≡ []
    none [] zero le = refl
    none [] (suc i) le = refl
    none (p ∷ ps) zero le = absurd (omega arith)
    none (p ∷ ps) (suc i) le = none ps i (omega arith)
