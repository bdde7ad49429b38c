-- The ends of edges that go up or down, edge by edge.
use Rattle.std.proofs.Common.{◌≡◌, ℕ, zero, suc, ◌+◌, ◌-◌, ◌<◌, ◌≤◌, List, [], ◌∷◌, ◌++◌, Bool, true, false, length}
use Rattle.std.proofs.Common.{get_or, drop, refl, sym, ap, ◌∙◌, arith, append_assoc}
use Rattle.std.proofs.lemmas.List.{append-nil}
use Rattle.std.specs.Ordering.{int_eq}
use Rattle.poly_cut.specs.declared.layout.Point.{Point}
use Rattle.poly_cut.specs.declared.ends.End.{End}
use Rattle.poly_cut.specs.Rings.{Edge, edges}
use Rattle.poly_cut.specs.Code.Sweeping.{ends_of, steep}

-- ---- one edge

by_level : Bool → Edge → List Edge → List Edge
by_level true e es = steep es
by_level false e es = e ∷ steep es

steep_so : (e : Edge) (es : List Edge) (b : Bool) → int_eq e.start e.stop ≡ b → steep (e ∷ es) ≡ by_level b e es
unfolding by_level
steep_so e es b is = turn (int_eq e.start e.stop) ∙ ap (λ (k : Bool). by_level k e es) is
  where
    turn : (k : Bool)
        → (elim k as (λ (t : Bool). List Edge) [ true ↦ steep es | false ↦ e ∷ steep es ]) ≡ by_level k e es
    turn true = refl
    turn false = refl

pub steep_level : (e : Edge) (es : List Edge) → int_eq e.start e.stop ≡ true → steep (e ∷ es) ≡ steep es
unfolding by_level
steep_level e es is = steep_so e es true is

pub steep_edge : (e : Edge) (es : List Edge) → int_eq e.start e.stop ≡ false → steep (e ∷ es) ≡ e ∷ steep es
unfolding by_level
steep_edge e es is = steep_so e es false is

one_edge : (e : Edge) (es : List Edge) → ends_of (steep (e ∷ [])) ++ ends_of (steep es) ≡ ends_of (steep (e ∷ es))
one_edge e es = turn (int_eq e.start e.stop) refl
  where
    turn : (b : Bool) → int_eq e.start e.stop ≡ b → ends_of (steep (e ∷ []))
        ++ ends_of (steep es) ≡ ends_of (steep (e ∷ es))
    turn true is = ap (λ (l : List Edge). ends_of l ++ ends_of (steep es)) (steep_level e [] is)
        ∙ ap (λ (l : List Edge). ends_of l) (sym (steep_level e es is))
    turn false is = ap (λ (l : List Edge). ends_of l ++ ends_of (steep es)) (steep_edge e [] is)
        ∙ ap (λ (l : List Edge). ends_of l) (sym (steep_edge e es is))

abbrev pub edge_of : Point → Point → Edge
edge_of p q = record { x = p.x; start = p.y; stop = q.y }

-- ---- edge by edge

edge_at : List Point → ℕ → Point → Edge
edge_at ps n d = record { x = (get_or ps n d).x; start = (get_or ps n d).y; stop = (get_or ps (suc n) d).y }

next_edge : (ps : List Point) (n : ℕ) (d : Point) → suc n < length ps
    → edges (drop n ps) ≡ edge_at ps n d ∷ edges (drop (suc n) ps)
unfolding edge_at
next_edge [] n d lt = absurd (omega arith)
next_edge (p ∷ []) n d lt = absurd (omega arith)
next_edge (p ∷ q ∷ ps) zero d lt = refl
next_edge (p ∷ q ∷ ps) (suc n) d lt = next_edge (q ∷ ps) n d (omega arith)

last_edge : (ps : List Point) (n : ℕ) → length ps ≤ suc n → edges (drop n ps) ≡ []
last_edge [] zero le = refl
last_edge [] (suc n) le = refl
last_edge (p ∷ []) zero le = refl
last_edge (p ∷ q ∷ ps) zero le = absurd (omega arith)
last_edge (p ∷ ps) (suc n) le = last_edge ps n (omega arith)

more : (ring : List Point) (n : ℕ) (d : Point) (old new total : List End) → suc n < length ring
    → old ++ ends_of (steep (edges (drop n ring))) ≡ total
    → new ≡ old ++ ends_of (steep (edges (get_or ring n d ∷ get_or ring (suc n) d ∷ [])))
    → new ++ ends_of (steep (edges (drop (suc n) ring))) ≡ total
unfolding edge_at
more ring n d old new total lt inv is =
    let rest = edges (drop (suc n) ring) in
    ap (λ (l : List End). l ++ ends_of (steep rest)) is
    ∙ append_assoc old (ends_of (steep (edge_at ring n d ∷ []))) (ends_of (steep rest))
    ∙ ap (λ (l : List End). old ++ l) (one_edge (edge_at ring n d) rest)
    ∙ ap (λ (l : List Edge). old ++ ends_of (steep l)) (sym (next_edge ring n d lt)) ∙ inv

pub ends_more : (ring : List Point) (i : ℕ) (d e : Point) (old new total : List End) → 1 ≤ i → i < length ring
    → old ++ ends_of (steep (edges (drop (i - 1) ring))) ≡ total
    → new ≡ old ++ ends_of (steep (edges (get_or ring (i - 1) d ∷ get_or ring i e ∷ [])))
    → new ++ ends_of (steep (edges (drop (i + 1 - 1) ring))) ≡ total
ends_more ring zero d e old new total lo lt inv is = absurd (omega arith)
ends_more ring (suc n) d e old new total lo lt inv is =
    let m : suc n - 1 ≡ n = omega arith in
    let k : suc n + 1 - 1 ≡ suc n = omega arith in
    let one : new ≡ old ++ ends_of (steep (edges (get_or ring n d ∷ get_or ring (suc n) e ∷ []))) = rw m at is in
    rw k (more ring n d old new total lt (rw m at inv)
    (one ∙ ap (λ (q : Point). old ++ ends_of (steep (edges (get_or ring n d ∷ q ∷ []))))
    (default ring (suc n) e d lt)))
  where
    default : (ps : List Point) (n : ℕ) (d e : Point) → n < length ps → get_or ps n d ≡ get_or ps n e
    default [] n d e h = absurd (omega arith)
    default (x ∷ ps) zero d e h = refl
    default (x ∷ ps) (suc n) d e h = default ps n d e (omega arith)

pub ends_all : (ring : List Point) (i : ℕ) (ends total : List End) → length ring ≤ i
    → ends ++ ends_of (steep (edges (drop (i - 1) ring))) ≡ total → ends ≡ total
ends_all ring i ends total le inv = sym (append-nil ends) ∙ ap (λ (l : List Edge). ends ++ ends_of (steep l))
    (sym (last_edge ring (i - 1) (omega arith))) ∙ inv
