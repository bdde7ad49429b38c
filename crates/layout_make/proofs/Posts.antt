-- Shapes of M1, pins and vias stand in posts, and posts are far apart.
use Rattle.std.proofs.Common.{◌≡◌, ℕ, zero, suc, ◌+◌, ◌/◌, ◌%◌, ◌<◌, ◌≤◌, refl, ap, arith, ◌⊎◌, inl, inr}
use Rattle.std.proofs.lemmas.Bool.{cases_order}
use Rattle.cell_library.specs.Library.{LibraryView}
use Rattle.layout_make.proofs.Lawful.{IsLawful}
use Rattle.layout_make.specs.Sheet.{Area, centre, edge}
use Rattle.layout_make.proofs.SheetKeeps.{Far}
use Rattle.layout_make.proofs.Columns.{centres_apart, edges_apart, edge_first}

pub data Side : Type 0 where
  FromSide : Side
  ToSide : Side

abbrev pub parity : Side → ℕ
parity FromSide = 0
parity ToSide = 1

-- a is within the rows of the post
abbrev pub Between : LibraryView → (ℕ → ℕ) → Side → ℕ → Area → Type 0
Between l used FromSide r a = (edge l used r + l.height ≤ a.low + l.pin)
    × (a.high + l.pitch ≤ edge l used (suc r) + l.wire / 2)
Between l used ToSide zero a = (0 ≤ a.low) × (a.high ≤ edge l used zero + l.pin)
Between l used ToSide (suc r) a = (edge l used r + l.height + l.pitch ≤ a.low + l.wire / 2)
    × (a.high ≤ edge l used (suc r) + l.pin)

pub record StandsAt (l : LibraryView) (used : ℕ → ℕ) (side : Side) (c r : ℕ) (a : Area) : Type 0 where
  pub left_so : centre l c ≤ a.left + l.wire / 2
  pub right_so : a.right ≤ centre l c + l.wire / 2
  pub parity_so : c % 2 ≡ parity side
  pub between : Between l used side r a

pub columns_far : (l : LibraryView) (used : ℕ → ℕ) → IsLawful l → (s t : Side) (c d r q : ℕ) (a b : Area)
    → StandsAt l used s c r a → StandsAt l used t d q b → c < d → a.right + l.space ≤ b.left
columns_far l used laws s t c d r q a b sa sb lt = let e = centres_apart l c d lt in omega arith

pub rows_far : (l : LibraryView) (used : ℕ → ℕ) → IsLawful l → (s : Side) (c d r q : ℕ) (a b : Area)
    → StandsAt l used s c r a → StandsAt l used s d q b → r < q → a.high + l.space ≤ b.low
rows_far l used laws FromSide c d r q a b sa sb lt =
    let e = edges_apart l used r q lt in
    let f = sa.between in
    let g = sb.between in
    omega arith
rows_far l used laws ToSide c d r zero a b sa sb lt = absurd (omega arith)
rows_far l used laws ToSide c d zero (suc q) a b sa sb lt =
    let e = edge_first l used q in
    let f = sa.between in
    let g = sb.between in
    omega arith
rows_far l used laws ToSide c d (suc r) (suc q) a b sa sb lt =
    let e = edges_apart l used r q (omega arith) in
    let f = sa.between in
    let g = sb.between in
    omega arith

abbrev pub SamePost : Side → Side → ℕ → ℕ → ℕ → ℕ → Type 0
SamePost s t c d r q = (s ≡ t) × (c ≡ d) × (r ≡ q)

pub posts_far : (l : LibraryView) (used : ℕ → ℕ) → IsLawful l → (s t : Side) (c d r q : ℕ) (a b : Area)
    → StandsAt l used s c r a → StandsAt l used t d q b → Far l.space a b ⊎ SamePost s t c d r q
posts_far l used laws s t c d r q a b sa sb = elim (cases_order c d) [
  | inl e ↦ same s t sa sb e
  | inr h ↦ elim h [
    | inl lt ↦ inl (inl (columns_far l used laws s t c d r q a b sa sb lt))
    | inr lt ↦ inl (inr (inl (columns_far l used laws t s d c q r b a sb sa lt)))
  ]
]
  where
    one : (s : Side) → StandsAt l used s c r a → StandsAt l used s d q b → c ≡ d
        → Far l.space a b ⊎ SamePost s s c d r q
    one s sa sb e = elim (cases_order r q) [
      | inl f ↦ inr (refl, e, f)
      | inr h ↦ elim h [
        | inl lt ↦ inl (inr (inr (inl (rows_far l used laws s c d r q a b sa sb lt))))
        | inr lt ↦ inl
            (inr (inr (inr (rows_far l used laws s d c q r b a sb sa lt))))
      ]
    ]

    same : (s t : Side) → StandsAt l used s c r a → StandsAt l used t d q b → c ≡ d
        → Far l.space a b ⊎ SamePost s t c d r q
    same FromSide FromSide sa sb e = one FromSide sa sb e
    same ToSide ToSide sa sb e = one ToSide sa sb e
    same FromSide ToSide sa sb e = absurd (let k : c % 2 ≡ d % 2 = ap (λ (n : ℕ). n % 2) e in omega arith)
    same ToSide FromSide sa sb e = absurd (let k : c % 2 ≡ d % 2 = ap (λ (n : ℕ). n % 2) e in omega arith)
