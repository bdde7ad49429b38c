-- Distances of columns, rows and tracks.
use Rattle.std.proofs.Common.{◌≡◌, ℕ, zero, suc, ◌+◌, ◌-◌, ◌*◌, ◌/◌, ◌<◌, ◌≤◌, refl, ap, arith, ◌⊎◌, inl, inr}
use Rattle.std.proofs.Math.Nat.{mul-le-mul_right}
use Rattle.cell_library.specs.Library.{LibraryView}
use Rattle.layout_make.specs.Sheet.{centre, edge, track_centre}

pub centres_apart : (l : LibraryView) (c d : ℕ) → c < d → centre l c + l.pitch ≤ centre l d
unfolding centre
centres_apart l c d lt = omega (arith, mul-le-mul_right l.pitch lt)

pub centre_least : (l : LibraryView) (c : ℕ) → l.pitch / 2 ≤ centre l c
unfolding centre
centre_least l c = omega arith

pub next_edge : (l : LibraryView) (used : ℕ → ℕ) (r : ℕ) → edge l used r + l.height + l.pitch ≤ edge l used (suc r)
unfolding edge
next_edge l used r = omega arith

pub edges_apart : (l : LibraryView) (used : ℕ → ℕ) (r s : ℕ) → r < s → edge l used (suc r) ≤ edge l used s
edges_apart l used r zero lt = absurd (omega arith)
edges_apart l used r (suc s) lt = elim (cases r s) [
  | inl e ↦ rw e (omega arith)
  | inr less ↦ omega (arith, edges_apart l used r s (less lt), next_edge l used s)
]
  where
    cases : (r s : ℕ) → (r ≡ s) ⊎ (r < suc s → r < s)
    cases zero zero = inl refl
    cases zero (suc s) = inr (λ h. omega arith)
    cases (suc r) zero = inr (λ h. absurd (omega arith))
    cases (suc r) (suc s) =
        elim (cases r s) [ inl e ↦ inl (ap suc e) | inr f ↦ inr (λ h. let k : r < s = f (omega arith) in omega arith) ]

pub tracks_apart : (l : LibraryView) (used : ℕ → ℕ) (r t u : ℕ) → t < u
    → track_centre l used r t + l.pitch ≤ track_centre l used r u
unfolding track_centre
tracks_apart l used r t u lt = omega (arith, mul-le-mul_right l.pitch lt)

pub track_above : (l : LibraryView) (used : ℕ → ℕ) (r t : ℕ) → edge l used r + l.height + l.pitch ≤ track_centre l used
    r t
unfolding track_centre
track_above l used r t = omega arith

pub track_below : (l : LibraryView) (used : ℕ → ℕ) (r t : ℕ) → t < used r → track_centre l used r t + l.pitch ≤ edge l
    used (suc r)
unfolding track_centre edge
track_below l used r t lt = omega (arith, mul-le-mul_right l.pitch lt)

pub edge_first : (l : LibraryView) (used : ℕ → ℕ) (q : ℕ) → edge l used zero ≤ edge l used q
unfolding edge
edge_first l used q = omega arith

pub centre_moved : (l : LibraryView) (slot column : ℕ)
    → centre l (0 * l.columns + column) + slot * (l.columns * l.pitch) ≡ centre l (slot * l.columns + column)
unfolding centre
centre_moved l slot column = omega arith

pub edge_zero : (l : LibraryView) (used : ℕ → ℕ) → edge l used zero ≡ 0
unfolding edge
edge_zero l used = refl

pub centre_rises : (l : LibraryView) (c d : ℕ) → c ≤ d → centre l c ≤ centre l d
unfolding centre
centre_rises l c d le = omega (arith, mul-le-mul_right l.pitch le)

pub channel_height : (l : LibraryView) (used : ℕ → ℕ) (r : ℕ)
    → edge l used (suc r) ≡ edge l used r + l.height + (used r + 1) * l.pitch
unfolding edge
channel_height l used r = refl

pub centres_between : (l : LibraryView) (c d : ℕ) → c ≤ d → centre l c + (d - c) * l.pitch ≡ centre l d
unfolding centre
centres_between l c d le = let k : d ≡ c + (d - c) = omega arith in
    let m : d * l.pitch ≡ (c + (d - c)) * l.pitch = ap (λ (n : ℕ). n * l.pitch) k in omega arith
