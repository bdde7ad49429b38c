-- How high the rows of a drawing stand.
use Rattle.std.proofs.Common.{ℕ, zero, suc, ◌+◌, ◌-◌, ◌*◌, ◌<◌, ◌≤◌, arith, length}
use Rattle.std.proofs.Math.Nat.{mul-le-mul_right}
use Rattle.rowed.specs.PlacedNets.{PlacedView}
use Rattle.rowed.specs.Limits.{height_limit}
use Rattle.channel_route.specs.Tracks.{tracks_used}
use Rattle.cell_library.specs.Library.{LibraryView}
use Rattle.layout_make.specs.Sheet.{edge, lower_edge}
use Rattle.layout_make.specs.Channel.{channel}
use Rattle.layout_make.specs.Tags.{sheet}
use Rattle.layout_make.specs.MayDraw.{MayDraw}
use Rattle.layout_make.proofs.Ready.{TracksLaw, may_ready}
use Rattle.layout_make.proofs.WireLengths.{used_below}

edge_most : (l : LibraryView) (used : ℕ → ℕ) → ((r : ℕ) → used r < l.capacity) → (r : ℕ)
    → edge l used r ≤ r * (l.height + (l.capacity + 1) * l.pitch)
unfolding edge
edge_most l used below zero = omega arith
edge_most l used below (suc r) =
    let k = edge_most l used below r in
    let b = below r in
    let m : (used r + 1) * l.pitch ≤ (l.capacity + 1) * l.pitch = mul-le-mul_right l.pitch
    (let h : used r + 1 ≤ l.capacity + 1 = omega arith in h) in
    omega arith

row_low : (r rows h c : ℕ) → r < rows → rows * h + (rows - 1) * c ≤ 2147483647 → r * (h + c) + h ≤ 2147483647
row_low r rows h c lt low =
    let a : suc r * h ≤ rows * h = mul-le-mul_right h (let k : suc r ≤ rows = omega arith in k) in
    let b : r * c ≤ (rows - 1) * c = mul-le-mul_right c (let k : r ≤ rows - 1 = omega arith in k) in
    omega arith

-- a row of a drawing is not too high
pub stands_low : (p : PlacedView) (l : LibraryView) → TracksLaw → MayDraw p l → (r : ℕ) → r < length p.net.rows
    → lower_edge (sheet p l) r + l.height ≤ height_limit
unfolding sheet
stands_low p l law may r lt =
    let is = may_ready p l law may in
    let most = edge_most l (λ (q : ℕ). tracks_used (channel p l q))
    (λ q. used_below p l is may.placed may.library may.short q) r in
    let low = row_low r (length p.net.rows) l.height ((l.capacity + 1) * l.pitch) lt may.low in
    omega arith
