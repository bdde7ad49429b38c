-- Rules G1 and G3 of a drawing: sides, and the metal around vias.
use Rattle.std.proofs.Common.{ℕ, ◌+◌, ◌≤◌, min, max, arith}
use Rattle.layout_make.proofs.Lawful.{IsLawful}
use Rattle.layout_make.specs.Sheet.{Sheet, Area, Rise, Fall, Across, FromVia, ToVia, area}
use Rattle.layout_make.specs.declared.marks.Ports.{Ports as Side}
use Rattle.layout_make.specs.declared.marks.Ports.TheVariants.{Inputs, Outputs}
use Rattle.layout_make.proofs.Sides.{pin_tag}
use Rattle.layout_make.proofs.SheetKeeps.{IsWire}
use Rattle.layout_make.proofs.Columns.{centre_least, centre_rises, track_above, track_below}

-- at least this wide and high
pub record Sized (w h : ℕ) (a : Area) : Type 0 where
  pub wide : a.left + w ≤ a.right
  pub high : a.low + h ≤ a.high

pub rise_sized : (s : Sheet) → IsLawful s.library → (r c : ℕ) → Sized s.library.wire s.library.wire (area s (Rise r c))
rise_sized s laws r c = let f = centre_least s.library c in let h = track_above s.library s.used r (s.track r c) in
    record { wide = omega arith; high = omega arith }

pub fall_sized : (s : Sheet) → IsLawful s.library → (r c : ℕ) → IsWire s r c
    → Sized s.library.wire s.library.wire (area s (Fall r c))
fall_sized s laws r c w = let f = centre_least s.library (s.to r c) in
    let h = track_below s.library s.used r (s.track r c) w.tracked in
    let k = track_above s.library s.used r (s.track r c) in record { wide = omega arith; high = omega arith }

pub across_sized : (s : Sheet) → IsLawful s.library → (r c : ℕ)
    → Sized s.library.wire s.library.wire (area s (Across r c))
across_sized s laws r c = let f = centre_least s.library (min c (s.to r c)) in
    let g = centre_rises s.library (min c (s.to r c)) (max c (s.to r c)) (omega arith) in
    let k = track_above s.library s.used r (s.track r c) in record { wide = omega arith; high = omega arith }

pub from_sized : (s : Sheet) → IsLawful s.library → (r c : ℕ) → Sized s.library.via s.library.via (area s (FromVia r c))
from_sized s laws r c = let f = centre_least s.library c in let k = track_above s.library s.used r (s.track r c) in
    record { wide = omega arith; high = omega arith }

pub to_sized : (s : Sheet) → IsLawful s.library → (r c : ℕ) → Sized s.library.via s.library.via (area s (ToVia r c))
to_sized s laws r c = let f = centre_least s.library (s.to r c) in
    let k = track_above s.library s.used r (s.track r c) in record { wide = omega arith; high = omega arith }

pub pin_sized : (s : Sheet) → IsLawful s.library → (side : Side) (r c i : ℕ)
    → Sized s.library.wire s.library.pin (area s (pin_tag side r c i))
pin_sized s laws Inputs r c i = let f = centre_least s.library c in record { wide = omega arith; high = omega arith }
pin_sized s laws Outputs r c i = let f = centre_least s.library c in record { wide = omega arith; high = omega arith }

-- m contains v grown by n
pub record Covers (n : ℕ) (v m : Area) : Type 0 where
  pub left_so : m.left + n ≤ v.left
  pub low_so : m.low + n ≤ v.low
  pub right_so : v.right + n ≤ m.right
  pub high_so : v.high + n ≤ m.high

pub rise_covers : (s : Sheet) → IsLawful s.library → (r c : ℕ) → Covers s.library.enclose (area s (FromVia r c))
    (area s (Rise r c))
rise_covers s laws r c = let f = centre_least s.library c in let h = track_above s.library s.used r (s.track r c) in
    record { left_so = omega arith; low_so = omega arith; right_so = omega arith; high_so = omega arith }

pub across_covers_from : (s : Sheet) → IsLawful s.library → (r c : ℕ) → Covers s.library.enclose (area s (FromVia r c))
    (area s (Across r c))
across_covers_from s laws r c = let f = centre_least s.library (min c (s.to r c)) in
    let g = centre_rises s.library (min c (s.to r c)) c (omega arith) in
    let k = centre_rises s.library c (max c (s.to r c)) (omega arith) in
    let h = track_above s.library s.used r (s.track r c) in
    record { left_so = omega arith; low_so = omega arith; right_so = omega arith; high_so = omega arith }

pub fall_covers : (s : Sheet) → IsLawful s.library → (r c : ℕ) → IsWire s r c
    → Covers s.library.enclose (area s (ToVia r c)) (area s (Fall r c))
fall_covers s laws r c w = let f = centre_least s.library (s.to r c) in
    let h = track_below s.library s.used r (s.track r c) w.tracked in
    let k = track_above s.library s.used r (s.track r c) in
    record { left_so = omega arith; low_so = omega arith; right_so = omega arith; high_so = omega arith }

pub across_covers_to : (s : Sheet) → IsLawful s.library → (r c : ℕ) → Covers s.library.enclose (area s (ToVia r c))
    (area s (Across r c))
across_covers_to s laws r c = let f = centre_least s.library (min c (s.to r c)) in
    let g = centre_rises s.library (min c (s.to r c)) (s.to r c) (omega arith) in
    let k = centre_rises s.library (s.to r c) (max c (s.to r c)) (omega arith) in
    let h = track_above s.library s.used r (s.track r c) in
    record { left_so = omega arith; low_so = omega arith; right_so = omega arith; high_so = omega arith }
