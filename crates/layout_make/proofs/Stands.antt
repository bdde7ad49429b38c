-- Each shape of M1, each pin and each via stands in the post of its net; each M2 and each via lies in the run of its
-- wire.
use Rattle.std.proofs.Common.{◌≡◌, ℕ, zero, suc, ◌+◌, ◌-◌, ◌/◌, ◌%◌, ◌<◌, ◌≤◌, min, max, Bool, true, ◌||◌, ◌==◌, refl}
use Rattle.std.proofs.Common.{sym, ap, arith, ◌⊎◌, inl, inr, cond}
use Rattle.std.proofs.lemmas.Bool.{cases_order, cases_lt}
use Rattle.cell_library.specs.Library.{LibraryView}
use Rattle.layout_make.proofs.Lawful.{IsLawful}
use Rattle.layout_make.proofs.Layered.{is_lower}
use Rattle.layout_make.specs.Sheet.{Sheet, Tag, Area, InPin, OutPin, Lead, Bar, Rise, Fall, Across, FromVia}
use Rattle.layout_make.specs.Sheet.{ToVia, area, layer_of, centre, edge, track_centre, track_of, lower_edge}
use Rattle.layout_make.specs.Nets.{Net, Into, From, output_net, net_of}
use Rattle.layout_make.proofs.SheetKeeps.{IsWire, Fits, Far}
use Rattle.layout_make.proofs.Columns.{centres_apart, next_edge, edges_apart, track_above, track_below}
use Rattle.layout_make.proofs.Columns.{tracks_apart, centre_rises}
use Rattle.layout_make.proofs.Posts.{Side, FromSide, ToSide, StandsAt, Between, parity}

abbrev pub post_layer : ℕ → Bool
post_layer n = is_lower n || n == 11

abbrev pub run_layer : ℕ → Bool
run_layer n = n == 11 || n == 12

abbrev pub post_net : Sheet → Side → ℕ → ℕ → Net
post_net s FromSide c r = output_net s r c
post_net s ToSide c r = Into r c

-- the height in a post that its M1 and its pin share
abbrev pub joint : Sheet → Side → ℕ → ℕ
joint s FromSide r = lower_edge s r + s.library.height
joint s ToSide r = lower_edge s r

pub record HasPost (s : Sheet) (tag : Tag) : Type 0 where
  pub side : Side
  pub column : ℕ
  pub row : ℕ
  pub stands : StandsAt s.library s.used side column row (area s tag)
  pub net_so : net_of s tag ≡ post_net s side column row
  pub left_held : (area s tag).left ≤ centre s.library column
  pub right_held : centre s.library column ≤ (area s tag).right
  pub joint_held : is_lower (layer_of tag) ≡ true → ((area s tag).low ≤ joint s side row)
      × (joint s side row ≤ (area s tag).high)

wire_net : (s : Sheet) (r c : ℕ) → IsWire s r c → Into (suc r) (s.to r c) ≡ output_net s r c
wire_net s r c w = sym (ap (λ (b : Bool). cond b (Into (suc r) (s.to r c)) (From r c)) w.wired_so)

pin_above : (l : LibraryView) (used : ℕ → ℕ) → IsLawful l → (r : ℕ) (a : Area) → edge l used r ≤ a.low
    → a.high ≤ edge l used r + l.pin → Between l used ToSide r a
pin_above l used laws zero a low high = (omega arith, high)
pin_above l used laws (suc r) a low high = let g = next_edge l used r in (omega arith, high)

-- a shape that is centred on the column of its post, and no wider than a wire
post_of : (s : Sheet) (tag : Tag) (side : Side) (c r half : ℕ) → half ≤ s.library.wire / 2
    → (area s tag).left ≡ centre s.library c - half → (area s tag).right ≡ centre s.library c + half
    → c % 2 ≡ parity side → Between s.library s.used side r (area s tag) → net_of s tag ≡ post_net s side c r
    → (is_lower (layer_of tag) ≡ true → ((area s tag).low ≤ joint s side r) × (joint s side r ≤ (area s tag).high))
    → HasPost s tag
post_of s tag side c r half narrow left right parity_so between net joined = record {
  side = side;
  column = c;
  row = r;
  stands = record { left_so = omega arith; right_so = omega arith; parity_so = parity_so; between = between };
  net_so = net;
  left_held = omega arith;
  right_held = omega arith;
  joint_held = joined;
}

-- no excitation line is on a layer of posts
pub no_post : (n : ℕ) → n < 2 → post_layer (14 + n) ≡ true → ⊥
no_post zero lt e = cc
no_post (suc zero) lt e = cc
no_post (suc (suc n)) lt e = omega arith

pub has_post : (s : Sheet) → IsLawful s.library → (tag : Tag) → Fits s tag → post_layer (layer_of tag) ≡ true
    → HasPost s tag
has_post s laws (InPin r c i) fits is = post_of s (InPin r c i) ToSide c r (s.library.wire / 2) (omega arith) refl refl
    fits (pin_above s.library s.used laws r (area s (InPin r c i)) (omega arith) (omega arith)) refl
    (λ e. (omega arith, omega arith))
has_post s laws (OutPin r c i) fits is =
    let g = next_edge s.library s.used r in
    post_of s (OutPin r c i) FromSide c r (s.library.wire / 2) (omega arith) refl refl fits (omega arith, omega arith)
    refl (λ e. (omega arith, omega arith))
has_post s laws (Rise r c) fits is =
    let g = track_above s.library s.used r (s.track r c) in
    let h = track_below s.library s.used r (s.track r c) fits.tracked in
    post_of s (Rise r c) FromSide c r (s.library.wire / 2) (omega arith) refl refl fits.even (omega arith, omega arith)
    (wire_net s r c fits) (λ e. (omega arith, omega arith))
has_post s laws (Fall r c) fits is =
    let g = track_above s.library s.used r (s.track r c) in
    let h = track_below s.library s.used r (s.track r c) fits.tracked in
    post_of s (Fall r c) ToSide (s.to r c) (suc r) (s.library.wire / 2) (omega arith) refl refl fits.odd
    (omega arith, omega arith) refl (λ e. (omega arith, omega arith))
has_post s laws (FromVia r c) fits is =
    let g = track_above s.library s.used r (s.track r c) in
    let h = track_below s.library s.used r (s.track r c) fits.tracked in
    post_of s (FromVia r c) FromSide c r (s.library.via / 2) (omega arith) refl refl fits.even
    (omega arith, omega arith) (wire_net s r c fits) (λ e. absurd cc)
has_post s laws (ToVia r c) fits is =
    let g = track_above s.library s.used r (s.track r c) in
    let h = track_below s.library s.used r (s.track r c) fits.tracked in
    post_of s (ToVia r c) ToSide (s.to r c) (suc r) (s.library.via / 2) (omega arith) refl refl fits.odd
    (omega arith, omega arith) refl (λ e. absurd cc)
has_post s laws (Lead r) fits is = absurd (no_post (suc r % 2) (omega arith) is)
has_post s laws (Bar r) fits is = absurd (no_post (suc r % 2) (omega arith) is)
has_post s laws tag fits is = absurd cc

-- on track t above row r, over the columns from c to d
pub record LiesOn (l : LibraryView) (used : ℕ → ℕ) (r t c d : ℕ) (a : Area) : Type 0 where
  pub left_so : centre l c ≤ a.left + l.wire / 2
  pub right_so : a.right ≤ centre l d + l.wire / 2
  pub low_so : track_centre l used r t ≤ a.low + l.wire / 2
  pub high_so : a.high ≤ track_centre l used r t + l.wire / 2
  pub tracked : t < used r

abbrev pub SameRun : ℕ → ℕ → ℕ → ℕ → ℕ → ℕ → ℕ → ℕ → Type 0
SameRun r q t u c d e f = (r ≡ q) × (t ≡ u) × (c ≤ f) × (e ≤ d)

rows_apart : (l : LibraryView) (used : ℕ → ℕ) → IsLawful l → (r q t u c d e f : ℕ) (a b : Area)
    → LiesOn l used r t c d a → LiesOn l used q u e f b → r < q → a.high + l.space ≤ b.low
rows_apart l used laws r q t u c d e f a b sa sb lt =
    let x = track_below l used r t sa.tracked in
    let y = track_above l used q u in
    let z = edges_apart l used r q lt in
    omega arith

tracks_far : (l : LibraryView) (used : ℕ → ℕ) → IsLawful l → (r t u c d e f : ℕ) (a b : Area) → LiesOn l used r t c d a
    → LiesOn l used r u e f b → t < u → a.high + l.space ≤ b.low
tracks_far l used laws r t u c d e f a b sa sb lt = let x = tracks_apart l used r t u lt in omega arith

ends_far : (l : LibraryView) (used : ℕ → ℕ) → IsLawful l → (r q t u c d e f : ℕ) (a b : Area) → LiesOn l used r t c d a
    → LiesOn l used q u e f b → d < e → a.right + l.space ≤ b.left
ends_far l used laws r q t u c d e f a b sa sb lt = let x = centres_apart l d e lt in omega arith

pub runs_far : (l : LibraryView) (used : ℕ → ℕ) → IsLawful l → (r q t u c d e f : ℕ) (a b : Area)
    → LiesOn l used r t c d a → LiesOn l used q u e f b → Far l.space a b ⊎ SameRun r q t u c d e f
runs_far l used laws r q t u c d e f a b sa sb = elim (cases_order r q) [
  | inl same ↦ elim (cases_order t u) [
    | inl track ↦ elim (cases_lt d e) [
      | inl lt ↦ inl (inl (ends_far l used laws r q t u c d e f a b sa sb lt))
      | inr ge ↦ elim (cases_lt f c) [
        | inl lt ↦ inl (inr (inl (ends_far l used laws q r u t e f c d b a sb sa lt)))
        | inr ge' ↦ inr (same, track, ge', ge)
      ]
    ]
    | inr h ↦ elim h [
      | inl lt ↦ inl (inr (inr (inl (tracks_far l used laws r t u c d e f a b sa (rw same sb) lt))))
      | inr lt ↦ inl (inr (inr (inr (tracks_far l used laws r u t e f c d b a (rw same sb) sa lt))))
    ]
  ]
  | inr h ↦ elim h [
    | inl lt ↦ inl (inr (inr (inl (rows_apart l used laws r q t u c d e f a b sa sb lt))))
    | inr lt ↦ inl (inr (inr (inr (rows_apart l used laws q r u t e f c d b a sb sa lt))))
  ]
]

pub record HasRun (s : Sheet) (tag : Tag) : Type 0 where
  pub row : ℕ
  pub column : ℕ
  pub wire : IsWire s row column
  pub least : ℕ
  pub most : ℕ
  pub lies : LiesOn s.library s.used row (s.track row column) least most (area s tag)
  pub least_so : min column (s.to row column) ≤ least
  pub most_so : most ≤ max column (s.to row column)
  pub net_so : net_of s tag ≡ Into (suc row) (s.to row column)
  pub left_held : (area s tag).left ≤ centre s.library least
  pub right_held : centre s.library least ≤ (area s tag).right
  pub low_held : (area s tag).low ≤ track_centre s.library s.used row (s.track row column)
  pub high_held : track_centre s.library s.used row (s.track row column) ≤ (area s tag).high
  pub whole : (layer_of tag == 12) ≡ true → least ≡ min column (s.to row column)

-- no excitation line is on a layer of runs
pub no_run : (n : ℕ) → n < 2 → run_layer (14 + n) ≡ true → ⊥
no_run zero lt e = cc
no_run (suc zero) lt e = cc
no_run (suc (suc n)) lt e = omega arith

-- a shape that is centred on a wire's track, over columns of the wire, and no wider than a wire
run_of : (s : Sheet) (tag : Tag) (r c least most half : ℕ) → IsWire s r c → half ≤ s.library.wire / 2
    → centre s.library least ≤ centre s.library most → (area s tag).left ≡ centre s.library least - half
    → (area s tag).right ≡ centre s.library most + half → (area s tag).low ≡ track_of s r c - half
    → (area s tag).high ≡ track_of s r c + half → min c (s.to r c) ≤ least → most ≤ max c (s.to r c)
    → net_of s tag ≡ Into (suc r) (s.to r c) → ((layer_of tag == 12) ≡ true → least ≡ min c (s.to r c)) → HasRun s tag
run_of s tag r c least most half wire narrow rises left right low high least_so most_so net whole = record {
  row = r;
  column = c;
  wire = wire;
  least = least;
  most = most;
  lies = record {
    left_so = omega arith;
    right_so = omega arith;
    low_so = omega arith;
    high_so = omega arith;
    tracked = wire.tracked;
  };
  least_so = least_so;
  most_so = most_so;
  net_so = net;
  left_held = omega arith;
  right_held = omega arith;
  low_held = omega arith;
  high_held = omega arith;
  whole = whole;
}

pub has_run : (s : Sheet) → IsLawful s.library → (tag : Tag) → Fits s tag → run_layer (layer_of tag) ≡ true
    → HasRun s tag
has_run s laws (Across r c) fits is = run_of s (Across r c) r c (min c (s.to r c)) (max c (s.to r c))
    (s.library.wire / 2) fits (omega arith)
    (centre_rises s.library (min c (s.to r c)) (max c (s.to r c)) (omega arith))
    refl refl refl refl (omega arith) (omega arith) refl (λ e. refl)
has_run s laws (FromVia r c) fits is = run_of s (FromVia r c) r c c c (s.library.via / 2) fits
    (omega arith) (omega arith) refl refl refl refl (omega arith) (omega arith) refl (λ e. absurd cc)
has_run s laws (ToVia r c) fits is = run_of s (ToVia r c) r c (s.to r c) (s.to r c) (s.library.via / 2) fits
    (omega arith) (omega arith) refl refl refl refl (omega arith) (omega arith) refl (λ e. absurd cc)
has_run s laws (Lead r) fits is = absurd (no_run (suc r % 2) (omega arith) is)
has_run s laws (Bar r) fits is = absurd (no_run (suc r % 2) (omega arith) is)
has_run s laws tag fits is = absurd cc
