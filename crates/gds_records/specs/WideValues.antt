-- The values that a record of a wide stream must have, after the records before it (GDSII Stream Format manual; right
-- angles alone, whole grids and no magnification are this project's own profile).
use Rattle.std.specs.Prelude.{ℕ, zero, suc, ◌/◌, ◌%◌, ◌==◌, ◌&&◌, ◌||◌, not, nat_lt, List, [], ◌∷◌, Bool, true, false}
use Rattle.std.specs.Prelude.{length, take, drop, Option, Some, None, ℤ, pos, ◌-ℤ◌, int_lt, int_rem}
use Rattle.std.specs.Ordering.{int_eq}
use Rattle.poly_cut.specs.declared.layout.Point.{Point}
use Rattle.poly_cut.specs.Cuts.{ring_cut}
use Rattle.gds_records.specs.declared.fault.StreamKind.{StreamKind}
use Rattle.gds_records.specs.declared.fault.StreamKind.TheVariants.{Value, Unsupported, NotRectangle}
use Rattle.gds_records.specs.declared.codes.TheConstants.{BOUNDARY, PATH, SREF, AREF, TEXT, XY, STRANS, MAG, ANGLE}
use Rattle.gds_records.specs.declared.codes.TheConstants.{PATHTYPE, WIDTH, COLROW}
use Rattle.gds_records.specs.Records.{Record, number}
use Rattle.gds_records.specs.Values.{unsigned_value, has_value, rule}
use Rattle.gds_records.specs.Drawing.{coordinate}

-- ---- the points of an XY

-- the first so many points of an XY, each of eight bytes
abbrev pub some_points : ℕ → List ℕ → List Point
some_points zero xy = []
some_points (suc n) xy = record { x = coordinate xy 0; y = coordinate xy 1 } ∷ some_points n (drop 8 xy)

-- all points of an XY
abbrev pub points : List ℕ → List Point
points xy = some_points (length xy / 8) xy

-- from one point to the next
pub data Way : Type 0 where
  Right : Way
  Left : Way
  Up : Way
  Down : Way
  Still : Way
  Slanted : Way

-- the first of two ways along an axis where the coordinate grows, and otherwise the second
abbrev pub along : Bool → Way → Way → Way
along forward a b = elim forward [ true ↦ a | false ↦ b ]

-- the way from one point to another
abbrev pub way : Point → Point → Way
way p q = elim (int_eq p.x q.x) [
  | true ↦ elim (int_eq p.y q.y) [ true ↦ Still | false ↦ along (int_lt p.y q.y) Up Down ]
  | false ↦ elim (int_eq p.y q.y) [ true ↦ along (int_lt p.x q.x) Right Left | false ↦ Slanted ]
]

-- goes along an axis, by some length
abbrev pub is_straight : Way → Bool
is_straight Right = true
is_straight Left = true
is_straight Up = true
is_straight Down = true
is_straight Still = false
is_straight Slanted = false

-- both go the same way along an axis
abbrev pub is_same : Way → Way → Bool
is_same Right w = elim w [ Right ↦ true | Left ↦ false | Up ↦ false | Down ↦ false | Still ↦ false | Slanted ↦ false ]
is_same Left w = elim w [ Right ↦ false | Left ↦ true | Up ↦ false | Down ↦ false | Still ↦ false | Slanted ↦ false ]
is_same Up w = elim w [ Right ↦ false | Left ↦ false | Up ↦ true | Down ↦ false | Still ↦ false | Slanted ↦ false ]
is_same Down w = elim w [ Right ↦ false | Left ↦ false | Up ↦ false | Down ↦ true | Still ↦ false | Slanted ↦ false ]
is_same Still w = false
is_same Slanted w = false

-- the opposite way
abbrev pub back : Way → Way
back Right = Left
back Left = Right
back Up = Down
back Down = Up
back Still = Still
back Slanted = Slanted

-- ---- boundaries: round, by right angles, with a square inside

-- from p through these points each side lies along an axis, and the last point is z
abbrev pub is_round_to : Point → Point → List Point → Bool
is_round_to z p [] = int_eq p.x z.x && int_eq p.y z.y
is_round_to z p (q ∷ qs) = (int_eq p.x q.x || int_eq p.y q.y) && is_round_to z q qs

-- the sides lie along the axes, and the last point is the first
abbrev pub is_round : List Point → Bool
is_round [] = false
is_round (p ∷ ps) = is_round_to p p ps

-- a boundary's points: they go round by right angles, and some square is inside
abbrev pub is_ring : List Point → Bool
is_ring ps = is_round ps && not (length (ring_cut ps) == 0)

-- ---- paths

-- from p on, which was come to by this way
abbrev pub goes_on : Way → Point → List Point → Bool
goes_on w p [] = true
goes_on w p (q ∷ qs) = is_straight (way p q) && (not (is_same (way p q) (back w)) && goes_on (way p q) q qs)

-- a path's points: at least two, each segment along an axis, and none goes back over the one before
abbrev pub is_path : List Point → Bool
is_path [] = false
is_path (p ∷ []) = false
is_path (p ∷ q ∷ qs) = goes_on Still p (q ∷ qs)

-- where a path turns, and its end: p was come to by this way
abbrev pub turns_from : Way → Point → List Point → List Point
turns_from w p [] = p ∷ []
turns_from w p (q ∷ qs) = elim (is_same w (way p q)) [
  | true ↦ turns_from (way p q) q qs
  | false ↦ p ∷ turns_from (way p q) q qs
]

-- without the points inside a straight run
abbrev pub turns : List Point → List Point
turns [] = []
turns (p ∷ ps) = turns_from Still p ps

-- the bits of a width that is even and not 0
abbrev pub is_width : List ℕ → Bool
is_width bytes = unsigned_value 0 bytes % 2 == 0 && not (unsigned_value 0 bytes == 0)

-- ---- references

-- of the manual's flags the mirroring alone
abbrev pub is_flip : List ℕ → Bool
is_flip bytes = unsigned_value 0 bytes == 0 || unsigned_value 0 bytes == 0x8000

-- the eight-byte reals 1, 0, 90, 180 and 270
abbrev pub is_one : List ℕ → Bool
is_one bytes = unsigned_value 0 bytes == 0x4110000000000000

-- how many quarter turns counterclockwise an ANGLE is, if it is 0, 90, 180 or 270 degrees
abbrev pub quarters : List ℕ → Option ℕ
quarters bytes =
    elim (unsigned_value 0 bytes == 0) [
      | true ↦ Some 0
      | false ↦ elim (unsigned_value 0 bytes == 0x425A000000000000) [
        | true ↦ Some 1
        | false ↦ elim (unsigned_value 0 bytes == 0x42B4000000000000) [
          | true ↦ Some 2
          | false ↦ elim (unsigned_value 0 bytes == 0x4310E00000000000) [ true ↦ Some 3 | false ↦ None ]
        ]
      ]
    ]

-- an ANGLE of whole quarter turns, fewer than four
abbrev pub is_turn : List ℕ → Bool
is_turn bytes = elim (quarters bytes) [ Some n ↦ true | None ↦ false ]

-- how many columns a COLROW says, in its first two bytes
abbrev pub columns : List ℕ → ℕ
columns colrow = number (take 2 colrow)

-- how many rows a COLROW says, in the two bytes after them
abbrev pub rows : List ℕ → ℕ
rows colrow = number (drop 2 colrow)

-- a number of columns or rows that an array may have: 1 to 32,767
abbrev pub is_count : ℕ → Bool
is_count n = not (n == 0) && nat_lt n 32768

-- a COLROW with columns and rows in that range
abbrev pub is_colrow : List ℕ → Bool
is_colrow colrow = is_count (columns colrow) && is_count (rows colrow)

-- b less a is so many times a whole number
abbrev pub is_multiple : ℕ → ℤ → ℤ → Bool
is_multiple n a b = int_eq (int_rem (b -ℤ a) (pos n)) (pos 0)

-- an AREF's three points, from whose first the columns go to the second and the rows to the third in whole steps
abbrev pub is_lattice : ℕ → ℕ → List Point → Bool
is_lattice columns rows (p ∷ q ∷ r ∷ []) = is_multiple columns p.x q.x && is_multiple columns p.y q.y
    && (is_multiple rows p.x r.x && is_multiple rows p.y r.y)
is_lattice columns rows ps = false

-- ---- all values

-- BOUNDARY, PATH, SREF, AREF or TEXT, whichever came last
abbrev pub wide_opener : ℕ → List Record → ℕ
wide_opener last [] = last
wide_opener last (r ∷ rs) =
    elim (r.kind == BOUNDARY || r.kind == PATH || r.kind == SREF || r.kind == AREF || r.kind == TEXT) [
      | true ↦ wide_opener r.kind rs
      | false ↦ wide_opener last rs
    ]

-- the content of the COLROW that came last
abbrev pub last_colrow : List ℕ → List Record → List ℕ
last_colrow last [] = last
last_colrow last (r ∷ rs) = elim (r.kind == COLROW) [ true ↦ last_colrow r.content rs | false ↦ last_colrow last rs ]

-- the element is a reference: SREF or AREF
abbrev pub refers : ℕ → Bool
refers element = element == SREF || element == AREF

-- what is wrong with a record's value in an element that this record opened, behind this COLROW
abbrev pub wide_fault_in : ℕ → List ℕ → Bool → Record → Option StreamKind
wide_fault_in element colrow taken r =
    rule (r.kind == STRANS && refers element) (is_flip r.content) Unsupported
    (rule (r.kind == MAG && refers element) (is_one r.content) Unsupported
    (rule (r.kind == ANGLE && refers element) (is_turn r.content) Unsupported
    (rule (r.kind == PATHTYPE && element == PATH)
    (unsigned_value 0 r.content == 0 || unsigned_value 0 r.content == 2) Unsupported
    (rule (r.kind == XY && element == BOUNDARY) (is_ring (points r.content)) NotRectangle
    (rule (r.kind == XY && element == PATH) (is_path (points r.content)) Value
    (rule (r.kind == XY && element == AREF) (is_lattice (columns colrow) (rows colrow) (points r.content)) Value
    (rule (r.kind == WIDTH && element == PATH) (is_width r.content) Value
    (rule (r.kind == COLROW) (is_colrow r.content) Value
    (rule true (has_value taken r) Value None)))))))))
