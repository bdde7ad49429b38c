-- The words of a command line: which forms they may have.
use Rattle.std.specs.Prelude.{ℕ, ◌≡◌, ◌<◌, ◌≤◌, ◌^◌, ◌⊎◌, List, [], String, map, slice_get, codes, unwrap_or, length}
use Rattle.std.specs.Fmt.{decimal}
use Rattle.std.specs.String.{string_bytes}
use Rattle.std.specs.declared.alloc.Global.{Global}
use Rattle.aqfp_top.specs.declared.planner.Planner.{Planner}
use Rattle.aqfp_top.specs.declared.planner.Planner.TheVariants.{Build, Compact, Draw}
use Rattle.aqfp_top.specs.declared.words.Form.{Form}
use Rattle.aqfp_top.specs.declared.words.Form.TheVariants.{Make, Verify, Trace, Equal, Write, Report, Shapes, Sample}
use Rattle.aqfp_top.specs.declared.words.Form.TheVariants.{Wrong}

-- the bytes of each word
abbrev pub spelled : List (String Global) → List (List ℕ)
spelled words = map string_bytes words

-- the word at a place, counted from 0
abbrev pub word_at : List (List ℕ) → ℕ → List ℕ
word_at words place = unwrap_or (slice_get words place) []

-- build NET LIB OUT
abbrev pub IsBuild : List (List ℕ) → Type 0
IsBuild words = (length words ≡ 4) × (word_at words 0 ≡ codes "build")

-- compact NET LIB OUT
abbrev pub IsCompact : List (List ℕ) → Type 0
IsCompact words = (length words ≡ 4) × (word_at words 0 ≡ codes "compact")

-- draw NET LIB OUT
abbrev pub IsDraw : List (List ℕ) → Type 0
IsDraw words = (length words ≡ 4) × (word_at words 0 ≡ codes "draw")

-- the command that makes a chip by this plan
abbrev pub IsMakeBy : Planner → List (List ℕ) → Type 0
IsMakeBy Build words = IsBuild words
IsMakeBy Compact words = IsCompact words
IsMakeBy Draw words = IsDraw words

-- one of the two commands that search for a chip
abbrev pub IsSearch : List (List ℕ) → Type 0
IsSearch words = IsCompact words ⊎ IsDraw words

-- one of the three commands that make a chip
abbrev pub IsMake : List (List ℕ) → Type 0
IsMake words = IsBuild words ⊎ IsSearch words

-- verify GDS LIB WORDS
abbrev pub IsVerify : List (List ℕ) → Type 0
IsVerify words = (length words ≡ 4) × (word_at words 0 ≡ codes "verify")

-- trace GDS LIB WORDS
abbrev pub IsTrace : List (List ℕ) → Type 0
IsTrace words = (length words ≡ 4) × (word_at words 0 ≡ codes "trace")

-- equal GDS LIB NET
abbrev pub IsEqual : List (List ℕ) → Type 0
IsEqual words = (length words ≡ 4) × (word_at words 0 ≡ codes "equal")

-- netlist GDS LIB OUT
abbrev pub IsWrite : List (List ℕ) → Type 0
IsWrite words = (length words ≡ 4) × (word_at words 0 ≡ codes "netlist")

-- report GDS LIB
abbrev pub IsReport : List (List ℕ) → Type 0
IsReport words = (length words ≡ 3) × (word_at words 0 ≡ codes "report")

-- the text writes this number, which has at most 64 bits
pub record IsNumber (text : List ℕ) (number : ℕ) : Type 0 where
  pub spelled_so : text ≡ decimal number
  pub fits : number < 2 ^ 64

-- shapes GDS A B, A and B being these numbers
pub record IsShapesOf (words : List (List ℕ)) (first second : ℕ) : Type 0 where
  pub four : length words ≡ 4
  pub named : word_at words 0 ≡ codes "shapes"
  pub first_is : IsNumber (word_at words 2) first
  pub second_is : IsNumber (word_at words 3) second

-- shapes GDS A B
pub record IsShapes (words : List (List ℕ)) : Type 0 where
  pub first : ℕ
  pub second : ℕ
  pub of_numbers : IsShapesOf words first second

-- one of the two commands that check a chip
abbrev pub IsCheck : List (List ℕ) → Type 0
IsCheck words = IsVerify words ⊎ IsTrace words

-- the text writes this number of bits, which a sample may have
pub record IsSampleSize (text : List ℕ) (bits : ℕ) : Type 0 where
  pub spelled_so : text ≡ decimal bits
  pub some : 1 ≤ bits
  pub few : bits ≤ 64

-- sample N, N being this number of bits
pub record IsSampleOf (words : List (List ℕ)) (bits : ℕ) : Type 0 where
  pub two : length words ≡ 2
  pub named : word_at words 0 ≡ codes "sample"
  pub size : IsSampleSize (word_at words 1) bits

-- sample N
pub record IsSample (words : List (List ℕ)) : Type 0 where
  pub bits : ℕ
  pub of_bits : IsSampleOf words bits

-- the words are one of the ten commands with its arguments, the number of a sample being from 1 to 64
abbrev pub HasForm : List (List ℕ) → Type 0
HasForm words =
    IsMake words ⊎ (IsCheck words ⊎ (IsSample words ⊎ (IsEqual words ⊎ (IsWrite words
    ⊎ (IsReport words ⊎ IsShapes words)))))

-- the words have this form
abbrev pub IsOfForm : List (List ℕ) → Form → Type 0
IsOfForm words (Make planner) = IsMakeBy planner words
IsOfForm words Verify = IsVerify words
IsOfForm words Trace = IsTrace words
IsOfForm words Equal = IsEqual words
IsOfForm words Write = IsWrite words
IsOfForm words Report = IsReport words
IsOfForm words (Shapes first second) = IsShapesOf words first second
IsOfForm words (Sample bits) = IsSampleOf words bits
IsOfForm words Wrong = ¬ HasForm words
