-- Lists of numbers that are filled from the first place on, and the frames of pins as such a list.
use Rattle.std.proofs.Common.{◌≡◌, ℕ, ◌+◌, ◌<◌, ◌≤◌, inl, inr, false, List, [], ◌∷◌, ◌++◌, length, Some, refl, sym, ap}
use Rattle.std.proofs.Common.{subst, ◌∙◌, arith}
use Rattle.std.specs.Prelude.{slice_get, slice_index}
use Rattle.std.proofs.Math.ListN.{get_or-append, length-append}
use Rattle.std.proofs.Math.Seq.{get_or-append_seam}
use Rattle.std.proofs.lemmas.Bool.{cases_eq, both_ways}
use Rattle.std.proofs.lemmas.Option.{same_Some, slice_get_within}
use Rattle.geom.specs.declared.shapes.Shape.{Shape}
use Rattle.layout_rules.specs.Layers.{is_pin}
use Rattle.layout_rules.specs.Pins.{LiesIn}
use Rattle.layout_rules.specs.Reports.{Passes}
use Rattle.shape_extract.specs.Code.FramesOfPins.{ArePinFrames}

-- the fact holds of each of the first n places and its number
pub record NumbersTo (fact : ℕ → ℕ → Type 0) (n : ℕ) (numbers : List ℕ) : Type 0 where
  pub long : length numbers ≡ n
  pub each : (p : ℕ) → p < n → fact p (slice_index numbers p)

pub numbers_none : (fact : ℕ → ℕ → Type 0) → NumbersTo fact 0 []
numbers_none fact = record { long = refl; each = λ p lt. absurd (omega arith) }

pub numbers_more : (fact : ℕ → ℕ → Type 0) (n : ℕ) (numbers : List ℕ) (number : ℕ) → NumbersTo fact n numbers
    → fact n number → NumbersTo fact (n + 1) (numbers ++ number ∷ [])
numbers_more fact n numbers number are here = record {
  long = omega (arith, length-append numbers (number ∷ []), are.long);
  each = λ p lt. elim (cases_eq p n) [
    | inl e ↦
        let last : slice_index (numbers ++ number ∷ []) p ≡ number = ap (slice_index (numbers ++ number ∷ []))
        (e ∙ sym are.long) ∙ get_or-append_seam numbers number [] 0 in
        subst (fact p) (sym last) (rw e here)
    | inr ne ↦
        let old : slice_index (numbers ++ number ∷ []) p ≡ slice_index numbers p = get_or-append numbers
        (number ∷ []) 0 p (omega (arith, are.long)) in
        subst (fact p) (sym old) (are.each p (omega arith))
  ];
}

-- the number is that of the frame of a pin
abbrev pub IsFrameNumber : List Shape → ℕ → ℕ → Type 0
IsFrameNumber shapes p f = Passes is_pin shapes p → LiesIn shapes p f

pub frames_all : (n : ℕ) (shapes : List Shape) (frames : List ℕ) → length shapes ≤ n → n ≤ length shapes
    → NumbersTo (IsFrameNumber shapes) n frames → ArePinFrames shapes frames
frames_all n shapes frames all most are = record {
  long = omega (arith, are.long);
  each = λ p pin. (let lt : p < length shapes =
      slice_get_within shapes p pin.shape pin.shape_is in are.each p (omega arith) pin);
}

pub no_frame : (shapes : List Shape) (p f : ℕ) (s : Shape) → slice_get shapes p ≡ Some s → is_pin s ≡ false
    → Passes is_pin shapes p → LiesIn shapes p f
no_frame shapes p f s got not_so pin =
    absurd (both_ways (is_pin s) not_so (ap is_pin (same_Some s pin.shape (sym got ∙ pin.shape_is)) ∙ pin.passes_so))
