-- All shapes are proper, shape by shape.
use Rattle.std.proofs.Common.{◌≡◌, ℕ, ◌+◌, ◌<◌, ◌≤◌, inl, inr, List, length, Some, sym, ap, subst, ◌∙◌, arith}
use Rattle.std.specs.Prelude.{slice_get}
use Rattle.std.proofs.lemmas.Bool.{cases_eq}
use Rattle.std.proofs.lemmas.Option.{same_Some, slice_get_within}
use Rattle.geom.specs.declared.shapes.Shape.{Shape}
use Rattle.geom.specs.Rectangle.{IsProper}
use Rattle.text_report.specs.Code.Sources.{HaveSides}

abbrev pub HaveSidesTo : ℕ → List Shape → Type 0
HaveSidesTo n shapes = (k : ℕ) (s : Shape) → k < n → slice_get shapes k ≡ Some s → IsProper s.rect

pub sides_more : (n : ℕ) (shapes : List Shape) (s : Shape) → HaveSidesTo n shapes → slice_get shapes n ≡ Some s
    → IsProper s.rect → HaveSidesTo (n + 1) shapes
sides_more n shapes s before is proper k t lt at = elim (cases_eq k n) [
  | inl e ↦ subst (λ (u : Shape). IsProper u.rect) (same_Some s t (sym is ∙ (ap (slice_get shapes) (sym e) ∙ at)))
      proper
  | inr ne ↦ before k t (omega arith) at
]

pub sides_all : (n : ℕ) (shapes : List Shape) → length shapes ≤ n → HaveSidesTo n shapes → HaveSides shapes
sides_all n shapes all before k s at = before k s (omega (arith, slice_get_within shapes k s at)) at
