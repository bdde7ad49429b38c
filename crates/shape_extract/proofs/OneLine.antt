-- Under the rule of excitation lines a frame has one phase.
use Rattle.std.proofs.Common.{◌≡◌, ℕ, true, List, Some, sym, ◌∙◌}
use Rattle.std.specs.Prelude.{slice_get}
use Rattle.geom.specs.declared.shapes.Shape.{Shape}
use Rattle.layout_rules.specs.Layers.{is_frame}
use Rattle.layout_rules.specs.Reports.{ReportsNone}
use Rattle.layout_rules.specs.ExcitationRule.{ExcitationBroken}
use Rattle.layout_rules.proofs.LinesAgree.{each_excited, one_phase_of}
use Rattle.layout_rules.proofs.Deciding.{settled}
use Rattle.shape_extract.specs.Extraction.{IsInPhase}

module _ (shapes : List Shape) (kept : ReportsNone (ExcitationBroken shapes)) where
  pub one_phase : (f : ℕ) (frame : Shape) (p q : ℕ) → slice_get shapes f ≡ Some frame → is_frame frame ≡ true
      → IsInPhase shapes frame p → IsInPhase shapes frame q → p ≡ q
  one_phase f frame p q frame_is passes first second =
      let bars : first.number ≡ second.number = settled first.number second.number
      (λ ne. each_excited shapes kept f (record {
        frame = record { shape = frame; shape_is = frame_is; passes_so = passes };
        not_so = λ excited. ne (
            excited.only first.number first.bar.is_bar.shape first.bar.is_bar.shape_is
            first.bar.is_bar.line_so first.over
            ∙ sym (excited.only second.number second.bar.is_bar.shape second.bar.is_bar.shape_is
            second.bar.is_bar.line_so second.over));
      })) in
      one_phase_of shapes kept second.number p q (rw bars at first.bar) second.bar
