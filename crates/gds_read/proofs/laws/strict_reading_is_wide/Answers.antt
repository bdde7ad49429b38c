use Rattle.std.proofs.Common.{sym, ap, subst, ◌∙◌}
use Rattle.poly_cut.specs.declared.layout.WideLayout.{WideLayout}
use Rattle.poly_cut.specs.FlatForm.{wide_flat}
use Rattle.gds_records.specs.Stream.{IsWideStream, wide_layout_of}
use Rattle.gds_read.proofs.WideFlat.{same_flat}
use Rattle.gds_read.proofs.laws.strict_reading_is_wide.Goals as goal

pub returns : goal.returns
returns c =
    let wide = c.strict_streams_are_wide.ensures in
    let one = c.one_wide_reading.ensures.layout in
    record {
      stream = λ bytes layout fits s. subst (λ (w : WideLayout). IsWideStream bytes w)
          (one bytes (wide_layout_of s.records) (wide bytes layout fits s)) (wide bytes layout fits s);
      flat = λ bytes layout fits s. ap (λ (w : WideLayout). wide_flat w)
          (sym (one bytes (wide_layout_of s.records) (wide bytes layout fits s)))
          ∙ same_flat c.rectangles_are_rings.ensures.cut bytes layout fits s;
    }
