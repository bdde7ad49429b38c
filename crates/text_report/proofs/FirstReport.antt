-- The report of the first chip, computed.
use Rattle.std.proofs.Common.{◌≡◌, refl}
use Rattle.std.specs.Prelude.{codes}
use Rattle.geom.specs.FirstChip.{first_flat}
use Rattle.circuit_extracted.specs.FirstCircuit.{first_circuit}
use Rattle.std.specs.Fmt.{digits}
use Rattle.text_answers.specs.Counts.{counts_line}
use Rattle.text_report.specs.FirstReport.{first_report, first_near, first_far}
use Rattle.text_report.specs.Kinds.{kinds_of}
use Rattle.text_report.specs.ReportText.{small_cells, splitters_head, majorities_end, kinds_line, junctions_line}
use Rattle.text_report.specs.ReportText.{size_line, longest_line, skew_line, row_head, row_counts, row_end}
use Rattle.text_report.specs.ReportText.{row_text, head_text, report_text}
use Rattle.text_report.specs.ShapeLines.{box_head, corners_text, box_line, label_head, label_line, shape_line}

pub report_computes : report_text first_flat first_circuit first_near first_far 180000 ≡ first_report
unfolding report_text head_text kinds_line small_cells splitters_head majorities_end junctions_line size_line
    longest_line skew_line row_text row_head row_counts row_end counts_line kinds_of first_report first_flat
    first_circuit digits
report_computes = refl

pub frame_computes : shape_line first_flat 0 ≡ codes "shape 0 layer 20 datatype 1 box 0 0 8000 10000\n"
unfolding shape_line box_line box_head corners_text first_flat digits
frame_computes = refl

pub start_computes : shape_line first_flat 3 ≡ codes "shape 3 layer 14 datatype 2 box -4000 0 0 10000\n"
unfolding shape_line box_line box_head corners_text first_flat digits
start_computes = refl

pub label_computes : shape_line first_flat 16 ≡ codes "label 16 layer 30 at 5000 23500\n"
unfolding shape_line label_line label_head first_flat digits
label_computes = refl
