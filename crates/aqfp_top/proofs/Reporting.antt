-- From the clauses of the steps of a report to its own.
use Rattle.std.proofs.Common.{ℕ, ◌≡◌, List, None, Result, Ok, Err, IfErr}
use Rattle.std.proofs.Common.{refl, ap, subst}
use Rattle.aq_base.specs.Output.{Output}
use Rattle.poly_cut.specs.declared.layout.WideLayout.{WideLayout}
use Rattle.poly_cut.specs.FlatForm.{wide_flat}
use Rattle.gds_records.specs.Stream.{IsWideStream}
use Rattle.cell_library.specs.Library.{LibraryView, limits_of}
use Rattle.cell_library.specs.Says as library
use Rattle.shape_extract.specs.CellPlaces.{AreCellPlaces}
use Rattle.text_report.specs.ReportText.{report_text}
use Rattle.aqfp_top.specs.Loads.{write_loads}
use Rattle.aqfp_top.specs.Stages.{IsFirst}
use Rattle.aqfp_top.specs.Due.{circuit_stages}
use Rattle.aqfp_top.specs.Faults.{IsReportFault}
use Rattle.aqfp_top.specs.Reported.{IsReport}
use Rattle.aqfp_top.specs.Code.Loading.{IsFaultOfLoads}
use Rattle.aqfp_top.specs.Code.Printing.{PrintsText}
use Rattle.aqfp_top.specs.Code.Checking.{IsCircuitFault, IsJudged}
use Rattle.aqfp_top.specs.Code.Reporting.{IsLayoutFault, IsPrintingFault}
use Rattle.aqfp_top.specs.declared.judge.JudgedChip.{JudgedChip}
use Rattle.aqfp_top.specs.declared.fault.Fault.{Fault}
use Rattle.aqfp_top.proofs.EachFault.{each_of_loads, each_circuit, each_layout, each_printing}
use Rattle.aqfp_top.proofs.OutEnds.{each_text}
use Rattle.aqfp_top.proofs.Judging.{IsRead, is_ruled, circuit_is_well}

-- The chip of the texts.

-- the text is the report of the chip of the texts
pub is_report : (gds lib : List ℕ) (layout : WideLayout) (view : LibraryView) (chip : JudgedChip) → IsRead gds layout
    → library.SaysLibrary lib view → IsJudged (wide_flat layout) (limits_of view) chip
    → (near far : ℕ → ℕ) → AreCellPlaces chip.flat.shapes near far
    → IsReport gds lib (report_text chip.flat chip.circuit near far view.limit)
is_report gds lib layout view chip is says judged near far places =
    let ruled = is_ruled (wide_flat layout) (limits_of view) chip judged in
    record {
      circuit = chip.circuit;
      makes = record {
        layout = layout;
        read = is.read;
        library = record { view = view; says = says };
        rules = ruled.rules;
        circuit_is = ruled.circuit_is;
      };
      near = near;
      far = far;
      places = subst (λ f. AreCellPlaces f.shapes near far) judged.flat_is places;
      text_is = ap (λ f. report_text f chip.circuit near far view.limit) judged.flat_is;
    }

-- nothing is wrong with the texts
pub chip_is_well : (one_layout : (bytes : List ℕ) (layout other : WideLayout) → IsWideStream bytes layout
    → IsWideStream bytes other → layout ≡ other)
    (gds lib : List ℕ) (layout : WideLayout) (view : LibraryView) (chip : JudgedChip) → IsRead gds layout
    → library.SaysLibrary lib view → IsJudged (wide_flat layout) (limits_of view) chip
    → IsFirst (circuit_stages gds lib) None
chip_is_well one_layout gds lib layout view chip is says judged =
    circuit_is_well one_layout gds lib layout view (Ok chip.circuit) is says
    (is_ruled (wide_flat layout) (limits_of view) chip judged)

-- Printing it.

pub layout_printing : (fault : Fault) → IsLayoutFault fault → IsPrintingFault fault
layout_printing fault wrong = each_layout IsPrintingFault (λ o k. tt) (λ n. tt) tt fault wrong

pub circuit_printing : (fault : Fault) → IsCircuitFault fault → IsPrintingFault fault
circuit_printing fault wrong =
    each_circuit IsPrintingFault (λ o k. tt) (λ n. tt) (λ f. tt) (λ k. tt) (λ r a b. tt) tt fault wrong

pub out_printing : (text : List ℕ) (shown shown' : Output) (result : Result (Unit {0}) Fault)
    → PrintsText text shown shown' result → IfErr result IsPrintingFault
out_printing text shown shown' result prints =
    each_text (λ r. IfErr r IsPrintingFault) text shown shown' (λ p. tt) (λ p. tt) (λ p. tt) result prints

pub ruleset prints = (layout_printing, circuit_printing, out_printing)

-- The whole report.

pub loads_report : (fault : Fault) → IsFaultOfLoads write_loads fault → IsReportFault fault
loads_report fault only = each_of_loads IsReportFault write_loads (λ p l. l) (λ p t l. l) (λ p l. l) tt fault only

pub report_only : (result : Result (Unit {0}) Fault) → IfErr result IsPrintingFault → IfErr result IsReportFault
report_only (Ok x) only = tt
report_only (Err fault) only =
    each_printing IsReportFault refl
    (each_circuit IsReportFault (λ o k. tt) (λ n. tt) (λ f. tt) (λ k. tt) (λ r a b. tt) tt) fault only

pub ruleset ends = loads_report
