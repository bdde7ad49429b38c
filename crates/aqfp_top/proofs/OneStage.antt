-- Each stage finds one fault at most.
use Rattle.std.proofs.Common.{ℕ, ◌≡◌, ◌≢◌, List}
use Rattle.blif_read.specs.Parts.{NetView}
use Rattle.cell_library.specs.Library.{LibraryView}
use Rattle.geom.specs.declared.shapes.Flat.{Flat}
use Rattle.poly_cut.specs.declared.layout.WideLayout.{WideLayout}
use Rattle.gds_records.specs.Stream.{IsWideStream}
use Rattle.gds_records.specs.Faults.{WideFault}
use Rattle.gds_records.specs.declared.fault.StreamKind.{StreamKind}
use Rattle.layout_rules.specs.declared.rule.Rule.{Rule}
use Rattle.layout_rules.specs.declared.rule.Rule.TheVariants.{E1, E2, E6}
use Rattle.layout_rules.specs.Limits.{Limits}
use Rattle.layout_rules.specs.Rules.{Keeps, FirstBroken}
use Rattle.layout_rules.specs.Rules.{IsOneReport}
use Rattle.circuit_extracted.specs.Circuits.{CircuitView}
use Rattle.shape_extract.specs.Extraction.{IsCircuitOf}
use Rattle.plan_build.specs.Plans.{IsWithin}
use Rattle.plan_build.specs.Refusals.{Refuses}
use Rattle.plan_build.specs.declared.refusal.PlanRefusal.{PlanRefusal}
use Rattle.plan_build.specs.declared.refusal.PlanRefusal.TheVariants as plan
use Rattle.aqfp_top.specs.Stages as stage
use Rattle.aqfp_top.specs.Stages.{Stage, Finds}
use Rattle.aqfp_top.specs.declared.fault.Fault.{Fault}
use Rattle.aqfp_top.proofs.OneDue.{one_form_fault}
use Rattle.aqfp_top.proofs.OneFault.{one_netlist_fault, one_plain_fault, one_cells_fault, one_plan_fault}
use Rattle.aqfp_top.proofs.OneFault.{one_own_plan_fault}
use Rattle.aqfp_top.proofs.OneCheck.{one_stream_fault, one_size_fault, one_rule_fault, one_words_fault}
use Rattle.aqfp_top.proofs.OneComparison.{one_widths_fault}
use Rattle.aqfp_top.proofs.Naming.{one_number_fault}

module _ (past : (l : LibraryView) (net : NetView) (refusal : PlanRefusal) → refusal ≢ plan.Memory
    → Refuses l net refusal → IsWithin l net → ⊥)
    (only : (l : LibraryView) (net : NetView) (one other : PlanRefusal) → one ≢ plan.Memory → other ≢ plan.Memory
    → Refuses l net one → Refuses l net other → one ≡ other)
    (one_layout : (bytes : List ℕ) (layout other : WideLayout) → IsWideStream bytes layout
    → IsWideStream bytes other → layout ≡ other)
    (one_fault : (bytes : List ℕ) (offset other : ℕ) (kind second : StreamKind) → WideFault bytes offset kind
    → WideFault bytes other second → (offset ≡ other) × (kind ≡ second))
    (broken_once : (flat : Flat) (limits : Limits) (rule other : Rule) (a b c d : ℕ) → FirstBroken flat limits rule a b
    → FirstBroken flat limits other c d → IsOneReport rule other a b c d)
    (one_circuit : (flat : Flat) (limits : Limits) (first second : CircuitView) → Keeps E1 flat limits
    → Keeps E2 flat limits → Keeps E6 flat limits → IsCircuitOf flat first
    → IsCircuitOf flat second → first ≡ second) where
  pub once : (s : Stage) (f g : Fault) → Finds s f → Finds s g → f ≡ g
  once stage.Form f g p q = one_form_fault f g p q
  once (stage.Netlist net) f g p q = one_netlist_fault net f g p q
  once (stage.Plain net) f g p q = one_plain_fault net f g p q
  once (stage.Cells lib) f g p q = one_cells_fault lib f g p q
  once (stage.Plan planner net lib) f g p q = one_plan_fault past only planner net lib f g p q
  once (stage.PlanWith net cells) f g p q = one_own_plan_fault past only net cells f g p q
  once (stage.Stream gds) f g p q = one_stream_fault one_fault gds f g p q
  once (stage.Size gds) f g p q = one_size_fault one_layout gds f g p q
  once (stage.Rules gds lib) f g p q = one_rule_fault one_layout broken_once gds lib f g p q
  once (stage.Counts gds lib net) f g p q = one_widths_fault one_layout one_circuit gds lib net f g p q
  once (stage.Comparison gds lib net) f g p q = absurd p
  once (stage.Numbers gds first second) f g p q = one_number_fault one_layout gds first second f g p q
  once (stage.Words gds lib text) f g p q = one_words_fault one_layout one_circuit gds lib text f g p q
