-- What the laws say of the plan, whatever the library and the netlist.
use Rattle.std.specs.Prelude.{◌≢◌, length}
use Rattle.circuit.specs.SameAnswers.{SameAnswers}
use Rattle.blif_read.specs.Parts.{NetView}
use Rattle.blif_read.specs.Equations.{IsAnswer as IsNetAnswer}
use Rattle.rowed.specs.RowNets.{IsAnswer}
use Rattle.rowed.specs.PlacedNets.{PlacedView}
use Rattle.cell_library.specs.Library.{LibraryView}
use Rattle.plan_build.specs.Refusals.{Refuses}
use Rattle.plan_build.specs.declared.refusal.PlanRefusal.{PlanRefusal}
use Rattle.plan_build.specs.declared.refusal.PlanRefusal.TheVariants.{Memory}

-- the chip has the netlist's inputs and outputs, and its answer to every word
abbrev pub AnswersAs : NetView → PlacedView → Type 0
AnswersAs net chip =
    SameAnswers net.inputs chip.net.inputs (length net.outputs) chip.net.outputs (IsNetAnswer net) (IsAnswer chip.net)

-- the plan passes a limit, and this refusal tells it
pub record IsRefused (l : LibraryView) (net : NetView) : Type 0 where
  pub refusal : PlanRefusal
  pub of_limit : refusal ≢ Memory
  pub refuses : Refuses l net refusal
