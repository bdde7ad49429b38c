-- The steps of a run.
use Rattle.std.specs.Prelude.{ℕ, ◌≡◌, List, Option, Some, None}
use Rattle.aq_base.specs.History.{Event}
use Rattle.aqfp_top.specs.Stages.{IsFirst}
use Rattle.aqfp_top.specs.DueTexts.{IsDue}
use Rattle.aqfp_top.specs.Runs.{loads_of, AreWithin, given, stages_by}
use Rattle.aqfp_top.specs.declared.words.Form.{Form}
use Rattle.aqfp_top.specs.declared.words.Form.TheVariants.{Verify, Trace}
use Rattle.aqfp_top.specs.declared.check.Printing.{Printing}
use Rattle.aqfp_top.specs.declared.check.Printing.TheVariants.{Answers, Fluxes}
use Rattle.aqfp_top.specs.declared.fault.WriteCall.TheVariants.{Out}
use Rattle.aqfp_top.specs.declared.fault.Fault.{Fault}
use Rattle.aqfp_top.specs.declared.fault.Fault.TheVariants.{WriteFault}

-- the loads of the form gave texts of which nothing is wrong, nothing else was heard, and these bytes and this text are
-- due
pub record ReadsDue (form : Form) (history history' : List Event) (words : List (List ℕ)) (bytes text : List ℕ)
    : Type 0 where
  pub texts : List (List ℕ)
  pub fit : AreWithin (loads_of form) texts
  pub history_is : history' ≡ given history words (loads_of form) texts
  pub none : IsFirst (stages_by form texts) None
  pub due : IsDue form texts (Some bytes) text

-- the form of a check that prints this
abbrev pub checking : Printing → Form
checking Answers = Verify
checking Fluxes = Trace

-- the fault is none of a write
abbrev pub IsNoWrite : Fault → Type 0
IsNoWrite (WriteFault call) = ⊥
IsNoWrite _ = Unit {0}

-- the answer is none of a write but to `out`
abbrev pub IsOutAlone : Option Fault → Type 0
IsOutAlone (Some (WriteFault call)) = call ≡ Out
IsOutAlone _ = Unit {0}
