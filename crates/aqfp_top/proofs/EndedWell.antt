-- Where nothing is wrong with the texts that a run was given, its work is done.
use Rattle.std.proofs.Common.{ℕ, List, [], ◌∷◌, Option, Some, None, inl, inr}
use Rattle.aq_base.specs.History.{Event}
use Rattle.aq_base.specs.Output.{Output}
use Rattle.aqfp_top.specs.Stages.{Stage, IsFirst, Answers}
use Rattle.aqfp_top.specs.Ended.{IsDoneOrGivesUp}
use Rattle.aqfp_top.specs.Runs.{stages_by, Judges}
use Rattle.aqfp_top.specs.declared.words.Form.{Form}
use Rattle.aqfp_top.specs.declared.fault.Fault.{Fault}
use Rattle.aqfp_top.specs.declared.fault.Fault.TheVariants.{ReadFault, WriteFault, TooLarge, Memory}

not_first : (stages : List Stage) (fault : Fault) → IsFirst stages None → IsFirst stages (Some fault) → ⊥
not_first [] fault none first = first
not_first (stage ∷ stages) fault none (inl found) = none.0 fault found
not_first (stage ∷ stages) fault none (inr later) = not_first stages fault none.1 later.1

pub well_ends : (stages : List Stage) (answer : Option Fault) → IsFirst stages None → Answers stages answer
    → IsDoneOrGivesUp stages answer
well_ends stages None none answers = tt
well_ends stages (Some Memory) none answers = tt
well_ends stages (Some (ReadFault place)) none answers = tt
well_ends stages (Some (WriteFault call)) none answers = tt
well_ends stages (Some (TooLarge what count)) none (inl first) =
    absurd (not_first stages (TooLarge what count) none first)
well_ends stages (Some (TooLarge what count)) none (inr gives) = gives.1
well_ends stages (Some _) none first = not_first stages _ none first

pub judged_well_ends : (form : Form) (history history' : List Event) (words : List (List ℕ)) (out out' : Output)
    (answer : Option Fault) (judges : Judges form history history' words out out' answer)
    → IsFirst (stages_by form judges.texts) None → IsDoneOrGivesUp (stages_by form judges.texts) answer
judged_well_ends form history history' words out out' answer judges none =
    well_ends (stages_by form judges.texts) answer none judges.answers
