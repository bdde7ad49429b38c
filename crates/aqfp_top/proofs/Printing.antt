-- What is printed of a text, and how printing may end.
use Rattle.std.proofs.Common.{ℕ, List, Option, Some, None, Result, IfErr, refl, inl, inr}
use Rattle.std.specs.Result.{result_err}
use Rattle.aq_base.specs.Output.{Output}
use Rattle.aqfp_top.specs.Stages.{Stage, IsFirst, Answers}
use Rattle.aqfp_top.specs.Printed.{Prints, TextPrints}
use Rattle.aqfp_top.specs.Code.Building.{IsOutOrMemory}
use Rattle.aqfp_top.specs.Code.Checking.{IsCircuitFault}
use Rattle.aqfp_top.specs.Code.Printing.{PrintsText}
use Rattle.aqfp_top.specs.Code.Reporting.{IsLayoutFault}
use Rattle.aqfp_top.specs.declared.fault.Fault.{Fault}
use Rattle.aqfp_top.specs.declared.fault.Fault.TheVariants.{WriteFault, Memory}
use Rattle.aqfp_top.proofs.EachFault.{each_circuit, each_layout, each_out}
use Rattle.aqfp_top.proofs.OutEnds.{each_text}

-- a text that means this means that
means_more : (Means Other : List ℕ → Type 0) (Printed : List ℕ → Type 0) → ((text : List ℕ) → Means text → Other text)
    → Prints Means Printed → Prints Other Printed
means_more Means Other Printed more prints =
    record { text = prints.text; means = more prints.text prints.means; printed = prints.printed }

pub prints_more : (Means Other : List ℕ → Type 0) (before after : Output) (fault : Option Fault)
    → ((text : List ℕ) → Means text → Other text) → TextPrints Means before after fault
    → TextPrints Other before after fault
prints_more Means Other before after None more prints = means_more Means Other _ more prints
prints_more Means Other before after (Some (WriteFault call)) more prints = means_more Means Other _ more prints
prints_more Means Other before after (Some Memory) more (inl same) = inl same
prints_more Means Other before after (Some Memory) more (inr prints) = inr (means_more Means Other _ more prints)
prints_more Means Other before after (Some _) more prints = prints

-- the text was put, or some first bytes of it
pub text_prints : (Means : List ℕ → Type 0) (text : List ℕ) (shown shown' : Output) (result : Result (Unit {0}) Fault)
    → Means text → PrintsText text shown shown' result → TextPrints Means shown shown' (result_err result)
text_prints Means text shown shown' result means prints =
    each_text (λ r. TextPrints Means shown shown' (result_err r)) text shown shown'
    (λ p. record { text = text; means = means; printed = p })
    (λ p. record { text = text; means = means; printed = p })
    (λ p. inr (record { text = text; means = means; printed = p })) result prints

-- where nothing is wrong, printing ends as the stages may
pub out_answers : (stages : List Stage) (result : Result (Unit {0}) Fault) → IsFirst stages None
    → IfErr result IsOutOrMemory → Answers stages (result_err result)
out_answers stages result none only = each_out (λ r. Answers stages (result_err r)) none none tt result only

-- where a load ends the work, or the text of a layout, or the texts of a chip, nothing is printed

pub circuit_prints : (Means : List ℕ → Type 0) (held : Output) (fault : Fault) → IsCircuitFault fault
    → TextPrints Means held held (Some fault)
circuit_prints Means held fault wrong =
    each_circuit (λ f. TextPrints Means held held (Some f)) (λ o k. refl) (λ n. refl) (λ f. refl) (λ k. refl)
    (λ r a b. refl) (inl refl) fault wrong

pub layout_prints : (Means : List ℕ → Type 0) (held : Output) (fault : Fault) → IsLayoutFault fault
    → TextPrints Means held held (Some fault)
layout_prints Means held fault wrong =
    each_layout (λ f. TextPrints Means held held (Some f)) (λ o k. refl) (λ n. refl) (inl refl) fault wrong
