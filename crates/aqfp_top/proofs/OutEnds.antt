-- What printing a text leaves of `out`, by how it ended.
use Rattle.std.proofs.Common.{ℕ, suc, ◌≡◌, ◌<◌, List, take, Result, Ok, Err}
use Rattle.std.proofs.Common.{IfErr, OnOk, ap, ◌∙◌, arith}
use Rattle.aq_base.specs.declared.store.StoreRefusal.{StoreRefusal}
use Rattle.aq_base.specs.declared.store.StoreRefusal.TheVariants as store
use Rattle.aq_base.specs.FaultCounts.{write_faults}
use Rattle.aq_base.specs.Output.{Output, printed}
use Rattle.aq_base.proofs.Counting.{took_writes}
use Rattle.text_answers.specs.Printing.{PrintsWithin}
use Rattle.aqfp_top.specs.Code.Building.{IsOutOrMemory}
use Rattle.aqfp_top.specs.Code.Printing.{end_of_out, PrintsText}
use Rattle.aqfp_top.specs.declared.fault.WriteCall.TheVariants.{Create, Append, Close, Out}
use Rattle.aqfp_top.specs.declared.fault.Fault.{Fault}
use Rattle.aqfp_top.specs.declared.fault.Fault.TheVariants.{WriteFault, Memory}

-- by what the sink or a printer answered
pub ends_text : (text : List ℕ) (o o' : Output) (answer : Result (Unit {0}) StoreRefusal)
    → OnOk answer (o' ≡ printed text o) → IfErr answer (PrintsWithin o o' text)
    → PrintsText text o o' (end_of_out answer)
ends_text text o o' (Ok _) added part = added
ends_text text o o' (Err store.Failed) added part = part
ends_text text o o' (Err store.Memory) added part = part

-- each way to end
pub each_text : (P : Result (Unit {0}) Fault → Type 0) (text : List ℕ) (o o' : Output)
    → (o' ≡ printed text o → P (Ok tt))
    → (PrintsWithin o o' text store.Failed → P (Err (WriteFault Out)))
    → (PrintsWithin o o' text store.Memory → P (Err Memory))
    → (result : Result (Unit {0}) Fault) → PrintsText text o o' result → P result
each_text P text o o' ok out memory (Ok _) prints = ok prints
each_text P text o o' ok out memory (Err (WriteFault Create)) prints = absurd prints
each_text P text o o' ok out memory (Err (WriteFault Append)) prints = absurd prints
each_text P text o o' ok out memory (Err (WriteFault Close)) prints = absurd prints
each_text P text o o' ok out memory (Err (WriteFault Out)) prints = out prints
each_text P text o o' ok out memory (Err Memory) prints = memory prints
each_text P text o o' ok out memory (Err _) prints = absurd prints

pub text_only : (text : List ℕ) (o o' : Output) (result : Result (Unit {0}) Fault) → PrintsText text o o' result
    → IfErr result IsOutOrMemory
text_only text o o' result prints =
    each_text (λ r. IfErr r IsOutOrMemory) text o o' (λ p. tt) (λ p. tt) (λ p. tt) result prints

pub within_fails : (text : List ℕ) (o o' : Output) → PrintsWithin o o' text store.Failed
    → write_faults o.history < write_faults o'.history
within_fails text o o' p =
    let more : write_faults o'.history ≡ suc (write_faults o.history) =
    ap (λ (x : Output). write_faults x.history) p.halts ∙ ap suc (took_writes (take p.count text) o.history) in
    omega (arith, more)

pub ruleset texts = (ends_text, text_only)
