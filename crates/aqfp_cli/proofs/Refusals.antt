-- Standard error is never refused memory, so what it refuses has failed.
use Rattle.std.proofs.Common.{ℕ, suc, ◌≡◌, inl, inr, List, Option, Some, None, take, ap, arith}
use Rattle.aq_base.specs.declared.store.StoreRefusal.{StoreRefusal}
use Rattle.aq_base.specs.declared.store.StoreRefusal.TheVariants.{Failed, Memory}
use Rattle.aq_base.specs.History.{took}
use Rattle.aq_base.specs.FaultCounts.{memory_refusals, Remembers}
use Rattle.aq_base.specs.Output.{Output, PrintsPart}
use Rattle.aqfp_top.specs.declared.fault.Fault.{Fault}
use Rattle.aqfp_top.specs.Lines.{Reports, IsCutShort}
use Rattle.aqfp_top.specs.Printed.{PrintsFirst}

only_fails : (before after : Output) (line : List ℕ) (why : StoreRefusal) → Remembers after.history
    → PrintsPart before after line why → PrintsFirst Failed before after line
only_fails before after line Failed remembers part =
    record { count = part.count; within = part.within; halts = part.taken }
only_fails before after line Memory remembers part =
    let refused : memory_refusals after.history ≡ suc (memory_refusals (took (take part.count line) before.history)) =
    ap (λ (x : Output). memory_refusals x.history) part.taken in
    absurd (omega (arith, remembers, refused))

pub reports_failures : (before after : Output) (words : List (List ℕ)) (fault : Option Fault) → Remembers after.history
    → Reports IsCutShort before after words fault → Reports (PrintsFirst Failed) before after words fault
reports_failures before after words None remembers same = same
reports_failures before after words (Some fault) remembers (inl whole) = inl whole
reports_failures before after words (Some fault) remembers (inr cut) =
    inr (only_fails before after _ cut.why remembers cut.part)
