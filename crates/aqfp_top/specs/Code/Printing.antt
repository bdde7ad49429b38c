-- Printing to `out`: how it ends.
use Rattle.std.specs.Prelude.{ℕ, ◌≡◌, List, Result, Ok, Err}
use Rattle.aq_base.specs.declared.store.StoreRefusal.{StoreRefusal}
use Rattle.aq_base.specs.declared.store.StoreRefusal.TheVariants as store
use Rattle.aq_base.specs.Output.{Output, printed}
use Rattle.text_answers.specs.Printing.{PrintsWithin}
use Rattle.aqfp_top.specs.declared.fault.WriteCall.TheVariants.{Out}
use Rattle.aqfp_top.specs.declared.fault.Fault.{Fault}
use Rattle.aqfp_top.specs.declared.fault.Fault.TheVariants.{WriteFault, Memory}

-- how printing ends, by what the sink or a printer answered
abbrev pub end_of_out : Result (Unit {0}) StoreRefusal → Result (Unit {0}) Fault
end_of_out (Ok _) = Ok tt
end_of_out (Err store.Failed) = Err (WriteFault Out)
end_of_out (Err store.Memory) = Err Memory

-- `out` took the text; or some first bytes of it, where it failed or memory was wanted
abbrev pub PrintsText : List ℕ → Output → Output → Result (Unit {0}) Fault → Type 0
PrintsText text o o' (Ok _) = o' ≡ printed text o
PrintsText text o o' (Err (WriteFault Out)) = PrintsWithin o o' text store.Failed
PrintsText text o o' (Err Memory) = PrintsWithin o o' text store.Memory
PrintsText text o o' (Err _) = ⊥
