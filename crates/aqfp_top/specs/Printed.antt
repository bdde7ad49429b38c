-- What `out` gains of a text that a command prints.
use Rattle.std.specs.Prelude.{ℕ, ◌≡◌, ◌⊎◌, List, Option, Some, None}
use Rattle.aq_base.specs.declared.store.StoreRefusal.{StoreRefusal}
use Rattle.aq_base.specs.declared.store.StoreRefusal.TheVariants as store
use Rattle.aq_base.specs.Output.{Output}
use Rattle.aq_base.specs.Output as output
use Rattle.text_answers.specs.Printing.{PrintsWithin}
use Rattle.aqfp_top.specs.declared.fault.Fault.{Fault}
use Rattle.aqfp_top.specs.declared.fault.Fault.TheVariants.{WriteFault, Memory}

-- some text of this meaning was printed so far
pub record Prints (Means Printed : List ℕ → Type 0) : Type 0 where
  pub text : List ℕ
  pub means : Means text
  pub printed : Printed text

-- of the text `out` took some first bytes, and then printing ended for this reason
abbrev pub PrintsFirst : StoreRefusal → Output → Output → List ℕ → Type 0
PrintsFirst why before after text = PrintsWithin before after text why

-- what `out` gains: the whole text, or some first bytes of it where the fault is its own or want of memory
abbrev pub TextPrints : (List ℕ → Type 0) → Output → Output → Option Fault → Type 0
TextPrints Means before after None = Prints Means (λ text. after ≡ output.printed text before)
TextPrints Means before after (Some (WriteFault call)) = Prints Means (PrintsFirst store.Failed before after)
TextPrints Means before after (Some Memory) = (after ≡ before) ⊎ Prints Means (PrintsFirst store.Memory before after)
TextPrints Means before after (Some fault) = after ≡ before
