-- The counts of faults of the store and of `out` that an ending shows, by what was heard of the two.
use Rattle.std.specs.Prelude.{ℕ, ◌≡◌, ◌<◌, List, Option, Some}
use Rattle.aq_base.specs.History.{Event}
use Rattle.aq_base.specs.FaultCounts.{read_faults, write_faults, close_faults}
use Rattle.aqfp_top.specs.Words.{word_at}
use Rattle.aqfp_top.specs.declared.fault.WriteCall.TheVariants.{Create, Append, Close, Out}
use Rattle.aqfp_top.specs.declared.fault.Fault.{Fault}
use Rattle.aqfp_top.specs.declared.fault.Fault.TheVariants.{ReadFault, WriteFault}

-- the store's read, write and close faults, and the faults of `out`
pub record Counts : Type 0 where
  pub reads : ℕ
  pub writes : ℕ
  pub closes : ℕ
  pub outs : ℕ

-- how often the store and `out` were heard to fail
abbrev pub counts_of : List Event → List Event → Counts
counts_of history shown = record {
  reads = read_faults history;
  writes = write_faults history;
  closes = close_faults history;
  outs = write_faults shown;
}

-- the count of the fault rose
abbrev pub HasFaults : Counts → Counts → Option Fault → Type 0
HasFaults before after (Some (ReadFault place)) = before.reads < after.reads
HasFaults before after (Some (WriteFault Create)) = before.writes < after.writes
HasFaults before after (Some (WriteFault Append)) = before.writes < after.writes
HasFaults before after (Some (WriteFault Close)) = before.closes < after.closes
HasFaults before after (Some (WriteFault Out)) = before.outs < after.outs
HasFaults before after _ = Unit {0}

-- a failed load was of the name at the fault's place
abbrev pub FailedLoad : Option (List ℕ) → List (List ℕ) → Option Fault → Type 0
FailedLoad load_failed words (Some (ReadFault place)) = load_failed ≡ Some (word_at words place)
FailedLoad load_failed words _ = Unit {0}
