-- Why parts make no netlist.
use Rattle.std.specs.Prelude.{ℕ, List}
use Rattle.blif_read.specs.declared.make.MakeRefusal.{MakeRefusal}
use Rattle.blif_read.specs.declared.make.MakeRefusal.TheVariants.{Cycle, Memory}

-- a fact for the signals of a refusal that is no want of memory
abbrev pub IfCycle : MakeRefusal → (List ℕ → Type 0) → Type 0
IfCycle (Cycle signals) P = P signals
IfCycle Memory P = Unit {0}
