use Rattle.std.proofs.Common.{ℕ, ◌<◌, get_or}
use Rattle.cell_library.specs.declared.laws.Law.TheVariants.{EvenSizes}
use Rattle.cell_library.specs.Laws.{Holds}
use Rattle.cell_library.proofs.KindLists.{all_laws}
use Rattle.cell_library.proofs.laws.first_broken.Given as goal

abbrev pub invariant-loop-law : goal.invariant-loop-law
invariant-loop-law l = (k : ℕ) → k < l.law-index → Holds (get_or all_laws k EvenSizes) l.draft
