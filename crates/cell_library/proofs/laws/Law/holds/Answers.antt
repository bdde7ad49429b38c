use Rattle.std.proofs.Common.{◌≡◌, [], Bool, IsTrue, All, subst, sym, ◌↔◌, ◌%◌}
use Rattle.cell_library.specs.declared.draft.Numbers.{Numbers}
use Rattle.cell_library.specs.declared.laws.Law.TheVariants.{EvenSizes}
use Rattle.cell_library.specs.Library.{LibraryView}
use Rattle.cell_library.specs.Laws.{Holds, sizes_of}
use Rattle.cell_library.specs.Code.Drafts.{drafted}
use Rattle.cell_library.proofs.laws.Law.holds.Goals as goal

-- the sizes of a draft are those of its numbers
even_sizes : (l : LibraryView) (numbers : Numbers) (b : Bool) → l ≡ drafted numbers l.pins
    → IsTrue b ↔ All (λ size. size % 2 ≡ 0) (sizes_of (drafted numbers [])) → IsTrue b ↔ Holds EvenSizes l
even_sizes l numbers b e h = subst (λ (x : LibraryView). IsTrue b ↔ Holds EvenSizes x) (sym e) h

pub returns-in-EvenSizes : goal.returns-in-EvenSizes
returns-in-EvenSizes c =
    let here = even_sizes c.args.draft.now c.numbers-numbers.result.now c.sizes_are_even.result
    c.numbers-numbers.ensures.numbers c.sizes_are_even.ensures in
    rw c.in-EvenSizes.is here
