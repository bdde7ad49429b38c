use Rattle.std.proofs.Common.{◌≡◌, ◌++◌, drop, option_map}
use Rattle.toml.specs.View.{items_view}
use Rattle.cell_library.specs.Documents.{integers_of}
use Rattle.cell_library.proofs.document.integers_of.Given as goal

abbrev pub invariant-loop-item : goal.invariant-loop-item
invariant-loop-item l = integers_of (items_view l.items) ≡ option_map (λ zs. l.all.items ++ zs)
    (integers_of (items_view (drop l.item-index l.items)))
