use Rattle.std.proofs.Common.{rules}
use Rattle.std.specs.Prelude.{not, ◌==◌}
use Rattle.std.proofs.lemmas.Fn.{filter_same}
use Rattle.shape_extract.proofs.lines.contacts.remove_number.Goals as goal

pub returns : goal.returns
returns c = filter_same _ (λ n. not (n == c.args.a)) _
    (λ x b q says. (search rules, search rules)) _ _ c.retain.ensures.filtered
