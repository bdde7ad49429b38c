use Rattle.std.proofs.Common.{sym, ap, ◌∙◌}
use Rattle.std.specs.Prelude.{slice_get}
use Rattle.std.proofs.lemmas.Option.{same_Some}
use Rattle.case_tables.specs.Tables.{two_recipe}
use Rattle.case_tables.proofs.TableLaws.{at_entry}
use Rattle.maj_mapping.proofs.tables.Tables.of_two.Goals as goal

pub returns : goal.returns
returns c = sym (same_Some _ _ (sym (at_entry two_recipe 16 c.args.number c.requires)
    ∙ ap (λ t. slice_get t c.args.number) (sym c.self.invariant.two) ∙ c.recipe.ensures))
