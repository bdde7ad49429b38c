use Rattle.std.proofs.Common.{sym, ap, ◌∙◌}
use Rattle.std.specs.Prelude.{slice_get}
use Rattle.std.proofs.lemmas.Option.{same_Some}
use Rattle.case_tables.specs.Tables.{three_recipe}
use Rattle.case_tables.proofs.TableLaws.{at_entry}
use Rattle.maj_mapping.proofs.tables.Tables.of_three.Goals as goal

pub returns : goal.returns
returns c = sym (same_Some _ _ (sym (at_entry three_recipe 256 c.args.number c.requires)
    ∙ ap (λ t. slice_get t c.args.number) (sym c.self.invariant.three) ∙ c.recipe.ensures))
