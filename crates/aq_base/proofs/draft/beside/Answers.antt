use Rattle.std.proofs.Common.{Some, None, [], ◌∷◌, ◌++◌, append_assoc, ap, sym, ◌∙◌}
use Rattle.aq_base.proofs.Folders.{made-so, split_folder}
use Rattle.aq_base.proofs.draft.beside.Goals as goal

pub returns-in-Some : goal.returns-in-Some
returns-in-Some c =
    let e = split_folder c.args.path.now (Some (c.in-Some.folder, c.in-Some.field-0-1)) c.in-Some.ensures.cases in
    made-so _ _ _ c.format.ensures.ok
    (sym (ap (λ folder. folder ++ c.args.name.now) e ∙ append_assoc c.in-Some.folder.now (47 ∷ []) c.args.name.now))

pub returns-in-None : goal.returns-in-None
returns-in-None c =
    made-so _ _ _ c.from_str.ensures.ok
    (sym (ap (λ folder. folder ++ c.args.name.now) (split_folder c.args.path.now None c.in-None.ensures.cases)))
