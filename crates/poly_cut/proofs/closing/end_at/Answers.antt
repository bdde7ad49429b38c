use Rattle.std.proofs.Common.{◌≡◌, ◌∙◌, Some, None, sym, rules, w64, to_z, of_z}
use Rattle.std.proofs.lemmas.Int.{to_z-of_z}
use Rattle.poly_cut.proofs.closing.end_at.Goals as goal

pub returns-in-Some-clause-none : goal.returns-in-Some-clause-none
returns-in-Some-clause-none c = λ e.
    let same : to_z w64 (of_z w64 c.args.left) ≡ c.args.left = search (rules, to_z-of_z) in
    let f = rw same at c.in-Some.ensures.value in
    absurd (let g : None ≡ Some c.in-Some.number.now = sym e ∙ sym f in cc)
