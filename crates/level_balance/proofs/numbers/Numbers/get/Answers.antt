use Rattle.std.proofs.Common.{sym, ap, ◌∙◌, subst}
use Rattle.std.specs.List.{concat}
use Rattle.std.proofs.lemmas.Bool.{ltb-true, ltb-false}
use Rattle.level_balance.specs.Code.Pages.{ArePages}
use Rattle.level_balance.proofs.PagesJoined.{found_in_page, past_pages}
use Rattle.level_balance.proofs.numbers.Numbers.get.Goals as goal

pub returns-in-Some : goal.returns-in-Some
returns-in-Some c =
    let found = c.in-Some.ensures.lookup in
    let is = c.deref.ensures.value in
    found_in_page c.deref.result.now _ _ _ c.args.place _ (ap concat is ∙ c.self.view_is)
    (subst (ArePages 4096) (sym is) c.self.invariant) (ltb-true _ _ (sym found.0)) found.1 c.get-in-Some.ensures

pub returns-in-None : goal.returns-in-None
returns-in-None c =
    let is = c.deref.ensures.value in
    past_pages c.deref.result.now _ c.args.place (ap concat is ∙ c.self.view_is)
    (subst (ArePages 4096) (sym is) c.self.invariant) (ltb-false _ _ (sym c.in-None.ensures.lookup.0))
