use Rattle.std.proofs.Common.{◌/◌, ◌<◌, ◌≤◌, length, arith}
use Rattle.level_balance.proofs.PagesJoined.{changed_page, put_in_page, put_past}
use Rattle.level_balance.proofs.numbers.Numbers.set.Goals as goal

pub invariant_of-self : goal.invariant_of-self
invariant_of-self c =
    let there : c.args.place / 4096 < length c.self.inside.pages.items = omega arith in
    changed_page c.self.inside.pages.items _ _ _ c.args.place c.self.invariant there
    c.index_mut.ensures.value c.in_ok-set.ensures.size

pub invariant_of-self-in_err-set : goal.invariant_of-self-in_err-set
invariant_of-self-in_err-set c =
    let there : c.args.place / 4096 < length c.self.inside.pages.items = omega arith in
    changed_page c.self.inside.pages.items _ _ _ c.args.place c.self.invariant there c.index_mut.ensures.value
    c.in_err-set.ensures.size

pub returns-in_ok-set : goal.returns-in_ok-set
returns-in_ok-set c =
    let there : c.args.place / 4096 < length c.self.inside.pages.items = omega arith in
    put_in_page c.self.inside.pages.items _ _ _ _ c.args.place c.args.number c.self.view_is c.self.invariant there
    c.index_mut.ensures.value c.in_ok-set.ensures.is

pub returns-else-at-len : goal.returns-else-at-len
returns-else-at-len c =
    let past : length c.self.inside.pages.items ≤ c.args.place / 4096 = omega arith in
    put_past c.self.inside.pages.items _ c.args.place c.args.number c.self.view_is c.self.invariant past
