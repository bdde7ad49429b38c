use Rattle.std.proofs.Common.{◌≡◌, length, arith, rules}
use Rattle.shape_extract.specs.Code.Filed.{ListsMembers}
use Rattle.shape_extract.proofs.Members.{rising_firsts, rising_all}
use Rattle.shape_extract.proofs.filed_shapes.list_of_kinds.Goals as goal

pub returns-then-count-len : goal.returns-then-count-len
returns-then-count-len c =
    let members : ListsMembers c.args.filed.now.kinds.numbers.items c.args.filed.now.kinds.places.items
    c.args.found.now.items c.list_members.new.found.items =
    rw (c.as_slice.ensures.value, c.as_slice-2.ensures.value) at c.in_ok-list_members.ensures in
    rising_all c.args.filed.now.kinds.numbers.items c.args.filed.now.kinds.places.items c.args.found.now.items
    c.list_members.new.found.items c.requires.firsts c.requires.kinds c.make_rising.new.numbers.items members
    c.make_rising.ensures.rising c.make_rising.ensures.same

pub returns-else-count-len : goal.returns-else-count-len
returns-else-count-len c =
    let members : ListsMembers c.args.filed.now.kinds.numbers.items c.args.filed.now.kinds.places.items
    c.args.found.now.items c.list_members.new.found.items =
    rw (c.as_slice.ensures.value, c.as_slice-2.ensures.value) at c.in_ok-list_members.ensures in
    let before : c.len-count.result ≡ length c.args.found.now.items = search rules in
    let after : c.len.result ≡ length c.list_members.new.found.items = search rules in
    rising_firsts c.args.filed.now.kinds.numbers.items c.args.filed.now.kinds.places.items c.args.found.now.items
    c.list_members.new.found.items c.requires.firsts c.requires.kinds members
    (omega (arith, c.if-count-len.false)) c.requires.rising
