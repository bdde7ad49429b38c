use Rattle.std.proofs.Common.{rules, ◌+◌, ◌/◌, ◌-◌, length, refl}
use Rattle.std.proofs.lemmas.Option.{slice_get_read}
use Rattle.mig.proofs.Built.{seen_whole, seen_turned}
use Rattle.mig.proofs.builder.Builder.operands.Goals as goal

pub returns-then-literal-eq1 : goal.returns-then-literal-eq1
returns-then-literal-eq1 c =
    seen_turned _ c.self.inside.inputs c.self.inside.nodes.items c.args.literal c.index-operands.result.now _
    c.self.view_is c.self.invariant (search rules) c.if-literal-eq1.true
    (slice_get_read c.self.inside.nodes.items (length c.self.inside.nodes.items)
    (c.args.literal / 2 - (c.self.inside.inputs + 1)) _ refl (search rules) c.index-operands.ensures)
    c.turned_node.ensures

pub returns-else-literal-eq1 : goal.returns-else-literal-eq1
returns-else-literal-eq1 c =
    seen_whole _ c.self.inside.inputs c.self.inside.nodes.items c.args.literal c.index-operands.result.now
    c.self.view_is c.self.invariant (search rules) (search rules)
    (slice_get_read c.self.inside.nodes.items (length c.self.inside.nodes.items)
    (c.args.literal / 2 - (c.self.inside.inputs + 1)) _ refl (search rules) c.index-operands.ensures)
