use Rattle.std.proofs.Common.{◌+◌, List, subst, rules, length}
use Rattle.std.proofs.lemmas.Result.{IfOk-weaker, IfErr-weaker}
use Rattle.rowed.specs.declared.row_cell.RowCell.{RowCell}
use Rattle.rowed.specs.PlacedNets.{row_of}
use Rattle.repeater_rows.proofs.Making.{known_from}
use Rattle.repeater_rows.proofs.Counted.{channel_counted, channel_over, channel_past, IsFit, IsOver}
use Rattle.repeater_rows.proofs.counting.count_channel.Goals as goal

pub count_rounds-requires-clause-known : goal.count_rounds-requires-clause-known
count_rounds-requires-clause-known c = known_from _ _ c.in_ok-channel.channel c.in_ok-channel.ensures

pub returns-in_err-below-clause-err : goal.returns-in_err-below-clause-err
returns-in_err-below-clause-err c =
    let all = channel_past (row_of c.args.net.now c.args.number) (row_of c.args.net.now (c.args.number + 1))
    (record { reach = c.args.reach; channel = c.in_ok-channel.channel }) c.in_ok-channel.ensures c.args.before
    c.in_err-below.field-0.0 c.in_err-below.ensures.err in
    search (rules, all)

pub returns-clause-ok : goal.returns-clause-ok
returns-clause-ok c =
    IfOk-weaker c.count_row.result _ _ (λ cells fit. channel_counted (row_of c.args.net.now c.args.number)
    (row_of c.args.net.now (c.args.number + 1))
    (record { reach = c.args.reach; channel = c.in_ok-channel.channel }) c.in_ok-channel.ensures c.args.before
    c.in_ok-below.below cells c.in_ok-below.ensures.ok
    (subst (λ (row : List RowCell). IsFit c.in_ok-below.below (length row) cells) c.cells_at.ensures fit))
    c.count_row.ensures.ok

pub returns-clause-err : goal.returns-clause-err
returns-clause-err c =
    IfErr-weaker c.count_row.result _ _ (λ refusal over. channel_over (row_of c.args.net.now c.args.number)
    (row_of c.args.net.now (c.args.number + 1))
    (record { reach = c.args.reach; channel = c.in_ok-channel.channel }) c.in_ok-channel.ensures c.args.before
    c.in_ok-below.below refusal c.in_ok-below.ensures.ok
    (subst (λ (row : List RowCell). IsOver c.in_ok-below.below (length row) refusal) c.cells_at.ensures over))
    c.count_row.ensures.err
