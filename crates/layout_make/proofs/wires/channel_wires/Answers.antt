use Rattle.std.proofs.Common.{◌∙◌, sym, ap, length, rules}
use Rattle.std.proofs.lemmas.List.Sorted.{answers_always}
use Rattle.rowed.proofs.SpanLaws.{long_row}
use Rattle.layout_make.specs.Channel.{from_of}
use Rattle.layout_make.proofs.WireCode.{same_spots, next_spots, fit_rows, sorted_channel}
use Rattle.layout_make.proofs.wires.channel_wires.Goals as goal

pub wires_into-requires-clause-fit : goal.wires_into-requires-clause-fit
wires_into-requires-clause-fit c =
    fit_rows c.args.placed.now c.args.library.now c.args.channel _ _
    (same_spots c.args.placed.now c.args.channel _ _ c.of-lower.ensures.cells c.of-lower.ensures.slots)
    (next_spots c.args.placed.now c.args.channel _ _ c.of-upper.ensures.cells c.of-upper.ensures.slots)
    c.known.ensures c.known-2.ensures.library c.requires.narrow c.requires.lower_given c.requires.upper_given

pub wires_into-requires-clause-long : goal.wires_into-requires-clause-long
wires_into-requires-clause-long c =
    ap length c.of-upper.ensures.slots ∙ long_row c.args.placed.now.net.rows c.args.placed.now.slots _
    c.known.ensures.seated ∙ sym (ap length c.of-upper.ensures.cells)

pub returns : goal.returns
returns c =
    c.from_vec.ensures ∙ sorted_channel c.args.placed.now c.args.library.now c.args.channel _ _ _ _
    (same_spots c.args.placed.now c.args.channel _ _ c.of-lower.ensures.cells c.of-lower.ensures.slots)
    (next_spots c.args.placed.now c.args.channel _ _ c.of-upper.ensures.cells c.of-upper.ensures.slots)
    c.in_ok-wires.ensures
    (c.in_ok-sort_by_key.ensures.sorted from_of (answers_always _ _ _ (λ f a r f' k. search rules)))
    (c.in_ok-sort_by_key.ensures.stable from_of (answers_always _ _ _ (λ f a r f' k. search rules)))
