use Rattle.std.proofs.Common.{◌≤◌, length}
use Rattle.shape_extract.proofs.LabelNumbers.{decimal_tail, seen_skip, seen_take, refused_first, seen_all}
use Rattle.shape_extract.proofs.Each.{item_there}
use Rattle.shape_extract.proofs.rules.label_numbers.first_misnumbered.Goals as goal
use Rattle.shape_extract.proofs.rules.label_numbers.first_misnumbered.Goals.{else-label-eq-LABELS-via-then-label-eq-LABELS+else-not-take_name}
use Rattle.shape_extract.proofs.rules.label_numbers.first_misnumbered.Goals.{else-label-eq-LABELS-via-else-label-eq-LABELS}

pub take_name-requires-clause-numbered : goal.take_name-requires-clause-numbered
take_name-requires-clause-numbered c =
    let got = item_there c.as_slice-labels.ensures c.loop-place-test.true c.index-labels-place.is in
    decimal_tail c.args.flat.now c.args.entries c.args.exits c.requires.entries c.requires.exits c.requires.kept
    c.loop-place.place c.index-labels-place.result got c.if-label-eq-LABELS.true

pub returns-then-not-take_name : goal.returns-then-not-take_name
returns-then-not-take_name c =
    let got = item_there c.as_slice-labels.ensures c.loop-place-test.true c.index-labels-place.is in
    rw c.len-shape_count.ensures
    (refused_first c.args.flat.now c.args.entries c.args.exits c.requires.entries c.requires.exits c.requires.kept
    c.loop-place.place c.loop-place.seen c.loop-place.invariant c.index-labels-place.result got
    c.if-label-eq-LABELS.true c.take_name.new.seen c.if-not-take_name.ensures)

pub loop-place-preserved : goal.loop-place-preserved
loop-place-preserved c =
    let got = item_there c.as_slice-labels.ensures c.loop-place-test.true c.index-labels-place.is in
    elim c.else-label-eq-LABELS.branch [
      | else-label-eq-LABELS-via-then-label-eq-LABELS+else-not-take_name w ↦
          rw w.seen-is (seen_take c.args.flat.now c.args.entries c.args.exits c.requires.entries c.requires.exits
          c.requires.kept c.loop-place.place c.loop-place.seen c.loop-place.invariant c.index-labels-place.result
          got w.if-label-eq-LABELS.true w.take_name.new.seen w.if-not-take_name.ensures)
      | else-label-eq-LABELS-via-else-label-eq-LABELS w ↦
          rw w.seen-is (seen_skip c.args.flat.now c.args.entries c.args.exits c.requires.entries c.requires.exits
          c.requires.kept c.loop-place.place c.loop-place.seen c.loop-place.invariant c.index-labels-place.result
          got w.if-label-eq-LABELS.false)
    ]

pub returns : goal.returns
returns c =
    let all : length c.args.flat.now.labels ≤ c.loop-place.place =
    rw c.as_slice-labels.ensures at c.loop-place-test.false in
    seen_all c.args.flat.now c.args.entries c.args.exits c.loop-place.place c.loop-place.seen all c.loop-place.invariant
