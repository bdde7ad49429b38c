use Rattle.std.proofs.Common.{◌∙◌, sym}
use Rattle.shape_extract.proofs.PinMarks.{label_there, label_says, no_label}
use Rattle.shape_extract.proofs.circuits.pin_names.name_of.Goals as goal

pub bounds-as_slice-label : goal.bounds-as_slice-label
bounds-as_slice-label c = rw c.as_slice.ensures
    (label_there c.args.flat.now c.args.marking.now c.requires.marking c.args.p c.requires.pin c.in-Some.label
    (sym c.label.ensures ∙ c.in-Some.is))

pub number_below-requires-clause-decimal : goal.number_below-requires-clause-decimal
number_below-requires-clause-decimal c =
    (label_says c.args.flat.now c.args.marking.now c.requires.marking c.args.p c.requires.pin c.in-Some.label
    (sym c.label.ensures ∙ c.in-Some.is) c.as_slice.result.now c.index-as_slice-label.result c.as_slice.ensures
    c.index-as_slice-label.is c.requires.kept c.requires.few).decimal

pub number_below-requires-clause-below : goal.number_below-requires-clause-below
number_below-requires-clause-below c =
    (label_says c.args.flat.now c.args.marking.now c.requires.marking c.args.p c.requires.pin c.in-Some.label
    (sym c.label.ensures ∙ c.in-Some.is) c.as_slice.result.now c.index-as_slice-label.result c.as_slice.ensures
    c.index-as_slice-label.is c.requires.kept c.requires.few).below

pub returns-in-Some : goal.returns-in-Some
returns-in-Some c = rw c.number_below.ensures
    (label_says c.args.flat.now c.args.marking.now c.requires.marking c.args.p c.requires.pin c.in-Some.label
    (sym c.label.ensures ∙ c.in-Some.is) c.as_slice.result.now c.index-as_slice-label.result c.as_slice.ensures
    c.index-as_slice-label.is c.requires.kept c.requires.few).name

pub returns-in-None : goal.returns-in-None
returns-in-None c = no_label c.args.flat.now c.args.marking.now c.requires.marking c.args.p c.requires.pin
    (sym c.label.ensures ∙ c.in-None.is)
