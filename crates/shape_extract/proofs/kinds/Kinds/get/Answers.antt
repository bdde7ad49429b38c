use Rattle.std.proofs.Common.{◌≡◌, ◌<◌, ◌∙◌, length, arith}
use Rattle.std.specs.Prelude.{slice_index}
use Rattle.std.proofs.lemmas.Option.{slice_get-get_or}
use Rattle.shape_extract.specs.Distinct.{AreAt, kinds_at}
use Rattle.shape_extract.proofs.StandIns.{kinds_are_at}
use Rattle.shape_extract.proofs.kinds.Kinds.get.Goals as goal

pub bounds-self-inside-place : goal.bounds-self-inside-place
bounds-self-inside-place c =
    let all : AreAt c.self.inside.shapes.now c.self.inside.numbers.now
    (kinds_at c.self.inside.shapes.now c.self.inside.numbers.now) = kinds_are_at _ _ c.self.invariant in
    let lt : c.args.place < length (kinds_at c.self.inside.shapes.now c.self.inside.numbers.now) =
    rw c.self.view_is c.requires in
    omega (arith, all.long)

pub bounds-self-inside-self-inside : goal.bounds-self-inside-self-inside
bounds-self-inside-self-inside c =
    let all : AreAt c.self.inside.shapes.now c.self.inside.numbers.now
    (kinds_at c.self.inside.shapes.now c.self.inside.numbers.now) = kinds_are_at _ _ c.self.invariant in
    let lt : c.args.place < length (kinds_at c.self.inside.shapes.now c.self.inside.numbers.now) =
    rw c.self.view_is c.requires in
    c.self.invariant c.args.place (omega (arith, all.long))

pub returns : goal.returns
returns c =
    let all : AreAt c.self.inside.shapes.now c.self.inside.numbers.now
    (kinds_at c.self.inside.shapes.now c.self.inside.numbers.now) = kinds_are_at _ _ c.self.invariant in
    let lt : c.args.place < length (kinds_at c.self.inside.shapes.now c.self.inside.numbers.now) =
    rw c.self.view_is c.requires in
    let within : c.args.place < length c.self.inside.numbers.now = omega (arith, all.long) in
    rw (← c.self.view_is) (all.each c.args.place within
    ∙ slice_get-get_or c.self.inside.shapes.now (slice_index c.self.inside.numbers.now c.args.place)
    c.index-self-self.result (c.self.invariant c.args.place within))
