use Rattle.std.proofs.Common.{◌<◌, ◌≡◌, All, length, arith}
use Rattle.shape_extract.specs.Distinct.{kinds_at}
use Rattle.shape_extract.proofs.StandIns.{kinds_are_at, rects_at_places, named_within}
use Rattle.shape_extract.proofs.kinds.Kinds.file.Goals as goal

pub numbers_at-requires : goal.numbers_at-requires
numbers_at-requires c =
    let within : All (λ p. p < length (kinds_at c.self.inside.shapes.now c.self.inside.numbers.now))
    c.args.places.now = rw c.self.view_is c.requires.within in
    λ k d lt. omega (arith, (kinds_are_at _ _ c.self.invariant).long, within k d lt)

pub file_numbered-requires-clause-few : goal.file_numbered-requires-clause-few
file_numbered-requires-clause-few c =
    rw c.as_slice.ensures.value (omega (arith, c.in_ok-numbers.ensures.long, c.requires.few))

pub file_numbered-requires-clause-within : goal.file_numbered-requires-clause-within
file_numbered-requires-clause-within c =
    let within : All (λ p. p < length (kinds_at c.self.inside.shapes.now c.self.inside.numbers.now))
    c.args.places.now = rw c.self.view_is c.requires.within in
    rw c.as_slice.ensures.value (named_within c.self.inside.shapes.now c.self.inside.numbers.now c.args.places.now
    c.in_ok-numbers.numbers.items c.self.invariant within c.in_ok-numbers.ensures)

pub returns : goal.returns
returns c =
    let within : All (λ p. p < length (kinds_at c.self.inside.shapes.now c.self.inside.numbers.now))
    c.args.places.now = rw c.self.view_is c.requires.within in
    rw (← c.self.view_is) (rects_at_places c.self.inside.shapes.now c.self.inside.numbers.now c.args.places.now
    c.in_ok-numbers.numbers.items _ c.self.invariant within c.in_ok-numbers.ensures
    (rw c.as_slice.ensures.value at c.in_ok-index.ensures))
