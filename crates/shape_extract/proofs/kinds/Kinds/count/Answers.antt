use Rattle.std.proofs.Common.{◌≡◌, length, sym}
use Rattle.shape_extract.specs.Distinct.{kinds_at}
use Rattle.shape_extract.proofs.StandIns.{kinds_are_at}
use Rattle.shape_extract.proofs.kinds.Kinds.count.Goals as goal

pub returns : goal.returns
returns c =
    let long : length (kinds_at c.self.inside.shapes.now c.self.inside.numbers.now) ≡ length c.self.inside.numbers.now =
    (kinds_are_at _ _ c.self.invariant).long in
    rw (← c.self.view_is) (sym long)
