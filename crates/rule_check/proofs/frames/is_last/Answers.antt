use Rattle.std.proofs.Common.{◌≡◌, ◌<◌, length, false, sym, ◌∙◌, arith}
use Rattle.std.specs.Prelude.{◌==◌}
use Rattle.std.proofs.lemmas.Bool.Decides.{nat_tests}
use Rattle.shape_extract.proofs.SameShapes.{same_shape}
use Rattle.rule_check.proofs.Colliding.{last_is}
use Rattle.rule_check.proofs.frames.is_last.Goals as goal

pub returns : goal.returns
returns c e =
    let test : (length c.args.bands.now == 0) ≡ false = sym c.is_empty.ensures ∙ c.if-is_empty.false in
    let some : 0 < length c.args.bands.now = grind (arith, nat_tests) in
    last_is c.args.bands.now c.index-bands-bands.result c.args.band.now some c.index-bands-bands.is
    (same_shape c.index-bands-bands.result c.args.band.now (sym c.eq.ensures ∙ e))
