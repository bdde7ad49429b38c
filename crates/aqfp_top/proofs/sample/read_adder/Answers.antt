use Rattle.std.proofs.Common.{◌≡◌, IfErr, subst}
use Rattle.sample_adder.specs.Adder.{adder}
use Rattle.aqfp_top.specs.Designs.{IsPlainFault}
use Rattle.aqfp_top.specs.Code.Staging.{OrMemory}
use Rattle.aqfp_top.proofs.sample.read_adder.Goals as goal

pub returns-clause-bad : goal.returns-clause-bad
returns-clause-bad c =
    let is : c.deref.result.now ≡ adder c.args.bits =
    (let a = c.deref.ensures.value in let b = c.in-Ok.ensures in cc) in
    subst (λ text. IfErr c.read_plain.result (OrMemory (IsPlainFault text))) is c.read_plain.ensures.bad
