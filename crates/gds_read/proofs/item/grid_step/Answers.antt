use Rattle.std.proofs.Common.{◌≡◌, ℕ, suc, ◌+◌, ◌-ℤ◌, pos, FitsSigned, ap, ◌∙◌, arith, rules}
use Rattle.std.specs.Prelude.{int_div}
use Rattle.std.specs.Int.{w64}
use Rattle.gds_records.specs.Drawing.{coordinate}
use Rattle.gds_read.proofs.Moving.{kept_is}
use Rattle.gds_read.proofs.WideFields.{passed}
use Rattle.gds_read.proofs.item.grid_step.Goals as goal

pub returns-clause-y : goal.returns-clause-y
returns-clause-y c =
    let xy = c.args.xy.now in
    let fits : FitsSigned w64 c.step_along-2.result = search rules in
    let next : c.args.i + 1 ≡ suc c.args.i = omega arith in
    let there = c.narrow-4.ensures ∙ ap (λ (k : ℕ). coordinate xy k) next in
    kept_is c.step_along-2.result fits ∙ c.step_along-2.ensures
    ∙ (λ k. int_div (passed xy (λ i. omega (arith, c.type_inv.xy i)) (suc c.args.i) _ there k
    -ℤ passed xy (λ i. omega (arith, c.type_inv.xy i)) 1 _ c.narrow-3.ensures k) (pos c.args.count))
