use Rattle.std.proofs.Common.{◌≡◌, arith, refl}
use Rattle.case_tables.specs.Formulas.{write}
use Rattle.case_tables.specs.Tables.{two_formula, two_formulas}
use Rattle.case_tables.proofs.three.write_two.Goals as goal

pub returns-in_default-clause-steps : goal.returns-in_default-clause-steps
unfolding write two_formula two_formulas
returns-in_default-clause-steps c = let e : c.args.number ≡ 15 = omega arith in rw e refl

pub returns-in_default-clause-out : goal.returns-in_default-clause-out
unfolding write two_formula two_formulas
returns-in_default-clause-out c = let e : c.args.number ≡ 15 = omega arith in rw e refl
