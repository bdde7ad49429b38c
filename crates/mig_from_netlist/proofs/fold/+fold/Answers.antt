use Rattle.std.proofs.Common.{arith, subst, sym}
use Rattle.std.proofs.lemmas.List.{nil_from_length}
use Rattle.mig.specs.Building.{AllThere}
use Rattle.mig.proofs.Built.{gives_later, grown_then}
use Rattle.mig_from_netlist.proofs.GateValues.{result_same}
use Rattle.mig_from_netlist.proofs.Decomposing.{there_later}
use Rattle.mig_from_netlist.proofs.Joining.{gives_none_joined, fold_value, split_whole, there_drop}
use Rattle.mig_from_netlist.proofs.fold.+fold.Goals as goal

pub returns-then-literals-eq0-clause-given : goal.returns-then-literals-eq0-clause-given
returns-then-literals-eq0-clause-given t c =
    gives_none_joined c.args.builder.now c.args.which c.none_joined.result c.args.literals.now
    (nil_from_length c.args.literals.now c.if-literals-eq0.true) c.none_joined.ensures

pub fold-requires-2 : goal.fold-requires-2
fold-requires-2 t c = (
  let a = c.split_at.ensures.back_len in let b = c.if-literals-eq1.false in let d = c.if-literals-eq0.false in
      omega arith,
  there_later c.args.builder.now c.fold.new.builder c.split_at.result.1.now c.in_ok-first.ensures.grown
      (subst (AllThere c.args.builder.now) (sym c.split_at.ensures.back)
      (there_drop c.args.builder.now _ c.args.literals.now c.requires)),
)

pub returns-clause-given : goal.returns-clause-given
returns-clause-given t c = result_same c.join_two.result c.join_two.new.builder _ _
    (fold_value c.args.which c.join_two.new.builder c.args.literals.now c.split_at.result.0.now c.split_at.result.1.now
    (split_whole _ _ _ _ c.split_at.ensures.front c.split_at.ensures.back)
    (gives_later _ _ _ _ (grown_then _ _ _ c.in_ok-second.ensures.grown c.join_two.ensures.grown)
    c.in_ok-first.ensures.given)
    (gives_later _ _ _ _ c.join_two.ensures.grown c.in_ok-second.ensures.given))
    c.join_two.ensures.given
