use Rattle.std.proofs.Common.{◌≡◌, ◌<◌, ◌^◌, ℕ, length, arith, sym, subst, OnOk, IfOk, refl}
use Rattle.maj_mapping.specs.Code.MakerView.{with_gates}
use Rattle.maj_mapping.specs.Operations.{Made}
use Rattle.maj_mapping.specs.Covers.{join}
use Rattle.maj_mapping.proofs.Halving.{fold_whole, first_room, second_room}
use Rattle.maj_mapping.proofs.maker.Maker.+fold.Goals as goal

pub returns-clause-gates : goal.returns-clause-gates
returns-clause-gates t c =
    let w = fold_whole c.args.which c.args.self.now _ _ _ c.args.operands.now _ _ _ _
    (omega arith) refl c.split_at.ensures.front c.split_at.ensures.back c.in_ok-first.ensures.gates
    c.in_ok-first.ensures.at c.in_ok-second.ensures.gates c.in_ok-second.ensures.at in
    subst (λ (g : Made). OnOk c.join.result (c.join.new.self ≡ with_gates c.args.self.now g.gates)) w.0
    (subst (λ (i : ℕ). OnOk c.join.result
    (c.join.new.self ≡ record {
      inputs = i;
      gates =
          (join c.args.which c.fold-2.new.self.inputs c.fold-2.new.self.gates c.in_ok-first.first
          c.in_ok-second.second).gates;
    })) w.1 c.join.ensures.gates)

pub returns-clause-at : goal.returns-clause-at
returns-clause-at t c =
    let w = fold_whole c.args.which c.args.self.now _ _ _ c.args.operands.now _ _ _ _
    (omega arith) refl c.split_at.ensures.front c.split_at.ensures.back c.in_ok-first.ensures.gates
    c.in_ok-first.ensures.at c.in_ok-second.ensures.gates c.in_ok-second.ensures.at in
    subst (λ (g : Made). IfOk c.join.result (λ r. r ≡ g.at)) w.0 c.join.ensures.at

pub fold-requires : goal.fold-requires
fold-requires t c = (
  let a = c.split_at.ensures.front_len in let b = c.if-operands-eq1.false in let d =
      c.if-operands-eq0.false in omega arith,
  first_room c.args.which c.args.self.now _ _ c.args.operands.now _
      (omega arith) refl c.split_at.ensures.front c.requires,
)

pub fold-requires-2 : goal.fold-requires-2
fold-requires-2 t c = (
  let a = c.split_at.ensures.back_len in let b = c.if-operands-eq1.false in let d =
      c.if-operands-eq0.false in omega arith,
  second_room c.args.which c.args.self.now _ _ _ c.args.operands.now _ _
      (omega arith) refl c.split_at.ensures.front c.split_at.ensures.back c.in_ok-first.ensures.gates c.requires,
)

pub join-requires : goal.join-requires
join-requires t c =
    let w = fold_whole c.args.which c.args.self.now _ _ _ c.args.operands.now _ _ _ _
    (omega arith) refl c.split_at.ensures.front c.split_at.ensures.back c.in_ok-first.ensures.gates
    c.in_ok-first.ensures.at c.in_ok-second.ensures.gates c.in_ok-second.ensures.at in
    subst (λ (g : Made). length g.gates < 2 ^ 32) (sym w.0) c.requires
