use Rattle.std.proofs.Common.{◌≡◌, ℕ, ◌*◌, ◌<◌, ◌∙◌, sym, subst, arith, rules, length}
use Rattle.repeater_rows.proofs.Makes.{IsRound}
use Rattle.repeater_rows.proofs.RoundsLeft.{none_last}
use Rattle.repeater_rows.proofs.Counted.{counting_first, counting_all, counting_near, counting_step, counting_over, IsFit, IsOver}
use Rattle.repeater_rows.proofs.counting.count_rounds.Goals as goal

pub loop-init : goal.loop-init
loop-init c = record {
  square = (search rules) ∙ c.requires.known.long;
  counting = counting_first (record { reach = c.args.reach; channel = c.args.channel.now }) c.args.before
      c.requires.known c.requires.few;
}

pub is_far-requires : goal.is_far-requires
is_far-requires c = (_, c.loop.invariant.counting.stage.known)

pub round-requires-clause-known : goal.round-requires-clause-known
round-requires-clause-known c = (_, c.loop.invariant.counting.stage.known)

pub returns-then-not-is_far-clause-ok : goal.returns-then-not-is_far-clause-ok
returns-then-not-is_far-clause-ok c = counting_near _ _ _ _ c.loop.invariant.counting
    (sym c.is_far.ensures ∙ c.if-not-is_far.true)

pub loop-preserved : goal.loop-preserved
loop-preserved c =
    let turn : IsRound (record { reach = c.args.reach; channel = c.args.channel.now })
    (record { done = c.loop.counter; first = c.loop.first; channel = c.loop.channel }) c.round.new.self = record {
      ahead = subst (λ (k : ℕ). c.loop.counter < k * k) c.loop.invariant.square c.loop-test.true;
      far = sym c.is_far.ensures ∙ c.if-not-is_far.false;
      turns = c.in_ok-round.ensures;
    } in
    let size : c.len.result ≡ length c.round.new.self.carriers.items = search rules in
    record {
      square = c.loop.invariant.square;
      counting = counting_step _ _ _ _ c.loop.invariant.counting c.round.new.self turn _
          (subst (λ (n : ℕ). IsFit c.loop.cells n c.in_ok-cells.cells) size c.in_ok-cells.ensures.ok);
    }

pub returns-in_err-cells-clause-err : goal.returns-in_err-cells-clause-err
returns-in_err-cells-clause-err c =
    let turn : IsRound (record { reach = c.args.reach; channel = c.args.channel.now })
    (record { done = c.loop.counter; first = c.loop.first; channel = c.loop.channel }) c.round.new.self = record {
      ahead = subst (λ (k : ℕ). c.loop.counter < k * k) c.loop.invariant.square c.loop-test.true;
      far = sym c.is_far.ensures ∙ c.if-not-is_far.false;
      turns = c.in_ok-round.ensures;
    } in
    let size : c.len.result ≡ length c.round.new.self.carriers.items = search rules in
    let all = counting_over _ _ _ _ c.loop.invariant.counting c.round.new.self turn _
    (subst (λ (n : ℕ). IsOver c.loop.cells n c.in_err-cells.field-0.0) size c.in_err-cells.ensures.err) in
    search (rules, all)

pub returns-clause-ok : goal.returns-clause-ok
returns-clause-ok c = counting_all _ _ _ _ c.loop.invariant.counting
    (none_last _ _ c.loop.invariant.counting.stage c.len-count.result c.loop.invariant.square (omega arith))
