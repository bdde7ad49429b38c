use Rattle.std.proofs.Common.{rules, ℕ, List, length, ◌∙◌, ap}
use Rattle.channel_route.specs.Code.Levels.{top_level}
use Rattle.channel_route.proofs.Raising.{raising_code, raising_all, levels_whole, levels_short, written}
use Rattle.channel_route.proofs.levels.put_entry.Goals as goal

pub loop-level-preserved : goal.loop-level-preserved
loop-level-preserved c = raising_code _ _ _ _ _ _ _ _ _ _ c.loop-level.invariant (search rules)
    c.in_ok-least.ensures.level (search rules)

pub returns-in_ok-push-clause-levels : goal.returns-in_ok-push-clause-levels
returns-in_ok-push-clause-levels c =
    let done = raising_all _ _ _ _ _ _ _ c.loop-level.invariant (search rules) in
    let whole = written c.loop-level.level-items c.args.levels.now.items c.args.levels.now.len (search rules)
    (search rules) in
    levels_short _ _ _ _ _ _ c.from_vec.result c.requires.levels c.requires.index done.0 done.1
    (λ q. c.if-top_len-ne1.true (c.top_len.ensures
    ∙ ap (λ (ls : List (List ℕ)). length (top_level ls)) (c.deref.ensures.value ∙ whole) ∙ q)) (search rules)
    (search rules)

pub returns-else-top_len-ne1-clause-levels : goal.returns-else-top_len-ne1-clause-levels
returns-else-top_len-ne1-clause-levels c =
    let done = raising_all _ _ _ _ _ _ _ c.loop-level.invariant (search rules) in
    levels_whole _ _ _ _ c.requires.levels c.requires.index (written _ _ _ (search rules) (search rules) ∙ done.0)
    (search rules)
