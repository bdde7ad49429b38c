-- What the code knows of a plan before a cell is made, in the words of the plan.
use Rattle.std.specs.Prelude.{◌≤◌, ◌^◌, length}
use Rattle.level_balance.specs.declared.laying.Outline.{Outline}
use Rattle.level_balance.specs.Plan.{Frame}
use Rattle.level_balance.specs.Code.Chained.{AreLinks}
use Rattle.level_balance.specs.Code.Served.{IsAtMost}

-- what is fixed before a cell is made, as the code has it
abbrev pub frame_of : Outline → Frame
frame_of o = record {
  inputs = o.inputs;
  base = o.base;
  marks = o.marks.items;
  uses = o.uses.items;
  levels = o.levels.items;
  last = o.last;
  user_rows = o.user_rows.items;
}

-- splitters have two or three outputs, the chains are those of the uses, and numbers are far below what a word holds
pub record IsReady (o : Outline) : Type 0 where
  pub base_low : 2 ≤ o.base
  pub base_high : o.base ≤ 3
  pub links : AreLinks o.links.first.items o.links.next.items o.links.fans.items
      (length o.links.first.items) o.uses.items
  pub levels : IsAtMost (2 ^ 39) o.levels.items
  pub last : o.last ≤ 2 ^ 41
  pub user_rows : IsAtMost (2 ^ 41) o.user_rows.items
  pub fans : IsAtMost (2 ^ 40) o.links.fans.items
