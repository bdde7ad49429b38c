use Rattle.std.proofs.Common.{◌≡◌, length}
use Rattle.repeater_rows.proofs.Makes.{AreCounting}
use Rattle.repeater_rows.proofs.counting.count_rounds.Given as goal

abbrev pub invariant-loop : goal.invariant-loop
invariant-loop l = record {
  square : l.count ≡ length l.fn.channel.sources.items;
  counting : AreCounting (record { reach = l.reach; channel = l.fn.channel }) l.before
      (record { done = l.counter; first = l.first; channel = l.channel }) l.cells;
}
