use Rattle.std.proofs.Common.{◌≡◌, length}
use Rattle.repeater_rows.specs.Code.Works.{listed}
use Rattle.repeater_rows.proofs.Makes.{AreMade}
use Rattle.repeater_rows.proofs.rows.add_rounds.Given as goal

abbrev pub invariant-loop : goal.invariant-loop
invariant-loop l = record {
  square : l.count ≡ length l.fn.channel.sources.items;
  made : AreMade (record { reach = l.reach; channel = l.fn.channel }) (listed l.fn.made)
      (record { done = l.counter; first = l.first; channel = l.channel }) (listed l.made);
}
