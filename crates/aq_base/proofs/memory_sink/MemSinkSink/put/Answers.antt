use Rattle.std.proofs.Common.{rules}
use Rattle.aq_base.proofs.Printed.{kept_prints_part}
use Rattle.aq_base.proofs.memory_sink.MemSinkSink.put.Goals as goal
use Rattle.aq_base.proofs.memory_sink.MemSinkSink.put.Goals.{in-Some, in-None}

pub returns-then-is_some-clause-part : goal.returns-then-is_some-clause-part
returns-then-is_some-clause-part c = elim c.match-keep.branch [
  | in-Some w ↦ kept_prints_part _ c.appended.new.self.events _ c.args.piece.now w.kept-taken.result.now w.in-Some.keep _
      (search rules) (search rules) (search rules)
  | in-None w ↦ search rules
]
