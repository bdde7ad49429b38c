use Rattle.std.proofs.Common.{◌∙◌, arith}
use Rattle.aq_base.proofs.Passing.{appends-next, appends-again, slice-length}
use Rattle.aq_base.proofs.Acting.{wrote-next}
use Rattle.aq_base.proofs.std_sink.write_all.Goals as goal
use Rattle.aq_base.proofs.std_sink.write_all.Goals.{in-Bytes, in-Again}

pub loop-preserved : goal.loop-preserved
loop-preserved g c = elim c.match-write.branch [
  | in-Bytes w ↦ record {
    within = omega (
      arith,
      w.done-is,
      w.in-Bytes.ensures.fits,
      slice-length c.loop.done c.args.piece.now,
      c.loop.invariant.within,
    );
    calls = rw w.done-is (wrote-next _ _ _ c.loop.done w.in-Bytes.count c.args.piece.now c.loop.invariant.within
        c.loop.invariant.calls w.in-Bytes.ensures.noted);
    written = rw w.done-is (appends-next _ _ _ c.loop.done w.in-Bytes.count c.args.piece.now c.loop.invariant.within
        c.loop.invariant.written w.in-Bytes.ensures.passes);
  }
  | in-Again w ↦ record {
    within = omega (arith, w.done-is, c.loop.invariant.within);
    calls = rw w.done-is (w.in-Again.ensures.noted ∙ c.loop.invariant.calls);
    written = rw w.done-is (appends-again _ _ _ _ c.loop.invariant.written w.in-Again.ensures.passes);
  }
]
