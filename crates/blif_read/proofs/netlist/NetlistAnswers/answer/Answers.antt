use Rattle.blif_read.proofs.Evaluated.{shown_answers}
use Rattle.blif_read.proofs.netlist.NetlistAnswers.answer.Goals as goal

pub returns : goal.returns
returns c = shown_answers c.shown.result _ _ _ _ _ _ _ _ c.self.invariant.0 c.self.view_is c.as_slice-defs.ensures
    c.as_slice-3.ensures c.as_slice-2.ensures c.deref.ensures.value c.in_ok-values.ensures c.shown.ensures
