use Rattle.std.proofs.Common.{subst}
use Rattle.blif_read.specs.Reads.{SaysText}
use Rattle.blif_read.specs.declared.texts.ReadText.{ReadText}
use Rattle.blif_flat.proofs.Building.{few_models, says_plain, says_design, refuses_design, some_models, if_ok, if_err}
use Rattle.blif_flat.proofs.Building.{models_at}
use Rattle.blif_flat.proofs.ExpandedParts.{said_parts}
use Rattle.blif_flat.proofs.reading.net_said.Goals as goal

pub returns-in-Plain-clause-ok : goal.returns-in-Plain-clause-ok
returns-in-Plain-clause-ok c = let h =
    subst (λ (r : ReadText). SaysText c.args.text.now r) c.in-Plain.is c.requires.said in says_plain
    c.args.text.now c.in-Plain.net h.0 h.1

pub net_of-requires-clause-some : goal.net_of-requires-clause-some
net_of-requires-clause-some c = let h = models_at c.args.text.now c.args.read c.in-Design.models c.as_slice.result.now
    c.requires.said c.in-Design.is c.as_slice.ensures in some_models c.args.text.now c.as_slice.result.now h.1

pub net_of-requires-clause-few : goal.net_of-requires-clause-few
net_of-requires-clause-few c = let h = models_at c.args.text.now c.args.read c.in-Design.models c.as_slice.result.now
    c.requires.said c.in-Design.is c.as_slice.ensures in few_models c.args.text.now
    c.as_slice.result.now c.requires.few h.1

pub net_of-requires-clause-parts : goal.net_of-requires-clause-parts
net_of-requires-clause-parts c = let h = models_at c.args.text.now c.args.read c.in-Design.models c.as_slice.result.now
    c.requires.said c.in-Design.is c.as_slice.ensures in said_parts c.args.text.now
    c.as_slice.result.now c.requires.few h.1

pub returns-in-Design-clause-ok : goal.returns-in-Design-clause-ok
returns-in-Design-clause-ok c =
    let h = models_at c.args.text.now c.args.read c.in-Design.models c.as_slice.result.now c.requires.said
    c.in-Design.is c.as_slice.ensures in
    if_ok _ _ c.net_of.result
    (λ net says. says_design c.args.text.now c.as_slice.result.now net h.0 h.1 says) c.net_of.ensures.ok

pub returns-in-Design-clause-err : goal.returns-in-Design-clause-err
returns-in-Design-clause-err c =
    let h = models_at c.args.text.now c.args.read c.in-Design.models c.as_slice.result.now c.requires.said
    c.in-Design.is c.as_slice.ensures in
    if_err _ _ c.net_of.result
    (λ refusal is. refuses_design c.args.text.now c.as_slice.result.now refusal h.0 h.1 is) c.net_of.ensures.err
