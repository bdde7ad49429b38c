use Rattle.std.proofs.Common.{◌≡◌, List, ℕ, ap, ◌∙◌}
use Rattle.std.proofs.lemmas.Result.{IfOk-weaker}
use Rattle.gds_records.specs.Profiled.{kind_of, form_of}
use Rattle.gds_records.specs.Steps.{is_listed}
use Rattle.gds_records.specs.Records.{trimmed}
use Rattle.gds_read.specs.Code.Texts.{texts}
use Rattle.gds_read.proofs.Turns.{data_long, value_is}
use Rattle.gds_read.proofs.scan.value_here.Goals as goal
use Rattle.gds_read.proofs.scan.value_here.Goals.{then-bytes-eq-STRNAME, else-bytes-eq-STRNAME}

pub wide_fault-requires : goal.wide_fault-requires
wide_fault-requires c = data_long c.args.bytes.now _ c.requires c.content-data.ensures

pub returns : goal.returns
returns c =
    let b = c.args.bytes.now in
    let names = texts c.args.names.now.keys in
    let held = c.content-data.result.now in
    let named : kind_of b ≡ 6 → c.if-bytes-eq-STRNAME.taken ≡ is_listed (trimmed held) names
    = elim c.if-bytes-eq-STRNAME.branch [
      | then-bytes-eq-STRNAME w ↦ (λ e. w.taken-is ∙ w.is_taken-taken.ensures
          ∙ ap (λ (t : List ℕ). is_listed t names) w.trimmed.ensures)
      | else-bytes-eq-STRNAME w ↦ (λ e. absurd (w.if-bytes-eq-STRNAME.false e))
    ] in
    IfOk-weaker c.wide_fault.result _ _
    (λ fault h. h (form_of b) ∙ value_is c.args.element c.args.colrow.now names _ b held c.content-data.ensures named)
    c.wide_fault.ensures
