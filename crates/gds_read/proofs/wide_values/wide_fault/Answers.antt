use Rattle.std.proofs.Common.{sym, ap, ◌∙◌, ℕ, Bool, true, None, rules}
use Rattle.std.proofs.lemmas.Result.{IfOk-weaker}
use Rattle.gds_records.specs.declared.fault.StreamKind.TheVariants.{Value}
use Rattle.gds_records.specs.Records.{record_with}
use Rattle.gds_records.specs.Values.{rule}
use Rattle.gds_records.specs.WideValues.{wide_fault_in}
use Rattle.gds_read.proofs.wide_values.wide_fault.Goals as goal

pub returns-in-16 : goal.returns-in-16
returns-in-16 c =
    IfOk-weaker c.xy_fault.result _ _
    (λ fault h form. h form c.args.taken
    ∙ ap (λ (k : ℕ). wide_fault_in c.args.element c.args.colrow.now c.args.taken
    (record_with k form c.args.content.now)) (sym c.in-16.is))
    c.xy_fault.ensures

pub returns-in_default : goal.returns-in_default
returns-in_default c form =
    c.unless-in_default.ensures ∙ ap (λ (b : Bool). rule true b Value None) (c.is_value.ensures form)
    ∙ sym (search rules)
