use Rattle.std.proofs.Common.{rules, ◌≢◌, [], inl, inr}
use Rattle.std.proofs.lemmas.List.{nil_from_length}
use Rattle.aq_base.specs.Decimal.{HasLeadingZero, IsUnreadable}
use Rattle.aq_base.proofs.Decimals.{refused_text, answer_read}
use Rattle.aq_base.proofs.decimal.read_decimal.Goals as goal
use Rattle.aq_base.proofs.decimal.read_decimal.Goals.{then-is_empty-via-then-is_empty}
use Rattle.aq_base.proofs.decimal.read_decimal.Goals.{then-is_empty-via-else-is_empty+then-has_leading_zero}

pub returns-then-is_empty-clause-read : goal.returns-then-is_empty-clause-read
returns-then-is_empty-clause-read c = λ number fits e.
    let unreadable : IsUnreadable c.args.text.now =
    elim c.then-is_empty.branch [
      | then-is_empty-via-then-is_empty w ↦ inl
          (nil_from_length c.args.text.now (search rules))
      | then-is_empty-via-else-is_empty+then-has_leading_zero w ↦
          let zero : HasLeadingZero c.args.text.now = search rules in inr (inr (inl zero))
    ] in
    refused_text c.args.text.now number unreadable fits e

pub returns-clause-read : goal.returns-clause-read
returns-clause-read c = λ number fits e.
    let some : c.args.text.now ≢ [] = search rules in
    let zero : ¬ HasLeadingZero c.args.text.now = search rules in
    answer_read c.args.text.now c.digits_number.result number some zero c.digits_number.ensures.digits
    c.digits_number.ensures.none fits e
