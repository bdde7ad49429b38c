use Rattle.repeater_rows.proofs.LimitLaws.{rows_fit, rows_within, first_past, past_first, given_few, refused_past}
use Rattle.repeater_rows.proofs.laws.repeaters_count.Goals as goal

pub returns : goal.returns
returns c = record {
  within = rows_fit;
  few = rows_within;
  first = first_past;
  past = past_first;
  given = given_few;
  refused = refused_past;
}
