use Rattle.gds_read.proofs.WideExact.{none_taken, by_size, by_fault, not_read_large, not_read_faulty}
use Rattle.gds_read.proofs.laws.wide_reading_is_exact.Goals as goal

pub returns : goal.returns
returns c =
    let found = c.one_wide_reading.ensures.layout in
    let none = c.one_wide_reading.ensures.no_fault in
    let fault = c.one_wide_reading.ensures.one_fault in
    record {
      taken = none_taken found none fault;
      large = by_size found none fault;
      faulty = by_fault found none fault;
      unread_large = not_read_large found none fault;
      unread_faulty = not_read_faulty found none fault;
    }
