use Rattle.std.proofs.Common.{ap, arith}
use Rattle.std.specs.Option.{option_copied}
use Rattle.blif_read.proofs.Passing.{passing_none, passing_on, passed_all, less_behind, fits_behind}
use Rattle.blif_read.proofs.lines.pass_lines.Goals as goal

pub lines-init : goal.lines-init
lines-init c = record {
  later = omega arith;
  fits = omega arith;
  passing = passing_none c.args.number c.args.text.now;
}

pub lines-preserved : goal.lines-preserved
lines-preserved c =
    let less = less_behind c.content_of-goes_on.result.1 c.uncommented_line.result.1 _ _ c.in-Some.text.now
    c.uncommented_line.ensures.shorter c.behind.ensures (ap option_copied c.in-Some.is) in
    let fits = c.lines.invariant.fits in
    let later = c.lines.invariant.later in record {
      later = omega arith;
      fits = omega arith;
      passing = passing_on _ _ _ _ _ c.lines.invariant.passing _ _ _ _ c.uncommented_line.ensures.first
          c.content_of-goes_on.ensures.content c.content_of-goes_on.ensures.goes_on _ c.behind.ensures
          _ c.any_token-any.ensures
          c.in-Some.text.now (ap option_copied c.in-Some.is);
    }

pub lines-smaller : goal.lines-smaller
lines-smaller c = less_behind c.content_of-goes_on.result.1 c.uncommented_line.result.1 _ _ c.in-Some.text.now
    c.uncommented_line.ensures.shorter c.behind.ensures (ap option_copied c.in-Some.is)

pub returns-in-None-clause-passed : goal.returns-in-None-clause-passed
returns-in-None-clause-passed c =
    passed_all _ _ _ _ _ c.lines.invariant.passing _ _ _ _ c.uncommented_line.ensures.first
    c.content_of-goes_on.ensures.content c.content_of-goes_on.ensures.goes_on _ c.behind.ensures
    _ c.any_token-any.ensures
    (ap option_copied c.in-None.is)

pub returns-in-None-clause-size : goal.returns-in-None-clause-size
returns-in-None-clause-size c =
    fits_behind c.uncommented_line.result.1 _ c.lines.next _ c.uncommented_line.ensures.shorter c.lines.invariant.fits
