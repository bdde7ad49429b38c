use Rattle.std.proofs.Common.{◌≡◌, sym, subst}
use Rattle.std.specs.Option.{MatchOption}
use Rattle.gds_records.specs.Language.{Language, Nothing}
use Rattle.gds_read.specs.Code.Places.{IsAt}
use Rattle.gds_read.proofs.SequenceLaws.{goes_on, goes_past, may_not}
use Rattle.gds_read.proofs.place.next.Goals as goal

pub returns-in-On : goal.returns-in-On
returns-in-On c = goes_on c.args.kind c.args.place c.follow.result c.requires c.follow.ensures c.in-On.left c.in-On.is

pub returns-in-Past : goal.returns-in-Past
returns-in-Past c =
    subst (λ (l : Language). MatchOption c.next_at.result (l ≡ Nothing) (IsAt l))
    (sym (goes_past c.args.kind c.args.place c.follow.result c.requires c.follow.ensures c.in-Past.is))
    c.next_at.ensures

pub returns-in-Barred : goal.returns-in-Barred
returns-in-Barred c = may_not c.args.kind c.args.place c.follow.result c.requires c.follow.ensures c.in-Barred.is
