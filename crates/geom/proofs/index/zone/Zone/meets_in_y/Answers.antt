use Rattle.std.proofs.Common.{◌≡◌, rules, FitsSigned, w64, int_le}
use Rattle.std.proofs.lemmas.Int.{to_z-of_z}
use Rattle.geom.proofs.Zones.{upper_decides, lower_decides}
use Rattle.geom.proofs.index.zone.Zone.meets_in_y.Goals as goal

pub returns-then-at_most : goal.returns-then-at_most
returns-then-at_most c =
    let fits0 : FitsSigned w64 c.args.other.now.y0 = search rules in
    let fits1 : FitsSigned w64 c.args.other.now.y1 = search rules in
    let low_is : c.at_most.result ≡ int_le c.args.self.now.bottom c.args.other.now.y1 = search (rules, to_z-of_z) in
    let high_is : c.at_most-then-at_most.result ≡ int_le c.args.other.now.y0 c.args.self.now.top =
    search (rules, to_z-of_z) in
    upper_decides _ _ _ _ _ _ _ c.args.self.now.bottom_so c.args.self.now.top_so fits1 _ _ fits0 low_is
    c.if-at_most.true high_is

pub returns-else-at_most : goal.returns-else-at_most
returns-else-at_most c =
    let fits1 : FitsSigned w64 c.args.other.now.y1 = search rules in
    let low_is : c.at_most.result ≡ int_le c.args.self.now.bottom c.args.other.now.y1 = search (rules, to_z-of_z) in
    lower_decides _ _ _ _ _ _ _ c.args.self.now.bottom_so c.args.self.now.top_so fits1 _ low_is c.if-at_most.false
