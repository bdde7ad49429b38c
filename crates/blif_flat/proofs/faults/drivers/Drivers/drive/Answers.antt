use Rattle.std.proofs.Common.{◌∙◌, ap}
use Rattle.blif_flat.specs.Code.Joining.{lower, again, least_of}
use Rattle.blif_flat.proofs.DrivenLines.{driven_one}
use Rattle.blif_flat.proofs.faults.drivers.Drivers.drive.Goals as goal

pub returns : goal.returns
returns c = driven_one c.args.self.now.lines.entries c.insert.new.self.entries c.args.name c.args.line c.lower.result
    c.args.self.now.told c.again-self.result
    (c.lower.ensures ∙ ap (λ o. lower o c.args.line) c.line_of-earlier.ensures) c.in_ok-insert.ensures.updates.0
    (c.again-self.ensures ∙ ap (λ o. least_of c.args.self.now.told (again o c.args.line)) c.line_of-earlier.ensures)
