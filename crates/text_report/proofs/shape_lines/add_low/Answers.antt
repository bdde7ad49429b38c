use Rattle.std.proofs.Common.{◌≡◌, ◌∙◌, ap, rules, w64, to_z, of_z}
use Rattle.std.proofs.lemmas.Int.{to_z-of_z}
use Rattle.geom.specs.Rectangle.{Rectangle}
use Rattle.text_report.proofs.shape_lines.add_low.Goals as goal

pub returns : goal.returns
returns c =
    let x : to_z w64 (of_z w64 c.rect.inside.x0) ≡ c.rect.inside.x0 = search (rules, to_z-of_z) in
    let y : to_z w64 (of_z w64 c.rect.inside.y0) ≡ c.rect.inside.y0 = search (rules, to_z-of_z) in
    rw (x ∙ ap (λ (r : Rectangle). r.x0) c.rect.view_is, y ∙ ap (λ (r : Rectangle). r.y0) c.rect.view_is)
    at c.add_point.ensures
