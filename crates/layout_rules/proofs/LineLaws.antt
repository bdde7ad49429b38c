-- Laws of excitation lines.
use Rattle.std.proofs.Common.{◌≡◌, ℕ, ◌&&◌, true, List, sym, ap, ◌∙◌, eq-eqb, ◌==◌}
use Rattle.std.proofs.lemmas.Bool.{eqb-true, and_parts, and_from}
use Rattle.geom.specs.declared.shapes.Shape.{Shape}
use Rattle.geom.specs.Rectangle.{share_point}
use Rattle.layout_rules.specs.Layers.{is_line}
use Rattle.layout_rules.proofs.NetLaws.{share_point_comm}
use Rattle.layout_rules.specs.ExcitationLines.{meet, Contact}

pub meet_back : (a b : Shape) → meet a b ≡ true → meet b a ≡ true
meet_back a b h =
    let both : ((is_line a && a.layer == b.layer) ≡ true)
    × (share_point a.rect b.rect ≡ true) = and_parts (is_line a && a.layer == b.layer)
    (share_point a.rect b.rect) h in
    let line : (is_line a ≡ true) × ((a.layer == b.layer) ≡ true) = and_parts (is_line a) (a.layer == b.layer) both.0 in
    let same : a.layer ≡ b.layer = eqb-true a.layer b.layer line.1 in
    let on_line : is_line b ≡ true = ap (λ (l : ℕ). is_line (record a { layer = l })) (sym same) ∙ line.0 in
    and_from (is_line b && b.layer == a.layer) (share_point b.rect a.rect)
    (and_from (is_line b) (b.layer == a.layer) on_line (eq-eqb b.layer a.layer (sym same)))
    (share_point_comm b.rect a.rect ∙ both.1)

pub Contact-back : {shapes : List Shape} {i j : ℕ} → Contact shapes i j → Contact shapes j i
Contact-back k = record {
  apart = λ e. k.apart (sym e);
  first = k.second;
  second = k.first;
  first_is = k.second_is;
  second_is = k.first_is;
  meet_so = meet_back k.first k.second k.meet_so;
}
