use Rattle.std.proofs.Common.{◌≡◌, ◌∙◌, refl, sym, ap, subst, rules, ℤ, w64, to_z, of_z}
use Rattle.std.specs.Int.{int_min, int_max}
use Rattle.std.proofs.lemmas.Int.{to_z-of_z}
use Rattle.geom.specs.Rectangle.{Rectangle, IsProper}
use Rattle.text_report.specs.Outline.{joined}
use Rattle.text_report.proofs.Outlines.{joined_proper, rectangle_is}
use Rattle.text_report.proofs.frames.joined.Goals as goal

x0_is : (c : goal.After-max-2) → to_z w64 (of_z w64 c.min.result) ≡ int_min c.args.a.now.x0 c.args.b.now.x0
x0_is c =
    let whole : to_z w64 (of_z w64 c.min.result) ≡ c.min.result = search (rules, to_z-of_z) in
    let a : to_z w64 (of_z w64 c.a.inside.x0) ≡ c.a.inside.x0 = search (rules, to_z-of_z) in
    let b : to_z w64 (of_z w64 c.b.inside.x0) ≡ c.b.inside.x0 = search (rules, to_z-of_z) in
    whole ∙ (c.min.ensures.value ∙ (ap (λ (x : ℤ). int_min x (to_z w64 (of_z w64 c.b.inside.x0)))
    (a ∙ ap (λ (r : Rectangle). r.x0) c.a.view_is)
    ∙ ap (int_min c.args.a.now.x0) (b ∙ ap (λ (r : Rectangle). r.x0) c.b.view_is)))

y0_is : (c : goal.After-max-2) → to_z w64 (of_z w64 c.min-2.result) ≡ int_min c.args.a.now.y0 c.args.b.now.y0
y0_is c =
    let whole : to_z w64 (of_z w64 c.min-2.result) ≡ c.min-2.result = search (rules, to_z-of_z) in
    let a : to_z w64 (of_z w64 c.a.inside.y0) ≡ c.a.inside.y0 = search (rules, to_z-of_z) in
    let b : to_z w64 (of_z w64 c.b.inside.y0) ≡ c.b.inside.y0 = search (rules, to_z-of_z) in
    whole ∙ (c.min-2.ensures.value ∙ (ap (λ (x : ℤ). int_min x (to_z w64 (of_z w64 c.b.inside.y0)))
    (a ∙ ap (λ (r : Rectangle). r.y0) c.a.view_is)
    ∙ ap (int_min c.args.a.now.y0) (b ∙ ap (λ (r : Rectangle). r.y0) c.b.view_is)))

x1_is : (c : goal.After-max-2) → to_z w64 (of_z w64 c.max.result) ≡ int_max c.args.a.now.x1 c.args.b.now.x1
x1_is c =
    let whole : to_z w64 (of_z w64 c.max.result) ≡ c.max.result = search (rules, to_z-of_z) in
    let a : to_z w64 (of_z w64 c.a.inside.x1) ≡ c.a.inside.x1 = search (rules, to_z-of_z) in
    let b : to_z w64 (of_z w64 c.b.inside.x1) ≡ c.b.inside.x1 = search (rules, to_z-of_z) in
    whole ∙ (c.max.ensures.value ∙ (ap (λ (x : ℤ). int_max x (to_z w64 (of_z w64 c.b.inside.x1)))
    (a ∙ ap (λ (r : Rectangle). r.x1) c.a.view_is)
    ∙ ap (int_max c.args.a.now.x1) (b ∙ ap (λ (r : Rectangle). r.x1) c.b.view_is)))

y1_is : (c : goal.After-max-2) → to_z w64 (of_z w64 c.max-2.result) ≡ int_max c.args.a.now.y1 c.args.b.now.y1
y1_is c =
    let whole : to_z w64 (of_z w64 c.max-2.result) ≡ c.max-2.result = search (rules, to_z-of_z) in
    let a : to_z w64 (of_z w64 c.a.inside.y1) ≡ c.a.inside.y1 = search (rules, to_z-of_z) in
    let b : to_z w64 (of_z w64 c.b.inside.y1) ≡ c.b.inside.y1 = search (rules, to_z-of_z) in
    whole ∙ (c.max-2.ensures.value ∙ (ap (λ (x : ℤ). int_max x (to_z w64 (of_z w64 c.b.inside.y1)))
    (a ∙ ap (λ (r : Rectangle). r.y1) c.a.view_is)
    ∙ ap (int_max c.args.a.now.y1) (b ∙ ap (λ (r : Rectangle). r.y1) c.b.view_is)))

made_is : (c : goal.After-max-2) (r : Rectangle) → r.x0 ≡ to_z w64 (of_z w64 c.min.result)
    → r.y0 ≡ to_z w64 (of_z w64 c.min-2.result) → r.x1 ≡ to_z w64 (of_z w64 c.max.result)
    → r.y1 ≡ to_z w64 (of_z w64 c.max-2.result) → r ≡ joined c.args.a.now c.args.b.now
made_is c r x0 y0 x1 y1 =
    rectangle_is r (joined c.args.a.now c.args.b.now) (x0 ∙ x0_is c) (y0 ∙ y0_is c) (x1 ∙ x1_is c) (y1 ∙ y1_is c)

pub invariant_of-result : goal.invariant_of-result
invariant_of-result c =
    subst IsProper (sym (made_is c _ refl refl refl refl))
    (joined_proper c.args.a.now c.args.b.now c.known.ensures)

pub returns : goal.returns
returns c = made_is c _ refl refl refl refl
