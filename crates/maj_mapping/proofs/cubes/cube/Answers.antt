use Rattle.std.proofs.Common.{◌≡◌, ◌<◌, ◌^◌, ℕ, length, arith, sym, subst, OnOk, IfOk}
use Rattle.maj_mapping.specs.Code.MakerView.{with_gates}
use Rattle.maj_mapping.specs.declared.maker.Join.TheVariants.{And}
use Rattle.maj_mapping.specs.Operations.{Made}
use Rattle.maj_mapping.specs.Covers.{fold}
use Rattle.maj_mapping.proofs.Cubing.{cube_whole}
use Rattle.maj_mapping.proofs.Growing.{literals_within}
use Rattle.maj_mapping.proofs.cubes.cube.Goals as goal

pub returns-clause-gates : goal.returns-clause-gates
returns-clause-gates c =
    let w = cube_whole c.args.maker.now _ c.args.plane.now c.args.inputs.now _ _ c.in_ok-literals.ensures.gates
    c.in_ok-literals.ensures.all c.deref.ensures.value in
    subst (λ (g : Made). OnOk c.fold.result (c.fold.new.self ≡ with_gates c.args.maker.now g.gates)) w.0
    (subst (λ (i : ℕ). OnOk c.fold.result
    (c.fold.new.self ≡ record {
      inputs = i;
      gates = (fold And c.literals.new.maker.inputs c.literals.new.maker.gates c.deref.result.now).gates;
    }))
    w.1 c.fold.ensures.gates)

pub returns-clause-at : goal.returns-clause-at
returns-clause-at c =
    let w = cube_whole c.args.maker.now _ c.args.plane.now c.args.inputs.now _ _ c.in_ok-literals.ensures.gates
    c.in_ok-literals.ensures.all c.deref.ensures.value in
    subst (λ (g : Made). IfOk c.fold.result (λ r. r ≡ g.at)) w.0 c.fold.ensures.at

pub literals-requires-clause-room : goal.literals-requires-clause-room
literals-requires-clause-room c =
    let within = literals_within c.args.maker.now.inputs c.args.maker.now.gates c.args.inputs.now c.args.plane.now in
    omega (arith, within, c.requires.room)

pub fold-requires : goal.fold-requires
fold-requires c =
    let w = cube_whole c.args.maker.now _ c.args.plane.now c.args.inputs.now _ _ c.in_ok-literals.ensures.gates
    c.in_ok-literals.ensures.all c.deref.ensures.value in
    subst (λ (g : Made). length g.gates < 2 ^ 32) (sym w.0) c.requires.room
