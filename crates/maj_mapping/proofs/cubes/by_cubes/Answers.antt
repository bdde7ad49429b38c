use Rattle.std.proofs.Common.{◌≡◌, ◌<◌, ◌^◌, ℕ, length, arith, sym, subst, OnOk, IfOk}
use Rattle.maj_mapping.specs.Code.MakerView.{with_gates}
use Rattle.maj_mapping.specs.Operations.{Made, inv}
use Rattle.maj_mapping.proofs.Cubing.{any_made, any_inside, any_room, by_cubes_on, by_cubes_off}
use Rattle.maj_mapping.proofs.Growing.{cubes_within}
use Rattle.maj_mapping.proofs.cubes.by_cubes.Goals as goal

pub returns-then-def-clause-gates : goal.returns-then-def-clause-gates
returns-then-def-clause-gates c =
    let m = any_made c.args.maker.now _ _ c.args.inputs.now _ _ c.args.def.now _ _ c.as_slice.ensures
    c.in_ok-cubes.ensures.gates c.in_ok-cubes.ensures.all c.deref.ensures.value c.in_ok-any.ensures.gates
    c.in_ok-any.ensures.at in
    (by_cubes_on _ _ _ _ _ c.if-def.true m).0

pub returns-then-def-clause-at : goal.returns-then-def-clause-at
returns-then-def-clause-at c =
    let m = any_made c.args.maker.now _ _ c.args.inputs.now _ _ c.args.def.now _ _ c.as_slice.ensures
    c.in_ok-cubes.ensures.gates c.in_ok-cubes.ensures.all c.deref.ensures.value c.in_ok-any.ensures.gates
    c.in_ok-any.ensures.at in
    (by_cubes_on _ _ _ _ _ c.if-def.true m).1

pub inv-requires-clause-inside : goal.inv-requires-clause-inside
inv-requires-clause-inside c =
    let m = any_made c.args.maker.now _ _ c.args.inputs.now _ _ c.args.def.now _ _ c.as_slice.ensures
    c.in_ok-cubes.ensures.gates c.in_ok-cubes.ensures.all c.deref.ensures.value c.in_ok-any.ensures.gates
    c.in_ok-any.ensures.at in
    any_inside _ _ _ _ _ c.requires.good c.requires.planes c.requires.below m

pub returns-clause-gates : goal.returns-clause-gates
returns-clause-gates c =
    let m = any_made c.args.maker.now _ _ c.args.inputs.now _ _ c.args.def.now _ _ c.as_slice.ensures
    c.in_ok-cubes.ensures.gates c.in_ok-cubes.ensures.all c.deref.ensures.value c.in_ok-any.ensures.gates
    c.in_ok-any.ensures.at in
    let w = by_cubes_off _ _ _ _ _ c.if-def.false m in
    subst (λ (g : Made). OnOk c.inv.result (c.inv.new.self ≡ with_gates c.args.maker.now g.gates)) w.0
    (subst (λ (i : ℕ). OnOk c.inv.result
    (c.inv.new.self ≡ record {
      inputs = i;
      gates = (inv c.fold.new.self.inputs c.fold.new.self.gates c.in_ok-any.any).gates;
    })) w.1 c.inv.ensures.gates)

pub returns-clause-at : goal.returns-clause-at
returns-clause-at c =
    let m = any_made c.args.maker.now _ _ c.args.inputs.now _ _ c.args.def.now _ _ c.as_slice.ensures
    c.in_ok-cubes.ensures.gates c.in_ok-cubes.ensures.all c.deref.ensures.value c.in_ok-any.ensures.gates
    c.in_ok-any.ensures.at in
    let w = by_cubes_off _ _ _ _ _ c.if-def.false m in
    subst (λ (g : Made). IfOk c.inv.result (λ r. r ≡ g.at)) w.0 c.inv.ensures.at

pub cubes-requires-clause-room : goal.cubes-requires-clause-room
cubes-requires-clause-room c =
    let within = cubes_within c.args.maker.now.inputs c.args.maker.now.gates c.args.inputs.now c.args.def.now in
    rw c.as_slice.ensures (omega (arith, within, c.requires.room))

pub fold-requires : goal.fold-requires
fold-requires c = any_room c.args.maker.now _ c.args.inputs.now _ _ c.args.def.now _ _ c.as_slice.ensures
    c.in_ok-cubes.ensures.gates c.in_ok-cubes.ensures.all c.deref.ensures.value c.requires.room

pub inv-requires-clause-room : goal.inv-requires-clause-room
inv-requires-clause-room c =
    let m = any_made c.args.maker.now _ _ c.args.inputs.now _ _ c.args.def.now _ _ c.as_slice.ensures
    c.in_ok-cubes.ensures.gates c.in_ok-cubes.ensures.all c.deref.ensures.value c.in_ok-any.ensures.gates
    c.in_ok-any.ensures.at in
    let w = by_cubes_off _ _ _ _ _ c.if-def.false m in
    subst (λ (g : Made). length g.gates < 2 ^ 32) (sym w.0) c.requires.room
