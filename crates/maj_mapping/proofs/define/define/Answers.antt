use Rattle.std.proofs.Common.{◌≡◌, ◌≢◌, ◌<◌, ◌^◌, length, sym, ap, subst, arith, OnOk, IfOk, refl}
use Rattle.case_tables.proofs.TruthLaws.{below_256}
use Rattle.maj_mapping.specs.Code.MakerView.{with_gates}
use Rattle.maj_mapping.specs.Operations.{Made}
use Rattle.maj_mapping.proofs.Defining.{define_none, define_one, define_two, define_three, define_more}
use Rattle.maj_mapping.proofs.define.define.Goals as goal

pub of_three-recipe-requires : goal.of_three-recipe-requires
of_three-recipe-requires c = subst (λ n. n < 256) (sym c.number_of_three.ensures) (below_256 _ _ _ _ _ _ _ _)

pub returns-in-0-clause-gates : goal.returns-in-0-clause-gates
returns-in-0-clause-gates c = ap (λ (g : Made). with_gates c.args.maker.now g.gates)
    (define_none c.args.maker.now.inputs c.args.maker.now.gates c.args.inputs.now c.args.def.now _ _ c.in-0.is
    c.cover.ensures c.constant.ensures)

pub returns-in-0-clause-at : goal.returns-in-0-clause-at
returns-in-0-clause-at c = ap (λ (g : Made). g.at)
    (define_none c.args.maker.now.inputs c.args.maker.now.gates c.args.inputs.now c.args.def.now _ _ c.in-0.is
    c.cover.ensures c.constant.ensures)

pub returns-in-1-clause-gates : goal.returns-in-1-clause-gates
returns-in-1-clause-gates c =
    subst (λ (g : Made). OnOk c.run.result (c.run.new.maker ≡ with_gates c.args.maker.now g.gates))
    (define_one c.args.maker.now.inputs c.args.maker.now.gates c.args.inputs.now c.args.def.now _ _ _
    c.of_two-recipe.result.now c.in-1.is refl c.zero-zero.ensures c.number_of_one.ensures c.of_two-recipe.ensures)
    c.run.ensures.gates

pub returns-in-1-clause-at : goal.returns-in-1-clause-at
returns-in-1-clause-at c =
    subst (λ (g : Made). IfOk c.run.result (λ r. r ≡ g.at))
    (define_one c.args.maker.now.inputs c.args.maker.now.gates c.args.inputs.now c.args.def.now _ _ _
    c.of_two-recipe.result.now c.in-1.is refl c.zero-zero.ensures c.number_of_one.ensures c.of_two-recipe.ensures)
    c.run.ensures.at

pub returns-in-2-clause-gates : goal.returns-in-2-clause-gates
returns-in-2-clause-gates c =
    subst (λ (g : Made). OnOk c.run-in-2.result (c.run-in-2.new.maker ≡ with_gates c.args.maker.now g.gates))
    (define_two c.args.maker.now.inputs c.args.maker.now.gates c.args.inputs.now c.args.def.now _ _ _ _
    c.of_two-recipe-in-2.result.now c.in-2.is refl refl c.zero-zero.ensures c.number_of_two.ensures
    c.of_two-recipe-in-2.ensures) c.run-in-2.ensures.gates

pub returns-in-2-clause-at : goal.returns-in-2-clause-at
returns-in-2-clause-at c =
    subst (λ (g : Made). IfOk c.run-in-2.result (λ r. r ≡ g.at))
    (define_two c.args.maker.now.inputs c.args.maker.now.gates c.args.inputs.now c.args.def.now _ _ _ _
    c.of_two-recipe-in-2.result.now c.in-2.is refl refl c.zero-zero.ensures c.number_of_two.ensures
    c.of_two-recipe-in-2.ensures) c.run-in-2.ensures.at

pub returns-in-3-clause-gates : goal.returns-in-3-clause-gates
returns-in-3-clause-gates c =
    subst (λ (g : Made). OnOk c.run-in-3.result (c.run-in-3.new.maker ≡ with_gates c.args.maker.now g.gates))
    (define_three c.args.maker.now.inputs c.args.maker.now.gates c.args.inputs.now c.args.def.now _ _ _ _
    c.of_three-recipe.result.now c.in-3.is refl refl refl c.number_of_three.ensures c.of_three-recipe.ensures)
    c.run-in-3.ensures.gates

pub returns-in-3-clause-at : goal.returns-in-3-clause-at
returns-in-3-clause-at c =
    subst (λ (g : Made). IfOk c.run-in-3.result (λ r. r ≡ g.at))
    (define_three c.args.maker.now.inputs c.args.maker.now.gates c.args.inputs.now c.args.def.now _ _ _ _
    c.of_three-recipe.result.now c.in-3.is refl refl refl c.number_of_three.ensures c.of_three-recipe.ensures)
    c.run-in-3.ensures.at

pub returns-in_default-clause-gates : goal.returns-in_default-clause-gates
returns-in_default-clause-gates c =
    let none : length c.args.inputs.now ≢ 0 = omega arith in
    let one : length c.args.inputs.now ≢ 1 = omega arith in
    let two : length c.args.inputs.now ≢ 2 = omega arith in
    let three : length c.args.inputs.now ≢ 3 = omega arith in
    subst (λ (g : Made). OnOk c.by_cubes.result (c.by_cubes.new.maker ≡ with_gates c.args.maker.now g.gates))
    (define_more c.args.maker.now.inputs c.args.maker.now.gates c.args.inputs.now c.args.def.now none one two
    three) c.by_cubes.ensures.gates

pub returns-in_default-clause-at : goal.returns-in_default-clause-at
returns-in_default-clause-at c =
    let none : length c.args.inputs.now ≢ 0 = omega arith in
    let one : length c.args.inputs.now ≢ 1 = omega arith in
    let two : length c.args.inputs.now ≢ 2 = omega arith in
    let three : length c.args.inputs.now ≢ 3 = omega arith in
    subst (λ (g : Made). IfOk c.by_cubes.result (λ r. r ≡ g.at))
    (define_more c.args.maker.now.inputs c.args.maker.now.gates c.args.inputs.now c.args.def.now none one two
    three) c.by_cubes.ensures.at

pub run-requires-clause-room : goal.run-requires-clause-room
run-requires-clause-room c = subst (λ (g : Made). length g.gates < 2 ^ 32)
    (sym (define_one c.args.maker.now.inputs c.args.maker.now.gates c.args.inputs.now c.args.def.now _ _ _
    c.of_two-recipe.result.now c.in-1.is refl c.zero-zero.ensures c.number_of_one.ensures c.of_two-recipe.ensures))
    c.requires.room

pub run-requires-in-2-clause-room : goal.run-requires-in-2-clause-room
run-requires-in-2-clause-room c = subst (λ (g : Made). length g.gates < 2 ^ 32)
    (sym (define_two c.args.maker.now.inputs c.args.maker.now.gates c.args.inputs.now c.args.def.now _ _ _ _
    c.of_two-recipe-in-2.result.now c.in-2.is refl refl c.zero-zero.ensures c.number_of_two.ensures
    c.of_two-recipe-in-2.ensures)) c.requires.room

pub run-requires-in-3-clause-room : goal.run-requires-in-3-clause-room
run-requires-in-3-clause-room c = subst (λ (g : Made). length g.gates < 2 ^ 32)
    (sym (define_three c.args.maker.now.inputs c.args.maker.now.gates c.args.inputs.now c.args.def.now _ _ _ _
    c.of_three-recipe.result.now c.in-3.is refl refl refl c.number_of_three.ensures c.of_three-recipe.ensures))
    c.requires.room

pub by_cubes-requires-clause-room : goal.by_cubes-requires-clause-room
by_cubes-requires-clause-room c =
    let none : length c.args.inputs.now ≢ 0 = omega arith in
    let one : length c.args.inputs.now ≢ 1 = omega arith in
    let two : length c.args.inputs.now ≢ 2 = omega arith in
    let three : length c.args.inputs.now ≢ 3 = omega arith in
    subst (λ (g : Made). length g.gates < 2 ^ 32)
    (sym (define_more c.args.maker.now.inputs c.args.maker.now.gates c.args.inputs.now c.args.def.now none one
    two three)) c.requires.room
