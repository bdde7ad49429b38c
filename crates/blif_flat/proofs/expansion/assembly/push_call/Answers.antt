use Rattle.std.proofs.Common.{◌∙◌, [], ap, subst, arith}
use Rattle.std.specs.Str.{bytes_eq}
use Rattle.indexmap.specs.IndexSet.{insert_all}
use Rattle.blif_read.specs.declared.models.BlifModel.{BlifModel}
use Rattle.blif_flat.specs.Designs.{names_in, distinct_outputs, formals}
use Rattle.blif_flat.specs.Code.Joins.{ports_for}
use Rattle.blif_flat.specs.Code.Outlines.{IsOutlined}
use Rattle.blif_flat.proofs.Outlining.{found_outline}
use Rattle.blif_flat.proofs.Assembling.{IsCalled, call_made, called_adds, called_reach}
use Rattle.blif_flat.proofs.expansion.assembly.push_call.Goals as goal
use Rattle.blif_flat.proofs.expansion.assembly.push_call.Goals.{After-deref-2}

-- what is found of the call
called : (c : After-deref-2) → IsCalled c.args.places.now.models c.in-Some.number c.args.call.now
    c.in-Some-outline_at.outline.now c.deref.result.now c.deref-2.result.now c.as_slice.result.now
called c =
    let is = found_outline c.args.places.now.models c.args.outlines.now c.in-Some.number
    c.in-Some-outline_at.outline.now c.in-Some-outline_at.ensures
    (subst (IsOutlined c.args.places.now.models c.args.outlines.now) c.in-Some.ensures.number c.requires.outlined) in
    record {
      at = c.in-Some.ensures.number;
      is = is;
      entries = c.deref.ensures.value ∙ c.in_ok-entries.ensures
          ∙ ap (λ names. ports_for names (formals c.args.call.now)) (c.input_names.ensures
          ∙ ap (λ (m : BlifModel). insert_all bytes_eq [] (names_in m.inputs)) c.in-Some.ensures.model ∙ is.inputs);
      joined = c.deref-2.ensures.value ∙ c.in_ok-joined.ensures
          ∙ ap (λ names. ports_for names (formals c.args.call.now)) (c.outputs.ensures
          ∙ ap distinct_outputs c.in-Some.ensures.model);
      exits = c.as_slice.ensures.value;
    }

pub returns-clause-pieces : goal.returns-clause-pieces
returns-clause-pieces c =
    call_made c.args.places.now.model c.args.start c.args.pieces.now _ _ _
    (called (goal.at.returns-clause-pieces c).After-deref-2) c.in_ok-push_entries.ensures c.in_ok-push.ensures.ok
    c.in_ok-count.ensures.pieces

pub returns-clause-next : goal.returns-clause-next
returns-clause-next c =
    let adds = called_adds (called (goal.at.returns-clause-next c).After-deref-2) in
    omega (arith, adds, c.in_ok-count.ensures.count)

pub push_exits-requires : goal.push_exits-requires
push_exits-requires c =
    let called = called (goal.at.push_exits-requires c).After-deref-2 in
    let adds = called_adds called in
    record { few = omega (arith, adds, c.requires.room); reach = called_reach c.args.start called c.requires.room }

pub overflow_add-inner : goal.overflow_add-inner
overflow_add-inner c =
    let adds = called_adds (called (goal.at.overflow_add-inner c).After-deref-2) in
    omega (arith, adds, c.requires.room)

pub overflow_add-next : goal.overflow_add-next
overflow_add-next c =
    let adds = called_adds (called (goal.at.overflow_add-next c).After-deref-2) in
    omega (arith, adds, c.in_ok-count.ensures.count, c.requires.room)
