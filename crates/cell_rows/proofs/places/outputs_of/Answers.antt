use Rattle.std.proofs.Common.{◌≡◌, ℕ, ◌+◌, ◌<◌, ◌∙◌, List, length, Option, Some, ap, sym, subst, arith, rules}
use Rattle.std.specs.Prelude.{slice_index, slice_set}
use Rattle.cell_netlist.specs.Levels.{shown_by}
use Rattle.cell_netlist.proofs.Ended.{outputs_low}
use Rattle.cell_rows.specs.Code.Laying.{view_of, AreShown}
use Rattle.cell_rows.proofs.Laid.{shown_none, shown_more}
use Rattle.cell_rows.proofs.Used.{written}
use Rattle.cell_rows.proofs.places.outputs_of.Goals as goal

pub loop-k-init : goal.loop-k-init
loop-k-init c =
    shown_none (view_of c.args.cells.now) _ c.name_count.result
    (c.name_count.ensures ∙ c.known.ensures.count) (search rules)

pub shown_by-signal-requires-clause-signal : goal.shown_by-signal-requires-clause-signal
shown_by-signal-requires-clause-signal c =
    let outputs = c.as_slice-output-items.ensures ∙ c.outputs.ensures in
    let long = ap length outputs in
    let lt = c.loop-k-test.true in
    let net = c.args.cells.now.net.now in
    subst (λ (xs : List ℕ). slice_index xs c.loop-k.k < net.inputs + length net.defs)
    (sym outputs) (outputs_low net c.known.ensures c.loop-k.k (omega (arith, lt, long)))

pub overflow_cast-k : goal.overflow_cast-k
overflow_cast-k c =
    let long = ap length (c.as_slice-output-items.ensures ∙ c.outputs.ensures) in
    let lt = c.loop-k-test.true in
    let small = c.known.ensures.small in
    omega (arith, lt, long, small)

pub loop-k-preserved : goal.loop-k-preserved
loop-k-preserved c =
    let value = ap length c.deref_mut.ensures.value in
    let size = c.deref_mut.ensures.len in
    subst (λ (xs : List (Option ℕ)). AreShown (view_of c.args.cells.now) xs (c.loop-k.k + 1))
    (sym
    (written c.loop-k.shown.len c.show.new.shown c.loop-k.shown.items (omega (arith, value, size))
    (c.show.auto.shown ∙ value)
    ∙ c.show.ensures
    ∙ ap (λ (xs : List (Option ℕ)). slice_set xs c.shown_by-signal.result (Some c.loop-k.k)) c.deref_mut.ensures.value))
    (shown_more (view_of c.args.cells.now) c.loop-k.shown.items c.loop-k.k
    c.shown_by-signal.result c.loop-k.invariant
    (c.shown_by-signal.ensures.is
    ∙ ap (λ (xs : List ℕ).
    shown_by (view_of c.args.cells.now) (slice_index xs c.loop-k.k))
    (c.as_slice-output-items.ensures ∙ c.outputs.ensures)))

pub returns : goal.returns
returns c =
    let long = ap length (c.as_slice-output-items.ensures ∙ c.outputs.ensures) in
    let most = c.loop-k.auto.k-end in
    let least = c.loop-k-test.false in
    subst (λ (n : ℕ).
    AreShown (view_of c.args.cells.now) c.loop-k.shown.items n)
    (let all : c.loop-k.k ≡ length c.args.cells.now.net.now.outputs = omega (arith, long, most, least) in all)
    c.loop-k.invariant
