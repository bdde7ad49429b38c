-- How many rows and ends of uses there are does not change.
use Rattle.std.specs.Prelude.{◌≡◌, ℕ, suc, pred, ◌+◌, ◌-◌, Bool, true, false, List, [], ◌∷◌, length}
use Rattle.std.specs.Prelude.{slice_index_or, slice_set}
use Rattle.std.proofs.Common.{refl, ◌∙◌}
use Rattle.std.proofs.lemmas.List.{length-set}
use Rattle.circuit.specs.PlainNets.{is_constant}
use Rattle.circuit.specs.declared.gate.Gate.{Gate}
use Rattle.rowed.specs.declared.source.Source.{Source}
use Rattle.rowed.specs.declared.row_cell.RowCell.{RowCell}
use Rattle.rowed.specs.MadeCells.{cell, source}
use Rattle.level_balance.specs.Uses.{operands, uses_of, use_count}
use Rattle.level_balance.specs.Levels.{depth, tree_sizes}
use Rattle.level_balance.specs.Laying.{put, next, Signals, tree, chain}
use Rattle.level_balance.specs.Plan.{Frame, Laid, constant_kind, sources, gate_cell, lead_each, lay_gate}
use Rattle.level_balance.proofs.Carries.{put_length, tree_length, chain_length}

pub sources_rows : (n r : ℕ) (ends : List Source) (rows : List (List RowCell)) (q : ℕ) (xs : List ℕ)
    → length (sources n r ends rows q xs).rows ≡ length rows
sources_rows n r ends rows q [] = refl
sources_rows n r ends rows q (x ∷ xs) =
    by (is_constant n x) refl
    (sources_rows n r ends (put rows r (cell (constant_kind n x) [])) (suc q) xs ∙ put_length rows r _)
    (sources_rows n r ends rows (suc q) xs)
  where
    by : (b : Bool) → is_constant n x ≡ b
        → length (sources n r ends (put rows r (cell (constant_kind n x) [])) (suc q) xs).rows ≡ length rows
        → length (sources n r ends rows (suc q) xs).rows ≡ length rows
        → length (sources n r ends rows q (x ∷ xs)).rows ≡ length rows
    by true e a b = rw (e, sources) a
    by false e a b = rw (e, sources) b

pub lead_lengths : (f : Frame) (leaf : ℕ) (rows : List (List RowCell)) (ends leaves : List Source) (qs : List ℕ)
    → (let led = lead_each f leaf rows ends leaves qs in
    (length led.rows ≡ length rows) × (length led.ends ≡ length ends))
lead_lengths f leaf rows ends leaves [] = (refl, refl)
lead_lengths f leaf rows ends [] (q ∷ qs) = (refl, refl)
lead_lengths f leaf rows ends (s ∷ ss) (q ∷ qs) =
    let k = slice_index_or f.user_rows q 0 - 1 - leaf in
    let e = chain k (suc leaf) rows s in
    let rest = lead_lengths f leaf e.rows (slice_set ends q e.end) ss qs in
    (rest.0 ∙ chain_length k (suc leaf) rows s, rest.1 ∙ length-set ends q e.end)

pub lay_gate_lengths : (f : Frame) (i : ℕ) (g : Gate) (at : Laid)
    → (length (lay_gate f i g at).rows ≡ length at.rows) × (length (lay_gate f i g at).ends ≡ length at.ends)
lay_gate_lengths f i g at =
    let l = slice_index_or f.levels i 0 in
    let fan = use_count f.uses i in
    let t = depth f.base fan in
    let ss = sources f.inputs (pred l) at.ends at.rows at.use_at (operands g) in
    let own = put ss.rows l (gate_cell g ss.signals) in
    let root : Signals = record { rows = own; signals = source (next ss.rows l) 0 ∷ [] } in
    let leaves = tree f.base (suc l) root (tree_sizes f.base t fan []) in
    let led = lead_lengths f (l + t) leaves.rows at.ends leaves.signals (uses_of i 0 f.uses) in (
      led.0 ∙ tree_length f.base (suc l) root (tree_sizes f.base t fan []) ∙ put_length ss.rows l
          (gate_cell g ss.signals) ∙ sources_rows f.inputs (pred l) at.ends at.rows at.use_at (operands g),
      led.1,
    )

pub lay_gate_rows : (f : Frame) (i : ℕ) (g : Gate) (at : Laid) → length (lay_gate f i g at).rows ≡ length at.rows
lay_gate_rows f i g at = (lay_gate_lengths f i g at).0
