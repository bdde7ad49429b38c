-- The equation of levels, and rows that leave room for the trees.
use Rattle.std.specs.Prelude.{◌≡◌, ℕ, suc, ◌+◌, ◌<◌, true, false, List, Contains, slice_get, Some}
use Rattle.circuit.specs.declared.gate.Gate.{Gate}
use Rattle.circuit.specs.PlainNets.{PlainView, is_constant}
use Rattle.level_balance.specs.Uses.{operands, needed, counts}
use Rattle.level_balance.specs.Plan.{Frame}
use Rattle.level_balance.specs.Trees.{tree_rows, tree_end}

-- a row is one more than the greatest where the trees of these gates end, constants apart
pub record IsOneAbove (f : Frame) (gates : List ℕ) (row : ℕ) : Type 0 where
  pub above : (x : ℕ) → Contains gates x → is_constant f.inputs x ≡ false → tree_end f x < row
  pub touched : (x : ℕ) × Contains gates x × (is_constant f.inputs x ≡ false) × (row ≡ suc (tree_end f x))

-- the row of each gate that counts is past the trees of its operands, constants apart, each from its operand's row on
abbrev pub HaveRoom : PlainView → Frame → (ℕ → ℕ) → Type 0
HaveRoom net f rows = (i x : ℕ) (g : Gate) → counts net.inputs (needed net) i ≡ true → slice_get net.gates i ≡ Some g
    → Contains (operands g) x → is_constant net.inputs x ≡ false → rows x + tree_rows f x < rows i
