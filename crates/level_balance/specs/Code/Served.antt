-- The count in the order of users: each gate has its cells, and those that lead its operands to it.
use Rattle.std.specs.Prelude.{ℕ, zero, suc, ◌+◌, ◌-◌, ◌≤◌, max, Bool, true, false, ltb, List, [], ◌∷◌}
use Rattle.std.specs.Prelude.{slice_get, slice_index_or, slice_set, Option}
use Rattle.circuit.specs.declared.gate.Gate.{Gate}
use Rattle.circuit.specs.declared.gate.Gate.TheVariants as gates
use Rattle.circuit.specs.PlainNets.{is_constant}
use Rattle.level_balance.specs.Uses.{operands, operands_by}
use Rattle.level_balance.specs.Levels.{depth}
use Rattle.level_balance.specs.Counts.{tree_cells}
use Rattle.level_balance.specs.Code.Steps.{counts_if}

-- each of these gates has one more use
abbrev pub used_each : List ℕ → List ℕ → List ℕ
used_each fans [] = fans
used_each fans (x ∷ xs) = used_each (slice_set fans x (suc (slice_index_or fans x 0))) xs

-- whether gate i counts, where outputs and gates that count use it so often
abbrev pub counts_by : ℕ → ℕ → ℕ → Bool
counts_by n fan i = counts_if n (ltb 0 fan) i

-- the operands of gate i, if it counts
abbrev pub operands_used : ℕ → ℕ → ℕ → Option Gate → List ℕ
operands_used n fan i g = elim (counts_by n fan i) [ true ↦ operands_by g | false ↦ [] ]

-- the operands of each gate below k that counts have one more use, from the highest gate down: uses are of lower gates
abbrev pub used_below : ℕ → ℕ → List Gate → List ℕ → List ℕ
used_below n zero gs fans = fans
used_below n (suc k) gs fans =
    used_below n k gs (used_each fans (operands_used n (slice_index_or fans k 0) k (slice_get gs k)))

-- the greater of a number and of the row where the tree of a gate ends, if it is no constant
abbrev pub raised_to : ℕ → (ℕ → ℕ) → ℕ → ℕ → ℕ
raised_to n end x row = elim (is_constant n x) [ true ↦ row | false ↦ max (end x) row ]

-- the greatest row where the tree of one of these gates ends, constants apart
abbrev pub greatest_end : ℕ → (ℕ → ℕ) → List ℕ → ℕ
greatest_end n end [] = 0
greatest_end n end (x ∷ xs) = raised_to n end x (greatest_end n end xs)

-- the level of a gate, where the trees of its operands end so
abbrev pub level_over : ℕ → (ℕ → ℕ) → Gate → ℕ
level_over n end (gates.Input i) = 0
level_over n end gates.Zero = 0
level_over n end gates.One = 0
level_over n end (gates.Buf x) = suc (greatest_end n end (x ∷ []))
level_over n end (gates.Inv x) = suc (greatest_end n end (x ∷ []))
level_over n end (gates.Maj x y z) = suc (greatest_end n end (x ∷ y ∷ z ∷ []))

-- the cells that lead gate x to a user in row r: its own where it is a constant, or the buffers from where its tree
-- ends
abbrev pub led_cells : ℕ → (ℕ → ℕ) → ℕ → ℕ → ℕ
led_cells n end r x = elim (is_constant n x) [ true ↦ 1 | false ↦ r - 1 - end x ]

-- the cells that lead these gates to a user in row r
abbrev pub leads_cells : ℕ → (ℕ → ℕ) → ℕ → List ℕ → ℕ
leads_cells n end r [] = 0
leads_cells n end r (x ∷ xs) = led_cells n end r x + leads_cells n end r xs

-- a number for each gate: where its tree ends for lower gates, and how many uses it has for the others
abbrev pub at_place : List ℕ → ℕ → ℕ
at_place ends x = slice_index_or ends x 0

-- the row where the tree of gate i ends
abbrev pub own_end : ℕ → ℕ → List ℕ → ℕ → Gate → ℕ
own_end n b ends i g = level_over n (at_place ends) g + depth b (at_place ends i)

-- the cells of gate i and of its operands' ways to it, if it counts
abbrev pub user_cells : ℕ → ℕ → List ℕ → ℕ → Gate → ℕ
user_cells n b ends i g =
    let fan = at_place ends i in
    elim (counts_by n fan i) [
      | true ↦ suc (tree_cells b (depth b fan) fan)
          + leads_cells n (at_place ends) (level_over n (at_place ends) g) (operands g)
      | false ↦ 0
    ]

-- the cells of the gates from gate i on
abbrev pub users_cells : ℕ → ℕ → List ℕ → ℕ → List Gate → ℕ
users_cells n b ends i [] = 0
users_cells n b ends i (g ∷ gs) =
    user_cells n b ends i g + users_cells n b (slice_set ends i (own_end n b ends i g)) (suc i) gs

-- the rows where the trees of all gates end
abbrev pub all_ends : ℕ → ℕ → List ℕ → ℕ → List Gate → List ℕ
all_ends n b ends i [] = ends
all_ends n b ends i (g ∷ gs) = all_ends n b (slice_set ends i (own_end n b ends i g)) (suc i) gs

-- all these numbers are at most so large
abbrev pub IsAtMost : ℕ → List ℕ → Type 0
IsAtMost most xs = (x : ℕ) → slice_index_or xs x 0 ≤ most
