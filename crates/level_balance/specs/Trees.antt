-- Splitter trees by the numbers of their signals, and which are the shortest.
use Rattle.std.specs.Prelude.{ℕ, ◌+◌, ◌*◌, ◌≤◌, ◌^◌, List, [], ◌∷◌, length, slice_index_or}
use Rattle.level_balance.specs.Uses.{use_count}
use Rattle.level_balance.specs.Levels.{depth, tree_sizes}
use Rattle.level_balance.specs.Plan.{Frame}

-- from n signals on, rows of splitters of b give so many signals each, and at last f or more: a row gives at most b for
-- each signal of the row before it
abbrev pub FansOut : ℕ → ℕ → List ℕ → ℕ → Type 0
FansOut b n [] f = f ≤ n
FansOut b n (c ∷ cs) f = (c ≤ b * n) × FansOut b c cs f

-- a tree of splitters of b from one signal to f leaves or more, by the signals of its rows; no such tree has fewer rows
pub record IsShortestTree (b f : ℕ) (sizes : List ℕ) : Type 0 where
  pub fans_out : FansOut b 1 sizes f
  pub shortest : (others : List ℕ) → FansOut b 1 others f → length sizes ≤ length others

-- b to the power t is at least f, and to no lesser power
pub record IsLeastExponent (b f t : ℕ) : Type 0 where
  pub enough : f ≤ b ^ t
  pub least : (s : ℕ) → f ≤ b ^ s → t ≤ s

-- how many rows the splitter tree of gate x has
abbrev pub tree_rows : Frame → ℕ → ℕ
tree_rows f x = depth f.base (use_count f.uses x)

-- the signals of each of these rows
abbrev pub tree_of : Frame → ℕ → List ℕ
tree_of f x = tree_sizes f.base (tree_rows f x) (use_count f.uses x) []

-- the row where the tree of gate x ends
abbrev pub tree_end : Frame → ℕ → ℕ
tree_end f x = slice_index_or f.levels x 0 + tree_rows f x
