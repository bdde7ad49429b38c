-- What nodes compute from other nodes.
use Rattle.std.specs.Prelude.{◌≡◌, ℕ, ◌/◌, ◌%◌, ◌<◌, ◌==◌, Bool, cond, List, map, length}
use Rattle.std.specs.Prelude.{slice_index_or}
use Rattle.std.specs.List.{AllByRecursion}
use Rattle.truth_tables.specs.Tables.{holds, index}
use Rattle.mig.specs.Graphs.{GraphView, literal_value, turned}
use Rattle.mig.specs.Building.{BuilderView, Gives}
use Rattle.mig.specs.Carried.{Shows, fits_graph}
use Rattle.mig_replace.specs.declared.run.Entry.{Entry}

-- the node's value is that of the table at the leaves' values
pub record Computes (graph : GraphView) (leaves : List ℕ) (node table : ℕ) : Type 0 where
  pub value : (word : List Bool) (v : ℕ → Bool) → fits_graph graph word v → v node ≡ holds table (index (map v leaves))

-- the value of a table whose inputs are these literals
abbrev pub table_at : ℕ → List ℕ → (ℕ → Bool) → Bool
table_at table leaves v = holds table (index (map (literal_value v) leaves))

-- the literal has the value of the table at the leaves' values
abbrev pub IsEntry : BuilderView → List ℕ → Entry → Type 0
IsEntry b leaves entry = Gives b entry.literal (table_at entry.table leaves)

-- the same of a literal and a table by themselves
abbrev pub HasTable : BuilderView → List ℕ → ℕ → ℕ → Type 0
HasTable b leaves literal table = Gives b literal (table_at table leaves)

-- all of them do
abbrev pub AreEntries : BuilderView → List ℕ → List Entry → Type 0
AreEntries b leaves entries = AllByRecursion (IsEntry b leaves) entries

-- each node so far has a literal with its value
pub record Carries (graph : GraphView) (b : BuilderView) (found : List ℕ) : Type 0 where
  pub same_inputs : b.inputs ≡ graph.inputs
  pub each : (i : ℕ) → i < length found → Shows graph b i (slice_index_or found i 0)

-- the literal of a node
abbrev pub found_at : List ℕ → ℕ → ℕ
found_at found i = slice_index_or found i 0

-- the literal for a literal, by those of nodes
abbrev pub carried : List ℕ → ℕ → ℕ
carried found l = cond (l % 2 == 1) (turned (found_at found (l / 2))) (found_at found (l / 2))

-- these are literals of nodes that have theirs
pub record AreFound (found leaves literals : List ℕ) : Type 0 where
  pub there : AllByRecursion (λ i. i < length found) leaves
  pub are : literals ≡ map (found_at found) leaves

-- the literal of a node that has its one, and the table of the node over leaves
pub record IsFound (graph : GraphView) (found leaves : List ℕ) (entry : Entry) : Type 0 where
  pub node : ℕ
  pub there : node < length found
  pub at : entry.literal ≡ found_at found node
  pub computes : Computes graph leaves node entry.table

-- all of them are such
abbrev pub AreAllFound : GraphView → List ℕ → List ℕ → List Entry → Type 0
AreAllFound graph found leaves entries = AllByRecursion (IsFound graph found leaves) entries
