-- What nodes compute from other nodes.
use Rattle.std.specs.Prelude.{◌≡◌, ℕ, ◌+◌, ◌*◌, ◌/◌, ◌%◌, ◌<◌, ◌≤◌, ◌==◌, ◌++◌, Bool, cond, List, map, length, Option}
use Rattle.std.specs.Prelude.{Some, None, slice_index_or}
use Rattle.std.specs.Option.{option_map}
use Rattle.std.specs.List.{AllByRecursion}
use Rattle.truth_tables.specs.Tables.{holds, index}
use Rattle.mig.specs.Graphs.{GraphView, literal_value, turned}
use Rattle.mig.specs.Building.{BuilderView, Gives, limit}
use Rattle.mig.specs.Carried.{Shows, fits_graph, literal_at}
use Rattle.mig_rewrite.specs.declared.run.Entry.{Entry}

-- the node's value is that of the table at the leaves' values
pub record Computes (graph : GraphView) (leaves : List ℕ) (node table : ℕ) : Type 0 where
  pub value : (word : List Bool) (v : ℕ → Bool) → fits_graph graph word v → v node ≡ holds table (index (map v leaves))

-- the node computes the table from the leaves, whatever the values of other nodes that it reads
pub record Agrees (graph : GraphView) (leaves : List ℕ) (node table : ℕ) : Type 0 where
  pub idle : List ℕ
  pub few : length leaves + length idle ≤ 6
  pub computes : Computes graph (leaves ++ idle) node table

-- the value of a table whose inputs are these literals, and further values
abbrev pub table_at : ℕ → List ℕ → List Bool → (ℕ → Bool) → Bool
table_at table leaves more v = holds table (index (map (literal_value v) leaves ++ more))

-- the literal has the value of the table at the leaves' values, whatever further values there are
abbrev pub IsEntry : BuilderView → List ℕ → Entry → Type 0
IsEntry b leaves entry =
    (more : List Bool) → length leaves + length more ≤ 6 → Gives b entry.literal (table_at entry.table leaves more)

-- all of them do
abbrev pub AreEntries : BuilderView → List ℕ → List Entry → Type 0
AreEntries b leaves entries = AllByRecursion (IsEntry b leaves) entries

-- each literal has the value of its node
pub record Carries (graph : GraphView) (b : BuilderView) (found : List (Option ℕ)) : Type 0 where
  pub same_inputs : b.inputs ≡ graph.inputs
  pub each : (i l : ℕ) → literal_at found i ≡ Some l → Shows graph b i l

-- the literal for a literal, by those of nodes
abbrev pub carried_at : List (Option ℕ) → ℕ → Option ℕ
carried_at found l = option_map (λ f. cond (l % 2 == 1) (turned f) f) (literal_at found (l / 2))

-- the literals for literals whose nodes have theirs
abbrev pub AreCarried : List (Option ℕ) → List ℕ → List ℕ → Type 0
AreCarried found outputs literals = map Some literals ≡ map (carried_at found) outputs

-- so many nodes, each with its own literal
pub record HasFirst (size : ℕ) (found : List (Option ℕ)) : Type 0 where
  pub sized : length found ≡ size
  pub each : (i l : ℕ) → literal_at found i ≡ Some l → (i < size) × (l ≡ 2 * i)
