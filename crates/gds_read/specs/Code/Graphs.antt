-- The references of structures by number, and chains down them.
use Rattle.std.specs.Prelude.{ℕ, zero, suc, ◌||◌, slice_index_or, List, [], ◌∷◌}
use Rattle.std.specs.Prelude.{Bool, true, false, map}
use Rattle.gds_records.specs.Drawing.{place_of}
use Rattle.gds_read.specs.declared.outline.NamedOutline.{NamedOutline}
use Rattle.gds_read.specs.Code.Outlining.{names_in}

-- for each structure the numbers of those that it references, where the structures have these names
abbrev pub graph_by : List (List ℕ) → List NamedOutline → List (List ℕ)
graph_by names ss = map (λ s. map (λ u. place_of u.name.now names) s.uses) ss

-- for each structure the numbers of those that it references, by the names of the structures themselves
abbrev pub graph_of : List NamedOutline → List (List ℕ)
graph_of ss = graph_by (names_in ss) ss

-- what structure n references; nothing past the last
abbrev pub targets_at : List (List ℕ) → ℕ → List ℕ
targets_at graph n = slice_index_or graph n []

-- one of these numbers passes the test
abbrev pub some_target : (ℕ → Bool) → List ℕ → Bool
some_target test [] = false
some_target test (n ∷ ns) = test n || some_target test ns

-- a chain of so many references goes down from structure n
abbrev pub descends : ℕ → List (List ℕ) → ℕ → Bool
descends zero graph n = true
descends (suc k) graph n = some_target (descends k graph) (targets_at graph n)

-- a chain of more than 64 does
unfoldable pub is_long : List (List ℕ) → ℕ → Bool
is_long graph n = descends 65 graph n
