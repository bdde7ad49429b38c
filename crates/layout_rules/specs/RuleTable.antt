-- The table of the rules: for each one its name, its place in the order in which they are tried, and whether the shapes
-- make no circuit without it.
use Rattle.std.specs.Prelude.{ℕ, ◌+◌, List, codes}
use Rattle.layout_rules.specs.declared.rule.Rule.{Rule}
use Rattle.layout_rules.specs.declared.rule.Rule.TheVariants.{E1, E2, E3, E4, E5, E6, G1, G2, G3, G4, G5}

-- the name by which reports call a rule, a letter and a digit, and the rule's place, of which 0 is tried first
pub record Entry : Type 0 where
  pub name : List ℕ
  pub place : ℕ

-- how many rules make a circuit of the shapes: they come first and need no limits, and the others are of geometry
abbrev pub first_of_geometry : ℕ
first_of_geometry = 5

-- a rule of circuits, by its place among these
abbrev pub of_circuit : ℕ → List ℕ → Entry
of_circuit n name = record { name = name; place = n }

-- a rule of geometry or of lengths, by its place among these
abbrev pub of_geometry : ℕ → List ℕ → Entry
of_geometry n name = record { name = name; place = first_of_geometry + n }

-- the table, in which each rule has one entry
abbrev pub entry : Rule → Entry
entry E1 = of_circuit 0 (codes "E1")
entry E2 = of_circuit 1 (codes "E2")
entry E3 = of_circuit 2 (codes "E3")
entry E4 = of_circuit 3 (codes "E4")
entry E6 = of_circuit 4 (codes "E6")
entry G1 = of_geometry 0 (codes "G1")
entry G2 = of_geometry 1 (codes "G2")
entry G3 = of_geometry 2 (codes "G3")
entry G4 = of_geometry 3 (codes "G4")
entry G5 = of_geometry 4 (codes "G5")
entry E5 = of_geometry 5 (codes "E5")

-- the name of a rule, as reports write it
abbrev pub name_of : Rule → List ℕ
name_of rule = (entry rule).name

-- the place of a rule in the order in which they are tried
abbrev pub place : Rule → ℕ
place rule = (entry rule).place
