-- Structures in outline, as a reader keeps them.
use Rattle.std.specs.Prelude.{◌≡◌, ℕ, List, [], ◌∷◌, ◌==◌, true, false, map}
use Rattle.gds_records.specs.declared.codes.TheConstants.{SNAME}
use Rattle.gds_records.specs.Records.{Record, trimmed}
use Rattle.gds_records.specs.Whole.{Use, Outline, outlines}
use Rattle.gds_read.specs.declared.outline.NamedUse.{NamedUse}
use Rattle.gds_read.specs.declared.outline.NamedOutline.{NamedOutline}

-- a reference in outline: the place of its SNAME record, and the structure name that it gives
abbrev pub use_of : NamedUse → Use
use_of u = record { place = u.place; name = u.name.now }

-- a structure in outline: its place in the stream, its name, and its references in order
abbrev pub outline_of : NamedOutline → Outline
outline_of s = record { place = s.place; name = s.name.now; uses = map use_of s.uses }

-- the reference that a record at this place is, if it is one
abbrev pub uses_at : ℕ → Record → List Use
uses_at place r = elim (r.kind == SNAME) [ true ↦ record { place = place; name = trimmed r.content } ∷ [] | false ↦ [] ]

-- the names of structures in outline
abbrev pub names_in : List NamedOutline → List (List ℕ)
names_in ss = map (λ s. s.name) (map outline_of ss)

-- these records have structures in outline
pub record AreOutlined (rs : List Record) : Type 0 where
  pub structures : List NamedOutline
  pub same : map outline_of structures ≡ outlines 0 rs
