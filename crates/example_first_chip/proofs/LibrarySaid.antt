-- The text of library A is a TOML document, whose table says library A.
use Rattle.std.proofs.Common.{◌≡◌, ℕ, List, [], ◌∷◌, Some, refl, rules}
use Rattle.std.specs.Prelude.{codes, pos}
use Rattle.std.specs.Str.{IsUtf8}
use lib.Utf8.{encode}
use Rattle.toml.specs.Data.{Data, string, integer, array, table, Items, no_items, item, Members, no_members, member}
use Rattle.toml.specs.Parse.{parse_document}
use Rattle.toml.proofs.OnLiterals.{toml_on_literals}
use Rattle.cell_library.specs.Laws.{IsLibrary}
use Rattle.cell_library.specs.LibraryA.{library_a_view}
use Rattle.cell_library.specs.Says.{SaysLibrary}
use Rattle.example_first_chip.specs.Texts.{library_a_text}

-- an array of these numbers
abbrev items_of : List ℕ → Items
items_of [] = no_items
items_of (n ∷ ns) = item (integer (pos n)) (items_of ns)

-- the table of a kind whose pins stand in these columns
abbrev kind : List ℕ → List ℕ → Data
kind inputs outputs = table
    (member (codes "inputs") (array (items_of inputs))
    (member (codes "outputs") (array (items_of outputs))
    no_members))

abbrev number : ℕ → Data
number n = integer (pos n)

-- the text's table, by rising key
unfoldable library_a_table : Members
library_a_table =
    member (codes "buffer") (kind (1 ∷ []) (2 ∷ []))
    (member (codes "capacity") (number 28)
    (member (codes "columns") (number 4)
    (member (codes "enclose") (number 200)
    (member (codes "height") (number 10000)
    (member (codes "inverter") (kind (1 ∷ []) (2 ∷ []))
    (member (codes "limit") (number 180000)
    (member (codes "majority") (kind (1 ∷ 5 ∷ 9 ∷ []) (2 ∷ []))
    (member (codes "name") (string (codes "A"))
    (member (codes "one") (kind [] (2 ∷ []))
    (member (codes "pin") (number 1000)
    (member (codes "pitch") (number 2000)
    (member (codes "space") (number 1000)
    (member (codes "split2") (kind (1 ∷ []) (2 ∷ 6 ∷ []))
    (member (codes "split3") (kind (1 ∷ []) (2 ∷ 6 ∷ 10 ∷ []))
    (member (codes "via") (number 600)
    (member (codes "wire") (number 1000)
    (member (codes "zero") (kind [] (2 ∷ []))
    no_members)))))))))))))))))

parsed : parse_document library_a_text ≡ Some library_a_table
unfolding toml_on_literals library_a_text library_a_table
parsed = refl

utf8 : IsUtf8 library_a_text
unfolding library_a_text encode
utf8 = (library_a_text, (refl, refl))

lawful : IsLibrary library_a_view
lawful = search rules

pub library_said : SaysLibrary library_a_text library_a_view
unfolding library_a_table
library_said = record {
  table = library_a_table;
  document = record { utf8 = utf8; parsed = parsed };
  faultless = refl;
  values = refl;
  laws = lawful.laws;
}
