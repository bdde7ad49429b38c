-- Libraries with the same numbers and pins are the same.
use Rattle.std.proofs.Common.{ℕ, zero, suc, ◌-◌, ◌≡◌, ◌<◌, List, [], ◌∷◌, length, Option, None, refl, ap, arith, sym}
use Rattle.std.proofs.Common.{◌∙◌}
use Rattle.std.specs.Prelude.{slice_get, unwrap_or, get_or}
use Rattle.circuit.specs.CellKinds.{number_of}
use Rattle.circuit.specs.declared.cell_kind.CellKind.{CellKind}
use Rattle.circuit.specs.declared.cell_kind.CellKind.TheVariants.{Buffer}
use Rattle.cell_library.specs.declared.draft.Numbers.{Numbers}
use Rattle.cell_library.specs.declared.draft.Pins.{Pins}
use Rattle.cell_library.specs.Kinds.{all_kinds}
use Rattle.cell_library.specs.Library.{LibraryView, pins_of}
use Rattle.cell_library.specs.Laws.{IsDraft}
use Rattle.cell_library.specs.Code.Drafts.{drafted}

same_places : (xs ys : List (Option Pins)) → length xs ≡ length ys
    → ((k : ℕ) → k < length xs → unwrap_or (slice_get xs k) None ≡ unwrap_or (slice_get ys k) None) → xs ≡ ys
same_places [] [] long each = refl
same_places [] (y ∷ ys) long each = absurd (omega arith)
same_places (x ∷ xs) [] long each = absurd (omega arith)
same_places (x ∷ xs) (y ∷ ys) long each =
    let head : x ≡ y = each 0 (omega arith) in
    let tail : xs ≡ ys = same_places xs ys (omega arith) (λ k h. each (suc k) (omega arith)) in
    λ i. head i ∷ tail i

-- two drafts with the same pins of each kind
pub same_list : (l m : LibraryView) → IsDraft l → IsDraft m
    → ((k : ℕ) → k < 7 → pins_of l (get_or all_kinds k Buffer) ≡ pins_of m (get_or all_kinds k Buffer))
    → l.pins ≡ m.pins
same_list l m dl dm each = same_places l.pins m.pins (dl.kinds ∙ sym dm.kinds) (λ k h. at k (omega (arith, dl.kinds)))
  where
    at : (k : ℕ) → k < 7 → unwrap_or (slice_get l.pins k) None ≡ unwrap_or (slice_get m.pins k) None
    at zero h = each 0 (omega arith)
    at (suc zero) h = each 1 (omega arith)
    at (suc (suc zero)) h = each 2 (omega arith)
    at (suc (suc (suc zero))) h = each 3 (omega arith)
    at (suc (suc (suc (suc zero)))) h = each 4 (omega arith)
    at (suc (suc (suc (suc (suc zero))))) h = each 5 (omega arith)
    at (suc (suc (suc (suc (suc (suc zero)))))) h = each 6 (omega arith)
    at (suc (suc (suc (suc (suc (suc (suc k))))))) h = absurd (omega arith)

-- equal lists of pins give each kind the same
pub same_each : (l m : LibraryView) → l.pins ≡ m.pins → (kind : CellKind) → pins_of l kind ≡ pins_of m kind
same_each l m e kind = ap (λ pins. unwrap_or (slice_get pins (number_of kind - 1)) None) e

pub ruleset same_lists = (same_list, same_each)

pub numbers_of_same : (a b : Numbers) (p q : List (Option Pins)) → drafted a p ≡ drafted b q → a ≡ b
numbers_of_same a b p q e = λ i. record {
  wire = (e i).wire;
  space = (e i).space;
  via = (e i).via;
  enclose = (e i).enclose;
  pin = (e i).pin;
  height = (e i).height;
  pitch = (e i).pitch;
  columns = (e i).columns;
  capacity = (e i).capacity;
  limit = (e i).limit;
}

pub drafted_same : (a b : Numbers) (p q : List (Option Pins)) → a ≡ b → p ≡ q → drafted a p ≡ drafted b q
drafted_same a b p q e f = λ i. drafted (e i) (f i)

-- two views are the same where numbers and pins are
pub same_views : (l m : LibraryView) (a b : Numbers) → l ≡ drafted a l.pins → m ≡ drafted b m.pins → a ≡ b
    → l.pins ≡ m.pins → l ≡ m
same_views l m a b le me ab pins = le ∙ (drafted_same a b l.pins m.pins ab pins ∙ sym me)

pub views_same_numbers : (l m : LibraryView) (a b : Numbers) → l ≡ drafted a l.pins
    → m ≡ drafted b m.pins → l ≡ m → a ≡ b
views_same_numbers l m a b le me e = numbers_of_same a b l.pins m.pins (sym le ∙ (e ∙ me))

pub ruleset same_libraries = (same_views, views_same_numbers)
