-- A table without faults gives a draft with each kind that no library leaves out.
use Rattle.std.proofs.Common.{◌≡◌, ◌≢◌, ℕ, zero, suc, ◌==◌, slice_get, Bool, true, false, cond, List, [], ◌∷◌, map}
use Rattle.std.proofs.Common.{Option, Some, None, IsSome, option_map, option_and_then, refl, sym, ap, subst, ◌∙◌, find}
use Rattle.std.proofs.Common.{is_none}
use Rattle.std.specs.Option.{option_or}
use Rattle.std.proofs.lemmas.Option.{same_Some}
use Rattle.std.specs.List.{AllByRecursion}
use Rattle.toml.specs.Data.{Data, Members, get_member}
use Rattle.circuit.specs.CellKinds.{number_of}
use Rattle.circuit.specs.declared.cell_kind.CellKind.{CellKind}
use Rattle.circuit.specs.declared.cell_kind.CellKind.TheVariants.{Split3}
use Rattle.cell_library.specs.declared.draft.Numbers.{Numbers}
use Rattle.cell_library.specs.declared.draft.Pins.{Pins}
use Rattle.cell_library.specs.declared.fault.LibraryFault.TheVariants.{Missing}
use Rattle.cell_library.specs.Kinds.{all_kinds, mandatory_kinds, key_of}
use Rattle.cell_library.specs.Library.{IsGiven}
use Rattle.cell_library.specs.Laws.{GivesMandatory}
use Rattle.cell_library.specs.Code.Drafts.{drafted}
use Rattle.cell_library.specs.Documents.{table_under}
use Rattle.cell_library.specs.Faults.{first_some, unknown_key_fault, numbers_fault, table_fault, missing_fault}
use Rattle.cell_library.specs.Faults.{kind_fault, kinds_fault, inner_fault}
use Rattle.cell_library.specs.Says.{library_of, pins_under, pins_in}
use Rattle.cell_library.specs.Code.Stages.{IsNumbersOf, IsDraftOf}

neither : {X : Type 0} (a b : Option X) → option_or a b ≡ None → (a ≡ None) × (b ≡ None)
neither None b e = (refl, e)
neither (Some x) b e = cc

-- a list of parts without a fault
pub first_nones : {X : Type 0} (os : List (Option X)) → first_some os ≡ None → AllByRecursion (λ o. o ≡ None) os
first_nones [] e = tt
first_nones (o ∷ os) e = let both = neither o (first_some os) e in (both.0, first_nones os both.1)

not_found : {X : Type 0} (x : X) (rest : Option X) (b : Bool) → cond b (Some x) rest ≡ None
    → (b ≡ false) × (rest ≡ None)
not_found x rest true e = cc
not_found x rest false e = (refl, e)

found_none : {X : Type 0} (test : X → Bool) (xs : List X) → find test xs ≡ None
    → AllByRecursion (λ x. test x ≡ false) xs
found_none test [] e = tt
found_none test (x ∷ xs) e = let both = not_found x (find test xs) (test x) e in (both.0, found_none test xs both.1)

unmapped : {X Y : Type 0} (f : X → Y) (o : Option X) → option_map f o ≡ None → o ≡ None
unmapped f None e = refl
unmapped f (Some x) e = cc

-- a kind with a key and no fault has pins
has_pins : (kind : CellKind) (inner : Option Members) → inner_fault kind inner ≡ None
    → IsSome (option_map pins_in inner)
has_pins kind None e = cc
has_pins kind (Some inner) e = refl

given_pins : (ms : Members) (kind : CellKind) (value : Option Data) → is_none value ≡ false
    → option_and_then (λ v. inner_fault kind (table_under ms (key_of kind))) value ≡ None → IsSome (pins_under ms kind)
given_pins ms kind None some e = cc
given_pins ms kind (Some value) some e = has_pins kind (table_under ms (key_of kind)) e

-- what is so of all items is so of the one at a place
all_got : {X : Type 0} (P : X → Type 0) (xs : List X) (n : ℕ) (x : X) → AllByRecursion P xs
    → slice_get xs n ≡ Some x → P x
all_got P [] n x all e = absurd cc
all_got P (y ∷ xs) zero x all e = subst P (same_Some _ _ e) all.0
all_got P (y ∷ xs) (suc n) x all e = all_got P xs n x all.1 e

-- the place of a kind in a list of kinds
abbrev place_of : CellKind → List CellKind → ℕ
place_of k [] = 0
place_of k (x ∷ xs) = cond (number_of k == number_of x) 0 (suc (place_of k xs))

-- where none is missing and none has a fault, each kind but the splitter of three has pins
pub all_given : (ms : Members) → missing_fault ms ≡ None → kinds_fault ms ≡ None → GivesMandatory (library_of ms)
all_given ms missing faultless kind other =
    go kind other
    (found_none (λ k. is_none (get_member (key_of k) ms)) mandatory_kinds
    (unmapped (λ k. Missing k) (find (λ k. is_none (get_member (key_of k) ms)) mandatory_kinds) missing))
    (first_nones (map (kind_fault ms) all_kinds) faultless) where
      pins : (k : CellKind) → is_none (get_member (key_of k) ms) ≡ false → kind_fault ms k ≡ None
          → IsSome (pins_under ms k)
      pins k some none = given_pins ms k (get_member (key_of k) ms) some none

      go : (k : CellKind) → k ≢ Split3
          → AllByRecursion (λ k. is_none (get_member (key_of k) ms) ≡ false) mandatory_kinds
          → AllByRecursion (λ o. o ≡ None) (map (kind_fault ms) all_kinds) → IsGiven (library_of ms) k
      go Split3 other m f = absurd (other refl)
      go k other m f =
          pins k
          (all_got (λ k. is_none (get_member (key_of k) ms) ≡ false) mandatory_kinds
          (place_of k mandatory_kinds) k m refl)
          (all_got (λ o. o ≡ None) (map (kind_fault ms) all_kinds) (place_of k all_kinds) (kind_fault ms k) f refl)

-- the draft of a table
pub drafted_of : (ms : Members) (numbers : Numbers) (pins : List (Option Pins)) → IsNumbersOf ms numbers
    → missing_fault ms ≡ None → kinds_fault ms ≡ None →
    pins ≡ map (pins_under ms) all_kinds → IsDraftOf ms (drafted numbers pins)
drafted_of ms numbers pins n missing faultless e =
    let values : drafted numbers pins ≡ library_of ms = ap (drafted numbers) e ∙ n.values in
    record { values = values; given = subst GivesMandatory (sym values) (all_given ms missing faultless) }

nothing : {X : Type 0} (a b : Option X) → a ≡ None → b ≡ None → option_or a b ≡ None
nothing None b ha hb = hb
nothing (Some x) b ha hb = cc

nones_first : {X : Type 0} (os : List (Option X)) → AllByRecursion (λ o. o ≡ None) os → first_some os ≡ None
nones_first [] all = refl
nones_first (o ∷ os) all = nothing o (first_some os) all.0 (nones_first os all.1)

-- a table whose parts have no fault has none
pub faultless_table : (ms : Members) → unknown_key_fault ms ≡ None → numbers_fault ms ≡ None → missing_fault ms ≡ None
    → kinds_fault ms ≡ None → table_fault ms ≡ None
faultless_table ms keys numbers missing kinds = nones_first
    (unknown_key_fault ms ∷ numbers_fault ms ∷ missing_fault ms ∷ kinds_fault ms ∷ [])
    (keys, (numbers, (missing, (kinds, tt))))
