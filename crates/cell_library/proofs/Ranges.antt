-- A text that says a library says one that keeps the facts of libraries.
use Rattle.std.proofs.Common.{ℕ, ℤ, pos, negsuc, ◌≡◌, ◌≤◌, inl, inr, Option, Some, None, refl, sym, subst}
use Rattle.std.specs.Prelude.{nat_le, ◌&&◌, unwrap_or, List, [], ◌∷◌, map}
use Rattle.std.specs.List.{AllByRecursion}
use Rattle.std.proofs.lemmas.Bool.{and_parts, leb-true, cases_Bool}
use Rattle.toml.specs.Data.{Members}
use Rattle.cell_library.specs.Numbers.{Number, numbers}
use Rattle.cell_library.specs.Documents.{integer_under, natural_within}
use Rattle.cell_library.specs.Faults.{range_fault, integer_fault, number_fault, numbers_fault, unknown_key_fault}
use Rattle.cell_library.specs.Faults.{missing_fault, kinds_fault}
use Rattle.cell_library.specs.Library.{LibraryView}
use Rattle.cell_library.specs.Laws.{InRanges, IsDraft, GivesMandatory, IsLibrary}
use Rattle.cell_library.specs.Says.{SaysLibrary, natural, number_under, library_of}
use Rattle.cell_library.proofs.Given.{first_nones, all_given}

-- a number of the table is in its range
record IsRanged (ms : Members) (number : Number) : Type 0 where
  some : 1 ≤ number_under ms number.key
  most : number_under ms number.key ≤ number.most

-- an integer that is found within bounds is within them
within : (key : List ℕ) (most : ℕ) (z : ℤ) → range_fault key z (natural_within 1 most z) ≡ None →
    (1 ≤ natural z) × (natural z ≤ most)
within key most (negsuc n) e = absurd (cc)
within key most (pos n) e = elim (cases_Bool (nat_le 1 n && nat_le n most)) [
  | inl inside ↦
      let both = and_parts (nat_le 1 n) (nat_le n most) inside in
      (leb-true 1 n both.0, leb-true n most both.1)
  | inr outside ↦ absurd (let none = rw outside at e in cc)
]

of_integer : (number : Number) (o : Option ℤ) → integer_fault number o ≡ None →
    (1 ≤ natural (unwrap_or o (pos 0))) × (natural (unwrap_or o (pos 0)) ≤ number.most)
of_integer number None e = absurd (cc)
of_integer number (Some z) e = within number.key number.most z e

ranged : (ms : Members) (number : Number) → number_fault ms number ≡ None → IsRanged ms number
ranged ms number e =
    let both = of_integer number (integer_under ms number.key) e in
    record { some = both.0; most = both.1 }

each_ranged : (ms : Members) (xs : List Number) → AllByRecursion (λ o. o ≡ None) (map (number_fault ms) xs) →
    AllByRecursion (IsRanged ms) xs
each_ranged ms [] all = tt
each_ranged ms (x ∷ xs) all = (ranged ms x all.0, each_ranged ms xs all.1)

in_ranges : (ms : Members) → numbers_fault ms ≡ None → InRanges (library_of ms)
in_ranges ms e =
    let all = each_ranged ms numbers (first_nones (map (number_fault ms) numbers) e) in
    record {
      wire_some = all.0.some;
      wire_most = all.0.most;
      space_some = all.1.0.some;
      space_most = all.1.0.most;
      via_some = all.1.1.0.some;
      via_most = all.1.1.0.most;
      enclose_some = all.1.1.1.0.some;
      enclose_most = all.1.1.1.0.most;
      pin_some = all.1.1.1.1.0.some;
      pin_most = all.1.1.1.1.0.most;
      height_some = all.1.1.1.1.1.0.some;
      height_most = all.1.1.1.1.1.0.most;
      pitch_some = all.1.1.1.1.1.1.0.some;
      pitch_most = all.1.1.1.1.1.1.0.most;
      columns_some = all.1.1.1.1.1.1.1.0.some;
      columns_most = all.1.1.1.1.1.1.1.0.most;
      capacity_some = all.1.1.1.1.1.1.1.1.0.some;
      capacity_most = all.1.1.1.1.1.1.1.1.0.most;
      limit_some = all.1.1.1.1.1.1.1.1.1.0.some;
      limit_most = all.1.1.1.1.1.1.1.1.1.0.most;
    }

pub said_keeps : (text : List ℕ) (library : LibraryView) → SaysLibrary text library → IsLibrary library
said_keeps text library says =
    let faults = first_nones (unknown_key_fault says.table ∷ numbers_fault says.table ∷ missing_fault says.table
    ∷ kinds_fault says.table ∷ []) says.faultless in
    record {
      draft = subst IsDraft (sym says.values) (record { ranges = in_ranges says.table faults.1.0; kinds = refl });
      given = subst GivesMandatory (sym says.values) (all_given says.table faults.1.1.0 faults.1.1.1.0);
      laws = says.laws;
    }
