-- The faults before the laws are faults of keys, values and kinds: none is of the text or of a law.
use Rattle.std.proofs.Common.{ℕ, ℤ, ◌≡◌, List, [], ◌∷◌, map, Option, Some, None, option_map, option_and_then, subst}
use Rattle.std.proofs.Common.{Err, IfSome, find, is_none, codes}
use Rattle.std.specs.Option.{option_or}
use Rattle.std.specs.List.{AllByRecursion}
use Rattle.toml.specs.Data.{Data, Members, get_member}
use Rattle.circuit.specs.declared.cell_kind.CellKind.{CellKind}
use Rattle.cell_library.specs.declared.fault.LibraryFault.{LibraryFault}
use Rattle.cell_library.specs.declared.fault.LibraryFault.TheVariants.{Text, Key, Value, Law, Missing}
use Rattle.cell_library.specs.Kinds.{all_kinds, mandatory_kinds, key_of}
use Rattle.cell_library.specs.Numbers.{Number, numbers}
use Rattle.cell_library.specs.Documents.{integer_under, integers_under, table_under, natural_within, other_keys, least}
use Rattle.cell_library.specs.Faults.{first_some, top_keys, pins_keys, unknown_key_fault, range_fault, integer_fault}
use Rattle.cell_library.specs.Faults.{number_fault, numbers_fault, missing_fault, dotted, columns_fault_of}
use Rattle.cell_library.specs.Faults.{columns_fault, inner_key_fault, inner_fault, given_fault, kind_fault, kinds_fault}
use Rattle.cell_library.specs.Faults.{table_fault}
use Rattle.cell_library.specs.declared.fault.LibraryRefusal.{LibraryRefusal}
use Rattle.cell_library.specs.declared.fault.LibraryRefusal.TheVariants.{Bad, Memory}
use Rattle.cell_library.specs.Library.{LibraryView}
use Rattle.cell_library.specs.Says.{LibFault}
use Rattle.cell_library.specs.Code.Stages.{Judges, IsJudged}

-- a fault of a key, a value or a kind
abbrev pub IsEarly : LibraryFault → Type 0
IsEarly Text = ⊥
IsEarly (Law number) = ⊥
IsEarly fault = Unit {0}

either : (a b : Option LibraryFault) → IfSome a IsEarly → IfSome b IsEarly → IfSome (option_or a b) IsEarly
either None b ha hb = hb
either (Some x) b ha hb = ha

first : (os : List (Option LibraryFault)) → AllByRecursion (λ o. IfSome o IsEarly) os → IfSome (first_some os) IsEarly
first [] all = tt
first (o ∷ os) all = either o (first_some os) all.0 (first os all.1)

mapped : {X : Type 0} (f : X → LibraryFault) (o : Option X) → ((x : X) → IsEarly (f x))
    → IfSome (option_map f o) IsEarly
mapped f None h = tt
mapped f (Some x) h = h x

each : {X : Type 0} (f : X → Option LibraryFault) (xs : List X) → ((x : X) → IfSome (f x) IsEarly)
    → AllByRecursion (λ o. IfSome o IsEarly) (map f xs)
each f [] h = tt
each f (x ∷ xs) h = (h x, each f xs h)

of_range : (key : List ℕ) (z : ℤ) (o : Option ℕ) → IfSome (range_fault key z o) IsEarly
of_range key z None = tt
of_range key z (Some n) = tt

of_integer : (number : Number) (o : Option ℤ) → IfSome (integer_fault number o) IsEarly
of_integer number None = tt
of_integer number (Some z) = of_range number.key z (natural_within 1 number.most z)

of_columns : (key : List ℕ) (o : Option (List ℤ)) → IfSome (columns_fault_of key o) IsEarly
of_columns key None = tt
of_columns key (Some zs) = mapped (λ z. Value key z) (find (λ z. is_none (natural_within 0 2999 z)) zs) (λ z. tt)

of_side : (inner : Members) (kind : CellKind) (part : List ℕ) → IfSome (columns_fault inner kind part) IsEarly
of_side inner kind part = of_columns (dotted kind part) (integers_under inner part)

of_inner : (kind : CellKind) (o : Option Members) → IfSome (inner_fault kind o) IsEarly
of_inner kind None = tt
of_inner kind (Some inner) =
    first (inner_key_fault inner kind ∷ columns_fault inner kind
    (codes "inputs") ∷ columns_fault inner kind (codes "outputs") ∷ []) (
      mapped (λ key. Key (dotted kind key)) (least (other_keys pins_keys inner)) (λ key. tt),
      (of_side inner kind (codes "inputs"), (of_side inner kind (codes "outputs"), tt)),
    )

of_value : (ms : Members) (kind : CellKind) (value : Option Data)
    → IfSome (option_and_then (λ v. given_fault ms kind) value) IsEarly
of_value ms kind None = tt
of_value ms kind (Some value) = of_inner kind (table_under ms (key_of kind))

pub early : (ms : Members) → IfSome (table_fault ms) IsEarly
early ms =
    first (unknown_key_fault ms ∷ numbers_fault ms ∷ missing_fault ms ∷ kinds_fault ms ∷ []) (
      mapped (λ key. Key key) (least (other_keys top_keys ms)) (λ key. tt),
      (
        first (map (number_fault ms) numbers)
            (each (number_fault ms) numbers (λ number. of_integer number (integer_under ms number.key))),
        (
          mapped (λ kind. Missing kind)
              (find (λ kind. is_none (get_member (key_of kind) ms)) mandatory_kinds) (λ kind. tt),
          (
            first (map (kind_fault ms) all_kinds)
                (each (kind_fault ms) all_kinds (λ kind. of_value ms kind (get_member (key_of kind) ms))),
            tt,
          ),
        ),
      ),
    )

-- the first fault before the laws is the first
pub early_first : (ms : Members) (fault : LibraryFault) → table_fault ms ≡ Some fault → LibFault ms fault
early_first ms Text e = let h : ⊥ = subst (λ (o : Option LibraryFault). IfSome o IsEarly) e (early ms) in h
early_first ms (Law number) e = let h : ⊥ =
    subst (λ (o : Option LibraryFault). IfSome o IsEarly) e (early ms) in absurd h
early_first ms (Key key) e = e
early_first ms (Value key z) e = e
early_first ms (Missing kind) e = e

-- a refusal before the laws
pub refused_early : (ms : Members) (P : LibraryView → Type 0) (refusal : LibraryRefusal)
    → Judges (table_fault ms) P (Err refusal) → IsJudged ms (Err refusal)
refused_early ms P (Bad fault) j = early_first ms fault j
refused_early ms P Memory j = tt
