-- The laws in the order of their numbers: each stands at its number.
use Rattle.std.proofs.Common.{ℕ, ◌≡◌, ◌<◌, ◌+◌, ◌-◌, List, [], ◌∷◌, zero, suc, get_or, length, arith, refl}
use Rattle.cell_library.specs.declared.laws.PinLaw.TheVariants.{Counts, InputSlots, OutputSlots, OddInputs, EvenOutputs}
use Rattle.cell_library.specs.declared.laws.Law.{Law}
use Rattle.cell_library.specs.declared.laws.Law.TheVariants.{EvenSizes, EvenColumns, ViaInWire, TracksApart, PinsApart}
use Rattle.cell_library.specs.declared.laws.Law.TheVariants.{OfPins, Reach, WireInPin, WidestCell, Capacity}
use Rattle.cell_library.specs.Laws.{law_number}

abbrev pub all_laws : List Law
all_laws = EvenSizes ∷ EvenColumns ∷ ViaInWire ∷ TracksApart ∷ PinsApart ∷ OfPins Counts ∷ OfPins InputSlots ∷ OfPins
    OutputSlots ∷ OfPins OddInputs ∷ OfPins EvenOutputs ∷ Reach ∷ WireInPin ∷ WidestCell ∷ Capacity ∷ []

-- each law stands one place before its number
pub law_at : (law : Law) → get_or all_laws (law_number law - 1) EvenSizes ≡ law
law_at EvenSizes = refl
law_at EvenColumns = refl
law_at ViaInWire = refl
law_at TracksApart = refl
law_at PinsApart = refl
law_at (OfPins Counts) = refl
law_at (OfPins InputSlots) = refl
law_at (OfPins OutputSlots) = refl
law_at (OfPins OddInputs) = refl
law_at (OfPins EvenOutputs) = refl
law_at Reach = refl
law_at WireInPin = refl
law_at WidestCell = refl
law_at Capacity = refl

-- a law's number is from 1 to 14
pub record IsLawNumber (law : Law) : Type 0 where
  pub some : 0 < law_number law
  pub most : law_number law < 15

pub law_numbers : (law : Law) → IsLawNumber law
law_numbers EvenSizes = record { some = omega arith; most = omega arith }
law_numbers EvenColumns = record { some = omega arith; most = omega arith }
law_numbers ViaInWire = record { some = omega arith; most = omega arith }
law_numbers TracksApart = record { some = omega arith; most = omega arith }
law_numbers PinsApart = record { some = omega arith; most = omega arith }
law_numbers (OfPins Counts) = record { some = omega arith; most = omega arith }
law_numbers (OfPins InputSlots) = record { some = omega arith; most = omega arith }
law_numbers (OfPins OutputSlots) = record { some = omega arith; most = omega arith }
law_numbers (OfPins OddInputs) = record { some = omega arith; most = omega arith }
law_numbers (OfPins EvenOutputs) = record { some = omega arith; most = omega arith }
law_numbers Reach = record { some = omega arith; most = omega arith }
law_numbers WireInPin = record { some = omega arith; most = omega arith }
law_numbers WidestCell = record { some = omega arith; most = omega arith }
law_numbers Capacity = record { some = omega arith; most = omega arith }

-- the numbers of the laws of a list rise by one
abbrev AreNumbered : ℕ → List Law → Type 0
AreNumbered n [] = Unit {0}
AreNumbered n (law ∷ laws) = (law_number law ≡ n) × AreNumbered (n + 1) laws

number_at : (laws : List Law) (n k : ℕ) → AreNumbered n laws → k < length laws
    → law_number (get_or laws k EvenSizes) ≡ n + k
number_at [] n k numbered within = absurd (omega arith)
number_at (law ∷ laws) n zero numbered within = omega (arith, numbered.0)
number_at (law ∷ laws) n (suc k) numbered within = omega (arith, number_at laws (n + 1) k numbered.1 (omega arith))

-- the law at a place has the next number
pub law_number_at : (k : ℕ) → k < 14 → law_number (get_or all_laws k EvenSizes) ≡ k + 1
law_number_at k within = omega (
  arith,
  number_at all_laws 1 k
      (refl, (refl, (refl, (refl, (refl, (refl, (refl, (refl, (refl, (refl, (refl, (refl, (refl, (refl, tt))))))))))))))
      within,
)

-- what holds at each place of the list of laws holds of each law
pub each_law : (P : Law → Type 0) (n : ℕ) → ((k : ℕ) → k < n → P (get_or all_laws k EvenSizes)) → (law : Law)
    → law_number law < n + 1 → P law
each_law P n h law below = let numbers = law_numbers law in rw (law_at law) at (h (law_number law - 1) (omega arith))
