-- The plan of a net whose rows are within the width is what the pass is to give; so it is where nothing is to be
-- refused.
use Rattle.std.proofs.Common.{ℕ, ◌≤◌, ◌*◌, refl, arith, inl, inr}
use Rattle.std.proofs.lemmas.Bool.{cases_lt}
use Rattle.std.proofs.lemmas.Nat.{mul-le}
use Rattle.rowed.specs.RowNets.{RowView, IsRowNet}
use Rattle.rowed.specs.Limits.{slot_limit, width_limit}
use Rattle.rowed.specs.Extent.{widest_packed}
use Rattle.row_place.specs.Places.{place}
use Rattle.row_place.specs.Passes.{ArePlaces, IsTooWide}
use Rattle.row_place.proofs.PlanLaws.{places_keep, places_answer}
use Rattle.row_place.specs.declared.pass.PlaceRefusal.{PlaceRefusal}
use Rattle.row_place.specs.declared.pass.PlaceRefusal.TheVariants.{TooWide}

-- slots of one nanometre or more
fits_slots : (span width : ℕ) → 1 ≤ width → span * width ≤ width_limit → span ≤ slot_limit
fits_slots span width some within = omega (arith, mul-le span 1 span width (omega arith) some)

pub plan_given : (net : RowView) (width : ℕ) → IsRowNet net → 1 ≤ width → widest_packed net.rows * width ≤ width_limit
    → ArePlaces net width (place net)
plan_given net width known some within = record {
  net_keeps = known;
  placed_keeps = places_keep net known (fits_slots (widest_packed net.rows) width some within);
  is_plan = refl;
  within = within;
  same = places_answer net known;
}

pub given_unless_refused : (net : RowView) (width : ℕ) → IsRowNet net → 1 ≤ width
    → ((refusal : PlaceRefusal) → IsTooWide net width refusal → ⊥) → ArePlaces net width (place net)
given_unless_refused net width known some none = elim (cases_lt width_limit (widest_packed net.rows * width)) [
  | inl past ↦ absurd (none (TooWide (widest_packed net.rows)) (past, refl))
  | inr within ↦ plan_given net width known some within
]
