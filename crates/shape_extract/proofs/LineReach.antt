-- Shapes that the walk along lines reached.
use Rattle.std.proofs.Common.{◌≡◌, ℕ, ◌<◌, ◌≤◌, inl, inr, Bool, true, false, List, [], ◌∷◌, length, Some, sym, ap}
use Rattle.std.proofs.Common.{◌∙◌, arith}
use Rattle.std.specs.Prelude.{slice_get, slice_index, not, nat_lt}
use Rattle.std.proofs.lemmas.Bool.{cases_lt, both_ways, lt-ltb}
use Rattle.std.proofs.lemmas.Option.{same_Some}
use Rattle.geom.specs.declared.shapes.Shape.{Shape}
use Rattle.layout_rules.specs.declared.layers.TheConstants.{BAR, START}
use Rattle.layout_rules.specs.Layers.{is_line}
use Rattle.layout_rules.specs.ExcitationLines.{IsPart, IsReached}
use Rattle.layout_rules.specs.ExcitationRule.{IsCutOff}
use Rattle.layout_rules.specs.Code.LineChains.{ChainBefore}
use Rattle.shape_extract.specs.Searches.{SaysWhether}
use Rattle.shape_extract.specs.Code.Lines.{AreWalked}

not_below : (a b : ℕ) → b ≤ a → nat_lt a b ≡ false
not_below a b h = grind arith

pub Before-reached : (shapes : List Shape) (a b : ℕ) → ChainBefore shapes a b → IsReached shapes b
Before-reached shapes a b before = record { rest = a ∷ before.rest; chain = before.chain }

module _ (shapes : List Shape) (before : List ℕ) (w : AreWalked shapes before) (n : ℕ) (lt : n < length shapes) where
  pub reached_from : slice_index before n < length shapes → IsReached shapes n
  reached_from known = elim (w.come n known lt) [
    | inl start ↦ record { rest = []; chain = start }
    | inr b ↦ Before-reached shapes (slice_index before n) n b
  ]

  pub reached_said : SaysWhether (nat_lt (slice_index before n) (length shapes)) (IsReached shapes n)
  reached_said = elim (cases_lt (slice_index before n) (length shapes)) [
    | inl less ↦ rw (lt-ltb (slice_index before n) (length shapes) less) (reached_from less)
    | inr ge ↦ rw (not_below (slice_index before n) (length shapes) ge)
        (λ reached. (let k : slice_index before n < length shapes = w.all n reached in omega arith))
  ]

  -- a bar that is reached has the shape before it
  pub bar_before : IsPart shapes BAR n → IsReached shapes n → ChainBefore shapes (slice_index before n) n
  bar_before bar reached = elim (w.come n (w.all n reached) lt) [
    | inl start ↦ absurd (
        let same : bar.shape.datatype ≡ start.shape.datatype = ap (λ (s : Shape). s.datatype)
        (same_Some bar.shape start.shape (sym bar.shape_is ∙ start.shape_is)) in
        let e : BAR ≡ START = sym bar.datatype_is ∙ (same ∙ start.datatype_is) in
        let f : 0 ≡ 2 = e in
        omega arith
        )
    | inr b ↦ b
  ]

-- ---- the answer for one shape

module _ (shapes : List Shape) (n : ℕ) (here : Shape) (got : slice_get shapes n ≡ Some here) where
  pub cut_off : is_line here ≡ true → (answer : Bool) → SaysWhether answer (IsReached shapes n)
      → SaysWhether (not answer) (IsCutOff shapes n)
  cut_off line true reached = λ fault. fault.not_reached reached
  cut_off line false reached =
      record { part = record { shape = here; shape_is = got; passes_so = line }; not_reached = reached }

  pub not_cut_off : is_line here ≡ false → IsCutOff shapes n → ⊥
  not_cut_off no_so fault = both_ways (is_line here) no_so
      (ap is_line (same_Some here fault.part.shape (sym got ∙ fault.part.shape_is)) ∙ fault.part.passes_so)
