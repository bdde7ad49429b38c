-- How a line runs along a bar, judged by the contacts of the bar.
use Rattle.std.proofs.Common.{◌≡◌, ◌≢◌, ℕ, ◌+◌, ◌<◌, ◌≤◌, inl, inr, Bool, true, false, List, length, Some, sym, ap}
use Rattle.std.proofs.Common.{subst, ◌∙◌, arith}
use Rattle.std.specs.Prelude.{slice_get, slice_index}
use Rattle.std.proofs.lemmas.Bool.{cases_eq, both_ways}
use Rattle.std.proofs.lemmas.Option.{same_Some}
use Rattle.geom.specs.declared.shapes.Shape.{Shape}
use Rattle.layout_rules.specs.declared.layers.TheConstants.{BAR}
use Rattle.layout_rules.specs.ExcitationLines.{Contact, IsPart, IsReached, enters, leaves}
use Rattle.layout_rules.specs.ExcitationRule.{AreLaidOut}
use Rattle.layout_rules.specs.Code.LineChains.{ChainBefore}
use Rattle.layout_rules.specs.Code.ChainRule.{ChainLeavesWrongly, IsChainUncrossed}
use Rattle.layout_rules.proofs.ChainsAgree.{one_before}
use Rattle.shape_extract.specs.Searches.{SaysWhether, AreThose}
use Rattle.shape_extract.specs.Code.Lines.{AreWalked, GoesOnWrongly}
use Rattle.shape_extract.proofs.LineReach.{Before-reached, bar_before}

-- at the first contacts, other than the shape before, the line goes on at the other side alone
abbrev pub GoWellBelow : List Shape → List ℕ → ℕ → Shape → Shape → ℕ → Type 0
GoWellBelow shapes contacts a before bar n = (p : ℕ) (s : Shape) → p < n → slice_index contacts p ≢ a
    → slice_get shapes (slice_index contacts p) ≡ Some s → leaves before bar s ≡ true

module _ (shapes : List Shape) (contacts : List ℕ) (a : ℕ) (before bar : Shape) (n : ℕ)
    (so_far : GoWellBelow shapes contacts a before bar n) where
  pub go_well_past : slice_index contacts n ≡ a → GoWellBelow shapes contacts a before bar (n + 1)
  go_well_past is p s lt ne at = elim (cases_eq p n) [
    | inl e ↦ absurd (ne (ap (slice_index contacts) e ∙ is))
    | inr other ↦ so_far p s (omega arith) ne at
  ]

  pub go_well_more : (after : Shape) → slice_get shapes (slice_index contacts n) ≡ Some after
      → leaves before bar after ≡ true → GoWellBelow shapes contacts a before bar (n + 1)
  go_well_more after got well p s lt ne at = elim (cases_eq p n) [
    | inl e ↦ ap (leaves before bar)
        (same_Some s after (sym at ∙ (ap (λ (k : ℕ). slice_get shapes (slice_index contacts k)) e ∙ got))) ∙ well
    | inr other ↦ so_far p s (omega arith) ne at
  ]

module _ (shapes : List Shape) (contacts : List ℕ) (a b : ℕ) (are : AreThose (Contact shapes b) contacts)
    (before bar : Shape) (before_is : slice_get shapes a ≡ Some before) (bar_is : slice_get shapes b ≡ Some bar) where
  pub goes_wrong : (p : ℕ) (after : Shape) → p < length contacts → slice_index contacts p ≢ a
      → slice_get shapes (slice_index contacts p) ≡ Some after → leaves before bar after ≡ false
      → GoesOnWrongly shapes a b
  goes_wrong p after lt ne got wrong =
      let contact = are.each p lt in
      record {
        bar = bar;
        bar_is = bar_is;
        before = before;
        before_is = before_is;
        wrong = record {
          after = slice_index contacts p;
          contact = contact;
          onward = ne;
          wrong = ap (leaves before bar) (same_Some contact.second after (sym contact.second_is ∙ got)) ∙ wrong;
        };
      }

  pub goes_well : (n : ℕ) → length contacts ≤ n → GoWellBelow shapes contacts a before bar n
      → GoesOnWrongly shapes a b → ⊥
  goes_well n all well wrong =
      let k = are.complete wrong.wrong.after wrong.wrong.contact in
      let there : slice_get shapes (slice_index contacts k.0) ≡ Some wrong.wrong.contact.second =
      ap (slice_get shapes) k.1.1 ∙ wrong.wrong.contact.second_is in
      let so : leaves before bar wrong.wrong.contact.second ≡ true = well k.0 wrong.wrong.contact.second
      (omega (arith, k.1.0)) (λ e. wrong.wrong.onward (sym k.1.1 ∙ e)) there in
      let same_before : before ≡ wrong.before = same_Some before wrong.before (sym before_is ∙ wrong.before_is) in
      let same_bar : bar ≡ wrong.bar = same_Some bar wrong.bar (sym bar_is ∙ wrong.bar_is) in
      both_ways (leaves wrong.before wrong.bar wrong.wrong.contact.second) wrong.wrong.wrong
      (ap (λ (x : Shape). leaves wrong.before x wrong.wrong.contact.second) (sym same_bar)
      ∙ (ap (λ (x : Shape). leaves x bar wrong.wrong.contact.second) (sym same_before) ∙ so))

-- ---- the answer for one shape

module _ (shapes : List Shape) (before : List ℕ) (lines : AreLaidOut shapes) (w : AreWalked shapes before) (b : ℕ)
    (lt : b < length shapes) where
  pub not_come : (IsReached shapes b → ⊥) → IsChainUncrossed shapes b → ⊥
  not_come not_so fault = not_so (Before-reached shapes fault.before b fault.is_before)

  module _ (is : IsPart shapes BAR b) (reached : IsReached shapes b) (from bar : Shape)
      (from_is : slice_get shapes (slice_index before b) ≡ Some from) (bar_is : slice_get shapes b ≡ Some bar) where
    comes : ChainBefore shapes (slice_index before b) b
    comes = bar_before shapes before w b lt is reached

    same_bar : (p : IsPart shapes BAR b) → bar ≡ p.shape
    same_bar p = same_Some bar p.shape (sym bar_is ∙ p.shape_is)

    pub enters_wrongly : enters from bar ≡ false → IsChainUncrossed shapes b
    enters_wrongly wrong = record {
      bar = is;
      before = slice_index before b;
      before_shape = from;
      before_shape_is = from_is;
      is_before = comes;
      wrong = inl (ap (enters from) (sym (same_bar is)) ∙ wrong);
    }

    -- the shape before is the one that the walk left
    same_before : (fault : IsChainUncrossed shapes b) → slice_index before b ≡ fault.before
    same_before fault = one_before shapes lines (slice_index before b) fault.before b comes fault.is_before

    same_shape : (fault : IsChainUncrossed shapes b) → from ≡ fault.before_shape
    same_shape fault = same_Some from fault.before_shape
        (sym from_is ∙ (ap (slice_get shapes) (same_before fault) ∙ fault.before_shape_is))

    pub crossed : enters from bar ≡ true → (answer : Bool)
        → SaysWhether answer (GoesOnWrongly shapes (slice_index before b) b)
        → SaysWhether answer (IsChainUncrossed shapes b)
    crossed well true on =
        let bars : on.bar ≡ is.shape = same_Some on.bar is.shape (sym on.bar_is ∙ is.shape_is) in
        let froms : on.before ≡ from = same_Some on.before from (sym on.before_is ∙ from_is) in
        record {
          bar = is;
          before = slice_index before b;
          before_shape = from;
          before_shape_is = from_is;
          is_before = comes;
          wrong = inr (subst (λ (x : Shape). ChainLeavesWrongly shapes b (slice_index before b) x from) bars
              (rw froms at on.wrong));
        }
    crossed well false on = λ fault. elim fault.wrong [
      | inl wrong ↦ both_ways (enters fault.before_shape fault.bar.shape) wrong
          (ap (enters fault.before_shape) (sym (same_bar fault.bar))
          ∙ (ap (λ (x : Shape). enters x bar) (sym (same_shape fault)) ∙ well))
      | inr wrong ↦ on (record {
        bar = fault.bar.shape;
        bar_is = fault.bar.shape_is;
        before = fault.before_shape;
        before_is = ap (slice_get shapes) (same_before fault) ∙ fault.before_shape_is;
        wrong = rw (same_before fault) wrong;
      })
    ]
