-- The start and the bar of a delay, pushed one after the other.
use Rattle.std.proofs.Common.{◌≡◌, ℕ, zero, suc, ◌<◌, ◌≤◌, List, [], ◌∷◌, ◌++◌, ap, sym, ◌∙◌, arith, append_assoc}
use Rattle.std.proofs.lemmas.List.{append-nil}
use Rattle.geom.specs.declared.layout.Element.{Element}
use Rattle.cell_library.specs.Library.{LibraryView}
use Rattle.layout_make.specs.Code.Boxes.{lag_start, lag_bar, lag_boxes}

pub both_boxes : (l : LibraryView) (lag : ℕ) (old one two : List Element) → 0 < lag
    → one ≡ old ++ lag_start l lag ∷ [] → two ≡ one ++ lag_bar l lag ∷ [] → two ≡ old ++ lag_boxes l lag
both_boxes l zero old one two some first second = absurd (omega arith)
both_boxes l (suc n) old one two some first second =
    second ∙ ap (λ (xs : List Element). xs ++ lag_bar l (suc n) ∷ []) first
    ∙ append_assoc old (lag_start l (suc n) ∷ []) (lag_bar l (suc n) ∷ [])

pub no_boxes : (l : LibraryView) (lag : ℕ) (old : List Element) → lag ≤ 0 → old ≡ old ++ lag_boxes l lag
no_boxes l zero old none = sym (append-nil old)
no_boxes l (suc n) old none = absurd (omega arith)

pub ruleset lags = (both_boxes, no_boxes)
