-- Routes: chains of contacts that never turn back; and what a drawing shows of its excitation lines.
use Rattle.std.specs.Prelude.{◌≡◌, ℕ, ◌==◌, ◌&&◌, ◌||◌, Bool, true, List, slice_get, Some}
use Rattle.std.proofs.lemmas.Bool.{and_parts, and_from, eqb-true, eq-eqb}
use Rattle.geom.specs.Rectangle.{share_point}
use Rattle.geom.specs.declared.shapes.Shape.{Shape}
use Rattle.layout_rules.specs.declared.layers.TheConstants.{EVEN_LINE, ODD_LINE}
use Rattle.layout_rules.specs.Layers.{is_line, is_frame}
use Rattle.layout_rules.specs.Reports.{ReportsNone}
use Rattle.layout_rules.specs.ExcitationLines.{meet, IsChain}
use Rattle.layout_rules.specs.Code.ChainRule.{ChainsBroken, IsChainExcited}
use Rattle.layout_rules.specs.Code.LineChains.{NeverTurnsBack}

-- a layer of excitation lines
abbrev pub on_line : ℕ → Bool
on_line n = n == EVEN_LINE || n == ODD_LINE

-- shape i is a part of a line
abbrev pub IsLineAt : List Shape → ℕ → Shape → Type 0
IsLineAt shapes i a = (slice_get shapes i ≡ Some a) × (is_line a ≡ true)

-- a route leads from a start, by contacts and never straight back, to its first number
pub record IsRoute (shapes : List Shape) (path : List ℕ) : Type 0 where
  pub chain : IsChain shapes path
  pub onward : NeverTurnsBack path

-- two shapes of one line that share a point
pub record Meets (a b : Shape) : Type 0 where
  pub of_line : on_line a.layer ≡ true
  pub same_layer : a.layer ≡ b.layer
  pub shared : share_point a.rect b.rect ≡ true

pub meets : (a b : Shape) → meet a b ≡ true → Meets a b
meets a b e =
    let x = and_parts (is_line a && a.layer == b.layer) (share_point a.rect b.rect) e in
    let y = and_parts (is_line a) (a.layer == b.layer) x.0 in
    record { of_line = y.0; same_layer = eqb-true a.layer b.layer y.1; shared = x.1 }

pub they_meet : (a b : Shape) → Meets a b → meet a b ≡ true
they_meet a b m = and_from (is_line a && a.layer == b.layer) (share_point a.rect b.rect)
    (and_from (is_line a) (a.layer == b.layer) m.of_line (eq-eqb a.layer b.layer m.same_layer)) m.shared

-- the rule of excitation lines, by chains, reports nothing, and a chain leads to the bar over each frame
pub record AreWound (shapes : List Shape) : Type 0 where
  pub none : ReportsNone (ChainsBroken shapes)
  pub excited : (f : ℕ) (frame : Shape) → slice_get shapes f ≡ Some frame → is_frame frame ≡ true
      → IsChainExcited shapes frame
