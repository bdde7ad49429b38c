-- What `shapes` prints of the text of a layout: the shapes or labels of two numbers.
use Rattle.std.specs.Prelude.{ℕ, ◌≡◌, ◌<◌, ◌≤◌, ◌⊎◌, List, ◌∷◌, ◌++◌}
use Rattle.aq_base.specs.Output.{Output}
use Rattle.aq_base.specs.Output as output
use Rattle.aq_base.specs.History.{Event, Loaded}
use Rattle.geom.specs.declared.shapes.Flat.{Flat}
use Rattle.geom.specs.FlatForm.{flat_count}
use Rattle.poly_cut.specs.declared.layout.WideLayout.{WideLayout}
use Rattle.poly_cut.specs.FlatForm.{wide_flat}
use Rattle.text_report.specs.ShapeLines.{shape_line}
use Rattle.aqfp_top.specs.Words.{word_at}
use Rattle.aqfp_top.specs.Checks.{IsLayoutOf}
use Rattle.aqfp_top.specs.declared.fault.Fault.{Fault}
use Rattle.aqfp_top.specs.declared.fault.Fault.TheVariants.{NoShape}

-- there are so many shapes and labels, and this is the first of the two numbers that is not below it
pub record IsNoShape (flat : Flat) (first second number count : ℕ) : Type 0 where
  pub count_is : count ≡ flat_count flat
  pub past : count ≤ number
  pub which : (number ≡ first) ⊎ ((first < count) × (number ≡ second))

-- so it is in the layout of the bytes
pub record IsPastShapes (gds : List ℕ) (first second number count : ℕ) : Type 0 where
  pub layout : WideLayout
  pub read : IsLayoutOf gds layout
  pub none : IsNoShape (wide_flat layout) first second number count

-- one of the numbers is none of a shape or label
abbrev pub IsNumberFault : List ℕ → ℕ → ℕ → Fault → Type 0
IsNumberFault gds first second (NoShape number count) = IsPastShapes gds first second number count
IsNumberFault gds first second _ = ⊥

-- the text has the lines of the shapes or labels of these numbers
pub record HasLines (flat : Flat) (first second : ℕ) (text : List ℕ) : Type 0 where
  pub first_there : first < flat_count flat
  pub second_there : second < flat_count flat
  pub text_is : text ≡ shape_line flat first ++ shape_line flat second

-- the shapes are those of the layout of the bytes
pub record AreShapes (gds : List ℕ) (first second : ℕ) (text : List ℕ) : Type 0 where
  pub layout : WideLayout
  pub read : IsLayoutOf gds layout
  pub lines : HasLines (wide_flat layout) first second text

-- what any store hears of it: GDS gave these bytes, and nothing else was asked or given
pub record HearsShapes (history history' : List Event) (words : List (List ℕ)) (first second : ℕ)
    (before after : Output) : Type 0 where
  pub gds : List ℕ
  pub history_is : history' ≡ Loaded (word_at words 1) gds ∷ history
  pub text : List ℕ
  pub shapes : AreShapes gds first second text
  pub printed : after ≡ output.printed text before
