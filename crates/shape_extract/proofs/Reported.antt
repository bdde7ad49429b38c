-- What the rules of circuits report is the number of a shape; or that of a label, which is counted after all shapes.
use Rattle.std.specs.Prelude.{◌⊎◌, ℕ, ◌+◌, ◌<◌, List, length}
use Rattle.std.proofs.Common.{arith, inl, inr}
use Rattle.std.proofs.lemmas.Option.{slice_get_within}
use Rattle.geom.specs.declared.shapes.Shape.{Shape}
use Rattle.geom.specs.declared.shapes.Flat.{Flat}
use Rattle.layout_rules.specs.CircuitRules.{IsNoCell, IsStrayPin, NetsBroken}
use Rattle.layout_rules.specs.CircuitRules.{IsLabelAt, IsNoPortLabel, IsUnlabelledPort, IsMisnumbered}

-- what is at fault is a shape
pub fault_within : (shapes : List Shape) (n : ℕ) → IsNoCell shapes n ⊎ IsStrayPin shapes n → n < length shapes
fault_within shapes n fault = elim fault [
  | inl cell ↦ slice_get_within shapes n cell.frame.shape cell.frame.shape_is
  | inr pin ↦ slice_get_within shapes n pin.pin.shape pin.pin.shape_is
]

-- the first number that the rule of nets reports is that of a shape
pub nets_within : (flat : Flat) (a b : ℕ) → NetsBroken flat a b → a < length flat.shapes
nets_within flat a b h = elim h [
  | inl rival ↦ slice_get_within flat.shapes a rival.pin.shape rival.pin.shape_is
  | inr rest ↦ elim rest.1 [
    | inl undriven ↦ slice_get_within flat.shapes a undriven.0.input.pin undriven.0.input.pin_is
    | inr driven ↦ slice_get_within flat.shapes a driven.1.input.pin driven.1.input.pin_is
  ]
]

-- a label's reported number is below the number of shapes and labels together
label_within : (flat : Flat) (n : ℕ) → IsLabelAt flat n → n < length flat.shapes + length flat.labels
label_within flat n at =
    let lt : at.place < length flat.labels = slice_get_within flat.labels at.place at.label at.label_is in
    omega (arith, at.number_is)

-- so is the number reported for a label that marks no port
pub no_port_label_within : (flat : Flat) (n : ℕ) → IsNoPortLabel flat n → n < length flat.shapes + length flat.labels
no_port_label_within flat n fault = label_within flat n fault.at

-- the number reported for a port with no label, or with several, is that of a shape
pub unlabelled_port_within : (flat : Flat) (p : ℕ) → IsUnlabelledPort flat p → p < length flat.shapes
unlabelled_port_within flat p fault = slice_get_within flat.shapes p fault.port.shape fault.port.shape_is

-- the number reported for a label that is numbered wrongly is below that of shapes and labels together
pub misnumbered_within : (flat : Flat) (n : ℕ) → IsMisnumbered flat n → n < length flat.shapes + length flat.labels
misnumbered_within flat n fault = label_within flat n fault.at
