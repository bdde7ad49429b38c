-- What the rules give the report: nets with one source each, rows one above the other, and no net too long to add up.
use Rattle.std.proofs.Common.{ℕ, ◌<◌, ◌^◌, arith}
use Rattle.geom.specs.declared.shapes.Flat.{Flat}
use Rattle.layout_rules.specs.declared.rule.Rule.TheVariants.{E1, E3, E5, G5}
use Rattle.layout_rules.specs.LengthRule.{net_length}
use Rattle.layout_rules.specs.Limits.{Limits}
use Rattle.layout_rules.specs.Rules.{KeepsRules}
use Rattle.circuit_extracted.specs.Circuits.{CircuitView}
use Rattle.shape_extract.specs.Extracts.{Extracts}
use Rattle.text_report.specs.Code.Sources.{AreInOrder}
use Rattle.text_report.proofs.NetSums.{net_short}

pub order_from : (flat : Flat) (circuit : CircuitView) (limits : Limits) → Extracts flat circuit
    → KeepsRules flat limits
    → AreInOrder flat circuit.nets
order_from flat circuit limits extracted kept = record {
  are_nets = extracted.circuit_is.nets;
  cells = kept E1;
  driven = kept E3;
  frames = kept G5;
}

pub short_from : (flat : Flat) (circuit : CircuitView) (limits : Limits) → Extracts flat circuit
    → KeepsRules flat limits
    → limits.limit < 2 ^ 64 → (net : ℕ) → net_length flat.shapes circuit.nets net < 2 ^ 64
short_from flat circuit limits extracted kept few net =
    omega (arith, net_short limits flat.shapes circuit.nets extracted.circuit_is.nets (kept E5) net)
