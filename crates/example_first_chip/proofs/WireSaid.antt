-- The netlist's text is one model without a fault, of one input and one output.
use Rattle.std.proofs.Common.{refl}
use Rattle.blif_read.specs.Reads.{SaysText}
use Rattle.blif_read.specs.declared.texts.ReadText.TheVariants.{Plain}
use Rattle.example_first_chip.specs.Texts.{wire_text}
use Rattle.example_first_chip.specs.Wire.{wire}

pub wire_said : SaysText wire_text (Plain wire)
unfolding wire_text
wire_said = (refl, record { sound = refl; parts = refl })
