-- What a text says, be it one model or a design of several that call one another.
use Rattle.std.specs.Prelude.{◌≡◌, ℕ, List, true, false}
use Rattle.blif_read.specs.Lines.{logical_lines}
use Rattle.blif_read.specs.Models.{is_design, SaysModels, ModelsFault}
use Rattle.blif_read.specs.Says.{SaysNet, Fault}
use Rattle.blif_read.specs.declared.texts.ReadText.{ReadText}
use Rattle.blif_read.specs.declared.texts.ReadText.TheVariants.{Plain, Design}
use Rattle.blif_read.specs.declared.netlist.BlifFault.{BlifFault}

-- a design says models, and another text a netlist
abbrev pub SaysText : List ℕ → ReadText → Type 0
SaysText text (Plain net) = (is_design (logical_lines text) ≡ false) × SaysNet text net
SaysText text (Design models) = (is_design (logical_lines text) ≡ true) × SaysModels text models

-- the first fault of a text: of its models, where it is a design
abbrev pub TextFault : List ℕ → BlifFault → Type 0
TextFault text fault =
    elim (is_design (logical_lines text)) [ true ↦ ModelsFault text fault | false ↦ Fault text fault ]
