-- What a netlist of a design means: it answers each word as the design's first model does.
use Rattle.std.specs.Prelude.{◌≡◌, Bool, List, length}
use Rattle.blif_read.specs.Parts.{NetView}
use Rattle.blif_read.specs.Equations.{IsAnswer}
use Rattle.blif_read.specs.declared.models.BlifModel.{BlifModel}
use Rattle.blif_flat.specs.Meaning.{DesignAnswers}

-- a netlist answers each word of its inputs as the first of some models does
abbrev pub NetMeans : List BlifModel → NetView → Type 0
NetMeans models net = (word answer : List Bool) → length word ≡ net.inputs
    → (DesignAnswers models word answer → IsAnswer net word answer)
    × (IsAnswer net word answer → DesignAnswers models word answer)
