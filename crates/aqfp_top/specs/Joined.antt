-- What `verify` finds and prints of a chip that was stored, with the library that it was made with.
use Rattle.std.specs.Prelude.{◌≡◌, ℕ, ◌<◌, Bool, List, ◌++◌, length, Option, None}
use Rattle.std.specs.List.{AllZip, flat_map}
use Rattle.aq_base.specs.Output.{Output}
use Rattle.aq_base.specs.Output as output
use Rattle.blif_read.specs.Parts.{NetView}
use Rattle.blif_read.specs.Equations.{IsAnswer}
use Rattle.rowed.specs.PlacedNets.{PlacedView}
use Rattle.cell_library.specs.Library.{LibraryView}
use Rattle.circuit_extracted.specs.Circuits.{CircuitView}
use Rattle.text_answers.specs.WordsText.{words_of}
use Rattle.text_answers.specs.WordLines.{word_line, answers_to, answers_text}
use Rattle.layout_realises.specs.RealisesNet.{most_bytes}
use Rattle.aqfp_top.specs.Checks.{IsSound, SaysSound}
use Rattle.aqfp_top.specs.Designs.{stream_of, counts_of}
use Rattle.aqfp_top.specs.Due.{IsDoneOrOutside}
use Rattle.aqfp_top.specs.declared.fault.Fault.{Fault}

-- what is printed of the circuit and words: the counts line of the chip, and a line for the netlist's answer to each
-- word
pub record PrintsAsNet (net : NetView) (chip : PlacedView) (circuit : CircuitView) (words : List (List Bool))
    : Type 0 where
  pub answers : List (List Bool)
  pub are_answers : AllZip (IsAnswer net) words answers
  pub printed : answers_text circuit (answers_to circuit words) ≡ counts_of chip ++ flat_map word_line answers

-- The stored bytes are short enough to be read, nothing is wrong with them, the library's text and the words, and
-- whatever circuit is found in them is printed as the netlist.
pub record VerifiesAsNet (net : NetView) (chip : PlacedView) (cells : LibraryView) (lib text : List ℕ)
    : Type 0 where
  pub short : length (stream_of chip cells) < most_bytes
  pub sound : SaysSound (stream_of chip cells) lib text
  pub prints : (circuit : CircuitView) → IsSound (stream_of chip cells) lib text circuit
      → PrintsAsNet net chip circuit (words_of text)

-- `out` gained the counts line of the chip, and a line for the netlist's answer to each word
pub record PrintsNet (net : NetView) (chip : PlacedView) (words : List (List Bool)) (out out' : Output) : Type 0 where
  pub answers : List (List Bool)
  pub are_answers : AllZip (IsAnswer net) words answers
  pub printed : out' ≡ output.printed (counts_of chip ++ flat_map word_line answers) out

-- a `verify` after it ended so: it printed the netlist's answers, but for want of memory and for the outside
abbrev pub VerifiesNet : NetView → PlacedView → List (List Bool) → Output → Output → Option Fault → Type 0
VerifiesNet net chip words out out' None = PrintsNet net chip words out out'
VerifiesNet net chip words out out' answer = IsDoneOrOutside answer
