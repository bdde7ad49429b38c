-- Flux lines: the flux of each cell of a row at a time of the settled run.
use Rattle.std.specs.Prelude.{ℕ, zero, suc, ◌+◌, ◌*◌, ◌==◌, Bool, true, false, List, [], ◌∷◌, ◌++◌, codes, length}
use Rattle.std.specs.Fmt.{decimal}
use Rattle.circuit_extracted.specs.declared.cells.ExCell.{ExCell}
use Rattle.circuit_extracted.specs.Circuits.{CircuitView}
use Rattle.pulse_sim.specs.declared.flux.Flux.{Flux}
use Rattle.pulse_sim.specs.declared.flux.Flux.TheVariants.{Minus, Off, Plus}
use Rattle.pulse_sim.specs.Settled.{settled_run}
use Rattle.text_answers.specs.Counts.{counts_line, delay_of}

-- `+`, `-`, and `.` where there is no flux
abbrev pub sign_of : Flux → ℕ
sign_of Minus = 45
sign_of Off = 46
sign_of Plus = 43

-- the signs of the cells of a row, in the order of the cells
abbrev pub signs_in : ℕ → List ExCell → List Flux → List ℕ
signs_in row [] fluxes = []
signs_in row (cell ∷ cells) [] = []
signs_in row (cell ∷ cells) (flux ∷ fluxes) = elim (cell.row == row) [
  | true ↦ sign_of flux ∷ signs_in row cells fluxes
  | false ↦ signs_in row cells fluxes
]

-- the time, the row, and the signs of its cells
abbrev pub flux_line : ℕ → ℕ → List ℕ → List ℕ
flux_line time row signs = decimal time ++ codes " " ++ decimal row ++ codes " " ++ signs ++ codes "\n"

-- the lines of the first n rows at a time
abbrev pub row_lines : CircuitView → ℕ → List Flux → ℕ → List ℕ
row_lines circuit time fluxes zero = []
row_lines circuit time fluxes (suc row) = row_lines circuit time fluxes row
    ++ flux_line time row (signs_in row circuit.cells fluxes)

-- the lines of all rows at each of the first n times, after the tick of the time
abbrev pub time_lines : CircuitView → List (List Bool) → ℕ → List ℕ
time_lines circuit words zero = []
time_lines circuit words (suc time) = time_lines circuit words time
    ++ row_lines circuit time (settled_run circuit words (suc time)) circuit.rows

-- how many ticks it takes until the last of n words is answered
abbrev pub ticks_for : ℕ → ℕ → ℕ
ticks_for delay zero = 0
ticks_for delay (suc last) = 4 * last + delay + 1

-- the counts line, and the flux lines until the last word is answered
unfoldable pub trace_text : CircuitView → List (List Bool) → List ℕ
trace_text circuit words = counts_line circuit ++ time_lines circuit words (ticks_for (delay_of circuit) (length words))
