-- How many turns are left at most, as a majority is made.
use Rattle.std.specs.Prelude.{ℕ, zero, suc, ◌+◌, ◌-◌, List, [], ◌∷◌, Option, Some, None}
use Rattle.decide.specs.declared.edge.Edge.{Edge}
use Rattle.decide.specs.declared.edge.Node.{Node}
use Rattle.decide.specs.declared.majority.Frame.{Frame}
use Rattle.decide.specs.declared.majority.Turn.{Turn}
use Rattle.decide.specs.declared.majority.Turn.TheVariants.{Make, Made}
use Rattle.decide.specs.Code.Diagrams.{inputs_of}
use Rattle.decide.specs.Code.Majorities.{least_of}

-- for a majority of functions that read so many last levels
unfoldable pub turns_of : ℕ → ℕ
turns_of zero = 1
turns_of (suc levels) = turns_of levels + turns_of levels + 3

-- for a frame with so many levels past its own, by whether its low cofactor is made
abbrev pub cofactor_turns : Option Edge → ℕ → ℕ
cofactor_turns None levels = turns_of levels + 2
cofactor_turns (Some e) levels = 1

-- for a frame, with so many inputs in all
abbrev pub frame_turns : ℕ → Frame → ℕ
frame_turns inputs frame = cofactor_turns frame.low (inputs - suc frame.level)

-- for all frames
abbrev pub frames_turns : ℕ → List Frame → ℕ
frames_turns inputs [] = 0
frames_turns inputs (frame ∷ frames) = frame_turns inputs frame + frames_turns inputs frames

-- for what is to be made
abbrev pub turn_turns : List Node → Turn → ℕ
turn_turns nodes (Make t) = turns_of (inputs_of nodes - least_of nodes t)
turn_turns nodes (Made e) = 0

-- in all
abbrev pub turns_left : List Node → List Frame → Turn → ℕ
turns_left nodes stack turn = turn_turns nodes turn + frames_turns (inputs_of nodes) stack
