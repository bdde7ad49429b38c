-- The wires of a model in one block: its inputs, what it defines, and then, call by call, the block of the called model
-- and the signals that its outputs are joined to. Places are counted from the block's first wire, so that one list of
-- definitions by places serves each call of a model.
use Rattle.std.specs.Prelude.{◌≡◌, ℕ, zero, suc, ◌+◌, ◌<◌, ◌≤◌, ◌^◌, Bool, true, false, List, [], ◌∷◌, ◌++◌, codes}
use Rattle.std.specs.Prelude.{map, length, drop, replicate, Option, Some, None, slice_index_or}
use Rattle.std.specs.List.{flat_map, position_or_len, sum_by, AllByRecursion}
use Rattle.std.specs.Str.{bytes_eq}
use Rattle.blif_read.specs.declared.netlist.Def.{Def}
use Rattle.blif_read.specs.declared.models.Call.{Call}
use Rattle.blif_read.specs.declared.models.NamedDef.{NamedDef}
use Rattle.blif_read.specs.declared.models.BlifModel.{BlifModel}
use Rattle.blif_read.specs.Walk.{on}
use Rattle.blif_flat.specs.Designs.{names_in, model_number, no_model, called, actual_of, joined_outputs}
use Rattle.blif_flat.specs.DesignFaults.{number_in as listed}
use Rattle.blif_flat.specs.declared.expansion.pieces.Piece.{Piece}
use Rattle.blif_flat.specs.declared.expansion.pieces.Piece.TheVariants.{Own, Inner}
use Rattle.blif_flat.specs.declared.expansion.layout.Frame.{Frame}

-- the name at a place is this one; the wires of calls have none in the model
abbrev pub is_that : List ℕ → Option (List ℕ) → Bool
is_that t None = false
is_that t (Some name) = bytes_eq t name

-- the names of a model's inputs, and of the signals that it defines by covers
abbrev pub own_names : BlifModel → List (List ℕ)
own_names model = names_in model.inputs ++ map (λ d. d.output) model.defs

-- what a call adds to a block, where models are so wide
abbrev pub call_names : (BlifModel → ℕ) → List BlifModel → Call → List (Option (List ℕ))
call_names width models call = replicate (width (called models call)) None
    ++ map (λ o. Some (actual_of call o)) (joined_outputs models call)

-- the names that a model has for the wires of its block
abbrev pub block_names : (BlifModel → ℕ) → List BlifModel → BlifModel → List (Option (List ℕ))
block_names width models model = map (λ n. Some n) (own_names model) ++ flat_map (call_names width models) model.calls

-- how many wires a block has, down chains of fewer models than steps
abbrev pub block_width : ℕ → List BlifModel → BlifModel → ℕ
block_width zero models model = 0
block_width (suc steps) models model = length (block_names (block_width steps models) models model)

-- the width of a model's block
abbrev pub wide : List BlifModel → BlifModel → ℕ
wide models model = block_width (length models) models model

-- where a name stands in a model's block, from its first wire on, where models are so wide
abbrev pub place : (BlifModel → ℕ) → List BlifModel → BlifModel → List ℕ → ℕ
place width models model name = position_or_len (is_that name) (block_names width models model)

-- a model, in a design
pub record ModelIn : Type 0 where
  pub models : List BlifModel
  pub model : BlifModel

-- the names that it has for the wires of its block, and where a name stands there
abbrev pub names_of : ModelIn → List (Option (List ℕ))
names_of m = block_names (wide m.models) m.models m.model

abbrev pub place_in : ModelIn → List ℕ → ℕ
place_in m = place (wide m.models) m.models m.model

-- a definition of a model, by places
abbrev pub placed : (List ℕ → ℕ) → NamedDef → Def
placed at def = record { line = def.line; inputs = map at def.inputs; on = def.on; cubes = def.cubes }

-- a definition that has the value of the signal at a place
abbrev pub buffer_of : ℕ → ℕ → Def
buffer_of line from = record { line = line; inputs = from ∷ []; on = true; cubes = record { plane = codes "1" } ∷ [] }

-- the pieces of a call whose model's block starts at a place
abbrev pub call_pieces : (BlifModel → ℕ) → List BlifModel → BlifModel → ℕ → Call → List Piece
call_pieces width models model start call =
    map (λ i. Own (buffer_of call.line (place width models model (actual_of call i))))
    (names_in (called models call).inputs)
    ++ map (λ n. Inner n start) (listed (model_number models call.model))
    ++ map (λ o. Own (buffer_of call.line (start + place width models (called models call) o)))
    (joined_outputs models call)

-- the pieces of calls, one after another, where the first call's block starts at a place
abbrev pub calls_pieces : (BlifModel → ℕ) → List BlifModel → BlifModel → ℕ → List Call → List Piece
calls_pieces width models model start [] = []
calls_pieces width models model start (call ∷ calls) = call_pieces width models model start call
    ++ calls_pieces width models model (start + length (call_names width models call)) calls

-- the definitions of a model's block by places, and the blocks inside it, in the order in which it defines wires
abbrev pub pieces : (BlifModel → ℕ) → List BlifModel → BlifModel → List Piece
pieces width models model = map (λ d. Own (placed (place width models model) d)) model.defs
    ++ calls_pieces width models model (length (own_names model)) model.calls

-- ---- blocks laid out

-- a definition of a block that starts at wire `base`, with signals by their places in the whole
abbrev pub moved : ℕ → Def → Def
moved base def = record { line = def.line; inputs = map (λ p. base + p) def.inputs; on = def.on; cubes = def.cubes }

-- the definitions of a piece of a block that starts here
abbrev pub of_piece : (ℕ → ℕ → List Def) → ℕ → Piece → List Def
of_piece of base (Own def) = moved base def ∷ []
of_piece of base (Inner n start) = of n (base + start)

-- the definitions of a block that starts here, down chains of fewer models than steps
abbrev pub laid_out : List (List Piece) → ℕ → ℕ → ℕ → List Def
laid_out blocks zero n base = []
laid_out blocks (suc steps) n base = flat_map (of_piece (laid_out blocks steps) base) (slice_index_or blocks n [])

-- how many turns of a walk a block takes
abbrev pub piece_turns : (ℕ → ℕ) → Piece → ℕ
piece_turns of (Own def) = 1
piece_turns of (Inner n start) = 1 + of n

-- how many turns of a walk the block of model n takes, down chains of fewer models than steps
abbrev pub turns : List (List Piece) → ℕ → ℕ → ℕ
turns blocks zero n = 0
turns blocks (suc steps) n = 1 + sum_by (piece_turns (turns blocks steps)) (slice_index_or blocks n [])

-- chains of calls have fewer models than there are blocks
pub record AreStraight (blocks : List (List Piece)) : Type 0 where
  pub laid : (n base : ℕ) → laid_out blocks (length blocks) n base
      ≡ flat_map (of_piece (laid_out blocks (length blocks)) base) (slice_index_or blocks n [])
  pub ends : (n : ℕ) → turns blocks (length blocks) n
      ≡ 1 + sum_by (piece_turns (turns blocks (length blocks))) (slice_index_or blocks n [])

-- a piece names places up to this one, and a block inside ends there too, where blocks are so wide
abbrev pub FitsIn : (ℕ → ℕ) → ℕ → Piece → Type 0
FitsIn width total (Own def) = AllByRecursion (λ p. p ≤ total) def.inputs
FitsIn width total (Inner n start) = start + width n ≤ total

-- each block is so wide that its pieces fit in it, and 32 bits hold the places of the first
pub record HaveRoom (blocks : List (List Piece)) : Type 0 where
  pub width : ℕ → ℕ
  pub fits : (n : ℕ) → AllByRecursion (FitsIn width (width n)) (slice_index_or blocks n [])
  pub few : width 0 < 2 ^ 32

-- what a walk has still to lay out from its frames on, nearest first
abbrev pub still : List (List Piece) → List Frame → List Def
still blocks [] = []
still blocks (f ∷ fs) =
    flat_map (of_piece (laid_out blocks (length blocks)) f.base) (drop f.next (slice_index_or blocks f.model []))
    ++ still blocks fs

-- and how many turns it takes for that
abbrev pub turns_left : List (List Piece) → List Frame → ℕ
turns_left blocks [] = 0
turns_left blocks (f ∷ fs) =
    1 + sum_by (piece_turns (turns blocks (length blocks))) (drop f.next (slice_index_or blocks f.model []))
    + turns_left blocks fs

-- 32 bits hold the places of each of these models
abbrev pub AreNarrow : List BlifModel → List ℕ → Type 0
AreNarrow models done = AllByRecursion (λ n. wide models (slice_index_or models n no_model) < 2 ^ 32) done

-- a table has the pieces of these models' blocks, and nothing for others
pub record HasBlocks (models : List BlifModel) (done : List ℕ) (blocks : List (List Piece)) : Type 0 where
  pub size : length blocks ≡ length models
  pub held : (n : ℕ) → on done n ≡ true
      → slice_index_or blocks n [] ≡ pieces (wide models) models (slice_index_or models n no_model)
  pub others : (n : ℕ) → on done n ≡ false → slice_index_or blocks n [] ≡ []
