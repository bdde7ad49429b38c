-- The text of the pieces that a line is put in.
use Rattle.std.specs.Prelude.{ℕ, List}
use Rattle.std.specs.List.{flat_map}
use Rattle.std.specs.Fmt.{decimal}
use Rattle.shown_names.specs.Names.{shown_name}
use Rattle.aqfp_top.specs.Lines.{signals_text, integer_text, pair_text}
use Rattle.aqfp_top.specs.declared.pieces.Piece.{Piece}
use Rattle.aqfp_top.specs.declared.pieces.Piece.TheVariants.{Text, Name, Number, Integer, Signals, Pair}

-- the bytes that a piece puts in the line: names as lines show them, numbers in decimal, signals each after a
-- blank
abbrev pub piece_text : Piece → List ℕ
piece_text (Text text) = text.now
piece_text (Name name) = shown_name name.now
piece_text (Number n) = decimal n
piece_text (Integer n) = integer_text n
piece_text (Pair first second) = pair_text first second
piece_text (Signals signals) = signals_text signals.now

-- the bytes of the pieces, one after the other
abbrev pub pieces_text : List Piece → List ℕ
pieces_text pieces = flat_map piece_text pieces
