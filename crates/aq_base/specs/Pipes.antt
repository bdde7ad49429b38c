-- The calls of std that a pipe has made, and what they say of the history of a sink.
use Rattle.std.specs.Prelude.{ℕ, List, [], take}
use Rattle.aq_base.specs.declared.disk.Piece.{Piece}
use Rattle.aq_base.specs.declared.disk.Piece.TheVariants as piece
use Rattle.aq_base.specs.declared.pipe.Pipe.{Pipe}
use Rattle.aq_base.specs.Acts.{Did}

abbrev pub calls_of : {W : Type 0} → Pipe W → List Did
calls_of pipe = pipe.acts.done

abbrev pub writer_of : {W : Type 0} → Pipe W → W
writer_of pipe = pipe.writer

-- the bytes that one write took
abbrev pub taken_of : Piece → List ℕ → List ℕ
taken_of (piece.Bytes n) buffer = take n buffer
taken_of _ buffer = []
