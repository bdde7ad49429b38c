-- Shapes and the bands of their frames, both with an index.
use Rattle.std.specs.Prelude.{◌≡◌, ◌<◌, ◌^◌, length}
use Rattle.geom.specs.Near.{rects_of}
use Rattle.rule_check.specs.declared.frames.Rows.{Rows}
use Rattle.rule_check.specs.Code.Bands.{AreBands}

-- fewer than 2^32 shapes, with an index of their rectangles, and one of the bands of all frames
pub record AreFiledRows (rows : Rows) : Type 0 where
  pub few : length rows.shapes.now < 2 ^ 32
  pub filed : rows.index.now ≡ rects_of rows.shapes.now
  pub bands_filed : rows.band_index.now ≡ rects_of rows.bands.now
  pub bands_so : AreBands rows.shapes.now rows.bands.now
