-- What the code uses of a library's sizes.
use Rattle.std.specs.Prelude.{◌*◌, ◌/◌, ◌<◌, ◌≤◌}
use Rattle.cell_library.specs.Library.{LibraryView}

-- halves are not zero, and no sum of sizes leaves 64 bits
pub record AreSizes (l : LibraryView) : Type 0 where
  pub wire_half : 1 ≤ l.wire / 2
  pub via_half : 1 ≤ l.via / 2
  pub wire_most : l.wire ≤ 1000000
  pub via_most : l.via ≤ 1000000
  pub pin_some : 1 ≤ l.pin
  pub pin_most : l.pin ≤ 1000000
  pub pin_low : 2 * l.pin < l.height
  pub wire_in_pin : l.wire ≤ l.pin
  pub via_in_wire : l.via ≤ l.wire
  pub height_most : l.height ≤ 1000000
  pub wire_in_pitch : l.wire < l.pitch
  pub pitch_most : l.pitch ≤ 1000000
  pub columns_some : 1 ≤ l.columns
  pub columns_most : l.columns ≤ 1000
  pub capacity_most : l.capacity ≤ 1000
