pub mod Lawful
mod Layered
mod KeptRules
mod SheetKeeps
pub mod ReadyNets
mod Lengths
mod Comparing
mod PinCounts
pub mod Sides
mod Columns
mod Posts
mod Stands
mod Touches
mod Spaced
pub mod Joins
mod ShapeSizes
mod Cells
pub mod Routes
mod LineShapes
mod LineRule
mod LinePhase
pub mod LineAll
mod DrawnRules
pub mod Pins
mod NetLengths
pub mod Member
mod ChannelWires
mod Sound
pub mod Origins
mod Drawn
pub mod Whole
pub mod TestedDrawing
mod ChipsMayDraw
mod FlatForm
pub mod FlatLaw
pub mod Ready
pub mod WiresJoined
pub mod Labelled
mod KeptGeometry
pub mod KeptCells
pub mod KeptLines
pub mod Wiring
mod Counting
pub mod LabelRule
pub mod PinsDrawn
pub mod CellsDrawn
mod WireLengths
pub mod AllRules
mod ChipsDrawn
mod RowCode
mod WireCode
mod SizesKept
mod DrawCode
mod Lagging
mod Heights
mod RowsDrawn
mod PortSlots
mod TopDrawn
pub mod SizeBounds
mod WireNets
mod SizeLaw
mod Written
mod WritableEach
mod WritableLaw
mod LineWays
