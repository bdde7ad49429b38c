-- Words of private contracts and of loops. Shapes that touch, and nets:
pub mod Walk
pub mod NetPins
-- pins, rows and labels in tables:
pub mod FramesOfPins
pub mod Edges
pub mod PinRows
pub mod RowFaults
pub mod Ports
pub mod Marking
pub mod LabelNames
pub mod LayoutTables
-- the rules of circuits:
pub mod Cells
pub mod FirstRule
-- excitation lines:
pub mod LineParts
pub mod LineWalk
pub mod Ways
pub mod Lines
-- circuits:
pub mod Corners
pub mod Drivers
pub mod PinNames
pub mod Tables
pub mod OutputPins
pub mod Parts
-- equal shapes, and shapes by kinds:
pub mod DistinctShapes
pub mod Filed
