pub mod Each
mod FirstNets
mod FirstCells
mod Kept
mod OneLine
pub mod OneOrder
mod OneCircuit
mod LineContacts
mod JoinedParts
mod LineStarts
mod Reported
pub mod Sharing
pub mod Searching
mod Marked
mod NetPins
mod NetChains
mod PinFrames
mod RowPins
mod LabelTexts
mod Passing
mod PortPins
mod LabelNumbers
mod LabelParts
pub mod RowEdges
mod NetLengths
mod NetWalk
mod KindNets
pub mod FiveRules
mod CornerLists
pub mod FramePlaces
mod Taken
mod KeptPins
mod Entries
mod KeptFacts
pub mod NetDrivers
mod PinMarks
mod CellFeeds
pub mod CellLists
mod OutputLists
mod LineRoutes
mod LineReach
mod BarSides
mod ExcitedEach
mod LineTurns
mod Assembled
pub mod Partners
mod MarkTable
mod PinFrameLists
mod FramesExist
mod CircuitExists
pub mod SameShapes
mod Moved
mod SidedOrder
mod LeastHeads
mod StandIns
pub mod Members
pub mod InPlanes
mod CellPlaces
mod PartWays
mod FrameSpans
