mod Grown
mod Carries
mod Lengths
mod LawOfGates
mod Trees
mod LawOfLaying
mod Puts
mod Law
mod Marks
mod Frames
mod Tokens
mod Putting
mod Standing
mod FirstAndLast
mod Filled
mod Plain
mod Linear
mod LinearGates
mod FilledGates
mod TotalLaws
mod Kept
pub mod KeptNet
pub mod SameAnswers
pub mod Counted
pub mod Narrow
mod PlanGiven
mod KindCounts
mod ConstantCells
mod Worked
mod Used
mod Laid
mod TreeDepths
mod Linked
mod GateLaid
mod AllLaid
mod Outlined
mod Counting
mod Levelled
mod ShortestTrees
mod NeededPaths
mod LevelEquation
mod ByUsers
mod Serving
mod AtMost
mod Rooms
mod PagesJoined
mod UsedEach
mod UsedBelow
