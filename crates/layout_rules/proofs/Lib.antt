pub mod PlaceLaws
pub mod ReportLaws
pub mod NetLaws
pub mod RowLaws
pub mod LabelLaws
pub mod LineLaws
pub mod RuleLaws
pub mod Places
pub mod Lines
pub mod NetPaths
pub mod FirstWire
mod FirstLines
mod OtherChips
pub mod NetsExist
pub mod Insertion
pub mod RowsExist
pub mod Deciding
mod DecidedShapes
pub mod Judging
pub mod JudgedCells
mod Reaching
mod LineWays
pub mod ChainsAgree
pub mod JudgedLines
pub mod LinePaths
pub mod LinesAgree
pub mod JudgedNets
pub mod JudgedLabels
pub mod JudgedGeometry
mod VerdictsExist
pub mod Computed
pub mod ShortLines
pub mod Worked
pub mod FirstChipKeeps
mod WaysAdd
mod FramePlaces
