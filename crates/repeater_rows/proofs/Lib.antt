mod WindowLaws
mod RoundsLaws
mod OrderLaws
mod LocalLaws
mod PlaceLaws
pub mod ShortLaws
mod Sources
mod WireLaws
mod AddedLaws
pub mod KeptLaws
pub mod AnswerLaws
pub mod InsertedLaws
mod Makes
mod Worked
mod Lists
mod Reading
mod WindowOrder
mod LookSteps
mod Opened
mod ChannelSteps
mod RoundsLeft
mod LimitLaws
mod Neighbours
mod Making
mod Counted
mod Given
