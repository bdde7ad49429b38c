pub mod PlanRows
pub mod Reordered
pub mod PlanKeeps
pub mod PlanAnswers
pub mod PlanSpans
pub mod PlanLaws
pub mod PlanGiven
mod Worked
mod AllRows
mod KeysFound
mod Ordered
mod Placing
pub mod ArrangedRows
mod ArrangingRows
