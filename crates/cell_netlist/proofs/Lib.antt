pub mod Valued
pub mod Gated
pub mod Levelled
pub mod Judged
pub mod Shown
pub mod Ended
pub mod OneGate
pub mod OneFault
