-- Words of private contracts and of loops.
pub mod Sources
pub mod Heights
pub mod Tables
pub mod Skews
pub mod Figures
