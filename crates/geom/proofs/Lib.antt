pub mod Sharing
pub mod FirstFlat
pub mod FirstWritable
pub mod Filing
pub mod Finding
pub mod Placing
pub mod Zones
pub mod Arranging
