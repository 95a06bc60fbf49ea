pub mod Keeping
pub mod Notes
pub mod Blocks
pub mod Layers
