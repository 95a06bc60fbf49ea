pub mod Starting
pub mod Keeping
pub mod Passing
pub mod Layers
pub mod Building
pub mod OneArc
