pub mod Offering
pub mod Frames
pub mod Trying
pub mod Digits
pub mod Fresh
pub mod Arcs
pub mod Nexts
