pub mod Chain
pub mod Links
pub mod Answer
pub mod Walked
pub mod Found
