pub mod Label
pub mod Step
pub mod Rounds
pub mod Passing
