pub mod Walks
pub mod Routes
pub mod Sound
pub mod Carry
pub mod Standing
pub mod Cover
