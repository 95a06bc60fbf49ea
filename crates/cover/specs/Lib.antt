pub mod Walk
pub mod Cover
