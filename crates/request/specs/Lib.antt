pub mod Request
pub mod Shape
pub mod Rows
pub mod Refusal
pub mod Answer
pub mod Accepted
