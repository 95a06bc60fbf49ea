pub mod Candidates
pub mod Places
pub mod Finding
