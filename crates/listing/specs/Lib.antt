pub mod Listing
pub mod Print
pub mod List
pub mod Example
