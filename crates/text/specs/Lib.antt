pub mod Field
pub mod Number
pub mod Line
pub mod Fault
