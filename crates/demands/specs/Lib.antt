pub mod HandNumbers
pub mod Demands
