pub mod HandNumbers
pub mod Named
pub mod Demands
pub mod StandIns
pub mod Cells
