pub mod Settled
pub mod Says
pub mod StandIns
pub mod Loopless
