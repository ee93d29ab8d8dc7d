pub mod Texts
pub mod Filled
pub mod Moves
pub mod Stands
pub mod Worlds
pub mod Comes
pub mod Runs
pub mod Remarks
