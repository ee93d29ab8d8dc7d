pub mod Shape
pub mod Alike
pub mod Square
pub mod Positions
pub mod Kept
pub mod Answer
pub mod Lent
pub mod Rows
