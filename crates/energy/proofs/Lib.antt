pub mod Sums
pub mod Examples
pub mod Recording
pub mod Paper
