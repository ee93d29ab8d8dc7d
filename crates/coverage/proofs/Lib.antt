pub mod Marks
pub mod Recording
pub mod Paper
