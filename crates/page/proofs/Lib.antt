pub mod Entries
pub mod Pages
pub mod Parts
pub mod Alikes
pub mod Refusals
pub mod Paper
