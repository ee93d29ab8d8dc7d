pub mod Bench
pub mod Numbers
pub mod Pinned
