pub mod Shown
pub mod Numbers
pub mod Pinned
