pub mod Choice
pub mod Shown
pub mod Filled
pub mod Said
pub mod Moves
pub mod Steps
pub mod Run
