pub mod Error
pub mod Answer
pub mod Reading
pub mod Shipped
pub mod Steps
pub mod Guesses
