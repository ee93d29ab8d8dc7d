pub mod Coverage
pub mod Steps
