pub mod Decimals
pub mod Spelling
pub mod Scans
pub mod Parses
pub mod Same
pub mod Pasting
pub mod Examples
pub mod Contents
