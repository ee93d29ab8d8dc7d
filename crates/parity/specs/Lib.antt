pub mod Xor
pub mod Count
pub mod Cyclic
pub mod Lists
