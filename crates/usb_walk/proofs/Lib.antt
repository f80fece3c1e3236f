pub mod Descriptors
pub mod Turns
