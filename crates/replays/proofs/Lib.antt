pub mod Agreement
pub mod Buffers
