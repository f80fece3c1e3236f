pub mod Writes
pub mod Fields
pub mod Cells
