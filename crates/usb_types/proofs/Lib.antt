pub mod LittleEndian
pub mod Table
pub mod Results
pub mod Directions
pub mod Lengths
