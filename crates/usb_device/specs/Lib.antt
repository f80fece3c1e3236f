pub mod Ports
pub mod Device
pub mod Speeds
