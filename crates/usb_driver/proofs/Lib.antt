pub mod Lines
pub mod Goes
pub mod Reaches
pub mod Births
