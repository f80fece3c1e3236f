pub mod Layout
pub mod Access
pub mod Values
