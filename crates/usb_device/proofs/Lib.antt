pub mod Turns
pub mod NewDevice
pub mod HubRecord
pub mod Free
