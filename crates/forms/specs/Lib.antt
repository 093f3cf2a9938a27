pub mod Gates
pub mod Calls
pub mod Promises
pub mod Slots
