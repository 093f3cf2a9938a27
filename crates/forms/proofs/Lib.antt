pub mod Wiring
pub mod Slots
pub mod Limits
pub mod Filled
pub mod Told
pub mod Numbered
