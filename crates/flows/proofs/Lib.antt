pub mod Listed
pub mod Merging
pub mod Flowing
pub mod Spread
pub mod Complete
pub mod Derived
pub mod Numbered
