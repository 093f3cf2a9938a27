pub mod Fills
pub mod Scan
pub mod Keeping
pub mod Turns
pub mod Written
pub mod Readback
