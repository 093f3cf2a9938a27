pub mod Digits
pub mod Lines
pub mod Sizes
pub mod Readback
