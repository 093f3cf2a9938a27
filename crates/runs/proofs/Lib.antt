pub mod Rows
pub mod Lengths
pub mod Law
pub mod Performing
pub mod Driving
pub mod Pairing
