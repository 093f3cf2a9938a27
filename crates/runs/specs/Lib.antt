pub mod Runs
pub mod Told
pub mod Laws
pub mod Pairs
