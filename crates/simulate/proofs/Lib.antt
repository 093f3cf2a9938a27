pub mod Alterations
pub mod Sums
pub mod Watching
