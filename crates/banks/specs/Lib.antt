pub mod Banks
pub mod Racks
pub mod Sides
pub mod Standing
pub mod Rows
