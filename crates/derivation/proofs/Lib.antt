pub mod Lines
pub mod Working
pub mod Found
pub mod Walking
pub mod Tabling
pub mod Deriving
