pub mod Flows
pub mod Columns
pub mod Derivation
pub mod Completeness
