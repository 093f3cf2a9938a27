pub mod Kinds
pub mod Elimination
pub mod Completeness
pub mod LowestTerms
pub mod Parities
pub mod Wholes
pub mod Euclid
