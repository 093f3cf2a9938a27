pub mod Rings
pub mod Sums
pub mod Totals
pub mod Kinds
pub mod Balances
