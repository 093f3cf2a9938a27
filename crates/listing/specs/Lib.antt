pub mod Listing
pub mod Truth
pub mod Balances
