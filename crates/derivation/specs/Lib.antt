pub mod Ports
pub mod Memory
pub mod Tables
