pub mod Sets
pub mod Forms
pub mod Records
pub mod Editing
pub mod Laws
pub mod Examples
