pub mod Words
pub mod Printing
pub mod Reading
pub mod Pages
