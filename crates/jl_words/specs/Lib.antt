pub mod Jobs
pub mod Numbers
pub mod Ranges
pub mod Table
pub mod WorkedWords
