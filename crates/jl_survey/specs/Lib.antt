pub mod Surveys
pub mod Counting
pub mod Reports
pub mod Windowed
