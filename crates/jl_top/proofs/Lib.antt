pub mod JobLemmas
pub mod Reporting
pub mod Statuses
