pub mod Lists
pub mod Numbers
pub mod OrderLemmas
pub mod WorkLemmas
