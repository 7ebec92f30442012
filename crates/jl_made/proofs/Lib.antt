pub mod GroupLemmas
mod WorkedItems
