pub mod KnowledgeLemmas
