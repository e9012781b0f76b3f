pub mod KeyLemmas
mod Together
