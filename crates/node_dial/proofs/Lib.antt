pub mod CredentialLemmas
pub mod PauseLemmas
pub mod Slots
pub mod TableLemmas
