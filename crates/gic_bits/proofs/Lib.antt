pub mod FieldLemmas
pub mod SetLemmas
pub mod BitLemmas
