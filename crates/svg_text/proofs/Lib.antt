pub mod Texts
pub mod ContentLemmas
