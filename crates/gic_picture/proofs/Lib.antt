pub mod ListLemmas
pub mod NameLemmas
pub mod TallyLemmas
pub mod PictureLemmas
