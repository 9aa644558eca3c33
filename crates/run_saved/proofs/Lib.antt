pub mod CountLemmas
pub mod HomeLemmas
pub mod FirstLemmas
pub mod SavedLemmas
