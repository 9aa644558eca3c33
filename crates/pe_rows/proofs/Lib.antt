mod UpLemmas
mod TouchLemmas
