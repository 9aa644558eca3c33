mod ShapeLemmas
mod FitLemmas
mod FaultLemmas
mod FitsLemmas
mod OutsideLemmas
mod NamedLemmas
