pub mod LineLemmas
pub mod LayoutLemmas
pub mod KeptLemmas
pub mod DoneLemmas
pub mod ResetLemmas
pub mod SignalLemmas
pub mod MadeLemmas
