pub mod AsBox
pub mod MmioLemmas
mod SaveLemmas
