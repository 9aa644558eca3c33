pub mod WordLemmas
pub mod ViewLemmas
pub mod RuleLemmas
pub mod ToldLemmas
pub mod ScanLemmas
pub mod FindingLemmas
pub mod EndLemmas
pub mod PlaceLemmas
