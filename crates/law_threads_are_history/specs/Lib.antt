pub use Rattle.law_ends_agree.specs.Calls
pub use Rattle.law_ends_agree.specs.Core
pub use Rattle.law_ends_agree.specs.Histories
pub use Rattle.law_ends_agree.specs.Registers
pub use Rattle.law_ends_agree.specs.Words
pub use Rattle.law_ends_agree.specs.GicGuest
pub use Rattle.law_ends_agree.specs.GicIdeal
pub use Rattle.law_ends_agree.specs.GuestEnd
pub use Rattle.law_ends_agree.specs.IdealGuests
pub use Rattle.law_found_parts_are_calls.specs.LawEagerIsHistory
pub use Rattle.law_ends_agree.specs as LawEndsAgree
pub use Rattle.pe_place.specs as PePlace
pub use Rattle.law_ends_agree.specs.PortOps
pub use Rattle.law_ends_agree.specs.ScnBase
pub mod Woven
pub mod History
pub mod Worked
