pub use Rattle.law_histories.specs.Calls
pub use Rattle.law_histories.specs.Histories
pub use Rattle.law_histories.specs.Registers
pub use Rattle.law_histories.specs.Words
pub use Rattle.law_histories.specs.GicCall
pub use Rattle.law_histories.specs.GicDmap
pub use Rattle.law_histories.specs.GicHistory
pub use Rattle.law_histories.specs.GicImap
pub use Rattle.law_histories.specs.GicRmap
pub use Rattle.law_histories.specs.IdealGuests
pub use Rattle.law_histories.specs.ItsCmd
pub use Rattle.law_histories.specs as LawHistories
pub mod Home
pub mod Laws
pub mod Worked
