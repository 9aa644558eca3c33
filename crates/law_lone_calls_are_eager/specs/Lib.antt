pub use Rattle.law_home_commutes.specs.Calls
pub use Rattle.law_home_commutes.specs.Histories
pub use Rattle.law_home_commutes.specs.Registers
pub use Rattle.law_home_commutes.specs.Words
pub use Rattle.law_home_commutes.specs.GicCall
pub use Rattle.law_home_commutes.specs.GicDmap
pub use Rattle.law_home_commutes.specs.GicHistory
pub use Rattle.law_eager_is_history.specs.GicIdeal
pub use Rattle.law_home_commutes.specs.GicImap
pub use Rattle.law_home_commutes.specs.GicRmap
pub use Rattle.law_home_commutes.specs.IdealGuests
pub use Rattle.law_home_commutes.specs.ItsCmd
pub use Rattle.law_eager_is_history.specs as LawEagerIsHistory
pub use Rattle.law_home_commutes.specs as LawHomeCommutes
pub mod LoneCalls
pub mod Laws
pub mod Runs
