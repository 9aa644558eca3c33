pub use Rattle.law_lone_calls_are_eager.specs.Calls
pub use Rattle.law_lone_calls_are_eager.specs.Histories
pub use Rattle.law_lone_calls_are_eager.specs.Registers
pub use Rattle.law_lone_calls_are_eager.specs.Words
pub use Rattle.law_lone_calls_are_eager.specs.GicCall
pub use Rattle.law_lone_calls_are_eager.specs.GicDmap
pub use Rattle.law_lone_calls_are_eager.specs.GicHistory
pub use Rattle.law_lone_calls_are_eager.specs.GicIdeal
pub use Rattle.law_lone_calls_are_eager.specs.GicImap
pub use Rattle.law_lone_calls_are_eager.specs.GicRmap
pub use Rattle.law_lone_calls_are_eager.specs.IdealGuests
pub use Rattle.law_lone_calls_are_eager.specs.ItsCmd
pub use Rattle.law_lone_calls_are_eager.specs.LawEagerIsHistory
pub use Rattle.law_lone_calls_are_eager.specs as LawLoneCallsAreEager
pub mod Laws
pub mod Worked
