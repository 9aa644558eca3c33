pub use Rattle.ideal_guest.specs.Calls
pub use Rattle.ideal_guest.specs.Registers
pub use Rattle.ideal_guest.specs.Words
pub use Rattle.ideal_guest.specs.GicBase
pub use Rattle.ideal_guest.specs.GicCall
pub use Rattle.ideal_guest.specs.GicDmap
pub use Rattle.ideal_guest.specs.GicGuest
pub use Rattle.ideal_guest.specs.GicImap
pub use Rattle.ideal_guest.specs.GicRmap
pub use Rattle.ideal_guest.specs.GicWord
pub use Rattle.ideal_guest.specs.ItsCmd
pub use Rattle.ideal_guest.specs as IdealGuests
pub mod Place
pub mod Forms
