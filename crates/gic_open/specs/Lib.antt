pub use Rattle.gic_guest.specs as GicGuest
pub mod Opening
pub mod Plain
