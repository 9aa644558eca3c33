-- Whose ports are one actor's: lemmas of the core, for the tactics here.
pub use Rattle.port_seq.proofs.PortCore.SameLemmas.{same_after, same_here, same_twice}
