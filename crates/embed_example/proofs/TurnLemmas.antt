-- What a turn leaves: lemmas of the core and of what rests, for the tactics here.
pub use Rattle.port_seq.proofs.PortCore.SameLemmas.{same_after, same_here, same_twice}
pub use Rattle.vm_threads.proofs.RestLemmas.{rests_device, rests_off}
