pub use Rattle.gic_ram.proofs.GicBase
