-- A guest at home is sound whatever its ITS has mapped.
use Rattle.std.proofs.Common.{◌≡◌, [], sym, subst}
use Rattle.gic_ideal.specs.IdealGuests.declared.guest.IdealGuest.{IdealGuest}
use Rattle.gic_ideal.specs.IdealGuests.Sound.{IsSound}
use Rattle.gic_ideal.proofs.IdealGuests.OpeningLemmas.{empty_valid}
use Rattle.port_core.specs.Registers.{IsValid, Maps}

pub sound_unmapped : (guest home : IdealGuest) (tables : Maps) → guest.tables ≡ record { devices = []; events = []; collections = [] } → record guest { tables = tables } ≡ home → IsSound home → IsSound guest
sound_unmapped guest home tables none is sound =
    let now : IsSound (record guest { tables = tables }) = subst IsSound (sym is) sound in
    let Valid : Maps → Type 0 = λ maps. IsValid guest.shape maps in
    record {
      shape = now.shape;
      irqs = now.irqs;
      cpus = now.cpus;
      records = λ key there. (let one = now.records key there in record { valid = one.valid; home = one.home; unrisen = one.unrisen });
      interfaces = now.interfaces;
      words = now.words;
      place = now.place;
      offset = now.offset;
      fault = now.fault;
      maps = subst Valid (sym none) (empty_valid guest.shape);
    }
