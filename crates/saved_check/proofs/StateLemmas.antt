-- When a state is valid, by its parts.
use Rattle.std.proofs.Common.{◌≡◌, ℕ, IsTrue, is_some}
use Rattle.saved_guest.specs.IdealGuests.Words.{Key, Lpi, has_interrupt, target_in}
use Rattle.saved_guest.specs.IdealGuests.Registers.{IsValid, enables_in, has_target}
use Rattle.saved_guest.specs.IdealGuests.Calls.{GuestSpec, irq_in}
use Rattle.saved_guest.specs.IdealGuests.CanOpen.{copy_in}
use Rattle.saved_guest.specs.ScnSaved.declared.state.GuestState.{GuestState}
use Rattle.saved_guest.specs.State.{irqs_with, maps_of}
use Rattle.saved_guest.specs.Valid.{IsValidState}
use Rattle.saved_check.specs.Rows.{HasValidRegisters, HasValidIts, HasValidRows}

abbrev pub HaveCopies : GuestSpec → GuestState → Type 0
HaveCopies guest state = (key : Key) → IsTrue (has_interrupt guest.shape key) → copy_in (irq_in guest.shape (irqs_with guest state.rec) key) ≡ enables_in state.gicd

abbrev pub HaveTargets : GuestSpec → GuestState → Type 0
HaveTargets guest state = (id : ℕ) → IsTrue (has_interrupt guest.shape (Lpi id)) → is_some (target_in (irq_in guest.shape (irqs_with guest state.rec) (Lpi id)).route guest.shape) ≡ has_target (maps_of state) id

pub valid_if : (guest : GuestSpec) (state : GuestState) → HasValidRegisters guest.shape state → HasValidIts guest.shape state → HasValidRows guest.shape state → IsValid guest.shape (maps_of state) → HaveCopies guest state → HaveTargets guest state → IsValidState guest state
valid_if guest state registers its rows maps copies targets =
    record {
      gicd = registers.gicd;
      cpus = registers.cpus;
      each_cpu = registers.each_cpu;
      redists = registers.redists;
      each_redist = registers.each_redist;
      rec_order = rows.rec_order;
      each_rec = rows.each_rec;
      copies = copies;
      its = its.its;
      its_valid = its.its_valid;
      no_dev = its.no_dev;
      no_col = its.no_col;
      maps = maps;
      event_collections = its.event_collections;
      collections = its.collections;
      targets = targets;
      ram_order = rows.ram_order;
      each_word = rows.each_word;
    }

pub its_registers : (guest : GuestSpec) (state : GuestState) → IsValidState guest state → HasValidRegisters guest.shape state
its_registers guest state valid = record { gicd = valid.gicd; cpus = valid.cpus; each_cpu = valid.each_cpu; redists = valid.redists; each_redist = valid.each_redist }

pub its_its : (guest : GuestSpec) (state : GuestState) → IsValidState guest state → HasValidIts guest.shape state
its_its guest state valid = record { its = valid.its; its_valid = valid.its_valid; no_dev = valid.no_dev; no_col = valid.no_col; event_collections = valid.event_collections; collections = valid.collections }

pub its_rows : (guest : GuestSpec) (state : GuestState) → IsValidState guest state → HasValidRows guest.shape state
its_rows guest state valid = record { rec_order = valid.rec_order; each_rec = valid.each_rec; ram_order = valid.ram_order; each_word = valid.each_word }
