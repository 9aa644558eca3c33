use Rattle.std.proofs.Common.{◌≡◌, take}
use Rattle.saved_guest.specs.IdealGuests.Registers.{IsValid}
use Rattle.saved_check.specs.Tables.{with_events}
use Rattle.saved_check.proofs.tables.map_evts.Given as goal

-- those so far are mapped, and the tables are valid
abbrev pub invariant-loop-evt : goal.invariant-loop-evt
invariant-loop-evt l =
    record {
      so_far : l.tables ≡ with_events l.initial.tables (take l.evt-index l.evts);
      valid : IsValid l.shape (with_events l.initial.tables (take l.evt-index l.evts));
    }
