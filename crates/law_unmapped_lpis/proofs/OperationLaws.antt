-- The laws of operations.
use Rattle.std.proofs.Common.{ℕ, zero, suc, Bool, true, false, cond, Option, sym, subst}
use Rattle.law_lone_calls_are_eager.specs.Words.{Frame, Dist, Redist, Its, Ram as Memory, GuestOp, Icc, Mem}
use Rattle.law_lone_calls_are_eager.specs.GicImap.Map.{decoded as its_decoded}
use Rattle.law_lone_calls_are_eager.specs.Calls.{Cbaser, icc_events, its_events, its_starts, access_events, device_events, takes_command, command_events, queue_places}
use Rattle.law_lone_calls_are_eager.proofs.GicCall.CallLemmas.{its_valid}
use Rattle.law_lone_calls_are_eager.specs.Histories.{IdealGuest, word_at, view_of, after_events, after_command, after_commands, after_queued, IsSound, AreForNone}
use Rattle.law_lone_calls_are_eager.proofs.IdealGuests.SoundLemmas.{whole_of}
use Rattle.law_lone_calls_are_eager.specs.GicIdeal.Deeds.{op_events}
use Rattle.law_lone_calls_are_eager.proofs.GicIdeal.SoundEvents.{sound_events}
use Rattle.law_lone_calls_are_eager.proofs.GicIdeal.StepLemmas.{free_follow, command_follows, op_is_events}
use Rattle.law_unmapped_lpis.specs.Laws.{AccessesLeaveNone, DevicesLeaveNone}
use Rattle.law_unmapped_lpis.proofs.CalmLemmas.{access_calm, icc_calm, device_calm}
use Rattle.law_unmapped_lpis.proofs.CommandLaws.{commands_leave_none}
use Rattle.law_unmapped_lpis.proofs.EventLemmas.{events_none}

-- after the commands that are taken, of at most so many
pub commands_none : (most : ℕ) (guest : IdealGuest) → IsSound guest → AreForNone guest → AreForNone (after_commands most guest)
commands_none zero guest sound none = none
commands_none (suc most) guest sound none = of (takes_command (view_of guest)) (commands_none most (after_command guest) (sound_events guest (command_events guest.shape (view_of guest)) sound (command_follows guest sound)) (commands_leave_none guest sound none))
  where
    of : (b : Bool) → AreForNone (after_commands most (after_command guest)) → AreForNone (cond b (after_commands most (after_command guest)) guest)
    of true later = later
    of false later = none

module _ (guest : IdealGuest) (sound : IsSound guest) (none : AreForNone guest) where
  -- after the events of an access, before any command
  pub access_none : (frame : Frame) (offset size : ℕ) (write : Option ℕ) → AreForNone (after_events (access_events guest.shape (view_of guest) frame offset size write) guest)
  access_none frame offset size write = events_none (access_events guest.shape (view_of guest) frame offset size write) guest (whole_of guest sound) none (access_calm guest.shape (view_of guest) frame offset size write)

  -- after an access of the ITS, where it starts commands and where it starts none
  its_none : (offset size : ℕ) (write : Option ℕ) (b : Bool)
      → AreForNone (cond b (after_queued (after_events (its_events guest.shape (view_of guest) (its_decoded offset size) write) guest)) (after_events (its_events guest.shape (view_of guest) (its_decoded offset size) write) guest))
  its_none offset size write true =
      let events = its_events guest.shape (view_of guest) (its_decoded offset size) write in
      let changed = after_events events guest in
      commands_none (queue_places (word_at changed Cbaser)) changed
      (sound_events guest events sound (free_follow guest events (its_valid guest.shape (view_of guest) (its_decoded offset size) write (record { place = sound.place; within = sound.offset }))))
      (access_none Its offset size write)
  its_none offset size write false = access_none Its offset size write

  op_none : (op : GuestOp) (vcpu : ℕ) → AreForNone (after_events (op_events op guest vcpu) guest)
  op_none (Icc reg write) vcpu = events_none (icc_events guest.shape vcpu reg write) guest (whole_of guest sound) none (icc_calm guest.shape vcpu reg write)
  op_none (Mem Dist offset size write) vcpu = subst AreForNone (sym (op_is_events (Mem Dist offset size write) guest vcpu)) (access_none Dist offset size write)
  op_none (Mem (Redist of_vcpu) offset size write) vcpu = subst AreForNone (sym (op_is_events (Mem (Redist of_vcpu) offset size write) guest vcpu)) (access_none (Redist of_vcpu) offset size write)
  op_none (Mem Memory offset size write) vcpu = subst AreForNone (sym (op_is_events (Mem Memory offset size write) guest vcpu)) (access_none Memory offset size write)
  op_none (Mem Its offset size write) vcpu = subst AreForNone (sym (op_is_events (Mem Its offset size write) guest vcpu)) (its_none offset size write (its_starts guest.shape (view_of guest) (its_decoded offset size) write))

pub accesses_leave_none : AccessesLeaveNone
accesses_leave_none guest vcpu op sound none = op_none guest sound none op vcpu

pub devices_leave_none : DevicesLeaveNone
devices_leave_none guest op sound none = events_none (device_events (view_of guest) op) guest (whole_of guest sound) none (device_calm (view_of guest) op)
