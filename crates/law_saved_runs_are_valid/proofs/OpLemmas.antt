-- What the events of an operation store fits, with those of the commands that it starts.
use Rattle.std.proofs.Common.{◌≡◌, ℕ, zero, suc, ◌*◌, ◌^◌, ◌<◌, ◌++◌, Bool, true, false, cond, IsTrue, Option, Some, None, List, [], All, refl, sym, ◌∙◌, subst, arith}
use Rattle.std.specs.List.{slice_index}
use Rattle.std.proofs.lemmas.Bool.{and_parts, ltb-true}
use Rattle.std.proofs.lemmas.List.Elements.{All-nil, All-append}
use Rattle.eager_rest.specs.LawSavesGoOn.RunsSplit.GicIdeal.IdealGuests.Words.{GuestShape, GuestOp, Icc, Mem, DeviceOp, Frame}
use Rattle.eager_rest.specs.LawSavesGoOn.RunsSplit.GicIdeal.IdealGuests.Registers.{has_lpis}
use Rattle.eager_rest.specs.LawSavesGoOn.RunsSplit.GicIdeal.IdealGuests.GicCall.Call.{starts_commands}
use Rattle.eager_rest.specs.LawSavesGoOn.RunsSplit.GicIdeal.IdealGuests.Calls.{Ram, Cbaser, has_plain, is_good_op, Event, takes_command, command_events, queue_places, access_events, device_events}
use Rattle.eager_rest.specs.LawSavesGoOn.RunsSplit.GicIdeal.IdealGuests.declared.guest.IdealGuest.{IdealGuest}
use Rattle.eager_rest.specs.LawSavesGoOn.RunsSplit.GicIdeal.IdealGuests.Ideal.{word_at, view_of, after_events, after_command}
use Rattle.eager_rest.specs.LawSavesGoOn.RunsSplit.GicIdeal.Deeds.{queued_events, op_events}
use Rattle.eager_rest.proofs.LawSavesGoOn.OwnLemmas.{StoresOwn, CanWrite, CanMove, access_own, starts_in_its, command_own, icc_own, device_own}
use Rattle.eager_rest.proofs.LawSavesGoOn.StoredLemmas.{same_shape}
use Rattle.law_saved_runs_are_valid.proofs.RangeLemmas.{IsDoubleword, IsFit}
use Rattle.law_saved_runs_are_valid.proofs.PartLemmas.{inserted_fits}

module _ (Moves : Type 0) (guest : IdealGuest) (fit : IsFit guest) where
  -- a word of memory, also one that is not there
  word_small : (index : ℕ) → word_at guest (Ram index) < 2 ^ 64
  word_small index = of (has_plain guest.shape (Ram index)) refl
    where
      of : (b : Bool) → has_plain guest.shape (Ram index) ≡ b → cond b (slice_index guest.words index) 0 < 2 ^ 64
      of true there = fit.each_word (Ram index) there
      of false there = omega arith

  can_write : (frame : Frame) (offset size : ℕ) (write : Option ℕ) → IsTrue (is_good_op guest.shape (Mem frame offset size write)) → CanWrite guest.shape IsDoubleword Moves (view_of guest) offset size write
  can_write frame offset size None good = tt
  can_write frame offset size (Some value) good =
      let three = and_parts _ _ (and_parts _ _ (and_parts _ _ good).0).0 in
      λ part is. inserted_fits (word_at guest (Ram part.index)) value (word_small part.index) offset size guest.shape.ram part three.0 (ltb-true value (2 ^ (8 * size)) three.1) is

queued_own : (Moves : Type 0) (shape : GuestShape) (most : ℕ) (guest : IdealGuest) → guest.shape ≡ shape → has_lpis shape ≡ true → All (StoresOwn shape IsDoubleword Moves) (queued_events most guest)
queued_own Moves shape zero guest is there = All-nil (StoresOwn shape IsDoubleword Moves)
queued_own Moves shape (suc most) guest is there =
    either (takes_command (view_of guest)) (command_events guest.shape (view_of guest) ++ queued_events most (after_command guest))
    (All-append (StoresOwn shape IsDoubleword Moves) (command_events guest.shape (view_of guest)) (queued_events most (after_command guest))
    (subst (λ s. All (StoresOwn shape IsDoubleword Moves) (command_events s (view_of guest))) (sym is) (command_own shape IsDoubleword Moves there (view_of guest)))
    (queued_own Moves shape most (after_command guest) (same_shape (command_events guest.shape (view_of guest)) guest ∙ is) there))
  where
    either : (b : Bool) (events : List Event) → All (StoresOwn shape IsDoubleword Moves) events → All (StoresOwn shape IsDoubleword Moves) (cond b events [])
    either true events own = own
    either false events own = All-nil (StoresOwn shape IsDoubleword Moves)

pub op_own : (Moves : Type 0) (op : GuestOp) (guest : IdealGuest) (vcpu : ℕ) → IsFit guest → IsTrue (is_good_op guest.shape op) → All (StoresOwn guest.shape IsDoubleword Moves) (op_events op guest vcpu)
op_own Moves (Icc reg write) guest vcpu fit good = icc_own guest.shape IsDoubleword Moves vcpu reg write
op_own Moves (Mem frame offset size write) guest vcpu fit good =
    All-append (StoresOwn guest.shape IsDoubleword Moves) events (cond starts (queued_events (queue_places (word_at changed Cbaser)) changed) [])
    (access_own guest.shape IsDoubleword Moves (view_of guest) frame offset size write (can_write Moves guest fit frame offset size write good)) (of starts refl)
  where
    events : List Event
    events = access_events guest.shape (view_of guest) frame offset size write

    starts : Bool
    starts = starts_commands guest.shape (view_of guest) frame offset size write

    changed : IdealGuest
    changed = after_events events guest

    of : (b : Bool) → starts ≡ b → All (StoresOwn guest.shape IsDoubleword Moves) (cond b (queued_events (queue_places (word_at changed Cbaser)) changed) [])
    of true e = queued_own Moves guest.shape (queue_places (word_at changed Cbaser)) changed (same_shape events guest) (starts_in_its guest.shape IsDoubleword Moves (view_of guest) frame offset size write e)
    of false e = All-nil (StoresOwn guest.shape IsDoubleword Moves)

pub device_own_events : (Moves : Type 0) (op : DeviceOp) (guest : IdealGuest) → CanMove guest.shape IsDoubleword Moves op → All (StoresOwn guest.shape IsDoubleword Moves) (device_events (view_of guest) op)
device_own_events Moves op guest can = device_own guest.shape IsDoubleword Moves (view_of guest) op can
