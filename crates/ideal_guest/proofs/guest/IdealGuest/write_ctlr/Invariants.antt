use Rattle.std.proofs.Common.{◌≡◌, ◌-◌, [], ◌∷◌, ◌++◌, map}
use Rattle.std.specs.List.{range_with_len}
use Rattle.floor_calls.specs.Words.{interrupt_count}
use Rattle.floor_calls.specs.Calls.{CtlrEnd, copy_at, ctlr_events}
use Rattle.ideal_guest.proofs.EachLemmas.{IsUnderway}
use Rattle.ideal_guest.proofs.guest.IdealGuest.write_ctlr.Given as goal

-- the copies that are left
abbrev pub invariant-loop-place : goal.invariant-loop-place
invariant-loop-place l =
    let guest = l.fn.self in
    record {
      shape : l.shape ≡ guest.shape;
      end : l.place-end ≡ interrupt_count guest.shape;
      way : IsUnderway guest (ctlr_events guest.shape l.fn.enables) (map (copy_at guest.shape l.fn.enables) (range_with_len l.place (interrupt_count guest.shape - l.place)) ++ CtlrEnd ∷ []) l.self;
    }
