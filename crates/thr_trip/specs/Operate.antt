-- Operations of a vCPU while it is on a PE (own choice).
use Rattle.std.specs.Prelude.{ℕ, ◌≤◌, List, length, Option}
use Rattle.gic_io.specs.Words.{GuestOp}
use Rattle.pe_place.specs.PeIcc.Amid.{IsRunning, IsSame}
use Rattle.pe_place.specs.PeLoop.Stay.{IsUp}
use Rattle.pe_place.specs.Core.{Seen, IsSameActor}
use Rattle.pe_place.specs.VcpuState.declared.loaded.Loaded.{Loaded}
use Rattle.thr_trip.specs.Gone.{HasGone}
use Rattle.thr_trip.specs.Script.{calls_answered}

-- a vCPU on a PE did further operations of its script: it went on by these, with the answers that were added
pub record Operates (script : List GuestOp) (old new : Seen) (before after : Loaded) (answered answers : List (Option ℕ)) : Type 0 where
  pub actor : IsSameActor old new
  pub up : IsUp new after
  pub same : IsSame before after
  pub most : length answers ≤ length script
  pub goes_on :
      (from : Seen) → HasGone before.regs.n from old (IsRunning old before) (calls_answered script answered) → HasGone before.regs.n from new (IsRunning new after) (calls_answered script answers)
