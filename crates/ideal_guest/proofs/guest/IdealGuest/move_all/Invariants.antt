use Rattle.std.proofs.Common.{◌≡◌, Some}
use Rattle.floor_calls.specs.Words.{is_number}
use Rattle.floor_calls.specs.GicCall.declared.command.Part.TheVariants.{Retarget}
use Rattle.ideal_guest.specs.Ideal.{view_of}
use Rattle.ideal_guest.proofs.SweepLemmas.{Sweeps}
use Rattle.ideal_guest.proofs.guest.IdealGuest.move_all.Given as goal

-- the LPIs before this one are done
abbrev pub invariant-loop-number : goal.invariant-loop-number
invariant-loop-number l =
    record {
      end : l.number-end ≡ l.fn.self.shape.lpis;
      target : l.target ≡ Some l.to;
      so_far : Sweeps l.fn.self (λ id. is_number l.fn.from ((view_of l.fn.self).targets id)) (λ lpi. Retarget lpi (Some l.to)) l.number l.self;
    }
