use Rattle.std.proofs.Common.{◌≡◌, map}
use Rattle.std.specs.List.{range_with_len}
use Rattle.vcpu_refill.specs.Chooser.{StandsFor}
use Rattle.gic_ideal.specs.Shown.{offer_at}
use Rattle.gic_ideal.proofs.shown.chooser.Given as goal

-- the interrupts so far were offered
abbrev pub invariant-loop-place : goal.invariant-loop-place
invariant-loop-place l =
    record {
      lrs : l.chooser.lrs ≡ l.lrs;
      vcpu : l.chooser.vcpu ≡ l.vcpu;
      stands : StandsFor l.chooser l.cpu (map (offer_at l.guest) (range_with_len 0 l.place));
    }
