use Rattle.std.proofs.Common.{◌≡◌, take}
use Rattle.floor_lists.specs.Lists.{StandsFor}
use Rattle.gic_host.specs.Text.{offers_at}
use Rattle.gic_host.proofs.icc.chooser.Given as goal

-- those so far were offered
abbrev pub invariant-loop-link : goal.invariant-loop-link
invariant-loop-link l =
    record {
      lrs : l.chooser.lrs ≡ l.fn.lrs;
      vcpu : l.chooser.vcpu ≡ l.fn.vcpu;
      stands : StandsFor l.chooser l.cpu (offers_at (take l.link-index l.links) l.fn.vcpu);
    }
