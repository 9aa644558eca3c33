use Rattle.std.proofs.Common.{◌≡◌, ◌++◌, map, take, drop}
use Rattle.gic_host.specs.State.{settled_link}
use Rattle.gic_host.proofs.host.settle.Given as goal

-- those before the index are settled
abbrev pub invariant-loop-link : goal.invariant-loop-link
invariant-loop-link l = l.links ≡ map settled_link (take l.link-index l.fn.links) ++ drop l.link-index l.fn.links
