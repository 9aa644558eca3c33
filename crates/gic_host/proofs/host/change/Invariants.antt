use Rattle.std.proofs.Common.{◌≡◌, ◌++◌, map, take, drop}
use Rattle.gic_host.specs.State.{with_set}
use Rattle.gic_host.proofs.host.change.Given as goal

-- those before the index are changed
abbrev pub invariant-loop-link : goal.invariant-loop-link
invariant-loop-link l = l.links ≡ map (with_set l.fn.phys l.fn.set) (take l.link-index l.fn.links) ++ drop l.link-index l.fn.links
