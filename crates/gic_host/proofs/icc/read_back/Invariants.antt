use Rattle.std.proofs.Common.{◌≡◌, ◌++◌, map, take, drop}
use Rattle.gic_host.specs.Access.{read_back}
use Rattle.gic_host.proofs.icc.read_back.Given as goal

-- those before the index are read back
abbrev pub invariant-loop-link : goal.invariant-loop-link
invariant-loop-link l = l.links ≡ map (read_back l.fn.vcpu l.fn.before l.fn.after) (take l.link-index l.fn.links) ++ drop l.link-index l.fn.links
