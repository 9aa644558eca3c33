use Rattle.std.proofs.Common.{◌≡◌, map, take}
use Rattle.gic_picture.specs.Marks.{cpu_mark_in}
use Rattle.gic_picture.proofs.picture.cpus_of.Given as goal

-- what is shown of the vCPUs so far
abbrev pub invariant-loop-name : goal.invariant-loop-name
invariant-loop-name l = l.cpus ≡ map (cpu_mark_in l.guests) (take l.name-index l.vcpus)
