use Rattle.std.proofs.Common.{◌≡◌, arith}
use Rattle.std.proofs.lemmas.Grind.{common_steps}
use Rattle.std.proofs.lemmas.List.Elements.{All-same}
use Rattle.scn_base.specs.Standing.{vcpus_from}
use Rattle.gic_ideal.specs.Eager.{state_shapes}
use Rattle.gic_picture.proofs.NameLemmas.{HasVcpu, vcpus_there}
use Rattle.gic_picture.proofs.names.vcpu_names.Goals as goal

pub returns-clause-there : goal.returns-clause-there
returns-clause-there c =
    let shapes = state_shapes c.args.guests.now in
    let all : c.loop-number.names ≡ vcpus_from 0 shapes = grind (arith, common_steps) in
    All-same (HasVcpu shapes) c.loop-number.names (vcpus_from 0 shapes) all (vcpus_there shapes)
