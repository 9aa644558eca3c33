-- The look, the configuration, and the touch.
use Rattle.std.proofs.Common.{refl, ap, ◌∙◌}
use Rattle.port_call.specs.GicCall.declared.command.Part.TheVariants.{Configure}
use Rattle.port_call.specs.GicCall.declared.touch.Touching.TheVariants.{Configure as ConfigureLpi}
use Rattle.port_call.specs.Core.{has_all_shut, shape_of}
use Rattle.its_exec.proofs.PartLemmas.{configured, configuring_by, look_holds, part_there}
use Rattle.its_exec.proofs.part.configure.Goals as goal

pub byte_for-requires-clause-holds : goal.byte_for-requires-clause-holds
byte_for-requires-clause-holds g c =
    let old = g.P.Port.seen c.args.port.now in
    look_holds old (g.P.Port.seen c.look_at_target-target.new.port) c.args.fetched.now c.args.lpi c.look_at_target-target.result (part_there (shape_of old) (Configure c.args.lpi) c.args.lpi refl c.requires.part) c.look_at_target-target.ensures c.requires.holds

pub touch-requires-clause-lines : goal.touch-requires-clause-lines
touch-requires-clause-lines g c = λ e. ap has_all_shut c.byte_for.ensures.reading.local ∙ ap has_all_shut c.look_at_target-target.ensures.local_is ∙ c.requires.holds.lines

pub returns : goal.returns
returns g c =
    let old = g.P.Port.seen c.args.port.now in
    configured old (g.P.Port.seen c.look_at_target-target.new.port) (g.P.Port.seen c.byte_for.new.port) (g.P.Port.seen c.touch.new.port) c.args.fetched.now c.args.lpi c.byte_for.result c.look_at_target-target.result
    (ConfigureLpi c.config_of-enabled.result.0 c.config_of-enabled.result.1) c.touch.result (part_there (shape_of old) (Configure c.args.lpi) c.args.lpi refl c.requires.part) c.look_at_target-target.ensures c.byte_for.ensures
    (configuring_by c.byte_for.result c.config_of-enabled.result.0 c.config_of-enabled.result.1 c.config_of-enabled.ensures.enabled c.config_of-enabled.ensures.priority) c.touch.ensures
