-- The configuration, and the touch.
use Rattle.std.proofs.Common.{refl, ap, ◌∙◌}
use Rattle.port_call.specs.Calls.{Map, MapLpi}
use Rattle.port_call.specs.Core.{has_all_shut, shape_of}
use Rattle.its_exec.proofs.PartLemmas.{mapped, mapping_by, part_there}
use Rattle.its_exec.proofs.part.map.Goals as goal

pub touch-requires-clause-lines : goal.touch-requires-clause-lines
touch-requires-clause-lines g c = λ e. ap has_all_shut c.byte_for.ensures.reading.local ∙ c.requires.holds.lines

pub returns : goal.returns
returns g c =
    let old = g.P.Port.seen c.args.port.now in
    mapped old (g.P.Port.seen c.byte_for.new.port) (g.P.Port.seen c.touch.new.port) c.args.fetched.now c.args.lpi c.args.target c.byte_for.result (MapLpi c.args.target c.config_of-enabled.result.0 c.config_of-enabled.result.1) c.touch.result
    (part_there (shape_of old) (Map c.args.lpi c.args.target) c.args.lpi refl c.requires.part) c.byte_for.ensures
    (mapping_by c.args.target c.byte_for.result c.config_of-enabled.result.0 c.config_of-enabled.result.1 c.config_of-enabled.ensures.enabled c.config_of-enabled.ensures.priority) c.touch.ensures
