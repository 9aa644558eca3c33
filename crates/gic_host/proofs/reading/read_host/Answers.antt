use Rattle.std.proofs.Common.{map, sym, ◌∙◌}
use Rattle.serde_json.specs.View.{view}
use Rattle.gic_host.proofs.CleanLemmas.{host_good}
use Rattle.gic_host.proofs.reading.read_host.Goals as goal

pub returns-clause-good : goal.returns-clause-good
returns-clause-good c =
    host_good (view c.args.value.now) (map view c.elements_at.result.now) c.vcpus_in.result c.opening.result c.in_ok-links.links c.in-Ok.parts c.as_slice.result.now c.as_slice-2.result.now c.in_ok-steps.steps c.opening.ensures c.elements_at.ensures
    c.vcpus_in.ensures.value c.in_ok-links.ensures c.in-Ok.ensures c.as_slice.ensures (sym c.has_clash.ensures ∙ c.if-has_clash.false) c.as_slice-2.ensures c.in_ok-steps.ensures.ok
