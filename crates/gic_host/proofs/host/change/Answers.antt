use Rattle.std.proofs.Common.{set, ap, ◌∙◌, arith}
use Rattle.std.proofs.lemmas.List.Edits.{map_over_more}
use Rattle.std.proofs.lemmas.List.{get_or_default}
use Rattle.gic_host.specs.declared.state.LinkState.{LinkState}
use Rattle.gic_host.specs.State.{with_set}
use Rattle.gic_host.proofs.host.change.Goals as goal

pub loop-link-preserved : goal.loop-link-preserved
loop-link-preserved c = ap (λ (l : LinkState). set c.loop-link.links c.loop-link.link-index l) c.with_set.ensures ∙ map_over_more (with_set c.args.phys c.args.set) c.args.links.now c.loop-link.links c.loop-link.link-index _ c.loop-link-test.true c.loop-link.invariant (get_or_default c.loop-link.links c.loop-link.link-index _ _ (omega (arith, c.loop-link-test.true, c.loop-link.auto.links)))
