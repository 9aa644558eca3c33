use Rattle.std.proofs.Common.{slice_set, arith, rules, ap, ◌∙◌}
use Rattle.std.proofs.lemmas.List.Edits.{map_over_more}
use Rattle.port_core.specs.AtList.{changed_by, changed_if, is_which}
use Rattle.port_core.proofs.at_list.AtList.change.Goals as goal

pub loop-entry-preserved : goal.loop-entry-preserved
loop-entry-preserved c =
    ap (slice_set c.loop-entry.entry-items c.loop-entry.entry-index) c.changed_if.ensures
    ∙ map_over_more (changed_if (is_which c.args.which) (changed_by c.args.change)) c.as_mut_slice-entry-items.result.now c.loop-entry.entry-items c.loop-entry.entry-index _ (omega arith) c.loop-entry.invariant (search rules)
