-- The standing is that of the guests' shapes.
use Rattle.std.proofs.Common.{sym, ap, ◌∙◌}
use Rattle.saved_guest.specs.IdealGuests.Calls.{shapes_of}
use Rattle.saved_guest.specs.ScnSaved.ScnBase.declared.standing.Standing.{Standing}
use Rattle.saved_guest.specs.ScnSaved.ScnBase.Standing.{opening_standing}
use Rattle.saved_take.proofs.RunLemmas.{same_shapes}
use Rattle.saved_take.proofs.run.saved.Goals as goal

pub all_taken-requires-clause-shapes : goal.all_taken-requires-clause-shapes
all_taken-requires-clause-shapes c = ap (λ (standing : Standing). standing.shapes) c.in_ok-standing.ensures.value ∙ same_shapes c.split_at.result.0.now (opening_standing c.args.scenario.now.pes (shapes_of c.args.scenario.now.guests)) ∙ ap shapes_of (sym c.as_slice-guests.ensures)
