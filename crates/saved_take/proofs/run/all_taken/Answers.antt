-- One more guest is saved.
use Rattle.std.proofs.Common.{◌≤◌, drop, length, Some, sym, ap, subst, ◌∙◌, arith}
use Rattle.std.proofs.lemmas.Option.{slice_get-get_or}
use Rattle.std.proofs.lemmas.List.Elements.{All-get_or}
use Rattle.saved_guest.specs.IdealGuests.Calls.{IsGoodGuest}
use Rattle.saved_guest.specs.IdealGuests.Words.{interrupt_count}
use Rattle.saved_take.proofs.RunLemmas.{next_fine, takes_more, wires_last}
use Rattle.saved_take.proofs.run.all_taken.Goals as goal

pub taken-requires-clause-good : goal.taken-requires-clause-good
taken-requires-clause-good c = subst IsGoodGuest (sym c.index-guests-number.is) (All-get_or IsGoodGuest c.args.guests.now c.loop-number.number c.index-guests-number.result (omega arith) c.requires.good)

pub taken-requires-clause-sound : goal.taken-requires-clause-sound
taken-requires-clause-sound c = (next_fine c.args.guests.now c.args.standing.now c.args.states.now c.loop-number.wires.now c.loop-number.list c.loop-number.number c.loop-number.invariant c.requires.fine c.requires.shapes c.index-guests-number.result (slice_get-get_or c.args.guests.now c.loop-number.number c.index-guests-number.result (omega arith) ∙ ap Some (sym c.index-guests-number.is)) c.index-states-number.result (sym c.index-states-number.is)).sound

pub taken-requires-clause-wires : goal.taken-requires-clause-wires
taken-requires-clause-wires c = subst (λ shape. interrupt_count shape ≤ length c.loop-number.wires.now) (sym (next_fine c.args.guests.now c.args.standing.now c.args.states.now c.loop-number.wires.now c.loop-number.list c.loop-number.number c.loop-number.invariant c.requires.fine c.requires.shapes c.index-guests-number.result (slice_get-get_or c.args.guests.now c.loop-number.number c.index-guests-number.result (omega arith) ∙ ap Some (sym c.index-guests-number.is)) c.index-states-number.result (sym c.index-states-number.is)).shape) (wires_last c.args.guests.now c.args.standing.now c.args.states.now c.loop-number.wires.now c.loop-number.list c.loop-number.number c.loop-number.invariant c.requires.fine c.requires.shapes c.index-guests-number.result (slice_get-get_or c.args.guests.now c.loop-number.number c.index-guests-number.result (omega arith) ∙ ap Some (sym c.index-guests-number.is)))

pub split_at-requires : goal.split_at-requires
split_at-requires c = subst (λ n. n ≤ length c.loop-number.wires.now) (sym c.interrupt_count.ensures.value) (wires_last c.args.guests.now c.args.standing.now c.args.states.now c.loop-number.wires.now c.loop-number.list c.loop-number.number c.loop-number.invariant c.requires.fine c.requires.shapes c.index-guests-number.result (slice_get-get_or c.args.guests.now c.loop-number.number c.index-guests-number.result (omega arith) ∙ ap Some (sym c.index-guests-number.is)))

pub loop-number-preserved : goal.loop-number-preserved
loop-number-preserved c = takes_more c.args.guests.now c.args.standing.now c.args.states.now c.loop-number.wires.now c.loop-number.list c.loop-number.number c.loop-number.invariant c.requires.fine c.requires.shapes c.index-guests-number.result (slice_get-get_or c.args.guests.now c.loop-number.number c.index-guests-number.result (omega arith) ∙ ap Some (sym c.index-guests-number.is)) c.index-states-number.result c.in_ok-taken.field-0 c.push.new.self c.split_at.result.1.now (sym c.index-states-number.is) c.in_ok-taken.ensures c.in_ok-push.ensures.ok (c.split_at.ensures.back ∙ ap (λ n. drop n c.loop-number.wires.now) c.interrupt_count.ensures.value)
