use Rattle.std.proofs.Common.{IsTrue, Some, sym, ap, ◌∙◌, subst, arith}
use Rattle.std.proofs.lemmas.List.{get_or_default}
use Rattle.history_commands.specs.Words.{Private}
use Rattle.history_commands.specs.Calls.{Happened, View, HandsOut, is_beside}
use Rattle.history_commands.specs.GicCall.declared.event.Event.TheVariants.{Raise}
use Rattle.history_commands.specs.HistoryCalls.Found.{found_by}
use Rattle.history_calls.proofs.CountLemmas.{counted_next, must_be, must_hand}
use Rattle.history_commands.proofs.written.count_written.Goals.{then-count-events-via-then-count-events, then-count-events-via-else-count-events+then-not-is_so}
use Rattle.history_commands.proofs.written.count_written.Goals as goal

pub returns-then-count-events-clause-none : goal.returns-then-count-events-clause-none
returns-then-count-events-clause-none c = λ rest are all.
    let view : View = found_by c.args.piece.now in
    let i = c.loop-made.made-index in
    let one = c.made-item.result in
    let named = ap (λ (h : Happened). is_beside (Some c.args.actor) h.event) (sym c.made.view_is) ∙ sym c.is_beside.ensures ∙ c.if-is_beside.false in
    let must = must_be (Some c.args.actor) view c.args.events.now c.args.piece.now i c.loop-made.count one c.loop-made-test.true (sym c.made-item.is) c.loop-made.invariant named rest are in
    let hands = must_hand (Some c.args.actor) view c.args.events.now c.args.piece.now i c.loop-made.count one c.loop-made-test.true (sym c.made-item.is) c.loop-made.invariant named all in
    elim c.then-count-events.branch [
      | then-count-events-via-then-count-events w ↦ absurd (omega (arith, must.0, w.if-count-events.true))
      | then-count-events-via-else-count-events+then-not-is_so w ↦
          let same = must.1 (Raise (Private 0 0)) in
          let given : IsTrue w.is_so.result = w.is_so.ensures.1 (same, subst (λ e. HandsOut view e one.found) (sym same) hands) in
          let not = w.if-not-is_so.true in
          absurd (cc)
    ]

pub loop-made-preserved : goal.loop-made-preserved
loop-made-preserved c =
    let view : View = found_by c.args.piece.now in
    let one = c.made-item.result in
    let so = c.is_so.ensures.0 c.if-not-is_so.false in
    let more = c.if-count-events.false in
    counted_next (Some c.args.actor) view c.args.events.now c.args.piece.now c.loop-made.made-index c.loop-made.count one c.loop-made-test.true (sym c.made-item.is) c.loop-made.invariant
    (ap (λ (h : Happened). is_beside (Some c.args.actor) h.event) (sym c.made.view_is) ∙ sym c.is_beside.ensures ∙ c.if-is_beside.false) more
    (λ d. get_or_default c.args.events.now c.loop-made.count d (Raise (Private 0 0)) more ∙ so.0) (subst (λ e. HandsOut view e one.found) so.0 so.1)
