use Rattle.std.proofs.Common.{◌+◌, sym, ap, ◌∙◌, arith}
use Rattle.legal_play.proofs.MayLemmas.{among_left, among_none, among_passed, among_other}
use Rattle.legal_play.proofs.may.is_among.Goals as goal
use Rattle.legal_play.proofs.may.is_among.Goals.{in-Some+then-before-gt0, in-Some+else-before-gt0+else-is_same, in_default}

pub loop-event-preserved : goal.loop-event-preserved
loop-event-preserved c =
    let within = c.loop-event-test.true in
    let next = c.loop-event.event-index + 1 in
    elim c.match-key_in.branch [
      | in-Some+then-before-gt0 w ↦ among_passed c.args.key c.args.events.now c.loop-event.event-index _ within _ c.loop-event.before c.match-key_in.before w.in-Some.other (sym c.key_in.ensures ∙ w.in-Some.is) (omega (arith, w.before-is, w.if-before-gt0.true)) c.loop-event.invariant
      | in-Some+else-before-gt0+else-is_same w ↦ ap (among_left c.args.key c.args.events.now next) w.before-is ∙ among_other c.args.key c.args.events.now c.loop-event.event-index _ within _ c.loop-event.before w.in-Some.other (sym c.key_in.ensures ∙ w.in-Some.is) (omega (arith, w.if-before-gt0.false)) (sym w.is_same.ensures ∙ w.if-is_same.false) c.loop-event.invariant
      | in_default w ↦ ap (among_left c.args.key c.args.events.now next) w.before-is ∙ among_none c.args.key c.args.events.now c.loop-event.event-index _ within _ c.loop-event.before (sym c.key_in.ensures ∙ w.in_default.is) c.loop-event.invariant
    ]
