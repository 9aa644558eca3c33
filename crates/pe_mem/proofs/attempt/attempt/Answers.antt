-- The look, and the touch by the record that it found.
use Rattle.std.proofs.Common.{ap, ◌∙◌}
use Rattle.std.proofs.lemmas.Result.{err_from_is_err_and}
use Rattle.its_exec.specs.Core.{changes_lpi, shape_of}
use Rattle.its_exec.proofs.PortCall.TouchLemmas.{looked_can, may_quiet}
use Rattle.pe_mem.proofs.PartLemmas.{can_try, attempted, held_so, missed_so, quiet_part}
use Rattle.pe_mem.proofs.attempt.attempt.Goals as goal

pub touch_seen-requires-clause-can : goal.touch_seen-requires-clause-can
touch_seen-requires-clause-can g c =
    let old = g.P.Port.seen c.args.port.now in
    let finds = c.in_ok-seen.ensures.home in
    looked_can old (g.P.Port.seen c.look_home.new.port) c.args.key c.touching.result c.in_ok-seen.seen
    (can_try (shape_of old) c.args.key c.args.kind c.args.access c.in_ok-seen.seen c.record_in-irq.result c.touching.result c.requires.can finds.word_is c.record_in-irq.ensures.value c.touching.ensures) finds

pub touch_seen-requires-clause-looked : goal.touch_seen-requires-clause-looked
touch_seen-requires-clause-looked g c = record { before = g.P.Port.seen c.args.port.now; ease = c.requires.ease; finds = c.in_ok-seen.ensures.home }

pub touch_seen-requires-clause-lines : goal.touch_seen-requires-clause-lines
touch_seen-requires-clause-lines g c =
    may_quiet (g.P.Port.seen c.look_home.new.port) c.touching.result (ap changes_lpi c.touching.ensures ∙ quiet_part c.args.access c.args.kind c.record_in-irq.result)

pub returns-clause-done : goal.returns-clause-done
returns-clause-done g c =
    let old = g.P.Port.seen c.args.port.now in
    let finds = c.in_ok-seen.ensures.home in
    attempted old (g.P.Port.seen c.touch_seen.new.port) c.args.key c.args.kind c.args.access c.in_ok-seen.seen c.record_in-irq.result c.touching.result c.requires.can finds.word_is c.record_in-irq.ensures.value c.touching.ensures
    (c.in_ok-touch_seen.ensures.touched old c.requires.ease finds)

pub returns-in_err-seen-clause-missed : goal.returns-in_err-seen-clause-missed
returns-in_err-seen-clause-missed g c =
    let p = err_from_is_err_and c.from_residual.result c.from_residual.ensures.1 in
    rw (p.1, p.2) (held_so (g.P.Port.seen c.args.port.now) (g.P.Port.seen c.look_home.new.port) c.args.key c.args.kind c.args.access c.in_err-seen.field-0.0 c.in_err-seen.ensures.held)

pub returns-in_err-touch_seen-clause-missed : goal.returns-in_err-touch_seen-clause-missed
returns-in_err-touch_seen-clause-missed g c =
    let old = g.P.Port.seen c.args.port.now in
    let p = err_from_is_err_and c.from_residual-in_err-touch_seen.result c.from_residual-in_err-touch_seen.ensures.1 in
    rw (p.1, p.2) (missed_so old (g.P.Port.seen c.touch_seen.new.port) c.args.key c.args.kind c.args.access c.record_in-irq.result c.touching.result c.in_err-touch_seen.field-0.0 c.touching.ensures
    (c.in_err-touch_seen.ensures.missed old c.requires.ease c.in_ok-seen.ensures.home))
