-- The touch, and the request.
use Rattle.std.proofs.Common.{sym, subst, ◌∙◌}
use Rattle.std.proofs.lemmas.Bool.{eq-eqb}
use Rattle.port_call.specs.Touch.{Touches}
use Rattle.port_call.proofs.TouchLemmas.{found_can, late_marks, there_still, held_by_touch, changed_by_touch, look_tries, looked_known, not_eq, touches}
use Rattle.port_call.proofs.touching.touch_seen.Goals as goal

pub step-found-requires : goal.step-found-requires
step-found-requires g c = found_can (g.P.Port.seen c.args.port.now) c.args.key c.args.kind c.args.seen c.requires.can c.requires.looked c.requires.lines

pub returns-then-found-seen-clause-touched : goal.returns-then-found-seen-clause-touched
returns-then-found-seen-clause-touched g c = λ old ease finds.
    let mid = g.P.Port.seen c.args.port.now in
    let new = g.P.Port.seen c.settle.new.port in
    subst (Touches old new c.args.key c.args.kind) c.if-found-seen.true
    (touches old mid (g.P.Port.seen c.step-found.new.self) new c.args.key c.args.kind c.args.seen c.step-found.result ease.owes (look_tries old mid c.args.key c.args.seen ease.owes finds.look)
    (eq-eqb c.step-found.result c.args.seen c.if-found-seen.true) finds.home (looked_known old mid c.args.key c.args.kind c.args.seen finds.look) c.step-found.ensures.adds c.settle.ensures)

pub ask-requires-clause-there : goal.ask-requires-clause-there
ask-requires-clause-there g c =
    there_still (g.P.Port.seen c.args.port.now) (g.P.Port.seen c.step-found.new.self) c.args.key c.args.kind c.args.seen c.step-found.result c.requires.can c.step-found.ensures.adds

pub ask-requires-clause-marks : goal.ask-requires-clause-marks
ask-requires-clause-marks g c =
    let looked = c.requires.looked in
    late_marks looked.before (g.P.Port.seen c.args.port.now) (g.P.Port.seen c.step-found.new.self) c.args.key c.args.kind c.args.seen c.step-found.result looked.ease.owes (not_eq c.step-found.result c.args.seen c.if-found-seen.false)
    looked.finds.look c.step-found.ensures.adds

pub returns-in-Some-clause-missed : goal.returns-in-Some-clause-missed
returns-in-Some-clause-missed g c = λ old ease finds.
    held_by_touch old (g.P.Port.seen c.args.port.now) (g.P.Port.seen c.step-found.new.self) (g.P.Port.seen c.ask.new.port) c.args.key c.args.kind c.args.seen c.step-found.result c.in-Some.holder ease.owes finds.home
    (not_eq c.step-found.result c.args.seen c.if-found-seen.false) (sym c.holder_in.ensures ∙ c.in-Some.is) finds.look c.step-found.ensures.adds c.ask.ensures

pub returns-in-None-clause-missed : goal.returns-in-None-clause-missed
returns-in-None-clause-missed g c = λ old ease finds.
    changed_by_touch old (g.P.Port.seen c.args.port.now) (g.P.Port.seen c.step-found.new.self) c.args.key c.args.kind c.args.seen c.step-found.result ease.owes finds.home
    (not_eq c.step-found.result c.args.seen c.if-found-seen.false) (sym c.holder_in.ensures ∙ c.in-None.is) finds.look c.step-found.ensures.adds
