-- The look, the closing, and the fill.
use Rattle.std.proofs.Common.{◌<◌, sym, ap, subst, ◌∙◌}
use Rattle.std.proofs.lemmas.Bool.{eq-eqb, ne_eqb}
use Rattle.gic_msi.specs.Core.{LineClose, LineFill, Look, Line, AddsStep, CanMake, line_of}
use Rattle.gic_msi.proofs.FillLemmas.{can_fill, emptied, filled, filling_close, filling_look}
use Rattle.gic_msi.proofs.fill.fill_line.Goals as goal

pub returns-then-of-ne0 : goal.returns-then-of-ne0
returns-then-of-ne0 g c =
    let line = c.line_of_message-line.ensures.value in
    let old = g.P.Port.seen c.args.port.now in
    let mid = g.P.Port.seen c.step-word.new.self in
    let new = g.P.Port.seen c.step-closed.new.self in
    emptied old mid new c.args.device c.args.event c.args.lpi c.step-word.result c.step-closed.result c.requires.can
    (subst (λ n. AddsStep old mid (Look (Line n)) c.step-word.result) line c.step-word.ensures.adds)
    (subst (λ n. AddsStep mid new (LineClose n) c.step-closed.result) line c.step-closed.ensures.adds)
    (sym c.has_message.ensures ∙ c.if-has_message.false)
    (ne_eqb (line_of c.step-closed.result).inside 0 (λ e. c.if-of-ne0.true (ap (λ line. line.inside) c.of.ensures.value ∙ e)))

pub step-requires : goal.step-requires
step-requires g c =
    let line = c.line_of_message-line.ensures.value in
    let old = g.P.Port.seen c.args.port.now in
    let mid = g.P.Port.seen c.step-word.new.self in
    let new = g.P.Port.seen c.step-closed.new.self in
    let looks = subst (λ n. AddsStep old mid (Look (Line n)) c.step-word.result) line c.step-word.ensures.adds in
    let closes = subst (λ n. AddsStep mid new (LineClose n) c.step-closed.result) line c.step-closed.ensures.adds in
    let so = filling_look old mid c.args.device c.args.event c.args.lpi c.step-word.result c.requires.can looks in
    let after = filling_close old mid new c.args.device c.args.event c.args.lpi c.step-closed.result _ so closes in
    subst (λ n. CanMake new (LineFill n c.args.device c.args.event c.args.lpi)) (sym line)
    (can_fill old new c.args.device c.args.event c.args.lpi _ c.requires.can c.requires.device c.requires.event (subst (λ n. n < 64) line c.line_of_message-line.ensures.there) after)

pub returns : goal.returns
returns g c =
    let line = c.line_of_message-line.ensures.value in
    let old = g.P.Port.seen c.args.port.now in
    let mid = g.P.Port.seen c.step-word.new.self in
    let now = g.P.Port.seen c.step-closed.new.self in
    let new = g.P.Port.seen c.step.new.self in
    filled old mid now new c.args.device c.args.event c.args.lpi c.step-word.result c.step-closed.result c.step.result (g.P.Port.is_port c.args.port.now) c.requires.can c.requires.device c.requires.event
    (subst (λ n. AddsStep old mid (Look (Line n)) c.step-word.result) line c.step-word.ensures.adds)
    (subst (λ n. AddsStep mid now (LineClose n) c.step-closed.result) line c.step-closed.ensures.adds)
    (subst (λ n. AddsStep now new (LineFill n c.args.device c.args.event c.args.lpi) c.step.result) line c.step.ensures.adds)
    (sym c.has_message.ensures ∙ c.if-has_message.false)
    (eq-eqb (line_of c.step-closed.result).inside 0 (sym (ap (λ line. line.inside) c.of.ensures.value) ∙ c.if-of-ne0.false))
