-- The look, the try to enter the line, the raise, and the way out.
use Rattle.std.proofs.Common.{◌≡◌, ◌<◌, sym, ap, subst, ◌∙◌}
use Rattle.std.proofs.lemmas.Bool.{eq-eqb, ne_eqb}
use Rattle.gic_msi.specs.Core.{LineEnter, LineLeave, Look, Line, AddsStep, CanMake, line_of, Raise}
use Rattle.gic_msi.specs.Words.{Lpi}
use Rattle.gic_msi.specs.PortCall.Tell.{Tells}
use Rattle.gic_msi.specs.GicCall.declared.event.Event.TheVariants.{Raise as RaiseEvent}
use Rattle.gic_msi.proofs.PostLemmas.{can_leave, finds_changed, posted}
use Rattle.gic_msi.proofs.posts.post.Goals as goal

pub returns-then-found-seen : goal.returns-then-found-seen
returns-then-found-seen g c =
    let line = c.line_of_message-line.ensures.value in
    let old = g.P.Port.seen c.args.port.now in
    let a = g.P.Port.seen c.step-seen.new.self in
    let b = g.P.Port.seen c.step-found.new.self in
    let seen = c.step-seen.result in
    finds_changed old a b c.args.device c.args.event seen c.step-found.result c.requires.ready
    (subst (λ n. AddsStep old a (Look (Line n)) seen) line c.step-seen.ensures.adds)
    (subst (λ n. AddsStep a b (LineEnter n seen) c.step-found.result) line c.step-found.ensures.adds)
    (sym c.has_message.ensures ∙ c.if-not-has_message.false) (ne_eqb c.step-found.result seen c.if-found-seen.true)

pub step-requires : goal.step-requires
step-requires g c =
    let line = c.line_of_message-line.ensures.value in
    let old = g.P.Port.seen c.args.port.now in
    let a = g.P.Port.seen c.step-seen.new.self in
    let b = g.P.Port.seen c.step-found.new.self in
    let told = g.P.Port.seen c.raise.new.port in
    let seen = c.step-seen.result in
    subst (λ n. CanMake told (LineLeave n)) (sym line)
    (can_leave old a b told c.args.device c.args.event seen c.step-found.result c.of.result.lpi c.requires.ready c.requires.lpis (subst (λ n. n < 64) line c.line_of_message-line.ensures.there)
    (subst (λ n. AddsStep old a (Look (Line n)) seen) line c.step-seen.ensures.adds)
    (subst (λ n. AddsStep a b (LineEnter n seen) c.step-found.result) line c.step-found.ensures.adds)
    (sym c.has_message.ensures ∙ c.if-not-has_message.false) (eq-eqb c.step-found.result seen c.if-found-seen.false) c.raise.ensures)

pub returns : goal.returns
returns g c =
    let line = c.line_of_message-line.ensures.value in
    let old = g.P.Port.seen c.args.port.now in
    let a = g.P.Port.seen c.step-seen.new.self in
    let b = g.P.Port.seen c.step-found.new.self in
    let told = g.P.Port.seen c.raise.new.port in
    let new = g.P.Port.seen c.step.new.self in
    let seen = c.step-seen.result in
    let lpi : c.of.result.lpi ≡ (line_of seen).lpi = ap (λ line. line.lpi) c.of.ensures.value in
    posted old a b told new c.args.device c.args.event seen c.step-found.result c.step.result (g.P.Port.is_port c.args.port.now) (g.P.Port.is_port c.step.new.self) c.requires.ready
    (subst (λ n. AddsStep old a (Look (Line n)) seen) line c.step-seen.ensures.adds)
    (subst (λ n. AddsStep a b (LineEnter n seen) c.step-found.result) line c.step-found.ensures.adds)
    (sym c.has_message.ensures ∙ c.if-not-has_message.false) (eq-eqb c.step-found.result seen c.if-found-seen.false)
    (subst (λ n. Tells b told (Raise (Lpi n)) (Lpi n) (RaiseEvent (Lpi n))) lpi c.raise.ensures)
    (subst (λ n. AddsStep told new (LineLeave n) c.step.result) line c.step.ensures.adds)
