-- The try is of the word that was looked at.
use Rattle.std.proofs.Common.{◌∙◌, ◌<◌, sym, ap, subst, rules}
use Rattle.std.proofs.lemmas.Bool.{eq-eqb, ne_eqb}
use Rattle.pe_mem.specs.Calls.{place_of_plain, plain_count, plain_at}
use Rattle.pe_its.specs.Change.{changed_by}
use Rattle.pe_its.proofs.ChangeLemmas.{keeps_looked, stores_tried, misses_tried}
use Rattle.pe_mem.proofs.PortCall.StoreLemmas.{can_put, may_any}
use Rattle.pe_its.proofs.change.try_change.Goals as goal

pub step-requires : goal.step-requires
step-requires g c =
    let old = g.P.Port.seen c.args.port.now in
    can_put old (g.P.Port.seen c.step-seen.new.self) c.args.word c.place_of_plain-index.result c.step-seen.result c.in-Some.value c.requires.there
    (c.place_of_plain-index.ensures.value ∙ ap (λ shape. place_of_plain shape c.args.word) c.shape.ensures)
    (ap (λ shape. plain_at shape c.place_of_plain-index.result) (sym c.shape.ensures) ∙ c.place_of_plain-index.ensures.inverse)
    (subst (λ shape. c.place_of_plain-index.result < plain_count shape) c.shape.ensures c.place_of_plain-index.ensures.within) (search rules) (may_any old c.args.word c.requires.kept c.requires.other) c.step-seen.ensures.adds

pub returns-in_default : goal.returns-in_default
returns-in_default g c =
    keeps_looked (g.P.Port.seen c.args.port.now) (g.P.Port.seen c.step-seen.new.self) c.args.word (changed_by c.args.change) c.place_of_plain-index.result c.step-seen.result c.requires.there c.requires.kept
    (c.place_of_plain-index.ensures.value ∙ ap (λ shape. place_of_plain shape c.args.word) c.shape.ensures)
    (ap (λ shape. plain_at shape c.place_of_plain-index.result) (sym c.shape.ensures) ∙ c.place_of_plain-index.ensures.inverse)
    (sym c.applied.ensures ∙ c.in_default.is) c.step-seen.ensures.adds

pub returns-then-step-seen : goal.returns-then-step-seen
returns-then-step-seen g c =
    stores_tried (g.P.Port.seen c.args.port.now) (g.P.Port.seen c.step-seen.new.self) (g.P.Port.seen c.step.new.self) c.args.word (changed_by c.args.change) c.place_of_plain-index.result c.step-seen.result c.in-Some.value c.step.result c.requires.there c.requires.kept
    (c.place_of_plain-index.ensures.value ∙ ap (λ shape. place_of_plain shape c.args.word) c.shape.ensures)
    (ap (λ shape. plain_at shape c.place_of_plain-index.result) (sym c.shape.ensures) ∙ c.place_of_plain-index.ensures.inverse)
    (sym c.applied.ensures ∙ c.in-Some.is) (eq-eqb c.step.result c.step-seen.result c.if-step-seen.true) c.step-seen.ensures.adds c.step.ensures.adds

pub returns-else-step-seen : goal.returns-else-step-seen
returns-else-step-seen g c =
    misses_tried (g.P.Port.seen c.args.port.now) (g.P.Port.seen c.step-seen.new.self) (g.P.Port.seen c.step.new.self) c.args.word c.place_of_plain-index.result c.step-seen.result c.in-Some.value c.step.result c.requires.there
    (c.place_of_plain-index.ensures.value ∙ ap (λ shape. place_of_plain shape c.args.word) c.shape.ensures)
    (ap (λ shape. plain_at shape c.place_of_plain-index.result) (sym c.shape.ensures) ∙ c.place_of_plain-index.ensures.inverse)
    (ne_eqb c.step.result c.step-seen.result c.if-step-seen.false) c.step-seen.ensures.adds c.step.ensures.adds
