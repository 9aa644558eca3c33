-- The try is of the word that was looked at.
use Rattle.std.proofs.Common.{◌∙◌, ◌<◌, sym, ap, subst, rules}
use Rattle.floor_core.specs.Calls.{place_of_plain, plain_count, plain_at}
use Rattle.port_call.proofs.StoreLemmas.{can_put, tries}
use Rattle.port_call.proofs.store.try_store.Goals as goal

pub step-requires : goal.step-requires
step-requires g c =
    can_put (g.P.Port.seen c.args.port.now) (g.P.Port.seen c.step-seen.new.self) c.args.word c.place_of_plain-index.result c.step-seen.result c.args.value c.requires.there
    (c.place_of_plain-index.ensures.value ∙ ap (λ shape. place_of_plain shape c.args.word) c.shape.ensures)
    (ap (λ shape. plain_at shape c.place_of_plain-index.result) (sym c.shape.ensures) ∙ c.place_of_plain-index.ensures.inverse)
    (subst (λ shape. c.place_of_plain-index.result < plain_count shape) c.shape.ensures c.place_of_plain-index.ensures.within) (search rules) c.requires.may c.step-seen.ensures.adds

pub returns : goal.returns
returns g c =
    tries (g.P.Port.seen c.args.port.now) (g.P.Port.seen c.step-seen.new.self) (g.P.Port.seen c.step.new.self) c.args.word c.place_of_plain-index.result c.step-seen.result c.args.value c.step.result
    c.requires.there
    (c.place_of_plain-index.ensures.value ∙ ap (λ shape. place_of_plain shape c.args.word) c.shape.ensures)
    (ap (λ shape. plain_at shape c.place_of_plain-index.result) (sym c.shape.ensures) ∙ c.place_of_plain-index.ensures.inverse)
    c.step-seen.ensures.adds c.step.ensures.adds
