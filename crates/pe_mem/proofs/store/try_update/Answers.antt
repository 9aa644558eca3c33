-- The try is of the word that was looked at.
use Rattle.std.proofs.Common.{◌∙◌, ◌<◌, sym, ap, subst, rules}
use Rattle.its_exec.specs.Calls.{place_of_plain, plain_count, plain_at}
use Rattle.pe_mem.specs.Store.{changed_by}
use Rattle.pe_mem.proofs.UpdateLemmas.{updates_tried}
use Rattle.its_exec.proofs.PortCall.StoreLemmas.{can_put, may_any}
use Rattle.pe_mem.proofs.store.try_update.Goals as goal

pub step-requires : goal.step-requires
step-requires g c =
    let old = g.P.Port.seen c.args.port.now in
    can_put old (g.P.Port.seen c.step-seen.new.self) c.args.word c.place_of_plain-index.result c.step-seen.result c.applied-value.result c.requires.there
    (c.place_of_plain-index.ensures.value ∙ ap (λ shape. place_of_plain shape c.args.word) c.shape.ensures)
    (ap (λ shape. plain_at shape c.place_of_plain-index.result) (sym c.shape.ensures) ∙ c.place_of_plain-index.ensures.inverse)
    (subst (λ shape. c.place_of_plain-index.result < plain_count shape) c.shape.ensures c.place_of_plain-index.ensures.within) (search rules) (may_any old c.args.word c.requires.kept c.requires.other) c.step-seen.ensures.adds

pub returns : goal.returns
returns g c =
    updates_tried (g.P.Port.seen c.args.port.now) (g.P.Port.seen c.step-seen.new.self) (g.P.Port.seen c.step.new.self) c.args.word (changed_by c.args.change) c.place_of_plain-index.result c.step-seen.result c.applied-value.result c.step.result
    c.requires.there
    (c.place_of_plain-index.ensures.value ∙ ap (λ shape. place_of_plain shape c.args.word) c.shape.ensures)
    (ap (λ shape. plain_at shape c.place_of_plain-index.result) (sym c.shape.ensures) ∙ c.place_of_plain-index.ensures.inverse)
    c.applied-value.ensures c.step-seen.ensures.adds c.step.ensures.adds
