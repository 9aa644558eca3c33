use Rattle.std.proofs.Common.{map, set, get_or, sym, subst}
use Rattle.port_ops.specs.PortCore.Port.{AddsStep, shape_of, word_by, left_by}
use Rattle.port_ops.specs.PortCore.Valid.{CanFind}
use Rattle.port_seq.specs.Ports.{told}
use Rattle.port_seq.specs.Told.{no_told, seen_of}
use Rattle.port_seq.proofs.GuestsLemmas.{told_at, told_now}
use Rattle.port_seq.proofs.seq_port.SeqPortPort.step.Goals as goal

pub returns-clause-found : goal.returns-clause-found
returns-clause-found c =
    let port = c.args.self.now in
    subst (λ t. CanFind (shape_of (seen_of t)) t.actor (seen_of t).local (word_by (seen_of t) c.args.step) c.step.result) (sym (told_at port.guests.items port.guest c.index_mut.result.now port.there c.index_mut.ensures.value)) c.step.ensures.found

pub returns-clause-left : goal.returns-clause-left
returns-clause-left c =
    let port = c.args.self.now in
    let next = sym (told_now port.guests.items port.guest c.step.new.self port.there) in
    subst (λ t. CanFind (shape_of (seen_of t)) t.actor (seen_of (get_or (map told (set port.guests.items port.guest c.step.new.self)) port.guest no_told)).local (word_by (seen_of t) c.args.step) (left_by (seen_of t) c.args.step c.step.result))
    (sym (told_at port.guests.items port.guest c.index_mut.result.now port.there c.index_mut.ensures.value))
    (subst
    (λ u. CanFind (shape_of (seen_of (told c.index_mut.result.now))) (told c.index_mut.result.now).actor (seen_of u).local (word_by (seen_of (told c.index_mut.result.now)) c.args.step) (left_by (seen_of (told c.index_mut.result.now)) c.args.step c.step.result))
    next c.step.ensures.left)

pub returns-clause-adds : goal.returns-clause-adds
returns-clause-adds c =
    let port = c.args.self.now in
    let before = c.index_mut.result.now in
    subst (λ t. AddsStep (seen_of t) (seen_of (get_or (map told (set port.guests.items port.guest c.step.new.self)) port.guest no_told)) c.args.step c.step.result) (sym (told_at port.guests.items port.guest before port.there c.index_mut.ensures.value))
    (subst (λ u. AddsStep (seen_of (told before)) (seen_of u) c.args.step c.step.result) (sym (told_now port.guests.items port.guest c.step.new.self port.there)) c.step.ensures.adds)
