use Rattle.std.proofs.Common.{sym, ◌∙◌}
use Rattle.vcpu_shelf.proofs.ScanLemmas.{finds_finished, finds_taken, finds_lost, took, finds_won}
use Rattle.vcpu_shelf.proofs.scan.find_at.Goals as goal

pub returns-then-is_finished-clause-finds : goal.returns-then-is_finished-clause-finds
returns-then-is_finished-clause-finds g c =
    let t = g.T.Traveller in
    finds_finished t.place t.next t.done c.args.place c.look-word.result c.args.seat.now.me c.look-word.new.seat.me c.requires.out c.requires.none c.look-word.ensures.looked (sym c.is_finished.ensures ∙ c.if-is_finished.true)

pub returns-then-not-is_free-clause-finds : goal.returns-then-not-is_free-clause-finds
returns-then-not-is_free-clause-finds g c =
    let t = g.T.Traveller in
    finds_taken t.place t.next t.done c.args.place c.look-word.result c.args.seat.now.me c.look-word.new.seat.me c.requires.out c.requires.none c.look-word.ensures.looked (sym c.is_finished.ensures ∙ c.if-is_finished.false)
    (sym c.is_free.ensures ∙ c.if-not-is_free.true)

pub returns-then-attempt-word-clause-finds : goal.returns-then-attempt-word-clause-finds
returns-then-attempt-word-clause-finds g c =
    let t = g.T.Traveller in
    finds_lost t.place t.next t.done c.args.place c.look-word.result c.attempt.result c.args.seat.now.me c.look-word.new.seat.me c.attempt.new.seat.me c.requires.out c.requires.none c.look-word.ensures.looked c.attempt.ensures.tried
    (sym c.is_free.ensures ∙ c.if-not-is_free.false) c.if-attempt-word.true

pub exchange-requires : goal.exchange-requires
exchange-requires g c =
    let t = g.T.Traveller in
    (c.attempt.ensures.home ∙ c.look-word.ensures.home ∙ c.requires.home, took t.place t.next t.done c.args.place c.look-word.result c.attempt.result c.look-word.new.seat.me c.attempt.new.seat.me c.attempt.ensures.tried c.if-attempt-word.false)

pub returns-clause-finds : goal.returns-clause-finds
returns-clause-finds g c =
    let t = g.T.Traveller in
    finds_won t.place t.next t.done c.args.place c.look-word.result c.attempt.result c.exchange.result c.in-Some.traveller c.args.seat.now.me c.look-word.new.seat.me c.attempt.new.seat.me c.exchange.new.seat.me c.requires.out c.requires.none
    c.look-word.ensures.looked c.attempt.ensures.tried (sym c.is_free.ensures ∙ c.if-not-is_free.false) c.if-attempt-word.false c.exchange.ensures.2 c.in-Some.is c.exchange.ensures.3
