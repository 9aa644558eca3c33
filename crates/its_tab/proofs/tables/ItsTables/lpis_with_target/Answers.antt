use Rattle.std.proofs.Common.{rules, ◌≡◌, ◌∙◌, sym, ap}
use Rattle.std.specs.Map.{keys_of}
use Rattle.std.specs.VecDeque.Iter.{deque_iter_rest}
use Rattle.its_tab.specs.Collection.{has_target}
use Rattle.its_tab.proofs.ListLemmas.{Lists, kept, skipped, all_listed, owned_with, nothing_left}
use Rattle.its_tab.proofs.tables.ItsTables.lpis_with_target.Goals as goal

pub loop-pair-preserved-in-Continue-1 : goal.loop-pair-preserved-in-Continue-1
loop-pair-preserved-in-Continue-1 c =
    kept (has_target c.args.self.now) (keys_of (deque_iter_rest c.into_iter-pair-iterator.result)) c.loop-pair.ids.items c.in-Some.pair.now.0 (keys_of (deque_iter_rest c.next.new.self)) (keys_of (deque_iter_rest c.loop-pair.pair-iterator)) c.loop-pair.invariant (ap keys_of c.in-Some.ensures.steps) c.push.new.self.items (sym c.has_target.ensures ∙ c.if-has_target.true) c.in_ok-push.ensures.items

pub loop-pair-preserved : goal.loop-pair-preserved
loop-pair-preserved c =
    skipped (has_target c.args.self.now) (keys_of (deque_iter_rest c.into_iter-pair-iterator.result)) c.loop-pair.ids.items c.in-Some.pair.now.0 (keys_of (deque_iter_rest c.next.new.self)) (keys_of (deque_iter_rest c.loop-pair.pair-iterator)) c.loop-pair.invariant (ap keys_of c.in-Some.ensures.steps) (sym c.has_target.ensures ∙ c.if-has_target.false)

facts : (c : goal.In-None) → Lists (has_target c.args.self.now) c.loop-pair.ids.items
facts c =
    let all : deque_iter_rest c.into_iter-pair-iterator.result ≡ c.self.inside.owners.items = search rules in
    all_listed (has_target c.args.self.now) c.self.inside.owners.items (keys_of (deque_iter_rest c.into_iter-pair-iterator.result)) c.loop-pair.ids.items (keys_of (deque_iter_rest c.loop-pair.pair-iterator)) c.self.view_is c.self.invariant.indexed (ap keys_of all) c.loop-pair.invariant (nothing_left (deque_iter_rest c.loop-pair.pair-iterator) c.in-None.ensures.steps.0) (λ id. owned_with c.args.self.now id)

pub returns-clause-rising : goal.returns-clause-rising
returns-clause-rising c = (facts c).rising

pub returns-clause-exactly : goal.returns-clause-exactly
returns-clause-exactly c = λ id. ((facts c).passes id, (facts c).all id)
