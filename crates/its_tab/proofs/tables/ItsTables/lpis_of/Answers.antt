use Rattle.std.proofs.Common.{rules, ◌≡◌, ◌∙◌, ℕ, Bool, Some, nat_eq, sym, ap}
use Rattle.std.specs.Option.{option_eq}
use Rattle.std.specs.Map.{keys_of}
use Rattle.std.specs.VecDeque.Iter.{deque_iter_rest}
use Rattle.its_tab.specs.Collection.{collection_of}
use Rattle.its_tab.proofs.ListLemmas.{Lists, kept, skipped, all_listed, owned_in, some_from_equal, equal_from_some, nothing_left}
use Rattle.its_tab.proofs.tables.ItsTables.lpis_of.Goals as goal

pub loop-pair-preserved-in-Continue-1 : goal.loop-pair-preserved-in-Continue-1
loop-pair-preserved-in-Continue-1 c =
    let p : ℕ → Bool = λ id. option_eq nat_eq (collection_of c.args.self.now id) (Some c.args.icid) in
    kept p (keys_of (deque_iter_rest c.into_iter-pair-iterator.result)) c.loop-pair.ids.items c.in-Some.pair.now.0 (keys_of (deque_iter_rest c.next.new.self)) (keys_of (deque_iter_rest c.loop-pair.pair-iterator)) c.loop-pair.invariant (ap keys_of c.in-Some.ensures.steps) c.push.new.self.items (ap (λ o. option_eq nat_eq o (Some c.args.icid)) (sym c.collection_of.ensures) ∙ sym c.eq.ensures ∙ c.if-eq.true) c.in_ok-push.ensures.items

pub loop-pair-preserved : goal.loop-pair-preserved
loop-pair-preserved c =
    let p : ℕ → Bool = λ id. option_eq nat_eq (collection_of c.args.self.now id) (Some c.args.icid) in
    skipped p (keys_of (deque_iter_rest c.into_iter-pair-iterator.result)) c.loop-pair.ids.items c.in-Some.pair.now.0 (keys_of (deque_iter_rest c.next.new.self)) (keys_of (deque_iter_rest c.loop-pair.pair-iterator)) c.loop-pair.invariant (ap keys_of c.in-Some.ensures.steps) (ap (λ o. option_eq nat_eq o (Some c.args.icid)) (sym c.collection_of.ensures) ∙ sym c.eq.ensures ∙ c.if-eq.false)

facts : (c : goal.In-None) → Lists (λ id. option_eq nat_eq (collection_of c.args.self.now id) (Some c.args.icid)) c.loop-pair.ids.items
facts c =
    let all : deque_iter_rest c.into_iter-pair-iterator.result ≡ c.self.inside.owners.items = search rules in
    all_listed (λ id. option_eq nat_eq (collection_of c.args.self.now id) (Some c.args.icid)) c.self.inside.owners.items (keys_of (deque_iter_rest c.into_iter-pair-iterator.result)) c.loop-pair.ids.items (keys_of (deque_iter_rest c.loop-pair.pair-iterator)) c.self.view_is c.self.invariant.indexed (ap keys_of all) c.loop-pair.invariant (nothing_left (deque_iter_rest c.loop-pair.pair-iterator) c.in-None.ensures.steps.0) (λ id. owned_in c.args.self.now id c.args.icid)

pub returns-clause-rising : goal.returns-clause-rising
returns-clause-rising c = (facts c).rising

pub returns-clause-exactly : goal.returns-clause-exactly
returns-clause-exactly c = λ id. (λ there. some_from_equal (collection_of c.args.self.now id) c.args.icid ((facts c).passes id there), λ same. (facts c).all id (equal_from_some (collection_of c.args.self.now id) c.args.icid same))
