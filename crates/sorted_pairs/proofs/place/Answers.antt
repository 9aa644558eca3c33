use Rattle.std.proofs.Common.{rules, subst}
use Rattle.std.specs.List.Sorted.{IsSearchInRange}
use Rattle.std.proofs.lemmas.List.Sorted.{answers_always}
use Rattle.sorted_pairs.proofs.PlaceLemmas.{searched}
use Rattle.sorted_pairs.proofs.place.Goals as goal

pub returns : goal.returns
returns g c =
    let facts = c.binary_search_by_key.ensures in
    searched g.met.K.Ord.total c.args.key c.args.pairs.now.items c.binary_search_by_key.result c.requires.sorted (subst (IsSearchInRange c.binary_search_by_key.result) c.args.pairs.now.ok.0 facts.bound) (facts.position (λ pair. pair.0) (answers_always _ _ _ (λ f a r h called. search rules)))
