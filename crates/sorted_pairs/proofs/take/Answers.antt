use Rattle.std.proofs.Common.{sym, ap, ◌∙◌, subst, arith, ◌<◌, ◌≡◌, IfSome, slice_index_or}
use Rattle.std.specs.Option.{option_map}
use Rattle.std.proofs.lemmas.Option.{slice_get_read}
use Rattle.sorted_pairs.proofs.PlaceLemmas.{found_at, missing_at, on_some}
use Rattle.sorted_pairs.proofs.take.Goals as goal

pub unwrap-value-requires : goal.unwrap-value-requires
unwrap-value-requires g c =
    let found = found_at g.met.K.Ord.total c.args.key c.args.pairs.now.items c.in-Ok.at (sym c.place.ensures ∙ c.in-Ok.is) in
    c.remove.ensures.variant.1 (subst (λ n. c.in-Ok.at < n) (sym c.args.pairs.now.ok.0) found.below)

pub returns-in-Ok-clause-value : goal.returns-in-Ok-clause-value
returns-in-Ok-clause-value g c =
    let found = found_at g.met.K.Ord.total c.args.key c.args.pairs.now.items c.in-Ok.at (sym c.place.ensures ∙ c.in-Ok.is) in
    let read = subst (λ o. IfSome o (λ y. y ≡ slice_index_or c.args.pairs.now.items c.in-Ok.at y)) c.unwrap-value.ensures c.remove.ensures.value in
    sym (found.value ∙ ap (option_map (λ pair. pair.1)) (slice_get_read c.args.pairs.now.items c.args.pairs.now.len c.in-Ok.at c.unwrap-value.result c.args.pairs.now.ok.0 (omega (arith, c.args.pairs.now.ok.0, found.below)) read))

pub returns-in-Ok-clause-entries : goal.returns-in-Ok-clause-entries
returns-in-Ok-clause-entries g c =
    let found = found_at g.met.K.Ord.total c.args.key c.args.pairs.now.items c.in-Ok.at (sym c.place.ensures ∙ c.in-Ok.is) in
    on_some c.remove.result c.unwrap-value.result c.unwrap-value.ensures c.remove.ensures.items ∙ found.removed

pub returns-in-Err-clause-value : goal.returns-in-Err-clause-value
returns-in-Err-clause-value g c = sym (missing_at g.met.K.Ord.total c.args.key c.args.pairs.now.items c.in-Err.field-0 c.requires.sorted (sym c.place.ensures ∙ c.in-Err.is)).value

pub returns-in-Err-clause-entries : goal.returns-in-Err-clause-entries
returns-in-Err-clause-entries g c = (missing_at g.met.K.Ord.total c.args.key c.args.pairs.now.items c.in-Err.field-0 c.requires.sorted (sym c.place.ensures ∙ c.in-Err.is)).left
