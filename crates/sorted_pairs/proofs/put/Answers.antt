use Rattle.std.proofs.Common.{sym, ap, ◌∙◌, arith, set, is_ok}
use Rattle.sorted_pairs.proofs.PlaceLemmas.{found_at, missing_at, has_room, on_ok}
use Rattle.sorted_pairs.proofs.put.Goals as goal

pub index_mut-requires : goal.index_mut-requires
index_mut-requires g c = omega (arith, c.args.pairs.now.ok.0, (found_at g.met.K.Ord.total c.args.key c.args.pairs.now.items c.in-Ok.at (sym c.place.ensures ∙ c.in-Ok.is)).below)

pub returns-in-Ok-clause-entries : goal.returns-in-Ok-clause-entries
returns-in-Ok-clause-entries g c =
    let found = found_at g.met.K.Ord.total c.args.key c.args.pairs.now.items c.in-Ok.at (sym c.place.ensures ∙ c.in-Ok.is) in
    ap (λ pair. set c.args.pairs.now.items c.in-Ok.at (pair.0, c.args.value)) c.index_mut.ensures.value ∙ found.changed c.index_mut.result.now c.args.value

pub insert-requires : goal.insert-requires
insert-requires g c = omega (arith, c.args.pairs.now.ok.0, (missing_at g.met.K.Ord.total c.args.key c.args.pairs.now.items c.in-Err.at c.requires.sorted (sym c.place.ensures ∙ c.in-Err.is)).within)

pub unwrap-requires : goal.unwrap-requires
unwrap-requires g c =
    let missing = missing_at g.met.K.Ord.total c.args.key c.args.pairs.now.items c.in-Err.at c.requires.sorted (sym c.place.ensures ∙ c.in-Err.is) in
    has_room _ c.insert.result c.args.pairs.now.len c.args.pairs.now.cap missing.value c.requires.room c.insert.ensures.full

pub returns-in-Err-clause-entries : goal.returns-in-Err-clause-entries
returns-in-Err-clause-entries g c =
    let missing = missing_at g.met.K.Ord.total c.args.key c.args.pairs.now.items c.in-Err.at c.requires.sorted (sym c.place.ensures ∙ c.in-Err.is) in
    on_ok c.insert.result (ap is_ok c.unwrap.ensures) c.insert.ensures.items ∙ missing.put c.args.value
