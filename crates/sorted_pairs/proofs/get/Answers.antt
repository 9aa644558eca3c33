use Rattle.std.proofs.Common.{sym, ap, ◌∙◌, arith}
use Rattle.std.specs.Option.{option_map}
use Rattle.std.proofs.lemmas.Option.{slice_get_read}
use Rattle.sorted_pairs.proofs.PlaceLemmas.{found_at, missing_at}
use Rattle.sorted_pairs.proofs.get.Goals as goal

pub index-requires : goal.index-requires
index-requires g c = omega (arith, c.args.pairs.now.ok.0, (found_at g.met.K.Ord.total c.args.key c.args.pairs.now.items c.in-Ok.at (sym c.place.ensures ∙ c.in-Ok.is)).below)

pub returns-in-Ok : goal.returns-in-Ok
returns-in-Ok g c =
    let found = found_at g.met.K.Ord.total c.args.key c.args.pairs.now.items c.in-Ok.at (sym c.place.ensures ∙ c.in-Ok.is) in
    sym (found.value ∙ ap (option_map (λ pair. pair.1)) (slice_get_read c.args.pairs.now.items c.args.pairs.now.len c.in-Ok.at c.index.result.now c.args.pairs.now.ok.0 (omega (arith, c.args.pairs.now.ok.0, found.below)) c.index.ensures))

pub returns-in-Err : goal.returns-in-Err
returns-in-Err g c = sym (missing_at g.met.K.Ord.total c.args.key c.args.pairs.now.items c.in-Err.field-0 c.requires.sorted (sym c.place.ensures ∙ c.in-Err.is)).value
