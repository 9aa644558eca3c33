use Rattle.std.proofs.Common.{sym, ◌∙◌, subst, arith, ◌<◌}
use Rattle.std.proofs.lemmas.Option.{slice_get_read}
use Rattle.sorted_pairs.proofs.PlaceLemmas.{found_at, missing_at, read_at}
use Rattle.sorted_pairs.proofs.first_from.Goals as goal

pub index-requires : goal.index-requires
index-requires g c = omega (arith, c.args.pairs.now.ok.0, (found_at g.met.K.Ord.total c.args.key c.args.pairs.now.items c.in-Ok.at (sym c.place.ensures ∙ c.in-Ok.is)).below)

pub returns-in-Ok : goal.returns-in-Ok
returns-in-Ok g c =
    let found = found_at g.met.K.Ord.total c.args.key c.args.pairs.now.items c.in-Ok.at (sym c.place.ensures ∙ c.in-Ok.is) in
    sym (found.first ∙ slice_get_read c.args.pairs.now.items c.args.pairs.now.len c.in-Ok.at c.index.result.now c.args.pairs.now.ok.0 (omega (arith, c.args.pairs.now.ok.0, found.below)) c.index.ensures)

pub returns-in-Err : goal.returns-in-Err
returns-in-Err g c =
    let long = c.args.pairs.now.ok.0 in
    let read = read_at c.args.pairs.now.items c.in-Err.at c.get.result (λ h. subst (λ n. c.in-Err.at < n) long (c.get.ensures.variant.0 h)) (λ h. c.get.ensures.variant.1 (subst (λ n. c.in-Err.at < n) (sym long) h)) c.get.ensures.lookup in
    c.copied.ensures ∙ read ∙ sym (missing_at g.met.K.Ord.total c.args.key c.args.pairs.now.items c.in-Err.at c.requires.sorted (sym c.place.ensures ∙ c.in-Err.is)).first
