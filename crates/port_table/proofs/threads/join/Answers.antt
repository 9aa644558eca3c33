use Rattle.std.proofs.Common.{◌<◌, length, get_or, refl, sym, ap, subst, ◌∙◌}
use Rattle.std.proofs.lemmas.List.{length-map}
use Rattle.port_table.specs.All.{told_words, told_root}
use Rattle.port_ops.proofs.MapLemmas.{mapped_at}
use Rattle.port_table.specs.Ports.{words_told, root_told, seen_of}
use Rattle.port_table.specs.Told.{AreRoots, RootTold, WordsTold, no_words, opening_root, root_at, with_joined}
use Rattle.port_table.proofs.GuestsLemmas.{root_set, roots_stay}
use Rattle.port_table.proofs.threads.join.Goals as goal

pub join-requires-clause-root : goal.join-requires-clause-root
join-requires-clause-root c =
    let words = told_words c.args.words.now in
    let items = c.args.words.now.guests.items in
    let roots = c.args.root.now.guests.items in
    let seen = seen_of c.args.port in
    let here : seen.number < length items = subst (λ n. seen.number < n) (length-map items words_told) c.requires.port.guest in
    let there : seen.number < length roots = subst (λ n. seen.number < n) (sym c.requires.roots.each ∙ length-map roots root_told) c.requires.port.guest in
    let root = mapped_at root_told (opening_root no_words) roots seen.number c.index_mut.result.now there (c.index_mut.ensures.value ∙ ap (λ n. get_or roots n c.index_mut.result.now) c.args.port.number) in
    let table = mapped_at words_told no_words items seen.number c.index-table.result.now here (c.index-table.ensures ∙ ap (λ n. get_or items n c.index-table.result.now) c.args.port.number) in
    sym (ap (λ (r : RootTold). r.home) root) ∙ c.requires.roots.home seen.number c.requires.port.guest ∙ ap (λ (w : WordsTold). w.home) table

pub returns-clause-root : goal.returns-clause-root
returns-clause-root c =
    let roots = c.args.root.now.guests.items in
    let seen = seen_of c.args.port in
    let there : seen.number < length roots = subst (λ n. seen.number < n) (sym c.requires.roots.each ∙ length-map roots root_told) c.requires.port.guest in
    root_set roots c.args.port.guest seen.number c.index_mut.result.now c.join.new.root (with_joined seen.actor seen.own) c.args.port.number there c.index_mut.ensures.value c.join.ensures

pub returns-clause-roots : goal.returns-clause-roots
returns-clause-roots c =
    let words = told_words c.args.words.now in
    let root = told_root c.args.root.now in
    let seen = seen_of c.args.port in
    subst (AreRoots words) (sym (returns-clause-root c)) (roots_stay words root seen.number (with_joined seen.actor seen.own (root_at root seen.number)) c.requires.roots refl)
