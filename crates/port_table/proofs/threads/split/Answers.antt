use Rattle.std.proofs.Common.{◌≡◌, ◌<◌, length, get_or, refl, sym, ap, subst, ◌∙◌}
use Rattle.std.proofs.lemmas.List.{length-map}
use Rattle.port_ops.specs.Words.{GuestShape}
use Rattle.port_ops.specs.PortCore.Actor.{guest_of, number_of}
use Rattle.port_ops.proofs.MapLemmas.{mapped_at}
use Rattle.port_table.specs.All.{told_words, told_root}
use Rattle.port_table.specs.Ports.{words_told, root_told}
use Rattle.port_table.specs.Told.{AreRoots, PortIsOf, no_words, opening_seen, words_at, root_at, number_in, with_split}
use Rattle.port_table.proofs.GuestsLemmas.{root_set, roots_stay}
use Rattle.port_table.proofs.threads.split.Goals as goal

pub returns-clause-of : goal.returns-clause-of
returns-clause-of c =
    let words = told_words c.args.words.now in
    let items = c.args.words.now.guests.items in
    let guest = guest_of c.args.actor in
    let same : c.guest_of-guest.result ≡ guest = c.guest_of-guest.ensures in
    let here : guest < length items = subst (λ n. guest < n) (length-map items words_told) c.requires.there.guest in
    let table : words_told c.index-table.result.now ≡ words_at words guest =
    sym (mapped_at words_told no_words items guest c.index-table.result.now here (c.index-table.ensures ∙ ap (λ n. get_or items n c.index-table.result.now) same)) in
    let number : (words_at words guest).number ≡ guest = c.args.words.now.numbered guest here in
    subst (PortIsOf words) (sym (c.split.ensures.port ∙ ap (λ w. opening_seen w c.number_of-number.result) table))
    (record {
      guest = subst (λ n. n < length words) (sym number) c.requires.there.guest;
      home = ap (λ n. (words_at words n).home) number;
    })

pub returns-clause-root : goal.returns-clause-root
returns-clause-root c =
    let words = told_words c.args.words.now in
    let items = c.args.words.now.guests.items in
    let roots = c.args.root.now.guests.items in
    let guest = guest_of c.args.actor in
    let same : c.guest_of-guest.result ≡ guest = c.guest_of-guest.ensures in
    let there : guest < length roots = subst (λ n. guest < n) (sym c.requires.roots.each ∙ length-map roots root_told) c.requires.there.guest in
    let here : guest < length items = subst (λ n. guest < n) (length-map items words_told) c.requires.there.guest in
    let table : words_told c.index-table.result.now ≡ words_at words guest =
    sym (mapped_at words_told no_words items guest c.index-table.result.now here (c.index-table.ensures ∙ ap (λ n. get_or items n c.index-table.result.now) same)) in
    let number : c.number_of-number.result ≡ number_in words c.args.actor = c.number_of-number.ensures.value ∙ ap (λ (s : GuestShape). number_of s c.args.actor) c.index-table.result.now.same ∙ ap (λ w. number_of w.guest.shape c.args.actor) table in
    root_set roots c.guest_of-guest.result guest c.index_mut.result.now c.split.new.root (with_split (number_in words c.args.actor)) same there c.index_mut.ensures.value
    (c.split.ensures.root ∙ ap (λ n. with_split n (root_told c.index_mut.result.now)) number)

pub returns-clause-roots : goal.returns-clause-roots
returns-clause-roots c =
    let words = told_words c.args.words.now in
    let root = told_root c.args.root.now in
    let guest = guest_of c.args.actor in
    subst (AreRoots words) (sym (returns-clause-root c)) (roots_stay words root guest (with_split (number_in words c.args.actor) (root_at root guest)) c.requires.roots refl)
