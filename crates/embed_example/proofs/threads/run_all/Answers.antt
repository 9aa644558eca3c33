use Rattle.std.proofs.Common.{◌≡◌, ◌+◌, map, refl, sym, ap, subst, ◌∙◌}
use Rattle.gic_msi.specs.Words.{Vcpu, Device}
use Rattle.port_table.specs.All.{told_words, told_root}
use Rattle.port_table.specs.Ports.{seen_of}
use Rattle.port_table.specs.Told.{AllDone, words_at, opening_root, joining_in, splitting}
use Rattle.embed_example.proofs.DoneLemmas.{all_done, comes_back}
use Rattle.embed_example.proofs.threads.run_all.Goals as goal

-- the three joins, of the three splits
pub returns-clause-done : goal.returns-clause-done
returns-clause-done g c =
    let words = told_words c.args.words.now in
    let told = words_at words 0 in
    let alone = c.requires.alone in
    let back = c.in_ok-run_three.ensures in
    let ends = c.run_three.new in
    let one = seen_of ends.one.port in
    let two = seen_of ends.two.port in
    let three = seen_of ends.three.port in
    let n = told.guest.shape.vcpus + 0 in
    let split0 = splitting words (Vcpu 0 0) in
    let split1 = splitting words (Vcpu 0 1) in
    let split2 = splitting words (Device 0 0) in
    let root_is : told_root c.join-3.new.root ≡ joining_in one (joining_in two (joining_in three (split2 (split1 (split0 (map opening_root words)))))) =
    c.join-3.ensures.root ∙ ap (joining_in one) (c.join-2.ensures.root ∙ ap (joining_in two) (c.join.ensures.root ∙ ap (joining_in three) (c.split-3.ensures.root ∙ ap split2 (c.split-2.ensures.root ∙ ap split1 (c.split.ensures.root ∙ ap split0 c.requires.fresh))))) in
    let back0 = comes_back told 0 (seen_of c.split.result) one c.split.ensures.port alone.number back.one ends.one.port.made in
    let back1 = comes_back told 1 (seen_of c.split-2.result) two c.split-2.ensures.port alone.number back.two ends.two.port.made in
    let back2 = comes_back told n (seen_of c.split-3.result) three c.split-3.ensures.port alone.number back.three ends.three.port.made in
    subst (AllDone words) (sym root_is) (all_done words split0 split1 split2 n one two three alone.one (λ root. refl) (λ root. refl) (λ root. refl) back0 back1 back2)
