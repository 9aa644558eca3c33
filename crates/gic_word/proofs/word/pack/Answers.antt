use Rattle.std.proofs.Common.{subst, sym, ap, ◌∙◌, rules}
use Rattle.gic_word.specs.Word.{IsWord, irq_of}
use Rattle.gic_word.proofs.word.pack.Goals as goal
use Rattle.gic_word.proofs.WordLemmas.{HasParts, word_back, word_fits, parted_is}

pub returns-clause-word : goal.returns-clause-word
returns-clause-word c =
    let has : HasParts c.args.irq.now c.put.result c.put-2.result c.put-3.result c.number_of_route.result = record { prio_is = search rules; active_is = search rules; holder_is = search rules; route_is = search rules } in
    subst IsWord (sym (parted_is c.args.irq.now c.flags_of.result c.put.result c.put-2.result c.put-3.result c.number_of_route.result has))
    (word_fits c.args.irq.now c.flags_of.result c.requires c.flags_of.ensures.flags)

pub returns-clause-back : goal.returns-clause-back
returns-clause-back c =
    let has : HasParts c.args.irq.now c.put.result c.put-2.result c.put-3.result c.number_of_route.result = record { prio_is = search rules; active_is = search rules; holder_is = search rules; route_is = search rules } in
    ap irq_of (parted_is c.args.irq.now c.flags_of.result c.put.result c.put-2.result c.put-3.result c.number_of_route.result has)
    ∙ word_back c.args.irq.now c.flags_of.result c.requires c.flags_of.ensures.flags
