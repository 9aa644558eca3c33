use Rattle.std.proofs.Common.{◌<◌, subst, sym}
use Rattle.port_ops.specs.PortCore.Place.{place_of_word}
use Rattle.port_ops.specs.PortCore.Step.{word_of}
use Rattle.port_ops.proofs.PortCore.PlaceLemmas.{place_of_word_within}
use Rattle.port_ops.proofs.PortCore.StepLemmas.{word_there}
use Rattle.port_seq.specs.Rule.{IsAfter, IsMade}
use Rattle.port_seq.proofs.SeqLemmas.{may_make}
use Rattle.port_seq.proofs.rule.make_as.Goals as goal

pub operate-requires : goal.operate-requires
operate-requires g c =
    let opened = g.D.Doing.opened in
    let actor = g.D.Doing.actor in
    let step = g.D.Doing.step in
    let shape = opened.guest.shape in
    let within = place_of_word_within shape (word_of shape actor step) c.requires.good.sound.shape (word_there shape actor step c.requires.good.sound.shape c.requires.can) in
    record {
      home = c.requires.home;
      there = subst (λ p. p < c.args.table.now.table_id.words) (sym c.requires.place) (subst (λ n. place_of_word shape (word_of shape actor step) < n) (sym c.requires.words) within);
      allows = subst (λ o. Rattle.atomic_table.specs.Table.Allows (IsAfter o) c.args.table.now.table_id.slots c.args.seat.now.id c.args.seat.now.me c.args.place (Rattle.port_ops.specs.PortCore.Atomic.applied c.args.atomic) (IsMade opened actor step c.args.seat.now.me)) c.requires.opened
          (may_make opened actor step c.args.atomic c.args.table.now.table_id.slots c.args.seat.now.id c.args.place c.args.seat.now.me c.requires.good c.requires.actor c.requires.can c.requires.meets c.requires.place c.requires.makes);
    }
