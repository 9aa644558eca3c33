use Rattle.std.proofs.Common.{◌<◌, subst, sym}
use Rattle.atomic_table.specs.Table.{Allows}
use Rattle.port_ops.specs.PortCore.Atomic.{applied}
use Rattle.port_ops.specs.PortCore.Place.{place_of_word}
use Rattle.port_ops.specs.PortCore.Step.{word_of}
use Rattle.port_ops.proofs.PortCore.PlaceLemmas.{place_of_word_within}
use Rattle.port_ops.proofs.PortCore.StepLemmas.{word_there}
use Rattle.port_table.specs.Rule.{IsShared, IsMade}
use Rattle.port_table.proofs.RuleLemmas.{may_make}
use Rattle.port_table.proofs.rule.make_as.Goals as goal

pub operate-requires : goal.operate-requires
operate-requires g c =
    let opened = g.D.Doing.opened in
    let actor = g.D.Doing.actor in
    let step = g.D.Doing.step in
    let shape = opened.guest.shape in
    let table = c.args.table.now.table_id in
    let seat = c.args.seat.now in
    let within = place_of_word_within shape (word_of shape actor step) c.requires.good.sound.shape (word_there shape actor step c.requires.good.sound.shape c.requires.can) in
    record {
      home = c.requires.home;
      there = subst (λ p. p < table.words) (sym c.requires.place) (subst (λ n. place_of_word shape (word_of shape actor step) < n) (sym c.requires.words) within);
      allows =
          subst (λ o. Allows (IsShared o) table.slots seat.id seat.me c.args.place (applied c.args.atomic) (IsMade opened actor step seat.me)) c.requires.opened
          (may_make opened actor step c.args.atomic table.slots seat.id c.args.place seat.me c.requires.good c.requires.actor c.requires.slots c.requires.can c.requires.meets c.requires.tables c.requires.view c.requires.held c.requires.place c.requires.makes);
    }
