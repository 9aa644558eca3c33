use Rattle.std.proofs.Common.{Bool, IsTrue, List, sym, ap, subst, ◌∙◌}
use Rattle.atomic_table.specs.Seated.{TableId}
use Rattle.port_ops.specs.Words.{GuestShape}
use Rattle.port_ops.specs.PortCore.declared.local.Local.{Local}
use Rattle.port_ops.specs.PortCore.declared.run.Made.{Made}
use Rattle.port_ops.specs.PortCore.After.{local_after}
use Rattle.port_ops.specs.PortCore.Atomic.{Makes}
use Rattle.port_ops.specs.PortCore.Condition.{Meets}
use Rattle.port_ops.specs.PortCore.Place.{has_word}
use Rattle.port_ops.specs.PortCore.Port.{Seen}
use Rattle.port_ops.specs.PortCore.Step.{word_of}
use Rattle.port_ops.specs.PortCore.Valid.{IsLocal, CanFind}
use Rattle.port_ops.specs.PortCore.Effect.{word_after}
use Rattle.port_ops.proofs.PortCore.StepLemmas.{word_there}
use Rattle.port_ops.proofs.WorldLemmas.{room_of}
use Rattle.port_ops.specs.World.{state_after, entry_in}
use Rattle.port_table.specs.Kept.{table_is_port}
use Rattle.port_table.specs.Ports.{seen_of}
use Rattle.port_table.specs.Slot.{held, has_taken}
use Rattle.port_table.specs.View.{own_of}
use Rattle.port_table.proofs.MadeLemmas.{made_found, made_left, made_valid, made_own, made_view, made_local, made_held, made_taken, made_handed, made_maps}
use Rattle.port_table.proofs.steps.TablePortPort.step.Goals as goal

pub place_of_word-place-requires-clause-there : goal.place_of_word-place-requires-clause-there
place_of_word-place-requires-clause-there c =
    let port = c.args.self.now in
    subst (λ word. IsTrue (has_word port.shape word)) (sym c.word.ensures)
    (subst (λ (s : GuestShape). IsTrue (has_word s (word_of s port.actor c.args.step))) (sym port.same) (word_there port.table.now.key.guest.shape port.actor c.args.step port.good.sound.shape c.requires.can))

pub make-found-requires-clause-makes : goal.make-found-requires-clause-makes
make-found-requires-clause-makes c =
    let port = c.args.self.now in
    subst (λ (l : Local). Makes port.table.now.key.guest.shape port.actor l c.args.step c.operation-atomic.result) port.made
    (subst (λ (s : GuestShape). Makes s port.actor port.local c.args.step c.operation-atomic.result) port.same c.operation-atomic.ensures)

pub advance-requires-clause-room : goal.advance-requires-clause-room
advance-requires-clause-room c = let port = c.args.self.now in room_of port.table.now.key.guest.shape port.actor port.local (own_of port.seat.me.0) c.args.step c.requires.meets

pub operation-atomic-requires-clause-local : goal.operation-atomic-requires-clause-local
operation-atomic-requires-clause-local c = let port = c.args.self.now in subst (λ (s : GuestShape). IsLocal s port.actor port.local) (sym port.same) (table_is_port port).local

pub operation-atomic-requires-clause-meets : goal.operation-atomic-requires-clause-meets
operation-atomic-requires-clause-meets c =
    let port = c.args.self.now in (
      own_of port.seat.me.0,
      subst (λ (s : GuestShape). Meets s port.actor port.local (own_of port.seat.me.0) c.args.step) (sym port.same) c.requires.meets,
    )

pub advance-requires-clause-local : goal.advance-requires-clause-local
advance-requires-clause-local c = let port = c.args.self.now in subst (λ (s : GuestShape). IsLocal s port.actor port.local) (sym port.same) (table_is_port port).local

pub advance-requires-clause-found : goal.advance-requires-clause-found
advance-requires-clause-found c =
    let port = c.args.self.now in
    let found = c.make-found.result in
    subst (λ (s : GuestShape). CanFind s port.actor port.local (word_of s port.actor c.args.step) found) (sym port.same)
    (made_found port.table.now.key port.actor c.args.step port.local port.seat.me found c.make-found.new.seat.me port.good port.there port.made port.held c.requires.tables c.make-found.ensures.made)

pub invariant_of-self : goal.invariant_of-self
invariant_of-self c =
    let port = c.args.self.now in
    let key = port.table.now.key in
    let found = c.make-found.result in
    let later = c.make-found.new.seat.me in
    let made = c.make-found.ensures.made in
    let left = c.advance.ensures ∙ ap (λ (s : GuestShape). local_after s port.actor port.local c.args.step found) port.same in
    record {
      good = port.good;
      there = port.there;
      home = c.make-found.ensures.table ∙ port.home;
      words = port.words;
      slots = port.slots;
      same = port.same;
      number = port.number;
      view = made_view key port.actor c.args.step port.local port.seat.me found later port.good port.there port.made port.held c.requires.tables made;
      made = left ∙ made_local key port.actor c.args.step port.local port.seat.me found later port.good port.there port.made port.held c.requires.tables made;
      valid =
          ∣ subst (IsLocal key.guest.shape port.actor) (sym left) (made_valid key port.actor c.args.step port.local port.seat.me found later port.good port.there port.made port.held c.requires.tables made) ∣₁;
      held =
          made_held key port.actor c.args.step port.local port.seat.me found later port.good port.there port.made port.held c.requires.tables made
          ∙ ap (λ (l : Local). held l.turn (has_taken later.1) (Rattle.port_ops.specs.PortCore.Known.known_maps (own_of later.0))) (sym left);
    }

pub returns-clause-found : goal.returns-clause-found
returns-clause-found c =
    let port = c.args.self.now in
    made_found port.table.now.key port.actor c.args.step port.local port.seat.me c.make-found.result c.make-found.new.seat.me port.good port.there port.made port.held c.requires.tables c.make-found.ensures.made

pub returns-clause-left : goal.returns-clause-left
returns-clause-left c =
    let port = c.args.self.now in
    let shape = port.table.now.key.guest.shape in
    let found = c.make-found.result in
    let left = c.advance.ensures ∙ ap (λ (s : GuestShape). local_after s port.actor port.local c.args.step found) port.same in
    subst (λ l. CanFind shape port.actor l (word_of shape port.actor c.args.step) (word_after shape port.actor port.local c.args.step found)) (sym left)
    (made_left port.table.now.key port.actor c.args.step port.local port.seat.me found c.make-found.new.seat.me port.good port.there port.made port.held c.requires.tables c.make-found.ensures.made)

pub returns-clause-adds : goal.returns-clause-adds
returns-clause-adds c =
    let port = c.args.self.now in
    let key = port.table.now.key in
    let found = c.make-found.result in
    let later = c.make-found.new.seat.me in
    let made = c.make-found.ensures.made in
    let left = c.advance.ensures ∙ ap (λ (s : GuestShape). local_after s port.actor port.local c.args.step found) port.same in
    let seen : TableId → Local → List Made → Bool → Seen = λ home local own taken. record (seen_of port) { home = home; local = local; own = own; taken = taken } in
    record {
      tables = (entry_in key.guest.shape (state_after key.guest key.number made.world) port.actor c.args.step found).made.tables;
      handed =
          record {
            where_taken = made_handed key port.actor c.args.step port.local port.seat.me found later port.good port.there port.made port.held c.requires.tables made;
            valid = made_maps key port.actor c.args.step port.local port.seat.me found later port.good port.there port.made port.held c.requires.tables made;
          };
      adds =
          record {
            new_is =
                ap (λ home. seen home c.advance.new.self (own_of later.0) (has_taken later.1)) c.make-found.ensures.table
                ∙ ap (λ local. seen port.seat.table_id local (own_of later.0) (has_taken later.1)) left
                ∙ ap (λ own. seen port.seat.table_id (local_after key.guest.shape port.actor port.local c.args.step found) own (has_taken later.1))
                (made_own key port.actor c.args.step port.local port.seat.me found later port.good port.there port.made port.held c.requires.tables made)
                ∙ ap (seen port.seat.table_id (local_after key.guest.shape port.actor port.local c.args.step found) _)
                (made_taken key port.actor c.args.step port.local port.seat.me found later port.good port.there port.made port.held c.requires.tables made);
          };
    }
