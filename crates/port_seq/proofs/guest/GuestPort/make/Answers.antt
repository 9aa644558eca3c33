use Rattle.std.proofs.Common.{rules, IsTrue, sym, ap, subst, ◌∙◌}
use Rattle.port_ops.specs.Words.{GuestShape}
use Rattle.port_ops.specs.PortCore.After.{local_after}
use Rattle.port_ops.specs.PortCore.Atomic.{Makes}
use Rattle.port_ops.specs.PortCore.Condition.{Meets, has_room}
use Rattle.port_ops.specs.PortCore.Run.{IsRun, opening}
use Rattle.port_ops.specs.PortCore.Place.{has_word}
use Rattle.port_ops.specs.PortCore.Step.{word_of}
use Rattle.port_ops.specs.PortCore.Valid.{IsLocal, CanFind}
use Rattle.port_ops.proofs.PortCore.StepLemmas.{found_valid, word_there}
use Rattle.port_seq.specs.Kept.{told_is_port}
use Rattle.port_seq.specs.Ports.{told}
use Rattle.port_seq.specs.Told.{state_of, seen_of, entry_of}
use Rattle.port_ops.proofs.WorldLemmas.{each_local, local_at, sound_after, room_of, run_more}
use Rattle.port_seq.proofs.KeptLemmas.{each_made, world_sound}
use Rattle.port_seq.proofs.SeqLemmas.{locals_more, maps_more, turn_more}
use Rattle.port_seq.proofs.guest.GuestPort.make.Goals as goal

pub index-requires : goal.index-requires
index-requires c =
    let port = c.args.self.now in
    let key = port.table.shared.key in
    let each = each_local key.guest key.number port.seat.me.0 port.locals.items port.own in
    let there = port.there in
    search rules

pub place_of_word-place-requires-clause-there : goal.place_of_word-place-requires-clause-there
place_of_word-place-requires-clause-there c =
    let port = c.args.self.now in
    let key = port.table.shared.key in
    subst (λ word. IsTrue (has_word port.shape word)) (sym c.word.ensures)
    (subst (λ (s : GuestShape). IsTrue (has_word s (word_of s port.actor c.args.step))) (sym port.same) (word_there key.guest.shape port.actor c.args.step port.good.sound.shape c.requires.can))

pub operation-atomic-requires-clause-local : goal.operation-atomic-requires-clause-local
operation-atomic-requires-clause-local c =
    let port = c.args.self.now in
    let key = port.table.shared.key in
    subst (λ (s : GuestShape). IsLocal s port.actor c.index.result.now) (sym port.same)
    (subst (IsLocal key.guest.shape port.actor) (sym (c.index.ensures ∙ local_at key.guest key.number port.seat.me.0 port.locals.items port.actor c.index.result.now port.own port.there))
    (told_is_port (told port) port.good port.there port.sound port.made port.turn).local)

pub operation-atomic-requires-clause-meets : goal.operation-atomic-requires-clause-meets
operation-atomic-requires-clause-meets c =
    let port = c.args.self.now in
    let key = port.table.shared.key in (
      (seen_of (told port)).own,
      subst (λ (s : GuestShape). Meets s port.actor c.index.result.now (seen_of (told port)).own c.args.step) (sym port.same)
          (subst (λ local. Meets key.guest.shape port.actor local (seen_of (told port)).own c.args.step)
          (sym (c.index.ensures ∙ local_at key.guest key.number port.seat.me.0 port.locals.items port.actor c.index.result.now port.own port.there)) c.requires.meets),
    )

pub make-found-requires-clause-makes : goal.make-found-requires-clause-makes
make-found-requires-clause-makes c =
    let port = c.args.self.now in
    let key = port.table.shared.key in
    let shape = key.guest.shape in
    subst (λ local. Makes shape port.actor local c.args.step c.operation-atomic.result)
    (c.index.ensures ∙ local_at key.guest key.number port.seat.me.0 port.locals.items port.actor c.index.result.now port.own port.there)
    (subst (λ (s : GuestShape). Makes s port.actor c.index.result.now c.args.step c.operation-atomic.result) port.same c.operation-atomic.ensures)

pub index_mut-requires : goal.index_mut-requires
index_mut-requires c =
    let port = c.args.self.now in
    let key = port.table.shared.key in
    let each = each_local key.guest key.number port.seat.me.0 port.locals.items port.own in
    let there = port.there in
    search rules

pub advance-requires-clause-local : goal.advance-requires-clause-local
advance-requires-clause-local c =
    let port = c.args.self.now in
    let key = port.table.shared.key in
    subst (λ (s : GuestShape). IsLocal s port.actor c.index_mut.result.now) (sym port.same)
    (subst (IsLocal key.guest.shape port.actor) (sym (c.index_mut.ensures.value ∙ local_at key.guest key.number port.seat.me.0 port.locals.items port.actor c.index_mut.result.now port.own port.there))
    (told_is_port (told port) port.good port.there port.sound port.made port.turn).local)

pub advance-requires-clause-found : goal.advance-requires-clause-found
advance-requires-clause-found c =
    let port = c.args.self.now in
    let key = port.table.shared.key in
    let shape = key.guest.shape in
    let made = c.make-found.ensures.made in
    subst (λ (s : GuestShape). CanFind s port.actor c.index_mut.result.now (word_of s port.actor c.args.step) c.make-found.result) (sym port.same)
    (subst (λ local. CanFind shape port.actor local (word_of shape port.actor c.args.step) c.make-found.result)
    (sym (c.index_mut.ensures.value ∙ local_at key.guest key.number port.seat.me.0 port.locals.items port.actor c.index_mut.result.now port.own port.there))
    (found_valid shape (state_of (told port)) (entry_of (told port) c.args.step c.make-found.result) port.good.sound.shape (sound_after key port.seat.me.0 port.good made.run) made.takes))

pub advance-requires-clause-room : goal.advance-requires-clause-room
advance-requires-clause-room c =
    let port = c.args.self.now in
    let key = port.table.shared.key in
    subst (λ local. IsTrue (has_room c.args.step local))
    (sym (c.index_mut.ensures.value ∙ local_at key.guest key.number port.seat.me.0 port.locals.items port.actor c.index_mut.result.now port.own port.there))
    (room_of key.guest.shape port.actor (seen_of (told port)).local (seen_of (told port)).own c.args.step c.requires.meets)

pub invariant_of-self-2 : goal.invariant_of-self-2
invariant_of-self-2 c =
    let port = c.args.self.now in
    let key = port.table.shared.key in
    let found = c.make-found.result in
    let made = c.make-found.ensures.made in
    let run : IsRun key.guest.shape (opening key.guest key.number) c.make-found.new.seat.me.0 =
    subst (IsRun key.guest.shape (opening key.guest key.number)) (sym made.later) (run_more key port.seat.me.0 (entry_of (told port) c.args.step found) made.run made.takes) in
    let at = c.index_mut.ensures.value ∙ local_at key.guest key.number port.seat.me.0 port.locals.items port.actor c.index_mut.result.now port.own port.there in
    record {
      good = port.good;
      there = port.there;
      same = port.same;
      home = c.make-found.ensures.table ∙ port.home;
      words = port.words;
      slots = port.slots;
      run = ∣ run ∣₁;
      sound = ∣ world_sound key.guest key.number c.make-found.new.seat.me.0 port.good run ∣₁;
      made = each_made key.guest key.number c.make-found.new.seat.me.0 port.good run;
      own =
          locals_more key port.seat.me.0 c.make-found.new.seat.me.0 port.locals.items port.actor c.args.step found c.advance.new.self port.own made.later
          (c.advance.ensures ∙ ap (λ (s : GuestShape). local_after s port.actor c.index_mut.result.now c.args.step found) port.same ∙ ap (λ local. local_after key.guest.shape port.actor local c.args.step found) at);
      maps = maps_more key port.seat.me.0 c.make-found.new.seat.me.0 port.its port.actor c.args.step found made.later c.requires.tables port.maps;
      turn = turn_more key port.seat.me.0 c.make-found.new.seat.me.0 port.its port.actor c.args.step found port.there made.later c.requires.tables port.turn;
    }
