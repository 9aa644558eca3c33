use Rattle.std.proofs.Common.{◌≡◌, ℕ, ◌<◌, List, length, map, set, sym, ap, subst, ◌∙◌}
use Rattle.std.proofs.lemmas.List.{length-map}
use Rattle.port_ops.specs.Words.{GuestShape}
use Rattle.port_ops.specs.PortCore.Actor.{guest_of, number_of}
use Rattle.port_seq.specs.Ports.{told, told_all}
use Rattle.port_seq.specs.Told.{GuestTold, SeqTold, guest_at}
use Rattle.port_seq.proofs.GuestsLemmas.{told_at, told_set}
use Rattle.port_seq.proofs.port.SeqPort.set_actor.Goals as goal

pub returns : goal.returns
returns c =
    let items = c.args.self.now.guests.items in
    let number = guest_of c.args.actor in
    let same : c.guest_of-self.result ≡ number = c.guest_of-self.ensures in
    let there : number < length items = subst (λ n. number < n) (length-map items told) c.requires.guest in
    let before : told c.index_mut.result.now ≡ guest_at (told_all c.args.self.now) number =
    sym (told_at items c.guest_of-self.result c.index_mut.result.now (subst (λ n. n < length items) (sym same) there) c.index_mut.ensures.value) ∙ ap (guest_at (told_all c.args.self.now)) same in
    let shape = ap (λ t. t.guest.shape) (c.current.ensures ∙ ap (guest_at (told_all c.args.self.now)) same) in
    let guest = guest_at (told_all c.args.self.now) number in
    let tells : ℕ → GuestTold → GuestTold = λ n t. record t { actor = n } in
    let next : told c.set_actor.new.self ≡ tells (number_of guest.guest.shape c.args.actor) guest =
    c.set_actor.ensures ∙ ap (tells c.number_of.result) before ∙ ap (λ n. tells n guest) (c.number_of.ensures.value ∙ ap (λ (s : GuestShape). number_of s c.args.actor) (c.current.result.now.same ∙ shape)) in
    let at : ℕ → SeqTold = λ n. record { guests = map told (set items n c.set_actor.new.self); guest = n } in
    let with : List GuestTold → SeqTold = λ ts. record { guests = ts; guest = number } in
    ap at same ∙ ap with (told_set items number c.set_actor.new.self _ next)
