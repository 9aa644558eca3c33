use Rattle.std.proofs.Common.{◌≡◌, IfOk, ap, subst, ◌∙◌}
use Rattle.port_ops.specs.Words.{GuestShape}
use Rattle.port_ops.specs.GuestWords.{words_at_end}
use Rattle.port_seq.specs.Home.{maps_here}
use Rattle.port_seq.specs.Ports.{told}
use Rattle.port_seq.specs.Told.{state_of}
use Rattle.port_seq.proofs.SeqLemmas.{closing_words}
use Rattle.port_seq.proofs.guest.GuestPort.finish.Goals as goal

pub returns : goal.returns
returns c =
    let port = c.args.self in
    let key = port.table.shared.key in
    let shape = key.guest.shape in
    let final = c.close_with.ensures.values.2 in
    let words =
    c.as_slice.ensures ∙ c.in_ok-words.ensures
    ∙ closing_words key final.0 port.seat.id port.seat.me.0 _ final.1.0 final.1.1 final.2 in
    let maps : c.in-Here.tables ≡ (state_of (told port)).maps = port.maps c.in-Here.tables (ap maps_here c.in-Here.is) in
    subst (λ m. IfOk c.guest_words.result (λ w. w ≡ words_at_end shape (state_of (told port)).words m)) maps
    (subst (λ ws. IfOk c.guest_words.result (λ w. w ≡ words_at_end shape ws c.in-Here.tables)) words
    (subst (λ (s : GuestShape). IfOk c.guest_words.result (λ w. w ≡ words_at_end s c.as_slice.result.now c.in-Here.tables)) port.same c.guest_words.ensures))
