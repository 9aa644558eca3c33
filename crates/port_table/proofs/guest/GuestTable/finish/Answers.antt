use Rattle.std.proofs.Common.{◌≡◌, IfOk, Option, ap, subst, ◌∙◌}
use mathlib.Core.Option.{some}
use Rattle.std.specs.Slots.{slots_items}
use Rattle.std.proofs.lemmas.Result.{IfOk-weaker}
use Rattle.port_ops.specs.Registers.{Maps}
use Rattle.port_ops.specs.Words.{GuestShape}
use Rattle.port_ops.specs.GuestWords.{words_at_end}
use Rattle.port_table.specs.Ports.{words_told, root_told}
use Rattle.port_table.specs.Told.{EndsRun}
use Rattle.port_table.specs.View.{joined_of}
use Rattle.port_table.proofs.RuleLemmas.{closes}
use Rattle.port_table.proofs.EndLemmas.{none_has, ends_run, not_taken}
use Rattle.port_table.proofs.guest.GuestTable.finish.Goals as goal

pub unreachable-requires : goal.unreachable-requires
unreachable-requires c =
    let words = c.args.self in
    let final = c.close_with.ensures.values.2 in
    let end = closes words.table.shared.key c.args.root.seat.id c.args.root.seat.me.0 (slots_items c.close_with.result.words) (slots_items c.close_with.result.slots) words.good c.args.root.root c.requires.done.back (λ actor there. none_has (words_told words) actor (joined_of c.args.root.seat.me.0) c.requires.done.idle) final in
    not_taken (slots_items c.close_with.result.slots) _ c.in_ok-words.tables end.maps c.in_ok-words.ensures.1 c.in-None.is

pub returns : goal.returns
returns c =
    let words = c.args.self in
    let shape = words.table.shared.key.guest.shape in
    let final = c.close_with.ensures.values.2 in
    let end = closes words.table.shared.key c.args.root.seat.id c.args.root.seat.me.0 (slots_items c.close_with.result.words) (slots_items c.close_with.result.slots) words.good c.args.root.root c.requires.done.back (λ actor there. none_has (words_told words) actor (joined_of c.args.root.seat.me.0) c.requires.done.idle) final in
    let took = c.in_ok-words.ensures.1 ∙ ap (λ (t : Option Maps). some t) c.in-Some.is in
    let among = c.as_slice.ensures ∙ c.in_ok-words.ensures.0 in
    IfOk-weaker c.guest_words.result (λ left. left ≡ words_at_end shape c.as_slice.result.now c.in-Some.tables) (EndsRun (words_told words) (root_told c.args.root))
    (λ left is.
    ends_run (words_told words) (root_told c.args.root) (slots_items c.close_with.result.words) (slots_items c.close_with.result.slots) c.in-Some.tables end took left (is ∙ ap (λ ws. words_at_end shape ws c.in-Some.tables) among))
    (subst (λ (s : GuestShape). IfOk c.guest_words.result (λ left. left ≡ words_at_end s c.as_slice.result.now c.in-Some.tables)) words.same c.guest_words.ensures)
