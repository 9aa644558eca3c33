-- The machine is taken out, reset, and put back.
use Rattle.std.proofs.Common.{◌≡◌, Option, Some, Err, option_map, subst, ap, ◌∙◌}
use Rattle.std.specs.Option.{option_map_or}
use Rattle.gic_c.specs.declared.answer.Refusal.TheVariants.{Invalid}
use Rattle.gic_c.specs.declared.board.Board.{Board}
use Rattle.gic_c.specs.Answer.{shown}
use Rattle.gic_c.specs.Calls.{reset_reply, after_reset}
use Rattle.gic_c.specs.Handle.{board_of}
use Rattle.gic_c.proofs.rv_reset.Goals as goal

pub returns-clause-done : goal.returns-clause-done
returns-clause-done c =
    subst (λ (held : Option Board). c.show-2.new.self ≡ shown (option_map_or reset_reply held (Err Invalid))) c.in-Some.ensures.board
    (c.show-2.ensures.done ∙ ap shown (c.reset-reply.ensures.reply ∙ ap reset_reply c.deref_mut.ensures.value))

pub returns-clause-machine : goal.returns-clause-machine
returns-clause-machine c =
    subst (λ (held : Option Board). board_of c.put.new.self ≡ option_map after_reset held) c.in-Some.ensures.board
    (c.put.ensures ∙ ap Some (c.reset-reply.ensures.board ∙ ap after_reset c.deref_mut.ensures.value))
