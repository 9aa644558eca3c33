-- An access of the frames by a handle without a machine.
use Rattle.std.proofs.Common.{◌≡◌, ℕ, Option, None, Result, Err, subst}
use Rattle.gic_c.specs.declared.answer.Refusal.{Refusal}
use Rattle.gic_c.specs.declared.answer.Refusal.TheVariants.{Invalid}
use Rattle.gic_c.specs.declared.answer.Reply.{Reply}
use Rattle.gic_c.specs.declared.board.Board.{Board}
use Rattle.gic_c.specs.Mmio.{OfHandle}

-- it is refused, and the handle stays without one
pub of_closed : (vcpu address size is_write value : ℕ) (before after : Option Board) (answer : Result Reply Refusal) → None ≡ before → after ≡ None → answer ≡ Err Invalid → OfHandle vcpu address size is_write value before after answer
of_closed vcpu address size is_write value before after answer closed left refused =
    subst (λ (before : Option Board). OfHandle vcpu address size is_write value before after answer) closed (left, refused)
