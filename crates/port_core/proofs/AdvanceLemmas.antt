use Rattle.std.proofs.Common.{◌≡◌, ℕ, true, ◌==◌, ◌&&◌, if◌then◌else◌, sym, ap, ◌∙◌, rules}
use Rattle.core_words.specs.Words.{Key, GuestShape, irq_of}
use Rattle.port_core.specs.declared.local.Local.{Local}
use Rattle.port_core.specs.declared.step.CoreStep.TheVariants.{Claim}
use Rattle.port_core.specs.After.{claimed_at, local_after}
use Rattle.port_core.specs.Effect.{may_move}

-- a number is itself
pub nat_same : (n : ℕ) → (n == n) ≡ true
nat_same n = search rules

-- a claim that is allowed of the word that was seen
pub claim_done : (shape : GuestShape) (actor : ℕ) (local : Local) (key : Key) (seen found : ℕ) → found ≡ seen → may_move shape actor local key (irq_of found) ≡ true → claimed_at shape actor key (irq_of found) local ≡ local_after shape actor local (Claim key seen) found
claim_done shape actor local key seen found h t =
    sym (ap (λ b. if b && may_move shape actor local key (irq_of found) then claimed_at shape actor key (irq_of found) local else local) (ap (λ n. n == seen) h ∙ nat_same seen)
    ∙ ap (λ b. if b then claimed_at shape actor key (irq_of found) local else local) t)
