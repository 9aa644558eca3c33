use Rattle.std.proofs.Common.{◌-◌, sym, ap, ◌∙◌, subst, rules}
use Rattle.port_core.specs.declared.atomic.Atomic.TheVariants.{And, Or}
use Rattle.port_core.specs.declared.step.CoreStep.TheVariants.{Claim, GiveBack, Release, Touch, LineLeave}
use Rattle.port_core.specs.Atomic.{Makes, release_bits}
use Rattle.port_core.proofs.AtomicLemmas.{makes_raise, makes_wire_up, makes_wire_down, makes_want, makes_release, makes_give_back, makes_claim, makes_touch}
use Rattle.port_core.proofs.LineLemmas.{few_devices, makes_line_leave}
use Rattle.port_core.proofs.local.Local.operation.Goals as goal

pub returns-in-Raise : goal.returns-in-Raise
returns-in-Raise c = subst (λ step. Makes c.args.shape.now c.args.actor c.args.self.now step (Or 1)) (sym c.in-Raise.is) (makes_raise c.args.shape.now c.args.actor c.args.self.now c.in-Raise.key)

pub returns-in-Claim : goal.returns-in-Claim
returns-in-Claim c =
    subst (λ step. Makes c.args.shape.now c.args.actor c.args.self.now step c.claim_by.result) (sym c.in-Claim.is)
    (subst (Makes c.args.shape.now c.args.actor c.args.self.now (Claim c.in-Claim.key c.in-Claim.seen)) (sym c.claim_by.ensures) (makes_claim c.args.shape.now c.args.actor c.args.self.now c.in-Claim.key c.in-Claim.seen))

pub returns-in-GiveBack : goal.returns-in-GiveBack
returns-in-GiveBack c =
    subst (λ step. Makes c.args.shape.now c.args.actor c.args.self.now step (Or c.back_mask.result)) (sym c.in-GiveBack.is)
    (subst (λ mask. Makes c.args.shape.now c.args.actor c.args.self.now (GiveBack c.in-GiveBack.key c.in-GiveBack.back) (Or mask)) (sym c.back_mask.ensures)
    (makes_give_back c.args.shape.now c.args.actor c.args.self.now c.in-GiveBack.key c.in-GiveBack.back (search rules) (search rules)))

pub returns-in-Release : goal.returns-in-Release
returns-in-Release c =
    subst (λ step. Makes c.args.shape.now c.args.actor c.args.self.now step (And c.release_mask.result)) (sym c.in-Release.is)
    (subst (λ mask. Makes c.args.shape.now c.args.actor c.args.self.now (Release c.in-Release.key) (And mask)) (sym (c.release_mask.ensures ∙ ap release_bits c.is_active.ensures))
    (makes_release c.args.shape.now c.args.actor c.args.self.now c.in-Release.key))

pub returns-in-Touch : goal.returns-in-Touch
returns-in-Touch c =
    subst (λ step. Makes c.args.shape.now c.args.actor c.args.self.now step c.touch_by.result) (sym c.in-Touch.is)
    (subst (Makes c.args.shape.now c.args.actor c.args.self.now (Touch c.in-Touch.key c.in-Touch.seen c.in-Touch.kind)) (sym c.touch_by.ensures) (makes_touch c.args.shape.now c.args.actor c.args.self.now c.in-Touch.key c.in-Touch.seen c.in-Touch.kind))

pub returns-in-Want : goal.returns-in-Want
returns-in-Want c = subst (λ step. Makes c.args.shape.now c.args.actor c.args.self.now step (Or 256)) (sym c.in-Want.is) (makes_want c.args.shape.now c.args.actor c.args.self.now c.in-Want.key)

pub returns-in-WireUp : goal.returns-in-WireUp
returns-in-WireUp c = subst (λ step. Makes c.args.shape.now c.args.actor c.args.self.now step (Or 6)) (sym c.in-WireUp.is) (makes_wire_up c.args.shape.now c.args.actor c.args.self.now c.in-WireUp.key)

pub returns-in-WireDown : goal.returns-in-WireDown
returns-in-WireDown c =
    subst (λ step. Makes c.args.shape.now c.args.actor c.args.self.now step (And 18446744073709551613)) (sym c.in-WireDown.is) (makes_wire_down c.args.shape.now c.args.actor c.args.self.now c.in-WireDown.key)

pub returns-in-LineLeave : goal.returns-in-LineLeave
returns-in-LineLeave c =
    subst (λ step. Makes c.args.shape.now c.args.actor c.args.self.now step (And (18446744073709551615 - c.from.result))) (sym c.in-LineLeave.is)
    (subst (λ bit. Makes c.args.shape.now c.args.actor c.args.self.now (LineLeave c.in-LineLeave.line) (And (18446744073709551615 - bit))) (sym (c.from.ensures ∙ c.device_bit.ensures.value))
    (makes_line_leave c.args.shape.now c.args.actor c.args.self.now c.in-LineLeave.line (few_devices c.args.shape.now c.args.actor c.requires.shape c.requires.actor (search rules)).1))
