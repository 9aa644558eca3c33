use Rattle.std.proofs.Common.{ℕ, ◌+◌, ◌<◌, ◌≡◌, Bool, Some, nat_eq, refl, sym, ap, ◌∙◌, arith}
use Rattle.std.specs.Option.{option_eq}
use Rattle.floor_calls.specs.Words.{is_number}
use Rattle.floor_calls.specs.GicCall.declared.command.Part.TheVariants.{Retarget}
use Rattle.ideal_guest.specs.Ideal.{view_of}
use Rattle.ideal_guest.proofs.PartLemmas.{is_number-equal}
use Rattle.ideal_guest.proofs.SweepLemmas.{same_target, sweeps_start, sweeps_hit, sweeps_miss, sweeps_end}
use Rattle.ideal_guest.proofs.guest.IdealGuest.move_all.Goals.{then-eq, else-eq}
use Rattle.ideal_guest.proofs.guest.IdealGuest.move_all.Goals as goal

pub loop-number-init : goal.loop-number-init
loop-number-init c = record { end = refl; target = refl; so_far = sweeps_start c.args.self.now (λ id. is_number c.args.from ((view_of c.args.self.now).targets id)) (λ lpi. Retarget lpi (Some c.args.to)) c.requires.sound }

pub loop-number-preserved : goal.loop-number-preserved
loop-number-preserved c =
    let old = c.args.self.now in
    let now = c.loop-number.self in
    let n = c.loop-number.number in
    let more : n < old.shape.lpis = omega (arith, c.loop-number.invariant.end) in
    let keeps = c.loop-number.invariant.so_far.keeps in
    let passes : ℕ → Bool = λ id. is_number c.args.from ((view_of old).targets id) in
    let test : passes (8192 + n) ≡ c.eq.result = is_number-equal c.args.from _ ∙ ap (λ o. option_eq nat_eq o (Some c.args.from)) (sym (same_target old now (8192 + n) keeps.shape (keeps.later (8192 + n) (omega arith))) ∙ sym c.lpi_target.ensures.value) ∙ sym c.eq.ensures in
    elim c.if-eq.branch [
      | then-eq w ↦ record { end = c.loop-number.invariant.end; target = c.loop-number.invariant.target; so_far = rw w.self-is (sweeps_hit old now w.do_part.new.self passes (λ lpi. Retarget lpi (Some c.args.to)) n more (test ∙ w.if-eq.true) refl w.do_part.ensures.after w.do_part.ensures.sound c.loop-number.invariant.so_far) }
      | else-eq w ↦ record { end = c.loop-number.invariant.end; target = c.loop-number.invariant.target; so_far = rw w.self-is (sweeps_miss old now passes (λ lpi. Retarget lpi (Some c.args.to)) n more (test ∙ w.if-eq.false) c.loop-number.invariant.so_far) }
    ]

pub returns-clause-after : goal.returns-clause-after
returns-clause-after c = sweeps_end c.args.self.now c.loop-number.self (λ id. is_number c.args.from ((view_of c.args.self.now).targets id)) (λ lpi. Retarget lpi (Some c.args.to)) c.loop-number.number c.loop-number-test.false c.loop-number.invariant.so_far
