use Rattle.std.proofs.Common.{ℕ, ◌+◌, ◌<◌, ◌≡◌, Bool, Some, nat_eq, refl, sym, ap, ◌∙◌, arith}
use Rattle.std.specs.Option.{option_eq}
use Rattle.floor_calls.specs.Words.{is_number}
use Rattle.floor_calls.specs.Registers.{collection_of}
use Rattle.floor_calls.specs.GicCall.declared.command.Part.TheVariants.{Configure}
use Rattle.ideal_guest.proofs.PartLemmas.{is_number-equal}
use Rattle.ideal_guest.proofs.SweepLemmas.{sweeps_start, sweeps_hit, sweeps_miss, sweeps_end}
use Rattle.ideal_guest.proofs.guest.IdealGuest.configure_all.Goals.{then-eq, else-eq}
use Rattle.ideal_guest.proofs.guest.IdealGuest.configure_all.Goals as goal

pub loop-number-init : goal.loop-number-init
loop-number-init c = record { end = refl; so_far = sweeps_start c.args.self.now (λ id. is_number c.args.icid (collection_of c.args.self.now.tables id)) Configure c.requires }

pub loop-number-preserved : goal.loop-number-preserved
loop-number-preserved c =
    let old = c.args.self.now in
    let now = c.loop-number.self in
    let n = c.loop-number.number in
    let more : n < old.shape.lpis = omega (arith, c.loop-number.invariant.end) in
    let passes : ℕ → Bool = λ id. is_number c.args.icid (collection_of old.tables id) in
    let test : passes (8192 + n) ≡ c.eq.result = is_number-equal c.args.icid _ ∙ ap (λ maps. option_eq nat_eq (collection_of maps (8192 + n)) (Some c.args.icid)) (sym c.loop-number.invariant.so_far.keeps.tables) ∙ ap (λ o. option_eq nat_eq o (Some c.args.icid)) (sym c.collection_of.ensures) ∙ sym c.eq.ensures in
    elim c.if-eq.branch [
      | then-eq w ↦ record { end = c.loop-number.invariant.end; so_far = rw w.self-is (sweeps_hit old now w.do_part.new.self passes Configure n more (test ∙ w.if-eq.true) refl w.do_part.ensures.after w.do_part.ensures.sound c.loop-number.invariant.so_far) }
      | else-eq w ↦ record { end = c.loop-number.invariant.end; so_far = rw w.self-is (sweeps_miss old now passes Configure n more (test ∙ w.if-eq.false) c.loop-number.invariant.so_far) }
    ]

pub returns-clause-after : goal.returns-clause-after
returns-clause-after c = sweeps_end c.args.self.now c.loop-number.self (λ id. is_number c.args.icid (collection_of c.args.self.now.tables id)) Configure c.loop-number.number c.loop-number-test.false c.loop-number.invariant.so_far
