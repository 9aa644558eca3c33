-- The worked entry: each of its conditions computes, and the law says what its registers are.
use Rattle.std.proofs.Common.{◌≡◌, ℕ, ◌^◌, ◌<◌, zero, suc, inl, [], ◌∷◌, drop, take, None, refl, ◌∙◌, arith}
use Rattle.law_serial_is_eager.specs.Histories.{opening_course}
use Rattle.law_serial_is_eager.specs.Registers.{least_in, with_level, without_level}
use Rattle.law_serial_is_eager.specs.Lists.{in_places}
use Rattle.law_serial_is_eager.specs.Core.{Claim, Look, Poll, TakeIndex, Irq, Vcpu, actor_count, opening, end_of_moments, progress_in, IsProperRun, held_word, pending_word, spi, worked_guest, worked_run}
use Rattle.law_serial_is_eager.proofs.CoreProper.WorkedLemmas.{worked_is_proper}
use Rattle.law_serial_is_eager.specs.LawCoreIsHistory.Laws.{AreCalls}
use Rattle.law_serial_is_eager.proofs.LawCoreIsHistory.PrefixLemmas.{calls_before}
use Rattle.law_serial_is_eager.proofs.LawCoreIsHistory.WorkedSteps.{worked_history_is}
use Rattle.law_serial_is_eager.proofs.LawScansMissNone.RunFrame.{proper_before}
use Rattle.law_serial_is_eager.specs.LawLateOnesLeave.Late.{AccessesComeFirst}
use Rattle.law_serial_is_eager.specs.LawLoneAccessesFindAll.Lone.{AreAtEase, IsAtEase}
use Rattle.law_serial_is_eager.specs.Worked.{step}
use Rattle.law_entries_are_plans.specs.Entry.{HasEntered, IsEntry}
use Rattle.law_entries_are_plans.specs.Worked.{WorkedEntryShowsHome, entering_part, entry_run, raised_run}
use Rattle.law_entries_are_plans.proofs.EntryRuns.{entries_show_home}

proper_is : IsProperRun worked_guest 0 entry_run
proper_is = proper_before worked_guest 0 entry_run (drop 16 worked_run) worked_is_proper

calls_are : AreCalls worked_guest.shape (opening worked_guest 0) (opening_course worked_guest) entry_run
calls_are = calls_before worked_guest.shape (opening worked_guest 0) (opening_course worked_guest) entry_run (drop 16 worked_run) worked_history_is.calls

comes_first : AccessesComeFirst worked_guest 0 raised_run
unfolding least_in with_level without_level in_places
comes_first = refl

-- the vCPU has nothing at its interface, and nobody is in a part
eases : (vcpu : ℕ) → vcpu < worked_guest.shape.vcpus → IsAtEase worked_guest.shape (end_of_moments worked_guest.shape (opening worked_guest 0) raised_run) vcpu (progress_in worked_guest 0 raised_run vcpu)
unfolding least_in with_level without_level in_places
eases zero h = inl refl
eases (suc n) h = absurd (omega (arith, h))

nobody_acts : (actor : ℕ) → actor < actor_count worked_guest.shape → (progress_in worked_guest 0 raised_run actor).operation ≡ None
unfolding least_in with_level without_level in_places
nobody_acts zero h = refl
nobody_acts (suc zero) h = refl
nobody_acts (suc (suc n)) h = absurd (omega (arith, h))

ease_is : AreAtEase worked_guest 0 raised_run
ease_is = record { nobody = nobody_acts; ease = eases }

-- it looks at its kick, and enters with its look for one
entry_is : IsEntry entering_part
entry_is = record {
  operation = refl;
  before = step (Look (Vcpu 0)) 2 2 ∷ [];
  look = step (Poll None None) 2 0;
  after = step (TakeIndex 0) (2 ^ 40) 0 ∷ step (Look (Irq spi)) pending_word pending_word ∷ step (Claim spi pending_word) pending_word held_word ∷ [];
  steps = refl;
  scans = refl;
  last = refl;
}

entered_is : HasEntered worked_guest.shape (end_of_moments worked_guest.shape (opening worked_guest 0) entry_run) 0 (progress_in worked_guest 0 entry_run 0)
unfolding least_in with_level without_level in_places
entered_is = record { unkicked = refl; none_failed = refl; untrapped = refl }

regs_are : (progress_in worked_guest 0 entry_run 0).regs.hcr ∷ take 4 (progress_in worked_guest 0 entry_run 0).regs.lr ≡ 0x91 ∷ 0x50a0000000000028 ∷ 0 ∷ 0 ∷ 0 ∷ []
unfolding least_in with_level without_level in_places
regs_are = refl

pub a_worked_entry_shows_home : WorkedEntryShowsHome
a_worked_entry_shows_home =
    let shows = entries_show_home worked_guest 0 raised_run entering_part worked_history_is.good proper_is calls_are comes_first ease_is (omega arith) entry_is entered_is in
    record { good = worked_history_is.good; same = refl; proper = proper_is; calls = calls_are; first = comes_first; ease = ease_is; entry = entry_is; entered = entered_is; shows = shows; registers = shows.shown ∙ regs_are }
