-- The worked run, part by part: each of its conditions computes.
use Rattle.std.proofs.Common.{ℕ, ◌<◌, zero, suc, inl, inr, [], take, refl, arith}
use Rattle.law_lone_calls_are_eager.specs.Registers.{least_in, with_level, without_level}
use Rattle.law_lone_accesses_find_all.specs.Lists.{in_places}
use Rattle.law_lone_accesses_find_all.specs.Core.{opening, end_of_moments, progress_in, worked_guest, worked_run}
use Rattle.law_lone_accesses_find_all.proofs.CoreProper.WorkedLemmas.{worked_is_proper}
use Rattle.law_lone_accesses_find_all.proofs.LawCoreIsHistory.WorkedSteps.{worked_history_is}
use Rattle.law_lone_accesses_find_all.specs.Lone.{IsAtEase}
use Rattle.law_serial_is_eager.specs.Serial.{AreFit}
use Rattle.law_serial_is_eager.specs.Worked.{WorkedPartsAreFit, worked_parts}
use Rattle.law_serial_is_eager.proofs.SerialRuns.{serial_runs_are_eager}

-- the vCPU has nothing at its interface, and then it is calm

abbrev EaseAt : ℕ → Type 0
EaseAt length = (vcpu : ℕ) → vcpu < worked_guest.shape.vcpus → IsAtEase worked_guest.shape (end_of_moments worked_guest.shape (opening worked_guest 0) (take length worked_run)) vcpu (progress_in worked_guest 0 (take length worked_run) vcpu)

opens : EaseAt 0
unfolding least_in with_level without_level in_places
opens zero h = inl refl
opens (suc n) h = absurd (omega (arith, h))

entered : EaseAt 4
unfolding least_in with_level without_level in_places
entered zero h = inl refl
entered (suc n) h = absurd (omega (arith, h))

raised : EaseAt 9
unfolding least_in with_level without_level in_places
raised zero h = inl refl
raised (suc n) h = absurd (omega (arith, h))

entered_again : EaseAt 16
unfolding least_in with_level without_level in_places
entered_again zero h = inr (record { unkicked = refl; stays = refl; paid = refl })
entered_again (suc n) h = absurd (omega (arith, h))

acknowledged : EaseAt 19
unfolding least_in with_level without_level in_places
acknowledged zero h = inr (record { unkicked = refl; stays = refl; paid = refl })
acknowledged (suc n) h = absurd (omega (arith, h))

ended : EaseAt 22
unfolding least_in with_level without_level in_places
ended zero h = inr (record { unkicked = refl; stays = refl; paid = refl })
ended (suc n) h = absurd (omega (arith, h))

found_none : EaseAt 25
unfolding least_in with_level without_level in_places
found_none zero h = inr (record { unkicked = refl; stays = refl; paid = refl })
found_none (suc n) h = absurd (omega (arith, h))

fit_is : AreFit worked_guest 0 [] worked_parts
unfolding least_in with_level without_level in_places
fit_is = (
  record { ease = λ icc. opens; good = tt },
  (
    record { ease = λ icc. entered; good = refl },
    (
      record { ease = λ icc. raised; good = tt },
      (
        record { ease = λ icc. entered_again; good = (omega arith, refl) },
        (record { ease = λ icc. acknowledged; good = (omega arith, refl) }, (record { ease = λ icc. ended; good = (omega arith, refl) }, (record { ease = λ icc. found_none; good = tt }, tt))),
      ),
    ),
  ),
)

pub worked_parts_are_fit : WorkedPartsAreFit
worked_parts_are_fit = record {
  good = worked_history_is.good;
  same = refl;
  proper = worked_is_proper;
  calls = worked_history_is.calls;
  fit = fit_is;
  eager = serial_runs_are_eager worked_guest 0 worked_parts worked_history_is.good worked_is_proper worked_history_is.calls fit_is;
}
