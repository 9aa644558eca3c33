-- The worked run as far as its first acknowledge: each of its conditions computes.
use Rattle.std.proofs.Common.{◌≡◌, ◌≢◌, ℕ, ◌<◌, zero, suc, inr, [], drop, None, refl, arith}
use Rattle.law_late_ones_leave.specs.Registers.{least_in, with_level, without_level}
use Rattle.law_late_ones_leave.specs.Lists.{in_places}
use Rattle.law_late_ones_leave.specs.Core.{actor_count, opening, end_of_moments, progress_in, worked_guest, worked_run}
use Rattle.law_late_ones_leave.proofs.CoreProper.WorkedLemmas.{worked_is_proper}
use Rattle.law_late_ones_leave.proofs.LawCoreIsHistory.WorkedSteps.{worked_history_is}
use Rattle.law_late_ones_leave.specs.LawScansMissNone.First.{MayAsk}
use Rattle.law_late_ones_leave.proofs.LawScansMissNone.RunFrame.{proper_before}
use Rattle.law_late_ones_leave.specs.Late.{AccessesComeFirst}
use Rattle.law_lone_accesses_find_all.specs.Lone.{AreAtEase, IsAlone, IsAtEase}
use Rattle.law_lone_accesses_find_all.specs.Worked.{AVcpuIsAlone, entered_run, lone_run}

nobody_acts : (actor : ℕ) → actor < actor_count worked_guest.shape → actor ≢ 0 → (progress_in worked_guest 0 lone_run actor).operation ≡ None
unfolding least_in with_level without_level in_places
nobody_acts zero h differ = absurd (differ refl)
nobody_acts (suc zero) h differ = refl
nobody_acts (suc (suc n)) h differ = absurd (omega (arith, h))

nothing_wanted : (actor : ℕ) → actor < actor_count worked_guest.shape → (progress_in worked_guest 0 lone_run actor).wants ≡ []
unfolding least_in with_level without_level in_places
nothing_wanted zero h = refl
nothing_wanted (suc zero) h = refl
nothing_wanted (suc (suc n)) h = absurd (omega (arith, h))

eases : (vcpu : ℕ) → vcpu < worked_guest.shape.vcpus → IsAtEase worked_guest.shape (end_of_moments worked_guest.shape (opening worked_guest 0) entered_run) vcpu (progress_in worked_guest 0 entered_run vcpu)
unfolding least_in with_level without_level in_places
eases zero h = inr (record { unkicked = refl; stays = refl; paid = refl })
eases (suc n) h = absurd (omega (arith, h))

nobody_is_in : (actor : ℕ) → actor < actor_count worked_guest.shape → (progress_in worked_guest 0 entered_run actor).operation ≡ None
unfolding least_in with_level without_level in_places
nobody_is_in zero h = refl
nobody_is_in (suc zero) h = refl
nobody_is_in (suc (suc n)) h = absurd (omega (arith, h))

ease_is : AreAtEase worked_guest 0 entered_run
ease_is = record { nobody = nobody_is_in; ease = eases }

alone_is : IsAlone worked_guest 0 lone_run 0
unfolding least_in with_level without_level in_places
alone_is = record { nobody = nobody_acts; owes_none = refl }

may_ask : MayAsk worked_guest.shape (end_of_moments worked_guest.shape (opening worked_guest 0) lone_run) 0 (progress_in worked_guest 0 lone_run 0)
unfolding least_in with_level without_level in_places
may_ask = record { unkicked = refl; none_failed = refl; loaded = record { scan = refl; ready = refl }; paid = refl; scanned = refl }

comes_first : AccessesComeFirst worked_guest 0 entered_run
unfolding least_in with_level without_level in_places
comes_first = refl

pub alone : AVcpuIsAlone
alone = record {
  good = worked_history_is.good;
  proper = proper_before worked_guest 0 lone_run (drop 17 worked_run) worked_is_proper;
  first = comes_first;
  ease = ease_is;
  alone = alone_is;
  ready = record { first = λ asks. record { asks = may_ask; unwanted = nothing_wanted }; ends = λ key e. absurd (cc) };
}
