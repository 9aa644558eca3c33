-- The worked run: each of its conditions computes.
use Rattle.std.proofs.Common.{◌≡◌, ℕ, ◌<◌, ◌&&◌, Bool, true, false, IsTrue, List, [], ◌∷◌, refl, arith, zero, suc, All, nat_lt, Option, slice_index_or}
use Rattle.std.proofs.lemmas.Grind.{common_steps}
use Rattle.std.proofs.lemmas.List.Sums.{AllPass-from_list_all}
use Rattle.floor_histories.specs.Words.{GuestShape, G1}
use Rattle.floor_histories.specs.Registers.{least_in, with_level, without_level}
use Rattle.floor_lists.specs.Lists.{in_places}
use Rattle.port_core.specs.declared.at_list.AtIrq.{AtIrq}
use Rattle.port_core.specs.declared.run.Made.{Made}
use Rattle.port_core.specs.Actor.{actor_count}
use Rattle.port_core.specs.Run.{opening, IsRun}
use Rattle.core_proper.specs.Ideal.{ideal_of}
use Rattle.core_proper.specs.Parts.{Act, begins, makes, ends, own_acts, entries_of, CoreMoment, are_parts}
use Rattle.core_proper.specs.Progress.{Progress, progressed, opening_progress}
use Rattle.core_proper.specs.Proper.{keeps_scan, keeps_trap_scan, keeps_failed_claim, keeps_far_end, keeps_refill, keeps_want, keeps_seen, ends_refill, wants_nothing, is_settled, IsProperStep, IsProperEnd, IsProperAct, IsProper, IsProperRun}
use Rattle.core_proper.specs.Scan.{is_idle}
use Rattle.core_proper.specs.Laws.{WorkedRunIsProper}
use Rattle.core_proper.specs.Worked.{spi, worked_guest, worked_run, worked_history}

pub worked_ideal : ideal_of worked_guest.shape (opening worked_guest 0) worked_run ≡ worked_history
unfolding least_in with_level without_level in_places
worked_ideal = refl

-- the conditions as one test
abbrev pub is_proper_act : GuestShape → ℕ → Progress → Act → Bool
is_proper_act shape actor p (begins operation lrs) = true
is_proper_act shape actor p (makes made) =
    keeps_scan shape actor p made.step
    && (keeps_trap_scan p made.step && (keeps_failed_claim p made.step && (keeps_far_end shape actor p made.step && (keeps_refill shape actor p made.step && (keeps_want shape actor p made.step && keeps_seen shape actor p made.step)))))
is_proper_act shape actor p (ends answer) = is_idle p.scan && (ends_refill p && (wants_nothing p.wants && is_settled p.local))

abbrev pub are_proper : GuestShape → ℕ → Progress → List Act → Bool
are_proper shape actor p [] = true
are_proper shape actor p (act ∷ acts) = is_proper_act shape actor p act && are_proper shape actor (progressed shape actor p act) acts

pub worked_vcpu : IsTrue (are_proper worked_guest.shape 0 (opening_progress worked_guest 0 0) (own_acts 0 worked_run))
unfolding least_in with_level without_level in_places
worked_vcpu = refl

pub worked_device : IsTrue (are_proper worked_guest.shape 1 (opening_progress worked_guest 0 1) (own_acts 1 worked_run))
unfolding least_in with_level without_level in_places
worked_device = refl

-- the interrupt at the interface as the vCPU leaves: ended, and then given back
at_end : AtIrq
at_end = record { key = spi; entry_prio = 0xa0; group = G1; pending = false; active = false; rise = false; soft = false; consumed = true; given = false }

given_back : AtIrq
given_back = record { key = spi; entry_prio = 0xa0; group = G1; pending = false; active = false; rise = false; soft = false; consumed = true; given = true }

pub vcpu_there : 0 < actor_count worked_guest.shape
vcpu_there = omega arith

pub device_there : 1 < actor_count worked_guest.shape
device_there = omega arith

pub vcpu_is : 0 < worked_guest.shape.vcpus
vcpu_is = omega arith

pub worked_is_run : IsRun worked_guest.shape (opening worked_guest 0) (entries_of worked_run)
unfolding least_in with_level without_level in_places at_end given_back
worked_is_run = (
  record { actor = vcpu_there; can = refl; meets = refl; found = refl; left = refl; tables = refl },
  (
    record { actor = vcpu_there; can = refl; meets = refl; found = refl; left = refl; tables = refl },
    (
      record { actor = device_there; can = refl; meets = refl; found = refl; left = refl; tables = refl },
      (
        record { actor = device_there; can = refl; meets = tt; found = refl; left = refl; tables = refl },
        (
          record { actor = device_there; can = vcpu_is; meets = refl; found = refl; left = refl; tables = refl },
          (
            record { actor = vcpu_there; can = refl; meets = tt; found = refl; left = refl; tables = refl },
            (
              record { actor = vcpu_there; can = refl; meets = refl; found = refl; left = refl; tables = refl },
              (
                record { actor = vcpu_there; can = refl; meets = refl; found = refl; left = refl; tables = refl },
                (
                  record { actor = vcpu_there; can = refl; meets = tt; found = refl; left = refl; tables = refl },
                  (
                    record { actor = vcpu_there; can = refl; meets = refl; found = refl; left = refl; tables = refl },
                    (
                      record { actor = vcpu_there; can = refl; meets = refl; found = refl; left = refl; tables = refl },
                      (
                        record { actor = vcpu_there; can = refl; meets = refl; found = refl; left = refl; tables = refl },
                        (
                          record { actor = vcpu_there; can = refl; meets = refl; found = refl; left = refl; tables = refl },
                          (
                            record { actor = vcpu_there; can = refl; meets = record { entry = at_end; at = refl; here = refl; whole = refl }; found = refl; left = refl; tables = refl },
                            (
                              record { actor = vcpu_there; can = refl; meets = record { entry = given_back; at = refl; given = refl; marks = refl }; found = refl; left = refl; tables = refl },
                              (record { actor = vcpu_there; can = refl; meets = tt; found = refl; left = refl; tables = refl }, tt),
                            ),
                          ),
                        ),
                      ),
                    ),
                  ),
                ),
              ),
            ),
          ),
        ),
      ),
    ),
  ),
)

both : (a b : Bool) → IsTrue (a && b) → IsTrue a × IsTrue b
both true b h = (refl, h)
both false b h = grind (arith, common_steps, h)

-- a test of a step that passes is a proper step
step_is_proper : (shape : GuestShape) (actor : ℕ) (p : Progress) (made : Made) → IsTrue (is_proper_act shape actor p (makes made)) → IsProperStep shape actor p made.step
step_is_proper shape actor p made h =
    let scan = both (keeps_scan shape actor p made.step) _ h in
    let trap = both (keeps_trap_scan p made.step) _ scan.1 in
    let failed = both (keeps_failed_claim p made.step) _ trap.1 in
    let far = both (keeps_far_end shape actor p made.step) _ failed.1 in
    let refill = both (keeps_refill shape actor p made.step) _ far.1 in
    let want = both (keeps_want shape actor p made.step) _ refill.1 in
    record { scan = scan.0; trap = trap.0; failed = failed.0; far = far.0; refill = refill.0; want = want.0; seen = want.1 }

end_is_proper : (shape : GuestShape) (actor : ℕ) (p : Progress) (answer : Option ℕ) → IsTrue (is_proper_act shape actor p (ends answer)) → IsProperEnd p
end_is_proper shape actor p answer h =
    let scan = both (is_idle p.scan) _ h in
    let refill = both (ends_refill p) _ scan.1 in
    let want = both (wants_nothing p.wants) _ refill.1 in
    record { scan = scan.0; refill = refill.0; want = want.0; settled = want.1 }

act_is_proper : (shape : GuestShape) (actor : ℕ) (p : Progress) (act : Act) → IsTrue (is_proper_act shape actor p act) → IsProperAct shape actor p act
act_is_proper shape actor p (begins operation lrs) h = tt
act_is_proper shape actor p (makes made) h = step_is_proper shape actor p made h
act_is_proper shape actor p (ends answer) h = end_is_proper shape actor p answer h

pub acts_are_proper : (shape : GuestShape) (actor : ℕ) (p : Progress) (acts : List Act) → IsTrue (are_proper shape actor p acts) → IsProper shape actor p acts
acts_are_proper shape actor p [] h = tt
acts_are_proper shape actor p (act ∷ acts) h =
    let split = both (is_proper_act shape actor p act) (are_proper shape actor (progressed shape actor p act) acts) h in
    (act_is_proper shape actor p act split.0, acts_are_proper shape actor (progressed shape actor p act) acts split.1)

-- the guest has two actors
pub no_other : {X : Type 0} (n : ℕ) → suc (suc n) < actor_count worked_guest.shape → X
no_other n h = absurd (omega (arith, h))

worked_parts : (actor : ℕ) → actor < actor_count worked_guest.shape → IsTrue (are_parts worked_guest.shape actor false (own_acts actor worked_run))
worked_parts zero h = refl
worked_parts (suc zero) h = refl
worked_parts (suc (suc n)) h = no_other n h

worked_proper : (actor : ℕ) → actor < actor_count worked_guest.shape → IsProper worked_guest.shape actor (opening_progress worked_guest 0 actor) (own_acts actor worked_run)
worked_proper zero h = acts_are_proper worked_guest.shape 0 (opening_progress worked_guest 0 0) (own_acts 0 worked_run) worked_vcpu
worked_proper (suc zero) h = acts_are_proper worked_guest.shape 1 (opening_progress worked_guest 0 1) (own_acts 1 worked_run) worked_device
worked_proper (suc (suc n)) h = no_other n h

abbrev pub is_there : CoreMoment → Bool
is_there moment = nat_lt moment.actor 2

pub is_below : (a b : ℕ) → nat_lt a b ≡ true → a < b
is_below a b h = grind (arith, common_steps, h)

worked_actors : All (λ moment. moment.actor < actor_count worked_guest.shape) worked_run
worked_actors = λ k d h. is_below (slice_index_or worked_run k d).actor 2 (AllPass-from_list_all is_there worked_run refl k d h)

pub worked_is_proper : IsProperRun worked_guest 0 worked_run
worked_is_proper = record { parted = record { run = worked_is_run; actors = worked_actors; parts = worked_parts }; proper = worked_proper }

pub worked : WorkedRunIsProper
worked = record { proper = worked_is_proper; ideal = worked_ideal }
