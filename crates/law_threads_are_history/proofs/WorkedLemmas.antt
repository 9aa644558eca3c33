-- The worked run of two actors: each of its conditions computes.
use Rattle.std.proofs.Common.{◌≡◌, ℕ, inl, zero, suc, true, false, IsTrue, All, List, [], ◌∷◌, Some, None, slice_index_or, refl, arith}
use Rattle.std.specs.List.{list_all}
use Rattle.std.proofs.lemmas.Bool.{and_parts}
use Rattle.std.proofs.lemmas.List.Elements.{All-cons, All-nil}
use Rattle.law_ends_agree.specs.Words.{Eoir1, Iar1, G1}
use Rattle.law_ends_agree.specs.Registers.{least_in, with_level, without_level}
use Rattle.law_ends_agree.specs.Calls.{Cpu, Beside, IsCall, View}
use Rattle.law_ends_agree.specs.GicCall.declared.event.Event.TheVariants.{Raise}
use Rattle.law_ends_agree.specs.GicCall.declared.event.Found.TheVariants.{Answer, Nothing}
use Rattle.law_ends_agree.specs.Histories.{view_at}
use Rattle.law_ends_agree.specs.GicHistory.State.{opening as opening_ideal}
use Rattle.law_ends_agree.proofs.GicHistory.CallLemmas.{hands_one}
use Rattle.law_found_parts_are_calls.specs.Lists.{in_places}
use Rattle.law_ends_agree.specs.Core.{AtIrq, Seen, part_events, seen_after, shape_of, IsRun, opening, opening_local_of, maps_taken, vcpu_of_actor, has_registers, opening_progress, spi, worked_guest}
use Rattle.law_found_parts_are_calls.proofs.CoreProper.WorkedLemmas.{acts_are_proper, are_proper, device_there, vcpu_is, vcpu_there}
use Rattle.law_found_parts_are_calls.proofs.LawCoreIsHistory.WorkedSteps.{worked_history_is}
use Rattle.law_found_parts_are_calls.specs.PeMem.Found.{takes_its_by}
use Rattle.law_found_parts_are_calls.proofs.PeMem.FoundLemmas.{found_by_none}
use Rattle.pe_place.specs.Parts.{AreCalls, IsPartFound, Part, acts_in, residence}
use Rattle.law_threads_are_history.specs.Woven.{HaveDone}
use Rattle.law_threads_are_history.specs.Worked.{WorkedThreadsAreAHistory, worked_parts, worked_world}
use Rattle.law_threads_are_history.proofs.HistoryRuns.{threads_are_a_history}

-- The run.

-- the interrupt at the interface as the vCPU leaves: ended, and then given back
abbrev at_end : AtIrq
at_end = record { key = spi; entry_prio = 0xa0; group = G1; pending = false; active = false; rise = false; soft = false; consumed = true; given = false }

abbrev given_back : AtIrq
given_back = record { key = spi; entry_prio = 0xa0; group = G1; pending = false; active = false; rise = false; soft = false; consumed = true; given = true }

worked_run : IsRun worked_guest.shape (opening worked_guest 0) worked_world
unfolding least_in with_level without_level in_places
worked_run = (
  record { actor = vcpu_there; can = refl; meets = refl; found = refl; left = refl; tables = refl },
  (
    record { actor = device_there; can = refl; meets = refl; found = refl; left = refl; tables = refl },
    (
      record { actor = vcpu_there; can = refl; meets = refl; found = refl; left = refl; tables = refl },
      (
        record { actor = device_there; can = refl; meets = tt; found = refl; left = refl; tables = refl },
        (
          record { actor = device_there; can = vcpu_is; meets = refl; found = refl; left = refl; tables = refl },
          (
            record { actor = vcpu_there; can = refl; meets = tt; found = refl; left = refl; tables = refl },
            (
              record { actor = vcpu_there; can = refl; meets = refl; found = refl; left = refl; tables = refl },
              (
                record { actor = vcpu_there; can = refl; meets = refl; found = refl; left = refl; tables = refl },
                (
                  record { actor = vcpu_there; can = refl; meets = tt; found = refl; left = refl; tables = refl },
                  (
                    record { actor = vcpu_there; can = refl; meets = refl; found = refl; left = refl; tables = refl },
                    (
                      record { actor = vcpu_there; can = refl; meets = refl; found = refl; left = refl; tables = refl },
                      (
                        record { actor = vcpu_there; can = refl; meets = refl; found = refl; left = refl; tables = refl },
                        (
                          record { actor = vcpu_there; can = refl; meets = record { entry = at_end; at = refl; here = refl; whole = refl }; found = refl; left = refl; tables = refl },
                          (
                            record { actor = vcpu_there; can = refl; meets = record { entry = given_back; at = refl; given = refl; marks = refl }; found = refl; left = refl; tables = refl },
                            (record { actor = vcpu_there; can = refl; meets = tt; found = refl; left = refl; tables = refl }, tt),
                          ),
                        ),
                      ),
                    ),
                  ),
                ),
              ),
            ),
          ),
        ),
      ),
    ),
  ),
)

-- The actors.

-- what is found of the guest as it opens
abbrev opened : View
opened = view_at (opening_ideal worked_guest)

-- what a port tells of an actor as it opens
abbrev told_at : ℕ → Seen
told_at actor =
    record {
      home = record { words = 0; slots = 0; views_name = 0; atom = 0; block = 0; offset = 0; slot_names = [] };
      guest = worked_guest;
      number = 0;
      actor = actor;
      local = opening_local_of worked_guest 0 actor;
      own = [];
      taken = false;
      world = None;
    }

-- a part whose events are its call, whichever vCPUs the LPIs are for
found_so : (seen : Seen) (part : Part) → takes_its_by (shape_of seen) part.operation ≡ false
    → ((beside : Beside) → beside.maps ≡ maps_taken part.steps → IsCall (shape_of seen) beside (vcpu_of_actor (shape_of seen) seen.actor) part.operation (part_events seen part.steps) part.answer) → IsPartFound seen part
found_so seen part free call = inl (record {
  made = record { beside = record { maps = maps_taken part.steps; targets = λ id. None; commands = []; signals = false }; maps = refl; signals = refl; call = call (record { maps = maps_taken part.steps; targets = λ id. None; commands = []; signals = false }) refl };
  found = found_by_none seen part.steps part.operation part.answer free call;
})

-- the parts of the vCPU in order, and what is told as each begins
abbrev part_at : ℕ → Part
part_at number = slice_index_or (worked_parts 0) number (residence 0 [])

abbrev seen_at : ℕ → Seen
seen_at zero = told_at 0
seen_at (suc number) = seen_after (seen_at number) (part_at number).steps

vcpu_calls : AreCalls (told_at 0) (worked_parts 0)
unfolding least_in with_level without_level in_places
vcpu_calls = (
  found_so (seen_at 0) (part_at 0) refl (λ beside maps. (refl, refl)),
  (
    found_so (seen_at 1) (part_at 1) refl (λ beside maps. (refl, refl)),
    (
      found_so (seen_at 2) (part_at 2) refl
          (λ beside maps. record { view = opened; made = record { events_are = refl; found = hands_one opened (Cpu 0 Iar1 None) (Answer (Some 40)) ((Some 40), refl); reads = All-nil _ }; answers = (0, omega arith, refl) }),
      (
        found_so (seen_at 3) (part_at 3) refl
            (λ beside maps. record { view = opened; made = record { events_are = refl; found = hands_one opened (Cpu 0 Eoir1 (Some 40)) (Answer None) (None, refl); reads = All-nil _ }; answers = (0, omega arith, refl) }),
        (found_so (seen_at 4) (part_at 4) refl (λ beside maps. (refl, refl)), tt),
      ),
    ),
  ),
)

device_calls : AreCalls (told_at 1) (worked_parts 1)
unfolding least_in with_level without_level in_places
device_calls = (
  found_so (told_at 1) (slice_index_or (worked_parts 1) 0 (residence 0 [])) refl
      (λ beside maps. record { view = record opened { maps = beside.maps }; maps = refl; made = record { events_are = refl; found = hands_one (record opened { maps = beside.maps }) (Raise spi) Nothing refl; reads = All-nil _ }; answers = refl }),
  tt,
)

vcpu_proper : IsTrue (are_proper worked_guest.shape 0 (opening_progress worked_guest 0 0) (acts_in (worked_parts 0)))
unfolding least_in with_level without_level in_places
vcpu_proper = refl

device_proper : IsTrue (are_proper worked_guest.shape 1 (opening_progress worked_guest 0 1) (acts_in (worked_parts 1)))
unfolding least_in with_level without_level in_places
device_proper = refl

abbrev HasRegisters : ℕ → Part → Type 0
HasRegisters actor part = IsTrue (has_registers worked_guest.shape actor part.lrs)

abbrev registers : (actor : ℕ) (parts : List Part) → IsTrue (list_all (λ (part : Part). has_registers worked_guest.shape actor part.lrs) parts) → All (HasRegisters actor) parts
registers actor [] all = All-nil (HasRegisters actor)
registers actor (part ∷ parts) all =
    let both = and_parts (has_registers worked_guest.shape actor part.lrs) (list_all (λ (part : Part). has_registers worked_guest.shape actor part.lrs) parts) all in
    All-cons (HasRegisters actor) part parts both.0 (registers actor parts both.1)

pub worked_done : HaveDone worked_guest 0 worked_world worked_parts
worked_done zero there = record {
  from = told_at 0;
  guest_is = refl;
  number_is = refl;
  actor_is = refl;
  local_is = refl;
  own_is = refl;
  steps = refl;
  registers = registers 0 (worked_parts 0) refl;
  calls = vcpu_calls;
  proper = acts_are_proper worked_guest.shape 0 (opening_progress worked_guest 0 0) (acts_in (worked_parts 0)) vcpu_proper;
}
worked_done (suc zero) there = record {
  from = told_at 1;
  guest_is = refl;
  number_is = refl;
  actor_is = refl;
  local_is = refl;
  own_is = refl;
  steps = refl;
  registers = registers 1 (worked_parts 1) refl;
  calls = device_calls;
  proper = acts_are_proper worked_guest.shape 1 (opening_progress worked_guest 0 1) (acts_in (worked_parts 1)) device_proper;
}
worked_done (suc (suc actor)) there = absurd (omega (arith, there))

pub worked_threads_are_a_history : WorkedThreadsAreAHistory
worked_threads_are_a_history = record {
  good = worked_history_is.good;
  run = worked_run;
  done = worked_done;
  history = threads_are_a_history worked_guest 0 worked_world worked_parts worked_history_is.good worked_run worked_done;
}
