-- The worked run, part by part, as a port tells of it.
use Rattle.std.proofs.Common.{◌≡◌, ℕ, inl, false, List, [], ◌∷◌, ◌++◌, Some, None, refl, slice_index_or, take, arith}
use Rattle.std.proofs.lemmas.List.Elements.{All-nil}
use Rattle.law_unmapped_lpis.specs.Words.{Eoir1, Iar1}
use Rattle.law_unmapped_lpis.specs.Registers.{least_in, with_level, without_level}
use Rattle.law_unmapped_lpis.specs.Calls.{Cpu, Residence, Beside, IsCall, View}
use Rattle.law_unmapped_lpis.specs.GicCall.declared.event.Event.TheVariants.{Raise}
use Rattle.law_unmapped_lpis.specs.GicCall.declared.event.Found.TheVariants.{Answer, Nothing}
use Rattle.law_unmapped_lpis.specs.Histories.{view_at, IdealGuest}
use Rattle.law_unmapped_lpis.specs.GicHistory.State.{opening as opening_ideal}
use Rattle.law_unmapped_lpis.proofs.GicHistory.CallLemmas.{hands_one}
use Rattle.pe_mem.specs.Lists.{in_places}
use Rattle.pe_mem.specs.Core.{Seen, part_events, opening, seat_at, maps_taken, vcpu_of_actor, end_of_moments, CoreMoment, spi, worked_guest}
use Rattle.law_serial_is_eager.specs.Serial.{WholePart, moments_of}
use Rattle.law_serial_is_eager.specs.Worked.{worked_parts}
use Rattle.law_serial_is_eager.proofs.WorkedLemmas.{worked_parts_are_fit}
use Rattle.pe_mem.specs.Found.{takes_its_by}
use Rattle.pe_mem.proofs.FoundLemmas.{found_by_none}
use Rattle.law_found_parts_are_calls.specs.Found.{AreFoundParts, IsFoundPart}
use Rattle.law_found_parts_are_calls.specs.Worked.{WorkedPartsAreFound}
use Rattle.law_found_parts_are_calls.proofs.EagerRuns.{found_runs_are_eager}

-- what is found of the guest as it opens
abbrev opened : View
opened = view_at (opening_ideal worked_guest)

-- what a port tells of an actor of a guest after some moments
abbrev pub told_in : IdealGuest → List CoreMoment → ℕ → Seen
told_in guest early actor =
    let seat = seat_at (end_of_moments guest.shape (opening guest 0) early) actor in
    record {
      home = record { words = 0; slots = 0; views_name = 0; atom = 0; block = 0; offset = 0; slot_names = [] };
      guest = guest;
      number = 0;
      actor = actor;
      local = seat.local;
      own = seat.own;
      taken = false;
      world = None;
    }

-- its parts in order, and the moments before each
abbrev part_at : ℕ → WholePart
part_at number = slice_index_or worked_parts number (record { actor = 0; operation = Residence; lrs = 4; steps = []; answer = None })

abbrev before : ℕ → List CoreMoment
before number = moments_of (take number worked_parts)

-- a part whose events are its call, whichever vCPUs the LPIs are for
found_so : (early : List CoreMoment) (part : WholePart) → takes_its_by worked_guest.shape part.operation ≡ false
    → ((beside : Beside) → beside.maps ≡ maps_taken part.steps → IsCall worked_guest.shape beside (vcpu_of_actor worked_guest.shape part.actor) part.operation (part_events (told_in worked_guest early part.actor) part.steps) part.answer) → IsFoundPart worked_guest 0 early part
found_so early part free call = inl (record {
  seen = told_in worked_guest early part.actor;
  told = record { guest_is = refl; actor_is = refl; local_is = refl; own_is = refl };
  made = record { beside = record { maps = maps_taken part.steps; targets = λ id. None; commands = []; signals = false }; maps = refl; signals = refl; call = call (record { maps = maps_taken part.steps; targets = λ id. None; commands = []; signals = false }) refl };
  found = found_by_none (told_in worked_guest early part.actor) part.steps part.operation part.answer free call;
})

worked_found : AreFoundParts worked_guest 0 [] worked_parts
unfolding least_in with_level without_level in_places
worked_found = (
  found_so (before 0) (part_at 0) refl (λ beside maps. (refl, refl)),
  (
    found_so (before 1) (part_at 1) refl
        (λ beside maps.
        record { view = record opened { maps = beside.maps }; maps = refl; made = record { events_are = refl; found = hands_one (record opened { maps = beside.maps }) (Raise spi) Nothing refl; reads = All-nil _ }; answers = refl }),
    (
      found_so (before 2) (part_at 2) refl (λ beside maps. (refl, refl)),
      (
        found_so (before 3) (part_at 3) refl
            (λ beside maps. record { view = opened; made = record { events_are = refl; found = hands_one opened (Cpu 0 Iar1 None) (Answer (Some 40)) ((Some 40), refl); reads = All-nil _ }; answers = (0, omega arith, refl) }),
        (
          found_so (before 4) (part_at 4) refl
              (λ beside maps. record { view = opened; made = record { events_are = refl; found = hands_one opened (Cpu 0 Eoir1 (Some 40)) (Answer None) (None, refl); reads = All-nil _ }; answers = (0, omega arith, refl) }),
          (
            found_so (before 5) (part_at 5) refl
                (λ beside maps. record { view = opened; made = record { events_are = refl; found = hands_one opened (Cpu 0 Iar1 None) (Answer (Some 1023)) ((Some 1023), refl); reads = All-nil _ }; answers = (0, omega arith, refl) }),
            (found_so (before 6) (part_at 6) refl (λ beside maps. (refl, refl)), tt),
          ),
        ),
      ),
    ),
  ),
)

pub worked_parts_are_found : WorkedPartsAreFound
worked_parts_are_found =
    let fit = worked_parts_are_fit in
    record { good = fit.good; proper = fit.proper; found = worked_found; fits = fit.fit; eager = found_runs_are_eager worked_guest 0 worked_parts fit.good fit.proper worked_found fit.fit }
