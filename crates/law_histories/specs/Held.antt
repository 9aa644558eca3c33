-- What only the actor that has the ITS changes: where its queue is (own choice: a write of GITS_CBASER waits until nobody has the ITS, and no command is done
-- meanwhile), and for which vCPU each LPI is (IHI 0069, "ITS commands").
use Rattle.std.specs.Prelude.{◌≡◌, ℕ, ◌==◌, ◌&&◌, ◌||◌, Bool, true, false, fold, List, ◌∷◌, ◌++◌, map, Some}
use Rattle.floor_histories.specs.Words.{Lpi}
use Rattle.floor_histories.specs.Calls.{Cbaser, Event, Put, Touch, ItsBegin, Runs, Found, Moment, Happens, Touching, MapLpi}
use Rattle.floor_histories.specs.GicCall.declared.event.Event.TheVariants.{Queue}
use Rattle.floor_histories.specs.GicCall.declared.touch.Touching.TheVariants.{Retarget, Forget}
use Rattle.floor_histories.specs.Histories.{Call, call_of, course_of, opening_course, IsHistory, IsWhole, last_of, targets_in, IdealGuest, CanOpen}
use Rattle.law_histories.specs.Sync.{begun_for}

-- in a history in which all calls ended, whoever stores it has the ITS
abbrev pub BasesAreHeld : Type 0
BasesAreHeld =
    (guest : IdealGuest) (early late : List Moment) (actor value : ℕ) (found : Found) → CanOpen guest → IsHistory guest (early ++ Happens actor (Put Cbaser value) found ∷ late) → IsWhole guest (early ++ Happens actor (Put Cbaser value) found ∷ late)
    → (last_of guest early).has_its ≡ Some actor

-- For which vCPU an LPI is.

-- a touch maps an LPI, moves it or forgets it
abbrev pub moves_target : Touching → Bool
moves_target (MapLpi target enabled prio) = true
moves_target (Retarget target) = true
moves_target Forget = true
moves_target touching = false

-- an event does so to this LPI
abbrev pub moves_lpi : ℕ → Event → Bool
moves_lpi id (Touch (Lpi other) touching) = other == id && moves_target touching
moves_lpi id event = false

-- a call has done so since its command began: as it took the ITS, or as the command before ended
abbrev pub moved_after : ℕ → Bool → Event → Bool
moved_after id moved ItsBegin = false
moved_after id moved (Queue offset Runs) = moved
moved_after id moved (Queue offset change) = false
moved_after id moved event = moved || moves_lpi id event

abbrev pub has_moved : ℕ → Call → Bool
has_moved id call = fold (moved_after id) false (map (λ happened. happened.event) call.piece)

-- in a history in which all calls ended, while an actor has the ITS: an LPI that its command has not moved is for the vCPU that it was for as the command began
abbrev pub TargetsStand : Type 0
TargetsStand =
    (guest : IdealGuest) (moments more : List Moment) (actor id : ℕ) (call : Call) → CanOpen guest → IsHistory guest (moments ++ more) → IsWhole guest (moments ++ more) → (last_of guest moments).has_its ≡ Some actor
    → call_of (course_of (opening_course guest) moments) actor ≡ Some call → has_moved id call ≡ false → targets_in (last_of guest moments) id ≡ begun_for call id
