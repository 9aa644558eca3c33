-- Steps that may fail: one that does leaves all as it is, and stands for nothing.
use Rattle.std.proofs.Common.{◌≡◌, ℕ, Bool, true, false, cond, [], ◌∷◌, ◌++◌, Option, None, refl, sym, subst, slice_set}
use Rattle.law_lines_translate.specs.Words.{GuestShape}
use Rattle.law_lines_translate.specs.Calls.{Happened}
use Rattle.law_lines_translate.specs.Registers.{Maps}
use Rattle.law_lines_translate.specs.Histories.{Ideal}
use Rattle.law_lines_translate.specs.Core.{Local, Made, CoreStep, local_done, succeeds, word_done, maps_by_step, place_of_word, CoreState, seat_at, event_done, word_of}
use Rattle.law_core_is_history.specs.Related.{WordSays, locals_of}
use Rattle.law_core_is_history.specs.Simulates.{IsSimulated, IsSimulatedAs}
use Rattle.law_core_is_history.proofs.RelatedLemmas.{quiet}
use Rattle.law_core_is_history.proofs.StepContext.{one, IsStep, has, says_found}

-- the state after a step of an actor that leaves this word, and leaves the actor so
abbrev pub left_as : GuestShape → CoreState → ℕ → CoreStep → ℕ → Local → Made → Maps → CoreState
left_as shape state actor step left local made maps =
    record {
      words = slice_set state.words (place_of_word shape (word_of shape actor step)) left;
      seats = slice_set state.seats actor (record { local = local; own = (seat_at state actor).own ++ made ∷ [] });
      maps = maps;
    }

module _ {shape : GuestShape} {state : CoreState} {ideal : Ideal} {actor found left : ℕ} {tables : Option Maps} where
  -- a step that may fail is simulated where it is once it does what it is for
  pub tried :
      (step : CoreStep) → IsStep shape state ideal actor step found left tables → maps_by_step state.maps step ≡ state.maps
      → (succeeds shape actor (locals_of state actor) step found ≡ true → left ≡ word_done shape actor (locals_of state actor) step found
      → IsSimulatedAs shape (left_as shape state actor step left (local_done shape actor (locals_of state actor) step found) (one actor step found left tables).made state.maps) ideal actor (event_done shape actor (locals_of state actor) (seat_at state actor).own step found))
      → IsSimulated shape state ideal (one actor step found left tables)
  tried step is maps done = subst (λ m. IsSimulatedAs shape (left_as shape state actor step left (cond (succeeds shape actor local step found) (local_done shape actor local step found) local) made m) ideal actor (cond (succeeds shape actor local step found) event None)) (sym maps)
      (of (succeeds shape actor local step found) is.takes.left done)
    where
      local : Local
      local = locals_of state actor

      made : Made
      made = (one actor step found left tables).made

      event : Option Happened
      event = event_done shape actor local (seat_at state actor).own step found

      of : (b : Bool) → left ≡ cond b (word_done shape actor local step found) found
          → (b ≡ true → left ≡ word_done shape actor local step found → IsSimulatedAs shape (left_as shape state actor step left (local_done shape actor local step found) made state.maps) ideal actor event)
          → IsSimulatedAs shape (left_as shape state actor step left (cond b (local_done shape actor local step found) local) made state.maps) ideal actor (cond b event None)
      of true e done = done refl e
      of false e done =
          quiet shape state ideal actor _ (word_of shape actor step) left is.good is.sound is.related is.takes.actor (has is)
          (record { says = subst (WordSays shape (locals_of state) ideal (word_of shape actor step)) (sym e) (says_found is); at = refl; mine = λ there. is.related.seats actor there })
