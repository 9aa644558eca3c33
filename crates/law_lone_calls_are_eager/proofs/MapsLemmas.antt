-- Which maps of the ITS a call takes.
use Rattle.std.proofs.Common.{◌≡◌, ℕ, ◌||◌, not, Bool, true, false, cond, IsTrue, List, [], ◌∷◌, Option, refl, ap, ◌∙◌}
use Rattle.std.specs.List.{list_all, list_any}
use Rattle.std.proofs.lemmas.Bool.{and_parts}
use Rattle.law_home_commutes.specs.Calls.{Event, Up, Down, Touch, Reach, Take, Leave, Enable, Cpu, Put, CtlrBegin, CtlrEnd, ItsBegin, Runs, Done, Stalls, is_beside}
use Rattle.law_home_commutes.specs.GicCall.declared.event.Event.TheVariants.{Raise, Read, ItsEnd, Queue}
use Rattle.law_home_commutes.specs.Registers.{Maps}
use Rattle.law_home_commutes.specs.Histories.{Ideal, happened, Call, noted}
use Rattle.law_home_commutes.proofs.LawHistories.TurnSteps.{tables_after, tables_are}
use Rattle.law_eager_is_history.proofs.CourseLemmas.{call_after}
use Rattle.law_eager_is_history.proofs.WindowLemmas.{is_no_turn, next_call}

-- no command ends
abbrev pub keeps_maps : Event → Bool
keeps_maps (Queue offset (Done words)) = false
keeps_maps event = true

-- what is beside keeps them
pub beside_maps : (actor : Option ℕ) (event : Event) → is_beside actor event ≡ true → keeps_maps event ≡ true
beside_maps actor (Raise key) h = refl
beside_maps actor (Up key) h = refl
beside_maps actor (Down key) h = refl
beside_maps actor (Touch key touching) h = refl
beside_maps actor (Reach key u) h = refl
beside_maps actor (Take key u) h = refl
beside_maps actor (Leave key u) h = refl
beside_maps actor (Enable u) h = refl
beside_maps actor (Cpu u reg write) h = refl
beside_maps actor (Read at) h = refl
beside_maps actor (Put other value) h = refl
beside_maps actor (CtlrBegin enables) h = refl
beside_maps actor CtlrEnd h = refl
beside_maps actor ItsBegin h = refl
beside_maps actor ItsEnd h = refl
beside_maps actor (Queue offset Runs) h = refl
beside_maps actor (Queue offset (Done words)) h = absurd (cc)
beside_maps actor (Queue offset (Stalls fault)) h = refl

pub tables_kept : (event : Event) (maps : Maps) → keeps_maps event ≡ true → tables_after event maps ≡ maps
tables_kept (Raise key) maps h = refl
tables_kept (Up key) maps h = refl
tables_kept (Down key) maps h = refl
tables_kept (Touch key touching) maps h = refl
tables_kept (Reach key u) maps h = refl
tables_kept (Take key u) maps h = refl
tables_kept (Leave key u) maps h = refl
tables_kept (Enable u) maps h = refl
tables_kept (Cpu u reg write) maps h = refl
tables_kept (Read at) maps h = refl
tables_kept (Put other value) maps h = refl
tables_kept (CtlrBegin enables) maps h = refl
tables_kept CtlrEnd maps h = refl
tables_kept ItsBegin maps h = refl
tables_kept ItsEnd maps h = refl
tables_kept (Queue offset Runs) maps h = refl
tables_kept (Queue offset (Done words)) maps h = absurd (cc)
tables_kept (Queue offset (Stalls fault)) maps h = refl

noted_maps : (state : Ideal) (event : Event) (call : Call) → (noted state event call).maps ≡ cond (is_no_turn event) call.maps state.guest.tables
noted_maps state (Raise key) call = refl
noted_maps state (Up key) call = refl
noted_maps state (Down key) call = refl
noted_maps state (Touch key touching) call = refl
noted_maps state (Reach key u) call = refl
noted_maps state (Take key u) call = refl
noted_maps state (Leave key u) call = refl
noted_maps state (Enable u) call = refl
noted_maps state (Cpu u reg write) call = refl
noted_maps state (Read at) call = refl
noted_maps state (Put other value) call = refl
noted_maps state (CtlrBegin enables) call = refl
noted_maps state CtlrEnd call = refl
noted_maps state ItsBegin call = refl
noted_maps state ItsEnd call = refl
noted_maps state (Queue offset Runs) call = refl
noted_maps state (Queue offset (Done words)) call = refl
noted_maps state (Queue offset (Stalls fault)) call = refl

module _ (actor : ℕ) (maps : Maps) where
  -- once they are taken, they stay
  maps_stay : (events : List Event) (state : Ideal) (call : Call) → state.guest.tables ≡ maps → IsTrue (list_all keeps_maps events) → call.maps ≡ maps → (call_after actor events state call).maps ≡ maps
  maps_stay [] state call now all is = is
  maps_stay (event ∷ events) state call now all is =
      let parts = and_parts (keeps_maps event) (list_all keeps_maps events) all in
      maps_stay events (happened actor event state) (next_call state actor event call) (tables_are actor event state ∙ tables_kept event state.guest.tables parts.0 ∙ now) parts.1
      (noted_maps state event call ∙ of (is_no_turn event))
    where
      of : (b : Bool) → cond b call.maps state.guest.tables ≡ maps
      of true = is
      of false = now

  -- an event takes them
  pub maps_taken : (events : List Event) (state : Ideal) (call : Call) → state.guest.tables ≡ maps → IsTrue (list_all keeps_maps events) → list_any (λ event. not (is_no_turn event)) events ≡ true → (call_after actor events state call).maps ≡ maps
  maps_taken [] state call now all some = absurd (cc)
  maps_taken (event ∷ events) state call now all some =
      let parts = and_parts (keeps_maps event) (list_all keeps_maps events) all in
      let after : (happened actor event state).guest.tables ≡ maps = tables_are actor event state ∙ tables_kept event state.guest.tables parts.0 ∙ now in
      of (is_no_turn event) refl some (maps_stay events (happened actor event state) (next_call state actor event call) after parts.1) (maps_taken events (happened actor event state) (next_call state actor event call) after parts.1)
    where
      of : (b : Bool) → is_no_turn event ≡ b → (not b || list_any (λ event. not (is_no_turn event)) events) ≡ true
          → ((next_call state actor event call).maps ≡ maps → (call_after actor events (happened actor event state) (next_call state actor event call)).maps ≡ maps)
          → (list_any (λ event. not (is_no_turn event)) events ≡ true → (call_after actor events (happened actor event state) (next_call state actor event call)).maps ≡ maps)
          → (call_after actor events (happened actor event state) (next_call state actor event call)).maps ≡ maps
      of true e some stay later = later some
      of false e some stay later = stay (noted_maps state event call ∙ ap (λ b. cond b call.maps state.guest.tables) e ∙ now)
