-- The events of a command go by the vCPUs that the LPIs are for as it begins.
use Rattle.std.proofs.Common.{◌≡◌, ℕ, Bool, true, false, cond, List, [], ◌∷◌, ◌++◌, map, filter, Option, Some, None, is_none, Result, Ok, Err, refl, sym, ap, ◌∙◌}
use Rattle.std.proofs.lemmas.List.{map-append}
use Rattle.law_home_commutes.specs.Words.{GuestShape, is_number, Lpi}
use Rattle.law_home_commutes.specs.ItsCmd.Command.{decoded}
use Rattle.law_home_commutes.specs.Registers.{BadCommand, Command, Movi, Int, Clear, Sync, Mapd, Mapc, Mapti, Mapi, Inv, Invall, Movall, Discard, Maps, id_of, target_of, is_enabled, priority_of}
use Rattle.law_home_commutes.specs.Calls.{Part, Map, Clear as ClearLpi, Event, Touch, lpis_of, config_byte, lpis_of_device, lpis_of_collection, lpis_for, each, for_one, parts, lpi_event}
use Rattle.law_home_commutes.specs.GicCall.declared.command.Part.TheVariants.{Forget, Retarget, Raise, Configure}
use Rattle.law_home_commutes.specs.GicCall.declared.touch.Touching.TheVariants.{Configure as ConfigureLpi}
use Rattle.law_home_commutes.specs.Histories.{IdealGuest, view_of}
use Rattle.law_lone_calls_are_eager.proofs.MomentLemmas.{target_at}

-- the parts of what was decoded
abbrev pub parts_by : GuestShape → Maps → (ℕ → Option ℕ) → Result Command BadCommand → List Part
parts_by shape maps targets (Ok command) = parts shape maps targets command
parts_by shape maps targets (Err bad) = []

module _ (shape : GuestShape) (guest : IdealGuest) (targets : ℕ → Option ℕ) (same : (id : ℕ) → targets id ≡ target_at guest id) where
  abbrev event_by : (ℕ → Option ℕ) → Part → Event
  event_by by part = lpi_event shape (view_of guest) by part

  abbrev events_by : (ℕ → Option ℕ) → List Part → List Event
  events_by by ps = map (event_by by) ps

  -- Parts that are the same by both.

  each_same : (ids : List ℕ) (part : ℕ → Part) → ((id : ℕ) → event_by targets (part id) ≡ event_by (target_at guest) (part id)) → events_by targets (each ids part) ≡ events_by (target_at guest) (each ids part)
  each_same [] part same = refl
  each_same (id ∷ ids) part same = ap (λ e. e ∷ events_by targets (each ids part)) (same id) ∙ ap (λ es. event_by (target_at guest) (part id) ∷ es) (each_same ids part same)

  one_same : (id : Option ℕ) (part : ℕ → Part) → ((id : ℕ) → event_by targets (part id) ≡ event_by (target_at guest) (part id)) → events_by targets (for_one id part) ≡ events_by (target_at guest) (for_one id part)
  one_same None part same = refl
  one_same (Some id) part same = ap (λ e. e ∷ []) (same id)

  both_same : (first next : List Part) → events_by targets first ≡ events_by (target_at guest) first → events_by targets next ≡ events_by (target_at guest) next → events_by targets (first ++ next) ≡ events_by (target_at guest) (first ++ next)
  both_same first next one two = map-append (event_by targets) first next ∙ ap (λ es. es ++ events_by targets next) one ∙ ap (λ es. events_by (target_at guest) first ++ es) two ∙ sym (map-append (event_by (target_at guest)) first next)

  filter_same : (p q : ℕ → Bool) (ids : List ℕ) → ((id : ℕ) → p id ≡ q id) → filter p ids ≡ filter q ids
  filter_same p q [] same = refl
  filter_same p q (id ∷ ids) same = ap (λ b. cond b (id ∷ filter p ids) (filter p ids)) (same id) ∙ ap (λ xs. cond (q id) (id ∷ xs) xs) (filter_same p q ids same)

  configure_same : (id : ℕ) → event_by targets (Configure id) ≡ event_by (target_at guest) (Configure id)
  configure_same id = ap (λ t. let byte = config_byte shape (view_of guest) t id in Touch (Lpi id) (ConfigureLpi (is_enabled byte) (priority_of byte))) (same id)

  -- Each command.
  command_agrees : (maps : Maps) (command : Command) → events_by targets (parts shape maps targets command) ≡ events_by (target_at guest) (parts shape maps (target_at guest) command)
  command_agrees maps (Mapd device size itt_addr valid) = each_same (lpis_of_device maps device) Forget (λ id. refl)
  command_agrees maps (Mapc icid rdbase true) = each_same (lpis_of_collection shape maps icid) (λ id. Retarget id (Some rdbase)) (λ id. refl)
  command_agrees maps (Mapc icid rdbase false) = of (is_none (target_of maps icid))
    where
      of : (b : Bool) → events_by targets (cond b [] (each (lpis_of_collection shape maps icid) (λ id. Retarget id None))) ≡ events_by (target_at guest) (cond b [] (each (lpis_of_collection shape maps icid) (λ id. Retarget id None)))
      of true = refl
      of false = each_same (lpis_of_collection shape maps icid) (λ id. Retarget id None) (λ id. refl)
  command_agrees maps (Mapti device event id icid) =
      both_same (for_one (id_of maps (device, event)) Forget) (for_one (target_of maps icid) (Map id)) (one_same (id_of maps (device, event)) Forget (λ i. refl)) (one_same (target_of maps icid) (Map id) (λ i. refl))
  command_agrees maps (Mapi device event icid) =
      both_same (for_one (id_of maps (device, event)) Forget) (for_one (target_of maps icid) (Map event)) (one_same (id_of maps (device, event)) Forget (λ i. refl)) (one_same (target_of maps icid) (Map event) (λ i. refl))
  command_agrees maps (Movi device event icid) = one_same (id_of maps (device, event)) (λ id. Retarget id (target_of maps icid)) (λ id. refl)
  command_agrees maps (Int device event) = one_same (id_of maps (device, event)) Raise (λ id. refl)
  command_agrees maps (Clear device event) = one_same (id_of maps (device, event)) ClearLpi (λ id. refl)
  command_agrees maps (Discard device event) = one_same (id_of maps (device, event)) Forget (λ id. refl)
  command_agrees maps (Inv device event) = one_same (id_of maps (device, event)) Configure configure_same
  command_agrees maps (Invall icid) = each_same (lpis_of_collection shape maps icid) Configure configure_same
  command_agrees maps (Movall one other) =
      each_same (lpis_for shape targets one) (λ id. Retarget id (Some other)) (λ id. refl)
      ∙ ap (λ ids. events_by (target_at guest) (each ids (λ id. Retarget id (Some other))))
      (filter_same (λ id. is_number one (targets id)) (λ id. is_number one (target_at guest id)) (lpis_of shape) (λ id. ap (is_number one) (same id)))
  command_agrees maps (Sync rdbase) = refl

  pub result_agrees : (maps : Maps) (result : Result Command BadCommand) (b : Bool) → events_by targets (cond b (parts_by shape maps targets result) []) ≡ events_by (target_at guest) (cond b (parts_by shape maps (target_at guest) result) [])
  result_agrees maps (Ok command) true = command_agrees maps command
  result_agrees maps (Err bad) true = refl
  result_agrees maps result false = refl
