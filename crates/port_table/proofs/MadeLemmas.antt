-- What an actor's port knows after a step.
use Rattle.std.proofs.Common.{◌≡◌, ℕ, ◌<◌, ◌&&◌, IsTrue, IfSome, [], ◌∷◌, ◌++◌, Option, Some, is_some, refl, sym, ap, subst, ◌∙◌}
use mathlib.Core.Option.{some}
use Rattle.atomic_table.specs.Table.{Me}
use Rattle.port_ops.specs.Registers.{IsValid as IsValidMaps, Maps}
use Rattle.port_ops.specs.PortCore.IdealGuests.CanOpen.{CanOpen}
use Rattle.port_ops.specs.PortCore.declared.local.Local.{Local}
use Rattle.port_ops.specs.PortCore.declared.run.Entry.{Entry}
use Rattle.port_ops.specs.PortCore.declared.run.Made.{Made}
use Rattle.port_ops.specs.PortCore.declared.step.CoreStep.{CoreStep}
use Rattle.port_ops.specs.PortCore.Actor.{actor_count}
use Rattle.port_ops.specs.PortCore.After.{local_after}
use Rattle.port_ops.specs.PortCore.Effect.{succeeds, word_after}
use Rattle.port_ops.specs.PortCore.Known.{known_maps}
use Rattle.port_ops.specs.PortCore.Port.{keeps_tables, local_by}
use Rattle.port_ops.specs.PortCore.Run.{CoreState, Seat, IsSound, opening_local_of, seat_at, is_taking, own_steps}
use Rattle.port_ops.specs.PortCore.Step.{word_of}
use Rattle.port_ops.specs.PortCore.Valid.{IsLocal, CanFind}
use Rattle.port_ops.proofs.PortCore.PortLemmas.{local_joins}
use Rattle.port_ops.proofs.PortCore.StepLemmas.{found_valid, entry_keeps, local_kept, tables_handed, tables_valid}
use Rattle.port_ops.specs.declared.opened.Opened.{Opened}
use Rattle.port_ops.specs.World.{state_after, entry_in}
use Rattle.port_ops.proofs.WorldLemmas.{sound_after}
use Rattle.port_table.specs.declared.view.View.{View}
use Rattle.port_table.specs.declared.view.View.TheVariants.{Out}
use Rattle.port_table.specs.Rule.{IsMade, local_of}
use Rattle.port_table.specs.Slot.{held, has_taken, slots_after}
use Rattle.port_table.specs.View.{own_of}
use Rattle.port_table.proofs.RuleLemmas.{seat_of, seat_of_run}
use Rattle.port_table.proofs.SlotLemmas.{slot_held, slot_taken}

module _
    (opened : Opened) (actor : ℕ) (step : CoreStep) (local : Local) (before : Me (Option Maps) View) (found : ℕ) (later : Me (Option Maps) View) (good : CanOpen opened.guest) (there : actor < actor_count opened.guest.shape)
    (made : local ≡ local_of opened actor (own_of before.0)) (holds : before.1 ≡ held local.turn (has_taken before.1) (known_maps (own_of before.0))) (may : IsTrue (keeps_tables (has_taken before.1) step))
    (is : IsMade opened actor step before found later) where
  abbrev state : CoreState
  state = state_after opened.guest opened.number is.world

  abbrev entry : Entry
  entry = entry_in opened.guest.shape state actor step found

  sound : IsSound opened.guest.shape state
  sound = sound_after opened is.world good is.run

  own_is : own_of before.0 ≡ own_steps actor is.world
  own_is = ap own_of is.knew

  -- the actor in the world is the one that the port knows
  seat_is : seat_at state actor ≡ seat_of opened actor (own_of before.0)
  seat_is = seat_of_run opened is.world actor good there is.run ∙ sym (ap (seat_of opened actor) own_is)

  local_is : (seat_at state actor).local ≡ local
  local_is = ap (λ (s : Seat). s.local) seat_is ∙ sym made

  here : CanFind opened.guest.shape actor (seat_at state actor).local (word_of opened.guest.shape actor step) found
  here = found_valid opened.guest.shape state entry good.sound.shape sound is.takes

  -- it found a valid word that agrees with its actor, and left one
  pub made_found : CanFind opened.guest.shape actor local (word_of opened.guest.shape actor step) found
  made_found = subst (λ l. CanFind opened.guest.shape actor l (word_of opened.guest.shape actor step) found) local_is here

  pub made_left : CanFind opened.guest.shape actor (local_after opened.guest.shape actor local step found) (word_of opened.guest.shape actor step) (word_after opened.guest.shape actor local step found)
  made_left =
      let kept = entry_keeps opened.guest.shape state entry good.sound.shape sound is.takes in
      subst (λ l. CanFind opened.guest.shape actor (local_after opened.guest.shape actor l step found) (word_of opened.guest.shape actor step) (word_after opened.guest.shape actor l step found)) local_is (record { valid = kept.valid; ties = kept.here })

  -- what the actor has for itself is valid, and as its steps made it
  pub made_valid : IsLocal opened.guest.shape actor (local_after opened.guest.shape actor local step found)
  made_valid = subst (λ l. IsLocal opened.guest.shape actor (local_after opened.guest.shape actor l step found)) local_is (local_kept opened.guest.shape state entry good.sound.shape sound is.takes)

  -- the step in the actor's list
  abbrev made_of : Local → Made
  made_of l = record { step = step; found = found; left = word_after opened.guest.shape actor l step found; tables = entry.made.tables }

  pub made_own : own_of later.0 ≡ own_of before.0 ++ made_of local ∷ []
  made_own = ap own_of is.knows ∙ ap (λ o. o ++ entry.made ∷ []) (sym own_is) ∙ ap (λ l. own_of before.0 ++ made_of l ∷ []) local_is

  pub made_view : later.0 ≡ Out actor (own_of later.0)
  made_view = is.knows ∙ ap (Out actor) (sym (ap own_of is.knows))

  pub made_local : local_after opened.guest.shape actor local step found ≡ local_of opened actor (own_of later.0)
  made_local =
      let opens = opening_local_of opened.guest opened.number actor in
      let shape = opened.guest.shape in
      ap (λ l. local_after shape actor l step found) made
      ∙ sym (local_joins shape actor opens (own_of before.0) (made_of local ∷ []))
      ∙ ap (local_by shape actor opens) (sym made_own)

  -- the seat holds the slot where the actor has the ITS
  holds_now : before.1 ≡ held (seat_at state actor).local.turn (has_taken before.1) (known_maps (seat_at state actor).own)
  holds_now = holds ∙ ap (λ l. held l.turn (has_taken before.1) (known_maps (own_of before.0))) (sym local_is) ∙ ap (λ (s : Seat). held (seat_at state actor).local.turn (has_taken before.1) (known_maps s.own)) (sym seat_is)

  pub made_held : later.1 ≡ held (local_after opened.guest.shape actor local step found).turn (has_taken later.1) (known_maps (own_of later.0))
  made_held =
      let shape = opened.guest.shape in
      let own : (seat_at state actor).own ++ entry.made ∷ [] ≡ own_of later.0 = ap (λ (s : Seat). s.own ++ entry.made ∷ []) seat_is ∙ ap (λ o. o ++ entry.made ∷ []) own_is ∙ sym (ap own_of is.knows) in
      subst (λ slots. slots ≡ held (local_after shape actor local step found).turn (has_taken slots) (known_maps (own_of later.0))) (sym is.holds)
      (slot_held shape state actor step found good.sound.shape sound is.takes (some (Some state.maps) ∷ []) before.1 refl (λ free. refl) holds_now may
      ∙ ap (λ l. held (local_after shape actor l step found).turn (has_taken (slots_after step entry.made.tables before.1)) (known_maps ((seat_at state actor).own ++ entry.made ∷ []))) local_is
      ∙ ap (λ o. held (local_after shape actor local step found).turn (has_taken (slots_after step entry.made.tables before.1)) (known_maps o)) own)

  -- and whether the tables are taken out of it stays
  pub made_taken : has_taken later.1 ≡ has_taken before.1
  made_taken = ap has_taken is.holds ∙ slot_taken opened.guest.shape state actor step found good.sound.shape sound is.takes (some (Some state.maps) ∷ []) before.1 refl (λ free. refl) holds_now may

  -- what the step handed out
  pub made_handed : is_some entry.made.tables ≡ (is_taking step && succeeds opened.guest.shape actor local step found)
  made_handed = tables_handed opened.guest.shape state entry is.takes ∙ ap (λ l. is_taking step && succeeds opened.guest.shape actor l step found) local_is

  pub made_maps : IfSome entry.made.tables (IsValidMaps opened.guest.shape)
  made_maps = tables_valid opened.guest.shape state entry sound is.takes
