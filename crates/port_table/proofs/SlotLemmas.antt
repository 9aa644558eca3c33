-- The slot with the tables of the ITS: at home with the guest's maps while nobody has the ITS, and with the actor that has it.
use Rattle.std.proofs.Common.{◌≡◌, ℕ, ◌<◌, ◌==◌, ◌&&◌, Bool, true, false, cond, IsTrue, List, [], ◌∷◌, ◌++◌, length, Option, Some, None, is_none, unwrap_or, refl, sym, ap, subst, ◌∙◌, arith}
use Rattle.std.proofs.lemmas.Bool.{eq-eqb, and_parts}
use Rattle.std.proofs.lemmas.Grind.{fold-append}
use Rattle.std.proofs.lemmas.Option.{same_Some}
use Rattle.std.proofs.lemmas.List.{get_or-set_same}
use mathlib.Core.Option.{Option as Slot, some}
use lib.ListN.{get_elem?}
use Rattle.atomic_table.proofs.Lists.{set_here}
use Rattle.atomic_table.specs.Table.{Act, rest, put_back, Valid, homes_after, carried_after}
use Rattle.port_ops.specs.Words.{GuestShape, IsShape, is_number, irq_of}
use Rattle.port_ops.specs.Registers.{queue_of, Maps}
use Rattle.port_ops.specs.PortCore.declared.local.Local.{Local}
use Rattle.port_ops.specs.PortCore.declared.local.Phase.TheVariants.{Folding}
use Rattle.port_ops.specs.PortCore.declared.run.Made.{Made}
use Rattle.port_ops.specs.PortCore.declared.step.CoreStep.{CoreStep}
use Rattle.port_ops.specs.PortCore.declared.step.CoreStep.TheVariants.{Look, Claim, Poll, Touch, RamPut, CtlrTake, TurnTake, TurnRelease, LineEnter, LineFill, LineClose}
use Rattle.port_ops.specs.PortCore.CoreWords.declared.word_id.WordId.TheVariants.{Irq, Queue, Line}
use Rattle.port_ops.specs.PortCore.Actor.{actor_count}
use Rattle.port_ops.specs.PortCore.After.{is_settled_by_look, accessed, local_done, local_after}
use Rattle.port_ops.specs.PortCore.Condition.{Meets}
use Rattle.port_ops.specs.PortCore.Effect.{succeeds}
use Rattle.port_ops.specs.PortCore.Forms.{vcpu_of, line_of, is_empty_line}
use Rattle.port_ops.specs.PortCore.Known.{no_maps, maps_by_step, maps_after, known_maps}
use Rattle.port_ops.specs.PortCore.Local.{settled, with_shut}
use Rattle.port_ops.specs.PortCore.Port.{keeps_tables}
use Rattle.port_ops.specs.PortCore.Run.{CoreState, Seat, Takes, IsSound, after, no_seat, seat_at, word_in, handed_maps}
use Rattle.port_ops.specs.PortCore.Step.{word_of}
use Rattle.port_ops.proofs.PortCore.FrameLemmas.{seat_changed}
use Rattle.port_ops.proofs.PortCore.StepLemmas.{steps_sound}
use Rattle.port_ops.proofs.PortCore.StepMaps.{turn_stays}
use Rattle.port_ops.specs.World.{entry_in}
use Rattle.port_ops.proofs.WorldLemmas.{maps_same}
use Rattle.port_table.specs.Slot.{is_free, held, has_taken, is_release, act_by, slots_by, slots_after}

-- Who has the ITS.

-- no actor has it where the queue's word says that nobody has
pub free_means : (shape : GuestShape) (state : CoreState) (actor : ℕ) → IsSound shape state → actor < actor_count shape → IsTrue (is_free shape state) → (seat_at state actor).local.turn ≡ false
free_means shape state actor sound there free = sym (sound.ties actor Queue there refl) ∙ of (queue_of (word_in shape state Queue)).turn free
  where
    of : (turn : Option ℕ) → is_none turn ≡ true → is_number actor turn ≡ false
    of None e = refl
    of (Some n) e = absurd (cc)

-- and it says so where no actor has it
pub free_where : (shape : GuestShape) (state : CoreState) → IsSound shape state → ((actor : ℕ) → actor < actor_count shape → (seat_at state actor).local.turn ≡ false) → IsTrue (is_free shape state)
free_where shape state sound idle = of (queue_of (word_in shape state Queue)).turn refl
  where
    of : (turn : Option ℕ) → (queue_of (word_in shape state Queue)).turn ≡ turn → is_none turn ≡ true
    of None e = refl
    of (Some n) e =
        let there = (sound.words Queue refl).1 n e in
        let yes : is_number n (queue_of (word_in shape state Queue)).turn ≡ true = ap (is_number n) e ∙ eq-eqb n n refl in
        let both : true ≡ false = sym yes ∙ sound.ties n Queue there refl ∙ idle n there in
        absurd (cc)

-- Steps that give the ITS back.

release_has : (shape : GuestShape) (actor : ℕ) (local : Local) (own : List Made) (step : CoreStep) → is_release step ≡ true → Meets shape actor local own step → IsTrue local.turn
release_has shape actor local own TurnRelease e meets = meets
release_has shape actor local own step e meets = absurd (cc)

release_here : (taken : Bool) (step : CoreStep) → is_release step ≡ true → IsTrue (keeps_tables taken step) → taken ≡ false
release_here true TurnRelease e may = absurd (cc)
release_here false TurnRelease e may = refl
release_here taken step e may = absurd (cc)

release_maps : (maps : Maps) (step : CoreStep) → is_release step ≡ true → maps_by_step maps step ≡ maps
release_maps maps TurnRelease e = refl
release_maps maps step e = absurd (cc)

release_ends : (shape : GuestShape) (actor : ℕ) (local : Local) (step : CoreStep) (found : ℕ) → is_release step ≡ true → (local_after shape actor local step found).turn ≡ false
release_ends shape actor local TurnRelease found e = refl
release_ends shape actor local step found e = absurd (cc)

other_keeps : (step : CoreStep) → is_release step ≡ false → IsTrue (keeps_tables true step)
other_keeps TurnRelease e = absurd (cc)
other_keeps step e = refl

-- Steps that take it.

record Taking (shape : GuestShape) (state : CoreState) (actor : ℕ) (step : CoreStep) (found : ℕ) (maps : Maps) : Type 0 where
  free : IsTrue (is_free shape state)
  maps_are : maps ≡ state.maps
  turn : IsTrue (local_after shape actor (seat_at state actor).local step found).turn

taking :
    (shape : GuestShape) (state : CoreState) (actor : ℕ) (step : CoreStep) (found : ℕ) (maps : Maps) → found ≡ word_in shape state (word_of shape actor step) → handed_maps shape actor state step found ≡ Some maps → Taking shape state actor step found maps
taking shape state actor (TurnTake seen) found maps at e = of (succeeds shape actor (seat_at state actor).local (TurnTake seen) found) refl e
  where
    of : (b : Bool) → succeeds shape actor (seat_at state actor).local (TurnTake seen) found ≡ b → cond {A = Option Maps} b (Some state.maps) None ≡ Some maps → Taking shape state actor (TurnTake seen) found maps
    of false is e = absurd (cc)
    of true is e =
        record {
          free = ap (λ n. is_none (queue_of n).turn) (sym at) ∙ (and_parts (found == seen) (is_none (queue_of found).turn) is).1;
          maps_are = sym (same_Some state.maps maps e);
          turn = ap (λ b. (cond b (record (seat_at state actor).local { turn = true }) (seat_at state actor).local).turn) is;
        }
taking shape state actor step found maps at e = absurd (cc)

-- Steps that do neither.

kept_idle : (b : Bool) (done local : Local) → done.turn ≡ local.turn → local.turn ≡ false → (cond b done local).turn ≡ false
kept_idle true done local e idle = e ∙ idle
kept_idle false done local e idle = idle

-- whoever has not the ITS has it not after a step that hands out no maps
stays_idle : (shape : GuestShape) (state : CoreState) (actor : ℕ) (step : CoreStep) (found : ℕ) → handed_maps shape actor state step found ≡ None → (seat_at state actor).local.turn ≡ false → (local_after shape actor (seat_at state actor).local step found).turn ≡ false
stays_idle shape state actor (TurnTake seen) found e idle = of (succeeds shape actor (seat_at state actor).local (TurnTake seen) found) e
  where
    of : (b : Bool) → cond {A = Option Maps} b (Some state.maps) None ≡ None → (cond b (record (seat_at state actor).local { turn = true }) (seat_at state actor).local).turn ≡ false
    of true e = absurd (cc)
    of false e = idle
stays_idle shape state actor (Look (Irq key)) found e idle =
    let local = (seat_at state actor).local in
    kept_idle (is_settled_by_look shape actor (irq_of found)) (record local { cands = settled shape actor key local.cands }) local refl idle
stays_idle shape state actor (Claim key seen) found e idle = let local = (seat_at state actor).local in kept_idle (succeeds shape actor local (Claim key seen) found) (local_done shape actor local (Claim key seen) found) local refl idle
stays_idle shape state actor (Poll (Some reg) write) found e idle = let local = (seat_at state actor).local in kept_idle (vcpu_of found).kick (record local { phase = Folding }) (accessed reg write local) refl idle
stays_idle shape state actor (Touch key seen kind) found e idle = let local = (seat_at state actor).local in kept_idle (succeeds shape actor local (Touch key seen kind) found) (local_done shape actor local (Touch key seen kind) found) local refl idle
stays_idle shape state actor (RamPut index seen value) found e idle = let local = (seat_at state actor).local in kept_idle (succeeds shape actor local (RamPut index seen value) found) local local refl idle
stays_idle shape state actor (CtlrTake seen value) found e idle = let local = (seat_at state actor).local in kept_idle (succeeds shape actor local (CtlrTake seen value) found) (record local { ctlr = true }) local refl idle
stays_idle shape state actor TurnRelease found e idle = refl
stays_idle shape state actor (Look (Line number)) found e idle =
    let local = (seat_at state actor).local in
    kept_idle (local.turn && is_empty_line (line_of found)) (with_shut number local) local refl idle
stays_idle shape state actor (Look word) found e idle = idle
stays_idle shape state actor (LineEnter number seen) found e idle = let local = (seat_at state actor).local in kept_idle (succeeds shape actor local (LineEnter number seen) found) (local_done shape actor local (LineEnter number seen) found) local refl idle
stays_idle shape state actor (LineFill number device event lpi) found e idle =
    let local = (seat_at state actor).local in
    kept_idle (succeeds shape actor local (LineFill number device event lpi) found) (local_done shape actor local (LineFill number device event lpi) found) local refl idle
stays_idle shape state actor (LineClose number) found e idle = let local = (seat_at state actor).local in kept_idle ((line_of found).inside == 0) (with_shut number local) local refl idle
stays_idle shape state actor step found e idle = idle

-- A step of an actor, whose seat holds the slot where the actor has the ITS.
module _
    (shape : GuestShape) (state : CoreState) (actor : ℕ) (step : CoreStep) (found : ℕ) (is : IsShape shape) (sound : IsSound shape state) (takes_it : Takes shape state (entry_in shape state actor step found)) (homes : List (Slot (Option Maps)))
    (slots : List (ℕ × Option Maps)) (each : length homes ≡ 1) (home : IsTrue (is_free shape state) → get_elem? homes 0 ≡ some (some (Some state.maps)))
    (holds : slots ≡ held (seat_at state actor).local.turn (has_taken slots) (known_maps (seat_at state actor).own)) (may : IsTrue (keeps_tables (has_taken slots) step)) where
  abbrev seat : Seat
  seat = seat_at state actor

  abbrev made : Made
  made = (entry_in shape state actor step found).made

  abbrev later : Local
  later = local_after shape actor seat.local step found

  abbrev next : Seat
  next = record { local = later; own = seat.own ++ made ∷ [] }

  abbrev then : CoreState
  then = after shape state (entry_in shape state actor step found)

  abbrev tables : Option Maps
  tables = handed_maps shape actor state step found

  abbrev act : Act (Option Maps)
  act = act_by (is_release step) tables

  then_sound : IsSound shape then
  then_sound = steps_sound shape state (entry_in shape state actor step found) is sound takes_it

  has_seat : actor < length state.seats
  has_seat = subst (λ n. actor < n) (sym sound.actors) takes_it.actor

  seat_then : seat_at then actor ≡ next
  seat_then = get_or-set_same state.seats actor next no_seat has_seat

  -- the maps that the actor knows then
  known_then : known_maps (seat.own ++ made ∷ []) ≡ unwrap_or tables (maps_by_step (known_maps seat.own) step)
  known_then = fold-append maps_after no_maps seat.own (made ∷ [])

  -- nobody had the ITS before, where nobody has it then and it was not given back
  free_before : is_release step ≡ false → IsTrue (is_free shape then) → IsTrue (is_free shape state)
  free_before other free =
      free_where shape state sound
      (λ n there.
      seat_changed state.seats actor n next (λ m one. one.local.turn ≡ false → (seat_at state m).local.turn ≡ false) has_seat (λ idle. was seat.local.turn refl idle) (λ differ idle. idle) (free_means shape then n then_sound there free))
    where
      was : (b : Bool) → seat.local.turn ≡ b → later.turn ≡ false → seat.local.turn ≡ false
      was false e idle = e
      was true e idle = let both : true ≡ false = sym (turn_stays shape actor seat.local step found (other_keeps step other) e) ∙ idle in absurd (cc)

  -- what the seat holds where its actor gives the ITS back
  holds_it : is_release step ≡ true → slots ≡ (0, Some (known_maps seat.own)) ∷ []
  holds_it e =
      holds
      ∙ ap (λ b. held b (has_taken slots) (known_maps seat.own)) (release_has shape actor seat.local seat.own step e takes_it.meets)
      ∙ ap (λ b. held true b (known_maps seat.own)) (release_here (has_taken slots) step e may)

  -- while nobody has the ITS the seat holds nothing
  holds_none : seat.local.turn ≡ false → slots ≡ []
  holds_none idle = holds ∙ ap (λ b. held b (has_taken slots) (known_maps seat.own)) idle

  -- the slot is there to be taken
  pub slot_valid : Valid homes slots act
  slot_valid = of (is_release step) tables refl
    where
      of : (b : Bool) (t : Option Maps) → tables ≡ t → Valid homes slots (act_by b t)
      of true t e = tt
      of false None e = tt
      of false (Some maps) e = let takes = taking shape state actor step found maps takes_it.found e in home takes.free ∙ ap (λ m. some (some (Some m))) (sym takes.maps_are)

  -- it is at home with the maps where nobody has the ITS then
  pub slot_home : IsTrue (is_free shape then) → get_elem? (homes_after homes slots act) 0 ≡ some (some (Some then.maps))
  slot_home free = of (is_release step) refl tables refl
    where
      of : (b : Bool) → is_release step ≡ b → (t : Option Maps) → tables ≡ t → get_elem? (homes_after homes slots (act_by b t)) 0 ≡ some (some (Some then.maps))
      of true released t e =
          let known = sound.known actor takes_it.actor (release_has shape actor seat.local seat.own step released takes_it.meets) ∙ sym (release_maps state.maps step released) in
          ap (λ s. get_elem? (put_back homes s) 0) (holds_it released) ∙ set_here homes 0 (some (Some (known_maps seat.own))) (omega (arith, each)) ∙ ap (λ m. some (some (Some m))) known
      of false other None e =
          let free_then = free_before other free in
          let nothing : slots ≡ [] = holds_none (free_means shape state actor sound takes_it.actor free_then) in
          home free_then ∙ ap (λ m. some (some (Some m))) (sym (maps_same state.maps step (subst (λ s. IsTrue (keeps_tables (has_taken s) step)) nothing may)))
      of false other (Some maps) e =
          let takes = taking shape state actor step found maps takes_it.found e in
          let both : true ≡ false = sym takes.turn ∙ sym (ap (λ s. s.local.turn) seat_then) ∙ free_means shape then actor then_sound takes_it.actor free in
          absurd (cc)

  -- the seat holds it then as its actor has the ITS
  pub slot_held : slots_after step tables slots ≡ held later.turn (has_taken (slots_after step tables slots)) (known_maps (seat.own ++ made ∷ []))
  slot_held = of (is_release step) refl tables refl
    where
      stays : is_release step ≡ false → tables ≡ None → (b : Bool) → seat.local.turn ≡ b → slots ≡ held later.turn (has_taken slots) (known_maps (seat.own ++ made ∷ []))
      stays other e false idle = holds_none idle ∙ sym (ap (λ b. held b (has_taken slots) (known_maps (seat.own ++ made ∷ []))) (stays_idle shape state actor step found e idle))
      stays other e true has =
          holds
          ∙ ap (λ b. held b (has_taken slots) (known_maps seat.own)) has
          ∙ same (has_taken slots) may
          ∙ sym (ap (λ b. held b (has_taken slots) (known_maps (seat.own ++ made ∷ []))) (turn_stays shape actor seat.local step found (other_keeps step other) has))
        where
          same : (taken : Bool) → IsTrue (keeps_tables taken step) → held true taken (known_maps seat.own) ≡ held true taken (known_maps (seat.own ++ made ∷ []))
          same true keeps_it = refl
          same false keeps_it =
              ap (held true false) (sym (known_then ∙ ap (λ t. unwrap_or t (maps_by_step (known_maps seat.own) step)) e ∙ maps_same (known_maps seat.own) step keeps_it))

      of : (b : Bool) → is_release step ≡ b → (t : Option Maps) → tables ≡ t → slots_by b t slots ≡ held later.turn (has_taken (slots_by b t slots)) (known_maps (seat.own ++ made ∷ []))
      of true released t e =
          ap rest (holds_it released) ∙ sym (ap (λ b. held b (has_taken (rest slots)) (known_maps (seat.own ++ made ∷ []))) (release_ends shape actor seat.local step found released))
      of false other None e = stays other e seat.local.turn refl
      of false other (Some maps) e =
          let takes = taking shape state actor step found maps takes_it.found e in
          let nothing : slots ≡ [] = holds_none (free_means shape state actor sound takes_it.actor takes.free) in
          let known : known_maps (seat.own ++ made ∷ []) ≡ maps = known_then ∙ ap (λ t. unwrap_or t (maps_by_step (known_maps seat.own) step)) e in
          ap (λ s. (0, Some maps) ∷ s) nothing ∙ ap (λ m. (0, Some m) ∷ []) (sym known) ∙ sym (ap (λ b. held b false (known_maps (seat.own ++ made ∷ []))) takes.turn)

  -- a step leaves whether the tables are taken out of it
  pub slot_taken : has_taken (slots_after step tables slots) ≡ has_taken slots
  slot_taken = of (is_release step) refl tables refl
    where
      of : (b : Bool) → is_release step ≡ b → (t : Option Maps) → tables ≡ t → has_taken (slots_by b t slots) ≡ has_taken slots
      of true released t e = ap (λ s. has_taken (rest s)) (holds_it released) ∙ sym (ap has_taken (holds_it released))
      of false other None e = refl
      of false other (Some maps) e =
          let takes = taking shape state actor step found maps takes_it.found e in
          sym (ap has_taken (holds_none (free_means shape state actor sound takes_it.actor takes.free)))

-- what an act makes of what a seat holds
pub carried_is : (b : Bool) (maps : Option Maps) (slots : List (ℕ × Option Maps)) → carried_after slots (act_by b maps) ≡ slots_by b maps slots
carried_is true maps slots = refl
carried_is false None slots = refl
carried_is false (Some maps) slots = refl
