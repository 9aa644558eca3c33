-- Steps that take and free the mark of GICD_CTLR and the ITS.
use Rattle.std.proofs.Common.{◌≡◌, ◌≢◌, ℕ, ◌<◌, ◌==◌, Option, Some, None, is_none, unwrap_or, arith, refl, sym, ap, ◌∙◌, subst, length, slice_set}
use Rattle.std.proofs.lemmas.Bool.{and_parts}
use Rattle.law_lines_translate.specs.Words.{GuestShape, IsShape, is_number}
use Rattle.law_lines_translate.specs.Registers.{Enables, enables_in, QueueWord, queue_of, Maps}
use Rattle.law_lines_translate.specs.Histories.{Ideal}
use Rattle.law_lines_translate.specs.Core.{Local, CtlrTake, CtlrEnd, TurnTake, TurnRelease, CtlrWord, WordId, Irq as IrqWord, Vcpu, Queue, Ctlr, Plain, Index, Line, actor_count, local_after, local_done, ctlr_of, place_of_word, CoreState, Seat, after, IsSound}
use Rattle.law_lines_translate.proofs.PortCore.StepTies.{few_actors, none_is}
use Rattle.law_lines_translate.proofs.PortCore.StepWords.{queue_back, queue_fits, ctlr_back}
use Rattle.law_core_is_history.specs.Related.{WordSays, SeatSays, Related, IsQueueRelated, locals_of}
use Rattle.law_core_is_history.specs.Simulates.{IsSimulated}
use Rattle.law_core_is_history.proofs.RelatedLemmas.{locals_after, at_kept, says_same, frame, places_of}
use Rattle.law_core_is_history.proofs.StepContext.{one, IsStep, finds, says_found, seat_same}
use Rattle.law_core_is_history.proofs.TriedSteps.{tried}

-- GICD_CTLR.

abbrev pub with_ctlr : Enables → Option ℕ → Ideal → Ideal
with_ctlr enables spreads ideal = record ideal { guest = record ideal.guest { enables = enables }; spreads = spreads }

ctlr_elsewhere : (shape : GuestShape) (enables : Enables) (spreads : Option ℕ) (ideal : Ideal) (locals : ℕ → Local) (w : WordId) (n : ℕ) → w ≢ Ctlr → WordSays shape locals ideal w n → WordSays shape locals (with_ctlr enables spreads ideal) w n
ctlr_elsewhere shape enables spreads ideal locals (IrqWord key) n differ says = record { home = says.home; held = says.held }
ctlr_elsewhere shape enables spreads ideal locals (Vcpu vcpu) n differ says = says
ctlr_elsewhere shape enables spreads ideal locals Queue n differ says = record { turn = says.turn; offset = says.offset; stalled = says.stalled }
ctlr_elsewhere shape enables spreads ideal locals Ctlr n differ says = absurd (differ refl)
ctlr_elsewhere shape enables spreads ideal locals (Plain index) n differ says = record { stored = says.stored; fault = says.fault }
ctlr_elsewhere shape enables spreads ideal locals (Index vcpu number) n differ says = tt
ctlr_elsewhere shape enables spreads ideal locals (Line number) n differ says = tt

-- a step on its word that moves nothing
ctlr_event :
    (shape : GuestShape) (state : CoreState) (ideal : Ideal) (actor : ℕ) (seat : Seat) (enables : Enables) (spreads : Option ℕ) (left : ℕ) → IsShape shape → IsSound shape state → Related shape state ideal → actor < actor_count shape
    → ctlr_of left ≡ record { enables = enables; mark = spreads } → seat.local.at ≡ (locals_of state actor).at → (actor < shape.vcpus → SeatSays ideal actor seat.local)
    → Related shape (record { words = slice_set state.words (place_of_word shape Ctlr) left; seats = slice_set state.seats actor seat; maps = state.maps }) (with_ctlr enables spreads ideal)
ctlr_event shape state ideal actor seat enables spreads left is sound related there word at mine =
    let within : actor < length state.seats = subst (λ n. actor < n) (sym sound.actors) there in
    let places = places_of shape state ideal related in
    let same = says_same shape (locals_of state) (locals_after state actor seat) (at_kept state actor seat within at) in
    let after = with_ctlr enables spreads ideal in
    frame shape state ideal after actor seat Ctlr left state.maps is sound related there refl
    (record {
      here = record { enables = sym (ap (λ (c : CtlrWord). c.enables) word); spreads = sym (ap (λ (c : CtlrWord). c.mark) word) };
      elsewhere = λ w n differ h says. ctlr_elsewhere shape enables spreads ideal (locals_after state actor seat) w n differ (same ideal w n says);
      mine = λ l. let says = mine l in record { at = says.at; cpu = says.cpu; given = says.given };
      others = λ vcpu local differ l says. record { at = says.at; cpu = says.cpu; given = says.given };
    })
    related.maps (record { shape_is = places.shape_is; irqs = places.irqs; cpus = places.cpus; words = places.words; at = places.at })

-- The ITS.

abbrev pub with_its : Option ℕ → Ideal → Ideal
with_its turn ideal = record ideal { has_its = turn }

its_elsewhere : (shape : GuestShape) (turn : Option ℕ) (ideal : Ideal) (locals : ℕ → Local) (w : WordId) (n : ℕ) → w ≢ Queue → WordSays shape locals ideal w n → WordSays shape locals (with_its turn ideal) w n
its_elsewhere shape turn ideal locals (IrqWord key) n differ says = record { home = says.home; held = says.held }
its_elsewhere shape turn ideal locals (Vcpu vcpu) n differ says = says
its_elsewhere shape turn ideal locals Queue n differ says = absurd (differ refl)
its_elsewhere shape turn ideal locals Ctlr n differ says = record { enables = says.enables; spreads = says.spreads }
its_elsewhere shape turn ideal locals (Plain index) n differ says = record { stored = says.stored; fault = says.fault }
its_elsewhere shape turn ideal locals (Index vcpu number) n differ says = tt
its_elsewhere shape turn ideal locals (Line number) n differ says = tt

its_event :
    (shape : GuestShape) (state : CoreState) (ideal : Ideal) (actor : ℕ) (seat : Seat) (turn : Option ℕ) (left : ℕ) → IsShape shape → IsSound shape state → Related shape state ideal → actor < actor_count shape
    → IsQueueRelated left (with_its turn ideal) → seat.local.at ≡ (locals_of state actor).at → (actor < shape.vcpus → SeatSays ideal actor seat.local)
    → Related shape (record { words = slice_set state.words (place_of_word shape Queue) left; seats = slice_set state.seats actor seat; maps = state.maps }) (with_its turn ideal)
its_event shape state ideal actor seat turn left is sound related there here at mine =
    let within : actor < length state.seats = subst (λ n. actor < n) (sym sound.actors) there in
    let places = places_of shape state ideal related in
    let same = says_same shape (locals_of state) (locals_after state actor seat) (at_kept state actor seat within at) in
    frame shape state ideal (with_its turn ideal) actor seat Queue left state.maps is sound related there refl
    (record {
      here = here;
      elsewhere = λ w n differ h says. its_elsewhere shape turn ideal (locals_after state actor seat) w n differ (same ideal w n says);
      mine = λ l. let says = mine l in record { at = says.at; cpu = says.cpu; given = says.given };
      others = λ vcpu local differ l says. record { at = says.at; cpu = says.cpu; given = says.given };
    })
    related.maps (record { shape_is = places.shape_is; irqs = places.irqs; cpus = places.cpus; words = places.words; at = places.at })

few : (shape : GuestShape) (actor : ℕ) → IsShape shape → actor < actor_count shape → actor < 64
few shape actor is there = omega (arith, is.vcpus, is.devices, there)

module _ {shape : GuestShape} {state : CoreState} {ideal : Ideal} {actor found left : ℕ} {tables : Option Maps} where
  -- the mark is taken, with the enables that are stored
  pub simulates_ctlr_take : (seen value : ℕ) → IsStep shape state ideal actor (CtlrTake seen value) found left tables → IsSimulated shape state ideal (one actor (CtlrTake seen value) found left tables)
  simulates_ctlr_take seen value is =
      tried (CtlrTake seen value) is refl
      (λ done word.
      let free = none_is (ctlr_of found).mark (and_parts (found == seen) (is_none (ctlr_of found).mark) done).1 in
      let taken : CtlrWord = record { enables = enables_in value; mark = Some actor } in
      record {
        can = tt;
        allowed = ap is_none ((says_found is).spreads ∙ free);
        hands = refl;
        related = ctlr_event shape state ideal actor _ (enables_in value) (Some actor) left is.good is.sound is.related is.takes.actor
            (ap ctlr_of word ∙ ctlr_back taken (λ n e. subst (λ k. k < 64) (ap (λ o. unwrap_or o 0) e) (few shape actor is.good is.takes.actor))) refl
            (λ there. seat_same (locals_of state actor) (local_done shape actor (locals_of state actor) (CtlrTake seen value) found) refl refl refl (is.related.seats actor there));
      })

  -- and freed
  pub simulates_ctlr_end : IsStep shape state ideal actor CtlrEnd found left tables → IsSimulated shape state ideal (one actor CtlrEnd found left tables)
  simulates_ctlr_end is = record {
    can = tt;
    allowed = ap (is_number actor) (says_found is).spreads ∙ (finds is).ties ∙ is.takes.meets;
    hands = refl;
    related = subst (λ e. Related shape (after shape state (one actor CtlrEnd found left tables)) (record ideal { guest = record ideal.guest { enables = e }; spreads = None })) (sym (says_found is).enables)
        (ctlr_event shape state ideal actor _ (ctlr_of found).enables None left is.good is.sound is.related is.takes.actor
        (ap ctlr_of is.takes.left ∙ ctlr_back (record (ctlr_of found) { mark = None }) (λ n e. absurd (cc))) refl
        (λ there. seat_same (locals_of state actor) (local_after shape actor (locals_of state actor) CtlrEnd found) refl refl refl (is.related.seats actor there)));
  }

  -- the ITS is taken
  pub simulates_turn_take : (seen : ℕ) → IsStep shape state ideal actor (TurnTake seen) found left tables → IsSimulated shape state ideal (one actor (TurnTake seen) found left tables)
  simulates_turn_take seen is =
      tried (TurnTake seen) is refl
      (λ done word.
      let free = none_is (queue_of found).turn (and_parts (found == seen) (is_none (queue_of found).turn) done).1 in
      let fits = queue_fits found (few_actors shape (queue_of found).turn is.good (finds is).valid.1) in
      let queue : queue_of left ≡ record (queue_of found) { turn = Some actor } = ap queue_of word ∙ queue_back (record (queue_of found) { turn = Some actor }) (record { actor = λ n e. subst (λ k. k < 64) (ap (λ o. unwrap_or o 0) e) (few shape actor is.good is.takes.actor); command = fits.command; within = fits.within }) in
      record {
        can = tt;
        allowed = ap is_none ((says_found is).turn ∙ free);
        hands = refl;
        related = its_event shape state ideal actor _ (Some actor) left is.good is.sound is.related is.takes.actor
            (record { turn = sym (ap (λ (q : QueueWord). q.turn) queue); offset = (says_found is).offset ∙ sym (ap (λ (q : QueueWord). q.offset) queue); stalled = (says_found is).stalled ∙ sym (ap (λ (q : QueueWord). q.stalled) queue) }) refl
            (λ there. seat_same (locals_of state actor) (local_done shape actor (locals_of state actor) (TurnTake seen) found) refl refl refl (is.related.seats actor there));
      })

  -- and given back
  pub simulates_turn_release : IsStep shape state ideal actor TurnRelease found left tables → IsSimulated shape state ideal (one actor TurnRelease found left tables)
  simulates_turn_release is =
      let fits = queue_fits found (few_actors shape (queue_of found).turn is.good (finds is).valid.1) in
      let queue : queue_of left ≡ record (queue_of found) { turn = None } = ap queue_of is.takes.left ∙ queue_back (record (queue_of found) { turn = None }) (record { actor = λ n e. absurd (cc); command = fits.command; within = fits.within }) in
      record {
        can = tt;
        allowed = ap (is_number actor) (says_found is).turn ∙ (finds is).ties ∙ is.takes.meets;
        hands = refl;
        related = its_event shape state ideal actor _ None left is.good is.sound is.related is.takes.actor
            (record { turn = sym (ap (λ (q : QueueWord). q.turn) queue); offset = (says_found is).offset ∙ sym (ap (λ (q : QueueWord). q.offset) queue); stalled = (says_found is).stalled ∙ sym (ap (λ (q : QueueWord). q.stalled) queue) }) refl
            (λ there. seat_same (locals_of state actor) (local_after shape actor (locals_of state actor) TurnRelease found) refl refl refl (is.related.seats actor there));
      }
