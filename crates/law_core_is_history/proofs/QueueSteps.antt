-- The ITS's queue goes on: a command ends, or a register's write moves it.
use Rattle.std.proofs.Common.{◌≡◌, ◌≢◌, ℕ, ◌<◌, ◌==◌, Bool, true, false, cond, IsTrue, List, [], slice_index_or, Option, Some, None, unwrap_or, arith, true≢false, refl, sym, ap, ◌∙◌, subst, length, inl, inr}
use Rattle.std.proofs.lemmas.Bool.{ltb-true, eqb-true, eq-eqb}
use Rattle.law_lines_translate.specs.Words.{GuestShape, is_number, Key, irq_of}
use Rattle.law_lines_translate.specs.Calls.{PlainWord, Fault, has_plain, plain_count, plain_at, place_of_plain, Runs, Done, Stalls, maps_done, queue_event, next_offset, command_words, View, IsOffset, CanHappen, HappensFreely, irq_in, opening_cpu}
use Rattle.law_lines_translate.specs.GicCall.declared.event.Event.TheVariants.{Queue as QueueEvent}
use Rattle.law_histories.specs.ItsCmd.Command.{decoded}
use Rattle.law_lines_translate.specs.Registers.{fault_number, QueueWord, queue_of, Maps, CpuRec}
use Rattle.std.specs.Option.{option_map_or}
use Rattle.std.proofs.lemmas.List.{get_or-set_same, get_or-set_other, length-set}
use Rattle.law_lines_translate.proofs.GicCall.CommandLemmas.{queue_valid}
use Rattle.law_lines_translate.specs.Histories.{IdealGuest, irq_at, cpu_at, word_at, with_word, after_queue, Ideal}
use Rattle.law_lines_translate.specs.Core.{Local, CommandDone, WordId, Irq as IrqWord, Vcpu, Queue, Ctlr, Plain, Index, Line, fault_place, known_fault, known_view, maps_by_step, has_word, CoreState, seat_at, word_in, after}
use Rattle.law_lines_translate.proofs.PortCore.StepTies.{few_actors}
use Rattle.law_lines_translate.proofs.PortCore.StepWords.{queue_back, queue_fits}
use Rattle.law_core_is_history.specs.Known.{IsKnown}
use Rattle.law_core_is_history.specs.Related.{WordSays, SeatSays, Related, IsIrqRelated, IsCpuRelated, locals_of}
use Rattle.law_core_is_history.specs.Simulates.{IsSimulated}
use Rattle.law_core_is_history.proofs.PutSteps.{plain_back}
use Rattle.law_core_is_history.proofs.RelatedLemmas.{locals_after, at_kept, says_same, frame_of_words, HasPlaces, places_of}
use Rattle.law_core_is_history.proofs.StepContext.{one, IsStep, has, finds, says_found}

-- what a queue's step keeps of the ideal controller: all but the queue and the maps, and of the plain words all but the number of a fault
record SameButQueue (shape : GuestShape) (before later : Ideal) : Type 0 where
  pub irqs : later.guest.irqs ≡ before.guest.irqs
  pub shape_is : later.guest.shape ≡ before.guest.shape
  pub cpus : later.guest.cpus ≡ before.guest.cpus
  pub enables : later.guest.enables ≡ before.guest.enables
  pub spreads : later.spreads ≡ before.spreads
  pub at : later.at ≡ before.at
  pub each : length later.guest.words ≡ length before.guest.words
  pub stored : (index : ℕ) → index < plain_count shape → (index == fault_place shape) ≡ false → word_at later.guest (plain_at shape index) ≡ word_at before.guest (plain_at shape index)

module _ (shape : GuestShape) (before later : Ideal) (same : SameButQueue shape before later) where
  irq_stays : (key : Key) → irq_at later.guest key ≡ irq_at before.guest key
  irq_stays key = ap (λ s. irq_in s later.guest.irqs key) same.shape_is ∙ ap (λ irqs. irq_in before.guest.shape irqs key) same.irqs

  cpu_stays : (vcpu : ℕ) → cpu_at later.guest vcpu ≡ cpu_at before.guest vcpu
  cpu_stays vcpu = ap (λ cpus. slice_index_or cpus vcpu (opening_cpu false)) same.cpus

  seat_stays : (vcpu : ℕ) (local : Local) → SeatSays before vcpu local → SeatSays later vcpu local
  seat_stays vcpu local says = record {
    at = ap (λ at. slice_index_or at vcpu []) same.at ∙ says.at;
    cpu = subst (λ c. IsCpuRelated local.cpu c) (sym (cpu_stays vcpu)) says.cpu;
    given = says.given;
  }

  places_stay : HasPlaces shape before → HasPlaces shape later
  places_stay places = record {
    shape_is = same.shape_is ∙ places.shape_is;
    irqs = ap length same.irqs ∙ places.irqs;
    cpus = ap length same.cpus ∙ places.cpus;
    words = same.each ∙ places.words;
    at = ap length same.at ∙ places.at;
  }

  -- every word but the queue's says the same, where the number of a fault is the one that is stored if the queue is stalled
  queue_elsewhere :
      (state : CoreState) (locals : ℕ → Local) → (IsTrue later.guest.is_stalled → word_at later.guest Fault ≡ word_in shape state (Plain (fault_place shape)))
      → (w : WordId) → w ≢ Queue → IsTrue (has_word shape w) → WordSays shape locals before w (word_in shape state w) → WordSays shape locals later w (word_in shape state w)
  queue_elsewhere state locals fault (IrqWord key) differ h says = subst (IsIrqRelated locals key (irq_of (word_in shape state (IrqWord key)))) (sym (irq_stays key)) says
  queue_elsewhere state locals fault (Vcpu vcpu) differ h says = ap (λ (c : CpuRec). c.lpis) (cpu_stays vcpu) ∙ says
  queue_elsewhere state locals fault Queue differ h says = absurd (differ refl)
  queue_elsewhere state locals fault Ctlr differ h says = record { enables = same.enables ∙ says.enables; spreads = same.spreads ∙ says.spreads }
  queue_elsewhere state locals fault (Plain index) differ h says = record {
    stored = λ e. same.stored index (ltb-true index (plain_count shape) h) e ∙ says.stored e;
    fault = λ e stalled. fault stalled ∙ ap (λ n. word_in shape state (Plain n)) (sym (eqb-true index (fault_place shape) e));
  }
  queue_elsewhere state locals fault (Index vcpu number) differ h says = tt
  queue_elsewhere state locals fault (Line number) differ h says = tt

-- a stall stores a number that fits a byte
fault_fits : (shape : GuestShape) (view : View) (offset fault : ℕ) → IsOffset offset → queue_event shape view ≡ QueueEvent offset (Stalls fault) → CanHappen shape (QueueEvent offset (Stalls fault))
fault_fits shape view offset fault at ends = of (fault_number shape view.maps (decoded (command_words shape view))) ends
  where
    of : (o : Option ℕ) → option_map_or (λ n. QueueEvent view.offset (Stalls n)) o (QueueEvent (next_offset view) (Done (command_words shape view))) ≡ QueueEvent offset (Stalls fault) → CanHappen shape (QueueEvent offset (Stalls fault))
    of None e = absurd (cc)
    of (Some n) e =
        let same : view.offset ≡ offset = cc in
        elim (queue_valid shape view (subst IsOffset (sym same) at)) [
          | inl free ↦ subst (HappensFreely shape) ends free
          | inr done ↦ (let other = done.is in absurd (cc))
        ]

module _ {shape : GuestShape} {state : CoreState} {ideal : Ideal} {actor found left : ℕ} {tables : Option Maps} where
  -- the ideal controller after the queue went on agrees with the core
  queue_related :
      (offset : ℕ) (stalled : Bool) (ending : Option (List ℕ)) → IsStep shape state ideal actor (CommandDone offset stalled ending) found left tables → (later : Ideal) → SameButQueue shape ideal later → later.has_its ≡ ideal.has_its → later.guest.offset ≡ offset
      → later.guest.is_stalled ≡ stalled → (IsTrue later.guest.is_stalled → word_at later.guest Fault ≡ word_in shape state (Plain (fault_place shape))) → later.guest.tables ≡ maps_by_step state.maps (CommandDone offset stalled ending)
      → Related shape (after shape state (one actor (CommandDone offset stalled ending) found left tables)) later
  queue_related offset stalled ending is later same its at stalls fault maps =
      let fits = queue_fits found (few_actors shape (queue_of found).turn is.good (finds is).valid.1) in
      let queue : queue_of left ≡ record (queue_of found) { offset = offset; stalled = stalled } = ap queue_of is.takes.left ∙ queue_back (record (queue_of found) { offset = offset; stalled = stalled }) (record { actor = fits.actor; command = is.takes.can.0.place; within = is.takes.can.0.within }) in
      let within : actor < length state.seats = subst (λ n. actor < n) (sym is.sound.actors) is.takes.actor in
      let kept = says_same shape (locals_of state) (locals_after state actor _) (at_kept state actor _ within refl) ideal in
      frame_of_words shape state ideal later actor _ Queue left (maps_by_step state.maps (CommandDone offset stalled ending)) is.good is.sound is.related is.takes.actor (has is)
      (record {
        here = record { turn = its ∙ (says_found is).turn ∙ sym (ap (λ (q : QueueWord). q.turn) queue); offset = at ∙ sym (ap (λ (q : QueueWord). q.offset) queue); stalled = stalls ∙ sym (ap (λ (q : QueueWord). q.stalled) queue) };
        elsewhere = λ w differ h says. queue_elsewhere shape ideal later same state (locals_after state actor _) fault w differ h (kept w (word_in shape state w) says);
        mine = λ l. seat_stays shape ideal later same actor (locals_of state actor) (is.related.seats actor l);
        others = λ vcpu local differ l says. seat_stays shape ideal later same vcpu local says;
      })
      maps (places_stay shape ideal later same (places_of shape state ideal is.related))

  allowed_end : (offset : ℕ) (stalled : Bool) (ending : Option (List ℕ)) → IsStep shape state ideal actor (CommandDone offset stalled ending) found left tables → is_number actor ideal.has_its ≡ true
  allowed_end offset stalled ending is = ap (is_number actor) (says_found is).turn ∙ (finds is).ties ∙ is.takes.meets.turn

  pub simulates_command_done : (offset : ℕ) (stalled : Bool) (ending : Option (List ℕ)) → IsKnown shape state → IsStep shape state ideal actor (CommandDone offset stalled ending) found left tables → IsSimulated shape state ideal (one actor (CommandDone offset stalled ending) found left tables)
  simulates_command_done offset stalled (Some words) known is =
      let later : Ideal = record ideal { guest = after_queue offset (Done words) ideal.guest } in
      record {
        can = is.takes.can.0;
        allowed = allowed_end offset stalled (Some words) is;
        hands = refl;
        related = queue_related offset stalled (Some words) is later (record { irqs = refl; shape_is = refl; cpus = refl; enables = refl; spreads = refl; at = refl; each = refl; stored = λ index l e. refl }) refl refl (sym is.takes.can.1.1)
            (λ h. absurd (true≢false (sym h))) (ap (λ m. maps_done m words) is.related.maps);
      }
  simulates_command_done offset false None known is =
      let later : Ideal = record ideal { guest = after_queue offset Runs ideal.guest } in
      record {
        can = is.takes.can.0;
        allowed = allowed_end offset false None is;
        hands = refl;
        related = queue_related offset false None is later (record { irqs = refl; shape_is = refl; cpus = refl; enables = refl; spreads = refl; at = refl; each = refl; stored = λ index l e. refl }) refl refl refl
            (λ h. absurd (true≢false (sym h))) is.related.maps;
      }
  simulates_command_done offset true None known is =
      let own = (seat_at state actor).own in
      let number = known_fault shape actor own in
      let later : Ideal = record ideal { guest = after_queue offset (Stalls number) ideal.guest } in
      let places = places_of shape state ideal is.related in
      let place : place_of_plain ideal.guest.shape Fault ≡ fault_place shape = ap (λ s. place_of_plain s Fault) places.shape_is in
      let within : place_of_plain ideal.guest.shape Fault < length ideal.guest.words = omega (arith, place, places.words) in
      let knows = (known actor is.takes.actor is.takes.meets.turn).fault is.takes.meets.queue.1 in
      record {
        can = fault_fits shape (known_view shape actor own) offset number is.takes.can.0 is.takes.meets.queue.0.ends;
        allowed = allowed_end offset true None is;
        hands = refl;
        related = queue_related offset true None is later
            (record {
              irqs = refl;
              shape_is = refl;
              cpus = refl;
              enables = refl;
              spreads = refl;
              at = refl;
              each = length-set ideal.guest.words (place_of_plain ideal.guest.shape Fault) number;
              stored = λ index l e. other_word ideal.guest number (plain_at shape index) (λ same. true≢false (sym (eq-eqb index (fault_place shape) (sym (plain_back shape index l) ∙ sym (ap (λ s. place_of_plain s (plain_at shape index)) places.shape_is) ∙ same ∙ place)) ∙ e));
            }) refl refl refl
            (λ h. get_or-set_same ideal.guest.words (place_of_plain ideal.guest.shape Fault) number 0 within ∙ ap (λ o. unwrap_or o 0) knows) is.related.maps;
      }
    where
      other_word : (guest : IdealGuest) (value : ℕ) (word : PlainWord) → (place_of_plain guest.shape word ≡ place_of_plain guest.shape Fault → ⊥) → word_at (with_word guest Fault value) word ≡ word_at guest word
      other_word guest value word differ = ap (λ n. cond (has_plain guest.shape word) n 0) (get_or-set_other guest.words (place_of_plain guest.shape Fault) (place_of_plain guest.shape word) value 0 differ)
