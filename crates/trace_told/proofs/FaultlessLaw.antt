-- What is told is no end of a command with a fault.
use Rattle.std.proofs.Common.{◌≡◌, ℕ, Bool, true, false, cond, List, [], ◌∷◌, ◌++◌, map, Option, option_map, Some, None, is_some, refl, sym, ap, subst}
use Rattle.std.specs.Option.{option_map_or}
use Rattle.std.proofs.lemmas.Option.{none-some, same_Some, cond_some, option_and_then_some}
use Rattle.trace_read.specs.declared.trace.Act.{Act}
use Rattle.trace_read.specs.declared.trace.Act.TheVariants.{Begin as Begins, End as Ends, Reach as Reaches, Take as Takes, Leave as Leaves, Raise as Raises, Up as GoesUp, Down as GoesDown, Cpu as Accesses, Touch as Touches, Enable as Enables, Read as Reads, Put as Puts, CtlrBegin as BeginsCtlr, CtlrEnd as EndsCtlr, ItsBegin as BeginsIts, ItsEnd as EndsIts, Queue as MovesQueue}
use Rattle.legal_play.specs.Words.{Redist, Mem}
use Rattle.legal_play.specs.Registers.{fault_number}
use Rattle.legal_play.specs.LegalLists.ItsCmd.Command.{decoded}
use Rattle.legal_play.specs.Calls.{Event, Found, Moment, Happens, Operation, Access, Happened, Place, PlainWord, QueueChange, Runs, Done, Stalls, Put, command_words}
use Rattle.legal_play.specs.GicCall.declared.event.Event.TheVariants.{Queue}
use Rattle.legal_play.specs.Histories.{Ideal, Course, vcpu_of, call_of, gone_on, course_of, handed_out}
use Rattle.legal_play.specs.HistoryPlay.Coming.{is_unknown}
use Rattle.trace_told.specs.Given.{word_at, stored_of, is_word, gives}
use Rattle.trace_told.specs.Told.{actor_of, as_fetched, command_end, change_at, queue_told, enable_told, if_vcpu, event_told, reading, places_before, places_after, moments_round, with_reads, event_moments, moments_told, told_by}
use Rattle.trace_told.specs.Laws.{AreFaultless, ToldOnesAreFaultless}
use Rattle.trace_told.proofs.ReadLemmas.{reads_keep}

module _ (ideal : Ideal) (actor : ℕ) (found : Found) where
  -- an event that is told has no fault
  abbrev IsKnown : Event → Type 0
  IsKnown event = is_unknown ideal (Happens actor event found) ≡ false

  known : (one event : Event) → IsKnown one → Some one ≡ Some event → IsKnown event
  known one event k h = subst IsKnown (same_Some _ _ h) k

  of_vcpu : (make : ℕ → Event) (vcpu : Option ℕ) (event : Event) → ((vcpu : ℕ) → IsKnown (make vcpu)) → if_vcpu vcpu make ≡ Some event → IsKnown event
  of_vcpu make None event k h = absurd (none-some event h)
  of_vcpu make (Some vcpu) event k h = known (make vcpu) event (k vcpu) h

  of_enable : (operation : Option Operation) (event : Event) → enable_told operation ≡ Some event → IsKnown event
  of_enable (Some (Access (Mem (Redist vcpu) offset size write))) event h = known _ event refl h
  of_enable operation event h = absurd (none-some event h)

  of_put : (b : Bool) (o : Option PlainWord) (value : ℕ) (event : Event) → cond b (option_map (λ word. Put word value) o) None ≡ Some event → IsKnown event
  of_put true (Some word) value event h = known (Put word value) event refl h
  of_put true None value event h = absurd (none-some event h)
  of_put false o value event h = absurd (none-some event h)

  -- a command that ends has none, or stalls
  of_end : (offset : ℕ) (words : List ℕ) (fault : Option ℕ) → fault_number ideal.guest.shape ideal.guest.tables (decoded words) ≡ fault → IsKnown (Queue offset (option_map_or (λ fault. Stalls fault) fault (Done words)))
  of_end offset words (Some fault) is = refl
  of_end offset words None is = ap is_some is

  of_change : (offset : ℕ) (vcpu : Option ℕ) (piece : List Happened) (b : Bool) → IsKnown (Queue offset (cond b (command_end ideal.guest.shape (as_fetched ideal vcpu piece)) Runs))
  of_change offset vcpu piece true = of_end offset (command_words ideal.guest.shape (as_fetched ideal vcpu piece)) _ refl
  of_change offset vcpu piece false = refl

  of_queue : (offset : ℕ) (stalled : Bool) (change : QueueChange) (event : Event) → IsKnown (Queue offset change) → queue_told offset stalled change ≡ Some event → IsKnown event
  of_queue offset stalled change event k h = subst IsKnown (cond_some _ (Queue offset change) event h).1 k

  event_known : (vcpu : Option ℕ) (operation : Option Operation) (piece : List Happened) (act : Act) (event : Event) → event_told ideal vcpu operation piece act ≡ Some event → IsKnown event
  event_known vcpu operation piece (Reaches key) event h = of_vcpu _ vcpu event (λ vcpu. refl) h
  event_known vcpu operation piece (Takes key) event h = of_vcpu _ vcpu event (λ vcpu. refl) h
  event_known vcpu operation piece (Leaves key) event h = of_vcpu _ vcpu event (λ vcpu. refl) h
  event_known vcpu operation piece (Accesses reg write answer) event h = of_vcpu _ vcpu event (λ vcpu. refl) h
  event_known vcpu operation piece (Raises key) event h = known _ event refl h
  event_known vcpu operation piece (GoesUp key) event h = known _ event refl h
  event_known vcpu operation piece (GoesDown key) event h = known _ event refl h
  event_known vcpu operation piece (Touches key what answer) event h = known _ event refl h
  event_known vcpu operation piece Enables event h = of_enable operation event h
  event_known vcpu operation piece (Reads place value) event h = known _ event refl h
  event_known vcpu operation piece (Puts place value) event h = of_put (is_word place value (stored_of place value)) (word_at place) (stored_of place value) event h
  event_known vcpu operation piece (BeginsCtlr enables) event h = known _ event refl h
  event_known vcpu operation piece EndsCtlr event h = known _ event refl h
  event_known vcpu operation piece BeginsIts event h = known _ event refl h
  event_known vcpu operation piece EndsIts event h = known _ event refl h
  event_known vcpu operation piece (MovesQueue offset stalled) event h = of_queue offset stalled (change_at ideal vcpu operation piece) event (of_change offset vcpu piece _) h
  event_known vcpu operation piece (Begins call) event h = absurd (none-some event h)
  event_known vcpu operation piece (Ends answer) event h = absurd (none-some event h)

-- reads have none, wherever they stand

reads_known : (ideal : Ideal) (actor : ℕ) (course : Course) (places : List Place) (moments : List Moment) → AreFaultless (course_of course (map (reading ideal actor) places)) moments → AreFaultless course (map (reading ideal actor) places ++ moments)
reads_known ideal actor course [] moments h = h
reads_known ideal actor course (place ∷ places) moments h = (refl, reads_known ideal actor (gone_on course (reading ideal actor place)) places moments h)

only_reads_known : (ideal : Ideal) (actor : ℕ) (course : Course) (places : List Place) → AreFaultless course (map (reading ideal actor) places)
only_reads_known ideal actor course [] = tt
only_reads_known ideal actor course (place ∷ places) = (refl, only_reads_known ideal actor (gone_on course (reading ideal actor place)) places)

module _ (course : Course) (actor : ℕ) (piece : List Happened) where
  round_known : (event : Event) → is_unknown course.ideal (Happens actor event (handed_out course.ideal event)) ≡ false → AreFaultless course (moments_round course.ideal actor piece event)
  round_known event k =
      let found = handed_out course.ideal event in
      let before = places_before course.ideal (vcpu_of course.ideal.guest.shape actor) piece event in
      let here = course_of course (map (reading course.ideal actor) before) in
      reads_known course.ideal actor course before (Happens actor event found ∷ map (reading course.ideal actor) (places_after event found)) (
        subst (λ state. is_unknown state (Happens actor event found) ≡ false) (sym (reads_keep course.ideal actor course before)) k,
        only_reads_known course.ideal actor (gone_on here (Happens actor event found)) (places_after event found),
      )

  event_faultless : (operation : Option Operation) (act : Act) (moments : List Moment) → event_moments course.ideal actor operation piece act ≡ Some moments → AreFaultless course moments
  event_faultless operation act moments h =
      option_and_then_some (with_reads course.ideal actor piece act) (event_told course.ideal (vcpu_of course.ideal.guest.shape actor) operation piece act) moments h
      (λ event is k. subst (AreFaultless course) (cond_some (gives act (handed_out course.ideal event)) (moments_round course.ideal actor piece event) moments k).1
      (round_known event (event_known course.ideal actor (handed_out course.ideal event) (vcpu_of course.ideal.guest.shape actor) operation piece act event is)))

  act_faultless : (operation : Option Operation) (act : Act) (moments : List Moment) → moments_told course.ideal actor operation piece act ≡ Some moments → AreFaultless course moments
  act_faultless operation (Begins call) moments h = subst (AreFaultless course) (same_Some _ _ h) (refl, tt)
  act_faultless operation (Ends answer) moments h = subst (AreFaultless course) (same_Some _ _ h) (refl, tt)
  act_faultless operation act moments h = event_faultless operation act moments h

pub faultless : ToldOnesAreFaultless
faultless course event moments h =
    option_and_then_some (told_by course event.act) (actor_of course.ideal.guest.shape event.by) moments h
    (λ actor there. act_faultless course actor (option_map_or (λ call. call.piece) (call_of course actor) []) (option_map (λ call. call.operation) (call_of course actor)) event.act moments)
