-- A moment of a proper run: the core beside the ideal controller that it stands for, what the history says, and how far each actor is.
use Rattle.std.proofs.Common.{◌≡◌, ◌≢◌, ℕ, ◌+◌, ◌<◌, ◌==◌, ◌&&◌, inl, inr, true≢false, not, Bool, true, false, IsTrue, All, List, [], ◌∷◌, map, filter, fold, length, slice_index_or, Option, Some, None, is_none, is_some, if◌then◌else◌, refl, sym, ap, ◌∙◌, subst}
use Rattle.std.specs.Option.{option_map_or}
use Rattle.std.proofs.lemmas.Bool.{cases_eq, and_parts, eqb-true, eq-eqb, ne_eqb, false_from_ne_true}
use Rattle.std.proofs.lemmas.List.{length-set, length-replicate, get_or-replicate}
use Rattle.std.proofs.lemmas.List.Elements.{All-head, All-tail}
use Rattle.std.proofs.lemmas.List.Sums.{fold-append}
use Rattle.law_registers_stand.specs.Words.{Key, GuestShape, has_interrupt, interrupt_count, is_same_key, place_of, IsShape, has_bit}
use Rattle.law_registers_stand.specs.Calls.{Event, Reach, Take, Cpu, Put, Operation, Happened, plain_at}
use Rattle.law_registers_stand.specs.GicCall.declared.event.Event.TheVariants.{Read, Queue as QueueEvent}
use Rattle.law_registers_stand.specs.GicCall.declared.event.Found.TheVariants.{Answer, Word as FoundWord}
use Rattle.law_registers_stand.specs.GicCall.declared.event.Place.TheVariants.{Word}
use Rattle.law_registers_stand.specs.Registers.{interface_answer}
use Rattle.law_registers_stand.specs.Histories.{Turn, Doing, Changes, opening_track, changed_by, doing_of, changes_of, with_doing, IdealGuest, CanOpen}
use Rattle.law_registers_stand.specs.Core.{Local, Made, CoreStep, Look, Claim, Poll, RamLook, RamPut, CommandDone, actor_count, Irq, Meets, fault_place, succeeds, vcpu_of, interface_of, is_at, owes_no_kick, owes_no_mark, has_no_cand, CoreState, Seat, opening, seat_at, after, IsRun, IsSound, silent, event_done, after_moment, end_of_moments, event_moments, ideal_moments, ideal_of, IsSeatOf, Act, begins, makes, ends, CoreMoment, own_acts, entries_of, entry_by, are_parts, has_registers, Progress, opening_progress, progressed, progress_of, progress_in, stepped, IsProper, IsProperAct, IsProperRun, is_settled}
use Rattle.law_registers_stand.proofs.PortCore.OpeningLemmas.{opens_sound, seat_opens}
use Rattle.law_registers_stand.proofs.PortCore.StepLemmas.{steps_sound}
use Rattle.law_registers_stand.proofs.PortCore.StepLocals.{no_bit}
use Rattle.law_registers_stand.proofs.CoreProper.FollowLemmas.{steps_follow}
use Rattle.law_registers_stand.specs.LawCoreIsHistory.Known.{IsKnown}
use Rattle.law_registers_stand.specs.LawCoreIsHistory.Related.{Related}
use Rattle.law_registers_stand.specs.LawCoreIsHistory.Simulates.{IsSimulatedAs, event_of}
use Rattle.law_registers_stand.specs.LawCoreIsHistory.Whole.{within_after}
use Rattle.law_registers_stand.proofs.LawCoreIsHistory.HistorySteps.{own_here, own_other, parts_next}
use Rattle.law_registers_stand.proofs.LawCoreIsHistory.KnownSteps.{keeps_known}
use Rattle.law_registers_stand.proofs.LawCoreIsHistory.RunSteps.{entry_simulates, related_opens, known_opens}
use Rattle.law_registers_stand.proofs.LawCoreIsHistory.StepContext.{IsStep}
use Rattle.law_scans_miss_none.specs.Index.{owes_kick}
use Rattle.law_scans_miss_none.specs.Excuse.{IsExcused, followed_in}
use Rattle.law_registers_stand.specs.Followed.{Followed, follows, opening_followed}
use Rattle.law_registers_stand.proofs.LawCoreIsHistory.AfterLemmas.{later, seat_mine, seat_other}
use Rattle.law_scans_miss_none.proofs.ToldLemmas.{event_changes, Lasts, Told, AllTold}
use Rattle.law_scans_miss_none.proofs.IndexRuns.{opens_told}
use Rattle.law_scans_miss_none.proofs.IndexSteps.{keeps_complete}
use Rattle.law_registers_stand.proofs.CoreProper.ScanLemmas.{lrs_on}
use Rattle.law_registers_stand.proofs.StandRuns.{lrs_made}
use Rattle.law_registers_stand.proofs.StandSteps.{after_made}
use Rattle.law_scans_miss_none.proofs.ProgressLemmas.{operation_on}
use Rattle.law_scans_miss_none.proofs.TrackLemmas.{doing_here, doing_other, doing_kept, number_kept, is_queue, changes_each, last_kept, last_made, happens_doings, happens_changes, happens_here, happens_other, last_on, last_now}
use Rattle.law_scans_miss_none.proofs.WaitingSteps.{last_in}

-- the ideal controller and its history after a moment of the core
abbrev pub follow : GuestShape → CoreState → Followed → CoreMoment → Followed
follow shape state at moment = fold follows at (ideal_moments shape (seat_at state moment.actor) moment.actor moment.act)

-- how far the actors are after a moment
abbrev pub moved_on : GuestShape → (ℕ → Progress) → CoreMoment → ℕ → Progress
moved_on shape progress moment actor = if moment.actor == actor then progressed shape actor (progress actor) moment.act else progress actor

-- an actor's part begins where it is in none, and goes on and ends where it is in one
abbrev pub fits : GuestShape → ℕ → Bool → Act → Bool
fits shape actor within (begins operation lrs) = not within && has_registers shape actor lrs
fits shape actor within (makes made) = within
fits shape actor within (ends answer) = within

-- what is kept at every moment
pub record IsAt (shape : GuestShape) (state : CoreState) (at : Followed) (progress : ℕ → Progress) : Type 0 where
  pub sound : IsSound shape state
  pub known : IsKnown shape state
  pub related : Related shape state at.ideal
  pub seats : (actor : ℕ) → actor < actor_count shape → IsSeatOf (progress actor) (seat_at state actor)
  pub calls : (actor : ℕ) → actor < actor_count shape → (doing_of at.track actor).operation ≡ (progress actor).operation
  pub rests : (actor : ℕ) → actor < actor_count shape → (progress actor).operation ≡ None → IsTrue (is_settled (seat_at state actor).local)
  pub registers : (actor : ℕ) → actor < actor_count shape → IsTrue (is_some (progress actor).operation) → IsTrue (has_registers shape actor (progress actor).lrs)
  pub doings_each : length at.track.doings ≡ actor_count shape
  pub changes_each : length at.track.changes ≡ interrupt_count shape
  pub told : AllTold shape state (last_in shape at.track)

-- an actor does something there
pub record IsActing (shape : GuestShape) (state : CoreState) (progress : ℕ → Progress) (actor : ℕ) (act : Act) : Type 0 where
  pub there : actor < actor_count shape
  pub fit : IsTrue (fits shape actor (is_some (progress actor).operation) act)
  pub proper : IsProperAct shape actor (progress actor) act
  pub run : IsRun shape state (entries_of (record { actor = actor; act = act } ∷ []))

-- Who owes nothing.

pub settled_owes : (local : Local) (vcpu : ℕ) → IsTrue (is_settled local) → IsTrue (owes_kick vcpu local) → ⊥
settled_owes local vcpu settled owes =
    let marks = (and_parts (owes_no_kick local && owes_no_mark local && has_no_cand local && not local.turn && not local.ctlr) (is_none local.line) settled).0 in
    let nothing = (and_parts (owes_no_kick local && owes_no_mark local && has_no_cand local && not local.turn) (not local.ctlr) marks).0 in
    let kick = (and_parts (owes_no_kick local && owes_no_mark local) (has_no_cand local) (and_parts (owes_no_kick local && owes_no_mark local && has_no_cand local) (not local.turn) nothing).0).0 in
    no_bit vcpu (subst (λ n. IsTrue (has_bit n vcpu)) (eqb-true local.owes.0 0 (and_parts (owes_no_kick local) (owes_no_mark local) kick).0) owes)

no_kick_owes : (local : Local) (vcpu : ℕ) → IsTrue (owes_no_kick local) → IsTrue (owes_kick vcpu local) → ⊥
no_kick_owes local vcpu none owes = no_bit vcpu (subst (λ n. IsTrue (has_bit n vcpu)) (eqb-true local.owes.0 0 none) owes)

abbrev nothing : Changes
nothing = record { last = None; since = [] }

abbrev none_yet : Option Operation
none_yet = None

-- The end of a command.

abbrev pub ends_command : Option Happened → Bool
ends_command one = option_map_or (λ happened. is_queue happened.event) one false

-- an event that changes an interrupt ends no command
pub changing_goes_on : (o : Option Happened) (key : Key) → event_changes o key ≡ true → ends_command o ≡ false
changing_goes_on None key h = refl
changing_goes_on (Some one) key h = of one.event h
  where
    of : (e : Event) → option_map_or (is_same_key key) (changed_by e) false ≡ true → is_queue e ≡ false
    of (QueueEvent offset change) h = absurd (true≢false (sym h))
    of e h = refl

module _ (shape : GuestShape) (good : IsShape shape) (state : CoreState) (at : Followed) (progress : ℕ → Progress) (actor : ℕ) (made : Made) (here : IsAt shape state at progress) (acts : IsActing shape state progress actor (makes made)) where
  pub is_step : IsStep shape state at.ideal actor made.step made.found made.left made.tables
  is_step = record { good = good; sound = here.sound; related = here.related; takes = acts.run.0 }

  -- what the step stands for
  abbrev pub event : Option Happened
  event = event_of shape state (entry_by actor made)

  pub simulated : IsSimulatedAs shape (later is_step) at.ideal actor event
  simulated = entry_simulates shape state at.ideal (entry_by actor made) good here.sound here.related here.known acts.run.0

  abbrev pub after_event : Option Happened → Followed
  after_event one = fold follows at (event_moments actor one)

  in_doings : actor < length at.track.doings
  in_doings = subst (λ n. actor < n) (sym here.doings_each) acts.there

  abbrev local : Local
  local = (seat_at state actor).local

  abbrev own : List Made
  own = (seat_at state actor).own

  -- a command ends while its actor owes no kick
  command_kicks : ends_command event ≡ true → IsTrue (owes_no_kick local)
  command_kicks h = of (succeeds shape actor local made.step made.found) h
    where
      found : ℕ
      found = made.found

      never : {b : Bool} {T : Type 0} → b ≡ false → b ≡ true → T
      never {b} e h = absurd (true≢false (sym h ∙ e))

      unless : (b : Bool) (one : Happened) → is_queue one.event ≡ false → ends_command (if b then None else Some one) ≡ false
      unless true one e = refl
      unless false one e = e

      claim_of : (b : Bool) (k : Key) → ends_command (silent (if b then Take k actor else Reach k actor)) ≡ false
      claim_of true k = refl
      claim_of false k = refl

      done : (s : CoreStep) → Meets shape actor local own s → ends_command (event_done shape actor local own s found) ≡ true → IsTrue (owes_no_kick local)
      done (CommandDone offset stalled ending) meets h = meets.kicks
      done (Claim k seen) meets h = never (claim_of (is_at k local.at) k) h
      done (Poll (Some reg) write) meets h = never (unless (vcpu_of found).kick (record { event = Cpu actor reg write; found = Answer (interface_answer reg write (interface_of local)) }) refl) h
      done (RamLook i) meets h = never (unless (i == fault_place shape) (record { event = Read (Word (plain_at shape i)); found = FoundWord found }) refl) h
      done (RamPut i seen value) meets h = never (unless (i == fault_place shape) (record { event = Put (plain_at shape i) value; found = FoundWord found }) refl) h
      done (Look (Irq k)) meets h = never refl h
      done s meets h = never refl h

      of : (b : Bool) → ends_command (if b then event_done shape actor local own made.step found else None) ≡ true → IsTrue (owes_no_kick local)
      of true h = done made.step acts.run.0.meets h
      of false h = never refl h

  -- what the history says of an actor after it
  same_shape : at.ideal.guest.shape ≡ shape
  same_shape = here.related.shape_is

  pub operation_after : (o : Option Happened) → IsSimulatedAs shape (later is_step) at.ideal actor o → (n : ℕ) → (doing_of (after_event o).track n).operation ≡ (doing_of at.track n).operation
  operation_after None sim n = refl
  operation_after (Some one) sim n = elim (cases_eq n actor) [
    | inl same ↦
        subst (λ m. (doing_of (after_event (Some one)).track m).operation ≡ (doing_of at.track m).operation) (sym same)
        (ap (λ (d : Doing). d.operation) (happens_here shape good at.ideal actor one.event one.found at.track same_shape sim.can in_doings) ∙ doing_kept at.ideal actor one.event (doing_of at.track actor))
    | inr differ ↦ ap (λ (d : Doing). d.operation) (happens_other shape good at.ideal actor one.event one.found at.track n same_shape sim.can differ)
  ]

  -- an actor goes on with its call or command, but where it ends a command
  pub number_after : (o : Option Happened) → IsSimulatedAs shape (later is_step) at.ideal actor o → (n : ℕ) → (n ≡ actor → ends_command o ≡ false) → (doing_of (after_event o).track n).number ≡ (doing_of at.track n).number
  number_after None sim n goes = refl
  number_after (Some one) sim n goes = elim (cases_eq n actor) [
    | inl same ↦
        subst (λ m. (doing_of (after_event (Some one)).track m).number ≡ (doing_of at.track m).number) (sym same)
        (ap (λ (d : Doing). d.number) (happens_here shape good at.ideal actor one.event one.found at.track same_shape sim.can in_doings) ∙ number_kept at.ideal actor one.event (doing_of at.track actor) (goes same))
    | inr differ ↦ ap (λ (d : Doing). d.number) (happens_other shape good at.ideal actor one.event one.found at.track n same_shape sim.can differ)
  ]

  -- an actor that owes a kick ends no command
  pub owing_goes_on : (n vcpu : ℕ) → IsTrue (owes_kick vcpu (seat_at state n).local) → n ≡ actor → ends_command event ≡ false
  owing_goes_on n vcpu owes same = false_from_ne_true (ends_command event) (λ h. no_kick_owes local vcpu (command_kicks h) (subst (λ m. IsTrue (owes_kick vcpu (seat_at state m).local)) same owes))

  abbrev last_at : List Changes → Key → Option Turn
  last_at changes key = (slice_index_or changes (place_of shape key) nothing).last

  changes_after : (o : Option Happened) → IsSimulatedAs shape (later is_step) at.ideal actor o → (key : Key) → IsTrue (has_interrupt shape key) → event_changes o key ≡ false → (changes_of shape (after_event o).track key).last ≡ (changes_of shape at.track key).last
  changes_after None sim key there quiet = refl
  changes_after (Some one) sim key there quiet =
      ap (λ changes. last_at changes key) (happens_changes shape good at.ideal actor one.event one.found at.track same_shape sim.can)
      ∙ last_kept shape good actor one.event at.track sim.can key there here.changes_each quiet

  -- who changed an interrupt last
  pub lasts : Lasts is_step (last_in shape at.track) (last_in shape (follow shape state at (record { actor = actor; act = makes made })).track)
  lasts = record {
    kept = λ key other vcpu there quiet owes last.
        subst (λ b. IsTrue b)
        (sym (last_on shape at.track (after_event event).track key other (changes_after event simulated key there quiet) (operation_after event simulated other) (number_after event simulated other (owing_goes_on other vcpu owes))))
        last;
    made = λ key there changes. made_last event simulated key there changes;
  }
    where
      made_last : (o : Option Happened) → IsSimulatedAs shape (later is_step) at.ideal actor o → (key : Key) → IsTrue (has_interrupt shape key) → event_changes o key ≡ true → last_in shape (after_event o).track actor key
      made_last None sim key there changes = absurd (true≢false (sym changes))
      made_last (Some one) sim key there changes =
          last_now shape at.track (after_event (Some one)).track key actor
          (ap (λ changes. last_at changes key) (happens_changes shape good at.ideal actor one.event one.found at.track same_shape sim.can)
          ∙ ap (λ (c : Changes). c.last) (last_made shape good actor one.event at.track sim.can key there here.changes_each changes))
          (subst (λ o. IsTrue (is_some o)) (sym (operation_after (Some one) sim actor ∙ here.calls actor acts.there)) acts.fit)
          (number_after (Some one) sim actor (λ same. changing_goes_on (Some one) key changes))

  -- the moment after it
  pub makes_next : IsAt shape (after shape state (entry_by actor made)) (follow shape state at (record { actor = actor; act = makes made })) (moved_on shape progress (record { actor = actor; act = makes made }))
  makes_next =
      let next = steps_sound shape state (entry_by actor made) good here.sound acts.run.0 in
      record {
        sound = next;
        known = keeps_known shape state (entry_by actor made) good here.sound acts.run.0 next here.known;
        related = related_after event simulated;
        seats = λ n there. elim (cases_eq n actor) [
          | inl same ↦
              subst (λ m. IsSeatOf (moved_on shape progress (record { actor = actor; act = makes made }) m) (seat_at (later is_step) m)) (sym same)
              (subst (λ p. IsSeatOf p (seat_at (later is_step) actor)) (sym mine)
              (subst (IsSeatOf (stepped shape actor made (progress actor))) (sym (seat_mine is_step)) (steps_follow shape actor (made ∷ []) (progress actor) local own (here.seats actor acts.there))))
          | inr differ ↦ subst (λ s. IsSeatOf (moved_on shape progress (record { actor = actor; act = makes made }) n) s) (sym (seat_other is_step n differ)) (subst (λ p. IsSeatOf p (seat_at state n)) (sym (other n differ)) (here.seats n there))
        ];
        calls = λ n there. operation_after event simulated n ∙ here.calls n there ∙ sym (operation_same n);
        rests = λ n there none. elim (cases_eq n actor) [
          | inl same ↦ absurd (in_part (subst (λ o. IsTrue (is_some o)) (sym (operation_same actor) ∙ subst (λ m. (moved_on shape progress (record { actor = actor; act = makes made }) m).operation ≡ None) same none) acts.fit))
          | inr differ ↦ subst (λ (s : Seat). IsTrue (is_settled s.local)) (sym (seat_other is_step n differ)) (here.rests n there (sym (operation_same n) ∙ none))
        ];
        registers = λ n there within. elim (cases_eq n actor) [
          | inl same ↦
              subst (λ m. IsTrue (has_registers shape m (moved_on shape progress (record { actor = actor; act = makes made }) m).lrs)) (sym same)
              (subst (λ k. IsTrue (has_registers shape actor k)) (sym (ap (λ (p : Progress). p.lrs) mine ∙ lrs_on shape actor (after_made shape actor made (progress actor)) ∙ lrs_made shape actor made (progress actor))) (here.registers actor acts.there acts.fit))
          | inr differ ↦
              subst (λ (p : Progress). IsTrue (has_registers shape n p.lrs)) (sym (other n differ))
              (here.registers n there (subst (λ o. IsTrue (is_some o)) (operation_same n) within))
        ];
        doings_each = doings_after event simulated ∙ here.doings_each;
        changes_each = each_after event simulated ∙ here.changes_each;
        told = keeps_complete shape state at.ideal actor made.step made.found made.left made.tables is_step lasts here.told;
      }
    where
      mine : moved_on shape progress (record { actor = actor; act = makes made }) actor ≡ stepped shape actor made (progress actor)
      mine = ap (λ b. if b then stepped shape actor made (progress actor) else progress actor) (eq-eqb actor actor refl)

      other : (n : ℕ) → n ≢ actor → moved_on shape progress (record { actor = actor; act = makes made }) n ≡ progress n
      other n differ = ap (λ b. if b then stepped shape n made (progress n) else progress n) (ne_eqb actor n (λ e. differ (sym e)))

      operation_same : (n : ℕ) → (moved_on shape progress (record { actor = actor; act = makes made }) n).operation ≡ (progress n).operation
      operation_same n = elim (cases_eq n actor) [
        | inl same ↦ subst (λ m. (moved_on shape progress (record { actor = actor; act = makes made }) m).operation ≡ (progress m).operation) (sym same) (ap (λ (p : Progress). p.operation) mine ∙ operation_on shape actor made (progress actor))
        | inr differ ↦ ap (λ (p : Progress). p.operation) (other n differ)
      ]

      in_part : IsTrue (is_some none_yet) → ⊥
      in_part h = absurd (true≢false (sym h))

      related_after : (o : Option Happened) → IsSimulatedAs shape (later is_step) at.ideal actor o → Related shape (later is_step) (after_event o).ideal
      related_after None sim = sim
      related_after (Some one) sim = sim.related

      doings_after : (o : Option Happened) → IsSimulatedAs shape (later is_step) at.ideal actor o → length (after_event o).track.doings ≡ length at.track.doings
      doings_after None sim = refl
      doings_after (Some one) sim = happens_doings shape good at.ideal actor one.event one.found at.track same_shape sim.can

      each_after : (o : Option Happened) → IsSimulatedAs shape (later is_step) at.ideal actor o → length (after_event o).track.changes ≡ length at.track.changes
      each_after None sim = refl
      each_after (Some one) sim = ap length (happens_changes shape good at.ideal actor one.event one.found at.track same_shape sim.can) ∙ changes_each shape good actor one.event at.track sim.can

-- The begin and the end of a part.

module _ (shape : GuestShape) (state : CoreState) (at : Followed) (progress : ℕ → Progress) (actor : ℕ) (here : IsAt shape state at progress) (there : actor < actor_count shape) where
  -- whoever owes a kick stays the last to change an interrupt
  pub last_without : (doing : Doing) → IsTrue (is_settled (seat_at state actor).local) → (n vcpu : ℕ) (key : Key) → IsTrue (owes_kick vcpu (seat_at state n).local) → last_in shape at.track n key → last_in shape (with_doing actor doing at.track) n key
  last_without doing settled n vcpu key kick last = elim (cases_eq n actor) [
    | inl same ↦ absurd (settled_owes (seat_at state actor).local vcpu settled (subst (λ m. IsTrue (owes_kick vcpu (seat_at state m).local)) same kick))
    | inr differ ↦
        (let apart = doing_other actor n doing at.track differ in
        subst (λ b. IsTrue b) (sym (last_on shape at.track (with_doing actor doing at.track) key n refl (ap (λ (d : Doing). d.operation) apart) (ap (λ (d : Doing). d.number) apart))) last)
  ]

  told_without : (doing : Doing) → IsTrue (is_settled (seat_at state actor).local) → AllTold shape state (last_in shape (with_doing actor doing at.track))
  told_without doing settled key vcpu has within home asks = of (here.told key vcpu has within home asks)
    where
      of : Told shape state (last_in shape at.track) vcpu key → Told shape state (last_in shape (with_doing actor doing at.track)) vcpu key
      of (inl indexed) = inl indexed
      of (inr (inl taken)) = inr (inl taken)
      of (inr (inr owed)) = inr (inr (record {
        actor = owed.actor;
        there = owed.there;
        owes = owed.owes;
        kicks = λ waits. elim (owed.kicks waits) [
          | inl kick ↦ inl (kick.0, last_without doing settled owed.actor vcpu key kick.0 kick.1)
          | inr own ↦ inr own
        ];
      }))

  -- what it does there
  part_next :
      (act : Act) (doing : Doing) → (progressed shape actor (progress actor) act).local ≡ (progress actor).local → (progressed shape actor (progress actor) act).own ≡ (progress actor).own → doing.operation ≡ (progressed shape actor (progress actor) act).operation
      → IsTrue (is_settled (seat_at state actor).local) → (IsTrue (is_some (progressed shape actor (progress actor) act).operation) → IsTrue (has_registers shape actor (progressed shape actor (progress actor) act).lrs)) → IsAt shape state (record { ideal = at.ideal; track = with_doing actor doing at.track }) (moved_on shape progress (record { actor = actor; act = act }))
  part_next act doing local own operation settled fitting = record {
    sound = here.sound;
    known = here.known;
    related = here.related;
    seats = λ n among. elim (cases_eq n actor) [
      | inl same ↦
          (let before = here.seats actor there in
          subst (λ m. IsSeatOf (moved_on shape progress (record { actor = actor; act = act }) m) (seat_at state m)) (sym same)
          (subst (λ p. IsSeatOf p (seat_at state actor)) (sym mine) (record { local = local ∙ before.local; own = own ∙ before.own })))
      | inr differ ↦ subst (λ p. IsSeatOf p (seat_at state n)) (sym (other n differ)) (here.seats n among)
    ];
    calls = λ n among. elim (cases_eq n actor) [
      | inl same ↦
          subst (λ m. (doing_of (with_doing actor doing at.track) m).operation ≡ (moved_on shape progress (record { actor = actor; act = act }) m).operation) (sym same)
          (ap (λ (d : Doing). d.operation) (doing_here actor doing at.track (subst (λ n. actor < n) (sym here.doings_each) there)) ∙ operation ∙ sym (ap (λ (p : Progress). p.operation) mine))
      | inr differ ↦ ap (λ (d : Doing). d.operation) (doing_other actor n doing at.track differ) ∙ here.calls n among ∙ sym (ap (λ (p : Progress). p.operation) (other n differ))
    ];
    rests = λ n among none. elim (cases_eq n actor) [
      | inl same ↦ subst (λ m. IsTrue (is_settled (seat_at state m).local)) (sym same) settled
      | inr differ ↦ here.rests n among (sym (ap (λ (p : Progress). p.operation) (other n differ)) ∙ none)
    ];
    registers = λ n among within. elim (cases_eq n actor) [
      | inl same ↦
          subst (λ m. IsTrue (has_registers shape m (moved_on shape progress (record { actor = actor; act = act }) m).lrs)) (sym same)
          (subst (λ (p : Progress). IsTrue (has_registers shape actor p.lrs)) (sym mine)
          (fitting (subst (λ (p : Progress). IsTrue (is_some p.operation)) mine (subst (λ m. IsTrue (is_some (moved_on shape progress (record { actor = actor; act = act }) m).operation)) same within))))
      | inr differ ↦ subst (λ (p : Progress). IsTrue (has_registers shape n p.lrs)) (sym (other n differ)) (here.registers n among (subst (λ (p : Progress). IsTrue (is_some p.operation)) (other n differ) within))
    ];
    doings_each = length-set at.track.doings actor doing ∙ here.doings_each;
    changes_each = here.changes_each;
    told = told_without doing settled;
  }
    where
      mine : moved_on shape progress (record { actor = actor; act = act }) actor ≡ progressed shape actor (progress actor) act
      mine = ap (λ b. if b then progressed shape actor (progress actor) act else progress actor) (eq-eqb actor actor refl)

      other : (n : ℕ) → n ≢ actor → moved_on shape progress (record { actor = actor; act = act }) n ≡ progress n
      other n differ = ap (λ b. if b then progressed shape n (progress n) act else progress n) (ne_eqb actor n (λ e. differ (sym e)))

none_from : (o : Option Operation) → IsTrue (not (is_some o)) → o ≡ None
none_from None h = refl
none_from (Some operation) h = absurd (true≢false (sym h))

-- every act
pub at_next :
    (shape : GuestShape) (good : IsShape shape) (state : CoreState) (at : Followed) (progress : ℕ → Progress) (actor : ℕ) (act : Act) → IsAt shape state at progress → IsActing shape state progress actor act
    → IsAt shape (after_moment shape state (record { actor = actor; act = act })) (follow shape state at (record { actor = actor; act = act })) (moved_on shape progress (record { actor = actor; act = act }))
at_next shape good state at progress actor (begins operation lrs) here acts =
    part_next shape state at progress actor here acts.there (begins operation lrs) (record { operation = Some operation; number = (doing_of at.track actor).number + 1; done = []; fetched = false }) refl refl refl
    (here.rests actor acts.there (none_from (progress actor).operation (and_parts (not (is_some (progress actor).operation)) (has_registers shape actor lrs) acts.fit).0))
    (λ within. (and_parts (not (is_some (progress actor).operation)) (has_registers shape actor lrs) acts.fit).1)
at_next shape good state at progress actor (makes made) here acts = makes_next shape good state at progress actor made here acts
at_next shape good state at progress actor (ends answer) here acts =
    part_next shape state at progress actor here acts.there (ends answer) (record (doing_of at.track actor) { operation = None }) refl refl refl
    (subst (λ (l : Local). IsTrue (is_settled l)) (here.seats actor acts.there).local acts.proper.settled) (λ within. absurd (true≢false (sym within)))

-- a begin or an end of a part
abbrev pub is_part : Act → Bool
is_part (begins operation lrs) = true
is_part (makes made) = false
is_part (ends answer) = true

-- an actor that begins or ends one owes nothing
pub part_settled : (shape : GuestShape) (state : CoreState) (at : Followed) (progress : ℕ → Progress) (actor : ℕ) (act : Act) → IsAt shape state at progress → IsActing shape state progress actor act → is_part act ≡ true → IsTrue (is_settled (seat_at state actor).local)
part_settled shape state at progress actor (begins operation lrs) here acts e = here.rests actor acts.there (none_from (progress actor).operation (and_parts (not (is_some (progress actor).operation)) (has_registers shape actor lrs) acts.fit).0)
part_settled shape state at progress actor (makes made) here acts e = absurd (true≢false (sym e))
part_settled shape state at progress actor (ends answer) here acts e = subst (λ (l : Local). IsTrue (is_settled l)) (here.seats actor acts.there).local acts.proper.settled

-- so a vCPU is still to be told of the same changes
pub excused_part :
    (shape : GuestShape) (state : CoreState) (at : Followed) (progress : ℕ → Progress) (actor : ℕ) (act : Act) (here : IsAt shape state at progress) (acts : IsActing shape state progress actor act) → is_part act ≡ true → (vcpu : ℕ) (key : Key)
    → IsExcused shape state at.track vcpu key → IsExcused shape state (follow shape state at (record { actor = actor; act = act })).track vcpu key
excused_part shape state at progress actor act here acts e vcpu key x = of act e (part_settled shape state at progress actor act here acts e)
  where
    still : (doing : Doing) → IsTrue (is_settled (seat_at state actor).local) → IsExcused shape state (with_doing actor doing at.track) vcpu key
    still doing settled = record { actor = x.actor; there = x.there; owes = x.owes; last = last_without shape state at progress actor here acts.there doing settled x.actor vcpu key x.owes x.last }

    of : (a : Act) → is_part a ≡ true → IsTrue (is_settled (seat_at state actor).local) → IsExcused shape state (follow shape state at (record { actor = actor; act = a })).track vcpu key
    of (begins operation lrs) e settled = still (record { operation = Some operation; number = (doing_of at.track actor).number + 1; done = []; fetched = false }) settled
    of (makes made) e settled = absurd (true≢false (sym e))
    of (ends answer) e settled = still (record (doing_of at.track actor) { operation = None }) settled

-- Runs.

-- how far the actors are after some moments
abbrev pub progress_on : GuestShape → (ℕ → Progress) → List CoreMoment → ℕ → Progress
progress_on shape progress moments = fold (moved_on shape) progress moments

pub progress_is : (shape : GuestShape) (moments : List CoreMoment) (progress : ℕ → Progress) (actor : ℕ) → progress_on shape progress moments actor ≡ progress_of shape actor (progress actor) (own_acts actor moments)
progress_is shape [] progress actor = refl
progress_is shape (moment ∷ moments) progress actor = progress_is shape moments (moved_on shape progress moment) actor ∙ of (moment.actor == actor)
  where
    of : (b : Bool) → progress_of shape actor (if b then progressed shape actor (progress actor) moment.act else progress actor) (own_acts actor moments)
        ≡ progress_of shape actor (progress actor) (map (λ (m : CoreMoment). m.act) (if b then moment ∷ filter (λ (m : CoreMoment). m.actor == actor) moments else filter (λ (m : CoreMoment). m.actor == actor) moments))
    of true = refl
    of false = refl

-- moments that go on properly
pub record GoProperly (shape : GuestShape) (state : CoreState) (progress : ℕ → Progress) (moments : List CoreMoment) : Type 0 where
  pub actors : All (λ (m : CoreMoment). m.actor < actor_count shape) moments
  pub parts : (n : ℕ) → n < actor_count shape → IsTrue (are_parts shape n (is_some (progress n).operation) (own_acts n moments))
  pub run : IsRun shape state (entries_of moments)
  pub proper : (n : ℕ) → n < actor_count shape → IsProper shape n (progress n) (own_acts n moments)

pub split : (shape : GuestShape) (state : CoreState) (actor : ℕ) (act : Act) (moments : List CoreMoment) → IsRun shape state (entries_of (record { actor = actor; act = act } ∷ moments))
    → IsRun shape state (entries_of (record { actor = actor; act = act } ∷ [])) × IsRun shape (after_moment shape state (record { actor = actor; act = act })) (entries_of moments)
split shape state actor (begins operation lrs) moments run = (tt, run)
split shape state actor (makes made) moments run = ((run.0, tt), run.1)
split shape state actor (ends answer) moments run = (tt, run)

fits_first : (shape : GuestShape) (actor : ℕ) (within : Bool) (act : Act) (acts : List Act) → IsTrue (are_parts shape actor within (act ∷ acts)) → IsTrue (fits shape actor within act)
fits_first shape actor within (begins operation lrs) acts h = (and_parts (not within && has_registers shape actor lrs) (are_parts shape actor true acts) h).0
fits_first shape actor within (makes made) acts h = (and_parts within (are_parts shape actor within acts) h).0
fits_first shape actor within (ends answer) acts h = (and_parts within (are_parts shape actor false acts) h).0

-- whether an actor is in a part after what it does
within_next : (shape : GuestShape) (actor : ℕ) (p : Progress) (act : Act) → is_some (progressed shape actor p act).operation ≡ within_after (is_some p.operation) act
within_next shape actor p (begins operation lrs) = refl
within_next shape actor p (makes made) = ap is_some (operation_on shape actor made p)
within_next shape actor p (ends answer) = refl

module _ (shape : GuestShape) (state : CoreState) (progress : ℕ → Progress) (moment : CoreMoment) (moments : List CoreMoment) (go : GoProperly shape state progress (moment ∷ moments)) where
  first_there : moment.actor < actor_count shape
  first_there = All-head (λ (m : CoreMoment). m.actor < actor_count shape) moment moments go.actors

  pub first_acts : IsActing shape state progress moment.actor moment.act
  first_acts = record {
    there = first_there;
    fit =
        fits_first shape moment.actor (is_some (progress moment.actor).operation) moment.act (own_acts moment.actor moments)
        (subst (λ acts. IsTrue (are_parts shape moment.actor (is_some (progress moment.actor).operation) acts)) (own_here moment.actor moment.act moments) (go.parts moment.actor first_there));
    proper = (subst (λ acts. IsProper shape moment.actor (progress moment.actor) acts) (own_here moment.actor moment.act moments) (go.proper moment.actor first_there)).0;
    run = (split shape state moment.actor moment.act moments go.run).0;
  }

  mine_next : moved_on shape progress moment moment.actor ≡ progressed shape moment.actor (progress moment.actor) moment.act
  mine_next = ap (λ b. if b then progressed shape moment.actor (progress moment.actor) moment.act else progress moment.actor) (eq-eqb moment.actor moment.actor refl)

  other_next : (n : ℕ) → n ≢ moment.actor → moved_on shape progress moment n ≡ progress n
  other_next n differ = ap (λ b. if b then progressed shape n (progress n) moment.act else progress n) (ne_eqb moment.actor n (λ e. differ (sym e)))

  pub rest_go : GoProperly shape (after_moment shape state moment) (moved_on shape progress moment) moments
  rest_go = record {
    actors = All-tail (λ (m : CoreMoment). m.actor < actor_count shape) moment moments go.actors;
    parts = λ n there. elim (cases_eq n moment.actor) [
      | inl same ↦
          subst (λ m. IsTrue (are_parts shape m (is_some (moved_on shape progress moment m).operation) (own_acts m moments))) (sym same)
          (subst (λ b. IsTrue (are_parts shape moment.actor b (own_acts moment.actor moments))) (sym (ap (λ (p : Progress). is_some p.operation) mine_next ∙ within_next shape moment.actor (progress moment.actor) moment.act))
          (parts_next shape moment.actor (is_some (progress moment.actor).operation) moment.act (own_acts moment.actor moments)
          (subst (λ acts. IsTrue (are_parts shape moment.actor (is_some (progress moment.actor).operation) acts)) (own_here moment.actor moment.act moments) (go.parts moment.actor first_there))))
      | inr differ ↦
          subst (λ (p : Progress). IsTrue (are_parts shape n (is_some p.operation) (own_acts n moments))) (sym (other_next n differ))
          (subst (λ acts. IsTrue (are_parts shape n (is_some (progress n).operation) acts)) (own_other moment.actor n moment.act moments differ) (go.parts n there))
    ];
    run = (split shape state moment.actor moment.act moments go.run).1;
    proper = λ n there. elim (cases_eq n moment.actor) [
      | inl same ↦
          subst (λ m. IsProper shape m (moved_on shape progress moment m) (own_acts m moments)) (sym same)
          (subst (λ p. IsProper shape moment.actor p (own_acts moment.actor moments)) (sym mine_next)
          (subst (λ acts. IsProper shape moment.actor (progress moment.actor) acts) (own_here moment.actor moment.act moments) (go.proper moment.actor first_there)).1)
      | inr differ ↦
          subst (λ p. IsProper shape n p (own_acts n moments)) (sym (other_next n differ))
          (subst (λ acts. IsProper shape n (progress n) acts) (own_other moment.actor n moment.act moments differ) (go.proper n there))
    ];
  }

-- what others keep, and what an actor keeps by what it does itself, is so at every moment
pub record IsKeptBy (shape : GuestShape) (vcpu : ℕ) (Keeps : CoreState → Followed → Progress → Type 0) : Type 0 where
  pub other :
      (state : CoreState) (at : Followed) (progress : ℕ → Progress) (actor : ℕ) (act : Act) → actor ≢ vcpu → IsAt shape state at progress → IsActing shape state progress actor act → Keeps state at (progress vcpu)
      → Keeps (after_moment shape state (record { actor = actor; act = act })) (follow shape state at (record { actor = actor; act = act })) (progress vcpu)
  pub own :
      (state : CoreState) (at : Followed) (progress : ℕ → Progress) (act : Act) → IsAt shape state at progress → IsActing shape state progress vcpu act → Keeps state at (progress vcpu)
      → Keeps (after_moment shape state (record { actor = vcpu; act = act })) (follow shape state at (record { actor = vcpu; act = act })) (progressed shape vcpu (progress vcpu) act)

pub record IsKept (guest : IdealGuest) (number : ℕ) (moments : List CoreMoment) (vcpu : ℕ) (Keeps : CoreState → Followed → Progress → Type 0) : Type 0 where
  pub at : IsAt guest.shape (end_of_moments guest.shape (opening guest number) moments) (followed_in guest number moments) (progress_on guest.shape (opening_progress guest number) moments)
  pub keeps : Keeps (end_of_moments guest.shape (opening guest number) moments) (followed_in guest number moments) (progress_in guest number moments vcpu)

module _ (shape : GuestShape) (good : IsShape shape) (vcpu : ℕ) (Keeps : CoreState → Followed → Progress → Type 0) (by : IsKeptBy shape vcpu Keeps) where
  one_on :
      (state : CoreState) (at : Followed) (progress : ℕ → Progress) (actor : ℕ) (act : Act) → IsAt shape state at progress → IsActing shape state progress actor act → Keeps state at (progress vcpu)
      → Keeps (after_moment shape state (record { actor = actor; act = act })) (follow shape state at (record { actor = actor; act = act })) (moved_on shape progress (record { actor = actor; act = act }) vcpu)
  one_on state at progress actor act here acts kept = elim (cases_eq actor vcpu) [
    | inl same ↦ mine same
    | inr differ ↦
        subst (λ p. Keeps (after_moment shape state (record { actor = actor; act = act })) (follow shape state at (record { actor = actor; act = act })) p)
        (sym (ap (λ b. if b then progressed shape vcpu (progress vcpu) act else progress vcpu) (ne_eqb actor vcpu differ))) (by.other state at progress actor act differ here acts kept)
  ]
    where
      mine : actor ≡ vcpu → Keeps (after_moment shape state (record { actor = actor; act = act })) (follow shape state at (record { actor = actor; act = act })) (moved_on shape progress (record { actor = actor; act = act }) vcpu)
      mine same =
          subst (λ n. Keeps (after_moment shape state (record { actor = n; act = act })) (follow shape state at (record { actor = n; act = act })) (moved_on shape progress (record { actor = n; act = act }) vcpu)) (sym same)
          (subst (λ p. Keeps (after_moment shape state (record { actor = vcpu; act = act })) (follow shape state at (record { actor = vcpu; act = act })) p)
          (sym (ap (λ b. if b then progressed shape vcpu (progress vcpu) act else progress vcpu) (eq-eqb vcpu vcpu refl)))
          (by.own state at progress act here (subst (λ n. IsActing shape state progress n act) same acts) kept))

  record EndsSo (state : CoreState) (at : Followed) (progress : ℕ → Progress) (moments : List CoreMoment) : Type 0 where
    pub at_end : IsAt shape (end_of_moments shape state moments) (fold follows at (ideal_of shape state moments)) (progress_on shape progress moments)
    pub keeps : Keeps (end_of_moments shape state moments) (fold follows at (ideal_of shape state moments)) (progress_on shape progress moments vcpu)

  goes : (moments : List CoreMoment) (state : CoreState) (at : Followed) (progress : ℕ → Progress) → IsAt shape state at progress → Keeps state at (progress vcpu) → GoProperly shape state progress moments → EndsSo state at progress moments
  goes [] state at progress here kept go = record { at_end = here; keeps = kept }
  goes (moment ∷ moments) state at progress here kept go =
      let acts = first_acts shape state progress moment moments go in
      let later = after_moment shape state moment in
      let rest = goes moments later (follow shape state at moment) (moved_on shape progress moment) (at_next shape good state at progress moment.actor moment.act here acts) (one_on state at progress moment.actor moment.act here acts kept) (rest_go shape state progress moment moments go) in
      let joined = sym (fold-append follows at (ideal_moments shape (seat_at state moment.actor) moment.actor moment.act) (ideal_of shape later moments)) in
      record {
        at_end = subst (λ f. IsAt shape (end_of_moments shape later moments) f (progress_on shape (moved_on shape progress moment) moments)) joined rest.at_end;
        keeps = subst (λ f. Keeps (end_of_moments shape later moments) f (progress_on shape (moved_on shape progress moment) moments vcpu)) joined rest.keeps;
      }

pub at_opens : (guest : IdealGuest) (number : ℕ) → CanOpen guest → IsAt guest.shape (opening guest number) (opening_followed guest) (opening_progress guest number)
at_opens guest number good = record {
  sound = opens_sound guest number good;
  known = known_opens guest number good;
  related = related_opens guest number good;
  seats = λ actor there. subst (IsSeatOf (opening_progress guest number actor)) (sym (seat_opens guest number actor there)) (record { local = refl; own = refl });
  calls = λ actor there. ap (λ (d : Doing). d.operation) (get_or-replicate (actor_count guest.shape) actor (record { operation = None; number = 0; done = []; fetched = false }) (record { operation = None; number = 0; done = []; fetched = false }) there);
  rests = λ actor there none. subst (λ (s : Seat). IsTrue (is_settled s.local)) (sym (seat_opens guest number actor there)) refl;
  registers = λ actor there within. absurd (true≢false (sym within));
  doings_each = length-replicate (actor_count guest.shape) (record { operation = None; number = 0; done = []; fetched = false });
  changes_each = length-replicate (interrupt_count guest.shape) nothing;
  told = opens_told guest number (last_in guest.shape (opening_track guest.shape)) good;
}

-- every proper run
pub runs_keep :
    (guest : IdealGuest) (number vcpu : ℕ) (Keeps : CoreState → Followed → Progress → Type 0) → CanOpen guest → IsKeptBy guest.shape vcpu Keeps → Keeps (opening guest number) (opening_followed guest) (opening_progress guest number vcpu)
    → (moments : List CoreMoment) → IsProperRun guest number moments → IsKept guest number moments vcpu Keeps
runs_keep guest number vcpu Keeps good by opens moments proper =
    let ended = goes guest.shape good.sound.shape vcpu Keeps by moments (opening guest number) (opening_followed guest) (opening_progress guest number) (at_opens guest number good) opens
    (record { actors = proper.parted.actors; parts = proper.parted.parts; run = proper.parted.run; proper = proper.proper }) in
    record {
      at = ended.at_end;
      keeps = subst (λ p. Keeps (end_of_moments guest.shape (opening guest number) moments) (followed_in guest number moments) p) (progress_is guest.shape moments (opening_progress guest number) vcpu) ended.keeps;
    }
