-- Accesses of a CPU interface register, between the moves of the interrupt that they use.
use Rattle.std.proofs.Common.{◌≡◌, ℕ, ◌<◌, ◌==◌, zero, suc, Bool, true, false, not, ◌&&◌, ◌||◌, cond, IsTrue, Contains, List, [], ◌∷◌, ◌++◌, map, filter, replicate, Option, option_map, find, Some, None, is_some, refl, sym, ap, ◌∙◌, subst, slice_set, slice_index_or, arith, true≢false}
use Rattle.std.specs.Prelude.{option_and_then}
use Rattle.std.specs.List.{list_all}
use Rattle.std.specs.Option.{option_map_or}
use Rattle.std.proofs.lemmas.Bool.{and_from, eq-eqb}
use Rattle.floor_histories.specs.Words.{IccReg, Key, GuestShape, is_same_key, key_of, place_of, interrupt_count, key_at, Irq, is_number, is_pending}
use Rattle.floor_histories.proofs.GicBase.KeyLemmas.{same_itself}
use Rattle.floor_histories.specs.Calls.{with_irq_in, is_usable, Event, Reach, Leave, Cpu, Found, Moment, Happens, Moved, may_reach, reached, left, at_interface, Happened, named_of}
use Rattle.floor_histories.proofs.GicOpen.KeyLemmas.{irq_same}
use Rattle.floor_histories.specs.Registers.{Candidate, CpuRec, taken_by, deactivated_by, answer_of, cpu_after, InterfaceState, interface_after, interface_answer, acknowledged_at, deactivated_at}
use Rattle.floor_histories.specs.GicCall.declared.event.Found.TheVariants.{Nothing, Answer}
use Rattle.floor_histories.specs.Histories.{IdealGuest, irq_at, cpu_at, with_cpu, changed_irq, candidates, after_acknowledge, after_deactivation, access_answer, IsSound, Ideal, Standing, is_of, standing_at, moved_at, is_home, interface_at, shown_at, handed_out, after_reach, after_leave, standing_of, Track, Changes, is_open, changes_of, comes_first, is_excused, keys_in, asks_first, ended_by, is_far_active, is_last_open, last_since, is_late, left_behind, tracked}
use Rattle.floor_histories.specs.IdealGuests.Ideal.{after_access}
use Rattle.floor_histories.specs.GicHistory.Moves.{after_access as access_leaves}
use Rattle.law_eager_is_history.specs.Moments.{settled, happenings, moment_of}
use Rattle.law_eager_is_history.proofs.CourseLemmas.{state_after, AreFine}
use Rattle.law_eager_is_history.proofs.FreshLemmas.{IsFreshFrom, IsFreshAt, event_then, quiet_event}
use Rattle.law_eager_is_history.proofs.EventLemmas.{settled_quiet}
use Rattle.law_eager_is_history.proofs.StandLemmas.{standing, none_standing, nothing_at, here_at, interface_is, access_is, moved_here, leave_is, reach_is, only_here, twice}
use Rattle.law_eager_is_history.proofs.UseLemmas.{IsUse, alone}
use Rattle.law_eager_is_history.proofs.FirstLemmas.{all_keys}

-- the events of an access with its moves, from a guest where nothing stands at an interface
pub record IsSegment (guest : IdealGuest) (vcpu : ℕ) (reg : IccReg) (write : Option ℕ) (events : List Event) : Type 0 where
  pub fine : AreFine vcpu (settled guest) events
  pub leaves : state_after vcpu events (settled guest) ≡ (let s : Ideal = record { guest = after_access reg write guest vcpu; at = replicate guest.shape.vcpus []; spreads = None; has_its = None } in s)
  pub named : named_of (Some vcpu) (happenings vcpu events (settled guest)) ≡ (record { event = Cpu vcpu reg write; found = Answer (access_answer reg write guest vcpu) }) ∷ []
  pub there : Contains (happenings vcpu events (settled guest)) (record { event = Cpu vcpu reg write; found = Answer (access_answer reg write guest vcpu) })
  pub fresh : (early : Track) (late : List Moment) → early.leaving ≡ [] → ((later : Track) → later.leaving ≡ [] → IsFreshFrom (state_after vcpu events (settled guest)) later late)
      → IsFreshFrom (settled guest) early (map (moment_of vcpu) (happenings vcpu events (settled guest)) ++ late)

-- nothing changed since an interrupt got to the interface
since_none : (shape : GuestShape) (track : Track) (key : Key) → (slice_index_or (slice_set track.changes (place_of shape key) (record (changes_of shape track key) { since = [] })) (place_of shape key) (record { last = None; since = [] })).since ≡ []
since_none shape track key = of track.changes (place_of shape key) (changes_of shape track key)
  where
    of : (xs : List Changes) (i : ℕ) (c : Changes) → (slice_index_or (slice_set xs i (record c { since = [] })) i (record { last = None; since = [] })).since ≡ []
    of [] i c = refl
    of (x ∷ xs) zero c = refl
    of (x ∷ xs) (suc i) c = of xs i c

or_true : (a b : Bool) → a ≡ true → (a || b) ≡ true
or_true a b h = ap (λ x. x || b) h

-- The access uses an interrupt.

module _ (guest : IdealGuest) (sound : IsSound guest) (vcpu : ℕ) (there : vcpu < guest.shape.vcpus) (key : Key) (reg : IccReg) (write : Option ℕ) (usable : IsTrue (is_usable reg write)) (uses : IsUse guest vcpu key reg write) where
  abbrev n : ℕ
  n = guest.shape.vcpus

  abbrev moved_guest : IdealGuest
  moved_guest = changed_irq key (λ before. (reached before).irq) guest

  abbrev pub at_first : Ideal
  at_first = standing guest.shape.vcpus vcpu (changed_irq key (λ before. (reached before).irq) guest) ((record { key = key; entry = (reached (irq_at guest key)).entry }) ∷ [])

  record_there : irq_at (changed_irq key (λ before. (reached before).irq) guest) key ≡ (reached (irq_at guest key)).irq
  record_there = irq_same guest.shape key (reached (irq_at guest key)).irq guest.irqs sound.shape sound.irqs uses.there

  pub shows_alone : interface_at at_first vcpu ≡ alone guest vcpu key
  shows_alone =
      interface_is guest.shape.vcpus vcpu there (changed_irq key (λ before. (reached before).irq) guest) ((record { key = key; entry = (reached (irq_at guest key)).entry }) ∷ [])
      ∙ ap (λ (irq : Irq). let i : InterfaceState = record { cpu = cpu_at guest vcpu; at = at_interface key (record { irq = irq; entry = (reached (irq_at guest key)).entry }) ∷ [] } in i) record_there

  abbrev cpu_then : CpuRec
  cpu_then = cpu_after reg write (cpu_at guest vcpu) (candidates guest vcpu)

  abbrev at_last : Ideal
  at_last = standing guest.shape.vcpus vcpu (with_cpu (changed_irq key (λ before. (reached before).irq) guest) vcpu (cpu_after reg write (cpu_at guest vcpu) (candidates guest vcpu))) ((record { key = key; entry = uses.entry }) ∷ [])

  reaches : after_reach key vcpu (settled guest) ≡ at_first
  reaches = reach_is guest vcpu key

  accesses : access_leaves vcpu reg write at_first ≡ at_last
  accesses =
      access_is guest.shape.vcpus vcpu there (changed_irq key (λ before. (reached before).irq) guest) ((record { key = key; entry = (reached (irq_at guest key)).entry }) ∷ []) reg write (alone guest vcpu key) shows_alone
      ∙ ap (λ (cpu : CpuRec). standing guest.shape.vcpus vcpu (with_cpu (changed_irq key (λ before. (reached before).irq) guest) vcpu cpu) (map standing_of (interface_after reg write (alone guest vcpu key)).at)) uses.cpu
      ∙ ap (λ xs. standing guest.shape.vcpus vcpu (with_cpu (changed_irq key (λ before. (reached before).irq) guest) vcpu (cpu_after reg write (cpu_at guest vcpu) (candidates guest vcpu))) xs) uses.stays

  both : access_leaves vcpu reg write (after_reach key vcpu (settled guest)) ≡ at_last
  both = ap (access_leaves vcpu reg write) reaches ∙ accesses

  -- the records after the moves are those of the eager controller
  guest_after : (let g : IdealGuest = with_cpu (changed_irq key (λ before. (reached before).irq) guest) vcpu (cpu_after reg write (cpu_at guest vcpu) (candidates guest vcpu)) in changed_irq key (λ before. left vcpu (record { irq = before; entry = uses.entry })) g) ≡ after_access reg write guest vcpu
  guest_after =
      let cpu = cpu_after reg write (cpu_at guest vcpu) (candidates guest vcpu) in
      let base = with_cpu guest vcpu cpu in
      let one = (reached (irq_at guest key)).irq in
      ap (λ (irq : Irq). let g : IdealGuest = record base { irqs = with_irq_in guest.shape key (left vcpu (record { irq = irq; entry = uses.entry })) (with_irq_in guest.shape key one guest.irqs) } in g) record_there
      ∙ ap (λ irqs. let g : IdealGuest = record base { irqs = irqs } in g) (twice guest.shape key one (left vcpu (record { irq = one; entry = uses.entry })) guest.irqs)
      ∙ ap (λ (g : IdealGuest). with_cpu g vcpu cpu) uses.leaves
      ∙ ap (λ cpus. let g : IdealGuest = record (after_access reg write guest vcpu) { cpus = cpus } in g) (sym same_cpus)
    where
      same_cpus : (after_access reg write guest vcpu).cpus ≡ slice_set (after_deactivation (deactivated_by reg write (cpu_at guest vcpu)) (after_acknowledge (taken_by reg write (cpu_at guest vcpu) (candidates guest vcpu)) guest vcpu) vcpu).cpus vcpu (cpu_after reg write (cpu_at guest vcpu) (candidates guest vcpu))
      same_cpus = refl

  pub used_leaves : state_after vcpu (Reach key vcpu ∷ Cpu vcpu reg write ∷ Leave key vcpu ∷ []) (settled guest) ≡ (let s : Ideal = record { guest = after_access reg write guest vcpu; at = replicate guest.shape.vcpus []; spreads = None; has_its = None } in s)
  used_leaves =
      ap (after_leave key vcpu) both
      ∙ leave_is guest.shape.vcpus vcpu there (with_cpu (changed_irq key (λ before. (reached before).irq) guest) vcpu (cpu_after reg write (cpu_at guest vcpu) (candidates guest vcpu))) key uses.entry
      ∙ ap (λ g. standing guest.shape.vcpus vcpu g []) guest_after
      ∙ none_standing guest.shape.vcpus vcpu (after_access reg write guest vcpu)

  used_fine : AreFine vcpu (settled guest) (Reach key vcpu ∷ Cpu vcpu reg write ∷ Leave key vcpu ∷ [])
  used_fine =
      let at : IsTrue (is_some (moved_at (access_leaves vcpu reg write (after_reach key vcpu (settled guest))) vcpu key)) =
      subst (λ s. IsTrue (is_some (moved_at s vcpu key))) (sym both) (ap is_some (moved_here guest.shape.vcpus vcpu there (with_cpu (changed_irq key (λ before. (reached before).irq) guest) vcpu (cpu_after reg write (cpu_at guest vcpu) (candidates guest vcpu))) key uses.entry)) in (
        record { can = (uses.there, there); allowed = and_from (is_home (settled guest) key) (may_reach guest.shape key (irq_at guest key) vcpu (cpu_at guest vcpu)) ((settled_quiet guest vcpu).home key) uses.may },
        (
          record { can = (there, usable); allowed = refl },
          (record { can = (uses.there, there); allowed = at }, tt),
        ),
      )

  answer_is : handed_out (after_reach key vcpu (settled guest)) (Cpu vcpu reg write) ≡ Answer (access_answer reg write guest vcpu)
  answer_is =
      ap (λ s. Answer (interface_answer reg write (interface_at s vcpu))) reaches
      ∙ ap (λ i. Answer (interface_answer reg write i)) shows_alone
      ∙ ap Answer uses.answer

  -- nobody has to leave after the interrupt left
  gone : Bool → List (ℕ × Key)
  gone late = filter (λ (pair : ℕ × Key). not (pair.0 == vcpu && is_same_key pair.1 key)) (cond late ((vcpu, key) ∷ []) [])

  all_gone : (late : Bool) → gone late ≡ []
  unfolding gone
  all_gone false = refl
  all_gone true = ap (λ b. let pairs : List (ℕ × Key) = cond (not (b && is_same_key key key)) ((vcpu, key) ∷ []) [] in pairs) (eq-eqb vcpu vcpu refl) ∙ ap (λ b. let pairs : List (ℕ × Key) = cond (not b) ((vcpu, key) ∷ []) [] in pairs) (same_itself key)

  ended_gone : (state : Ideal) (track : Track) → state.guest.shape ≡ guest.shape → cpu_at state.guest vcpu ≡ cpu_at guest vcpu → filter (λ (pair : ℕ × Key). not (pair.0 == vcpu && is_same_key pair.1 key)) (left_behind state track (Cpu vcpu reg write)) ≡ []
  unfolding gone
  ended_gone state track shape cpu =
      ap (λ (c : CpuRec). filter keeps (option_map_or late (option_and_then (λ id. key_of id vcpu state.guest.shape) (deactivated_by reg write c)) [])) cpu
      ∙ ap (λ (s : GuestShape). filter keeps (option_map_or late (option_and_then (λ id. key_of id vcpu s) (deactivated_by reg write (cpu_at guest vcpu))) [])) shape
      ∙ of (deactivated_by reg write (cpu_at guest vcpu)) uses.ends
    where
      keeps : ℕ × Key → Bool
      keeps pair = not (pair.0 == vcpu && is_same_key pair.1 key)

      late : Key → List (ℕ × Key)
      late k = cond (is_late state track vcpu k) ((vcpu, k) ∷ []) []

      of : (o : Option ℕ) → ((id : ℕ) → o ≡ Some id → key_of id vcpu guest.shape ≡ Some key) → filter keeps (option_map_or late (option_and_then (λ id. key_of id vcpu guest.shape) o) []) ≡ []
      of None ends = refl
      of (Some id) ends = ap (λ k. filter keeps (option_map_or late k [])) (ends id refl) ∙ all_gone (is_late state track vcpu key)

  -- the three clauses at the access: the interrupt that is at the interface is the first, and nothing changed since it got there
  module _ (firsts : asks_first reg write ≡ true → (place : ℕ) → place < interrupt_count guest.shape → comes_first at_first vcpu (key_at guest.shape place) ≡ false) (only : (k : Key) → ended_by guest.shape vcpu reg write ≡ Some k → k ≡ key) (early : Track) where
    abbrev first : Ideal
    first = after_reach key vcpu (settled guest)

    abbrev last : Ideal
    last = access_leaves vcpu reg write (after_reach key vcpu (settled guest))

    abbrev found : Found
    found = Answer (interface_answer reg write (interface_at (after_reach key vcpu (settled guest)) vcpu))

    abbrev one : Track
    one = tracked (settled guest) (Happens vcpu (Reach key vcpu) Nothing) early

    abbrev two : Track
    two = tracked first (Happens vcpu (Cpu vcpu reg write) found) one

    abbrev three : Track
    three = tracked last (Happens vcpu (Leave key vcpu) Nothing) two

    left_none : early.leaving ≡ [] → three.leaving ≡ []
    left_none none =
        ap (λ xs. filter (λ (pair : ℕ × Key). not (pair.0 == vcpu && is_same_key pair.1 key)) ((xs ++ []) ++ left_behind first one (Cpu vcpu reg write))) none
        ∙ ended_gone first one refl refl

    not_home : is_home first key ≡ false
    not_home = ap (λ s. is_home s key) reaches ∙ of (is_home at_first key) refl
      where
        of : (b : Bool) → is_home at_first key ≡ b → b ≡ false
        of true e = absurd (true≢false (sym (same_itself key) ∙ only_here guest.shape.vcpus vcpu (changed_irq key (λ before. (reached before).irq) guest) key key (reached (irq_at guest key)).entry e there))
        of false e = refl

    acknowledge : (later : List Moment) (b : Bool) → asks_first reg write ≡ b → IsTrue (not b || list_all (λ k. not (comes_first first vcpu k) || is_excused later first one vcpu k) (keys_in guest.shape))
    acknowledge later false e = refl
    acknowledge later true e =
        all_keys guest.shape (λ k. not (comes_first first vcpu k) || is_excused later first one vcpu k)
        (λ place within. or_true (not (comes_first first vcpu (key_at guest.shape place))) (is_excused later first one vcpu (key_at guest.shape place)) (ap not (ap (λ s. comes_first s vcpu (key_at guest.shape place)) reaches ∙ firsts e place within)))

    ending : (o : Option Key) → ended_by guest.shape vcpu reg write ≡ o → IsTrue (option_map_or (λ k. not (is_far_active first vcpu k) || is_last_open guest.shape one vcpu k) o true)
    ending None e = refl
    ending (Some k) e =
        or_true (not (is_far_active first vcpu k)) (is_last_open guest.shape one vcpu k)
        (ap (λ j. not (is_home first j && is_number vcpu (irq_at first.guest j).act_by)) (only k e) ∙ ap (λ b. not (b && is_number vcpu (irq_at first.guest key).act_by)) not_home)

    now : IsFreshAt first one (Cpu vcpu reg write)
    now = record {
      acknowledge = λ later. acknowledge later (asks_first reg write) refl;
      interface = ap (λ xs. list_all (λ (standing : Standing). list_all (is_open one vcpu) (changes_of guest.shape one standing.key).since) xs)
          (ap (λ s. standing_at s vcpu) reaches ∙ here_at guest.shape.vcpus vcpu there (changed_irq key (λ before. (reached before).irq) guest) ((record { key = key; entry = (reached (irq_at guest key)).entry }) ∷ []))
          ∙ ap (λ since. list_all (is_open one vcpu) since && true) (since_none guest.shape early key);
      end = ending (ended_by guest.shape vcpu reg write) refl;
    }

    pub used_fresh : (late : List Moment) → early.leaving ≡ [] → ((later : Track) → later.leaving ≡ [] → IsFreshFrom (state_after vcpu (Reach key vcpu ∷ Cpu vcpu reg write ∷ Leave key vcpu ∷ []) (settled guest)) later late)
        → IsFreshFrom (settled guest) early (map (moment_of vcpu) (happenings vcpu (Reach key vcpu ∷ Cpu vcpu reg write ∷ Leave key vcpu ∷ []) (settled guest)) ++ late)
    used_fresh late none rest =
        event_then vcpu (Reach key vcpu) Nothing (settled guest) early (Happens vcpu (Cpu vcpu reg write) found ∷ Happens vcpu (Leave key vcpu) Nothing ∷ late) (quiet_event (Reach key vcpu) (settled guest) early refl)
        (event_then vcpu (Cpu vcpu reg write) found first one (Happens vcpu (Leave key vcpu) Nothing ∷ late) now
        (event_then vcpu (Leave key vcpu) Nothing last two late (quiet_event (Leave key vcpu) last two refl) (rest three (left_none none))))

pub used_segment :
    (guest : IdealGuest) (sound : IsSound guest) (vcpu : ℕ) (there : vcpu < guest.shape.vcpus) (key : Key) (reg : IccReg) (write : Option ℕ) (usable : IsTrue (is_usable reg write)) (uses : IsUse guest vcpu key reg write)
    → (asks_first reg write ≡ true → (place : ℕ) → place < interrupt_count guest.shape → comes_first (at_first guest sound vcpu there key reg write usable uses) vcpu (key_at guest.shape place) ≡ false)
    → ((k : Key) → ended_by guest.shape vcpu reg write ≡ Some k → k ≡ key) → IsSegment guest vcpu reg write (Reach key vcpu ∷ Cpu vcpu reg write ∷ Leave key vcpu ∷ [])
used_segment guest sound vcpu there key reg write usable uses firsts only =
    let reach : Happened = record { event = Reach key vcpu; found = Nothing } in
    let leave : Happened = record { event = Leave key vcpu; found = Nothing } in
    let access : Found → Happened = λ found. record { event = Cpu vcpu reg write; found = found } in
    let found = handed_out (after_reach key vcpu (settled guest)) (Cpu vcpu reg write) in
    let answer = answer_is guest sound vcpu there key reg write usable uses in
    record {
      fine = used_fine guest sound vcpu there key reg write usable uses;
      leaves = used_leaves guest sound vcpu there key reg write usable uses;
      named = ap (λ b. let xs : List Happened = cond (not b) (reach ∷ (access found ∷ cond (not b) (leave ∷ []) [])) (access found ∷ cond (not b) (leave ∷ []) []) in xs) (eq-eqb vcpu vcpu refl)
          ∙ ap (λ f. access f ∷ []) answer;
      there = subst (λ f. Contains (reach ∷ access f ∷ leave ∷ []) (access (Answer (access_answer reg write guest vcpu)))) (sym answer) (1, omega arith, refl);
      fresh = λ early late none rest. used_fresh guest sound vcpu there key reg write usable uses firsts only early late none rest;
    }

-- The access uses none.

no_change : (taken : Option Candidate) (ended : Option ℕ) → map standing_of (deactivated_at ended (acknowledged_at taken [])) ≡ []
no_change None None = refl
no_change None (Some id) = refl
no_change (Some f) None = refl
no_change (Some f) (Some id) = refl

module _ (guest : IdealGuest) (vcpu : ℕ) (there : vcpu < guest.shape.vcpus) (reg : IccReg) (write : Option ℕ) (usable : IsTrue (is_usable reg write))
    (frame : after_deactivation (deactivated_by reg write (cpu_at guest vcpu)) (after_acknowledge (taken_by reg write (cpu_at guest vcpu) (candidates guest vcpu)) guest vcpu) vcpu ≡ guest)
    (cpu_same : cpu_after reg write (cpu_at guest vcpu) [] ≡ cpu_after reg write (cpu_at guest vcpu) (candidates guest vcpu))
    (answer_same : answer_of reg write (cpu_at guest vcpu) [] ≡ access_answer reg write guest vcpu)
    (firsts : asks_first reg write ≡ true → (place : ℕ) → place < interrupt_count guest.shape → comes_first (settled guest) vcpu (key_at guest.shape place) ≡ false)
    (far : (k : Key) → ended_by guest.shape vcpu reg write ≡ Some k → is_number vcpu (irq_at guest k).act_by ≡ false) where
  abbrev bare : InterfaceState
  bare = record { cpu = cpu_at guest vcpu; at = [] }

  shows_none : interface_at (settled guest) vcpu ≡ (let i : InterfaceState = record { cpu = cpu_at guest vcpu; at = [] } in i)
  shows_none = ap (λ xs. let i : InterfaceState = record { cpu = cpu_at guest vcpu; at = map (shown_at (settled guest)) xs } in i) (nothing_at guest vcpu)

  unused_leaves : access_leaves vcpu reg write (settled guest) ≡ (let s : Ideal = record { guest = after_access reg write guest vcpu; at = replicate guest.shape.vcpus []; spreads = None; has_its = None } in s)
  unused_leaves =
      let cpu = cpu_at guest vcpu in
      ap (λ (i : InterfaceState). let s : Ideal = record { guest = with_cpu guest vcpu (interface_after reg write i).cpu; at = slice_set (replicate guest.shape.vcpus []) vcpu (map standing_of (interface_after reg write i).at); spreads = None; has_its = None } in s) shows_none
      ∙ ap (λ xs. standing guest.shape.vcpus vcpu (with_cpu guest vcpu (cpu_after reg write cpu [])) xs) (no_change (taken_by reg write cpu []) (deactivated_by reg write cpu))
      ∙ ap (λ (c : CpuRec). standing guest.shape.vcpus vcpu (with_cpu guest vcpu c) []) cpu_same
      ∙ ap (λ g. standing guest.shape.vcpus vcpu (with_cpu g vcpu (cpu_after reg write cpu (candidates guest vcpu))) []) (sym frame)
      ∙ none_standing guest.shape.vcpus vcpu (after_access reg write guest vcpu)

  unused_answer : handed_out (settled guest) (Cpu vcpu reg write) ≡ Answer (access_answer reg write guest vcpu)
  unused_answer = ap (λ i. Answer (interface_answer reg write i)) shows_none ∙ ap Answer answer_same

  unused_left : (track : Track) → left_behind (settled guest) track (Cpu vcpu reg write) ≡ []
  unused_left track = of (option_and_then (λ id. key_of id vcpu guest.shape) (deactivated_by reg write (cpu_at guest vcpu)))
    where
      late : Key → Bool
      late k = is_late (settled guest) track vcpu k

      never : (k : Key) → is_late (settled guest) track vcpu k ≡ false
      never k = ap (λ xs. option_map_or (λ (moved : Moved). moved.entry.active && not moved.entry.pending && is_pending moved.irq) (option_map (λ (standing : Standing). let m : Moved = record { irq = irq_at guest k; entry = standing.entry } in m) (find (is_of k) xs)) false
          && not (option_map_or (is_open track vcpu) (last_since (changes_of guest.shape track k)) false)) (nothing_at guest vcpu)

      of : (o : Option Key) → option_map_or (λ (k : Key). let pairs : List (ℕ × Key) = cond (is_late (settled guest) track vcpu k) ((vcpu, k) ∷ []) [] in pairs) o [] ≡ []
      of None = refl
      of (Some k) = ap (λ b. let pairs : List (ℕ × Key) = cond b ((vcpu, k) ∷ []) [] in pairs) (never k)

  unused_fresh : (early : Track) (late : List Moment) → early.leaving ≡ [] → ((later : Track) → later.leaving ≡ [] → IsFreshFrom (access_leaves vcpu reg write (settled guest)) later late)
      → IsFreshFrom (settled guest) early (Happens vcpu (Cpu vcpu reg write) (handed_out (settled guest) (Cpu vcpu reg write)) ∷ late)
  unused_fresh early late none rest =
      event_then vcpu (Cpu vcpu reg write) (handed_out (settled guest) (Cpu vcpu reg write)) (settled guest) early late now
      (rest (tracked (settled guest) (Happens vcpu (Cpu vcpu reg write) (handed_out (settled guest) (Cpu vcpu reg write))) early) (ap (λ xs. xs ++ left_behind (settled guest) early (Cpu vcpu reg write)) none ∙ unused_left early))
    where
      acknowledge : (later : List Moment) (b : Bool) → asks_first reg write ≡ b → IsTrue (not b || list_all (λ k. not (comes_first (settled guest) vcpu k) || is_excused later (settled guest) early vcpu k) (keys_in guest.shape))
      acknowledge later false e = refl
      acknowledge later true e =
          all_keys guest.shape (λ k. not (comes_first (settled guest) vcpu k) || is_excused later (settled guest) early vcpu k)
          (λ place within. or_true (not (comes_first (settled guest) vcpu (key_at guest.shape place))) (is_excused later (settled guest) early vcpu (key_at guest.shape place)) (ap not (firsts e place within)))

      ending : (o : Option Key) → ended_by guest.shape vcpu reg write ≡ o → IsTrue (option_map_or (λ k. not (is_far_active (settled guest) vcpu k) || is_last_open guest.shape early vcpu k) o true)
      ending None e = refl
      ending (Some k) e =
          or_true (not (is_far_active (settled guest) vcpu k)) (is_last_open guest.shape early vcpu k)
          (ap (λ b. not (is_home (settled guest) k && b)) (far k e) ∙ ap not (and_none (is_home (settled guest) k)))
        where
          and_none : (b : Bool) → (b && false) ≡ false
          and_none true = refl
          and_none false = refl

      now : IsFreshAt (settled guest) early (Cpu vcpu reg write)
      now = record {
        acknowledge = λ later. acknowledge later (asks_first reg write) refl;
        interface = ap (λ xs. list_all (λ (standing : Standing). list_all (is_open early vcpu) (changes_of guest.shape early standing.key).since) xs) (nothing_at guest vcpu);
        end = ending (ended_by guest.shape vcpu reg write) refl;
      }

  pub unused_segment : IsSegment guest vcpu reg write (Cpu vcpu reg write ∷ [])
  unused_segment =
      let access : Found → Happened = λ found. record { event = Cpu vcpu reg write; found = found } in
      record {
        fine = (record { can = (there, usable); allowed = refl }, tt);
        leaves = unused_leaves;
        named = ap (λ f. access f ∷ []) unused_answer;
        there = subst (λ f. Contains (access f ∷ []) (access (Answer (access_answer reg write guest vcpu)))) (sym unused_answer) (0, omega arith, refl);
        fresh = unused_fresh;
      }
