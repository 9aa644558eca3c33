-- What an event that is no access leaves of what stands at an interface as it was reached.
use Rattle.std.proofs.Common.{◌≡◌, ◌≢◌, ℕ, ◌<◌, ◌==◌, ◌&&◌, ◌||◌, ◌⊎◌, not, inl, inr, true≢false, Bool, true, false, cond, IsTrue, List, [], ◌∷◌, ◌++◌, filter, length, slice_index_or, Contains, Option, option_map, Some, None, is_none, refl, sym, ap, ◌∙◌, subst}
use Rattle.std.specs.Option.{option_map_or}
use Rattle.std.proofs.lemmas.Bool.{cases_eq, and_parts}
use Rattle.std.proofs.lemmas.List.Elements.{Contains-append_left}
use Rattle.law_home_commutes.specs.Words.{Key, Private, Spi, Lpi, GuestShape, has_interrupt, interrupt_count, is_same_key, place_of, IsShape, Irq, cleared, raised, wire_up, wire_down, is_number, is_pending, is_ripe}
use Rattle.law_home_commutes.proofs.GicBase.KeyLemmas.{same_itself, other_key}
use Rattle.law_home_commutes.specs.Registers.{CpuRec, is_deliverable, is_group_enabled, takes_kind}
use Rattle.law_home_commutes.specs.Calls.{Event, Up, Down, Touch, Reach, Take, Leave, Enable, Cpu, Found, Happens, Runs, Done, Stalls, Entry, Moved, may_reach, may_take, reached, taken, left, touched, CanHappen}
use Rattle.law_home_commutes.specs.GicCall.declared.event.Event.TheVariants.{Raise, Queue}
use Rattle.law_home_commutes.specs.Histories.{irq_at, cpu_at, Changes, Track, changes_of, changed_by, after_changes, after_leaving, left_behind, happened, with_entry, without, Ideal, Standing, standing_at, is_of, is_home, moved_at, with_irq, with_standing}
use Rattle.law_home_commutes.proofs.IdealGuests.KeyLemmas.{irq_changed}
use Rattle.law_scans_miss_none.proofs.VcpuRefill.ElementLemmas.{Contains-filter}
use Rattle.law_home_commutes.proofs.LawHistories.StandLemmas.{of_key, standing_of_key, home_nowhere, put_here, put_other, added_key, added_other, entry_key, entry_other, left_other}
use Rattle.law_home_commutes.proofs.EventLemmas.{is_other, change_by, changed_is, at_after}
use Rattle.law_home_commutes.proofs.SpotLemmas.{IsTidy, entry_found}
use Rattle.law_scans_miss_none.specs.LawRegistersStand.Followed.{Followed, follows}
use Rattle.law_scans_miss_none.proofs.TrackLemmas.{subject, kind_of, Kind, reaches, alters, keeps, key_cases, changes_apart, last_made, happens_changes}
use Rattle.law_accesses_show_home.specs.Stay.{IsWhollyThere, IsAsReached}
use Rattle.law_accesses_show_home.proofs.StayLemmas.{same_entry, there_so, stored_cases, some_pushed}

-- so it is of all that stands at interfaces
abbrev pub AllAsReached : GuestShape → Followed → Type 0
AllAsReached shape at = (key : Key) (vcpu : ℕ) (entry : Entry) → of_key at.ideal key vcpu ≡ standing_of_key key entry ∷ [] → (changes_of shape at.track key).since ≡ [] → IsAsReached shape at vcpu (standing_of_key key entry)

-- Events.

abbrev pub is_leave : Event → Bool
is_leave (Leave key vcpu) = true
is_leave event = false

-- what is to leave stays so, but for what leaves
leaves_more : (ideal : Ideal) (event : Event) (track : Track) (pair : ℕ × Key) → is_leave event ≡ false → Contains track.leaving pair → Contains (after_leaving ideal event track).leaving pair
leaves_more ideal (Leave key vcpu) track pair e h = absurd (true≢false e)
leaves_more ideal (Cpu vcpu reg write) track pair e h = Contains-append_left track.leaving (left_behind ideal track (Cpu vcpu reg write)) pair h
leaves_more ideal event track pair e h = Contains-append_left track.leaving [] pair h

not_leave : (event : Event) → IsTrue (is_other event) → is_leave event ≡ false
not_leave (Leave key vcpu) h = absurd (cc)
not_leave event h = refl

-- an event that is neither a move nor an access is of what it changes
subject_changed : (event : Event) → IsTrue (is_other event) → subject event ≡ changed_by event
subject_changed (Reach key vcpu) h = absurd (cc)
subject_changed event h = refl

-- the record of an interrupt that it does not change stays
unchanged : (shape : GuestShape) (key : Key) (event : Event) (irq : Irq) → option_map_or (is_same_key key) (changed_by event) false ≡ false → change_by shape key event irq ≡ irq
unchanged shape key (Raise other) irq h = ap (λ b. cond b (raised irq) irq) h
unchanged shape key (Up other) irq h = ap (λ b. cond b (wire_up irq) irq) h
unchanged shape key (Down other) irq h = ap (λ b. cond b (wire_down irq) irq) h
unchanged shape key (Touch other touching) irq h = ap (λ b. cond b (touched shape other touching irq) irq) h
unchanged shape key event irq h = refl

-- a vCPU that takes LPIs goes on to
kind_on : (ideal : Ideal) (actor : ℕ) (event : Event) (key : Key) (vcpu : ℕ) → IsTrue (is_other event) → IsTrue (takes_kind key (cpu_at ideal.guest vcpu)) → IsTrue (takes_kind key (cpu_at (happened actor event ideal).guest vcpu))
kind_on ideal actor (Enable v) key vcpu h is = stored_cases (λ c. IsTrue (takes_kind key c)) ideal.guest.cpus v vcpu (record (cpu_at ideal.guest v) { lpis = true }) _ (enabled key) is
  where
    enabled : (k : Key) → IsTrue (takes_kind k (record (cpu_at ideal.guest v) { lpis = true }))
    enabled (Private w id) = refl
    enabled (Spi id) = refl
    enabled (Lpi id) = refl
kind_on ideal actor (Reach other v) key vcpu h is = absurd (cc)
kind_on ideal actor (Take other v) key vcpu h is = absurd (cc)
kind_on ideal actor (Leave other v) key vcpu h is = absurd (cc)
kind_on ideal actor (Cpu v reg write) key vcpu h is = absurd (cc)
kind_on ideal actor (Queue offset Runs) key vcpu h is = is
kind_on ideal actor (Queue offset (Done words)) key vcpu h is = is
kind_on ideal actor (Queue offset (Stalls fault)) key vcpu h is = is
kind_on ideal actor event key vcpu h is = is

-- What any event leaves of what it is not of.

module _ (shape : GuestShape) (good : IsShape shape) (at : Followed) (tidy : IsTidy shape at.ideal) (each : length at.track.changes ≡ interrupt_count shape) (before : AllAsReached shape at) (actor : ℕ) (event : Event) (found : Found) (can : CanHappen shape event) where
  abbrev pub after : Followed
  after = follows at (Happens actor event found)

  pub since_is : (key : Key) → (changes_of shape after.track key).since ≡ (changes_of shape (after_changes shape actor event at.track) key).since
  since_is key = ap (λ cs. (slice_index_or {A = Changes} cs (place_of shape key) (record { last = None; since = [] })).since) (happens_changes shape good at.ideal actor event found at.track tidy.shape_is can)

  -- what nobody changed since it got there is not what the event changes
  pub not_changed : (key : Key) → IsTrue (has_interrupt shape key) → (changes_of shape after.track key).since ≡ [] → option_map_or (is_same_key key) (changed_by event) false ≡ false
  not_changed key there none = of (option_map_or (is_same_key key) (changed_by event) false) refl
    where
      of : (b : Bool) → option_map_or (is_same_key key) (changed_by event) false ≡ b → b ≡ false
      of false e = refl
      of true e = absurd (some_pushed (changes_of shape at.track key).since _ (sym (ap (λ (c : Changes). c.since) (last_made shape good actor event at.track can key there each e)) ∙ sym (since_is key) ∙ none))

  kept_leaving : (after_changes at.ideal.guest.shape actor event at.track).leaving ≡ at.track.leaving
  kept_leaving = of (kind_of at.ideal.guest.shape actor event at.track (subst (λ s. CanHappen s event) (sym tidy.shape_is) can))
    where
      of : Kind at.ideal.guest.shape actor event at.track → (after_changes at.ideal.guest.shape actor event at.track).leaving ≡ at.track.leaving
      of (reaches key there e changed is) = ap (λ (t : Track). t.leaving) e
      of (alters key there e changed is) = ap (λ (t : Track). t.leaving) e
      of (keeps e changed is) = ap (λ (t : Track). t.leaving) e

  pub leaves_still : (pair : ℕ × Key) → is_leave event ≡ false → Contains at.track.leaving pair → Contains after.track.leaving pair
  leaves_still pair e h = leaves_more at.ideal event (after_changes at.ideal.guest.shape actor event at.track) pair e (subst (λ l. Contains l pair) (sym kept_leaving) h)

  -- it stands there as it did
  pub stays :
      (key : Key) (vcpu : ℕ) (entry : Entry) → IsTrue (has_interrupt shape key) → (subject event ≡ Some key → ⊥) → irq_at after.ideal.guest key ≡ irq_at at.ideal.guest key
      → (IsTrue (takes_kind key (cpu_at at.ideal.guest vcpu)) → IsTrue (takes_kind key (cpu_at after.ideal.guest vcpu))) → (Contains at.track.leaving (vcpu, key) → Contains after.track.leaving (vcpu, key))
      → of_key at.ideal key vcpu ≡ standing_of_key key entry ∷ [] → (changes_of shape after.track key).since ≡ [] → IsAsReached shape after vcpu (standing_of_key key entry)
  stays key vcpu entry there apart irq kind leaving here none =
      let is = before key vcpu entry here (ap (λ (c : Changes). c.since) (sym (changes_apart shape good actor event at.track can key there apart)) ∙ sym (since_is key) ∙ none) in
      record {
        pending = λ p.
            let wholly = is.pending p in
            record {
              no_rise = ap (λ (i : Irq). i.rise) irq ∙ wholly.no_rise;
              no_soft = ap (λ (i : Irq). i.soft) irq ∙ wholly.no_soft;
              ripe = subst (λ (i : Irq). IsTrue (is_ripe (record i { rise = entry.rise; soft = entry.soft }) vcpu shape)) (sym irq) wholly.ripe;
              kind = kind wholly.kind;
            };
        leaves = λ p a h. leaving (is.leaves p a (ap is_pending (sym irq) ∙ h));
      }

  -- it is pending there with all its causes
  pub wholly :
      (key : Key) (vcpu : ℕ) (entry : Entry) (irq : Irq) → irq_at after.ideal.guest key ≡ irq → irq.rise ≡ false → irq.soft ≡ false → IsTrue (is_ripe (record irq { rise = entry.rise; soft = entry.soft }) vcpu shape)
      → IsTrue (takes_kind key (cpu_at after.ideal.guest vcpu)) → IsWhollyThere shape after.ideal vcpu (standing_of_key key entry)
  wholly key vcpu entry irq is rise soft ripe kind = record {
    no_rise = ap (λ (i : Irq). i.rise) is ∙ rise;
    no_soft = ap (λ (i : Irq). i.soft) is ∙ soft;
    ripe = subst (λ (i : Irq). IsTrue (is_ripe (record i { rise = entry.rise; soft = entry.soft }) vcpu shape)) (sym is) ripe;
    kind = kind;
  }

  -- an event that is neither a move nor an access
  pub other_stays : IsTrue (is_other event) → AllAsReached shape after
  other_stays h key vcpu entry here none =
      let was : of_key at.ideal key vcpu ≡ standing_of_key key entry ∷ [] = subst (λ (all : List (List Standing)). filter (is_of key) (slice_index_or all vcpu []) ≡ standing_of_key key entry ∷ []) (at_after actor event at.ideal h) here in
      let there = (there_so shape at.ideal tidy key vcpu entry was).there in
      let same = not_changed key there none in
      stays key vcpu entry there (λ is. true≢false (sym (ap (λ o. option_map_or (is_same_key key) o false) (sym (subject_changed event h) ∙ is) ∙ same_itself key) ∙ same))
      (changed_is at.ideal key tidy.whole (subst (λ s. IsTrue (has_interrupt s key)) (sym tidy.shape_is) there) actor event h ∙ unchanged at.ideal.guest.shape key event (irq_at at.ideal.guest key) same)
      (kind_on at.ideal actor event key vcpu h) (leaves_still (vcpu, key) (not_leave event h)) was none

-- Moves.

-- what is deliverable to a vCPU is ripe for it, and of a kind that it takes
pub delivered : (key : Key) (irq : Irq) (vcpu : ℕ) (cpu : CpuRec) (shape : GuestShape) → IsTrue (is_deliverable key irq vcpu cpu shape) → IsTrue (is_ripe irq vcpu shape) × IsTrue (takes_kind key cpu)
delivered key irq vcpu cpu shape h =
    let all = and_parts (is_ripe irq vcpu shape && is_none irq.act_by && is_group_enabled irq.group cpu) (takes_kind key cpu) h in
    ((and_parts (is_ripe irq vcpu shape) (is_none irq.act_by) (and_parts (is_ripe irq vcpu shape && is_none irq.act_by) (is_group_enabled irq.group cpu) all.0).0).0, all.1)

-- an interrupt that may get to an interface is there with all its causes, or is active there
module _ (shape : GuestShape) (key : Key) (irq : Irq) (vcpu : ℕ) (cpu : CpuRec) (after : Followed) (may : IsTrue (may_reach shape key irq vcpu cpu)) (now : irq_at after.ideal.guest key ≡ (reached irq).irq) (cpu_is : cpu_at after.ideal.guest vcpu ≡ cpu) where
  reached_so : IsAsReached shape after vcpu (standing_of_key key (reached irq).entry)
  reached_so = of irq.act_by refl
    where
      of : (o : Option ℕ) → irq.act_by ≡ o → IsAsReached shape after vcpu (standing_of_key key (reached irq).entry)
      of (Some by) e = subst (λ (n : Entry). IsAsReached shape after vcpu (standing_of_key key n)) (ap (λ o. (cond (is_none o) (let m : Moved = record { irq = cleared irq; entry = record { pending = true; active = false; rise = irq.rise; soft = irq.soft } } in m) (record { irq = irq; entry = record { pending = false; active = true; rise = false; soft = false } })).entry) (sym e))
          (record { pending = λ p. absurd (true≢false (sym p)); leaves = λ p a h. absurd (true≢false a) })
      of None e =
          let deliverable = delivered key irq vcpu cpu shape (subst (λ o. IsTrue (is_number vcpu o || is_deliverable key irq vcpu cpu shape)) e may) in
          let here : irq_at after.ideal.guest key ≡ cleared irq = now ∙ ap (λ o. (cond (is_none o) (let m : Moved = record { irq = cleared irq; entry = record { pending = true; active = false; rise = irq.rise; soft = irq.soft } } in m) (record { irq = irq; entry = record { pending = false; active = true; rise = false; soft = false } })).irq) e in
          subst (λ (n : Entry). IsAsReached shape after vcpu (standing_of_key key n)) (ap (λ o. (cond (is_none o) (let m : Moved = record { irq = cleared irq; entry = record { pending = true; active = false; rise = irq.rise; soft = irq.soft } } in m) (record { irq = irq; entry = record { pending = false; active = true; rise = false; soft = false } })).entry) (sym e))
          (record {
            pending = λ p. record {
              no_rise = ap (λ (i : Irq). i.rise) here;
              no_soft = ap (λ (i : Irq). i.soft) here;
              ripe = subst (λ (i : Irq). IsTrue (is_ripe (record i { rise = irq.rise; soft = irq.soft }) vcpu shape)) (sym here) deliverable.0;
              kind = subst (λ c. IsTrue (takes_kind key c)) (sym cpu_is) deliverable.1;
            };
            leaves = λ p a h. absurd (true≢false p);
          })

module _ (shape : GuestShape) (good : IsShape shape) (at : Followed) (tidy : IsTidy shape at.ideal) (each : length at.track.changes ≡ interrupt_count shape) (before : AllAsReached shape at) (actor : ℕ) (other : Key) (w : ℕ) (found : Found) (few : w < shape.vcpus) (there : IsTrue (has_interrupt shape other)) where
  within : w < length at.ideal.at
  within = subst (λ n. w < n) (sym tidy.seats) few

  guest_has : (key : Key) → IsTrue (has_interrupt shape key) → IsTrue (has_interrupt at.ideal.guest.shape key)
  guest_has key is = subst (λ s. IsTrue (has_interrupt s key)) (sym tidy.shape_is) is

  -- the record of an interrupt once that one's is stored
  stored_here : (irq : Irq) → irq_at (with_irq at.ideal other irq).guest other ≡ irq
  stored_here irq = irq_changed at.ideal.guest other other (λ b. irq) tidy.whole (guest_has other there) ∙ ap (λ b. cond b irq (irq_at at.ideal.guest other)) (same_itself other)

  stored_other : (irq : Irq) (key : Key) → IsTrue (has_interrupt shape key) → key ≢ other → irq_at (with_irq at.ideal other irq).guest key ≡ irq_at at.ideal.guest key
  stored_other irq key is differ = irq_changed at.ideal.guest other key (λ b. irq) tidy.whole (guest_has key is) ∙ ap (λ b. cond b irq (irq_at at.ideal.guest key)) (other_key key other differ)

  -- and what stands at the interface once others stand there
  pub placed_as : (key : Key) (vcpu : ℕ) (standing : List Standing) → filter (is_of key) standing ≡ of_key at.ideal key w → of_key (with_standing at.ideal w standing) key vcpu ≡ of_key at.ideal key vcpu
  placed_as key vcpu standing same = elim (cases_eq vcpu w) [
    | inl e ↦ subst (λ v. of_key (with_standing at.ideal w standing) key v ≡ of_key at.ideal key v) (sym e) (put_here at.ideal key w standing within ∙ same)
    | inr differ ↦ put_other at.ideal key w standing vcpu differ
  ]

  pub reach_stays : IsTrue (is_home at.ideal other) → IsTrue (may_reach shape other (irq_at at.ideal.guest other) w (cpu_at at.ideal.guest w)) → AllAsReached shape (follows at (Happens actor (Reach other w) found))
  reach_stays home may key vcpu entry here none = elim (key_cases key other) [
    | inr differ ↦
        let moved = reached (irq_at at.ideal.guest other) in
        let standing = standing_at at.ideal w ++ standing_of_key other moved.entry ∷ [] in
        let was = sym (placed_as key vcpu standing (added_other key (standing_at at.ideal w) (standing_of_key other moved.entry) (other_key other key (λ e. differ (sym e))))) ∙ here in
        let is = (there_so shape at.ideal tidy key vcpu entry was).there in
        stays shape good at tidy each before actor (Reach other w) found (there, few) key vcpu entry is (λ e. differ (sym (same_some other key e))) (stored_other moved.irq key is differ) (λ k. k)
        (leaves_still shape good at tidy each before actor (Reach other w) found (there, few) (vcpu, key) refl) was none
    | inl same ↦ subst (λ k. of_key (follows at (Happens actor (Reach other w) found)).ideal k vcpu ≡ standing_of_key k entry ∷ [] → IsAsReached shape (follows at (Happens actor (Reach other w) found)) vcpu (standing_of_key k entry)) (sym same) itself here
  ]
    where
      same_some : (a b : Key) → Some a ≡ Some b → a ≡ b
      same_some a b e = cc

      moved : Moved
      moved = reached (irq_at at.ideal.guest other)

      standing : List Standing
      standing = standing_at at.ideal w ++ standing_of_key other moved.entry ∷ []

      itself : of_key (follows at (Happens actor (Reach other w) found)).ideal other vcpu ≡ standing_of_key other entry ∷ [] → IsAsReached shape (follows at (Happens actor (Reach other w) found)) vcpu (standing_of_key other entry)
      itself here = elim (cases_eq vcpu w) [
        | inr differ ↦ absurd (let e = sym (put_other at.ideal other w standing vcpu differ ∙ home_nowhere at.ideal other home vcpu) ∙ here in cc)
        | inl e ↦
            let so : moved.entry ≡ entry = same_entry other moved.entry entry (sym (put_here at.ideal other w standing within ∙ added_key other (standing_at at.ideal w) moved.entry (home_nowhere at.ideal other home w)) ∙ subst (λ v. of_key (with_standing at.ideal w standing) other v ≡ standing_of_key other entry ∷ []) e here) in
            subst (λ v. IsAsReached shape (follows at (Happens actor (Reach other w) found)) v (standing_of_key other entry)) (sym e)
            (subst (λ n. IsAsReached shape (follows at (Happens actor (Reach other w) found)) w (standing_of_key other n)) so
            (reached_so shape other (irq_at at.ideal.guest other) w (cpu_at at.ideal.guest w) (follows at (Happens actor (Reach other w) found)) may (stored_here moved.irq) refl))
      ]

  abbrev after_taken : Followed
  after_taken = follows at (Happens actor (Take other w) found)

  pub take_stays : (old : Entry) → of_key at.ideal other w ≡ standing_of_key other old ∷ [] → IsTrue (may_take shape other (record { irq = irq_at at.ideal.guest other; entry = old }) w (cpu_at at.ideal.guest w)) → AllAsReached shape after_taken
  take_stays old was_there may key vcpu entry here none = by_key (key_cases key other)
    where
      moved : Moved
      moved = record { irq = irq_at at.ideal.guest other; entry = old }

      standing : List Standing
      standing = with_entry other (taken moved).entry (standing_at at.ideal w)

      goes : after_taken.ideal ≡ with_standing (with_irq at.ideal other (taken moved).irq) w standing
      goes = ap (λ o. option_map_or (λ moved. with_standing (with_irq at.ideal other (taken moved).irq) w (with_entry other (taken moved).entry (standing_at at.ideal w))) (option_map (λ standing. let m : Moved = record { irq = irq_at at.ideal.guest other; entry = standing.entry } in m) o) at.ideal)
          (entry_found at.ideal other w old was_there)

      here_then : (k : Key) → of_key after_taken.ideal k vcpu ≡ standing_of_key k entry ∷ [] → of_key (with_standing at.ideal w standing) k vcpu ≡ standing_of_key k entry ∷ []
      here_then k h = subst (λ (i : Ideal). of_key i k vcpu ≡ standing_of_key k entry ∷ []) goes h

      itself : of_key after_taken.ideal other vcpu ≡ standing_of_key other entry ∷ [] → IsAsReached shape after_taken vcpu (standing_of_key other entry)
      itself h = elim (cases_eq vcpu w) [
        | inr differ ↦ absurd (let e = sym (put_other at.ideal other w standing vcpu differ ∙ (there_so shape at.ideal tidy other w old was_there).elsewhere vcpu differ) ∙ here_then other h in cc)
        | inl e ↦
            let so : (taken moved).entry ≡ entry = same_entry other (taken moved).entry entry (sym (put_here at.ideal other w standing within ∙ entry_key other old (taken moved).entry (standing_at at.ideal w) was_there) ∙ subst (λ v. of_key (with_standing at.ideal w standing) other v ≡ standing_of_key other entry ∷ []) e (here_then other h)) in
            subst (λ v. IsAsReached shape after_taken v (standing_of_key other entry)) (sym e) (subst (λ n. IsAsReached shape after_taken w (standing_of_key other n)) so taken_so)
      ]
        where
          taken_so : IsAsReached shape after_taken w (standing_of_key other (taken moved).entry)
          taken_so =
              let now : irq_at after_taken.ideal.guest other ≡ cleared (irq_at at.ideal.guest other) = ap (λ (i : Ideal). irq_at i.guest other) goes ∙ stored_here (taken moved).irq in
              let bare : Irq = record (irq_at at.ideal.guest other) { act_by = None } in
              let cpu = cpu_at at.ideal.guest w in
              let deliverable = delivered other bare w cpu shape (and_parts (old.active && not old.pending) (is_deliverable other bare w cpu shape) may).1 in
              record {
                pending = λ p. wholly shape good at tidy each before actor (Take other w) found (there, few) other w (taken moved).entry (cleared (irq_at at.ideal.guest other)) now refl refl deliverable.0 (subst (λ (i : Ideal). IsTrue (takes_kind other (cpu_at i.guest w))) (sym goes) deliverable.1);
                leaves = λ p a h. absurd (true≢false p);
              }

      by_key : (key ≡ other) ⊎ (key ≢ other) → IsAsReached shape after_taken vcpu (standing_of_key key entry)
      by_key (inl same) = subst (λ k. of_key after_taken.ideal k vcpu ≡ standing_of_key k entry ∷ [] → IsAsReached shape after_taken vcpu (standing_of_key k entry)) (sym same) itself here
      by_key (inr differ) =
          let was = sym (placed_as key vcpu standing (entry_other key other (taken moved).entry (standing_at at.ideal w) (other_key key other differ))) ∙ here_then key here in
          let is = (there_so shape at.ideal tidy key vcpu entry was).there in
          stays shape good at tidy each before actor (Take other w) found (there, few) key vcpu entry is (λ e. none_some key e) (ap (λ (i : Ideal). irq_at i.guest key) goes ∙ stored_other (taken moved).irq key is differ)
          (λ k. subst (λ (i : Ideal). IsTrue (takes_kind key (cpu_at i.guest vcpu))) (sym goes) k) (leaves_still shape good at tidy each before actor (Take other w) found (there, few) (vcpu, key) refl) was none
        where
          none_some : (k : Key) → subject (Take other w) ≡ Some k → ⊥
          none_some k e = cc

  abbrev after_left : Followed
  after_left = follows at (Happens actor (Leave other w) found)

  -- what holds of the state, and of the one without it there, holds after it left
  left_cases : (P : Ideal → Type 0) → P at.ideal → ((irq : Irq) → P (with_standing (with_irq at.ideal other irq) w (without other (standing_at at.ideal w)))) → P after_left.ideal
  left_cases P same move = of (moved_at at.ideal w other)
    where
      of : (o : Option Moved) → P (option_map_or (λ moved. with_standing (with_irq at.ideal other (left w moved)) w (without other (standing_at at.ideal w))) o at.ideal)
      of None = same
      of (Some moved) = move (left w moved)

  pub leave_stays : AllAsReached shape after_left
  leave_stays key vcpu entry here none = by_key (key_cases key other)
    where
      none_if : of_key after_left.ideal other vcpu ≡ standing_of_key other entry ∷ [] → (changes_of shape after_left.track other).since ≡ [] → ⊥
      none_if here none = true≢false (sym (same_itself other) ∙ not_changed shape good at tidy each before actor (Leave other w) found (there, few) other there none)

      same_some : (a b : Key) → Some a ≡ Some b → a ≡ b
      same_some a b e = cc

      by_key : (key ≡ other) ⊎ (key ≢ other) → IsAsReached shape after_left vcpu (standing_of_key key entry)
      by_key (inl same) = absurd (none_if (subst (λ k. of_key after_left.ideal k vcpu ≡ standing_of_key k entry ∷ []) same here) (subst (λ k. (changes_of shape after_left.track k).since ≡ []) same none))
      by_key (inr differ) =
          let was : of_key at.ideal key vcpu ≡ standing_of_key key entry ∷ [] =
          sym (left_cases (λ (s : Ideal). of_key s key vcpu ≡ of_key at.ideal key vcpu) refl (λ irq. placed_as key vcpu (without other (standing_at at.ideal w)) (left_other key other (standing_at at.ideal w) (other_key key other differ)))) ∙ here in
          let is = (there_so shape at.ideal tidy key vcpu entry was).there in
          stays shape good at tidy each before actor (Leave other w) found (there, few) key vcpu entry is (λ e. differ (sym (same_some other key e)))
          (left_cases (λ (s : Ideal). irq_at s.guest key ≡ irq_at at.ideal.guest key) refl (λ irq. stored_other irq key is differ))
          (λ k. left_cases (λ (s : Ideal). IsTrue (takes_kind key (cpu_at s.guest vcpu))) k (λ irq. k))
          (λ h. Contains-filter (λ pair. not (pair.0 == w && is_same_key pair.1 other)) at.track.leaving (vcpu, key) (ap (λ b. not ((vcpu == w) && b)) (other_key key other differ) ∙ ap not (and_none (vcpu == w))) h) was none
        where
          and_none : (b : Bool) → (b && false) ≡ false
          and_none true = refl
          and_none false = refl
