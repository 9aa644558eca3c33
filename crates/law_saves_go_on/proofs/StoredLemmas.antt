-- Each step of the ideal controller leaves in the plain words only bits that they store.
use Rattle.std.proofs.Common.{◌≡◌, ℕ, zero, suc, ◌<◌, ◌||◌, not, Bool, true, false, cond, IsTrue, Option, Some, None, List, [], ◌∷◌, All, length, get_or, map, inl, inr, refl, sym, ap, ◌∙◌, subst}
use Rattle.std.specs.Option.{option_map_or}
use Rattle.std.specs.List.{slice_index, slice_set, slice_get}
use Rattle.std.proofs.lemmas.Bool.Decides.{eqb_tells}
use Rattle.std.proofs.lemmas.List.{length-set, length-replicate, get_or-set_same, get_or-set_other}
use Rattle.std.proofs.lemmas.List.Elements.{All-head, All-tail, All-set, All-map, All-get_or, All-weaker}
use Rattle.std.proofs.lemmas.Option.{get_or_from_slice_get, slice_get_within}
use Rattle.law_runs_split.specs.GicIdeal.ScnBase.declared.step.Step.{Step}
use Rattle.law_runs_split.specs.GicIdeal.ScnBase.declared.step.Step.TheVariants.{Vcpu, Device, Pe}
use Rattle.law_runs_split.specs.GicIdeal.IdealGuests.Words.{GuestShape, Key, Irq, IccReg, GuestOp, Icc, Mem, DeviceOp, key_of, acknowledged, deactivated}
use Rattle.law_runs_split.specs.GicIdeal.IdealGuests.Registers.{Candidate, has_lpis, taken_by, deactivated_by}
use Rattle.law_runs_split.specs.GicIdeal.IdealGuests.GicCall.declared.event.Event.TheVariants.{Raise, Read, ItsEnd, Queue}
use Rattle.law_runs_split.specs.GicIdeal.IdealGuests.GicCall.Call.{starts_commands}
use Rattle.law_runs_split.specs.GicIdeal.IdealGuests.Calls.{GuestSpec, PlainWord, Ram, Propbaser, Pendbaser, ItsCtlr, Cbaser, Cwriter, Baser0, Baser1, Fault, has_plain, place_of_plain, plain_count, Event, Up, Down, Enable, Touch, Reach, Take, Leave, Cpu, Put, CtlrBegin, CtlrEnd, ItsBegin, Runs, Done, Stalls, takes_command, command_events, queue_places, View, icc_events, access_events, device_events}
use Rattle.law_runs_split.specs.GicIdeal.IdealGuests.declared.guest.IdealGuest.{IdealGuest}
use Rattle.law_runs_split.specs.GicIdeal.IdealGuests.Ideal.{word_at, cpu_at, candidates, view_of, changed_irq, after_acknowledge, after_deactivation, after_access, after_event, after_events, after_command, after_commands, after_queued}
use Rattle.law_runs_split.specs.GicIdeal.IdealGuests.Call.{after_op, after_device}
use Rattle.law_runs_split.specs.GicIdeal.IdealGuests.Opening.{opening}
use Rattle.law_runs_split.specs.GicIdeal.Eager.{at_guest, after_step, after_steps}
use Rattle.law_runs_split.proofs.GicIdeal.EffectLemmas.{shape_event}
use Rattle.law_runs_split.proofs.GicIdeal.IdealGuests.OpeningLemmas.{word_opening}
use Rattle.law_saves_go_on.specs.Stored.{IsHeld, HoldsOwnBits, StatesHoldOwnBits}
use Rattle.law_saves_go_on.proofs.PlaceLemmas.{place_there, same_word}
use Rattle.law_saves_go_on.proofs.OwnLemmas.{is_of_its, any_guest, StoresOwn, CanWrite, may_move, access_own, starts_in_its, command_own, icc_own, device_own}

-- ---- the words

abbrev AreHeld : GuestShape → List ℕ → Type 0
AreHeld shape words = (word : PlainWord) → IsTrue (has_plain shape word) → IsHeld word (slice_index words (place_of_plain shape word))

-- nothing is stored of an ITS
record IsIdle (shape : GuestShape) (words : List ℕ) (place : ℕ) (stalled : Bool) : Type 0 where
  each : (word : PlainWord) → is_of_its word ≡ true → slice_index words (place_of_plain shape word) ≡ 0
  at_first : place ≡ 0
  running : stalled ≡ false

-- what stands at a word that is the one that is stored, or another
pub put_one : (P : PlainWord → ℕ → Type 0) (shape : GuestShape) (words : List ℕ) (word other : PlainWord) (value : ℕ) → length words ≡ plain_count shape → IsTrue (has_plain shape word) → IsTrue (has_plain shape other) → (other ≡ word → P word value)
    → ((other ≡ word → ⊥) → P other (slice_index words (place_of_plain shape other))) → P other (slice_index (slice_set words (place_of_plain shape word) value) (place_of_plain shape other))
put_one P shape words word other value long here there new old =
    let at = place_of_plain shape word in
    elim (eqb_tells (place_of_plain shape other) at) [
      | inl same ↦
          let is : other ≡ word = same_word shape other word there here same.1 in
          subst (λ (w : PlainWord). P w (slice_index (slice_set words at value) (place_of_plain shape w))) (sym is)
          (subst (P word) (sym (get_or-set_same words at value 0 (subst (λ n. at < n) (sym long) (place_there shape word here)))) (new is))
      | inr differ ↦ subst (P other) (sym (get_or-set_other words at (place_of_plain shape other) value 0 differ.1)) (old (λ is. differ.1 (ap (place_of_plain shape) is)))
    ]

its_there : (shape : GuestShape) (word : PlainWord) → is_of_its word ≡ true → IsTrue (has_plain shape word)
its_there shape (Ram index) is = absurd (cc)
its_there shape (Propbaser vcpu) is = absurd (cc)
its_there shape (Pendbaser vcpu) is = absurd (cc)
its_there shape ItsCtlr is = refl
its_there shape Cbaser is = refl
its_there shape Cwriter is = refl
its_there shape Baser0 is = refl
its_there shape Baser1 is = refl
its_there shape Fault is = refl

-- a guest whose words hold what they store
record AreKept (shape : GuestShape) (words : List ℕ) (place : ℕ) (stalled : Bool) : Type 0 where
  long : length words ≡ plain_count shape
  held : AreHeld shape words
  idle : has_lpis shape ≡ false → IsIdle shape words place stalled

-- memory holds any value
abbrev Any : ℕ → Type 0
Any value = Unit {0}

-- and wires may move
abbrev Moving : Type 0
Moving = Unit {0}

abbrev IsKept : IdealGuest → Type 0
IsKept guest = AreKept guest.shape guest.words guest.offset guest.is_stalled

-- ---- events

module _ (shape : GuestShape) (words : List ℕ) (place : ℕ) (stalled : Bool) (kept : AreKept shape words place stalled) where
  not_its : (a b : Bool) → a ≡ false → IsTrue (a || not b) → b ≡ true → ⊥
  not_its true b none own is = cc
  not_its false true none own is = cc
  not_its false false none own is = cc

  put_kept : (word : PlainWord) (value : ℕ) → IsHeld word value × IsTrue (has_lpis shape || not (is_of_its word)) → (b : Bool) → has_plain shape word ≡ b
      → AreKept shape (cond b (slice_set words (place_of_plain shape word) value) words) place stalled
  put_kept word value own false here = kept
  put_kept word value own true here =
      record {
        long = length-set words (place_of_plain shape word) value ∙ kept.long;
        held = λ other there. put_one IsHeld shape words word other value kept.long here there (λ is. own.0) (λ differ. kept.held other there);
        idle = λ none.
            let idle = kept.idle none in
            record {
              each = λ other is. put_one (λ w v. v ≡ 0) shape words word other value kept.long here (its_there shape other is)
                  (λ same. absurd (not_its (has_lpis shape) (is_of_its word) none own.1 (ap is_of_its (sym same) ∙ is))) (λ differ. idle.each other is);
              at_first = idle.at_first;
              running = idle.running;
            };
      }

  queue_kept : (next : ℕ) (stalls : Bool) → has_lpis shape ≡ true → AreKept shape words next stalls
  queue_kept next stalls there = record { long = kept.long; held = kept.held; idle = λ none. absurd (both (has_lpis shape) there none) }
    where
      both : (b : Bool) → b ≡ true → b ≡ false → ⊥
      both b there none = cc

-- all that is stored, its word can hold
own_value : (shape : GuestShape) (word : PlainWord) (value : ℕ) → StoresOwn shape Any Moving (Put word value) → IsHeld word value × IsTrue (has_lpis shape || not (is_of_its word))
own_value shape (Ram index) value own = (refl, any_guest (has_lpis shape))
own_value shape (Propbaser vcpu) value own = own
own_value shape (Pendbaser vcpu) value own = own
own_value shape ItsCtlr value own = own
own_value shape Cbaser value own = own
own_value shape Cwriter value own = own
own_value shape Baser0 value own = own
own_value shape Baser1 value own = own
own_value shape Fault value own = absurd own

-- an access of a CPU interface register stores nothing
access_kept : (reg : IccReg) (write : Option ℕ) (guest : IdealGuest) (vcpu : ℕ) → IsKept guest → IsKept (after_access reg write guest vcpu)
access_kept reg write guest vcpu kept = ended (deactivated_by reg write (cpu_at guest vcpu)) (after_acknowledge taken guest vcpu) (begun taken)
  where
    taken : Option Candidate
    taken = taken_by reg write (cpu_at guest vcpu) (candidates guest vcpu)

    changed : (o : Option Key) (change : Key → Irq → Irq) (guest : IdealGuest) → IsKept guest → IsKept (option_map_or (λ key. changed_irq key (change key) guest) o guest)
    changed None change guest kept = kept
    changed (Some key) change guest kept = kept

    begun : (o : Option Candidate) → IsKept (after_acknowledge o guest vcpu)
    begun None = kept
    begun (Some found) = changed (key_of found.id vcpu guest.shape) (λ key irq. acknowledged key vcpu irq) guest kept

    ended : (o : Option ℕ) (guest : IdealGuest) → IsKept guest → IsKept (after_deactivation o guest vcpu)
    ended None guest kept = kept
    ended (Some id) guest kept = changed (key_of id vcpu guest.shape) (λ key irq. deactivated vcpu irq) guest kept

event_kept : (guest : IdealGuest) (event : Event) → StoresOwn guest.shape Any Moving event → IsKept guest → IsKept (after_event guest event)
event_kept guest (Raise key) own kept = kept
event_kept guest (Up key) own kept = kept
event_kept guest (Down key) own kept = kept
event_kept guest (Enable vcpu) own kept = kept
event_kept guest (Touch key touch) own kept = kept
event_kept guest (Reach key vcpu) own kept = kept
event_kept guest (Take key vcpu) own kept = kept
event_kept guest (Leave key vcpu) own kept = kept
event_kept guest (Cpu vcpu reg write) own kept = access_kept reg write guest vcpu kept
event_kept guest (Read place) own kept = kept
event_kept guest (Put word value) own kept = put_kept guest.shape guest.words guest.offset guest.is_stalled kept word value (own_value guest.shape word value own) (has_plain guest.shape word) refl
event_kept guest (CtlrBegin enables) own kept = kept
event_kept guest CtlrEnd own kept = kept
event_kept guest ItsBegin own kept = kept
event_kept guest ItsEnd own kept = kept
event_kept guest (Queue offset Runs) own kept = queue_kept guest.shape guest.words guest.offset guest.is_stalled kept offset false own
event_kept guest (Queue offset (Done words)) own kept = queue_kept guest.shape guest.words guest.offset guest.is_stalled kept offset false own
event_kept guest (Queue offset (Stalls fault)) own kept =
    let stored = put_kept guest.shape guest.words guest.offset guest.is_stalled kept Fault fault (refl, ap (λ b. b || false) own.0) true refl in
    queue_kept guest.shape (slice_set guest.words (place_of_plain guest.shape Fault) fault) guest.offset guest.is_stalled stored offset true own.0

events_kept : (events : List Event) (guest : IdealGuest) → All (StoresOwn guest.shape Any Moving) events → IsKept guest → IsKept (after_events events guest)
events_kept [] guest own kept = kept
events_kept (event ∷ events) guest own kept =
    events_kept events (after_event guest event) (subst (λ shape. All (StoresOwn shape Any Moving) events) (sym (shape_event event guest)) (All-tail (StoresOwn guest.shape Any Moving) event events own))
    (event_kept guest event (All-head (StoresOwn guest.shape Any Moving) event events own) kept)

pub same_shape : (events : List Event) (guest : IdealGuest) → (after_events events guest).shape ≡ guest.shape
same_shape [] guest = refl
same_shape (event ∷ events) guest = same_shape events (after_event guest event) ∙ shape_event event guest

-- ---- steps

any_write : (shape : GuestShape) (view : View) (address size : ℕ) (write : Option ℕ) → CanWrite shape Any Moving view address size write
any_write shape view address size None = tt
any_write shape view address size (Some value) = λ part e. tt

commands_kept : (most : ℕ) (guest : IdealGuest) → has_lpis guest.shape ≡ true → IsKept guest → IsKept (after_commands most guest)
commands_kept zero guest there kept = kept
commands_kept (suc most) guest there kept =
    let events = command_events guest.shape (view_of guest) in
    either (takes_command (view_of guest)) (after_commands most (after_command guest)) guest
    (commands_kept most (after_command guest) (ap has_lpis (same_shape events guest) ∙ there) (events_kept events guest (command_own guest.shape Any Moving there (view_of guest)) kept)) kept
  where
    either : (b : Bool) (one other : IdealGuest) → IsKept one → IsKept other → IsKept (cond b one other)
    either true one other first second = first
    either false one other first second = second

op_kept : (op : GuestOp) (guest : IdealGuest) (vcpu : ℕ) → IsKept guest → IsKept (after_op op guest vcpu)
op_kept (Icc reg write) guest vcpu kept = events_kept (icc_events guest.shape vcpu reg write) guest (icc_own guest.shape Any Moving vcpu reg write) kept
op_kept (Mem frame offset size write) guest vcpu kept = of (starts_commands guest.shape (view_of guest) frame offset size write) refl
  where
    events : List Event
    events = access_events guest.shape (view_of guest) frame offset size write

    changed : IdealGuest
    changed = after_events events guest

    written : IsKept changed
    written = events_kept events guest (access_own guest.shape Any Moving (view_of guest) frame offset size write (any_write guest.shape (view_of guest) offset size write)) kept

    of : (b : Bool) → starts_commands guest.shape (view_of guest) frame offset size write ≡ b → IsKept (cond b (after_queued changed) changed)
    of true starts = commands_kept (queue_places (word_at changed Cbaser)) changed (ap has_lpis (same_shape events guest) ∙ starts_in_its guest.shape Any Moving (view_of guest) frame offset size write starts) written
    of false starts = written

device_kept : (op : DeviceOp) (guest : IdealGuest) → IsKept guest → IsKept (after_device op guest)
device_kept op guest kept = events_kept (device_events (view_of guest) op) guest (device_own guest.shape Any Moving (view_of guest) op (may_move guest.shape Any op)) kept

at_kept : (n : ℕ) (change : IdealGuest → IdealGuest) (guests : List IdealGuest) → ((guest : IdealGuest) → IsKept guest → IsKept (change guest)) → All IsKept guests → All IsKept (at_guest n change guests)
at_kept n change guests keeps kept = of (slice_get guests n) refl
  where
    of : (o : Option IdealGuest) → slice_get guests n ≡ o → All IsKept (option_map_or (λ guest. slice_set guests n (change guest)) o guests)
    of None e = kept
    of (Some guest) e =
        let one = subst IsKept (get_or_from_slice_get guests n guest guest e) (All-get_or IsKept guests n guest (slice_get_within guests n guest e) kept) in
        All-set IsKept guests n (change guest) (keeps guest one) kept

step_kept : (step : Step) (guests : List IdealGuest) → All IsKept guests → All IsKept (after_step step guests)
step_kept (Vcpu g vcpu op) guests kept = at_kept g (λ state. after_op op state vcpu) guests (λ guest. op_kept op guest vcpu) kept
step_kept (Device g device op) guests kept = at_kept g (after_device op) guests (device_kept op) kept
step_kept (Pe pe op) guests kept = kept

steps_kept : (steps : List Step) (guests : List IdealGuest) → All IsKept guests → All IsKept (after_steps steps guests)
steps_kept [] guests kept = kept
steps_kept (step ∷ steps) guests kept = steps_kept steps (after_step step guests) (step_kept step guests kept)

-- ---- the opening

zero_held : (word : PlainWord) → IsHeld word 0
zero_held (Ram index) = refl
zero_held (Propbaser vcpu) = refl
zero_held (Pendbaser vcpu) = refl
zero_held ItsCtlr = refl
zero_held Cbaser = refl
zero_held Cwriter = refl
zero_held Baser0 = refl
zero_held Baser1 = refl
zero_held Fault = refl

opens_kept : (guest : GuestSpec) → IsKept (opening guest)
opens_kept guest =
    let words = (opening guest).words in
    let is : (word : PlainWord) → IsTrue (has_plain guest.shape word) → slice_index words (place_of_plain guest.shape word) ≡ 0 =
    λ word there. ap (λ b. cond b (slice_index words (place_of_plain guest.shape word)) 0) (sym there) ∙ word_opening guest word in
    record {
      long = length-replicate (plain_count guest.shape) 0;
      held = λ word there. subst (IsHeld word) (sym (is word there)) (zero_held word);
      idle = λ none. record { each = λ word its. is word (its_there guest.shape word its); at_first = refl; running = refl };
    }

-- ---- all states

own_bits : (guest : IdealGuest) → IsKept guest → HoldsOwnBits guest
own_bits guest kept =
    record {
      each = λ word there. subst (IsHeld word) (ap (λ b. cond b (slice_index guest.words (place_of_plain guest.shape word)) 0) (sym there)) (kept.held word there);
      none = λ e.
          let idle = kept.idle e in
          record {
            ctlr = idle.each ItsCtlr refl;
            cbaser = idle.each Cbaser refl;
            cwriter = idle.each Cwriter refl;
            baser0 = idle.each Baser0 refl;
            baser1 = idle.each Baser1 refl;
            offset = idle.at_first;
            running = idle.running;
          };
    }

pub states_hold_own_bits : StatesHoldOwnBits
states_hold_own_bits guests steps =
    All-weaker IsKept HoldsOwnBits own_bits (after_steps steps (map opening guests))
    (steps_kept steps (map opening guests) (All-map IsKept opening guests (λ k d h. opens_kept (get_or guests k d))))
