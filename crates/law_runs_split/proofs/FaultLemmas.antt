-- The number of a fault by which nothing is stalled is not looked at.
use Rattle.std.proofs.Common.{◌≡◌, ◌≢◌, ℕ, zero, suc, ◌+◌, ◌*◌, ◌/◌, ◌<◌, Bool, true, false, if◌then◌else◌, List, [], ◌∷◌, get_or, Option, Some, None, refl, sym, ap, ◌∙◌, arith, lit<, subst}
use Rattle.std.specs.Option.{option_map_or}
use Rattle.std.specs.Prelude.{nat_lt, nat_eq}
use Rattle.std.specs.List.{slice_set}
use Rattle.std.proofs.Math.Path.{fun_ext}
use Rattle.std.proofs.lemmas.List.{get_or-set_other, set-set, set_comm}
use Rattle.std.proofs.lemmas.Bool.{ltb-true, eqb-true, eqb-false}
use Rattle.gic_ideal.specs.IdealGuests.Words.{GuestShape, Key, Frame, DeviceOp, IccReg, key_of, acknowledged, deactivated}
use Rattle.gic_ideal.specs.IdealGuests.Calls.{PlainWord, Ram, Propbaser, Pendbaser, ItsCtlr, Cbaser, Cwriter, Baser0, Baser1, Fault, has_plain, place_of_plain, vcpus_from, its_from, View, Event, Cpu, Put, Runs, Done, Stalls, queue_places, takes_command, command_events, access_events, access_value, device_events}
use Rattle.gic_ideal.specs.IdealGuests.GicCall.Call.{starts_commands}
use Rattle.gic_ideal.specs.IdealGuests.declared.guest.IdealGuest.{IdealGuest}
use Rattle.gic_ideal.specs.IdealGuests.Ideal.{view_of, word_at, changed_irq, cpu_at, candidates, with_cpu, after_acknowledge, after_deactivation, after_access, after_event, after_events, after_command, after_commands, after_queued}
use Rattle.gic_ideal.proofs.IdealGuests.KeyLemmas.{shape_access}
use Rattle.gic_ideal.specs.IdealGuests.Registers.{Candidate, taken_by, deactivated_by, cpu_after}
use Rattle.gic_ideal.specs.IdealGuests.GicCall.declared.event.Event.TheVariants.{Queue}
use Rattle.law_runs_split.specs.Faults.{AreAlike, IsAlike}

-- what is read of all words but that number
abbrev pub clean : (PlainWord → ℕ) → PlainWord → ℕ
clean words (Ram index) = words (Ram index)
clean words (Propbaser vcpu) = words (Propbaser vcpu)
clean words (Pendbaser vcpu) = words (Pendbaser vcpu)
clean words ItsCtlr = words ItsCtlr
clean words Cbaser = words Cbaser
clean words Cwriter = words Cwriter
clean words Baser0 = words Baser0
clean words Baser1 = words Baser1
clean words Fault = 0

abbrev pub clean_view : View → View
clean_view view = record view { words = clean view.words }

-- nothing that is done or answered looks at it
pub same_events : (shape : GuestShape) (view : View) (frame : Frame) (offset size : ℕ) (write : Option ℕ) → access_events shape (clean_view view) frame offset size write ≡ access_events shape view frame offset size write
same_events shape view frame offset size write = refl

pub same_starts : (shape : GuestShape) (view : View) (frame : Frame) (offset size : ℕ) (write : Option ℕ) → starts_commands shape (clean_view view) frame offset size write ≡ starts_commands shape view frame offset size write
same_starts shape view frame offset size write = refl

pub same_value : (shape : GuestShape) (view : View) (frame : Frame) (offset size : ℕ) → access_value shape (clean_view view) frame offset size ≡ access_value shape view frame offset size
same_value shape view frame offset size = refl

pub same_command : (shape : GuestShape) (view : View) → command_events shape (clean_view view) ≡ command_events shape view
same_command shape view = refl

pub same_takes : (view : View) → takes_command (clean_view view) ≡ takes_command view
same_takes view = refl

pub same_device : (view : View) (op : DeviceOp) → device_events (clean_view view) op ≡ device_events view op
same_device view op = refl

-- ---- the words

module _ (shape : GuestShape) (one other : List ℕ) (rest : slice_set one (place_of_plain shape Fault) 0 ≡ slice_set other (place_of_plain shape Fault) 0) where
  read : (n : ℕ) → n ≢ its_from shape + 5 → get_or one n 0 ≡ get_or other n 0
  read n differ = sym (get_or-set_other one (its_from shape + 5) n 0 0 differ) ∙ ap (λ words. get_or words n 0) rest ∙ get_or-set_other other (its_from shape + 5) n 0 0 differ

  there : (b : Bool) (n : ℕ) → (b ≡ true → n ≢ its_from shape + 5) → (if b then get_or one n 0 else 0) ≡ (if b then get_or other n 0 else 0)
  there true n differ = read n (differ refl)
  there false n differ = refl

  apart_memory : (n : ℕ) → n < vcpus_from shape → n ≢ its_from shape + 5
  apart_memory n few e = omega (arith, e, few)

  apart_vcpu : (n k : ℕ) → n < shape.vcpus → k < 2 → vcpus_from shape + 2 * n + k ≢ its_from shape + 5
  apart_vcpu n k few bit e = omega (arith, e, few, bit)

  apart_first : (n : ℕ) → n < shape.vcpus → vcpus_from shape + 2 * n ≢ its_from shape + 5
  apart_first n few e = omega (arith, e, few)

  apart_its : (n : ℕ) → n < 5 → its_from shape + n ≢ its_from shape + 5
  apart_its n few e = omega (arith, e, few)

  apart_ctlr : its_from shape ≢ its_from shape + 5
  apart_ctlr e = omega (arith, e)

-- ---- states

-- a state with these plain words
abbrev pub with_words : IdealGuest → List ℕ → IdealGuest
with_words base words = record base { words = words }

-- two states that are one but for their words, and these are alike
pub record Twins (one other : IdealGuest) : Type 0 where
  pub base : IdealGuest
  pub its : List ℕ
  pub others : List ℕ
  pub one_is : one ≡ with_words base its
  pub other_is : other ≡ with_words base others
  pub alike : AreAlike base.shape base.is_stalled its others

pub twins_of : (one other : IdealGuest) → IsAlike one other → Twins one other
twins_of one other alike = record { base = other; its = one.words; others = other.words; one_is = alike.same; other_is = refl; alike = alike.words }

pub same_words : (base : IdealGuest) (its others : List ℕ) → AreAlike base.shape base.is_stalled its others → clean (word_at (with_words base its)) ≡ clean (word_at (with_words base others))
same_words base its others alike = fun_ext at
  where
    shape : GuestShape
    shape = base.shape

    at : (word : PlainWord) → clean (word_at (with_words base its)) word ≡ clean (word_at (with_words base others)) word
    at (Ram index) = there base.shape its others alike.rest (nat_lt index (base.shape.ram / 8)) index (λ e. apart_memory base.shape its others alike.rest index (ltb-true index (base.shape.ram / 8) e))
    at (Propbaser vcpu) = there base.shape its others alike.rest (nat_lt vcpu base.shape.vcpus) (vcpus_from base.shape + 2 * vcpu) (λ e. apart_first base.shape its others alike.rest vcpu (ltb-true vcpu base.shape.vcpus e))
    at (Pendbaser vcpu) = there base.shape its others alike.rest (nat_lt vcpu base.shape.vcpus) (vcpus_from base.shape + 2 * vcpu + 1) (λ e. apart_vcpu base.shape its others alike.rest vcpu 1 (ltb-true vcpu base.shape.vcpus e) (lit< tt))
    at ItsCtlr = read base.shape its others alike.rest (its_from base.shape) (apart_ctlr base.shape its others alike.rest)
    at Cbaser = read base.shape its others alike.rest (its_from base.shape + 1) (apart_its base.shape its others alike.rest 1 (lit< tt))
    at Cwriter = read base.shape its others alike.rest (its_from base.shape + 2) (apart_its base.shape its others alike.rest 2 (lit< tt))
    at Baser0 = read base.shape its others alike.rest (its_from base.shape + 3) (apart_its base.shape its others alike.rest 3 (lit< tt))
    at Baser1 = read base.shape its others alike.rest (its_from base.shape + 4) (apart_its base.shape its others alike.rest 4 (lit< tt))
    at Fault = refl

-- what does not look at the number sees the same
pub looks_same : {X : Type 0} (look : View → X) (base : IdealGuest) (its others : List ℕ) → ((view : View) → look (clean_view view) ≡ look view) → AreAlike base.shape base.is_stalled its others
    → look (view_of (with_words base its)) ≡ look (view_of (with_words base others))
looks_same look base its others blind alike =
    sym (blind (view_of (with_words base its)))
    ∙ ap (λ (words : PlainWord → ℕ). look (record (view_of base) { words = words })) (same_words base its others alike)
    ∙ blind (view_of (with_words base others))

-- ---- events

after_words : GuestShape → Event → List ℕ → List ℕ
after_words shape (Put word value) words = if has_plain shape word then slice_set words (place_of_plain shape word) value else words
after_words shape (Queue offset (Stalls fault)) words = slice_set words (place_of_plain shape Fault) fault
after_words shape event words = words

acknowledged_apart : (found : Option Candidate) (base : IdealGuest) (words : List ℕ) (vcpu : ℕ) → after_acknowledge found (with_words base words) vcpu ≡ with_words (after_acknowledge found base vcpu) words
acknowledged_apart None base words vcpu = refl
acknowledged_apart (Some found) base words vcpu = of (key_of found.id vcpu base.shape)
  where
    of : (o : Option Key) → option_map_or (λ key. changed_irq key (acknowledged key vcpu) (with_words base words)) o (with_words base words) ≡ with_words (option_map_or (λ key. changed_irq key (acknowledged key vcpu) base) o base) words
    of None = refl
    of (Some key) = refl

deactivated_apart : (named : Option ℕ) (base : IdealGuest) (words : List ℕ) (vcpu : ℕ) → after_deactivation named (with_words base words) vcpu ≡ with_words (after_deactivation named base vcpu) words
deactivated_apart None base words vcpu = refl
deactivated_apart (Some id) base words vcpu = of (key_of id vcpu base.shape)
  where
    of : (o : Option Key) → option_map_or (λ key. changed_irq key (deactivated vcpu) (with_words base words)) o (with_words base words) ≡ with_words (option_map_or (λ key. changed_irq key (deactivated vcpu) base) o base) words
    of None = refl
    of (Some key) = refl

access_apart : (reg : IccReg) (write : Option ℕ) (base : IdealGuest) (words : List ℕ) (vcpu : ℕ) → after_access reg write (with_words base words) vcpu ≡ with_words (after_access reg write base vcpu) words
access_apart reg write base words vcpu =
    let cpu = cpu_at base vcpu in
    let among = candidates base vcpu in
    let next = cpu_after reg write cpu among in
    ap (λ (x : IdealGuest). with_cpu (after_deactivation (deactivated_by reg write cpu) x vcpu) vcpu next) (acknowledged_apart (taken_by reg write cpu among) base words vcpu)
    ∙ ap (λ (x : IdealGuest). with_cpu x vcpu next) (deactivated_apart (deactivated_by reg write cpu) (after_acknowledge (taken_by reg write cpu among) base vcpu) words vcpu)

event_apart : (base : IdealGuest) (words : List ℕ) (event : Event) → after_event (with_words base words) event ≡ with_words (after_event base event) (after_words base.shape event words)
unfolding after_words
event_apart base words (Cpu vcpu reg write) = access_apart reg write base words vcpu
event_apart base words (Queue offset Runs) = refl
event_apart base words (Queue offset (Done commands)) = refl
event_apart base words (Queue offset (Stalls fault)) = refl
event_apart base words event = refl

-- a stall stays one, and the shape too
stall_acknowledged : (found : Option Candidate) (base : IdealGuest) (vcpu : ℕ) → (after_acknowledge found base vcpu).is_stalled ≡ base.is_stalled
stall_acknowledged None base vcpu = refl
stall_acknowledged (Some found) base vcpu = of (key_of found.id vcpu base.shape)
  where
    of : (o : Option Key) → (option_map_or (λ key. changed_irq key (acknowledged key vcpu) base) o base).is_stalled ≡ base.is_stalled
    of None = refl
    of (Some key) = refl

stall_deactivated : (named : Option ℕ) (base : IdealGuest) (vcpu : ℕ) → (after_deactivation named base vcpu).is_stalled ≡ base.is_stalled
stall_deactivated None base vcpu = refl
stall_deactivated (Some id) base vcpu = of (key_of id vcpu base.shape)
  where
    of : (o : Option Key) → (option_map_or (λ key. changed_irq key (deactivated vcpu) base) o base).is_stalled ≡ base.is_stalled
    of None = refl
    of (Some key) = refl

stall_access : (reg : IccReg) (write : Option ℕ) (base : IdealGuest) (vcpu : ℕ) → (after_access reg write base vcpu).is_stalled ≡ base.is_stalled
stall_access reg write base vcpu =
    stall_deactivated (deactivated_by reg write (cpu_at base vcpu)) (after_acknowledge (taken_by reg write (cpu_at base vcpu) (candidates base vcpu)) base vcpu) vcpu
    ∙ stall_acknowledged (taken_by reg write (cpu_at base vcpu) (candidates base vcpu)) base vcpu

-- words that are alike stay so
put_alike : (shape : GuestShape) (is_stalled : Bool) (its others : List ℕ) (n value : ℕ) → AreAlike shape is_stalled its others → AreAlike shape is_stalled (slice_set its n value) (slice_set others n value)
put_alike shape is_stalled its others n value alike =
    record { rest = of (nat_eq n (its_from shape + 5)) refl; fault = λ e. ap (λ words. slice_set words n value) (alike.fault e) }
  where
    of : (b : Bool) → nat_eq n (its_from shape + 5) ≡ b → slice_set (slice_set its n value) (its_from shape + 5) 0 ≡ slice_set (slice_set others n value) (its_from shape + 5) 0
    of true e =
        let at : n ≡ its_from shape + 5 = eqb-true n (its_from shape + 5) e in
        rw at (set-set its (its_from shape + 5) value 0 ∙ alike.rest ∙ sym (set-set others (its_from shape + 5) value 0))
    of false e =
        let apart : n ≢ its_from shape + 5 = eqb-false n (its_from shape + 5) e in
        set_comm its n (its_from shape + 5) value 0 apart ∙ ap (λ words. slice_set words n value) alike.rest ∙ sym (set_comm others n (its_from shape + 5) value 0 apart)

words_alike : (base : IdealGuest) (its others : List ℕ) (event : Event) → AreAlike base.shape base.is_stalled its others → AreAlike (after_event base event).shape (after_event base event).is_stalled (after_words base.shape event its) (after_words base.shape event others)
unfolding after_words
words_alike base its others (Put word value) alike = of (has_plain base.shape word)
  where
    of : (b : Bool) → AreAlike base.shape base.is_stalled (if b then slice_set its (place_of_plain base.shape word) value else its) (if b then slice_set others (place_of_plain base.shape word) value else others)
    of true = put_alike base.shape base.is_stalled its others (place_of_plain base.shape word) value alike
    of false = alike
words_alike base its others (Queue offset Runs) alike = record { rest = alike.rest; fault = λ e. absurd (cc) }
words_alike base its others (Queue offset (Done commands)) alike = record { rest = alike.rest; fault = λ e. absurd (cc) }
words_alike base its others (Queue offset (Stalls fault)) alike =
    let n = its_from base.shape + 5 in
    record {
      rest = set-set its n fault 0 ∙ alike.rest ∙ sym (set-set others n fault 0);
      fault = λ e. sym (set-set its n 0 fault) ∙ ap (λ words. slice_set words n fault) alike.rest ∙ set-set others n 0 fault;
    }
words_alike base its others (Cpu vcpu reg write) alike =
    subst (λ (s : GuestShape). AreAlike s (after_access reg write base vcpu).is_stalled its others) (sym (shape_access reg write base vcpu)) (subst (λ (b : Bool). AreAlike base.shape b its others) (sym (stall_access reg write base vcpu)) alike)
words_alike base its others event alike = alike

event_twins : (one other : IdealGuest) (event : Event) → Twins one other → Twins (after_event one event) (after_event other event)
event_twins one other event twins =
    record {
      base = after_event twins.base event;
      its = after_words twins.base.shape event twins.its;
      others = after_words twins.base.shape event twins.others;
      one_is = ap (λ (x : IdealGuest). after_event x event) twins.one_is ∙ event_apart twins.base twins.its event;
      other_is = ap (λ (x : IdealGuest). after_event x event) twins.other_is ∙ event_apart twins.base twins.others event;
      alike = words_alike twins.base twins.its twins.others event twins.alike;
    }

pub events_twins : (events : List Event) (one other : IdealGuest) → Twins one other → Twins (after_events events one) (after_events events other)
events_twins [] one other twins = twins
events_twins (event ∷ events) one other twins = events_twins events (after_event one event) (after_event other event) (event_twins one other event twins)

-- what they see is the same
pub twins_see : {X : Type 0} (look : IdealGuest → View → X) (one other : IdealGuest) → ((base : IdealGuest) (words : List ℕ) (view : View) → look (with_words base words) view ≡ look base view)
    → ((base : IdealGuest) (view : View) → look base (clean_view view) ≡ look base view) → Twins one other → look one (view_of one) ≡ look other (view_of other)
twins_see look one other apart blind twins =
    ap (λ (x : IdealGuest). look x (view_of x)) twins.one_is
    ∙ apart twins.base twins.its (view_of (with_words twins.base twins.its))
    ∙ looks_same (look twins.base) twins.base twins.its twins.others (blind twins.base) twins.alike
    ∙ sym (apart twins.base twins.others (view_of (with_words twins.base twins.others)))
    ∙ ap (λ (x : IdealGuest). look x (view_of x)) (sym twins.other_is)

-- ---- commands

command_twins : (one other : IdealGuest) → Twins one other → Twins (after_command one) (after_command other)
command_twins one other twins =
    let same : command_events one.shape (view_of one) ≡ command_events other.shape (view_of other) = twins_see (λ guest view. command_events guest.shape view) one other (λ base words view. refl) (λ base view. same_command base.shape view) twins in
    subst (λ (events : List Event). Twins (after_events (command_events one.shape (view_of one)) one) (after_events events other)) same (events_twins (command_events one.shape (view_of one)) one other twins)

commands_twins : (most : ℕ) (one other : IdealGuest) → Twins one other → Twins (after_commands most one) (after_commands most other)
commands_twins zero one other twins = twins
commands_twins (suc most) one other twins =
    let same : takes_command (view_of one) ≡ takes_command (view_of other) = twins_see (λ guest view. takes_command view) one other (λ base words view. refl) (λ base view. same_takes view) twins in
    of (takes_command (view_of one)) (takes_command (view_of other)) same (commands_twins most (after_command one) (after_command other) (command_twins one other twins))
  where
    of : (a b : Bool) → a ≡ b → Twins (after_commands most (after_command one)) (after_commands most (after_command other)) → Twins (if a then after_commands most (after_command one) else one) (if b then after_commands most (after_command other) else other)
    of true true e further = further
    of false false e further = twins
    of true false e further = absurd (cc)
    of false true e further = absurd (cc)

pub queued_twins : (one other : IdealGuest) → Twins one other → Twins (after_queued one) (after_queued other)
queued_twins one other twins =
    let same : queue_places (word_at one Cbaser) ≡ queue_places (word_at other Cbaser) = twins_see (λ guest view. queue_places (view.words Cbaser)) one other (λ base words view. refl) (λ base view. refl) twins in
    subst (λ (n : ℕ). Twins (after_queued one) (after_commands n other)) same (commands_twins (queue_places (word_at one Cbaser)) one other twins)
