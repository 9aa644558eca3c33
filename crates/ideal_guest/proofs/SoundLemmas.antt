-- Each state that is reached is sound.
use Rattle.std.proofs.Common.{◌≡◌, ◌≢◌, ℕ, zero, suc, ◌==◌, ◌<◌, ◌^◌, ◌||◌, not, Bool, true, false, cond, nat_lt, IsTrue, Option, Some, None, List, [], ◌∷◌, All, length, get_or, refl, sym, subst, ◌∙◌, arith}
use Rattle.std.specs.List.{slice_set}
use Rattle.std.specs.Option.{option_map_or}
use Rattle.std.proofs.lemmas.Grind.{common_steps}
use Rattle.std.proofs.lemmas.List.{length-set, get_or-set_same, get_or-set_other}
use Rattle.std.proofs.lemmas.List.Elements.{All-set}
use Rattle.floor_calls.specs.Words.{Irq, Route, Affinity, Target, is_number, target_in, raised, wire_up, wire_down, cleared, acknowledged, deactivated, is_routed_as, is_vcpu_or_none, IsRecordOf, IsHome, GuestShape, Key, Private, Spi, Lpi, IccReg, IsShape, has_interrupt, is_same_key, is_sgi, key_of, Kind, SetEnable, ClearEnable, SetPending, ClearPending, SetActive, ClearActive, Priority, Config, Routing, has_bit}
use Rattle.floor_calls.proofs.GicWord.ValidLemmas.{valid_raised, valid_wire_up, valid_wire_down, valid_acknowledged, valid_deactivated}
use Rattle.floor_calls.specs.Registers.{CpuRec, Candidate, is_deliverable, HasBinaryPoints, cpu_after, Enables as GroupEnables, part_written, activated, Maps, without_event, IsValid}
use Rattle.floor_calls.proofs.GicPrio.AccessLemmas.{points_after, levels_after}
use Rattle.floor_calls.specs.Calls.{opening_cpu, with_irq_in, PlainWord, Ram, Propbaser, Pendbaser, ItsCtlr, Cbaser, Cwriter, Baser0, Baser1, Fault, has_plain, place_of_plain, Touching, Register, Enables, MapLpi, CanTouch, touched, IsOffset, is_stored, has_wire}
use Rattle.floor_calls.specs.GicCall.declared.touch.Touching.TheVariants.{Read, Retarget, Configure, Forget}
use Rattle.floor_calls.proofs.GicCall.TouchLemmas.{touch_valid}
use Rattle.floor_calls.proofs.ItsTab.AfterLemmas.{valid-without_event}
use Rattle.floor_calls.specs.GicBase.declared.operation.Kind.TheVariants.{Group}
use Rattle.ideal_guest.specs.declared.guest.IdealGuest.{IdealGuest}
use Rattle.ideal_guest.specs.Ideal.{irq_at, cpu_at, word_at, with_queue, changed_irq, changed_at, after_acknowledge, after_deactivation}
use Rattle.ideal_guest.specs.Sound.{IsIdealRecord, IsIdealCpu, IsSound}
use Rattle.floor_calls.proofs.GicBase.KeyLemmas.{same_key}
use Rattle.ideal_guest.proofs.KeyLemmas.{IsWhole, irq_changed, whole_changed}
use Rattle.ideal_guest.proofs.CandidateLemmas.{WasFirst}
use Rattle.ideal_guest.proofs.OpeningLemmas.{cpu_opening}

pub whole_of : (guest : IdealGuest) → IsSound guest → IsWhole guest
whole_of guest sound = record { shape = sound.shape; each = sound.irqs }

-- each record of a CPU interface is valid, also where there is none
pub cpu_valid : (cpus : List CpuRec) (n : ℕ) → All IsIdealCpu cpus → IsIdealCpu (get_or cpus n (opening_cpu false))
cpu_valid [] n h = cpu_opening false
cpu_valid (cpu ∷ cpus) zero h = h 0 cpu (omega arith)
cpu_valid (cpu ∷ cpus) (suc n) h = cpu_valid cpus n (λ k d l. h (suc k) d (omega (arith, l)))

-- a change of a record that keeps it valid
chosen_valid : (shape : GuestShape) (key : Key) (b : Bool) (next irq after : Irq) → after ≡ cond b next irq → (b ≡ true → IsIdealRecord shape key next) → IsIdealRecord shape key irq → IsIdealRecord shape key after
chosen_valid shape key true next irq after e h is = subst (IsIdealRecord shape key) (sym e) (h refl)
chosen_valid shape key false next irq after e h is = subst (IsIdealRecord shape key) (sym e) is

-- a record that is put in the place of another
pub sound_put : (guest : IdealGuest) (key : Key) (irq : Irq) → IsSound guest → (IsTrue (has_interrupt guest.shape key) → IsIdealRecord guest.shape key irq) → IsSound (record guest { irqs = with_irq_in guest.shape key irq guest.irqs })
sound_put guest key irq sound is =
    let change : Irq → Irq = λ old. irq in
    let whole = whole_changed key change guest (whole_of guest sound) in
    record {
      shape = sound.shape;
      irqs = whole.each;
      cpus = sound.cpus;
      records = λ k there.
          chosen_valid guest.shape k (is_same_key k key) irq (irq_at guest k) (irq_at (changed_irq key change guest) k) (irq_changed guest key k change (whole_of guest sound) there)
          (λ e. let same = same_key k key e in subst (λ k. IsIdealRecord guest.shape k irq) (sym same) (is (subst (λ k. IsTrue (has_interrupt guest.shape k)) same there))) (sound.records k there);
      interfaces = sound.interfaces;
      words = sound.words;
      place = sound.place;
      offset = sound.offset;
      fault = sound.fault;
      maps = sound.maps;
    }

-- a change of a record, also of the one that an INTID names
pub sound_changed : (guest : IdealGuest) (key : Key) (change : Irq → Irq) → IsSound guest → (IsTrue (has_interrupt guest.shape key) → IsIdealRecord guest.shape key (irq_at guest key) → IsIdealRecord guest.shape key (change (irq_at guest key))) → IsSound (changed_irq key change guest)
sound_changed guest key change sound keeps = sound_put guest key (change (irq_at guest key)) sound (λ there. keeps there (sound.records key there))

sound_changed_at : (guest : IdealGuest) (id vcpu : ℕ) (change : Key → Irq → Irq) → IsSound guest → ((key : Key) (irq : Irq) → IsIdealRecord guest.shape key irq → IsIdealRecord guest.shape key (change key irq)) → IsSound (changed_at id vcpu change guest)
sound_changed_at guest id vcpu change sound keeps = of (key_of id vcpu guest.shape)
  where
    of : (o : Option Key) → IsSound (option_map_or (λ key. changed_irq key (change key) guest) o guest)
    of None = sound
    of (Some key) = sound_changed guest key (change key) sound (λ there. keeps key (irq_at guest key))

-- nothing rose
or_not : (b : Bool) → IsTrue (b || true)
or_not true = refl
or_not false = refl

-- what happens to an interrupt keeps its record valid, and at no interface
pub ideal_acknowledged : (shape : GuestShape) (key : Key) (vcpu : ℕ) (irq : Irq) → IsShape shape → vcpu < shape.vcpus → IsIdealRecord shape key irq → IsIdealRecord shape key (acknowledged key vcpu irq)
ideal_acknowledged shape key vcpu irq good there is = record { valid = valid_acknowledged shape key vcpu irq good there is.valid; home = record { unheld = is.home.unheld; unwanted = is.home.unwanted }; unrisen = or_not (has_wire key) }

pub ideal_deactivated : (shape : GuestShape) (key : Key) (vcpu : ℕ) (irq : Irq) → IsIdealRecord shape key irq → IsIdealRecord shape key (deactivated vcpu irq)
ideal_deactivated shape key vcpu irq is = record { valid = valid_deactivated shape key vcpu irq is.valid; home = of (is_number vcpu irq.act_by); unrisen = still (is_number vcpu irq.act_by) }
  where
    of : (b : Bool) → IsHome (cond b (record irq { act_by = None }) irq)
    of true = record { unheld = is.home.unheld; unwanted = is.home.unwanted }
    of false = is.home

    still : (b : Bool) → IsTrue (has_wire key || not (cond b (record irq { act_by = None }) irq).rise)
    still true = is.unrisen
    still false = is.unrisen

pub ideal_raised : (shape : GuestShape) (key : Key) (irq : Irq) → IsIdealRecord shape key irq → IsIdealRecord shape key (raised irq)
ideal_raised shape key irq is = record { valid = valid_raised shape key irq is.valid; home = record { unheld = is.home.unheld; unwanted = is.home.unwanted }; unrisen = is.unrisen }

pub ideal_wire_up : (shape : GuestShape) (key : Key) (irq : Irq) → IsTrue (has_wire key) → IsIdealRecord shape key irq → IsIdealRecord shape key (wire_up irq)
ideal_wire_up shape key irq wired is = record { valid = valid_wire_up shape key irq is.valid; home = record { unheld = is.home.unheld; unwanted = is.home.unwanted }; unrisen = rw wired refl }

pub ideal_wire_down : (shape : GuestShape) (key : Key) (irq : Irq) → IsIdealRecord shape key irq → IsIdealRecord shape key (wire_down irq)
ideal_wire_down shape key irq is = record { valid = valid_wire_down shape key irq is.valid; home = record { unheld = is.home.unheld; unwanted = is.home.unwanted }; unrisen = is.unrisen }

-- a touch lets nothing rise
touched_unrisen : (shape : GuestShape) (key : Key) (touch : Touching) (irq : Irq) → IsTrue (has_wire key || not irq.rise) → IsTrue (has_wire key || not (touched shape key touch irq).rise)
touched_unrisen shape key (Read kind) irq h = h
touched_unrisen shape key (Register kind value) irq h = written kind
  where
    kept : (b : Bool) (one : Irq) → one.rise ≡ irq.rise → IsTrue (has_wire key || not (cond b one irq).rise)
    kept true one e = rw e h
    kept false one e = h

    fell : (b : Bool) → IsTrue (has_wire key || not (cond b (cleared irq) irq).rise)
    fell true = or_not (has_wire key)
    fell false = h

    turned : (b : Bool) (one : Irq) → one.rise ≡ irq.rise → IsTrue (has_wire key || not (cond b irq one).rise)
    turned true one e = h
    turned false one e = rw e h

    written : (kind : Kind) → IsTrue (has_wire key || not (part_written kind key irq value shape).rise)
    written Group = h
    written SetEnable = kept (value == 1) (record irq { enabled = true }) refl
    written ClearEnable = kept (value == 1) (record irq { enabled = false }) refl
    written SetPending = kept (value == 1) (raised irq) refl
    written ClearPending = fell (value == 1)
    written SetActive = kept (value == 1) (record irq { act_by = activated irq.act_by (target_in irq.route shape) }) refl
    written ClearActive = kept (value == 1) (record irq { act_by = None }) refl
    written Priority = h
    written Config = turned (is_sgi key) (record irq { edge = has_bit value 1 }) refl
    written Routing = h
touched_unrisen shape key (Enables en0 en1) irq h = h
touched_unrisen shape key (MapLpi target enabled prio) irq h = h
touched_unrisen shape key (Retarget target) irq h = h
touched_unrisen shape key (Configure enabled prio) irq h = h
touched_unrisen shape key Forget irq h = h

-- a touch leaves who holds the interrupt and who waits for it
touched_home : (shape : GuestShape) (key : Key) (touch : Touching) (irq : Irq) → IsHome irq → IsHome (touched shape key touch irq)
touched_home shape key (Read kind) irq h = h
touched_home shape key (Register kind value) irq h = written kind
  where
    kept : (b : Bool) (one : Irq) → IsHome one → IsHome (cond b one irq)
    kept true one e = e
    kept false one e = h

    turned : (b : Bool) (one : Irq) → IsHome one → IsHome (cond b irq one)
    turned true one e = h
    turned false one e = e

    written : (kind : Kind) → IsHome (part_written kind key irq value shape)
    written Group = record { unheld = h.unheld; unwanted = h.unwanted }
    written SetEnable = kept (value == 1) (record irq { enabled = true }) (record { unheld = h.unheld; unwanted = h.unwanted })
    written ClearEnable = kept (value == 1) (record irq { enabled = false }) (record { unheld = h.unheld; unwanted = h.unwanted })
    written SetPending = kept (value == 1) (raised irq) (record { unheld = h.unheld; unwanted = h.unwanted })
    written ClearPending = kept (value == 1) (cleared irq) (record { unheld = h.unheld; unwanted = h.unwanted })
    written SetActive = kept (value == 1) (record irq { act_by = activated irq.act_by (target_in irq.route shape) }) (record { unheld = h.unheld; unwanted = h.unwanted })
    written ClearActive = kept (value == 1) (record irq { act_by = None }) (record { unheld = h.unheld; unwanted = h.unwanted })
    written Priority = record { unheld = h.unheld; unwanted = h.unwanted }
    written Config = turned (is_sgi key) (record irq { edge = has_bit value 1 }) (record { unheld = h.unheld; unwanted = h.unwanted })
    written Routing = record { unheld = h.unheld; unwanted = h.unwanted }
touched_home shape key (Enables en0 en1) irq h = record { unheld = h.unheld; unwanted = h.unwanted }
touched_home shape key (MapLpi target enabled prio) irq h = record { unheld = h.unheld; unwanted = h.unwanted }
touched_home shape key (Retarget target) irq h = record { unheld = h.unheld; unwanted = h.unwanted }
touched_home shape key (Configure enabled prio) irq h = record { unheld = h.unheld; unwanted = h.unwanted }
touched_home shape key Forget irq h = record { unheld = h.unheld; unwanted = h.unwanted }

pub ideal_touch : (shape : GuestShape) (key : Key) (touch : Touching) (irq : Irq) → IsShape shape → CanTouch shape key touch → IsIdealRecord shape key irq → IsIdealRecord shape key (touched shape key touch irq)
ideal_touch shape key touch irq good can is =
    record { valid = touch_valid shape key touch irq good can is.valid; home = touched_home shape key touch irq is.home; unrisen = touched_unrisen shape key touch irq is.unrisen }

pub ideal_touched : (shape : GuestShape) (key : Key) (touch : Touching) (irq after : Irq) → after ≡ touched shape key touch irq → IsRecordOf shape key after → (IsHome irq → IsHome after) → IsIdealRecord shape key irq → IsIdealRecord shape key after
ideal_touched shape key touch irq after e valid home is = record { valid = valid; home = home is.home; unrisen = rw e (touched_unrisen shape key touch irq is.unrisen) }

-- a vCPU to which an interrupt is deliverable is one of the guest
target_there : (shape : GuestShape) (key : Key) (route : Route) (vcpu : ℕ) → IsTrue (has_interrupt shape key) → IsTrue (is_routed_as shape key route) → is_number vcpu (target_in route shape) ≡ true → vcpu < shape.vcpus
target_there shape (Private v id) (Affinity a) vcpu there routed t = absurd (cc)
target_there shape (Private v id) (Target target) vcpu there routed t = of target routed t
  where
    of : (o : Option ℕ) → is_number v o ≡ true → is_number vcpu o ≡ true → vcpu < shape.vcpus
    of None r t = absurd (cc)
    of (Some m) r t = grind (arith, common_steps, r, t, there)
target_there shape (Spi id) (Affinity a) vcpu there routed t = of (nat_lt a shape.vcpus) refl t
  where
    of : (b : Bool) → nat_lt a shape.vcpus ≡ b → is_number vcpu (cond b (Some a) None) ≡ true → vcpu < shape.vcpus
    of true e t = grind (arith, common_steps, e, t)
    of false e t = absurd (cc)
target_there shape (Spi id) (Target target) vcpu there routed t = absurd (cc)
target_there shape (Lpi id) (Affinity a) vcpu there routed t = absurd (cc)
target_there shape (Lpi id) (Target target) vcpu there routed t = of target routed t
  where
    of : (o : Option ℕ) → is_vcpu_or_none shape o ≡ true → is_number vcpu o ≡ true → vcpu < shape.vcpus
    of None r t = absurd (cc)
    of (Some m) r t = grind (arith, common_steps, r, t)

deliverable_for : (key : Key) (irq : Irq) (vcpu : ℕ) (cpu : CpuRec) (shape : GuestShape) → is_deliverable key irq vcpu cpu shape ≡ true → is_number vcpu (target_in irq.route shape) ≡ true
deliverable_for key irq vcpu cpu shape h = grind (arith, common_steps, h)

pub vcpu_there : (guest : IdealGuest) (vcpu : ℕ) (found : Candidate) → IsSound guest → WasFirst guest vcpu found → vcpu < guest.shape.vcpus
vcpu_there guest vcpu found sound was =
    let irq = irq_at guest was.key in
    target_there guest.shape was.key irq.route vcpu was.of.there (sound.records was.key was.of.there).valid.route (deliverable_for was.key irq vcpu (cpu_at guest vcpu) guest.shape was.of.deliverable)

pub sound_acknowledged : (taken : Option Candidate) (guest : IdealGuest) (vcpu : ℕ) → IsSound guest → ((found : Candidate) → taken ≡ Some found → vcpu < guest.shape.vcpus) → IsSound (after_acknowledge taken guest vcpu)
sound_acknowledged None guest vcpu sound there = sound
sound_acknowledged (Some found) guest vcpu sound there =
    sound_changed_at guest found.id vcpu (λ key irq. acknowledged key vcpu irq) sound (λ key irq is. ideal_acknowledged guest.shape key vcpu irq sound.shape (there found refl) is)

pub sound_deactivated : (named : Option ℕ) (guest : IdealGuest) (vcpu : ℕ) → IsSound guest → IsSound (after_deactivation named guest vcpu)
sound_deactivated None guest vcpu sound = sound
sound_deactivated (Some id) guest vcpu sound = sound_changed_at guest id vcpu (λ key irq. deactivated vcpu irq) sound (λ key irq is. ideal_deactivated guest.shape key vcpu irq is)

-- with another record of a CPU interface
pub sound_with_cpu : (guest : IdealGuest) (vcpu : ℕ) (cpu : CpuRec) → IsSound guest → IsIdealCpu cpu → IsSound (record guest { cpus = slice_set guest.cpus vcpu cpu })
sound_with_cpu guest vcpu cpu sound is =
    record {
      shape = sound.shape;
      irqs = sound.irqs;
      cpus = length-set guest.cpus vcpu cpu ∙ sound.cpus;
      records = sound.records;
      interfaces = All-set IsIdealCpu guest.cpus vcpu cpu is sound.interfaces;
      words = sound.words;
      place = sound.place;
      offset = sound.offset;
      fault = sound.fault;
      maps = sound.maps;
    }

pub sound_with_points : (guest : IdealGuest) (vcpu : ℕ) (cpu : CpuRec) → IsSound guest → HasBinaryPoints cpu → cpu.ap0 < 2 ^ 32 → cpu.ap1 < 2 ^ 32 → IsSound (record guest { cpus = slice_set guest.cpus vcpu cpu })
sound_with_points guest vcpu cpu sound points h k = sound_with_cpu guest vcpu cpu sound (record { points = points; levels = record { group_0 = h; group_1 = k } })

-- with other group enables
pub sound_with_enables : (guest : IdealGuest) (enables : GroupEnables) → IsSound guest → IsSound (record guest { enables = enables })
sound_with_enables guest enables sound =
    record {
      shape = sound.shape;
      irqs = sound.irqs;
      cpus = sound.cpus;
      records = sound.records;
      interfaces = sound.interfaces;
      words = sound.words;
      place = sound.place;
      offset = sound.offset;
      fault = sound.fault;
      maps = sound.maps;
    }

-- with its queue elsewhere
pub sound_with_queue : (guest : IdealGuest) (offset : ℕ) (is_stalled : Bool) → IsSound guest → IsOffset offset → IsSound (with_queue guest offset is_stalled)
sound_with_queue guest offset is_stalled sound at =
    record {
      shape = sound.shape;
      irqs = sound.irqs;
      cpus = sound.cpus;
      records = sound.records;
      interfaces = sound.interfaces;
      words = sound.words;
      place = at.place;
      offset = at.within;
      fault = sound.fault;
      maps = sound.maps;
    }

-- a plain word that is put in the place of another
sound_with_words : (guest : IdealGuest) (words : List ℕ) → IsSound guest → length words ≡ length guest.words → word_at (record guest { words = words }) Fault < 256 → IsSound (record guest { words = words })
sound_with_words guest words sound same fault =
    record {
      shape = sound.shape;
      irqs = sound.irqs;
      cpus = sound.cpus;
      records = sound.records;
      interfaces = sound.interfaces;
      words = same ∙ sound.words;
      place = sound.place;
      offset = sound.offset;
      fault = fault;
      maps = sound.maps;
    }

-- the number of a fault has a place of its own
fault_apart : (shape : GuestShape) (word : PlainWord) → IsTrue (has_plain shape word) → IsTrue (is_stored word) → place_of_plain shape Fault ≢ place_of_plain shape word
fault_apart shape (Ram index) there stored e = grind (arith, common_steps, e, there)
fault_apart shape (Propbaser vcpu) there stored e = grind (arith, common_steps, e, there)
fault_apart shape (Pendbaser vcpu) there stored e = grind (arith, common_steps, e, there)
fault_apart shape ItsCtlr there stored e = omega (arith, e)
fault_apart shape Cbaser there stored e = omega (arith, e)
fault_apart shape Cwriter there stored e = omega (arith, e)
fault_apart shape Baser0 there stored e = omega (arith, e)
fault_apart shape Baser1 there stored e = omega (arith, e)
fault_apart shape Fault there stored e = absurd (cc)

pub sound_with_word : (guest : IdealGuest) (word : PlainWord) (value : ℕ) → IsSound guest → IsTrue (has_plain guest.shape word) → IsTrue (is_stored word) → IsSound (record guest { words = slice_set guest.words (place_of_plain guest.shape word) value })
sound_with_word guest word value sound there stored =
    sound_with_words guest (slice_set guest.words (place_of_plain guest.shape word) value) sound (length-set guest.words (place_of_plain guest.shape word) value)
    (subst (λ n. n < 256) (sym (get_or-set_other guest.words (place_of_plain guest.shape word) (place_of_plain guest.shape Fault) value 0 (fault_apart guest.shape word there stored))) sound.fault)

-- with other maps of the ITS
pub sound_with_maps : (guest : IdealGuest) (maps : Maps) → IsSound guest → IsValid guest.shape maps → IsSound (record guest { tables = maps })
sound_with_maps guest maps sound valid =
    record {
      shape = sound.shape;
      irqs = sound.irqs;
      cpus = sound.cpus;
      records = sound.records;
      interfaces = sound.interfaces;
      words = sound.words;
      place = sound.place;
      offset = sound.offset;
      fault = sound.fault;
      maps = valid;
    }

pub sound_unmapped : (guest : IdealGuest) (maps : Maps) (event : ℕ × ℕ) → IsSound guest → maps ≡ without_event guest.tables event → IsSound (record guest { tables = maps })
sound_unmapped guest maps event sound is = sound_with_maps guest maps sound (subst (IsValid guest.shape) (sym is) (valid-without_event guest.shape guest.tables event sound.maps))

pub sound_stalled : (guest : IdealGuest) (offset fault : ℕ) → IsSound guest → IsOffset offset → fault < 256 → IsSound (record guest { words = slice_set guest.words (place_of_plain guest.shape Fault) fault; offset = offset; is_stalled = true })
sound_stalled guest offset fault sound at small =
    let words = slice_set guest.words (place_of_plain guest.shape Fault) fault in
    sound_with_queue (record guest { words = words }) offset true
    (sound_with_words guest words sound (length-set guest.words (place_of_plain guest.shape Fault) fault)
    (subst (λ n. n < 256) (sym (get_or-set_same guest.words (place_of_plain guest.shape Fault) fault 0 (omega (arith, sound.words)))) small)) at

pub cpu_after_valid : (reg : IccReg) (write : Option ℕ) (cpu : CpuRec) (among : List Candidate) → IsIdealCpu cpu → IsIdealCpu (cpu_after reg write cpu among)
cpu_after_valid reg write cpu among is = record { points = points_after reg write cpu among is.points; levels = levels_after reg write cpu among is.levels }
