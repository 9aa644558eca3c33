-- What is saved of a guest tells the guest, and its wires.
use Rattle.std.proofs.Common.{◌≡◌, ℕ, ◌+◌, ◌*◌, ◌<◌, Bool, true, false, if◌then◌else◌, IsTrue, List, [], ◌∷◌, length, map, fold, take, get_or, set, zero, suc, Some, None, refl, sym, ap, subst, ◌∙◌}
use Rattle.std.specs.Option.{option_map_or}
use Rattle.std.specs.List.{range_with_len}
use Rattle.std.proofs.lemmas.List.Elements.{All-nil}
use Rattle.saved_guest.specs.IdealGuests.Words.{GuestShape, Key, Private, Spi, Lpi, has_interrupt, interrupt_count, place_of, key_at, Irq, bit_of}
use Rattle.saved_guest.specs.IdealGuests.Registers.{CpuRec, Enables, Maps, has_lpis, enables_in}
use Rattle.saved_guest.specs.IdealGuests.Calls.{GuestSpec, Preset, IsGoodGuest, preset_key, opening_irq, with_preset, irq_in, with_irq_in, after_preset, opening_irqs, irqs_of}
use Rattle.saved_guest.specs.IdealGuests.declared.guest.IdealGuest.{IdealGuest}
use Rattle.saved_guest.specs.IdealGuests.Sound.{IsIdealRecord}
use Rattle.saved_guest.proofs.RecLemmas.{told_records}
use Rattle.saved_guest.specs.State.{cpu_of, with_rec, words_of, state_of, maps_of}
use Rattle.saved_guest.specs.Standing.{wires_of}
use Rattle.saved_guest.specs.Valid.{IsValidRec}
use Rattle.saved_take.specs.Taken.{cpu_state, its_state, dev_of, evt_of, col_of, recs_of, taken_of}
use Rattle.saved_take.specs.Back.{IsWithoutIts, without_past_fault, StatesTellBack, WiresTellBack}
use Rattle.saved_take.proofs.FillLemmas.{mapped_back}
use Rattle.saved_take.proofs.WordBack.{words_back}
use Rattle.saved_take.proofs.RecBack.{records_back, wires_back}

-- the two enables are at their bits
enables_back : (one other : Bool) → enables_in (bit_of one + 2 * bit_of other) ≡ record { group0 = one; group1 = other }
enables_back true true = refl
enables_back true false = refl
enables_back false true = refl
enables_back false false = refl

offset_back : (state : IdealGuest) (b : Bool) → (b ≡ false → IsWithoutIts state) → option_map_or (λ its. its.offset) (if b then Some (its_state state) else None) 0 ≡ state.offset
offset_back state true none = refl
offset_back state false none = sym (none refl).offset

stalled_back : (state : IdealGuest) (b : Bool) → (b ≡ false → IsWithoutIts state) → option_map_or (λ its. its.stalled) (if b then Some (its_state state) else None) false ≡ state.is_stalled
stalled_back state true none = refl
stalled_back state false none = sym (none refl).running

maps_back : (maps : Maps) (devices : List (ℕ × ℕ)) (events : List ((ℕ × ℕ) × (ℕ × ℕ))) (collections : List (ℕ × ℕ)) → devices ≡ maps.devices → events ≡ maps.events → collections ≡ maps.collections
    → (let back : Maps = record { devices = devices; events = events; collections = collections } in back) ≡ maps
maps_back maps devices events collections d e c =
    ap (λ (x : List (ℕ × ℕ)). let m : Maps = record { devices = x; events = events; collections = collections } in m) d
    ∙ ap (λ (x : List ((ℕ × ℕ) × (ℕ × ℕ))). let m : Maps = record maps { events = x; collections = collections } in m) e
    ∙ ap (λ (x : List (ℕ × ℕ)). let m : Maps = record maps { collections = x } in m) c

-- two guests with the same fields
same_guest :
    (one other : IdealGuest) → one.shape ≡ other.shape → one.irqs ≡ other.irqs → one.cpus ≡ other.cpus → one.enables ≡ other.enables → one.words ≡ other.words → one.offset ≡ other.offset → one.is_stalled ≡ other.is_stalled → one.tables ≡ other.tables → one ≡ other
same_guest one other shape irqs cpus enables words offset stalled tables =
    ap (λ (x : GuestShape). record one { shape = x }) shape
    ∙ ap (λ (x : List Irq). record one { shape = other.shape; irqs = x }) irqs
    ∙ ap (λ (x : List CpuRec). record one { shape = other.shape; irqs = other.irqs; cpus = x }) cpus
    ∙ ap (λ (x : Enables). record one { shape = other.shape; irqs = other.irqs; cpus = other.cpus; enables = x }) enables
    ∙ ap (λ (x : List ℕ). record other { words = x; offset = one.offset; is_stalled = one.is_stalled; tables = one.tables }) words
    ∙ ap (λ (x : ℕ). record other { offset = x; is_stalled = one.is_stalled; tables = one.tables }) offset
    ∙ ap (λ (x : Bool). record other { is_stalled = x; tables = one.tables }) stalled
    ∙ ap (λ (x : Maps). record other { tables = x }) tables

-- the records with which a guest opens, told of a guest with its shape
open_each : (guest : GuestSpec) (state : IdealGuest) → IsGoodGuest guest → state.shape ≡ guest.shape → length (irqs_of guest) ≡ interrupt_count state.shape
open_each guest state good same = (told_records guest [] good (All-nil (IsValidRec guest.shape))).each ∙ ap interrupt_count (sym same)

open_ideal : (guest : GuestSpec) (state : IdealGuest) → IsGoodGuest guest → state.shape ≡ guest.shape → (key : Key) → IsTrue (has_interrupt state.shape key) → IsIdealRecord state.shape key (irq_in state.shape (irqs_of guest) key)
open_ideal guest state good same =
    let P : GuestShape → Type 0 = λ s. (key : Key) → IsTrue (has_interrupt s key) → IsIdealRecord s key (irq_in s (irqs_of guest) key) in
    subst P (sym same) (told_records guest [] good (All-nil (IsValidRec guest.shape))).ideal

pub states_tell_back : StatesTellBack
states_tell_back guest wires state good sound stored same =
    let opened = irqs_of guest in
    let recs = recs_of opened wires state (interrupt_count state.shape) in
    let P : GuestShape → Type 0 = λ s. fold (with_rec s) opened recs ≡ state.irqs in
    let irqs : fold (with_rec guest.shape) opened recs ≡ state.irqs = subst P same (records_back opened wires state sound (open_each guest state good same) (open_ideal guest state good same)) in
    let Q : GuestShape → Type 0 = λ s. words_of s (taken_of guest wires state) ≡ (without_past_fault state).words in
    let words : words_of guest.shape (taken_of guest wires state) ≡ (without_past_fault state).words = subst Q same (words_back state sound.words stored) in
    let tables : maps_of (taken_of guest wires state) ≡ state.tables =
    maps_back state.tables _ _ _ (mapped_back dev_of (λ dev. (dev.device, dev.bits)) (λ x. refl) state.tables.devices) (mapped_back evt_of (λ evt. ((evt.device, evt.event), (evt.id, evt.icid))) (λ x. refl) state.tables.events)
    (mapped_back col_of (λ col. (col.icid, col.vcpu)) (λ x. refl) state.tables.collections) in
    same_guest (state_of guest (taken_of guest wires state)) (without_past_fault state) (sym same) irqs (mapped_back cpu_state cpu_of (λ cpu. refl) state.cpus) (enables_back state.enables.group0 state.enables.group1) words
    (offset_back state (has_lpis state.shape) stored.none) (stalled_back state (has_lpis state.shape) stored.none) tables

-- no line is up as a guest opens
set_keeps : (irqs : List Irq) (p k : ℕ) (irq d : Irq) → irq.line ≡ false → (get_or irqs k d).line ≡ false → (get_or (set irqs p irq) k d).line ≡ false
set_keeps [] p k irq d new old = old
set_keeps (x ∷ xs) zero zero irq d new old = new
set_keeps (x ∷ xs) zero (suc k) irq d new old = old
set_keeps (x ∷ xs) (suc p) zero irq d new old = old
set_keeps (x ∷ xs) (suc p) (suc k) irq d new old = set_keeps xs p k irq d new old

AreQuiet : GuestShape → List Irq → Type 0
AreQuiet shape irqs = (key : Key) → (irq_in shape irqs key).line ≡ false

unset_line : (on : Bool) (key : Key) → (opening_irq on key).line ≡ false
unset_line on (Private vcpu id) = refl
unset_line on (Spi id) = refl
unset_line on (Lpi id) = refl

made_quiet : (at : ℕ → Irq) (places : List ℕ) (k : ℕ) (d : Irq) → ((n : ℕ) → (at n).line ≡ false) → d.line ≡ false → (get_or (map at places) k d).line ≡ false
made_quiet at [] k d each past = past
made_quiet at (n ∷ ns) zero d each past = each n
made_quiet at (n ∷ ns) (suc k) d each past = made_quiet at ns k d each past

unset_quiet : (on : Bool) (shape : GuestShape) → AreQuiet shape (opening_irqs on shape)
unfolding AreQuiet
unset_quiet on shape key = of (has_interrupt shape key)
  where
    of : (b : Bool) → (if b then get_or (opening_irqs on shape) (place_of shape key) (opening_irq false key) else opening_irq false key).line ≡ false
    of true = made_quiet (λ place. opening_irq on (key_at shape place)) (range_with_len 0 (interrupt_count shape)) (place_of shape key) (opening_irq false key) (λ n. unset_line on (key_at shape n)) (unset_line false key)
    of false = unset_line false key

preset_quiet : (shape : GuestShape) (irqs : List Irq) (j : Key) (made : Irq) → made.line ≡ false → AreQuiet shape irqs → AreQuiet shape (with_irq_in shape j made irqs)
unfolding AreQuiet
preset_quiet shape irqs j made new quiet key = of (has_interrupt shape j) (has_interrupt shape key) (quiet key)
  where
    of : (b c : Bool) → (if c then get_or irqs (place_of shape key) (opening_irq false key) else opening_irq false key).line ≡ false
        → (if c then get_or (if b then set irqs (place_of shape j) made else irqs) (place_of shape key) (opening_irq false key) else opening_irq false key).line ≡ false
    of true true old = set_keeps irqs (place_of shape j) (place_of shape key) made (opening_irq false key) new old
    of false true old = old
    of true false old = old
    of false false old = old

presets_quiet : (shape : GuestShape) (irqs : List Irq) (presets : List Preset) → AreQuiet shape irqs → AreQuiet shape (fold (after_preset shape) irqs presets)
unfolding AreQuiet
presets_quiet shape irqs [] quiet = quiet
presets_quiet shape irqs (preset ∷ presets) quiet =
    presets_quiet shape (after_preset shape irqs preset) presets (preset_quiet shape irqs (preset_key preset) (with_preset preset (irq_in shape irqs (preset_key preset))) (quiet (preset_key preset)) quiet)

open_quiet : (guest : GuestSpec) (shape : GuestShape) → guest.shape ≡ shape → AreQuiet shape (irqs_of guest)
open_quiet guest shape same =
    let P : GuestShape → Type 0 = λ s. AreQuiet s (irqs_of guest) in
    subst P same (presets_quiet guest.shape (opening_irqs guest.on guest.shape) guest.presets (unset_quiet guest.on guest.shape))

quiet_at : (irqs : List Irq) (shape : GuestShape) (key : Key) → AreQuiet shape irqs → (irq_in shape irqs key).line ≡ false
unfolding AreQuiet
quiet_at irqs shape key quiet = quiet key

pub wires_tell_back : WiresTellBack
wires_tell_back guest wires state good sound same enough levels =
    let opened = irqs_of guest in
    let recs = recs_of opened wires state (interrupt_count state.shape) in
    let quiet : (k : ℕ) → k < interrupt_count state.shape → (irq_in state.shape opened (key_at state.shape k)).line ≡ false = λ k few. quiet_at opened state.shape (key_at state.shape k) (open_quiet guest state.shape (sym same)) in
    let P : GuestShape → Type 0 = λ s. wires_of s recs ≡ take (interrupt_count state.shape) wires in
    subst P same (wires_back opened wires state sound (open_each guest state good same) (open_ideal guest state good same) quiet enough levels)
