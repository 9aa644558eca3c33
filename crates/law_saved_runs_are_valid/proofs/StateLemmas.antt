-- What is saved of a state in which such facts hold is valid.
use Rattle.std.proofs.Common.{◌≡◌, ℕ, ◌+◌, ◌*◌, ◌/◌, ◌^◌, ◌<◌, ◌≤◌, ◌==◌, nat_lt, Bool, true, false, if◌then◌else◌, cond, IsTrue, IfSome, is_some, Option, Some, None, List, [], ◌∷◌, All, map, get_or, refl, sym, ap, ◌∙◌, subst, arith}
use Rattle.std.specs.List.{range_with_len, slice_index, slice_index_or}
use Rattle.std.proofs.lemmas.List.{length-map}
use Rattle.std.proofs.lemmas.List.FromFn.{length-map-range_with_len}
use Rattle.std.proofs.lemmas.List.Elements.{All-nil, All-cons, All-head, All-tail, All-map}
use Rattle.std.proofs.lemmas.Bool.{lt-ltb}
use Rattle.eager_rest.specs.LawSavesGoOn.RunsSplit.GicIdeal.IdealGuests.Words.{GuestShape, Key, Lpi, bit_of, has_interrupt, interrupt_count, key_at, place_of, target_in}
use Rattle.eager_rest.specs.LawSavesGoOn.RunsSplit.GicIdeal.IdealGuests.Registers.{CpuRec, Devices, Collections, has_lpis, baser_of, HasLevels, IsValid, has_target}
use Rattle.eager_rest.specs.LawSavesGoOn.RunsSplit.GicIdeal.IdealGuests.Calls.{GuestSpec, IsGoodGuest, EvtEnd, ColEnd, irqs_of, irq_in, has_wire, Ram, Propbaser, Pendbaser, Cbaser, Fault}
use Rattle.eager_rest.specs.LawSavesGoOn.RunsSplit.GicIdeal.IdealGuests.CanOpen.{copy_in}
use Rattle.eager_rest.specs.LawSavesGoOn.RunsSplit.GicIdeal.IdealGuests.declared.guest.IdealGuest.{IdealGuest}
use Rattle.eager_rest.specs.LawSavesGoOn.RunsSplit.GicIdeal.IdealGuests.Ideal.{irq_at, word_at, view_of}
use Rattle.eager_rest.specs.LawSavesGoOn.RunsSplit.GicIdeal.IdealGuests.Queue.{IsQueueInOrder}
use Rattle.eager_rest.specs.LawSavesGoOn.RunsSplit.GicIdeal.IdealGuests.Sound.{IsSound}
use Rattle.eager_rest.specs.SavedCheck.SavedGuest.ScnSaved.ScnBase.declared.standing.MovedWire.{MovedWire}
use Rattle.eager_rest.specs.SavedCheck.SavedGuest.ScnSaved.declared.state.GuestState.{GuestState}
use Rattle.eager_rest.specs.SavedCheck.SavedGuest.ScnSaved.declared.state.RecState.{RecState}
use Rattle.eager_rest.specs.SavedCheck.SavedGuest.ScnSaved.declared.state.RamState.{RamState}
use Rattle.eager_rest.specs.SavedCheck.SavedGuest.State.{irqs_with, maps_of, state_of}
use Rattle.eager_rest.specs.SavedCheck.SavedGuest.Valid.{IsValidCpu, IsValidRec, IsValidRedist, IsValidIts, IsValidWord, IsValidState, is_fault, is_device_or_none}
use Rattle.eager_rest.specs.LawSavesGoOn.SavedTake.Taken.{mover_of, is_same_rec, rec_now, rec_opened, rec_at, recs_of, cpu_state, redist_state, its_state, ram_at, dev_of, evt_of, col_of, taken_of}
use Rattle.eager_rest.specs.LawSavesGoOn.SavedTake.Back.{without_past_fault}
use Rattle.eager_rest.specs.LawSavesGoOn.Stored.{HoldsOwnBits}
use Rattle.eager_rest.proofs.LawSavesGoOn.RunsSplit.GicIdeal.IdealGuests.GicCall.PartLemmas.{each_found, each_made}
use Rattle.eager_rest.proofs.LawSavesGoOn.RunsSplit.GicIdeal.IdealGuests.GicOpen.KeyLemmas.{key_at_there, place_at}
use Rattle.eager_rest.proofs.LawSavesGoOn.ResumeLemmas.{stored_of}
use Rattle.eager_rest.proofs.LawSavesGoOn.SavedTake.BackLemmas.{states_tell_back}
use Rattle.law_saved_runs_are_valid.proofs.CpuLemmas.{IsInRange}
use Rattle.law_saved_runs_are_valid.proofs.RangeLemmas.{IsFit}
use Rattle.law_saved_runs_are_valid.proofs.OwnerLemmas.{IsOwned}
use Rattle.law_saved_runs_are_valid.proofs.ListLemmas.{sorted_found}
use Rattle.law_saved_runs_are_valid.proofs.RecLemmas.{IsStill, valid_rec}

-- the facts
pub record CanBeTaken (guest : GuestSpec) (wires : List (Option MovedWire)) (state : IdealGuest) : Type 0 where
  pub good : IsGoodGuest guest
  pub sound : IsSound state
  pub order : IsQueueInOrder state
  pub held : HoldsOwnBits state
  pub fit : IsFit state
  pub owned : IsOwned state
  pub copies : (key : Key) → IsTrue (has_interrupt state.shape key) → copy_in (irq_at state key) ≡ state.enables
  pub targets : (id : ℕ) → IsTrue (has_interrupt state.shape (Lpi id)) → is_some ((view_of state).targets id) ≡ has_target state.tables id
  pub shape : state.shape ≡ guest.shape
  pub still : (place : ℕ) → place < interrupt_count state.shape → has_wire (key_at state.shape place) ≡ false → IsStill (irq_at state (key_at state.shape place)).line (slice_index_or wires place None)
  pub movers : (place : ℕ) → place < interrupt_count state.shape → IsTrue (is_device_or_none state.shape (mover_of (slice_index_or wires place None)))

two_bits : (one other : Bool) → bit_of one + 2 * bit_of other ≤ 3
two_bits true true = omega arith
two_bits true false = omega arith
two_bits false true = omega arith
two_bits false false = omega arith

some_is : {X : Type 0} (b : Bool) (x : X) → is_some (cond b (Some x) None) ≡ b
some_is true x = refl
some_is false x = refl

unmapped_all : {X Y : Type 0} (P : Y → Type 0) (f : X → Y) (xs : List X) → All P (map f xs) → All (λ x. P (f x)) xs
unmapped_all P f [] all = All-nil (λ x. P (f x))
unmapped_all P f (x ∷ xs) all = All-cons (λ x. P (f x)) x xs (All-head P (f x) (map f xs) all) (unmapped_all P f xs (All-tail P (f x) (map f xs) all))

reads_again_devices : (word : ℕ) → baser_of Devices word ≡ baser_of Devices (baser_of Devices word)
reads_again_devices word = omega arith

reads_again_collections : (word : ℕ) → baser_of Collections word ≡ baser_of Collections (baser_of Collections word)
reads_again_collections word = omega arith

module _ (guest : GuestSpec) (wires : List (Option MovedWire)) (state : IdealGuest) (is : CanBeTaken guest wires state) where
  taken : GuestState
  taken = taken_of guest wires state

  told : state_of guest (taken_of guest wires state) ≡ without_past_fault state
  told = states_tell_back guest wires state is.good is.sound (stored_of state is.held) is.shape

  irqs_told : irqs_with guest (recs_of (irqs_of guest) wires state (interrupt_count state.shape)) ≡ state.irqs
  irqs_told = ap (λ (g : IdealGuest). g.irqs) told

  maps_told : maps_of (taken_of guest wires state) ≡ state.tables
  maps_told = ap (λ (g : IdealGuest). g.tables) told

  here : (key : Key) → IsTrue (has_interrupt guest.shape key) → IsTrue (has_interrupt state.shape key)
  here key there = subst (λ s. IsTrue (has_interrupt s key)) (sym is.shape) there

  -- ---- registers

  cpu_valid : (cpu : CpuRec) → IsInRange state.shape cpu → HasLevels cpu → IsValidCpu state.shape (cpu_state cpu)
  cpu_valid cpu range levels = record {
    pmr = range.mask;
    pmr_bits = range.mask_bits;
    least_bpr0 = range.least_0;
    bpr0 = range.most_0;
    least_bpr1 = range.least_1;
    bpr1 = range.most_1;
    lpis = range.enabled;
    ap0 = levels.group_0;
    ap1 = levels.group_1;
  }

  each_cpu : All (IsValidCpu guest.shape) (map cpu_state state.cpus)
  each_cpu =
      subst (λ s. All (IsValidCpu s) (map cpu_state state.cpus)) is.shape
      (All-map (IsValidCpu state.shape) cpu_state state.cpus (λ k d h. cpu_valid (get_or state.cpus k d) (is.fit.each_cpu k d h) (is.sound.interfaces k d h).levels))

  each_redist : All IsValidRedist (map (redist_state state) (range_with_len 0 state.shape.vcpus))
  each_redist = each_made IsValidRedist (redist_state state) state.shape.vcpus (λ vcpu there. record {
    propbaser = is.held.each (Propbaser vcpu) (lt-ltb vcpu state.shape.vcpus there);
    pendbaser = is.held.each (Pendbaser vcpu) (lt-ltb vcpu state.shape.vcpus there);
  })

  fault_valid : (b : Bool) → state.is_stalled ≡ b → IsTrue (is_fault b (if b then word_at state Fault else 0))
  fault_valid true stalled = is.fit.each_word Fault refl stalled
  fault_valid false stalled = refl

  its_valid : IsValidIts (its_state state)
  its_valid = record {
    cbaser = is.held.each Cbaser refl;
    cwriter = is.order.writer;
    cwriter_place = is.order.place;
    offset = is.order.next;
    offset_place = is.sound.place;
    fault = fault_valid state.is_stalled refl;
    baser0 = reads_again_devices _;
    baser1 = reads_again_collections _;
  }

  its_if : (b : Bool) → IfSome (cond b (Some (its_state state)) None) IsValidIts
  its_if true = its_valid
  its_if false = tt

  without : (b : Bool) → has_lpis state.shape ≡ b → cond b (Some (its_state state)) None ≡ None → has_lpis state.shape ≡ false
  without true e none = absurd (cc)
  without false e none = e

  -- ---- records

  rec_found : (place : ℕ) (b : Bool) (P : RecState → Type 0) → P (rec_now wires state place) → IfSome (cond b None (Some (rec_now wires state place))) P
  rec_found place true P h = tt
  rec_found place false P h = h

  one_rec : (place : ℕ) → place < interrupt_count state.shape → IsValidRec guest.shape (rec_now wires state place)
  one_rec place few =
      let key = key_at state.shape place in
      let there : IsTrue (has_interrupt state.shape key) = key_at_there state.shape place is.sound.shape few in
      subst (λ s. IsValidRec s (rec_now wires state place)) is.shape
      (valid_rec state.shape key (irq_at state key) (slice_index_or wires place None) there (is.sound.records key there) (is.owned key there) (is.still place few) (is.movers place few))

  each_rec : All (IsValidRec guest.shape) (recs_of (irqs_of guest) wires state (interrupt_count state.shape))
  each_rec =
      each_found (IsValidRec guest.shape) (rec_at (irqs_of guest) wires state) (interrupt_count state.shape)
      (λ place few. rec_found place (is_same_rec (rec_opened state.shape (irqs_of guest) place) (rec_now wires state place)) (IsValidRec guest.shape) (one_rec place few))

  one_place : (place : ℕ) → place < interrupt_count state.shape → place_of guest.shape (key_at state.shape place) ≡ place
  one_place place few = ap (λ s. place_of s (key_at state.shape place)) (sym is.shape) ∙ place_at state.shape place is.sound.shape few

  -- ---- memory

  ram_found : (index : ℕ) (b : Bool) (P : RamState → Type 0) → P (record { index = index; word = word_at state (Ram index) }) → IfSome (cond b None (Some (let ram : RamState = record { index = index; word = word_at state (Ram index) } in ram))) P
  ram_found index true P h = tt
  ram_found index false P h = h

  one_word : (index : ℕ) → index < state.shape.ram / 8 → IsValidWord guest.shape (record { index = index; word = word_at state (Ram index) })
  one_word index few =
      let there : IsTrue (nat_lt index (state.shape.ram / 8)) = lt-ltb index (state.shape.ram / 8) few in
      subst (λ s. IsValidWord s (record { index = index; word = word_at state (Ram index) })) is.shape
      (record { there = few; fits = subst (λ n. n < 2 ^ 64) (ap (λ b. cond b (slice_index state.words index) 0) (sym there)) (is.fit.each_word (Ram index) there) })

  -- ---- all of it

  pub valid_state : IsValidState guest (taken_of guest wires state)
  valid_state = record {
    gicd = two_bits state.enables.group0 state.enables.group1;
    cpus = length-map state.cpus cpu_state ∙ is.sound.cpus ∙ ap (λ (s : GuestShape). s.vcpus) is.shape;
    each_cpu = each_cpu;
    redists = length-map-range_with_len (redist_state state) 0 state.shape.vcpus ∙ ap (λ (s : GuestShape). s.vcpus) is.shape;
    each_redist = each_redist;
    rec_order =
        sorted_found (rec_at (irqs_of guest) wires state) (λ (rec : RecState). place_of guest.shape rec.key) 0 (interrupt_count state.shape)
        (λ place from below. rec_found place (is_same_rec (rec_opened state.shape (irqs_of guest) place) (rec_now wires state place)) (λ (rec : RecState). place_of guest.shape rec.key ≡ place) (one_place place (omega (arith, below))));
    each_rec = each_rec;
    copies = λ key there.
        ap (λ irqs. copy_in (irq_in guest.shape irqs key)) irqs_told
        ∙ subst (λ s. copy_in (irq_in s state.irqs key) ≡ state.enables) is.shape (is.copies key (here key there))
        ∙ sym (ap (λ (g : IdealGuest). g.enables) told);
    its = some_is (has_lpis state.shape) (its_state state) ∙ ap has_lpis is.shape;
    its_valid = its_if (has_lpis state.shape);
    no_dev = λ none. ap (map dev_of) (is.fit.bare (without (has_lpis state.shape) refl none)).devices;
    no_col = λ none. ap (map col_of) (is.fit.bare (without (has_lpis state.shape) refl none)).collections;
    maps = subst (IsValid guest.shape) (sym maps_told) (subst (λ s. IsValid s state.tables) is.shape is.sound.maps);
    event_collections = All-map (λ (evt : EvtEnd). evt.icid < 65536) evt_of state.tables.events (unmapped_all (λ (pair : ℕ × ℕ). pair.1 < 65536) (λ (e : (ℕ × ℕ) × (ℕ × ℕ)). e.1) state.tables.events is.fit.short.0);
    collections = All-map (λ (col : ColEnd). col.icid < 65536) col_of state.tables.collections (unmapped_all (λ icid. icid < 65536) (λ (c : ℕ × ℕ). c.0) state.tables.collections is.fit.short.1);
    targets = λ id there.
        ap (λ irqs. is_some (target_in (irq_in guest.shape irqs (Lpi id)).route guest.shape)) irqs_told
        ∙ subst (λ s. is_some (target_in (irq_in s state.irqs (Lpi id)).route s) ≡ has_target state.tables id) is.shape (is.targets id (here (Lpi id) there))
        ∙ ap (λ maps. has_target maps id) (sym maps_told);
    ram_order =
        sorted_found (ram_at state) (λ (ram : RamState). ram.index) 0 (state.shape.ram / 8)
        (λ index from below. ram_found index (word_at state (Ram index) == 0) (λ (ram : RamState). ram.index ≡ index) refl);
    each_word = each_found (IsValidWord guest.shape) (ram_at state) (state.shape.ram / 8) (λ index few. ram_found index (word_at state (Ram index) == 0) (IsValidWord guest.shape) (one_word index few));
  }
