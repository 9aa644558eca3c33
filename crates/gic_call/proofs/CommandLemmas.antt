-- The events of the next command of an ITS can happen.
use Rattle.std.proofs.Common.{◌≡◌, ℕ, ◌+◌, ◌*◌, ◌/◌, ◌%◌, ◌^◌, ◌<◌, ◌==◌, ◌⊎◌, inl, inr, Bool, true, false, cond, nat_lt, nat_le, is_none, IsTrue, IfSome, Option, Some, None, option_map, Result, Ok, Err, List, [], ◌∷◌, All, map, refl, sym, ap, subst, arith}
use Rattle.std.specs.Option.{option_map_or}
use Rattle.std.proofs.lemmas.Option.{same_Some}
use Rattle.std.specs.Map.{values_of}
use Rattle.std.specs.BTreeMap.{is_at}
use Rattle.std.specs.Cmp.{eq_by_cmp_equiv}
use Rattle.std.proofs.lemmas.Grind.{common_steps}
use Rattle.std.proofs.lemmas.List.FromFn.{length-range_with_len, get_or-range_with_len}
use Rattle.std.proofs.lemmas.List.Elements.{All-nil, All-cons, All-head, All-tail, All-map, All-filter, All-append, All-weaker}
use Rattle.std.proofs.lemmas.Map.Keys.{IsDistinct-from_sorted}
use Rattle.std.proofs.lemmas.Map.Views.{All-values_from_lookup}
use Rattle.floor_registers.specs.Words.{GuestShape, Lpi, has_interrupt, is_number, is_vcpu_or_none}
use Rattle.floor_registers.proofs.GicFrame.TestLemmas.{both, under, is_under}
use Rattle.floor_registers.specs.Registers.{queue_bytes, priority_of, Command, Movi, Int, Clear, Sync, Mapd, Mapc, Mapti, Mapi, Inv, Invall, Movall, Discard, BadCommand, CmdFault, DeviceRange, SizeRange, DeviceUnmapped, EventRange, EventUnmapped, IntIdRange, CollectionUnmapped, TargetRange, Maps, event_cmp, pair_of, id_of, target_of, collection_of, number_of, fault_of, faults, fault_number, IsValid}
use Rattle.floor_registers.specs.ItsCmd.Command.{decoded}
use Rattle.floor_registers.proofs.ItsTab.TableLemmas.{event_order}
use Rattle.floor_registers.proofs.ItsTab.AfterLemmas.{all_clear, below_from_test, right_id, or_clear}
use Rattle.gic_open.specs.declared.plain.PlainWord.TheVariants.{Cbaser}
use Rattle.gic_call.specs.declared.command.Part.{Part}
use Rattle.gic_call.specs.declared.command.Part.TheVariants.{Forget, Map, Retarget, Raise, Clear as ClearLpi, Configure}
use Rattle.gic_call.specs.declared.event.Event.{Event}
use Rattle.gic_call.specs.declared.event.Event.TheVariants.{Queue}
use Rattle.gic_call.specs.declared.event.QueueChange.TheVariants.{Done, Stalls}
use Rattle.gic_call.specs.Touch.{is_priority}
use Rattle.gic_call.specs.Valid.{IsOffset, HappensFreely}
use Rattle.gic_call.specs.View.{View}
use Rattle.gic_call.specs.Access.{lpis_of}
use Rattle.gic_call.specs.Command.{lpis_of_device, lpis_of_collection, lpis_for, mapping_parts, for_one, parts, config_byte, lpi_event, command_words, next_offset, decoded_parts, command_parts, queue_event}
use Rattle.gic_call.proofs.PartLemmas.{All-filter_map}
use Rattle.gic_call.proofs.CallLemmas.{lpi_there, mapped_there}

-- the priority in a configuration byte is one
low_bits : (x : ℕ) → x < 32 → IsTrue (is_priority (x * 8))
low_bits x h = grind (arith, common_steps)

priority_fits : (byte : ℕ) → IsTrue (is_priority (priority_of byte))
priority_fits byte = low_bits (byte / 2 ^ 3 % 2 ^ 5) (omega arith)

module _ (shape : GuestShape) (view : View) (maps : Maps) (targets : ℕ → Option ℕ) where
  -- a part is an event that the guest can have
  abbrev Happens : Part → Type 0
  Happens part = HappensFreely shape (lpi_event shape view targets part)

  abbrev HasLpi : ℕ → Type 0
  HasLpi id = IsTrue (has_interrupt shape (Lpi id))

  pub forget_happens : (id : ℕ) → HasLpi id → Happens (Forget id)
  forget_happens id there = record { there = there; fits = refl }

  pub map_happens : (id vcpu : ℕ) → HasLpi id → vcpu < shape.vcpus → Happens (Map id vcpu)
  map_happens id vcpu there target =
      let byte : ℕ = config_byte shape view (Some vcpu) id in
      record { there = there; fits = both (nat_lt vcpu shape.vcpus) (is_priority (priority_of byte)) (is_under vcpu shape.vcpus target) (priority_fits byte) }

  pub retarget_happens : (id : ℕ) (target : Option ℕ) → HasLpi id → IsTrue (is_vcpu_or_none shape target) → Happens (Retarget id target)
  retarget_happens id target there fits = record { there = there; fits = fits }

  raise_happens : (id : ℕ) → HasLpi id → Happens (Raise id)
  raise_happens id there = there

  clear_happens : (id : ℕ) → HasLpi id → Happens (ClearLpi id)
  clear_happens id there = record { there = there; fits = refl }

  pub configure_happens : (id : ℕ) → HasLpi id → Happens (Configure id)
  configure_happens id there = record { there = there; fits = priority_fits (config_byte shape view (targets id) id) }

  -- a part for each of some LPIs, and for one number of which something is known
  each_happens : (ids : List ℕ) (part : ℕ → Part) → All HasLpi ids → ((id : ℕ) → HasLpi id → Happens (part id)) → All Happens (map part ids)
  each_happens ids part there happens = All-map Happens part ids (All-weaker HasLpi (λ id. Happens (part id)) happens ids there)

  one_happens : (P : ℕ → Type 0) (number : Option ℕ) (part : ℕ → Part) → IfSome number P → ((n : ℕ) → P n → Happens (part n)) → All Happens (for_one number part)
  one_happens P None part there happens = All-nil Happens
  one_happens P (Some n) part there happens = All-cons Happens (part n) [] (happens n there) (All-nil Happens)

  -- the LPIs of the guest, those of a collection, and those for a vCPU
  all_lpis : All HasLpi (lpis_of shape)
  all_lpis = λ k d h. let below : k < shape.lpis = omega (arith, length-range_with_len 8192 shape.lpis) in subst HasLpi (sym (get_or-range_with_len 8192 shape.lpis k d below)) (lpi_there shape k below)

  all_of_collection : (icid : ℕ) → All HasLpi (lpis_of_collection shape maps icid)
  all_of_collection icid = All-filter (λ id. is_number icid (collection_of maps id)) HasLpi (lpis_of shape) all_lpis

  all_for : (vcpu : ℕ) → All HasLpi (lpis_for shape targets vcpu)
  all_for vcpu = All-filter (λ id. is_number vcpu (targets id)) HasLpi (lpis_of shape) all_lpis

  -- a vCPU that a command names without a fault
  pub vcpu_fits : (vcpu : ℕ) → nat_le shape.vcpus vcpu ≡ false → IsTrue (is_vcpu_or_none shape (Some vcpu))
  vcpu_fits vcpu h = is_under vcpu shape.vcpus (below_from_test shape.vcpus vcpu h)

  module _ (valid : IsValid shape maps) where
    pub id_there : (device event : ℕ) → IfSome (id_of maps (device, event)) HasLpi
    id_there device event = mapped_there shape maps (device, event) valid

    -- the vCPU of a collection
    pub target_there : (icid : ℕ) → IfSome (target_of maps icid) (λ vcpu. vcpu < shape.vcpus)
    target_there icid = elim (target_of maps icid) as (λ o. target_of maps icid ≡ o → IfSome o (λ vcpu. vcpu < shape.vcpus)) [
      | None ↦ λ e. tt
      | (Some vcpu) ↦ λ e. valid.target icid vcpu e
    ] refl

    target_fits : (icid : ℕ) → IsTrue (is_vcpu_or_none shape (target_of maps icid))
    target_fits icid = elim (target_of maps icid) as (λ o. IfSome o (λ vcpu. vcpu < shape.vcpus) → IsTrue (is_vcpu_or_none shape o)) [
      | None ↦ λ h. refl
      | (Some vcpu) ↦ λ h. is_under vcpu shape.vcpus h
    ] (target_there icid)

    -- the LPIs of a device's events
    all_mapped : All (λ pair. HasLpi pair.0) (values_of maps.events)
    all_mapped =
        All-values_from_lookup {eq = λ x y. is_at (event_cmp x) y} (eq_by_cmp_equiv event_order) (λ pair. HasLpi pair.0) maps.events (IsDistinct-from_sorted event_cmp _ valid.sound.events)
        (λ event. elim (pair_of maps event) as (λ o. pair_of maps event ≡ o → IfSome o (λ pair. HasLpi pair.0)) [
          | None ↦ λ e. tt
          | (Some pair) ↦ λ e. valid.interrupt event pair e
        ] refl)

    entries_mapped : (es : List ((ℕ × ℕ) × (ℕ × ℕ))) → All (λ pair. HasLpi pair.0) (values_of es) → All (λ entry. HasLpi entry.1.0) es
    entries_mapped [] h = All-nil (λ entry. HasLpi entry.1.0)
    entries_mapped (e ∷ es) h = All-cons (λ entry. HasLpi entry.1.0) e es (All-head (λ (pair : ℕ × ℕ). HasLpi pair.0) e.1 (values_of es) h) (entries_mapped es (All-tail (λ (pair : ℕ × ℕ). HasLpi pair.0) e.1 (values_of es) h))

    named : (b : Bool) (id : ℕ) → HasLpi id → IfSome (cond b (Some id) None) HasLpi
    named true id there = there
    named false id there = tt

    all_of_device : (device : ℕ) → All HasLpi (lpis_of_device maps device)
    all_of_device device =
        let each = All-weaker (λ entry. HasLpi entry.1.0) (λ entry. IfSome (cond (entry.0.0 == device) (Some entry.1.0) None) HasLpi) (λ entry there. named (entry.0.0 == device) entry.1.0 there) maps.events (entries_mapped maps.events all_mapped) in
        All-filter_map HasLpi (λ entry. cond (entry.0.0 == device) (Some entry.1.0) None) maps.events each

    mapping_happens : (device event id icid : ℕ) → HasLpi id → All Happens (mapping_parts maps (device, event) id icid)
    mapping_happens device event id icid there =
        All-append Happens (for_one (id_of maps (device, event)) Forget) (for_one (target_of maps icid) (Map id)) (one_happens HasLpi (id_of maps (device, event)) Forget (id_there device event) forget_happens)
        (one_happens (λ vcpu. vcpu < shape.vcpus) (target_of maps icid) (Map id) (target_there icid) (λ vcpu. map_happens id vcpu there))

    -- the parts of a command without a fault
    pub parts_happen : (command : Command) → fault_of shape maps command ≡ None → All Happens (parts shape maps targets command)
    parts_happen (Mapd device size itt_addr v) h = each_happens (lpis_of_device maps device) Forget (all_of_device device) forget_happens
    parts_happen (Mapc icid rdbase true) h =
        let fits = vcpu_fits rdbase (all_clear (faults shape maps (Mapc icid rdbase true)) h).0 in
        each_happens (lpis_of_collection shape maps icid) (λ id. Retarget id (Some rdbase)) (all_of_collection icid) (λ id there. retarget_happens id (Some rdbase) there fits)
    parts_happen (Mapc icid rdbase false) h = elim (is_none (target_of maps icid)) as (λ b. All Happens (cond b [] (map (λ id. Retarget id None) (lpis_of_collection shape maps icid)))) [
      | true ↦ All-nil Happens
      | false ↦ each_happens (lpis_of_collection shape maps icid) (λ id. Retarget id None) (all_of_collection icid) (λ id there. retarget_happens id None there refl)
    ]
    parts_happen (Mapti device event id icid) h =
        let tests = all_clear (faults shape maps (Mapti device event id icid)) h in
        mapping_happens device event id icid (right_id shape maps device event id tests.1.1.1.0).0
    parts_happen (Mapi device event icid) h =
        let tests = all_clear (faults shape maps (Mapi device event icid)) h in
        mapping_happens device event event icid (right_id shape maps device event event tests.1.1.1.0).0
    parts_happen (Movi device event icid) h = one_happens HasLpi (id_of maps (device, event)) (λ id. Retarget id (target_of maps icid)) (id_there device event) (λ id there. retarget_happens id (target_of maps icid) there (target_fits icid))
    parts_happen (Int device event) h = one_happens HasLpi (id_of maps (device, event)) Raise (id_there device event) raise_happens
    parts_happen (Clear device event) h = one_happens HasLpi (id_of maps (device, event)) ClearLpi (id_there device event) clear_happens
    parts_happen (Discard device event) h = one_happens HasLpi (id_of maps (device, event)) Forget (id_there device event) forget_happens
    parts_happen (Inv device event) h = one_happens HasLpi (id_of maps (device, event)) Configure (id_there device event) configure_happens
    parts_happen (Invall icid) h = each_happens (lpis_of_collection shape maps icid) Configure (all_of_collection icid) configure_happens
    parts_happen (Movall rdbase second) h =
        let tests = all_clear (faults shape maps (Movall rdbase second)) h in
        let fits = vcpu_fits second (or_clear (nat_le shape.vcpus rdbase) (nat_le shape.vcpus second) tests.0).1 in
        each_happens (lpis_for shape targets rdbase) (λ id. Retarget id (Some second)) (all_for rdbase) (λ id there. retarget_happens id (Some second) there fits)
    parts_happen (Sync rdbase) h = All-nil Happens

-- The next command.

-- its parts, of which there are none where it has a fault
command_parts_happen : (shape : GuestShape) (view : View) → IsValid shape view.maps → All (λ part. HappensFreely shape (lpi_event shape view view.targets part)) (command_parts shape view)
command_parts_happen shape view valid = of (decoded (command_words shape view))
  where
    Can : Part → Type 0
    Can = Happens shape view view.maps view.targets

    by_fault : (command : Command) (fault : Option CmdFault) → fault_of shape view.maps command ≡ fault → All Can (cond (is_none (option_map number_of fault)) (parts shape view.maps view.targets command) [])
    by_fault command None e = parts_happen shape view view.maps view.targets valid command e
    by_fault command (Some fault) e = All-nil Can

    of : (next : Result Command BadCommand) → All Can (cond (is_none (fault_number shape view.maps next)) (decoded_parts shape view next) [])
    of (Ok command) = by_fault command (fault_of shape view.maps command) refl
    of (Err bad) = All-nil Can

-- the events of its parts
pub command_valid : (shape : GuestShape) (view : View) → IsValid shape view.maps → All (HappensFreely shape) (map (lpi_event shape view view.targets) (command_parts shape view))
command_valid shape view valid = All-map (HappensFreely shape) (lpi_event shape view view.targets) (command_parts shape view) (command_parts_happen shape view valid)

-- the offset after it is that of a command
next_is_offset : (view : View) → IsOffset view.offset → IsOffset (next_offset view)
next_is_offset view at = of (nat_lt (view.offset + 32) bytes) refl
  where
    bytes : ℕ
    bytes = queue_bytes (view.words Cbaser)

    of : (b : Bool) → nat_lt (view.offset + 32) bytes ≡ b → IsOffset (cond b (view.offset + 32) 0)
    of true e = record { place = omega (arith, at.place); within = omega (arith, under (view.offset + 32) bytes e) }
    of false e = record { place = omega arith; within = omega arith }

-- it is done: the queue goes on to the place of a command, and the command has no fault
pub record IsDone (shape : GuestShape) (view : View) : Type 0 where
  pub is : queue_event shape view ≡ Queue (next_offset view) (Done (command_words shape view))
  pub next : IsOffset (next_offset view)
  pub good : fault_number shape view.maps (decoded (command_words shape view)) ≡ None

-- the number of a fault is in one byte
fault_small : (shape : GuestShape) (maps : Maps) (command : Result Command BadCommand) (n : ℕ) → fault_number shape maps command ≡ Some n → n < 256
fault_small shape maps (Err bad) n h = of (same_Some 10 n h)
  where
    of : 10 ≡ n → n < 256
    of e = omega (arith, e)
fault_small shape maps (Ok command) n h = of (fault_of shape maps command) h
  where
    small : (fault : CmdFault) → number_of fault < 256
    small DeviceRange = omega arith
    small SizeRange = omega arith
    small DeviceUnmapped = omega arith
    small EventRange = omega arith
    small EventUnmapped = omega arith
    small IntIdRange = omega arith
    small CollectionUnmapped = omega arith
    small TargetRange = omega arith

    of : (fault : Option CmdFault) → option_map number_of fault ≡ Some n → n < 256
    of None e = absurd (cc)
    of (Some fault) e = subst (λ m. m < 256) (same_Some (number_of fault) n e) (small fault)

-- the event with which it ends: a stall, or it is done
pub queue_valid : (shape : GuestShape) (view : View) → IsOffset view.offset → HappensFreely shape (queue_event shape view) ⊎ IsDone shape view
queue_valid shape view at = of (fault_number shape view.maps (decoded (command_words shape view))) refl
  where
    last : Option ℕ → Event
    last fault = option_map_or (λ n. Queue view.offset (Stalls n)) fault (Queue (next_offset view) (Done (command_words shape view)))

    of : (fault : Option ℕ) → fault_number shape view.maps (decoded (command_words shape view)) ≡ fault → HappensFreely shape (queue_event shape view) ⊎ IsDone shape view
    of None e = inr (record { is = ap last e; next = next_is_offset view at; good = e })
    of (Some fault) e = inl (subst (HappensFreely shape) (sym (ap last e)) (at, fault_small shape view.maps (decoded (command_words shape view)) fault e))
