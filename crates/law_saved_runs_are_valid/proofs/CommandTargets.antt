-- An LPI that the maps give a vCPU after a command without a fault is for one after its parts.
use Rattle.std.proofs.Common.{◌≡◌, ℕ, ◌+◌, ◌==◌, ◌&&◌, ◌⊎◌, inl, inr, nat_le, nat_lt, not, Bool, true, false, cond, is_none, is_some, List, [], ◌∷◌, filter, Option, Some, None, refl, sym, ap, ◌∙◌, subst, arith}
use Rattle.std.specs.Option.{option_map}
use Rattle.std.specs.List.{filter_map, cons_option}
use Rattle.std.specs.Prelude.{find}
use Rattle.std.specs.Ordering.{is_eq, nat_cmp}
use Rattle.std.specs.Cmp.{tied_itself, nat_cmp_total}
use Rattle.std.specs.BTreeMap.{is_at}
use Rattle.std.proofs.lemmas.Bool.{and_parts, eq-eqb, eqb-true}
use Rattle.std.proofs.lemmas.Bool.Decides.{eqb_tells}
use Rattle.std.proofs.lemmas.Grind.{common_steps}
use Rattle.std.proofs.lemmas.Map.Entries.{lookup-filter-keys}
use Rattle.std.proofs.lemmas.Map.Lookups.{exact_unsigned}
use Rattle.std.proofs.lemmas.Option.{same_Some, none-some}
use Rattle.law_unmapped_lpis.specs.Words.{GuestShape, is_number}
use Rattle.law_unmapped_lpis.specs.Registers.{Command, Movi, Int, Clear, Sync, Mapd, Mapc, Mapti, Mapi, Inv, Invall, Movall, Discard, Maps, event_cmp, pair_of, id_of, target_of, with_event, with_collection, without_event, without_collection, without_events, recollected, maps_after, IsValid, collection_of, has_target, fault_of, faults, on_mapping}
use Rattle.law_unmapped_lpis.proofs.ItsTab.AfterLemmas.{all_clear, there, kept_valid}
use Rattle.law_unmapped_lpis.proofs.ItsTab.MapLemmas.{equal_from_test, lookup-insert_entry, lookup-removed, lookup-found}
use Rattle.law_unmapped_lpis.proofs.ItsTab.TableLemmas.{event_order, same_event}
use Rattle.law_unmapped_lpis.specs.Calls.{Part, Map, Clear as ClearLpi, lpis_of, lpis_of_device, lpis_of_collection, lpis_for, each, for_one, mapping_parts, parts}
use Rattle.law_unmapped_lpis.specs.GicCall.declared.command.Part.TheVariants.{Forget, Retarget, Raise, Configure}
use Rattle.law_unmapped_lpis.proofs.LawHistories.CourseLemmas.{mark_is}
use Rattle.law_unmapped_lpis.proofs.LawLoneCallsAreEager.EnableLemmas.{in_range}
use Rattle.law_unmapped_lpis.proofs.LawLoneCallsAreEager.NamedLemmas.{IsIn, in_filter}
use Rattle.law_unmapped_lpis.proofs.MapsLemmas.{HasTarget, collected, targeted, target_from}
use Rattle.law_unmapped_lpis.proofs.PartLemmas.{clash}
use Rattle.law_saved_runs_are_valid.proofs.PartTargets.{after_part, after_parts, after_append, each_keep, one_keeps, each_gives}

-- what stands in a filtered list passes
passes_in : (p : ℕ → Bool) (xs : List ℕ) (x : ℕ) → IsIn (filter p xs) x → p x ≡ true
passes_in p [] x is = absurd is
passes_in p (y ∷ ys) x is = of (p y) refl is (passes_in p ys x)
  where
    of : (b : Bool) → p y ≡ b → IsIn (cond b (y ∷ filter p ys) (filter p ys)) x → (IsIn (filter p ys) x → p x ≡ true) → p x ≡ true
    of true e (inl same) later = ap p (sym same) ∙ e
    of true e (inr more) later = later more
    of false e is later = later is

-- where an LPI is one of a device's, an entry of the device has it
entry_of : (device id : ℕ) (es : List ((ℕ × ℕ) × (ℕ × ℕ))) → IsIn (filter_map (λ pair. cond (pair.0.0 == device) (Some pair.1.0) None) es) id
    → (e : (ℕ × ℕ) × (ℕ × ℕ)) × (find (λ pair. pair.0.0 == device && pair.1.0 == id) es ≡ Some e)
entry_of device id [] is = absurd is
entry_of device id (x ∷ es) is = of (x.0.0 == device) (x.1.0 == id) refl is (entry_of device id es)
  where
    of : (a b : Bool) → (x.1.0 == id) ≡ b → IsIn (cons_option (cond a (Some x.1.0) None) (filter_map (λ pair. cond (pair.0.0 == device) (Some pair.1.0) None) es)) id
        → (IsIn (filter_map (λ pair. cond (pair.0.0 == device) (Some pair.1.0) None) es) id → (e : (ℕ × ℕ) × (ℕ × ℕ)) × (find (λ pair. pair.0.0 == device && pair.1.0 == id) es ≡ Some e))
        → (e : (ℕ × ℕ) × (ℕ × ℕ)) × (cond (a && b) (Some x) (find (λ pair. pair.0.0 == device && pair.1.0 == id) es) ≡ Some e)
    of true true h is later = (x, refl)
    of true false h (inl same) later = absurd (let yes = eq-eqb x.1.0 id same in cc)
    of true false h (inr more) later = later more
    of false b h is later = later is

keep_other : (b : Bool) (x y : Bool) → b ≡ false → cond b x y ≡ y
keep_other true x y h = absurd (cc)
keep_other false x y h = refl

not_same : (a b : ℕ) → (a ≡ b → ⊥) → (a == b) ≡ false
not_same a b differ = elim (eqb_tells a b) [
  | inl same ↦ absurd (differ same.1)
  | inr other ↦ other.0
]

stays_true : (b : Bool) (c : Bool) → c ≡ true → cond b true c ≡ true
stays_true true c h = refl
stays_true false c h = h

module _ (shape : GuestShape) (maps : Maps) (targets : ℕ → Option ℕ) (id : ℕ) (valid : IsValid shape maps) (some : has_target maps id ≡ true → is_some (targets id) ≡ true) where
  abbrev Ends : List Part → Type 0
  Ends ps = after_parts id ps (is_some (targets id)) ≡ true

  -- the LPI was for one before
  before : HasTarget maps id → is_some (targets id) ≡ true
  before has = some (targeted maps id valid.sound has)

  -- parts of other LPIs
  forgets_other : (ids : List ℕ) → HasTarget maps id → ((i : ℕ) → IsIn ids i → id ≡ i → ⊥) → Ends (each ids Forget)
  forgets_other ids has other = each_keep id ids Forget (is_some (targets id)) (λ i is. keep_other (id == i) false (is_some (targets id)) (not_same id i (other i is))) ∙ before has

  listed : (event : ℕ × ℕ) (icid : ℕ) → pair_of maps event ≡ Some (id, icid) → IsIn (lpis_of shape) id
  listed event icid pair =
      let two = and_parts (nat_le 8192 id) (nat_lt id (8192 + shape.lpis)) (valid.interrupt event (id, icid) pair) in
      in_range 8192 shape.lpis id (grind (arith, common_steps, two.0)) (grind (arith, common_steps, two.1))

  -- MAPD
  device_ends : (device : ℕ) → HasTarget (without_events maps device) id → Ends (each (lpis_of_device maps device) Forget)
  device_ends device has = forgets_other (lpis_of_device maps device) had (λ i is same. apart_from i is same)
    where
      p : ℕ × ℕ → Bool
      p k = not (k.0 == device)

      found : cond (not (has.event.0 == device)) (pair_of maps has.event) None ≡ Some (id, has.icid)
      found = sym (lookup-filter-keys (is_at (event_cmp has.event)) p (p has.event) (λ k e. ap p (sym (same_event has.event k e))) maps.events) ∙ has.pair

      apart : (b : Bool) → (has.event.0 == device) ≡ b → cond (not b) (pair_of maps has.event) None ≡ Some (id, has.icid) → (b ≡ false) × (pair_of maps has.event ≡ Some (id, has.icid))
      apart true e f = absurd (none-some (id, has.icid) f)
      apart false e f = (refl, f)

      both : ((has.event.0 == device) ≡ false) × (pair_of maps has.event ≡ Some (id, has.icid))
      both = apart (has.event.0 == device) refl found

      had : HasTarget maps id
      had = record { event = has.event; icid = has.icid; vcpu = has.vcpu; pair = both.1; target = has.target }

      apart_from : (i : ℕ) → IsIn (lpis_of_device maps device) i → id ≡ i → ⊥
      apart_from i is same =
          let entry = entry_of device id maps.events (subst (IsIn (lpis_of_device maps device)) (sym same) is) in
          let at = lookup-found event_order (λ pair. pair.0.0 == device && pair.1.0 == id) maps.events entry.0 valid.sound.events entry.1 in
          let tests = and_parts (entry.0.0.0 == device) (entry.0.1.0 == id) at.1 in
          let pair : pair_of maps entry.0.0 ≡ Some (id, entry.0.1.1) = at.0 ∙ ap (λ n. Some (n, entry.0.1.1)) (eqb-true entry.0.1.0 id tests.1) in
          let one : entry.0.0 ≡ has.event = valid.sound.one_each entry.0.0 has.event id entry.0.1.1 has.icid pair both.1 in
          clash (has.event.0 == device) (ap (λ (e : ℕ × ℕ). e.0 == device) (sym one) ∙ tests.0) both.0

  -- MAPC: the LPIs of a collection that is mapped get its vCPU, and those of one that is unmapped are others
  collection_ends : (icid rdbase : ℕ) → HasTarget (with_collection maps icid rdbase) id → Ends (each (lpis_of_collection shape maps icid) (λ i. Retarget i (Some rdbase)))
  collection_ends icid rdbase has = each_gives id (lpis_of_collection shape maps icid) rdbase (is_some (targets id)) (of (is_at (nat_cmp icid) has.icid) refl)
    where
      found : target_of (with_collection maps icid rdbase) has.icid ≡ cond (is_at (nat_cmp icid) has.icid) (Some rdbase) (target_of maps has.icid)
      found = lookup-insert_entry nat_cmp_total has.icid icid rdbase maps.collections

      of : (b : Bool) → is_at (nat_cmp icid) has.icid ≡ b → (is_some (targets id) ≡ true) ⊎ IsIn (lpis_of_collection shape maps icid) id
      of true e =
          let same : icid ≡ has.icid = exact_unsigned icid has.icid (equal_from_test (nat_cmp icid has.icid) e) in
          let mine : is_number icid (collection_of maps id) ≡ true = ap (is_number icid) (collected maps has.event id has.icid valid.sound has.pair) ∙ eq-eqb has.icid icid (sym same) in
          inr (in_filter (λ i. is_number icid (collection_of maps i)) (lpis_of shape) id mine (listed has.event has.icid has.pair))
      of false e = inl (before (record { event = has.event; icid = has.icid; vcpu = has.vcpu; pair = has.pair; target = ap (λ b. cond b (Some rdbase) (target_of maps has.icid)) (sym e) ∙ sym found ∙ has.target }))

  uncollected_ends : (icid : ℕ) → HasTarget (without_collection maps icid) id → Ends (cond (is_none (target_of maps icid)) [] (each (lpis_of_collection shape maps icid) (λ i. Retarget i None)))
  unfolding after_parts
  uncollected_ends icid has = of (is_none (target_of maps icid))
    where
      found : target_of (without_collection maps icid) has.icid ≡ cond (is_at (nat_cmp icid) has.icid) None (target_of maps has.icid)
      found = lookup-removed nat_cmp_total has.icid icid maps.collections valid.sound.collections

      apart : (b : Bool) → cond b None (target_of maps has.icid) ≡ Some has.vcpu → target_of maps has.icid ≡ Some has.vcpu
      apart true f = absurd (none-some has.vcpu f)
      apart false f = f

      differ : has.icid ≡ icid → ⊥
      differ same = absurd (none-some has.vcpu (sym (ap (λ b. cond b None (target_of maps has.icid)) (ap (λ n. is_at (nat_cmp icid) n) same ∙ ap is_eq (tied_itself nat_cmp_total icid))) ∙ sym found ∙ has.target))

      had : HasTarget maps id
      had = record { event = has.event; icid = has.icid; vcpu = has.vcpu; pair = has.pair; target = apart (is_at (nat_cmp icid) has.icid) (sym found ∙ has.target) }

      other : (i : ℕ) → IsIn (lpis_of_collection shape maps icid) i → id ≡ i → ⊥
      other i is same =
          let mine = passes_in (λ i. is_number icid (collection_of maps i)) (lpis_of shape) i is in
          differ (same_number (sym (collected maps has.event id has.icid valid.sound has.pair) ∙ ap (collection_of maps) same ∙ mark_is icid (collection_of maps i) mine))
        where
          same_number : Some has.icid ≡ Some icid → has.icid ≡ icid
          same_number e = cc

      of : (b : Bool) → after_parts id (cond b [] (each (lpis_of_collection shape maps icid) (λ i. Retarget i None))) (is_some (targets id)) ≡ true
      of true = before had
      of false = each_keep id (lpis_of_collection shape maps icid) (λ i. Retarget i None) (is_some (targets id)) (λ i is. keep_other (id == i) false (is_some (targets id)) (not_same id i (other i is))) ∙ before had

  -- MAPTI and MAPI
  put_at : (event pair q : ℕ × ℕ) → pair_of (with_event maps event pair) q ≡ cond (is_at (event_cmp event) q) (Some pair) (pair_of maps q)
  put_at event pair q = lookup-insert_entry event_order q event pair maps.events

  -- the event of the LPI is the one that is mapped, or another, which it was before
  record Mapped (event : ℕ × ℕ) (lpi : ℕ) : Type 0 where
    pub same : (id ≡ lpi) ⊎ (HasTarget maps id × ((i : ℕ) → id_of maps event ≡ Some i → id ≡ i → ⊥))

  mapped_by : (event : ℕ × ℕ) (lpi icid : ℕ) → HasTarget (with_event maps event (lpi, icid)) id → Mapped event lpi
  mapped_by event lpi icid has = of (is_at (event_cmp event) has.event) refl (sym (put_at event (lpi, icid) has.event) ∙ has.pair)
    where
      first : (a b : ℕ × ℕ) → Some a ≡ Some b → b.0 ≡ a.0
      first a b e = ap (λ (x : ℕ × ℕ). x.0) (sym (same_Some a b e))

      of : (b : Bool) → is_at (event_cmp event) has.event ≡ b → cond b (Some (lpi, icid)) (pair_of maps has.event) ≡ Some (id, has.icid) → Mapped event lpi
      of true e f = record { same = inl (first (lpi, icid) (id, has.icid) f) }
      of false e f = record { same = inr (record { event = has.event; icid = has.icid; vcpu = has.vcpu; pair = f; target = has.target }, λ i found same. apart (pair_of maps event) refl i found same) }
        where
          apart : (o : Option (ℕ × ℕ)) → pair_of maps event ≡ o → (i : ℕ) → option_map (λ (pair : ℕ × ℕ). pair.0) o ≡ Some i → id ≡ i → ⊥
          apart None g i found same = absurd (none-some i found)
          apart (Some pair) g i found same =
              let mine : pair_of maps event ≡ Some (id, pair.1) = g ∙ ap (λ n. Some (n, pair.1)) (same_Some pair.0 i found ∙ sym same) in
              let one : event ≡ has.event = valid.sound.one_each event has.event id pair.1 has.icid mine f in
              clash (is_at (event_cmp event) has.event) (ap (λ q. is_at (event_cmp event) q) (sym one) ∙ ap is_eq (tied_itself event_order event)) e

  mapping_ends : (event : ℕ × ℕ) (lpi icid : ℕ) → is_none (target_of maps icid) ≡ false → HasTarget (with_event maps event (lpi, icid)) id → Ends (mapping_parts maps event lpi icid)
  unfolding after_parts
  mapping_ends event lpi icid mapped has =
      after_append id (for_one (id_of maps event) Forget) (for_one (target_of maps icid) (Map lpi)) (is_some (targets id))
      ∙ ap (λ o. after_parts id (for_one o (Map lpi)) (after_parts id (for_one (id_of maps event) Forget) (is_some (targets id)))) vcpu.1
      ∙ of (mapped_by event lpi icid has).same
    where
      vcpu : (v : ℕ) × (target_of maps icid ≡ Some v)
      vcpu = there (target_of maps icid) mapped

      of : (id ≡ lpi) ⊎ (HasTarget maps id × ((i : ℕ) → id_of maps event ≡ Some i → id ≡ i → ⊥)) → cond (id == lpi) true (after_parts id (for_one (id_of maps event) Forget) (is_some (targets id))) ≡ true
      of (inl same) = ap (λ b. cond b true (after_parts id (for_one (id_of maps event) Forget) (is_some (targets id)))) (eq-eqb id lpi same)
      of (inr other) =
          stays_true (id == lpi) (after_parts id (for_one (id_of maps event) Forget) (is_some (targets id)))
          (one_keeps id (id_of maps event) Forget (is_some (targets id)) (λ i found. keep_other (id == i) false (is_some (targets id)) (not_same id i (other.1 i found))) ∙ before other.0)

  -- MOVI
  move_ends : (event pair : ℕ × ℕ) (icid : ℕ) → pair_of maps event ≡ Some pair → is_none (target_of maps icid) ≡ false → HasTarget (with_event maps event (pair.0, icid)) id → Ends (for_one (id_of maps event) (λ i. Retarget i (target_of maps icid)))
  unfolding after_parts
  move_ends event pair icid found mapped has =
      ap (λ o. after_parts id (for_one o (λ i. Retarget i (target_of maps icid))) (is_some (targets id))) (ap (option_map (λ (pair : ℕ × ℕ). pair.0)) found)
      ∙ ap (λ o. after_part id (Retarget pair.0 o) (is_some (targets id))) vcpu.1
      ∙ of (mapped_by event pair.0 icid has).same
    where
      vcpu : (v : ℕ) × (target_of maps icid ≡ Some v)
      vcpu = there (target_of maps icid) mapped

      of : (id ≡ pair.0) ⊎ (HasTarget maps id × ((i : ℕ) → id_of maps event ≡ Some i → id ≡ i → ⊥)) → cond (id == pair.0) true (is_some (targets id)) ≡ true
      of (inl same) = ap (λ b. cond b true (is_some (targets id))) (eq-eqb id pair.0 same)
      of (inr other) = stays_true (id == pair.0) (is_some (targets id)) (before other.0)

  -- DISCARD
  discard_ends : (event : ℕ × ℕ) → HasTarget (without_event maps event) id → Ends (for_one (id_of maps event) Forget)
  discard_ends event has =
      one_keeps id (id_of maps event) Forget (is_some (targets id)) (λ i found. keep_other (id == i) false (is_some (targets id)) (not_same id i (other i found))) ∙ before had
    where
      left : cond (is_at (event_cmp event) has.event) None (pair_of maps has.event) ≡ Some (id, has.icid)
      left = sym (lookup-removed event_order has.event event maps.events valid.sound.events) ∙ has.pair

      apart : (b : Bool) → is_at (event_cmp event) has.event ≡ b → cond b None (pair_of maps has.event) ≡ Some (id, has.icid) → (is_at (event_cmp event) has.event ≡ false) × (pair_of maps has.event ≡ Some (id, has.icid))
      apart true e f = absurd (none-some (id, has.icid) f)
      apart false e f = (e, f)

      both : (is_at (event_cmp event) has.event ≡ false) × (pair_of maps has.event ≡ Some (id, has.icid))
      both = apart (is_at (event_cmp event) has.event) refl left

      had : HasTarget maps id
      had = record { event = has.event; icid = has.icid; vcpu = has.vcpu; pair = both.1; target = has.target }

      other : (i : ℕ) → id_of maps event ≡ Some i → id ≡ i → ⊥
      other i found same = of (pair_of maps event) refl found
        where
          of : (o : Option (ℕ × ℕ)) → pair_of maps event ≡ o → option_map (λ (pair : ℕ × ℕ). pair.0) o ≡ Some i → ⊥
          of None g found = absurd (none-some i found)
          of (Some pair) g found =
              let mine : pair_of maps event ≡ Some (id, pair.1) = g ∙ ap (λ n. Some (n, pair.1)) (same_Some pair.0 i found ∙ sym same) in
              let one : event ≡ has.event = valid.sound.one_each event has.event id pair.1 has.icid mine both.1 in
              clash (is_at (event_cmp event) has.event) (ap (λ q. is_at (event_cmp event) q) (sym one) ∙ ap is_eq (tied_itself event_order event)) both.0

  -- each command
  pub command_ends : (command : Command) → fault_of shape maps command ≡ None → has_target (maps_after maps command) id ≡ true → Ends (parts shape maps targets command)
  unfolding after_parts
  command_ends command good has_it = of command good (target_from (maps_after maps command) id (kept_valid shape maps command valid good).sound has_it)
    where
      of : (command : Command) → fault_of shape maps command ≡ None → HasTarget (maps_after maps command) id → after_parts id (parts shape maps targets command) (is_some (targets id)) ≡ true
      of (Mapd device size itt_addr true) good has = device_ends device (record { event = has.event; icid = has.icid; vcpu = has.vcpu; pair = has.pair; target = has.target })
      of (Mapd device size itt_addr false) good has = device_ends device (record { event = has.event; icid = has.icid; vcpu = has.vcpu; pair = has.pair; target = has.target })
      of (Mapc icid rdbase true) good has = collection_ends icid rdbase has
      of (Mapc icid rdbase false) good has = uncollected_ends icid has
      of (Mapti device event lpi icid) good has = mapping_ends (device, event) lpi icid (all_clear (on_mapping shape maps device event lpi icid) good).1.1.1.1.0 has
      of (Mapi device event icid) good has = mapping_ends (device, event) event icid (all_clear (on_mapping shape maps device event event icid) good).1.1.1.1.0 has
      of (Movi device event icid) good has =
          let tests = all_clear (faults shape maps (Movi device event icid)) good in
          let pair = there (pair_of maps (device, event)) tests.1.1.1.0 in
          move_ends (device, event) pair.0 icid pair.1 tests.1.1.1.1.0 (subst (λ o. HasTarget (recollected maps (device, event) icid o) id) pair.1 has)
      of (Discard device event) good has = discard_ends (device, event) has
      of (Int device event) good has = one_keeps id (id_of maps (device, event)) Raise (is_some (targets id)) (λ i e. refl) ∙ before has
      of (Clear device event) good has = one_keeps id (id_of maps (device, event)) ClearLpi (is_some (targets id)) (λ i e. refl) ∙ before has
      of (Inv device event) good has = one_keeps id (id_of maps (device, event)) Configure (is_some (targets id)) (λ i e. refl) ∙ before has
      of (Invall icid) good has = each_keep id (lpis_of_collection shape maps icid) Configure (is_some (targets id)) (λ i is. refl) ∙ before has
      of (Movall one other) good has = each_gives id (lpis_for shape targets one) other (is_some (targets id)) (inl (before has))
      of (Sync rdbase) good has = before has
