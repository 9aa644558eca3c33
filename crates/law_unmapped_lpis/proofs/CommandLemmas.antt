-- What a command without a fault makes of an LPI that the maps give no vCPU after it.
use Rattle.std.proofs.Common.{◌≡◌, ℕ, ◌+◌, ◌==◌, nat_le, nat_lt, ◌⊎◌, inl, inr, not, Bool, true, false, cond, is_none, is_some, IsTrue, List, [], Option, Some, None, IsSome, refl, sym, ap, ◌∙◌, subst, arith}
use Rattle.std.specs.List.{list_all, list_any}
use Rattle.std.specs.Option.{option_map}
use Rattle.std.specs.Ordering.{is_eq, nat_cmp}
use Rattle.std.specs.Cmp.{tied_itself, nat_cmp_total}
use Rattle.std.specs.BTreeMap.{is_at}
use Rattle.std.proofs.lemmas.Bool.{and_parts, and_from, eq-eqb, eqb-true}
use Rattle.std.proofs.lemmas.Grind.{common_steps}
use Rattle.std.proofs.lemmas.List.Folds.{list_all-append, list_any-append}
use Rattle.std.proofs.lemmas.Map.Entries.{lookup-filter-keys}
use Rattle.std.proofs.lemmas.Map.Lookups.{exact_unsigned}
use Rattle.std.proofs.lemmas.Option.{same_Some}
use Rattle.law_lone_calls_are_eager.specs.Words.{GuestShape, is_number}
use Rattle.law_lone_calls_are_eager.specs.Registers.{Command, Movi, Int, Clear, Sync, Mapd, Mapc, Mapti, Mapi, Inv, Invall, Movall, Discard, Maps, event_cmp, pair_of, id_of, target_of, with_event, with_collection, without_event, without_collection, without_events, recollected, maps_after, IsValid, collection_of, has_target, fault_of, faults, on_mapping}
use Rattle.law_lone_calls_are_eager.proofs.ItsTab.AfterLemmas.{all_clear, there, some_from_test, kept_valid}
use Rattle.law_lone_calls_are_eager.proofs.ItsTab.MapLemmas.{equal_from_test, lookup-insert_entry, lookup-removed}
use Rattle.law_lone_calls_are_eager.proofs.ItsTab.TableLemmas.{event_order, same_event}
use Rattle.law_lone_calls_are_eager.specs.Calls.{Part, Map, Clear as ClearLpi, lpis_of, lpis_of_device, lpis_of_collection, lpis_for, each, for_one, mapping_parts, parts}
use Rattle.law_lone_calls_are_eager.specs.GicCall.declared.command.Part.TheVariants.{Forget, Retarget, Raise, Configure}
use Rattle.law_lone_calls_are_eager.proofs.LawHistories.CourseLemmas.{mark_is}
use Rattle.law_lone_calls_are_eager.proofs.EnableLemmas.{in_range}
use Rattle.law_lone_calls_are_eager.proofs.NamedLemmas.{IsIn, in_filter}
use Rattle.law_unmapped_lpis.proofs.ListLemmas.{or_first, each_all, one_all, filter_all, each_any, one_any, in_device}
use Rattle.law_unmapped_lpis.proofs.MapsLemmas.{HasTarget, collected, owned, targeted, target_from}
use Rattle.law_unmapped_lpis.proofs.PartLemmas.{leaves_none, gives_none, clash}

put_kept : {X : Type 0} (b : Bool) (v : X) (found : Option X) → IsSome found → IsSome (cond b (Some v) found)
put_kept true v found h = refl
put_kept false v found h = h

not_from : (b : Bool) → (b ≡ true → ⊥) → not b ≡ true
not_from true never = absurd (never refl)
not_from false never = refl

module _ (shape : GuestShape) (maps : Maps) (targets : ℕ → Option ℕ) (id : ℕ) (valid : IsValid shape maps) (none : has_target maps id ≡ false → targets id ≡ None) where
  -- no part gives it a vCPU, and where it had one, a part takes it
  pub record Loses (ps : List Part) : Type 0 where
    pub all : IsTrue (list_all (leaves_none id) ps)
    pub some : (targets id ≡ None) ⊎ (list_any (gives_none id) ps ≡ true)

  -- the LPI had one only where the maps gave it one
  had : (ps : List Part) → (HasTarget maps id → list_any (gives_none id) ps ≡ true) → (targets id ≡ None) ⊎ (list_any (gives_none id) ps ≡ true)
  had ps gives = of (has_target maps id) refl
    where
      of : (b : Bool) → has_target maps id ≡ b → (targets id ≡ None) ⊎ (list_any (gives_none id) ps ≡ true)
      of true e = inr (gives (target_from maps id valid.sound e))
      of false e = inl (none e)

  -- the LPI is there
  listed : (event : ℕ × ℕ) (icid : ℕ) → pair_of maps event ≡ Some (id, icid) → IsIn (lpis_of shape) id
  listed event icid pair =
      let two = and_parts (nat_le 8192 id) (nat_lt id (8192 + shape.lpis)) (valid.interrupt event (id, icid) pair) in
      in_range 8192 shape.lpis id (grind (arith, common_steps, two.0)) (grind (arith, common_steps, two.1))

  module _ (command : Command) (good : fault_of shape maps command ≡ None) (lost : has_target (maps_after maps command) id ≡ false) where
    never : HasTarget (maps_after maps command) id → ⊥
    never has = clash (has_target (maps_after maps command) id) (targeted (maps_after maps command) id (kept_valid shape maps command valid good).sound has) lost

  -- MAPD: the LPIs of the device's events lose theirs.
  device_loses : (device : ℕ) → (HasTarget (without_events maps device) id → ⊥) → Loses (each (lpis_of_device maps device) Forget)
  device_loses device never = record {
    all = each_all (leaves_none id) (lpis_of_device maps device) Forget (λ i. refl);
    some = had (each (lpis_of_device maps device) Forget) gives;
  }
    where
      stays : (q : ℕ × ℕ) → (q.0 == device) ≡ false → pair_of (without_events maps device) q ≡ pair_of maps q
      stays q other =
          let p : ℕ × ℕ → Bool = λ k. not (k.0 == device) in
          lookup-filter-keys (is_at (event_cmp q)) p (p q) (λ k e. ap p (sym (same_event q k e))) maps.events ∙ ap (λ b. cond (not b) (pair_of maps q) None) other

      gives : HasTarget maps id → list_any (gives_none id) (each (lpis_of_device maps device) Forget) ≡ true
      gives has = of (has.event.0 == device) refl
        where
          of : (b : Bool) → (has.event.0 == device) ≡ b → list_any (gives_none id) (each (lpis_of_device maps device) Forget) ≡ true
          of true own = each_any (gives_none id) (lpis_of_device maps device) Forget id (in_device device has.event id has.icid maps.events own has.pair) (eq-eqb id id refl)
          of false other = absurd (never (record { event = has.event; icid = has.icid; vcpu = has.vcpu; pair = stays has.event other ∙ has.pair; target = has.target }))

  -- MAPC: the LPIs of a collection that is mapped have one afterwards.
  collection_keeps : (icid rdbase : ℕ) → (HasTarget (with_collection maps icid rdbase) id → ⊥) → Loses (each (lpis_of_collection shape maps icid) (λ i. Retarget i (Some rdbase)))
  collection_keeps icid rdbase never = record {
    all = filter_all (leaves_none id) (λ i. is_number icid (collection_of maps i)) (lpis_of shape) (λ i. Retarget i (Some rdbase)) (λ i own. not_from (id == i) (λ same. never (here (ap (λ n. is_number icid (collection_of maps n)) (eqb-true id i same) ∙ own))));
    some = had (each (lpis_of_collection shape maps icid) (λ i. Retarget i (Some rdbase))) (λ has. absurd (never (mapped has)));
  }
    where
      found : (q : ℕ) → target_of (with_collection maps icid rdbase) q ≡ cond (is_at (nat_cmp icid) q) (Some rdbase) (target_of maps q)
      found q = lookup-insert_entry nat_cmp_total q icid rdbase maps.collections

      here : is_number icid (collection_of maps id) ≡ true → HasTarget (with_collection maps icid rdbase) id
      here own =
          let event = owned maps id icid valid.sound (mark_is icid (collection_of maps id) own) in
          record { event = event.0; icid = icid; vcpu = rdbase; pair = event.1; target = found icid ∙ ap (λ b. cond b (Some rdbase) (target_of maps icid)) (ap is_eq (tied_itself nat_cmp_total icid)) }

      mapped : HasTarget maps id → HasTarget (with_collection maps icid rdbase) id
      mapped has =
          let vcpu = some_from_test (target_of (with_collection maps icid rdbase) has.icid) (subst IsSome (sym (found has.icid)) (put_kept (is_at (nat_cmp icid) has.icid) rdbase (target_of maps has.icid) (ap is_some has.target))) in
          record { event = has.event; icid = has.icid; vcpu = vcpu.0; pair = has.pair; target = vcpu.1 }

  -- one that is unmapped: its LPIs lose theirs.
  collection_loses : (icid : ℕ) → (HasTarget (without_collection maps icid) id → ⊥) → Loses (cond (is_none (target_of maps icid)) [] (each (lpis_of_collection shape maps icid) (λ i. Retarget i None)))
  collection_loses icid never = of (is_none (target_of maps icid)) refl
    where
      found : (q : ℕ) → target_of (without_collection maps icid) q ≡ cond (is_at (nat_cmp icid) q) None (target_of maps q)
      found q = lookup-removed nat_cmp_total q icid maps.collections valid.sound.collections

      other : (has : HasTarget maps id) → is_at (nat_cmp icid) has.icid ≡ false → HasTarget (without_collection maps icid) id
      other has e = record { event = has.event; icid = has.icid; vcpu = has.vcpu; pair = has.pair; target = found has.icid ∙ ap (λ b. cond b None (target_of maps has.icid)) e ∙ has.target }

      own : (has : HasTarget maps id) → is_at (nat_cmp icid) has.icid ≡ true → icid ≡ has.icid
      own has e = exact_unsigned icid has.icid (equal_from_test (nat_cmp icid has.icid) e)

      of : (b : Bool) → is_none (target_of maps icid) ≡ b → Loses (cond b [] (each (lpis_of_collection shape maps icid) (λ i. Retarget i None)))
      of true e = record { all = refl; some = had [] (λ has. absurd (by has (is_at (nat_cmp icid) has.icid) refl)) }
        where
          by : (has : HasTarget maps id) (b : Bool) → is_at (nat_cmp icid) has.icid ≡ b → ⊥
          by has false t = never (other has t)
          by has true t = clash (is_none (target_of maps icid)) e (ap is_none (ap (target_of maps) (own has t) ∙ has.target))
      of false e = record {
        all = filter_all (leaves_none id) (λ i. is_number icid (collection_of maps i)) (lpis_of shape) (λ i. Retarget i None) (λ i h. refl);
        some = had (each (lpis_of_collection shape maps icid) (λ i. Retarget i None)) (λ has. by has (is_at (nat_cmp icid) has.icid) refl);
      }
        where
          by : (has : HasTarget maps id) (b : Bool) → is_at (nat_cmp icid) has.icid ≡ b → list_any (gives_none id) (each (lpis_of_collection shape maps icid) (λ i. Retarget i None)) ≡ true
          by has false t = absurd (never (other has t))
          by has true t =
              let mine : is_number icid (collection_of maps id) ≡ true = ap (is_number icid) (collected maps has.event id has.icid valid.sound has.pair) ∙ eq-eqb has.icid icid (sym (own has t)) in
              each_any (gives_none id) (lpis_of_collection shape maps icid) (λ i. Retarget i None) id (in_filter (λ i. is_number icid (collection_of maps i)) (lpis_of shape) id mine (listed has.event has.icid has.pair)) (eq-eqb id id refl)

  -- MAPTI, MAPI and MOVI: another event keeps its LPI.
  put_at : (event pair q : ℕ × ℕ) → pair_of (with_event maps event pair) q ≡ cond (is_at (event_cmp event) q) (Some pair) (pair_of maps q)
  put_at event pair q = lookup-insert_entry event_order q event pair maps.events

  put_here : (event : ℕ × ℕ) (lpi icid : ℕ) → is_none (target_of maps icid) ≡ false → (id == lpi) ≡ true → HasTarget (with_event maps event (lpi, icid)) id
  put_here event lpi icid mapped same =
      let vcpu = there (target_of maps icid) mapped in
      record {
        event = event;
        icid = icid;
        vcpu = vcpu.0;
        pair = put_at event (lpi, icid) event ∙ ap (λ b. cond b (Some (lpi, icid)) (pair_of maps event)) (ap is_eq (tied_itself event_order event)) ∙ ap (λ n. Some (n, icid)) (sym (eqb-true id lpi same));
        target = vcpu.1;
      }

  put_other : (event pair : ℕ × ℕ) (has : HasTarget maps id) → is_at (event_cmp event) has.event ≡ false → HasTarget (with_event maps event pair) id
  put_other event pair has e = record { event = has.event; icid = has.icid; vcpu = has.vcpu; pair = put_at event pair has.event ∙ ap (λ b. cond b (Some pair) (pair_of maps has.event)) e ∙ has.pair; target = has.target }

  -- the event had the LPI
  had_here : (event : ℕ × ℕ) (has : HasTarget maps id) → is_at (event_cmp event) has.event ≡ true → id_of maps event ≡ Some id
  had_here event has e = ap (id_of maps) (same_event event has.event e) ∙ ap (option_map (λ pair. pair.0)) has.pair

  mapping_loses : (event : ℕ × ℕ) (lpi icid : ℕ) → is_none (target_of maps icid) ≡ false → (HasTarget (with_event maps event (lpi, icid)) id → ⊥) → Loses (mapping_parts maps event lpi icid)
  mapping_loses event lpi icid mapped never = record {
    all =
        list_all-append (leaves_none id) forgets (for_one (target_of maps icid) (Map lpi))
        ∙ and_from (list_all (leaves_none id) forgets) (list_all (leaves_none id) (for_one (target_of maps icid) (Map lpi)))
        (one_all (leaves_none id) (id_of maps event) Forget (λ i e. refl))
        (one_all (leaves_none id) (target_of maps icid) (Map lpi) (λ vcpu e. not_from (id == lpi) (λ same. never (put_here event lpi icid mapped same))));
    some = had (mapping_parts maps event lpi icid) (λ has. by has (is_at (event_cmp event) has.event) refl);
  }
    where
      forgets : List Part
      forgets = for_one (id_of maps event) Forget

      by : (has : HasTarget maps id) (b : Bool) → is_at (event_cmp event) has.event ≡ b → list_any (gives_none id) (mapping_parts maps event lpi icid) ≡ true
      by has false e = absurd (never (put_other event (lpi, icid) has e))
      by has true e =
          list_any-append (gives_none id) forgets (for_one (target_of maps icid) (Map lpi))
          ∙ or_first (list_any (gives_none id) forgets) (list_any (gives_none id) (for_one (target_of maps icid) (Map lpi))) (one_any (gives_none id) (id_of maps event) Forget id (had_here event has e) (eq-eqb id id refl))

  move_keeps : (event pair : ℕ × ℕ) (icid : ℕ) → pair_of maps event ≡ Some pair → is_none (target_of maps icid) ≡ false → (HasTarget (with_event maps event (pair.0, icid)) id → ⊥) → Loses (for_one (id_of maps event) (λ i. Retarget i (target_of maps icid)))
  move_keeps event pair icid found mapped never = record {
    all = one_all (leaves_none id) (id_of maps event) (λ i. Retarget i (target_of maps icid)) (λ i e. leaves i (target_of maps icid) (same_Some pair.0 i (sym (ap (option_map (λ pair. pair.0)) found) ∙ e)));
    some = had (for_one (id_of maps event) (λ i. Retarget i (target_of maps icid))) (λ has. absurd (by has (is_at (event_cmp event) has.event) refl));
  }
    where
      apart : (id == pair.0) ≡ true → ⊥
      apart same = never (put_here event pair.0 icid mapped same)

      leaves : (i : ℕ) (target : Option ℕ) → pair.0 ≡ i → leaves_none id (Retarget i target) ≡ true
      leaves i None e = refl
      leaves i (Some vcpu) e = not_from (id == i) (λ same. apart (ap (λ n. id == n) e ∙ same))

      by : (has : HasTarget maps id) (b : Bool) → is_at (event_cmp event) has.event ≡ b → ⊥
      by has false e = never (put_other event (pair.0, icid) has e)
      by has true e = apart (eq-eqb id pair.0 (same_Some id pair.0 (sym (had_here event has e) ∙ ap (option_map (λ pair. pair.0)) found)))

  -- DISCARD: the event's LPI loses its own.
  discard_loses : (event : ℕ × ℕ) → (HasTarget (without_event maps event) id → ⊥) → Loses (for_one (id_of maps event) Forget)
  discard_loses event never = record {
    all = one_all (leaves_none id) (id_of maps event) Forget (λ i e. refl);
    some = had (for_one (id_of maps event) Forget) (λ has. by has (is_at (event_cmp event) has.event) refl);
  }
    where
      by : (has : HasTarget maps id) (b : Bool) → is_at (event_cmp event) has.event ≡ b → list_any (gives_none id) (for_one (id_of maps event) Forget) ≡ true
      by has false e =
          absurd
          (never
          (record {
            event = has.event;
            icid = has.icid;
            vcpu = has.vcpu;
            pair = lookup-removed event_order has.event event maps.events valid.sound.events ∙ ap (λ b. cond b None (pair_of maps has.event)) e ∙ has.pair;
            target = has.target;
          }))
      by has true e = one_any (gives_none id) (id_of maps event) Forget id (had_here event has e) (eq-eqb id id refl)

  -- MOVALL: only LPIs that are for a vCPU are moved.
  all_moved : (one other : ℕ) → targets id ≡ None → Loses (each (lpis_for shape targets one) (λ i. Retarget i (Some other)))
  all_moved one other is = record {
    all = filter_all (leaves_none id) (λ i. is_number one (targets i)) (lpis_of shape) (λ i. Retarget i (Some other)) (λ i own. not_from (id == i) (λ same. clash (is_number one (targets i)) own (ap (λ n. is_number one (targets n)) (sym (eqb-true id i same)) ∙ ap (is_number one) is)));
    some = inl is;
  }

  -- Each command.
  pub command_loses : (command : Command) → fault_of shape maps command ≡ None → has_target (maps_after maps command) id ≡ false → Loses (parts shape maps targets command)
  command_loses (Mapd device size itt_addr true) good lost =
      device_loses device (λ has. never (Mapd device size itt_addr true) good lost (record { event = has.event; icid = has.icid; vcpu = has.vcpu; pair = has.pair; target = has.target }))
  command_loses (Mapd device size itt_addr false) good lost =
      device_loses device (λ has. never (Mapd device size itt_addr false) good lost (record { event = has.event; icid = has.icid; vcpu = has.vcpu; pair = has.pair; target = has.target }))
  command_loses (Mapc icid rdbase true) good lost = collection_keeps icid rdbase (never (Mapc icid rdbase true) good lost)
  command_loses (Mapc icid rdbase false) good lost = collection_loses icid (never (Mapc icid rdbase false) good lost)
  command_loses (Mapti device event lpi icid) good lost =
      mapping_loses (device, event) lpi icid (all_clear (on_mapping shape maps device event lpi icid) good).1.1.1.1.0 (never (Mapti device event lpi icid) good lost)
  command_loses (Mapi device event icid) good lost =
      mapping_loses (device, event) event icid (all_clear (on_mapping shape maps device event event icid) good).1.1.1.1.0 (never (Mapi device event icid) good lost)
  command_loses (Movi device event icid) good lost =
      let tests = all_clear (faults shape maps (Movi device event icid)) good in
      let pair = there (pair_of maps (device, event)) tests.1.1.1.0 in
      move_keeps (device, event) pair.0 icid pair.1 tests.1.1.1.1.0
      (λ has. never (Movi device event icid) good lost (subst (λ o. HasTarget (recollected maps (device, event) icid o) id) (sym pair.1) has))
  command_loses (Discard device event) good lost = discard_loses (device, event) (never (Discard device event) good lost)
  command_loses (Int device event) good lost = record { all = one_all (leaves_none id) (id_of maps (device, event)) Raise (λ i e. refl); some = inl (none lost) }
  command_loses (Clear device event) good lost = record { all = one_all (leaves_none id) (id_of maps (device, event)) ClearLpi (λ i e. refl); some = inl (none lost) }
  command_loses (Inv device event) good lost = record { all = one_all (leaves_none id) (id_of maps (device, event)) Configure (λ i e. refl); some = inl (none lost) }
  command_loses (Invall icid) good lost = record { all = each_all (leaves_none id) (lpis_of_collection shape maps icid) Configure (λ i. refl); some = inl (none lost) }
  command_loses (Movall one other) good lost = all_moved one other (none lost)
  command_loses (Sync rdbase) good lost = record { all = refl; some = inl (none lost) }
