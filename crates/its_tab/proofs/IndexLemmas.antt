-- The index by INTID stays the inverse of the events as they change.
use Rattle.std.proofs.Common.{◌≡◌, ◌≢◌, ℕ, Bool, true, false, cond, Some, None, Option, IsSome, IfSome, List, [], ◌⊎◌, inl, inr, refl, sym, ap, ◌∙◌, subst, true≢false}
use Rattle.std.specs.Option.{option_map}
use Rattle.std.specs.Ordering.{nat_cmp, is_eq}
use Rattle.std.specs.Cmp.{tied_itself, nat_cmp_total}
use Rattle.std.specs.Map.{lookup, keys_of, remove_entry}
use Rattle.std.specs.List.Sorted.{IsStrictlySortedBy}
use Rattle.std.specs.BTreeMap.{is_at, insert_entry}
use Rattle.std.proofs.lemmas.Option.{none-some, same_Some}
use Rattle.its_tab.specs.Maps.{Maps, event_cmp, pair_of, id_of, bits_of, owner_of, with_event, without_event, IsSound, IsIndex, IsIndexed}
use Rattle.sorted_pairs.proofs.MapLemmas.{same_number, lookup-insert_entry, lookup-removed, sorted-insert, sorted-remove}
use Rattle.its_tab.proofs.TableLemmas.{event_order, same_event, sound-with_event, sound-without_event}
use Rattle.its_tab.proofs.SearchLemmas.{OwnerFacts, owner_facts, pair_from_id}

-- an INTID has one owner at most
agree : (maps : Maps) (id : ℕ) (x y : Option (ℕ × ℕ)) → OwnerFacts maps id x → OwnerFacts maps id y → x ≡ y
agree maps id None None f g = refl
agree maps id None (Some e) f g = absurd (f.none e g.found)
agree maps id (Some e) None f g = absurd (g.none e f.found)
agree maps id (Some e) (Some d) f g = ap Some (g.only e f.found)

owner_is : (maps : Maps) (id : ℕ) (owner : Option (ℕ × ℕ)) → IsSound maps → OwnerFacts maps id owner → owner ≡ owner_of maps id
owner_is maps id owner sound facts = agree maps id owner (owner_of maps id) facts (owner_facts maps id sound)

one_event : (maps : Maps) (x y : ℕ × ℕ) (id : ℕ) → IsSound maps → id_of maps x ≡ Some id → id_of maps y ≡ Some id → x ≡ y
one_event maps x y id sound h k =
    let first = pair_from_id maps x id h in
    let second = pair_from_id maps y id k in
    sound.one_each x y id first.0 second.0 first.1 second.1

-- an INTID that only this event may have is had by no other
owner_only : (maps : Maps) (event other : ℕ × ℕ) (id : ℕ) → IsSound maps → IfSome (owner_of maps id) (λ owner. owner ≡ event) → id_of maps other ≡ Some id → event ≡ other
owner_only maps event other id sound free there = elim (owner_of maps id) as (λ o. OwnerFacts maps id o → IfSome o (λ owner. owner ≡ event) → event ≡ other) [
  | None ↦ λ facts h. absurd (facts.none other there)
  | (Some owner) ↦ λ facts h. sym h ∙ sym (facts.only other there)
] (owner_facts maps id sound) free

pub owner_missing : (maps : Maps) (event : ℕ × ℕ) (id : ℕ) → IsSound maps → IfSome (owner_of maps id) (λ owner. owner ≡ event) → pair_of maps event ≡ None → owner_of maps id ≡ None
owner_missing maps event id sound free missing = elim (owner_of maps id) as (λ o. OwnerFacts maps id o → IfSome o (λ owner. owner ≡ event) → o ≡ None) [
  | None ↦ λ facts h. refl
  | (Some owner) ↦ λ facts h. absurd (none-some id (sym (ap (option_map (λ w. w.0)) missing) ∙ ap (id_of maps) (sym h) ∙ facts.found))
] (owner_facts maps id sound) free

own_number : {id : ℕ} (q : ℕ) (found : Option (ℕ × ℕ)) → IfSome found (λ pair. pair.0 ≡ id) → option_map (λ w. w.0) found ≡ Some q → id ≡ q
own_number q None own there = absurd (none-some q there)
own_number q (Some pair) own there = sym own ∙ same_Some pair.0 q there

at_itself : (event : ℕ × ℕ) → is_at (event_cmp event) event ≡ true
at_itself event = ap is_eq (tied_itself event_order event)

apart : (event other : ℕ × ℕ) → is_at (event_cmp event) other ≡ false → event ≢ other
apart event other t same = true≢false (sym (at_itself event) ∙ ap (λ e. is_at (event_cmp event) e) same ∙ t)

other_number : (x y : ℕ) → is_at (nat_cmp x) y ≡ false → x ≢ y
other_number x y t same = true≢false (sym (ap is_eq (tied_itself nat_cmp_total x)) ∙ ap (λ n. is_at (nat_cmp x) n) same ∙ t)

-- an event that is mapped owns its INTID
pub owner_there : (maps : Maps) (event pair : ℕ × ℕ) (id : ℕ) → IsSound maps → pair_of maps event ≡ Some pair → pair.0 ≡ id → owner_of maps id ≡ Some event
owner_there maps event pair id sound there same =
    let own : id_of maps event ≡ Some id = ap (option_map (λ w. w.0)) there ∙ ap Some same in
    sym (owner_is maps id (Some event) sound (record { found = own; only = λ other h. one_event maps other event id sound h own; none = tt }))

-- and no other INTID
pub owner_missing_other : (maps : Maps) (event pair : ℕ × ℕ) (id : ℕ) → IsSound maps → IfSome (owner_of maps id) (λ owner. owner ≡ event) → pair_of maps event ≡ Some pair → pair.0 ≢ id → owner_of maps id ≡ None
owner_missing_other maps event pair id sound free there other = elim (owner_of maps id) as (λ o. OwnerFacts maps id o → IfSome o (λ owner. owner ≡ event) → o ≡ None) [
  | None ↦ λ facts h. refl
  | (Some owner) ↦ λ facts h. absurd (other (same_Some pair.0 id (sym (ap (option_map (λ w. w.0)) there) ∙ ap (id_of maps) (sym h) ∙ facts.found)))
] (owner_facts maps id sound) free

mapped_cond : {X Y : Type 0} (f : X → Y) (b : Bool) (x y : Option X) → option_map f (cond b x y) ≡ cond b (option_map f x) (option_map f y)
mapped_cond f true x y = refl
mapped_cond f false x y = refl

-- the INTID of an event after one was mapped, and after one was unmapped
id_of-with_event : (maps : Maps) (event pair other : ℕ × ℕ) → id_of (with_event maps event pair) other ≡ cond (is_at (event_cmp event) other) (Some pair.0) (id_of maps other)
id_of-with_event maps event pair other = ap (option_map (λ w. w.0)) (lookup-insert_entry event_order other event pair maps.events) ∙ mapped_cond (λ (w : ℕ × ℕ). w.0) (is_at (event_cmp event) other) (Some pair) (pair_of maps other)

id_of-without_event : (maps : Maps) (event other : ℕ × ℕ) → IsSound maps → id_of (without_event maps event) other ≡ cond (is_at (event_cmp event) other) None (id_of maps other)
id_of-without_event maps event other sound = ap (option_map (λ w. w.0)) (lookup-removed event_order other event maps.events sound.events) ∙ mapped_cond (λ (w : ℕ × ℕ). w.0) (is_at (event_cmp event) other) None (pair_of maps other)

module _ (maps : Maps) (event pair : ℕ × ℕ) (id : ℕ) where
  new_or_kept : (other : ℕ × ℕ) → id_of (with_event maps event pair) other ≡ Some id → ((event ≡ other) × (pair.0 ≡ id)) ⊎ ((event ≢ other) × (id_of maps other ≡ Some id))
  new_or_kept other h = elim (is_at (event_cmp event) other) as (λ b. is_at (event_cmp event) other ≡ b → cond b (Some pair.0) (id_of maps other) ≡ Some id → ((event ≡ other) × (pair.0 ≡ id)) ⊎ ((event ≢ other) × (id_of maps other ≡ Some id))) [
    | true ↦ λ t k. inl (same_event event other t, same_Some pair.0 id k)
    | false ↦ λ t k. inr (apart event other t, k)
  ] refl (sym (id_of-with_event maps event pair other) ∙ h)

  id_kept : (other : ℕ × ℕ) → event ≢ other → id_of maps other ≡ Some id → id_of (with_event maps event pair) other ≡ Some id
  id_kept other h there = elim (is_at (event_cmp event) other) as (λ b. is_at (event_cmp event) other ≡ b → id_of (with_event maps event pair) other ≡ Some id) [
    | true ↦ λ t. absurd (h (same_event event other t))
    | false ↦ λ t. id_of-with_event maps event pair other ∙ ap (λ b. cond b (Some pair.0) (id_of maps other)) t ∙ there
  ] refl

  id_new : pair.0 ≡ id → id_of (with_event maps event pair) event ≡ Some id
  id_new same = id_of-with_event maps event pair event ∙ ap (λ b. cond b (Some pair.0) (id_of maps event)) (at_itself event) ∙ ap Some same

  left_of : IsSound maps → (other : ℕ × ℕ) → id_of (without_event maps event) other ≡ Some id → (event ≢ other) × (id_of maps other ≡ Some id)
  left_of sound other h = elim (is_at (event_cmp event) other) as (λ b. is_at (event_cmp event) other ≡ b → cond b None (id_of maps other) ≡ Some id → (event ≢ other) × (id_of maps other ≡ Some id)) [
    | true ↦ λ t k. absurd (none-some id k)
    | false ↦ λ t k. (apart event other t, k)
  ] refl (sym (id_of-without_event maps event other sound) ∙ h)

  left_over : IsSound maps → (other : ℕ × ℕ) → event ≢ other → id_of maps other ≡ Some id → id_of (without_event maps event) other ≡ Some id
  left_over sound other h there = elim (is_at (event_cmp event) other) as (λ b. is_at (event_cmp event) other ≡ b → id_of (without_event maps event) other ≡ Some id) [
    | true ↦ λ t. absurd (h (same_event event other t))
    | false ↦ λ t. id_of-without_event maps event other sound ∙ ap (λ b. cond b None (id_of maps other)) t ∙ there
  ] refl

  -- the owner of an INTID after an event was mapped: none where the event had this INTID, and the event where it has it now
  owner_put : (had has : Bool) → IsSound maps → IfSome (owner_of maps pair.0) (λ owner. owner ≡ event)
      → (had ≡ true → (id_of maps event ≡ Some id) × (pair.0 ≢ id)) → (had ≡ false → id_of maps event ≡ Some id → pair.0 ≡ id)
      → (has ≡ true → pair.0 ≡ id) → (has ≡ false → pair.0 ≢ id)
      → OwnerFacts (with_event maps event pair) id (cond had None (cond has (Some event) (owner_of maps id)))
  owner_put true has sound free is_old no_old is_new no_new = record {
    found = tt;
    only = tt;
    none = λ other h. elim (new_or_kept other h) [
      | inl e ↦ (is_old refl).1 e.1
      | inr e ↦ e.0 (one_event maps event other id sound (is_old refl).0 e.1)
    ];
  }
  owner_put false true sound free is_old no_old is_new no_new =
      let same : pair.0 ≡ id = is_new refl in
      record {
        found = id_new same;
        only = λ other h. elim (new_or_kept other h) [
          | inl e ↦ sym e.0
          | inr e ↦ sym (owner_only maps event other id sound (subst (λ n. IfSome (owner_of maps n) (λ owner. owner ≡ event)) same free) e.1)
        ];
        none = tt;
      }
  owner_put false false sound free is_old no_old is_new no_new =
      let other_id : pair.0 ≢ id = no_new refl in
      elim (owner_of maps id) as (λ o. OwnerFacts maps id o → OwnerFacts (with_event maps event pair) id o) [
        | None ↦ λ facts. record {
          found = tt;
          only = tt;
          none = λ other h. elim (new_or_kept other h) [ inl e ↦ other_id e.1 | inr e ↦ facts.none other e.1 ];
        }
        | (Some owner) ↦ λ facts. record {
          found = id_kept owner (λ same. other_id (no_old refl (ap (id_of maps) same ∙ facts.found))) facts.found;
          only = λ other h. elim (new_or_kept other h) [ inl e ↦ absurd (other_id e.1) | inr e ↦ facts.only other e.1 ];
          none = tt;
        }
      ] (owner_facts maps id sound)

  -- the owner of an INTID after an event was unmapped
  owner_taken : (had : Bool) → IsSound maps → (had ≡ true → id_of maps event ≡ Some id) → (had ≡ false → id_of maps event ≢ Some id) → OwnerFacts (without_event maps event) id (cond had None (owner_of maps id))
  owner_taken true sound is_old no_old = record {
    found = tt;
    only = tt;
    none = λ other h. let left = left_of sound other h in left.0 (one_event maps event other id sound (is_old refl) left.1);
  }
  owner_taken false sound is_old no_old = elim (owner_of maps id) as (λ o. OwnerFacts maps id o → OwnerFacts (without_event maps event) id o) [
    | None ↦ λ facts. record { found = tt; only = tt; none = λ other h. facts.none other (left_of sound other h).1 }
    | (Some owner) ↦ λ facts. record {
      found = left_over sound owner (λ same. no_old refl (ap (id_of maps) same ∙ facts.found)) facts.found;
      only = λ other h. facts.only other (left_of sound other h).1;
      none = tt;
    }
  ] (owner_facts maps id sound)

module _ (owners : List (ℕ × (ℕ × ℕ))) (maps : Maps) (event : ℕ × ℕ) (id : ℕ) where
  looked_put : (q : ℕ) → IsIndex owners maps → lookup (is_at (nat_cmp q)) (insert_entry nat_cmp owners id event) ≡ cond (is_at (nat_cmp id) q) (Some event) (owner_of maps q)
  looked_put q index = lookup-insert_entry nat_cmp_total q id event owners ∙ ap (cond (is_at (nat_cmp id) q) (Some event)) (index.inverse q)

  sorted_put : IsIndex owners maps → IsStrictlySortedBy nat_cmp (keys_of (insert_entry nat_cmp owners id event))
  sorted_put index = sorted-insert nat_cmp_total id event owners index.ordered

  looked_taken : (taken q : ℕ) → IsIndex owners maps → lookup (is_at (nat_cmp q)) (remove_entry (is_at (nat_cmp taken)) (insert_entry nat_cmp owners id event)) ≡ cond (is_at (nat_cmp taken) q) None (cond (is_at (nat_cmp id) q) (Some event) (owner_of maps q))
  looked_taken taken q index = lookup-removed nat_cmp_total q taken (insert_entry nat_cmp owners id event) (sorted_put index) ∙ ap (cond (is_at (nat_cmp taken) q) None) (looked_put q index)

  -- the event had this INTID, or none
  index-put : (icid : ℕ) → IsSound maps → IsSome (bits_of maps event.0) → IfSome (owner_of maps id) (λ owner. owner ≡ event) → IfSome (pair_of maps event) (λ pair. pair.0 ≡ id) → IsIndex owners maps → IsIndex (insert_entry nat_cmp owners id event) (with_event maps event (id, icid))
  index-put icid sound mapped free own index = record {
    ordered = sorted_put index;
    inverse = λ q. looked_put q index ∙ owner_is (with_event maps event (id, icid)) q (cond (is_at (nat_cmp id) q) (Some event) (owner_of maps q)) (sound-with_event maps event (id, icid) sound mapped free) (owner_put maps event (id, icid) q false (is_at (nat_cmp id) q) sound free (λ t. absurd (true≢false (sym t))) (λ t there. own_number q (pair_of maps event) own there) (same_number id q) (other_number id q));
  }

  -- the event had another INTID
  index-moved : (icid older other : ℕ) → IsSound maps → IsSome (bits_of maps event.0) → IfSome (owner_of maps id) (λ owner. owner ≡ event) → pair_of maps event ≡ Some (older, other) → older ≢ id → IsIndex owners maps → IsIndex (remove_entry (is_at (nat_cmp older)) (insert_entry nat_cmp owners id event)) (with_event maps event (id, icid))
  index-moved icid older other sound mapped free own moved index =
      let had : id_of maps event ≡ Some older = ap (option_map (λ w. w.0)) own in
      record {
        ordered = sorted-remove nat_cmp (is_at (nat_cmp older)) (insert_entry nat_cmp owners id event) (sorted_put index);
        inverse = λ q. looked_taken older q index ∙ owner_is (with_event maps event (id, icid)) q (cond (is_at (nat_cmp older) q) None (cond (is_at (nat_cmp id) q) (Some event) (owner_of maps q))) (sound-with_event maps event (id, icid) sound mapped free)
            (owner_put maps event (id, icid) q (is_at (nat_cmp older) q) (is_at (nat_cmp id) q) sound free
            (λ t. let same = same_number older q t in (had ∙ ap Some same, λ g. moved (same ∙ sym g)))
            (λ t there. absurd (other_number older q t (same_Some older q (sym had ∙ there))))
            (same_number id q) (other_number id q));
      }

  index-taken : (icid : ℕ) → IsSound maps → pair_of maps event ≡ Some (id, icid) → IsIndex owners maps → IsIndex (remove_entry (is_at (nat_cmp id)) owners) (without_event maps event)
  index-taken icid sound own index =
      let had : id_of maps event ≡ Some id = ap (option_map (λ w. w.0)) own in
      record {
        ordered = sorted-remove nat_cmp (is_at (nat_cmp id)) owners index.ordered;
        inverse = λ q. lookup-removed nat_cmp_total q id owners index.ordered ∙ ap (cond (is_at (nat_cmp id) q) None) (index.inverse q) ∙ owner_is (without_event maps event) q (cond (is_at (nat_cmp id) q) None (owner_of maps q)) (sound-without_event maps event sound)
            (owner_taken maps event (id, icid) q (is_at (nat_cmp id) q) sound (λ t. had ∙ ap Some (same_number id q t)) (λ t there. other_number id q t (same_Some id q (sym had ∙ there))));
      }

-- lists that are what an operation made of them
replaced : (maps : Maps) {owners left : List (ℕ × (ℕ × ℕ))} {es fs : List ((ℕ × ℕ) × (ℕ × ℕ))} → left ≡ owners → fs ≡ es → IsIndexed owners (record maps { events = es }) → IsIndexed left (record maps { events = fs })
replaced maps {owners} {left} {es} {fs} p q h = subst (λ os. IsIndexed os (record maps { events = fs })) (sym p) (subst (λ xs. IsIndexed owners (record maps { events = xs })) (sym q) h)

-- the same of all that is mapped, where callers see the maps as `seen`
module _ {maps seen : Maps} {owners : List (ℕ × (ℕ × ℕ))} {events : List ((ℕ × ℕ) × (ℕ × ℕ))} (event : ℕ × ℕ) (id icid : ℕ) (view : maps ≡ seen) (indexed : IsIndexed owners maps) where
  pub indexed-put : {put : List (ℕ × (ℕ × ℕ))} → IsSome (bits_of seen event.0) → IfSome (owner_of seen id) (λ owner. owner ≡ event) → IfSome (pair_of maps event) (λ pair. pair.0 ≡ id)
      → put ≡ insert_entry nat_cmp owners id event → events ≡ (with_event maps event (id, icid)).events → IsIndexed put (record maps { events = events })
  indexed-put mapped free own is_put is_events =
      let mapped' = subst (λ m. IsSome (bits_of m event.0)) (sym view) mapped in
      let free' = subst (λ m. IfSome (owner_of m id) (λ owner. owner ≡ event)) (sym view) free in
      replaced maps is_put is_events (record { sound = sound-with_event maps event (id, icid) indexed.sound mapped' free'; index = index-put owners maps event id icid indexed.sound mapped' free' own indexed.index })

  pub indexed-moved : {put left : List (ℕ × (ℕ × ℕ))} (pair : ℕ × ℕ) → IsSome (bits_of seen event.0) → IfSome (owner_of seen id) (λ owner. owner ≡ event) → pair_of maps event ≡ Some pair → pair.0 ≢ id
      → put ≡ insert_entry nat_cmp owners id event → left ≡ remove_entry (is_at (nat_cmp pair.0)) put → events ≡ (with_event maps event (id, icid)).events → IsIndexed left (record maps { events = events })
  indexed-moved pair mapped free own moved is_put is_left is_events =
      let mapped' = subst (λ m. IsSome (bits_of m event.0)) (sym view) mapped in
      let free' = subst (λ m. IfSome (owner_of m id) (λ owner. owner ≡ event)) (sym view) free in
      replaced maps (is_left ∙ ap (remove_entry (is_at (nat_cmp pair.0))) is_put) is_events (record { sound = sound-with_event maps event (id, icid) indexed.sound mapped' free'; index = index-moved owners maps event id icid pair.0 pair.1 indexed.sound mapped' free' own moved indexed.index })

  pub indexed-taken : {left : List (ℕ × (ℕ × ℕ))} → pair_of maps event ≡ Some (id, icid) → left ≡ remove_entry (is_at (nat_cmp id)) owners → events ≡ (without_event maps event).events → IsIndexed left (record maps { events = events })
  indexed-taken own is_left is_events = replaced maps is_left is_events (record { sound = sound-without_event maps event indexed.sound; index = index-taken owners maps event id icid indexed.sound own indexed.index })

pub owner_facts_of : {maps seen : Maps} (owners : List (ℕ × (ℕ × ℕ))) (id : ℕ) (owner : Option (ℕ × ℕ)) → maps ≡ seen → IsIndexed owners maps → owner ≡ lookup (is_at (nat_cmp id)) owners → OwnerFacts seen id owner
owner_facts_of {maps} {seen} owners id owner view indexed is =
    subst (λ m. OwnerFacts m id owner) view (subst (OwnerFacts maps id) (sym (is ∙ indexed.index.inverse id)) (owner_facts maps id indexed.sound))

-- where nothing is mapped, no INTID is had by an event
pub empty_indexed : IsIndexed [] (record { devices = []; events = []; collections = [] })
unfolding IsStrictlySortedBy
empty_indexed =
    record {
      sound = record { devices = tt; events = tt; collections = tt; one_each = λ x y id a b h g. absurd (cc); of_mapped = λ event pair h. absurd (cc) };
      index = record { ordered = tt; inverse = λ id. refl };
    }
