-- What a search of the events finds: the event of an INTID, and the first event of a device.
use Rattle.std.proofs.Common.{◌≡◌, ◌≢◌, ℕ, ◌<◌, ◌≤◌, ◌==◌, true, false, cond, Some, None, Option, IsSome, IfSome, IfNone, List, [], ◌∷◌, if◌then◌else◌, refl, sym, ap, ◌∙◌, subst, find, true≢false, arith}
use Rattle.std.specs.declared.cmp.Ordering.{Ordering}
use Rattle.std.specs.declared.cmp.Ordering.TheVariants.{Less, Equal, Greater}
use Rattle.std.specs.Bool.{then_some}
use Rattle.std.specs.Option.{option_map}
use Rattle.std.specs.Ordering.{nat_cmp, is_le, is_lt, ordering_then}
use Rattle.std.specs.Cmp.{ranked, tied_itself, nat_cmp_total}
use Rattle.std.specs.List.{AllByRecursion}
use Rattle.std.specs.List.Sorted.{IsStrictlySortedBy}
use Rattle.std.specs.Map.{keys_of}
use Rattle.std.specs.BTreeMap.{is_at}
use Rattle.std.proofs.lemmas.Map.Keys.{ge_from_not_lt}
use Rattle.std.proofs.lemmas.Bool.{eqb-true, eq-eqb}
use Rattle.std.proofs.lemmas.Option.{none-some, same_Some}
use Rattle.its_tab.specs.Maps.{Maps, event_cmp, pair_of, id_of, owner_of, first_event, IsSound}
use Rattle.sorted_pairs.proofs.MapLemmas.{lookup-found, lookup-unfound, lookup-no_key, not_before_found}
use Rattle.its_tab.proofs.TableLemmas.{event_order, same_event}

zero_first : (r : Ordering) (n : ℕ) → r ≡ nat_cmp 0 n → is_le r ≡ true
zero_first Less n e = refl
zero_first Equal n e = refl
zero_first Greater n e = let below : n < 0 = ranked 0 n Greater e in absurd (omega arith)

-- the order of an event to the first one that a device can have
first_or_later : (r : Ordering) (device number : ℕ) (x : ℕ) → r ≡ nat_cmp device x → is_le (ordering_then r (nat_cmp 0 number)) ≡ true → device ≤ x
first_or_later Less device number x e h = let below : device < x = ranked device x Less e in omega arith
first_or_later Equal device number x e h = let same : device ≡ x = ranked device x Equal e in omega arith
first_or_later Greater device number x e h = cc

earlier : (r : Ordering) (device number : ℕ) (x : ℕ) → r ≡ nat_cmp device x → is_le (ordering_then r (nat_cmp 0 number)) ≡ false → x < device
earlier Less device number x e h = cc
earlier Equal device number x e h = let first : is_le (nat_cmp 0 number) ≡ true = zero_first (nat_cmp 0 number) number refl in cc
earlier Greater device number x e h = ranked device x Greater e

rising : (r : Ordering) (x y : ℕ × ℕ) → r ≡ nat_cmp x.0 y.0 → ordering_then r (nat_cmp x.1 y.1) ≡ Less → x.0 ≤ y.0
rising Less x y e h = let below : x.0 < y.0 = ranked x.0 y.0 Less e in omega arith
rising Equal x y e h = let same : x.0 ≡ y.0 = ranked x.0 y.0 Equal e in omega arith
rising Greater x y e h = cc

-- a pair of another device is passed over
passed : (device : ℕ) (e : (ℕ × ℕ) × (ℕ × ℕ)) (found : Option ((ℕ × ℕ) × (ℕ × ℕ))) → (e.0.0 ≡ device → ⊥) → cond (e.0.0 == device) (Some e) found ≡ found
passed device e found h = elim (e.0.0 == device) as (λ b. (e.0.0 == device) ≡ b → cond b (Some e) found ≡ found) [
  | true ↦ λ t. absurd (h (eqb-true e.0.0 device t))
  | false ↦ λ t. refl
] refl

-- no event of the device comes after one of a later device
none_later : (device : ℕ) (x : ℕ × ℕ) (es : List ((ℕ × ℕ) × (ℕ × ℕ))) → AllByRecursion (λ y. event_cmp x y ≡ Less) (keys_of es) → device < x.0 → find (λ pair. pair.0.0 == device) es ≡ None
none_later device x [] h l = refl
none_later device x (e ∷ es) h l =
    let later : x.0 ≤ e.0.0 = rising (nat_cmp x.0 e.0.0) x e.0 refl h.0 in
    passed device e (find (λ pair. pair.0.0 == device) es) (λ same. omega arith) ∙ none_later device x es h.1 l

-- the first one from some place on is the device's, or none is
head : (device : ℕ) (x : (ℕ × ℕ) × (ℕ × ℕ)) (es : List ((ℕ × ℕ) × (ℕ × ℕ))) → AllByRecursion (λ y. event_cmp x.0 y ≡ Less) (keys_of es) → device ≤ x.0.0 → find (λ pair. pair.0.0 == device) (x ∷ es) ≡ (if x.0.0 == device then Some x else None)
head device x es h l = elim (x.0.0 == device) as (λ b. (x.0.0 == device) ≡ b → cond b (Some x) (find (λ pair. pair.0.0 == device) es) ≡ (if b then Some x else None)) [
  | true ↦ λ t. refl
  | false ↦ λ t.
      let apart : x.0.0 ≢ device = λ same. let own : (x.0.0 == device) ≡ true = eq-eqb x.0.0 device same in cc in
      none_later device x.0 es h (omega arith)
] refl

-- the first event of a device is the first one from its EventID 0 on, if that is one of this device
first_none : (device : ℕ) (es : List ((ℕ × ℕ) × (ℕ × ℕ))) → find (λ pair. is_le (event_cmp (device, 0) pair.0)) es ≡ None → find (λ pair. pair.0.0 == device) es ≡ None
first_none device [] h = refl
first_none device (e ∷ es) h = elim (is_le (event_cmp (device, 0) e.0)) as (λ b. is_le (event_cmp (device, 0) e.0) ≡ b → cond b (Some e) (find (λ pair. is_le (event_cmp (device, 0) pair.0)) es) ≡ None → find (λ pair. pair.0.0 == device) (e ∷ es) ≡ None) [
  | true ↦ λ t k. absurd (none-some e (sym k))
  | false ↦ λ t k.
      let before : e.0.0 < device = earlier (nat_cmp device e.0.0) device e.0.1 e.0.0 refl t in
      passed device e (find (λ pair. pair.0.0 == device) es) (λ same. omega arith) ∙ first_none device es k
] refl h

first_some : (device : ℕ) (e : (ℕ × ℕ) × (ℕ × ℕ)) (es : List ((ℕ × ℕ) × (ℕ × ℕ))) → IsStrictlySortedBy event_cmp (keys_of es) → find (λ pair. is_le (event_cmp (device, 0) pair.0)) es ≡ Some e → find (λ pair. pair.0.0 == device) es ≡ (if e.0.0 == device then Some e else None)
unfolding IsStrictlySortedBy
first_some device e [] s h = absurd (none-some e h)
first_some device e (x ∷ es) s h = elim (is_le (event_cmp (device, 0) x.0)) as (λ b. is_le (event_cmp (device, 0) x.0) ≡ b → cond b (Some x) (find (λ pair. is_le (event_cmp (device, 0) pair.0)) es) ≡ Some e → find (λ pair. pair.0.0 == device) (x ∷ es) ≡ (if e.0.0 == device then Some e else None)) [
  | true ↦ λ t k.
      let same : x ≡ e = same_Some x e k in
      let at_least : device ≤ x.0.0 = first_or_later (nat_cmp device x.0.0) device x.0.1 x.0.0 refl t in
      subst (λ (y : (ℕ × ℕ) × (ℕ × ℕ)). find (λ pair. pair.0.0 == device) (x ∷ es) ≡ (if y.0.0 == device then Some y else None)) same (head device x es s.0 at_least)
  | false ↦ λ t k.
      let before : x.0.0 < device = earlier (nat_cmp device x.0.0) device x.0.1 x.0.0 refl t in
      passed device x (find (λ pair. pair.0.0 == device) es) (λ same. omega arith) ∙ first_some device e es s.1 k
] refl h

pub first_event_none : (maps : Maps) (device : ℕ) → find (λ pair. is_le (event_cmp (device, 0) pair.0)) maps.events ≡ None → first_event maps device ≡ None
first_event_none maps device none = ap (option_map (λ pair. pair.0.1)) (first_none device maps.events none)

pub first_event_some : (maps : Maps) (device : ℕ) (e : (ℕ × ℕ) × (ℕ × ℕ)) → IsSound maps → find (λ pair. is_le (event_cmp (device, 0) pair.0)) maps.events ≡ Some e → first_event maps device ≡ then_some (e.0.0 == device) e.0.1
first_event_some maps device e sound there = ap (option_map (λ pair. pair.0.1)) (first_some device e maps.events sound.events there) ∙ elim (e.0.0 == device) as (λ b. option_map (λ pair. pair.0.1) (if b then Some e else None) ≡ then_some b e.0.1) [ true ↦ refl | false ↦ refl ]

-- what a search for an INTID tells
pub record OwnerFacts (maps : Maps) (id : ℕ) (owner : Option (ℕ × ℕ)) : Type 0 where
  pub found : IfSome owner (λ event. id_of maps event ≡ Some id)
  pub only : IfSome owner (λ event. (other : ℕ × ℕ) → id_of maps other ≡ Some id → other ≡ event)
  pub none : IfNone owner ((event : ℕ × ℕ) → id_of maps event ≢ Some id)

-- the pair of an event whose INTID is known
pub pair_from_id : (maps : Maps) (event : ℕ × ℕ) (id : ℕ) → id_of maps event ≡ Some id → (icid : ℕ) × (pair_of maps event ≡ Some (id, icid))
pair_from_id maps event id h = elim (pair_of maps event) as (λ o. option_map (λ pair. pair.0) o ≡ Some id → (icid : ℕ) × (o ≡ Some (id, icid))) [
  | None ↦ λ k. absurd (none-some id k)
  | (Some pair) ↦ λ k. (pair.1, ap (λ n. Some (n, pair.1)) (same_Some pair.0 id k))
] h

pub owner_facts : (maps : Maps) (id : ℕ) → IsSound maps → OwnerFacts maps id (owner_of maps id)
owner_facts maps id sound = elim (find (λ pair. pair.1.0 == id) maps.events) as (λ o. find (λ pair. pair.1.0 == id) maps.events ≡ o → OwnerFacts maps id (option_map (λ pair. pair.0) o)) [
  | None ↦ λ f. record {
    found = tt;
    only = tt;
    none = λ event h.
        let there = pair_from_id maps event id h in
        let missed : (id == id) ≡ false = lookup-unfound (is_at (event_cmp event)) (λ pair. pair.0 == id) maps.events (id, there.0) f there.1 in
        let same : (id == id) ≡ true = eq-eqb id id refl in
        cc;
  }
  | (Some e) ↦ λ f.
      let hit = lookup-found event_order (λ pair. pair.1.0 == id) maps.events e sound.events f in
      let has : pair_of maps e.0 ≡ Some (id, e.1.1) = hit.0 ∙ ap (λ n. Some (n, e.1.1)) (eqb-true e.1.0 id hit.1) in
      record {
        found = ap (option_map (λ pair. pair.0)) has;
        only = λ event h. let there = pair_from_id maps event id h in sound.one_each event e.0 id there.0 e.1.1 there.1 has;
        none = tt;
      }
] refl

-- what a search for a device's first event tells
pub record FirstFacts (maps : Maps) (device : ℕ) (first : Option ℕ) : Type 0 where
  pub found : IfSome first (λ event. IsSome (pair_of maps (device, event)))
  pub least : IfSome first (λ event. (other : ℕ) → IsSome (pair_of maps (device, other)) → event ≤ other)
  pub none : IfNone first ((event : ℕ) → pair_of maps (device, event) ≡ None)

-- an event that is of the device is found by its own look-up alone
of_device : (device : ℕ) (event k : ℕ × ℕ) → event.0 ≡ device → is_at (event_cmp event) k ≡ true → (k.0 == device) ≡ true
of_device device event k e h = eq-eqb k.0 device (sym (ap (λ (x : ℕ × ℕ). x.0) (same_event event k h)) ∙ e)

not_less : (device other event : ℕ) → is_lt (event_cmp (device, other) (device, event)) ≡ false → event ≤ other
not_less device other event h = ge_from_not_lt other event (sym (ap (λ r. is_lt (ordering_then r (nat_cmp other event))) (tied_itself nat_cmp_total device)) ∙ h)

first_facts : (maps : Maps) (device : ℕ) → IsSound maps → FirstFacts maps device (first_event maps device)
first_facts maps device sound = elim (find (λ pair. pair.0.0 == device) maps.events) as (λ o. find (λ pair. pair.0.0 == device) maps.events ≡ o → FirstFacts maps device (option_map (λ pair. pair.0.1) o)) [
  | None ↦ λ f. record {
    found = tt;
    least = tt;
    none = λ event. lookup-no_key (is_at (event_cmp (device, event))) (λ k. k.0 == device) maps.events (λ k. of_device device (device, event) k refl) f;
  }
  | (Some e) ↦ λ f.
      let hit = lookup-found event_order (λ pair. pair.0.0 == device) maps.events e sound.events f in
      let own : e.0.0 ≡ device = eqb-true e.0.0 device hit.1 in
      record {
        found = subst (λ (d : ℕ). IsSome (pair_of maps (d, e.0.1))) own (subst IsSome (sym hit.0) refl);
        least = λ other there. elim (pair_of maps (device, other)) as (λ o. pair_of maps (device, other) ≡ o → IsSome o → e.0.1 ≤ other) [
          | None ↦ λ k h. absurd (true≢false (sym h))
          | (Some w) ↦ λ k h. not_less device other e.0.1 (subst (λ (d : ℕ). is_lt (event_cmp (device, other) (d, e.0.1)) ≡ false) own (not_before_found event_order (λ k. k.0 == device) (device, other) maps.events e w (λ k. of_device device (device, other) k refl) sound.events f k))
        ] refl there;
        none = tt;
      }
] refl

pub first_facts_of : (maps : Maps) (device : ℕ) (first : Option ℕ) → IsSound maps → first ≡ first_event maps device → FirstFacts maps device first
first_facts_of maps device first sound e = subst (FirstFacts maps device) (sym e) (first_facts maps device sound)
