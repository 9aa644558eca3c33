-- When the maps give an LPI a vCPU.
use Rattle.std.proofs.Common.{◌≡◌, ℕ, true, Option, Some, None, is_some, refl, sym, ap, ◌∙◌}
use Rattle.std.specs.Option.{option_map, option_and_then}
use Rattle.law_lone_calls_are_eager.specs.Registers.{Maps, pair_of, id_of, target_of, owner_of, IsSound, collection_of, has_target}
use Rattle.law_lone_calls_are_eager.proofs.ItsTab.AfterLemmas.{some_from_test}
use Rattle.law_lone_calls_are_eager.proofs.ItsTab.SearchLemmas.{OwnerFacts, owner_facts, pair_from_id}

-- an event has the LPI, and its collection is mapped
pub record HasTarget (maps : Maps) (id : ℕ) : Type 0 where
  pub event : ℕ × ℕ
  pub icid : ℕ
  pub vcpu : ℕ
  pub pair : pair_of maps event ≡ Some (id, icid)
  pub target : target_of maps icid ≡ Some vcpu

-- the collection of an LPI is that of the event that has it
pub collected : (maps : Maps) (event : ℕ × ℕ) (id icid : ℕ) → IsSound maps → pair_of maps event ≡ Some (id, icid) → collection_of maps id ≡ Some icid
collected maps event id icid sound pair = of (owner_of maps id) (owner_facts maps id sound)
  where
    id_is : id_of maps event ≡ Some id
    id_is = ap (option_map (λ p. p.0)) pair

    of : (o : Option (ℕ × ℕ)) → OwnerFacts maps id o → option_map (λ pair. pair.1) (option_and_then (pair_of maps) o) ≡ Some icid
    of None facts = absurd (facts.none event id_is)
    of (Some owner) facts = ap (option_map (λ pair. pair.1)) (ap (pair_of maps) (sym (facts.only event id_is)) ∙ pair)

pub owned : (maps : Maps) (id icid : ℕ) → IsSound maps → collection_of maps id ≡ Some icid → (event : ℕ × ℕ) × (pair_of maps event ≡ Some (id, icid))
owned maps id icid sound h = of (owner_of maps id) (owner_facts maps id sound) h
  where
    of : (o : Option (ℕ × ℕ)) → OwnerFacts maps id o → option_map (λ pair. pair.1) (option_and_then (pair_of maps) o) ≡ Some icid → (event : ℕ × ℕ) × (pair_of maps event ≡ Some (id, icid))
    of None facts e = absurd (cc)
    of (Some owner) facts e =
        let found = pair_from_id maps owner id facts.found in
        (owner, found.1 ∙ ap (λ n. Some (id, n)) (same found.0 (sym (ap (option_map (λ pair. pair.1)) found.1) ∙ e)))
      where
        same : (n : ℕ) → Some n ≡ Some icid → n ≡ icid
        same n e = cc

pub targeted : (maps : Maps) (id : ℕ) → IsSound maps → HasTarget maps id → has_target maps id ≡ true
targeted maps id sound has = ap (λ o. is_some (option_and_then (target_of maps) o)) (collected maps has.event id has.icid sound has.pair) ∙ ap is_some has.target

pub target_from : (maps : Maps) (id : ℕ) → IsSound maps → has_target maps id ≡ true → HasTarget maps id
target_from maps id sound h = of (collection_of maps id) refl h
  where
    of : (o : Option ℕ) → collection_of maps id ≡ o → is_some (option_and_then (target_of maps) o) ≡ true → HasTarget maps id
    of None e h = absurd (cc)
    of (Some icid) e h =
        let event = owned maps id icid sound e in
        let vcpu = some_from_test (target_of maps icid) h in
        record { event = event.0; icid = icid; vcpu = vcpu.0; pair = event.1; target = vcpu.1 }
