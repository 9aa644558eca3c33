-- Parts for the LPIs of a list.
use Rattle.std.proofs.Common.{◌≡◌, ℕ, ◌==◌, ◌||◌, inl, inr, Bool, true, false, cond, IsTrue, List, [], ◌∷◌, filter, Option, Some, None, refl, sym, ap, ◌∙◌}
use Rattle.std.specs.List.{list_all, list_any, filter_map, cons_option}
use Rattle.std.specs.Map.{lookup}
use Rattle.std.specs.BTreeMap.{is_at}
use Rattle.std.proofs.lemmas.Bool.{and_from}
use Rattle.std.proofs.lemmas.Option.{none-some, same_Some}
use Rattle.law_lone_calls_are_eager.specs.Registers.{event_cmp}
use Rattle.law_lone_calls_are_eager.proofs.ItsTab.TableLemmas.{same_event}
use Rattle.law_lone_calls_are_eager.specs.Calls.{Part, each, for_one}
use Rattle.law_lone_calls_are_eager.proofs.NamedLemmas.{IsIn}

pub or_first : (a b : Bool) → a ≡ true → (a || b) ≡ true
or_first true b h = refl
or_first false b h = absurd (cc)

or_later : (a b : Bool) → b ≡ true → (a || b) ≡ true
or_later true b h = refl
or_later false b h = h

module _ (test : Part → Bool) where
  pub each_all : (ids : List ℕ) (part : ℕ → Part) → ((i : ℕ) → test (part i) ≡ true) → IsTrue (list_all test (each ids part))
  each_all [] part all = refl
  each_all (i ∷ ids) part all = and_from (test (part i)) (list_all test (each ids part)) (all i) (each_all ids part all)

  pub one_all : (id : Option ℕ) (part : ℕ → Part) → ((i : ℕ) → id ≡ Some i → test (part i) ≡ true) → IsTrue (list_all test (for_one id part))
  one_all None part all = refl
  one_all (Some i) part all = and_from (test (part i)) true (all i refl) refl

  pub filter_all : (p : ℕ → Bool) (ids : List ℕ) (part : ℕ → Part) → ((i : ℕ) → p i ≡ true → test (part i) ≡ true) → IsTrue (list_all test (each (filter p ids) part))
  filter_all p [] part all = refl
  filter_all p (i ∷ ids) part all = of (p i) refl (filter_all p ids part all)
    where
      of : (b : Bool) → p i ≡ b → IsTrue (list_all test (each (filter p ids) part)) → IsTrue (list_all test (each (cond b (i ∷ filter p ids) (filter p ids)) part))
      of true e later = and_from (test (part i)) (list_all test (each (filter p ids) part)) (all i e) later
      of false e later = later

  pub each_any : (ids : List ℕ) (part : ℕ → Part) (i : ℕ) → IsIn ids i → test (part i) ≡ true → list_any test (each ids part) ≡ true
  each_any [] part i is h = absurd is
  each_any (j ∷ ids) part i (inl e) h = or_first (test (part j)) (list_any test (each ids part)) (ap (λ n. test (part n)) e ∙ h)
  each_any (j ∷ ids) part i (inr later) h = or_later (test (part j)) (list_any test (each ids part)) (each_any ids part i later h)

  pub one_any : (id : Option ℕ) (part : ℕ → Part) (i : ℕ) → id ≡ Some i → test (part i) ≡ true → list_any test (for_one id part) ≡ true
  one_any None part i e h = absurd (none-some i e)
  one_any (Some j) part i e h = or_first (test (part j)) false (ap (λ n. test (part n)) (same_Some j i e) ∙ h)

-- the LPI of an event of a device is among those of the device
pub in_device : (device : ℕ) (event : ℕ × ℕ) (id icid : ℕ) (entries : List ((ℕ × ℕ) × (ℕ × ℕ))) → (event.0 == device) ≡ true → lookup (is_at (event_cmp event)) entries ≡ Some (id, icid)
    → IsIn (filter_map (λ pair. cond (pair.0.0 == device) (Some pair.1.0) None) entries) id
in_device device event id icid [] own h = absurd (none-some (id, icid) h)
in_device device event id icid (e ∷ entries) own h = of (is_at (event_cmp event) e.0) refl h (in_device device event id icid entries own)
  where
    rest : List ℕ
    rest = filter_map (λ pair. cond (pair.0.0 == device) (Some pair.1.0) None) entries

    here : (b : Bool) → b ≡ true → e.1.0 ≡ id → IsIn (cons_option (cond b (Some e.1.0) None) rest) id
    here true t same = inl same
    here false t same = absurd (cc)

    behind : (b : Bool) → IsIn rest id → IsIn (cons_option (cond b (Some e.1.0) None) rest) id
    behind true is = inr is
    behind false is = is

    of : (b : Bool) → is_at (event_cmp event) e.0 ≡ b → cond b (Some e.1) (lookup (is_at (event_cmp event)) entries) ≡ Some (id, icid) → (lookup (is_at (event_cmp event)) entries ≡ Some (id, icid) → IsIn rest id) → IsIn (cons_option (cond (e.0.0 == device) (Some e.1.0) None) rest) id
    of true t k next = here (e.0.0 == device) (ap (λ (x : ℕ × ℕ). x.0 == device) (sym (same_event event e.0 t)) ∙ own) (ap (λ (x : ℕ × ℕ). x.0) (same_Some e.1 (id, icid) k))
    of false t k next = behind (e.0.0 == device) (next k)
