-- What an access leaves of an interface is one.
use Rattle.std.proofs.Common.{◌≡◌, ◌≤◌, ℕ, Bool, true, false, ◌&&◌, cond, nat_eq, Option, Some, None, List, [], ◌∷◌, suc, length, filter, refl, sym, ap, ◌∙◌, subst}
use Rattle.std.specs.List.{list_all}
use Rattle.floor_words.specs.Words.{IccReg, intid_of}
use Rattle.gic_prio.specs.declared.candidate.Candidate.{Candidate}
use Rattle.gic_prio.specs.Access.{taken_by, deactivated_by}
use Rattle.gic_prio.specs.Interface.{AtInterface, InterfaceState, IsInterface, has_its_kind, candidates_at, changed_at, acknowledged_entry, deactivated_entry, acknowledged_at, deactivated_at, interface_after}
use Rattle.gic_prio.proofs.AccessLemmas.{points_after}

-- the interrupts of an interface, one of each INTID and each of its kind
pub record AreEntries (at : List AtInterface) : Type 0 where
  pub once : (id : ℕ) → length (filter (λ entry. nat_eq (intid_of entry.key) id) at) ≤ 1
  pub kinds : list_all has_its_kind at ≡ true

-- a change that keeps keys keeps that
filter_kept : (change : AtInterface → AtInterface) → ((entry : AtInterface) → (change entry).key ≡ entry.key) → (k id : ℕ) (at : List AtInterface) → length (filter (λ entry. nat_eq (intid_of entry.key) id) (changed_at change k at)) ≡ length (filter (λ entry. nat_eq (intid_of entry.key) id) at)
filter_kept change keeps k id [] = refl
filter_kept change keeps k id (entry ∷ at) = by_head (nat_eq (intid_of entry.key) k) (filter_kept change keeps k id at)
  where
    counted_one : (b c : Bool) (x y : AtInterface) (xs ys : List AtInterface) → b ≡ c → length xs ≡ length ys → length (cond b (x ∷ xs) xs) ≡ length (cond c (y ∷ ys) ys)
    counted_one b true x y xs ys e f = rw e (ap suc f)
    counted_one b false x y xs ys e f = rw e f

    by_head : (b : Bool) → length (filter (λ entry. nat_eq (intid_of entry.key) id) (changed_at change k at)) ≡ length (filter (λ entry. nat_eq (intid_of entry.key) id) at) → length (filter (λ entry. nat_eq (intid_of entry.key) id) (cond b (change entry) entry ∷ changed_at change k at)) ≡ length (filter (λ entry. nat_eq (intid_of entry.key) id) (entry ∷ at))
    by_head true g = counted_one (nat_eq (intid_of (change entry).key) id) (nat_eq (intid_of entry.key) id) (change entry) entry (filter (λ entry. nat_eq (intid_of entry.key) id) (changed_at change k at)) (filter (λ entry. nat_eq (intid_of entry.key) id) at) (ap (λ key. nat_eq (intid_of key) id) (keeps entry)) g
    by_head false g = counted_one (nat_eq (intid_of entry.key) id) (nat_eq (intid_of entry.key) id) entry entry (filter (λ entry. nat_eq (intid_of entry.key) id) (changed_at change k at)) (filter (λ entry. nat_eq (intid_of entry.key) id) at) refl g

kinds_kept : (change : AtInterface → AtInterface) → ((entry : AtInterface) → has_its_kind (change entry) ≡ has_its_kind entry) → (k : ℕ) (at : List AtInterface) → list_all has_its_kind (changed_at change k at) ≡ list_all has_its_kind at
kinds_kept change keeps k [] = refl
kinds_kept change keeps k (entry ∷ at) = by_head (nat_eq (intid_of entry.key) k) (kinds_kept change keeps k at)
  where
    both : (a b c d : Bool) → a ≡ b → c ≡ d → (a && c) ≡ (b && d)
    both a b c d e f = cc

    by_head : (b : Bool) → list_all has_its_kind (changed_at change k at) ≡ list_all has_its_kind at → list_all has_its_kind (cond b (change entry) entry ∷ changed_at change k at) ≡ list_all has_its_kind (entry ∷ at)
    by_head true g = both (has_its_kind (change entry)) (has_its_kind entry) (list_all has_its_kind (changed_at change k at)) (list_all has_its_kind at) (keeps entry) g
    by_head false g = ap (λ b. has_its_kind entry && b) g

pub acknowledged_entries : (taken : Option Candidate) (at : List AtInterface) → AreEntries at → AreEntries (acknowledged_at taken at)
acknowledged_entries None at are = are
acknowledged_entries (Some f) at are =
    record {
      once = λ id. subst (λ n. n ≤ 1) (sym (filter_kept acknowledged_entry (λ entry. refl) f.id id at)) (are.once id);
      kinds = kinds_kept acknowledged_entry (λ entry. refl) f.id at ∙ are.kinds;
    }

pub deactivated_entries : (ended : Option ℕ) (at : List AtInterface) → AreEntries at → AreEntries (deactivated_at ended at)
deactivated_entries None at are = are
deactivated_entries (Some k) at are =
    record {
      once = λ id. subst (λ n. n ≤ 1) (sym (filter_kept deactivated_entry (λ entry. refl) k id at)) (are.once id);
      kinds = kinds_kept deactivated_entry (λ entry. refl) k at ∙ are.kinds;
    }

-- an access keeps an interface
pub stays_interface : (reg : IccReg) (write : Option ℕ) (interface : InterfaceState) → IsInterface interface → IsInterface (interface_after reg write interface)
stays_interface reg write interface is =
    let cpu = interface.cpu in
    let taken = taken_by reg write cpu (candidates_at interface) in
    let are : AreEntries interface.at = record { once = is.once; kinds = is.kinds } in
    let after = deactivated_entries (deactivated_by reg write cpu) (acknowledged_at taken interface.at) (acknowledged_entries taken interface.at are) in
    record { points = points_after reg write cpu (candidates_at interface) is.points; once = after.once; kinds = after.kinds }
