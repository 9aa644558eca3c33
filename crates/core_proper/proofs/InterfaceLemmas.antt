-- What an access leaves at a CPU interface, and what an actor has there, as accesses see it.
use Rattle.std.proofs.Common.{◌≡◌, ℕ, suc, ◌≤◌, ◌==◌, ◌&&◌, not, Bool, true, false, cond, if◌then◌else◌, List, [], ◌∷◌, map, filter, length, nat_lt, All, Contains, Option, Some, None, inl, inr, ◌⊎◌, refl, sym, ap, ◌∙◌, arith}
use Rattle.std.specs.List.{list_all}
use Rattle.std.proofs.lemmas.Bool.{eq-eqb, ne_eqb, cases_eq, eqb-true, ltb-true, lt-ltb}
use Rattle.std.proofs.lemmas.List.Elements.{All-head, All-tail, All-weaker, All-contains}
use Rattle.floor_histories.specs.Words.{IccReg, Key, Private, Spi, Lpi, GuestShape, intid_of, is_same_key, IsShape, has_active_state, is_number}
use Rattle.floor_histories.proofs.GicBase.KeyLemmas.{same_itself}
use Rattle.floor_histories.specs.Registers.{Candidate, taken_by, deactivated_by, AtInterface, InterfaceState, IsInterface, has_its_kind, candidates_at, acknowledged_entry as acknowledged_shown, deactivated_entry as deactivated_shown, changed_at as changed_shown, acknowledged_at, deactivated_at, interface_after}
use Rattle.floor_lists.proofs.VcpuRefill.ElementLemmas.{Contains-here, Contains-there}
use Rattle.port_core.specs.declared.at_list.AtIrq.{AtIrq}
use Rattle.port_core.specs.declared.local.Local.{Local}
use Rattle.port_core.specs.After.{shown, interface_of, acknowledged_entry, deactivated_entry, changed_id, id_of, accessed}
use Rattle.port_core.specs.Valid.{IsAt, IsOnce, IsLocal}
use Rattle.core_proper.proofs.IntidLemmas.{IsInRange, in_range, same_by_id}

-- a change of the one with an INTID, as accesses see it
number_same : (n id : ℕ) → is_number n (Some id) ≡ (n == id)
number_same n id = elim (cases_eq n id) [
  | inl same ↦ eq-eqb id n (sym same) ∙ sym (eq-eqb n id same)
  | inr differ ↦ ne_eqb id n (λ e. differ (sym e)) ∙ sym (ne_eqb n id differ)
]

shown_changed : (change : AtIrq → AtIrq) (seen : AtInterface → AtInterface) → ((one : AtIrq) → shown (change one) ≡ seen (shown one)) → (id : ℕ) (at : List AtIrq) → map shown (changed_id change (Some id) at) ≡ changed_shown seen id (map shown at)
shown_changed change seen same id [] = refl
shown_changed change seen same id (one ∷ rest) = ap (λ b. shown (cond b (change one) one) ∷ map shown (changed_id change (Some id) rest)) (number_same (intid_of one.key) id) ∙ of (intid_of one.key == id) (shown_changed change seen same id rest)
  where
    of : (b : Bool) → map shown (changed_id change (Some id) rest) ≡ changed_shown seen id (map shown rest) → shown (cond b (change one) one) ∷ map shown (changed_id change (Some id) rest) ≡ cond b (seen (shown one)) (shown one) ∷ changed_shown seen id (map shown rest)
    of true later = ap (λ x. x ∷ map shown (changed_id change (Some id) rest)) (same one) ∙ ap (λ xs. seen (shown one) ∷ xs) later
    of false later = ap (λ xs. shown one ∷ xs) later

unchanged_id : (change : AtIrq → AtIrq) (at : List AtIrq) → changed_id change None at ≡ at
unchanged_id change [] = refl
unchanged_id change (one ∷ rest) = ap (λ xs. one ∷ xs) (unchanged_id change rest)

shown_acknowledged : (found : Option Candidate) (at : List AtIrq) → map shown (changed_id acknowledged_entry (id_of found) at) ≡ acknowledged_at found (map shown at)
shown_acknowledged None at = ap (map shown) (unchanged_id acknowledged_entry at)
shown_acknowledged (Some one) at = shown_changed acknowledged_entry acknowledged_shown (λ entry. refl) one.id at

shown_deactivated : (ended : Option ℕ) (at : List AtIrq) → map shown (changed_id deactivated_entry ended at) ≡ deactivated_at ended (map shown at)
shown_deactivated None at = ap (map shown) (unchanged_id deactivated_entry at)
shown_deactivated (Some id) at = shown_changed deactivated_entry deactivated_shown (λ entry. refl) id at

-- what a vCPU has at its interface after an access is what accesses see there then
pub shown_accessed : (reg : IccReg) (write : Option ℕ) (local : Local) → map shown (accessed reg write local).at ≡ (interface_after reg write (interface_of local)).at
shown_accessed reg write local =
    let found = taken_by reg write local.cpu (candidates_at (interface_of local)) in
    shown_deactivated (deactivated_by reg write local.cpu) (changed_id acknowledged_entry (id_of found) local.at) ∙ ap (deactivated_at (deactivated_by reg write local.cpu)) (shown_acknowledged found local.at)

pub interface_accessed : (reg : IccReg) (write : Option ℕ) (local : Local) → interface_of (accessed reg write local) ≡ interface_after reg write (interface_of local)
interface_accessed reg write local =
    let make : List AtInterface → InterfaceState = λ at. record { cpu = (accessed reg write local).cpu; at = at } in
    ap make (shown_accessed reg write local)

-- What an actor has at its interface is what an interface can have.

fewer : {X : Type 0} (p q : X → Bool) (xs : List X) → All (λ x. p x ≡ true → q x ≡ true) xs → length (filter p xs) ≤ length (filter q xs)
fewer p q [] all = omega arith
fewer p q (x ∷ xs) all = of (p x) refl (q x) refl (fewer p q xs (All-tail (λ x. p x ≡ true → q x ≡ true) x xs all))
  where
    of : (a : Bool) → p x ≡ a → (b : Bool) → q x ≡ b → length (filter p xs) ≤ length (filter q xs) → length (cond a (x ∷ filter p xs) (filter p xs)) ≤ length (cond b (x ∷ filter q xs) (filter q xs))
    of true h true i rest = omega (arith, rest)
    of true h false i rest = absurd (both (All-head (λ x. p x ≡ true → q x ≡ true) x xs all h) i)
      where
        both : q x ≡ true → q x ≡ false → ⊥
        both t f = cc
    of false h true i rest = omega (arith, rest)
    of false h false i rest = rest

one_or_none : {X : Type 0} (p : X → Bool) (xs : List X) → (filter p xs ≡ []) ⊎ ((x : X) × Contains xs x × (p x ≡ true))
one_or_none p [] = inl refl
one_or_none p (x ∷ xs) = of (p x) refl (one_or_none p xs)
  where
    of : (b : Bool) → p x ≡ b → (filter p xs ≡ []) ⊎ ((x : _) × Contains xs x × (p x ≡ true)) → (cond b (x ∷ filter p xs) (filter p xs) ≡ []) ⊎ ((y : _) × Contains (x ∷ xs) y × (p y ≡ true))
    of true h rest = inr (x, Contains-here x xs, h)
    of false h (inl none) = inl none
    of false h (inr (y, among, is)) = inr (y, Contains-there x y xs among, is)

filter_shown : (id : ℕ) (at : List AtIrq) → length (filter (λ entry. intid_of entry.key == id) (map shown at)) ≡ length (filter (λ entry. intid_of entry.key == id) at)
filter_shown id [] = refl
filter_shown id (one ∷ rest) = of (intid_of one.key == id) (filter_shown id rest)
  where
    of : (b : Bool) → length (filter (λ entry. intid_of entry.key == id) (map shown rest)) ≡ length (filter (λ entry. intid_of entry.key == id) rest)
        → length (cond b (shown one ∷ filter (λ entry. intid_of entry.key == id) (map shown rest)) (filter (λ entry. intid_of entry.key == id) (map shown rest))) ≡ length (cond b (one ∷ filter (λ entry. intid_of entry.key == id) rest) (filter (λ entry. intid_of entry.key == id) rest))
    of true e = ap suc e
    of false e = e

kind_of : (key : Key) → IsInRange key → (if nat_lt (intid_of key) 8192 then has_active_state key else not (has_active_state key)) ≡ true
kind_of (Private vcpu id) range = ap (λ b. if b then true else false) (lt-ltb id 8192 (omega (arith, range)))
kind_of (Spi id) range = let high = range.1 in ap (λ b. if b then true else false) (lt-ltb id 8192 high)
kind_of (Lpi id) range = of (nat_lt id 8192) refl
  where
    of : (b : Bool) → nat_lt id 8192 ≡ b → (if b then false else true) ≡ true
    of true h = let less = ltb-true id 8192 h in let low = range.0 in absurd (omega (arith, low, less))
    of false h = refl

kinds_of : (shape : GuestShape) (actor : ℕ) (at : List AtIrq) → IsShape shape → All (IsAt shape actor) at → list_all has_its_kind (map shown at) ≡ true
kinds_of shape actor [] good all = refl
kinds_of shape actor (one ∷ rest) good all =
    let is = All-head (IsAt shape actor) one rest all in
    ap (λ b. b && list_all has_its_kind (map shown rest)) (kind_of one.key (in_range shape one.key good is.there)) ∙ kinds_of shape actor rest good (All-tail (IsAt shape actor) one rest all)

once_of : (shape : GuestShape) (actor : ℕ) (at : List AtIrq) → IsShape shape → All (IsAt shape actor) at → IsOnce at → (id : ℕ) → length (filter (λ entry. intid_of entry.key == id) at) ≤ 1
once_of shape actor at good all once id = elim (one_or_none (λ entry. intid_of entry.key == id) at) [
  | inl none ↦ (let empty : length (filter (λ entry. intid_of entry.key == id) at) ≡ 0 = ap length none in omega (arith, empty))
  | inr (one, among, is) ↦ (
      let first = All-contains (IsAt shape actor) at one all among in
      let less = fewer (λ entry. intid_of entry.key == id) (λ entry. is_same_key entry.key one.key) at
      (All-weaker (IsAt shape actor) (λ entry. (intid_of entry.key == id) ≡ true → is_same_key entry.key one.key ≡ true)
      (λ entry at same. let key : entry.key ≡ one.key = same_by_id actor entry.key one.key (in_range shape entry.key good at.there) (in_range shape one.key good first.there) at.own first.own (eqb-true (intid_of entry.key) id same ∙ sym (eqb-true (intid_of one.key) id is)) in
      ap (λ key. is_same_key key one.key) key ∙ same_itself one.key)
      at all) in
      let most = once one.key in
      omega (arith, less, most))
]

pub is_interface : (shape : GuestShape) (actor : ℕ) (local : Local) → IsShape shape → IsLocal shape actor local → IsInterface (interface_of local)
is_interface shape actor local good is =
    record {
      points = is.points;
      once = λ id. (let same = filter_shown id local.at in let most = once_of shape actor local.at good is.at is.once id in omega (arith, same, most));
      kinds = kinds_of shape actor local.at good is.at;
    }
