-- Where an interrupt is, and what its record is once that is taken back.
use Rattle.std.proofs.Common.{◌≡◌, ◌≢◌, ℕ, ◌<◌, Bool, true, IsTrue, inl, inr, List, [], ◌∷◌, filter, find, length, Option, Some, None, refl, sym, ◌∙◌, subst}
use Rattle.std.specs.Option.{option_map_or}
use Rattle.std.proofs.lemmas.Bool.{cases_eq}
use Rattle.law_histories.specs.Words.{Key, GuestShape, has_interrupt, is_of_vcpu, Irq, IsRecordOf}
use Rattle.law_histories.specs.Calls.{Entry, Moved, left, IsEntryOf}
use Rattle.law_histories.specs.Histories.{irq_at, Ideal, Standing, standing_at, is_of, with_standing}
use Rattle.law_histories.proofs.IdealGuests.KeyLemmas.{IsWhole}
use Rattle.law_histories.proofs.StandLemmas.{of_key, standing_of_key, found_none, found_first, put_here, put_other}

-- at a vCPU's interface, with this there
pub record Spot : Type 0 where
  pub vcpu : ℕ
  pub entry : Entry

-- the record of an interrupt after it is taken back from where it is, if it is anywhere
abbrev pub back : Option Spot → Irq → Irq
back None irq = irq
back (Some spot) irq = left spot.vcpu (record { irq = irq; entry = spot.entry })

-- the guest has the interrupt; it is there, at a vCPU that it can be for, with what an interface can have of it, and nowhere else
pub record IsThere (shape : GuestShape) (key : Key) (at : ℕ → List Standing) (spot : Spot) : Type 0 where
  pub there : IsTrue (has_interrupt shape key)
  pub few : spot.vcpu < shape.vcpus
  pub own : is_of_vcpu spot.vcpu key ≡ true
  pub entry : IsEntryOf key spot.entry
  pub here : at spot.vcpu ≡ standing_of_key key spot.entry ∷ []
  pub elsewhere : (other : ℕ) → other ≢ spot.vcpu → at other ≡ []

abbrev pub IsSpot : GuestShape → Key → (ℕ → List Standing) → Option Spot → Type 0
IsSpot shape key at None = (vcpu : ℕ) → at vcpu ≡ []
IsSpot shape key at (Some spot) = IsThere shape key at spot

pub record IsPlaced (shape : GuestShape) (key : Key) (at : ℕ → List Standing) : Type 0 where
  pub spot : Option Spot
  pub is : IsSpot shape key at spot

-- the record is one of the interrupt, and a private one is active by its own vCPU or by none
abbrev pub is_owned : Key → Option ℕ → Bool
is_owned key act_by = option_map_or (λ vcpu. is_of_vcpu vcpu key) act_by true

pub record IsOwn (shape : GuestShape) (key : Key) (irq : Irq) : Type 0 where
  pub valid : IsRecordOf shape key irq
  pub owner : is_owned key irq.act_by ≡ true

-- a state of a guest of this shape in which each interrupt is at one interface at most
pub record IsTidy (shape : GuestShape) (state : Ideal) : Type 0 where
  pub shape_is : state.guest.shape ≡ shape
  pub whole : IsWhole state.guest
  pub seats : length state.at ≡ shape.vcpus
  pub placed : (key : Key) → IsPlaced shape key (of_key state key)
  pub records : (key : Key) → IsTrue (has_interrupt shape key) → IsOwn shape key (irq_at state.guest key)

-- What is found there.

module _ (shape : GuestShape) (key : Key) (at at' : ℕ → List Standing) (same : (vcpu : ℕ) → at' vcpu ≡ at vcpu) where
  pub spot_same : (spot : Option Spot) → IsSpot shape key at spot → IsSpot shape key at' spot
  spot_same None is = λ vcpu. same vcpu ∙ is vcpu
  spot_same (Some spot) is = record { there = is.there; few = is.few; own = is.own; entry = is.entry; here = same spot.vcpu ∙ is.here; elsewhere = λ other differ. same other ∙ is.elsewhere other differ }

  pub placed_same : IsPlaced shape key at → IsPlaced shape key at'
  placed_same is = record { spot = is.spot; is = spot_same is.spot is.is }

-- with others at one interface, among which is as much of the interrupt
pub apart_same : (state : Ideal) (key : Key) (vcpu : ℕ) (standing : List Standing) → vcpu < length state.at → filter (is_of key) standing ≡ of_key state key vcpu → (other : ℕ) → of_key (with_standing state vcpu standing) key other ≡ of_key state key other
apart_same state key vcpu standing few same other = elim (cases_eq other vcpu) [
  | inl e ↦ subst (λ v. of_key (with_standing state vcpu standing) key v ≡ of_key state key v) (sym e) (put_here state key vcpu standing few ∙ same)
  | inr differ ↦ put_other state key vcpu standing other differ
]

abbrev pub moved_of : Ideal → Key → Standing → Moved
moved_of state key one = record { irq = irq_at state.guest key; entry = one.entry }

-- what a vCPU's interface has of an interrupt that is at none, at another one, and there
pub nothing_found : (state : Ideal) (key : Key) (vcpu : ℕ) → of_key state key vcpu ≡ [] → find (is_of key) (standing_at state vcpu) ≡ None
nothing_found state key vcpu none = found_none (is_of key) (standing_at state vcpu) none

pub entry_found : (state : Ideal) (key : Key) (vcpu : ℕ) (entry : Entry) → of_key state key vcpu ≡ standing_of_key key entry ∷ [] → find (is_of key) (standing_at state vcpu) ≡ Some (standing_of_key key entry)
entry_found state key vcpu entry some = found_first (is_of key) (standing_at state vcpu) (standing_of_key key entry) [] some

-- which of the two it is
pub data IsFoundAt (state : Ideal) (key : Key) (vcpu : ℕ) (spot : Option Spot) : Type 0 where
  not_found : find (is_of key) (standing_at state vcpu) ≡ None → of_key state key vcpu ≡ [] → IsFoundAt state key vcpu spot
  is_found : (one : Spot) → spot ≡ Some one → one.vcpu ≡ vcpu → find (is_of key) (standing_at state vcpu) ≡ Some (standing_of_key key one.entry) → IsFoundAt state key vcpu spot

pub found_at : (shape : GuestShape) (state : Ideal) (key : Key) (vcpu : ℕ) (spot : Option Spot) → IsSpot shape key (of_key state key) spot → IsFoundAt state key vcpu spot
found_at shape state key vcpu None is = not_found (nothing_found state key vcpu (is vcpu)) (is vcpu)
found_at shape state key vcpu (Some one) is = elim (cases_eq one.vcpu vcpu) [
  | inl same ↦ is_found one refl same (entry_found state key vcpu one.entry (subst (λ v. of_key state key v ≡ standing_of_key key one.entry ∷ []) same is.here))
  | inr differ ↦ let none = is.elsewhere vcpu (λ e. differ (sym e)) in not_found (nothing_found state key vcpu none) none
]
