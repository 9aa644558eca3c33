-- The interrupts at an interface through an access.
use Rattle.std.proofs.Common.{◌≡◌, ℕ, ◌&&◌, Option, Some, None, List, [], ◌∷◌, Bool, true, false, eqb, cond, map, refl, arith}
use Rattle.std.specs.List.{list_any, filter_map}
use Rattle.std.proofs.lemmas.Grind.{common_steps}
use Rattle.floor_words.specs.Words.{Key, intid_of}
use Rattle.gic_prio.specs.declared.cpu.CpuRec.{CpuRec}
use Rattle.gic_prio.specs.declared.candidate.Candidate.{Candidate}
use Rattle.gic_prio.specs.Interface.{AtInterface, candidate_of, changed_at, acknowledged_at, deactivated_at, acknowledged_entry, deactivated_entry}

-- the interrupts without their state
abbrev keys_of : List AtInterface → List Key
keys_of at = map (λ entry. entry.key) at

-- a change of one of them that keeps what it is
keys_changed : (change : AtInterface → AtInterface) (keeps : (entry : AtInterface) → (change entry).key ≡ entry.key) (id : ℕ) (at : List AtInterface) → keys_of (changed_at change id at) ≡ keys_of at
keys_changed change keeps id [] = refl
keys_changed change keeps id (entry ∷ at) = ap2 (same (eqb (intid_of entry.key) id)) (keys_changed change keeps id at)
  where
    same : (b : Bool) → (cond b (change entry) entry).key ≡ entry.key
    same true = keeps entry
    same false = refl

    ap2 : {k l : Key} {ks ls : List Key} → k ≡ l → ks ≡ ls → k ∷ ks ≡ l ∷ ls
    ap2 e f = cc

-- an acknowledge and a deactivation keep them
pub keys_acknowledged : (taken : Option Candidate) (at : List AtInterface) → keys_of (acknowledged_at taken at) ≡ keys_of at
keys_acknowledged None at = refl
keys_acknowledged (Some found) at = keys_changed acknowledged_entry (λ entry. refl) found.id at

pub keys_deactivated : (ended : Option ℕ) (at : List AtInterface) → keys_of (deactivated_at ended at) ≡ keys_of at
keys_deactivated None at = refl
keys_deactivated (Some id) at = keys_changed deactivated_entry (λ entry. refl) id at

-- the interrupt has this INTID and is pending
abbrev is_pending_here : ℕ → AtInterface → Bool
is_pending_here id entry = entry.pending && eqb (intid_of entry.key) id

-- only a pending interrupt is a candidate
pub no_candidate : (cpu : CpuRec) (id : ℕ) (at : List AtInterface) → list_any (is_pending_here id) at ≡ false → list_any (λ other. eqb other.id id) (filter_map (candidate_of cpu) at) ≡ false
no_candidate cpu id [] h = refl
no_candidate cpu id (entry ∷ at) h = grind (arith, common_steps, no_candidate cpu id at)

-- none with this INTID is pending after an acknowledge of it
none_acknowledged : (id : ℕ) (at : List AtInterface) → list_any (is_pending_here id) (changed_at acknowledged_entry id at) ≡ false
none_acknowledged id [] = refl
none_acknowledged id (entry ∷ at) = grind (arith, common_steps, none_acknowledged id at)

-- a deactivation makes none pending
none_changed : (id other : ℕ) (at : List AtInterface) → list_any (is_pending_here id) at ≡ false → list_any (is_pending_here id) (changed_at deactivated_entry other at) ≡ false
none_changed id other [] h = refl
none_changed id other (entry ∷ at) h = grind (arith, common_steps, none_changed id other at)

none_deactivated : (id : ℕ) (ended : Option ℕ) (at : List AtInterface) → list_any (is_pending_here id) at ≡ false → list_any (is_pending_here id) (deactivated_at ended at) ≡ false
none_deactivated id None at h = h
none_deactivated id (Some other) at h = none_changed id other at h

-- an acknowledge leaves no candidate with its INTID
pub none_left : (cpu : CpuRec) (ended : Option ℕ) (taken : Option Candidate) (found : Candidate) (at : List AtInterface) → taken ≡ Some found → list_any (λ other. eqb other.id found.id) (filter_map (candidate_of cpu) (deactivated_at ended (acknowledged_at taken at))) ≡ false
none_left cpu ended taken found at e =
    let id = found.id in
    rw e (no_candidate cpu id (deactivated_at ended (changed_at acknowledged_entry id at)) (none_deactivated id ended (changed_at acknowledged_entry id at) (none_acknowledged id at)))
