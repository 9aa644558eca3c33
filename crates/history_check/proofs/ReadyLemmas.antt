-- States stay ready.
use Rattle.std.proofs.Common.{◌≡◌, ℕ, ◌<◌, ◌==◌, zero, suc, Bool, true, false, not, ◌&&◌, ◌||◌, cond, IsTrue, All, List, [], ◌∷◌, ◌++◌, map, find, length, replicate, Option, option_map, Some, None, refl, sym, ap, ◌∙◌, subst, slice_set, slice_index_or, arith}
use Rattle.std.specs.List.{list_all}
use Rattle.std.proofs.lemmas.Bool.{and_parts, and_from}
use Rattle.std.proofs.lemmas.Option.{same_Some}
use Rattle.std.proofs.lemmas.List.{length-set, length-replicate}
use Rattle.std.proofs.lemmas.List.Elements.{All-set, All-head, All-tail}
use Rattle.floor_histories.specs.Registers.{Candidate, AtInterface, candidates_at, acknowledged_at, deactivated_at, acknowledged_entry, deactivated_entry, Enables, taken_by, deactivated_by, cpu_after, CpuRec, HasBinaryPoints, Maps}
use Rattle.floor_histories.specs.Calls.{opening_cpu, has_plain, place_of_plain, PlainWord, Entry, Moved, IsEntryOf, IsMovedOf}
use Rattle.floor_histories.specs.Words.{IccReg, Key, GuestShape, has_interrupt, is_same_key, intid_of, Irq, has_active_state, IsRecordOf}
use Rattle.history_check.specs.Access.{taken_one, ended_one, accessed_one}
use Rattle.floor_histories.proofs.GicBase.KeyLemmas.{same_key, same_itself}
use Rattle.floor_histories.proofs.GicOpen.KeyLemmas.{irq_same, irq_other, length-with_irq_in}
use Rattle.floor_histories.specs.Histories.{IdealGuest, irq_at, cpu_at, with_cpu, with_word, with_queue, IsIdealCpu, IsSound, Ideal, Standing, shown_at, standing_at, is_of, moved_at, interface_at, with_irq, with_standing, with_entry, without, standing_of}
use Rattle.floor_histories.specs.GicHistory.State.{opening}
use Rattle.floor_histories.specs.GicHistory.Moves.{after_access}
use Rattle.history_check.specs.Ready.{fits, IsReady}

none_fit : (shape : GuestShape) (n : ℕ) → IsTrue (list_all (list_all (fits shape)) (replicate n []))
none_fit shape zero = refl
none_fit shape (suc n) = none_fit shape n

points_of : (cpus : List CpuRec) → All IsIdealCpu cpus → All HasBinaryPoints cpus
points_of cpus all = λ k d h. (all k d h).points

-- a sound guest opens ready
pub ready_opening : (guest : IdealGuest) → IsSound guest → IsReady (opening guest)
ready_opening guest sound =
    record {
      shape = sound.shape;
      irqs = sound.irqs;
      cpus = sound.cpus;
      words = sound.words;
      points = points_of guest.cpus sound.interfaces;
      records = λ key there. (sound.records key there).valid;
      at = length-replicate guest.shape.vcpus [];
      standing = none_fit guest.shape guest.shape.vcpus;
    }

-- a record is put
pub ready_irq : (state : Ideal) (key : Key) (irq : Irq) → IsReady state → IsTrue (has_interrupt state.guest.shape key) → IsRecordOf state.guest.shape key irq → IsReady (with_irq state key irq)
ready_irq state key irq ready there valid =
    record {
      shape = ready.shape;
      irqs = length-with_irq_in state.guest.shape key irq state.guest.irqs ∙ ready.irqs;
      cpus = ready.cpus;
      words = ready.words;
      points = ready.points;
      records = λ other here. of other here (is_same_key key other) refl;
      at = ready.at;
      standing = ready.standing;
    }
  where
    of : (other : Key) → IsTrue (has_interrupt state.guest.shape other) → (b : Bool) → is_same_key key other ≡ b → IsRecordOf state.guest.shape other (irq_at (with_irq state key irq).guest other)
    of other here true e =
        subst (λ k. IsRecordOf state.guest.shape k (irq_at (with_irq state key irq).guest k)) (same_key key other e)
        (subst (IsRecordOf state.guest.shape key) (sym (irq_same state.guest.shape key irq state.guest.irqs ready.shape ready.irqs there)) valid)
    of other here false e =
        subst (IsRecordOf state.guest.shape other) (sym (irq_other state.guest.shape key other irq state.guest.irqs ready.shape (λ same. differ (is_same_key key other) e (ap (is_same_key key) (sym same) ∙ same_itself key)))) (ready.records other here)
      where
        differ : (b : Bool) → b ≡ false → b ≡ true → ⊥
        differ b f t = cc

-- a test that all elements pass, and one that is put in the place of one of them
pub all_set : {X : Type 0} (test : X → Bool) (xs : List X) (i : ℕ) (x : X) → IsTrue (list_all test xs) → IsTrue (test x) → IsTrue (list_all test (slice_set xs i x))
all_set test [] i x all here = refl
all_set test (y ∷ xs) zero x all here = let parts = and_parts (test y) (list_all test xs) all in and_from (test x) (list_all test xs) here parts.1
all_set test (y ∷ xs) (suc i) x all here = let parts = and_parts (test y) (list_all test xs) all in and_from (test y) (list_all test (slice_set xs i x)) parts.0 (all_set test xs i x parts.1 here)

-- others stand at an interface
pub ready_standing : (state : Ideal) (vcpu : ℕ) (standing : List Standing) → IsReady state → IsTrue (list_all (fits state.guest.shape) standing) → IsReady (with_standing state vcpu standing)
ready_standing state vcpu standing ready fit =
    record {
      shape = ready.shape;
      irqs = ready.irqs;
      cpus = ready.cpus;
      words = ready.words;
      points = ready.points;
      records = ready.records;
      at = length-set state.at vcpu standing ∙ ready.at;
      standing = all_set (list_all (fits state.guest.shape)) state.at vcpu standing ready.standing fit;
    }

-- the record of an interface is put
pub ready_cpu : (state : Ideal) (vcpu : ℕ) (cpu : CpuRec) → IsReady state → HasBinaryPoints cpu → IsReady (record state { guest = with_cpu state.guest vcpu cpu })
ready_cpu state vcpu cpu ready points =
    record {
      shape = ready.shape;
      irqs = ready.irqs;
      cpus = length-set state.guest.cpus vcpu cpu ∙ ready.cpus;
      words = ready.words;
      points = All-set HasBinaryPoints state.guest.cpus vcpu cpu points ready.points;
      records = ready.records;
      at = ready.at;
      standing = ready.standing;
    }

-- the maps of the ITS are put
pub ready_tables : (state : Ideal) (tables : Maps) → IsReady state → IsReady (record state { guest = record state.guest { tables = tables } })
ready_tables state tables ready =
    record {
      shape = ready.shape;
      irqs = ready.irqs;
      cpus = ready.cpus;
      words = ready.words;
      points = ready.points;
      records = ready.records;
      at = ready.at;
      standing = ready.standing;
    }

-- What stands at an interface.

pub here_fit : (state : Ideal) (vcpu : ℕ) → IsReady state → IsTrue (list_all (fits state.guest.shape) (standing_at state vcpu))
here_fit state vcpu ready = of state.at vcpu ready.standing
  where
    of : (at : List (List Standing)) (vcpu : ℕ) → IsTrue (list_all (list_all (fits state.guest.shape)) at) → IsTrue (list_all (fits state.guest.shape) (slice_index_or at vcpu []))
    of [] vcpu all = refl
    of (x ∷ at) zero all = (and_parts (list_all (fits state.guest.shape) x) (list_all (list_all (fits state.guest.shape)) at) all).0
    of (x ∷ at) (suc vcpu) all = of at vcpu (and_parts (list_all (fits state.guest.shape) x) (list_all (list_all (fits state.guest.shape)) at) all).1

-- what is found of an interrupt there is what can stand there
found_fits : (shape : GuestShape) (key : Key) (xs : List Standing) (one : Standing) → IsTrue (list_all (fits shape) xs) → find (is_of key) xs ≡ Some one → IsTrue (fits shape (record one { key = key }))
found_fits shape key [] one all e = absurd (cc)
found_fits shape key (x ∷ xs) one all e =
    let parts = and_parts (fits shape x) (list_all (fits shape) xs) all in
    of (is_of key x) refl parts.0 e (found_fits shape key xs one parts.1)
  where
    of : (b : Bool) → is_of key x ≡ b → IsTrue (fits shape x) → cond b (Some x) (find (is_of key) xs) ≡ Some one → (find (is_of key) xs ≡ Some one → IsTrue (fits shape (record one { key = key }))) → IsTrue (fits shape (record one { key = key }))
    of true same fit e later = subst (λ (s : Standing). IsTrue (fits shape (record s { key = key }))) (same_Some x one e) (subst (λ k. IsTrue (fits shape (record x { key = k }))) (same_key x.key key same) fit)
    of false same fit e later = later e

fits_parts : (a b c : Bool) → (a && b && c) ≡ true → (b ≡ true) × (c ≡ true)
fits_parts true true c h = (refl, h)
fits_parts true false c h = absurd (cc)
fits_parts false b c h = absurd (cc)

pub moved_valid : (state : Ideal) (vcpu : ℕ) (key : Key) (moved : Moved) → IsReady state → IsTrue (has_interrupt state.guest.shape key) → moved_at state vcpu key ≡ Some moved → IsMovedOf state.guest.shape key moved
moved_valid state vcpu key moved ready there e = of (find (is_of key) (standing_at state vcpu)) refl e
  where
    of : (o : Option Standing) → find (is_of key) (standing_at state vcpu) ≡ o → option_map (λ (standing : Standing). let m : Moved = record { irq = irq_at state.guest key; entry = standing.entry } in m) o ≡ Some moved → IsMovedOf state.guest.shape key moved
    of None f e = absurd (cc)
    of (Some one) f e =
        let fit = found_fits state.guest.shape key (standing_at state vcpu) one (here_fit state vcpu ready) f in
        let parts = fits_parts (has_interrupt state.guest.shape key) (not one.entry.active || has_active_state key) (one.entry.pending || not (one.entry.rise || one.entry.soft)) fit in
        subst (IsMovedOf state.guest.shape key) (same_Some (record { irq = irq_at state.guest key; entry = one.entry }) moved e)
        (record { irq = ready.records key there; entry = record { kind = parts.0; causes = parts.1 } })

-- an interrupt of the guest, as it can be at an interface, fits there
pub entry_fits : (shape : GuestShape) (key : Key) (entry : Entry) → IsTrue (has_interrupt shape key) → IsEntryOf key entry → IsTrue (fits shape (record { key = key; entry = entry }))
entry_fits shape key entry there is = and_from (has_interrupt shape key && (not entry.active || has_active_state key)) (entry.pending || not (entry.rise || entry.soft)) (and_from (has_interrupt shape key) (not entry.active || has_active_state key) there is.kind) is.causes

pub one_more_fits : (test : Standing → Bool) (xs : List Standing) (one : Standing) → IsTrue (list_all test xs) → IsTrue (test one) → IsTrue (list_all test (xs ++ one ∷ []))
one_more_fits test [] one all fit = and_from (test one) true fit refl
one_more_fits test (x ∷ xs) one all fit = let parts = and_parts (test x) (list_all test xs) all in and_from (test x) (list_all test (xs ++ one ∷ [])) parts.0 (one_more_fits test xs one parts.1 fit)

pub rest_fits : (test : Standing → Bool) (key : Key) (xs : List Standing) → IsTrue (list_all test xs) → IsTrue (list_all test (without key xs))
rest_fits test key [] all = refl
rest_fits test key (x ∷ xs) all = let parts = and_parts (test x) (list_all test xs) all in of (not (is_of key x)) parts.0 (rest_fits test key xs parts.1)
  where
    of : (b : Bool) → IsTrue (test x) → IsTrue (list_all test (without key xs)) → IsTrue (list_all test (cond b (x ∷ without key xs) (without key xs)))
    of true here later = and_from (test x) (list_all test (without key xs)) here later
    of false here later = later

pub changed_fits : (shape : GuestShape) (key : Key) (entry : Entry) (xs : List Standing) → IsTrue (list_all (fits shape) xs) → IsTrue (fits shape (record { key = key; entry = entry })) → IsTrue (list_all (fits shape) (with_entry key entry xs))
changed_fits shape key entry [] all fit = refl
changed_fits shape key entry (x ∷ xs) all fit = let parts = and_parts (fits shape x) (list_all (fits shape) xs) all in of (is_of key x) refl parts.0 (changed_fits shape key entry xs parts.1 fit)
  where
    of : (b : Bool) → is_of key x ≡ b → IsTrue (fits shape x) → IsTrue (list_all (fits shape) (with_entry key entry xs)) → IsTrue (list_all (fits shape) (cond b (record x { entry = entry }) x ∷ with_entry key entry xs))
    of true same here later = and_from (fits shape (record x { entry = entry })) (list_all (fits shape) (with_entry key entry xs)) (subst (λ k. IsTrue (fits shape (record { key = k; entry = entry }))) (sym (same_key x.key key same)) fit) later
    of false same here later = and_from (fits shape x) (list_all (fits shape) (with_entry key entry xs)) here later

-- The accesses of an interface.

pub points_at : (state : Ideal) (vcpu : ℕ) → IsReady state → HasBinaryPoints (cpu_at state.guest vcpu)
points_at state vcpu ready = of state.guest.cpus vcpu ready.points
  where
    of : (cpus : List CpuRec) (n : ℕ) → All HasBinaryPoints cpus → HasBinaryPoints (slice_index_or cpus n (opening_cpu false))
    of [] n all = record { group_0 = omega arith; group_1 = omega arith }
    of (cpu ∷ cpus) zero all = All-head HasBinaryPoints cpu cpus all
    of (cpu ∷ cpus) (suc n) all = of cpus n (All-tail HasBinaryPoints cpu cpus all)

-- an element of what stands there is of an interrupt that the guest has
pub key_fits : (shape : GuestShape) (xs : List Standing) (i : ℕ) (x : Standing) → IsTrue (list_all (fits shape) xs) → i < length xs → x ≡ slice_index_or xs i x → IsTrue (has_interrupt shape x.key)
key_fits shape [] i x all h e = absurd (omega (arith, h))
key_fits shape (y ∷ xs) zero x all h e =
    let fit = (and_parts (fits shape y) (list_all (fits shape) xs) all).0 in
    subst (λ (s : Standing). IsTrue (has_interrupt shape s.key)) (sym e)
    (and_parts (has_interrupt shape y.key) (not y.entry.active || has_active_state y.key) (and_parts (has_interrupt shape y.key && (not y.entry.active || has_active_state y.key)) (y.entry.pending || not (y.entry.rise || y.entry.soft)) fit).0).0
key_fits shape (y ∷ xs) (suc i) x all h e = key_fits shape xs i x (and_parts (fits shape y) (list_all (fits shape) xs) all).1 (omega (arith, h)) e

-- what an access leaves, one by one
pub accessed_all : (taken : Option Candidate) (ended : Option ℕ) (xs : List AtInterface) → map standing_of (deactivated_at ended (acknowledged_at taken xs)) ≡ map (accessed_one taken ended) xs
accessed_all None None [] = refl
accessed_all None (Some id) [] = refl
accessed_all (Some f) None [] = refl
accessed_all (Some f) (Some id) [] = refl
accessed_all None None (x ∷ xs) = ap (λ ys. standing_of x ∷ ys) (accessed_all None None xs)
accessed_all None (Some id) (x ∷ xs) = ap (λ ys. accessed_one None (Some id) x ∷ ys) (accessed_all None (Some id) xs)
accessed_all (Some f) None (x ∷ xs) = ap (λ ys. accessed_one (Some f) None x ∷ ys) (accessed_all (Some f) None xs)
accessed_all (Some f) (Some id) (x ∷ xs) = ap (λ ys. accessed_one (Some f) (Some id) x ∷ ys) (accessed_all (Some f) (Some id) xs)

-- what an access leaves fits at the interface
ended_fits : (shape : GuestShape) (ended : Option ℕ) (one : AtInterface) → IsTrue (fits shape (standing_of one)) → IsTrue (fits shape (standing_of (ended_one ended one)))
ended_fits shape None one fit = fit
ended_fits shape (Some id) one fit = of (intid_of one.key == id)
  where
    there : IsTrue (has_interrupt shape one.key)
    there = (and_parts (has_interrupt shape one.key) (not one.active || has_active_state one.key) (and_parts (has_interrupt shape one.key && (not one.active || has_active_state one.key)) (one.pending || not (one.rise || one.soft)) fit).0).0

    causes : IsTrue (one.pending || not (one.rise || one.soft))
    causes = (and_parts (has_interrupt shape one.key && (not one.active || has_active_state one.key)) (one.pending || not (one.rise || one.soft)) fit).1

    of : (b : Bool) → IsTrue (fits shape (standing_of (cond b (deactivated_entry one) one)))
    of true = and_from (has_interrupt shape one.key && true) (one.pending || not (one.rise || one.soft)) (and_from (has_interrupt shape one.key) true there refl) causes
    of false = fit

taken_fits : (shape : GuestShape) (taken : Option Candidate) (one : AtInterface) → IsTrue (fits shape (standing_of one)) → IsTrue (fits shape (standing_of (taken_one taken one)))
taken_fits shape None one fit = fit
taken_fits shape (Some found) one fit = of (intid_of one.key == found.id)
  where
    there : IsTrue (has_interrupt shape one.key)
    there = (and_parts (has_interrupt shape one.key) (not one.active || has_active_state one.key) (and_parts (has_interrupt shape one.key && (not one.active || has_active_state one.key)) (one.pending || not (one.rise || one.soft)) fit).0).0

    kind : (b : Bool) → IsTrue (not b || b)
    kind true = refl
    kind false = refl

    of : (b : Bool) → IsTrue (fits shape (standing_of (cond b (acknowledged_entry one) one)))
    of true = and_from (has_interrupt shape one.key && (not (has_active_state one.key) || has_active_state one.key)) true (and_from (has_interrupt shape one.key) (not (has_active_state one.key) || has_active_state one.key) there (kind (has_active_state one.key))) refl
    of false = fit

pub accessed_fit : (state : Ideal) (taken : Option Candidate) (ended : Option ℕ) (xs : List Standing) → IsTrue (list_all (fits state.guest.shape) xs) → IsTrue (list_all (fits state.guest.shape) (map (accessed_one taken ended) (map (shown_at state) xs)))
accessed_fit state taken ended [] all = refl
accessed_fit state taken ended (x ∷ xs) all =
    let parts = and_parts (fits state.guest.shape x) (list_all (fits state.guest.shape) xs) all in
    and_from (fits state.guest.shape (accessed_one taken ended (shown_at state x))) (list_all (fits state.guest.shape) (map (accessed_one taken ended) (map (shown_at state) xs)))
    (ended_fits state.guest.shape ended (taken_one taken (shown_at state x)) (taken_fits state.guest.shape taken (shown_at state x) parts.0)) (accessed_fit state taken ended xs parts.1)

-- the state after an access, from its parts
pub after_is :
    (state : Ideal) (vcpu : ℕ) (reg : IccReg) (write : Option ℕ) (cpu : CpuRec) (standing : List Standing) (middle last : Ideal) → cpu ≡ cpu_after reg write (cpu_at state.guest vcpu) (candidates_at (interface_at state vcpu))
    → standing ≡ map (accessed_one (taken_by reg write (cpu_at state.guest vcpu) (candidates_at (interface_at state vcpu))) (deactivated_by reg write (cpu_at state.guest vcpu))) (map (shown_at state) (standing_at state vcpu))
    → middle ≡ record state { guest = with_cpu state.guest vcpu cpu } → last ≡ with_standing middle vcpu standing → last ≡ after_access vcpu reg write state
after_is state vcpu reg write cpu standing middle last c s m l =
    l ∙ ap (λ (x : Ideal). with_standing x vcpu standing) m ∙ ap (λ (r : CpuRec). with_standing (record state { guest = with_cpu state.guest vcpu r }) vcpu standing) c
    ∙ ap (λ xs. with_standing (record state { guest = with_cpu state.guest vcpu (cpu_after reg write (cpu_at state.guest vcpu) (candidates_at (interface_at state vcpu))) }) vcpu xs)
    (s ∙ sym (accessed_all (taken_by reg write (cpu_at state.guest vcpu) (candidates_at (interface_at state vcpu))) (deactivated_by reg write (cpu_at state.guest vcpu)) (map (shown_at state) (standing_at state vcpu))))

-- words and marks change nothing of this
pub ready_words : (state : Ideal) (word : PlainWord) (value : ℕ) → IsReady state → IsReady (record state { guest = with_word state.guest word value })
ready_words state word value ready =
    record {
      shape = ready.shape;
      irqs = ready.irqs;
      cpus = ready.cpus;
      words = of (has_plain state.guest.shape word) ∙ ready.words;
      points = ready.points;
      records = ready.records;
      at = ready.at;
      standing = ready.standing;
    }
  where
    of : (b : Bool) → length (cond b (slice_set state.guest.words (place_of_plain state.guest.shape word) value) state.guest.words) ≡ length state.guest.words
    of true = length-set state.guest.words (place_of_plain state.guest.shape word) value
    of false = refl

pub ready_enables : (state : Ideal) (enables : Enables) → IsReady state → IsReady (record state { guest = record state.guest { enables = enables } })
ready_enables state enables ready = record { shape = ready.shape; irqs = ready.irqs; cpus = ready.cpus; words = ready.words; points = ready.points; records = ready.records; at = ready.at; standing = ready.standing }

pub ready_queue : (state : Ideal) (offset : ℕ) (stalled : Bool) → IsReady state → IsReady (record state { guest = with_queue state.guest offset stalled })
ready_queue state offset stalled ready = record { shape = ready.shape; irqs = ready.irqs; cpus = ready.cpus; words = ready.words; points = ready.points; records = ready.records; at = ready.at; standing = ready.standing }

pub ready_spreads : (state : Ideal) (mark : Option ℕ) → IsReady state → IsReady (record state { spreads = mark })
ready_spreads state mark ready = record { shape = ready.shape; irqs = ready.irqs; cpus = ready.cpus; words = ready.words; points = ready.points; records = ready.records; at = ready.at; standing = ready.standing }

pub ready_its : (state : Ideal) (mark : Option ℕ) → IsReady state → IsReady (record state { has_its = mark })
ready_its state mark ready = record { shape = ready.shape; irqs = ready.irqs; cpus = ready.cpus; words = ready.words; points = ready.points; records = ready.records; at = ready.at; standing = ready.standing }
