-- An access of a CPU interface: what it leaves of each interrupt, and what it does to the guest with all taken back where the interface shows that.
use Rattle.std.proofs.Common.{◌≡◌, ◌≢◌, ℕ, ◌<◌, ◌==◌, ◌&&◌, ◌||◌, not, Bool, true, false, cond, IsTrue, inl, inr, List, [], ◌∷◌, map, filter, find, Option, Some, None, option_and_then, if◌then◌else◌, refl, sym, ap, ◌∙◌, subst, arith}
use Rattle.std.specs.List.{list_any, filter_map, cons_option}
use Rattle.std.specs.Option.{option_map_or}
use Rattle.std.proofs.lemmas.Bool.{cases_eq, eq-eqb, ne_eqb, eqb-true}
use Rattle.std.proofs.lemmas.Grind.{common_steps}
use Rattle.std.proofs.lemmas.Option.{same_Some}
use Rattle.law_histories.specs.Words.{IccReg, Iar0, Iar1, Hppir0, Hppir1, Key, Private, Spi, Lpi, GuestShape, has_interrupt, intid_of, is_of_vcpu, key_of, IsShape, G0, G1, Irq, acknowledged, deactivated, has_active_state, is_number}
use Rattle.law_histories.proofs.GicBase.KeyLemmas.{same_itself}
use Rattle.law_histories.specs.Registers.{Candidate, CpuRec, taken_by, answer_of, cpu_after, activated_by, first_of, is_group_enabled, is_signalled, is_same_group, intid_read, AtInterface, candidate_of, acknowledged_entry, deactivated_entry}
use Rattle.law_histories.specs.Calls.{left, IsEntryOf, entry_of}
use Rattle.law_histories.specs.Histories.{is_named, Ideal, Standing, standing_at, is_of, shown_at, asks_first}
use Rattle.law_histories.proofs.IdealGuests.KeyLemmas.{named_is, is_named_by, key_intid}
use Rattle.law_histories.proofs.LatchMoves.{acked, ended}
use Rattle.law_histories.proofs.StandLemmas.{of_key}
use Rattle.law_home_commutes.proofs.SpotLemmas.{Spot, IsSpot, IsTidy}

-- Which interrupt an INTID names at a vCPU.

pub named_own : (shape : GuestShape) (key : Key) (vcpu : ℕ) → IsShape shape → vcpu < shape.vcpus → IsTrue (has_interrupt shape key) → is_of_vcpu vcpu key ≡ true → key_of (intid_of key) vcpu shape ≡ Some key
named_own shape (Private v id) vcpu good few there own = grind (arith, common_steps, few, there, own)
named_own shape (Spi id) vcpu good few there own = grind (arith, common_steps, there)
named_own shape (Lpi id) vcpu good few there own = grind (arith, common_steps, there, good.spis, good.espis)

-- an interrupt of the vCPU is the one that its INTID names
is_named_so : (shape : GuestShape) (key : Key) (vcpu id : ℕ) → IsShape shape → vcpu < shape.vcpus → IsTrue (has_interrupt shape key) → is_of_vcpu vcpu key ≡ true → is_named id vcpu shape key ≡ (intid_of key == id)
is_named_so shape key vcpu id good few there own = elim (cases_eq (intid_of key) id) [
  | inl e ↦ is_named_by id vcpu shape key (subst (λ n. key_of n vcpu shape ≡ Some key) e (named_own shape key vcpu good few there own)) ∙ sym (eq-eqb (intid_of key) id e)
  | inr differ ↦ not_named differ (is_named id vcpu shape key) refl ∙ sym (ne_eqb (intid_of key) id differ)
]
  where
    not_named : intid_of key ≢ id → (b : Bool) → is_named id vcpu shape key ≡ b → b ≡ false
    not_named differ true e = absurd (differ (key_intid id vcpu shape key (named_is id vcpu shape key e)))
    not_named differ false e = refl

-- What stands at an interface.

or_right : (a b : Bool) → b ≡ true → (a || b) ≡ true
or_right true b h = refl
or_right false b h = h

-- where none of some has an INTID, none of them has it and passes a test
pub none_so : (state : Ideal) (id : ℕ) (test : AtInterface → Bool) (xs : List Standing) → ((k : Key) → list_any (is_of k) xs ≡ true → (intid_of k == id) ≡ false) → list_any (λ one. intid_of one.key == id && test one) (map (shown_at state) xs) ≡ false
none_so state id test [] none = refl
none_so state id test (x ∷ xs) none =
    ap (λ b. (b && test (shown_at state x)) || list_any (λ one. intid_of one.key == id && test one) (map (shown_at state) xs)) (none x.key (ap (λ b. b || list_any (is_of x.key) xs) (same_itself x.key)))
    ∙ none_so state id test xs (λ k h. none k (or_right (is_of k x) (list_any (is_of k) xs) h))

pub no_candidate : (cpu : CpuRec) (state : Ideal) (id : ℕ) (xs : List Standing) → ((k : Key) → list_any (is_of k) xs ≡ true → (intid_of k == id) ≡ false) → list_any (λ (c : Candidate). c.id == id) (filter_map (candidate_of cpu) (map (shown_at state) xs)) ≡ false
no_candidate cpu state id [] none = refl
no_candidate cpu state id (x ∷ xs) none =
    of (shown.pending && not shown.active && is_group_enabled shown.group cpu) (none x.key (ap (λ b. b || list_any (is_of x.key) xs) (same_itself x.key))) (no_candidate cpu state id xs (λ k h. none k (or_right (is_of k x) (list_any (is_of k) xs) h)))
  where
    shown : AtInterface
    shown = shown_at state x

    of : (b : Bool) → (intid_of x.key == id) ≡ false → list_any (λ (c : Candidate). c.id == id) (filter_map (candidate_of cpu) (map (shown_at state) xs)) ≡ false
        → list_any (λ (c : Candidate). c.id == id) (cons_option (cond b (Some (record { id = intid_of x.key; prio = shown.prio; group = shown.group })) None) (filter_map (candidate_of cpu) (map (shown_at state) xs))) ≡ false
    of true h later = ap (λ b. b || list_any (λ (c : Candidate). c.id == id) (filter_map (candidate_of cpu) (map (shown_at state) xs))) h ∙ later
    of false h later = later

pub found_among : (test : Candidate → Bool) (cs : List Candidate) (found : Candidate) → find test cs ≡ Some found → list_any (λ (c : Candidate). c.id == found.id) cs ≡ true
found_among test [] found e = absurd (cc)
found_among test (c ∷ cs) found e = of (test c) e (found_among test cs found)
  where
    of : (b : Bool) → cond b (Some c) (find test cs) ≡ Some found → (find test cs ≡ Some found → list_any (λ (c : Candidate). c.id == found.id) cs ≡ true) → ((c.id == found.id) || list_any (λ (c : Candidate). c.id == found.id) cs) ≡ true
    of true h later = ap (λ b. b || list_any (λ (c : Candidate). c.id == found.id) cs) (eq-eqb c.id found.id (ap (λ (x : Candidate). x.id) (same_Some c found h)))
    of false h later = or_right (c.id == found.id) (list_any (λ (c : Candidate). c.id == found.id) cs) (later h)

none_any : {X : Type 0} (p : X → Bool) (xs : List X) → filter p xs ≡ [] → list_any p xs ≡ false
none_any p [] h = refl
none_any p (x ∷ xs) h = of (p x) h (none_any p xs)
  where
    of : (b : Bool) → cond b (x ∷ filter p xs) (filter p xs) ≡ [] → (filter p xs ≡ [] → list_any p xs ≡ false) → (b || list_any p xs) ≡ false
    of true h later = absurd (cc)
    of false h later = later h

module _ (shape : GuestShape) (state : Ideal) (tidy : IsTidy shape state) (vcpu : ℕ) (few : vcpu < shape.vcpus) where
  good : IsShape shape
  good = subst IsShape tidy.shape_is tidy.whole.shape

  -- where the interrupt that an INTID names is not there, none with that INTID is
  pub none_with : (key : Key) (id : ℕ) → of_key state key vcpu ≡ [] → is_named id vcpu shape key ≡ true → (k : Key) → list_any (is_of k) (standing_at state vcpu) ≡ true → (intid_of k == id) ≡ false
  none_with key id none named k h = by_spot (tidy.placed k).spot (tidy.placed k).is
    where
      nobody : of_key state k vcpu ≡ [] → (intid_of k == id) ≡ false
      nobody empty = absurd (let no = none_any (is_of k) (standing_at state vcpu) empty in cc)

      by_test : (b : Bool) → (intid_of k == id) ≡ b → IsTrue (has_interrupt shape k) → is_of_vcpu vcpu k ≡ true → b ≡ false
      by_test true e there own =
          absurd
          (let name : key_of id vcpu shape ≡ Some k = subst (λ n. key_of n vcpu shape ≡ Some k) (eqb-true (intid_of k) id e) (named_own shape k vcpu good few there own) in
          let same : key ≡ k = same_Some key k (sym (named_is id vcpu shape key named) ∙ name) in
          let no = none_any (is_of k) (standing_at state vcpu) (subst (λ j. of_key state j vcpu ≡ []) same none) in cc)
      by_test false e there own = refl

      by_spot : (o : Option Spot) → IsSpot shape k (of_key state k) o → (intid_of k == id) ≡ false
      by_spot None is = nobody (is vcpu)
      by_spot (Some one) is = elim (cases_eq vcpu one.vcpu) [
        | inl e ↦ by_test (intid_of k == id) refl is.there (subst (λ v. is_of_vcpu v k ≡ true) (sym e) is.own)
        | inr differ ↦ nobody (is.elsewhere vcpu differ)
      ]

-- Which candidates an access goes by.

pub taken_same : (reg : IccReg) (write : Option ℕ) (cpu : CpuRec) (among other : List Candidate) → (asks_first reg write ≡ true → first_of among ≡ first_of other) → taken_by reg write cpu among ≡ taken_by reg write cpu other
taken_same Iar0 None cpu among other first =
    ap (option_and_then (λ (one : Candidate). if is_same_group one.group G0 && is_signalled one.prio one.group cpu then Some one else None)) (first refl)
taken_same Iar1 None cpu among other first =
    ap (option_and_then (λ (one : Candidate). if is_same_group one.group G1 && is_signalled one.prio one.group cpu then Some one else None)) (first refl)
taken_same Iar0 (Some value) cpu among other first = refl
taken_same Iar1 (Some value) cpu among other first = refl
taken_same reg write cpu among other first = refl

pub answer_same : (reg : IccReg) (write : Option ℕ) (cpu : CpuRec) (among other : List Candidate) → (asks_first reg write ≡ true → first_of among ≡ first_of other) → answer_of reg write cpu among ≡ answer_of reg write cpu other
answer_same Iar0 None cpu among other first = ap (λ o. Some (intid_read o)) (taken_same Iar0 None cpu among other first)
answer_same Iar1 None cpu among other first = ap (λ o. Some (intid_read o)) (taken_same Iar1 None cpu among other first)
answer_same Hppir0 None cpu among other first =
    ap (λ o. Some (intid_read (option_and_then (λ (one : Candidate). if is_same_group one.group G0 then Some one else None) o))) (first refl)
answer_same Hppir1 None cpu among other first =
    ap (λ o. Some (intid_read (option_and_then (λ (one : Candidate). if is_same_group one.group G1 then Some one else None) o))) (first refl)
answer_same reg None cpu among other first = refl
answer_same reg (Some value) cpu among other first = refl

pub cpu_same : (reg : IccReg) (write : Option ℕ) (cpu : CpuRec) (among other : List Candidate) → (asks_first reg write ≡ true → first_of among ≡ first_of other) → cpu_after reg write cpu among ≡ cpu_after reg write cpu other
cpu_same reg None cpu among other first = ap (λ o. activated_by o cpu) (taken_same reg None cpu among other first)
cpu_same reg (Some value) cpu among other first = refl

-- What an access does to one interrupt.

pub acked_key : (taken : Option Candidate) (one : AtInterface) → (acked taken one).key ≡ one.key
acked_key None one = refl
acked_key (Some found) one = of (intid_of one.key == found.id)
  where
    of : (b : Bool) → (cond b (acknowledged_entry one) one).key ≡ one.key
    of true = refl
    of false = refl

pub ended_key : (named : Option ℕ) (one : AtInterface) → (ended named one).key ≡ one.key
ended_key None one = refl
ended_key (Some id) one = of (intid_of one.key == id)
  where
    of : (b : Bool) → (cond b (deactivated_entry one) one).key ≡ one.key
    of true = refl
    of false = refl

pub acked_fits : (taken : Option Candidate) (one : AtInterface) → IsEntryOf one.key (entry_of one) → IsEntryOf one.key (entry_of (acked taken one))
acked_fits None one is = is
acked_fits (Some found) one is = of (intid_of one.key == found.id)
  where
    can : (b : Bool) → (not b || b) ≡ true
    can true = refl
    can false = refl

    of : (b : Bool) → IsEntryOf one.key (entry_of (cond b (acknowledged_entry one) one))
    of true = record { kind = can (has_active_state one.key); causes = refl }
    of false = is

pub ended_fits : (named : Option ℕ) (key : Key) (one : AtInterface) → IsEntryOf key (entry_of one) → IsEntryOf key (entry_of (ended named one))
ended_fits None key one is = is
ended_fits (Some id) key one is = of (intid_of one.key == id)
  where
    of : (b : Bool) → IsEntryOf key (entry_of (cond b (deactivated_entry one) one))
    of true = record { kind = refl; causes = is.causes }
    of false = is

-- what the eager controller does to a record: an acknowledge of a candidate or of none, and a deactivation
abbrev pub ack_by : GuestShape → ℕ → Key → Option Candidate → Irq → Irq
ack_by shape vcpu key taken irq = option_map_or (λ found. cond (is_named found.id vcpu shape key) (acknowledged key vcpu irq) irq) taken irq

abbrev pub end_by : GuestShape → ℕ → Key → Option ℕ → Irq → Irq
end_by shape vcpu key named irq = option_map_or (λ id. cond (is_named id vcpu shape key) (deactivated vcpu irq) irq) named irq

-- the record of one that is there, once it is taken back
module _ (shape : GuestShape) (vcpu : ℕ) (key : Key) (good : IsShape shape) (few : vcpu < shape.vcpus) (there : IsTrue (has_interrupt shape key)) (own : is_of_vcpu vcpu key ≡ true) (irq : Irq) where
  pub acked_back : (taken : Option Candidate) (one : AtInterface) → one.key ≡ key → ((found : Candidate) → taken ≡ Some found → is_named found.id vcpu shape key ≡ true → (irq.rise || irq.soft) ≡ false)
      → left vcpu (record { irq = irq; entry = entry_of (acked taken one) }) ≡ ack_by shape vcpu key taken (left vcpu (record { irq = irq; entry = entry_of one }))
  acked_back None one same none = refl
  acked_back (Some found) one same none =
      of (intid_of one.key == found.id) (is_named found.id vcpu shape key) refl (ap (λ k. intid_of k == found.id) same ∙ sym (is_named_so shape key vcpu found.id good few there own)) (ap has_active_state same)
    where
      no_rise : (a b : Bool) → (a || b) ≡ false → a ≡ false
      no_rise true b h = h
      no_rise false b h = refl

      no_soft : (a b : Bool) → (a || b) ≡ false → b ≡ false
      no_soft true b h = absurd (cc)
      no_soft false b h = h

      of : (b c : Bool) → is_named found.id vcpu shape key ≡ c → b ≡ c → has_active_state one.key ≡ has_active_state key
          → left vcpu (record { irq = irq; entry = entry_of (cond b (acknowledged_entry one) one) }) ≡ cond c (acknowledged key vcpu (left vcpu (record { irq = irq; entry = entry_of one }))) (left vcpu (record { irq = irq; entry = entry_of one }))
      of true true named e kind =
          let free = none found refl named in
          ap (λ r. let i : Irq = record irq { rise = r || false; soft = irq.soft || false; act_by = if has_active_state one.key then Some vcpu else None } in i) (no_rise irq.rise irq.soft free)
          ∙ ap (λ s. let i : Irq = record irq { rise = false; soft = s || false; act_by = if has_active_state one.key then Some vcpu else None } in i) (no_soft irq.rise irq.soft free)
          ∙ ap (λ b. let i : Irq = record irq { rise = false; soft = false; act_by = if b then Some vcpu else None } in i) kind
      of true false named e kind = absurd (cc)
      of false true named e kind = absurd (cc)
      of false false named e kind = refl

  pub ended_back : (named : Option ℕ) (one : AtInterface) → one.key ≡ key → left vcpu (record { irq = irq; entry = entry_of (ended named one) }) ≡ end_by shape vcpu key named (left vcpu (record { irq = irq; entry = entry_of one }))
  ended_back None one same = refl
  ended_back (Some id) one same = of (intid_of one.key == id) (is_named id vcpu shape key) (ap (λ k. intid_of k == id) same ∙ sym (is_named_so shape key vcpu id good few there own))
    where
      by_active : (b c : Bool) → is_number vcpu (Some vcpu) ≡ c → c ≡ true → left vcpu (record { irq = irq; entry = record { pending = one.pending; active = false; rise = one.rise; soft = one.soft } })
          ≡ deactivated vcpu (left vcpu (record { irq = irq; entry = record { pending = one.pending; active = b; rise = one.rise; soft = one.soft } }))
      by_active true c e f =
          ap (λ b. let i : Irq = record irq { rise = irq.rise || one.rise; soft = irq.soft || one.soft; act_by = Some vcpu } in cond b (record i { act_by = None }) i) (sym (e ∙ f))
      by_active false c e f = refl

      of : (b c : Bool) → b ≡ c → left vcpu (record { irq = irq; entry = entry_of (cond b (deactivated_entry one) one) }) ≡ cond c (deactivated vcpu (left vcpu (record { irq = irq; entry = entry_of one }))) (left vcpu (record { irq = irq; entry = entry_of one }))
      of true true e = by_active one.active (is_number vcpu (Some vcpu)) refl (eq-eqb vcpu vcpu refl)
      of true false e = absurd (cc)
      of false true e = absurd (cc)
      of false false e = refl
