-- Whether an interrupt that is home comes before the first at the interface.
use Rattle.std.proofs.Common.{◌≡◌, ◌≢◌, ℕ, ◌+◌, ◌<◌, ◌≤◌, zero, suc, Bool, true, false, ◌&&◌, cond, IsTrue, IsSome, All, List, [], ◌∷◌, map, Option, Some, None, refl, sym, ap, ◌∙◌, subst, arith, inl, inr, true≢false}
use Rattle.std.specs.List.{list_all, range_with_len, filter_map, cons_option}
use Rattle.std.specs.Option.{option_map_or}
use Rattle.std.proofs.lemmas.Bool.{and_from, cases_eq}
use Rattle.std.proofs.lemmas.Option.{same_Some}
use Rattle.std.proofs.lemmas.List.Elements.{All-nil, All-head, All-tail}
use Rattle.floor_histories.specs.Words.{Key, GuestShape, interrupt_count, intid_of, is_same_key, key_at}
use Rattle.floor_histories.proofs.GicBase.KeyLemmas.{same_itself}
use Rattle.floor_histories.proofs.GicOpen.KeyLemmas.{irq_other}
use Rattle.floor_histories.specs.Registers.{Candidate, first_of, is_deliverable, is_before, candidates_at}
use Rattle.floor_histories.proofs.GicPrio.FirstLemmas.{first_is, first_there}
use Rattle.floor_histories.specs.Calls.{reached}
use Rattle.floor_histories.specs.Histories.{IdealGuest, irq_at, cpu_at, changed_irq, candidate_at, candidates, IsSound, Ideal, is_home, interface_at, comes_first, keys_in}
use Rattle.law_eager_is_history.specs.Moments.{settled}
use Rattle.law_eager_is_history.proofs.StandLemmas.{standing, only_here}

-- what holds at each place holds of all interrupts
pub all_keys : (shape : GuestShape) (test : Key → Bool) → ((place : ℕ) → place < interrupt_count shape → test (key_at shape place) ≡ true) → IsTrue (list_all test (keys_in shape))
all_keys shape test each = of 0 (interrupt_count shape) (λ place low high. each place (omega (arith, high)))
  where
    of : (a n : ℕ) → ((place : ℕ) → a ≤ place → place < a + n → test (key_at shape place) ≡ true) → IsTrue (list_all test (map (key_at shape) (range_with_len a n)))
    of a zero each = refl
    of a (suc n) each = and_from (test (key_at shape a)) (list_all test (map (key_at shape) (range_with_len (a + 1) n))) (each a (omega arith) (omega arith)) (of (a + 1) n (λ place low high. each place (omega (arith, low)) (omega (arith, high))))

-- what holds of all that is found holds of what is found at a place
at_place : {X : Type 0} (P : X → Type 0) (f : ℕ → Option X) (a n : ℕ) → All P (filter_map f (range_with_len a n)) → (i : ℕ) (x : X) → a ≤ i → i < a + n → f i ≡ Some x → P x
at_place P f a zero all i x low high e = absurd (omega (arith, low, high))
at_place {X = X} P f a (suc n) all i x low high e = elim (cases_eq i a) [
  | inl same ↦ first (f a) (ap f (sym same) ∙ e) all
  | inr differ ↦ at_place P f (a + 1) n (rest (f a) all) i x (omega (arith, low, differ)) (omega (arith, high)) e
]
  where
    more : List X
    more = filter_map f (range_with_len (a + 1) n)

    first : (o : Option X) → o ≡ Some x → All P (cons_option o more) → P x
    first None g all = absurd (cc)
    first (Some y) g all = subst P (same_Some y x g) (All-head P y more all)

    rest : (o : Option X) → All P (cons_option o more) → All P more
    rest None all = all
    rest (Some y) all = All-tail P y more all

-- an interrupt as a candidate
abbrev one_of : IdealGuest → Key → Candidate
one_of guest key = record { id = intid_of key; prio = (irq_at guest key).prio; group = (irq_at guest key).group }

candidate_there : (guest : IdealGuest) (vcpu place : ℕ) → is_deliverable (key_at guest.shape place) (irq_at guest (key_at guest.shape place)) vcpu (cpu_at guest vcpu) guest.shape ≡ true → candidate_at guest vcpu place ≡ Some (one_of guest (key_at guest.shape place))
candidate_there guest vcpu place e = ap (λ b. cond b (Some (one_of guest (key_at guest.shape place))) None) e

-- where nothing is deliverable, nothing comes first
no_candidates : (cs : List Candidate) → first_of cs ≡ None → cs ≡ []
no_candidates [] e = refl
no_candidates (c ∷ cs) e = absurd (never (first_of (c ∷ cs)) e (first_there (c ∷ cs) (λ h. cc)))
  where
    never : (o : Option Candidate) → o ≡ None → IsSome o → ⊥
    never None e h = true≢false (sym h)
    never (Some x) e h = cc

none_first : (a b c : Bool) → b ≡ false → (a && b && c) ≡ false
none_first true b c h = ap (λ x. x && c) h
none_first false b c h = refl

last_first : (a b c : Bool) → (b ≡ true → c ≡ false) → (a && b && c) ≡ false
last_first true true c h = h refl
last_first true false c h = refl
last_first false b c h = refl

pub none_comes : (guest : IdealGuest) (vcpu : ℕ) → first_of (candidates guest vcpu) ≡ None → (place : ℕ) → place < interrupt_count guest.shape → comes_first (settled guest) vcpu (key_at guest.shape place) ≡ false
none_comes guest vcpu none place within =
    let key = key_at guest.shape place in
    let count = interrupt_count guest.shape in
    let nobody : All (λ (c : Candidate). ⊥) (candidates guest vcpu) = subst (All (λ (c : Candidate). ⊥)) (sym (no_candidates (candidates guest vcpu) none)) (All-nil (λ (c : Candidate). ⊥)) in
    none_first (is_home (settled guest) key) (is_deliverable key (irq_at guest key) vcpu (cpu_at guest vcpu) guest.shape) (option_map_or (is_before (one_of guest key)) (first_of (candidates_at (interface_at (settled guest) vcpu))) true)
    (of (is_deliverable key (irq_at guest key) vcpu (cpu_at guest vcpu) guest.shape) refl
    (λ e. at_place (λ (c : Candidate). ⊥) (candidate_at guest vcpu) 0 count nobody place (one_of guest key) (omega arith) (omega (arith, within)) (candidate_there guest vcpu place e)))
  where
    of : (b : Bool) → is_deliverable (key_at guest.shape place) (irq_at guest (key_at guest.shape place)) vcpu (cpu_at guest vcpu) guest.shape ≡ b → (is_deliverable (key_at guest.shape place) (irq_at guest (key_at guest.shape place)) vcpu (cpu_at guest vcpu) guest.shape ≡ true → ⊥) → b ≡ false
    of true e f = absurd (f e)
    of false e f = refl

-- where the first stands at the interface, nothing comes before it
module _ (guest : IdealGuest) (sound : IsSound guest) (vcpu : ℕ) (there : vcpu < guest.shape.vcpus) (key : Key) (found : Candidate) (first : first_of (candidates guest vcpu) ≡ Some found) where
  abbrev reached_guest : IdealGuest
  reached_guest = changed_irq key (λ before. (reached before).irq) guest

  abbrev here : Ideal
  here = standing guest.shape.vcpus vcpu reached_guest ((record { key = key; entry = (reached (irq_at guest key)).entry }) ∷ [])

  pub none_before : first_of (candidates_at (interface_at here vcpu)) ≡ Some found → (place : ℕ) → place < interrupt_count guest.shape → comes_first here vcpu (key_at guest.shape place) ≡ false
  none_before shows place within = of (is_home here other) refl
    where
      other : Key
      other = key_at guest.shape place

      of : (b : Bool) → is_home here other ≡ b → comes_first here vcpu other ≡ false
      of false e = ap (λ a. a && is_deliverable other (irq_at reached_guest other) vcpu (cpu_at guest vcpu) guest.shape && option_map_or (is_before (one_of reached_guest other)) (first_of (candidates_at (interface_at here vcpu))) true) e
      of true e =
          let apart : is_same_key key other ≡ false = only_here guest.shape.vcpus vcpu reached_guest key other (reached (irq_at guest key)).entry e there in
          let differ : key ≢ other = λ same. true≢false (sym (same_itself key) ∙ ap (is_same_key key) same ∙ apart) in
          let same : irq_at reached_guest other ≡ irq_at guest other = irq_other guest.shape key other (reached (irq_at guest key)).irq guest.irqs sound.shape differ in
          last_first (is_home here other) (is_deliverable other (irq_at reached_guest other) vcpu (cpu_at guest vcpu) guest.shape) (option_map_or (is_before (one_of reached_guest other)) (first_of (candidates_at (interface_at here vcpu))) true)
          (λ deliverable.
          ap (λ o. option_map_or (is_before (one_of reached_guest other)) o true) shows
          ∙ ap (λ irq. is_before (record { id = intid_of other; prio = irq.prio; group = irq.group }) found) same
          ∙ at_place (λ c. is_before c found ≡ false) (candidate_at guest vcpu) 0 (interrupt_count guest.shape) (first_is (candidates guest vcpu) found first).least place (one_of guest other) (omega arith) (omega (arith, within))
          (candidate_there guest vcpu place (ap (λ irq. is_deliverable other irq vcpu (cpu_at guest vcpu) guest.shape) (sym same) ∙ deliverable)))
