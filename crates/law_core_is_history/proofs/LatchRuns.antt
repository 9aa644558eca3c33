-- What the words and the interfaces say of latched causes.
use Rattle.std.proofs.Common.{◌≡◌, ℕ, ◌+◌, ◌<◌, ◌&&◌, ◌||◌, zero, suc, Bool, true, false, cond, IsTrue, List, [], ◌∷◌, map, length, find, Option, Some, None, is_some, refl, sym, ap, ◌∙◌, subst, slice_index_or, arith}
use Rattle.std.specs.List.{list_any, range_with_len}
use Rattle.std.proofs.lemmas.Bool.{ltb-true}
use Rattle.law_histories.proofs.IdealGuests.CanOpenLemmas.{openings_can_open}
use Rattle.law_lines_translate.specs.Words.{Key, GuestShape, has_interrupt, is_same_key, Irq, is_number, is_vcpu_or_none, irq_of}
use Rattle.law_lines_translate.specs.Histories.{irq_at, Ideal, opening_course, course_of, opening_guest}
use Rattle.law_histories.specs.Latches.{has_cause, has_cause_there}
use Rattle.law_histories.proofs.LatchLaw.{latches as histories_latch}
use Rattle.law_lines_translate.specs.Core.{AtIrq, Irq as IrqWord, given_back, entry_for, back_of, CoreState, opening, word_in, IsSound, end_of_moments, ideal_of}
use Rattle.law_lines_translate.proofs.PortCore.StepTies.{number_self}
use Rattle.law_core_is_history.specs.Latches.{has_cause_at, has_cause_in, Latches}
use Rattle.law_core_is_history.specs.Related.{IsHeldRelated, Related, locals_of, stands}
use Rattle.law_core_is_history.proofs.HistorySteps.{run_leads}

-- Lists.

any_mapped : {X Y : Type 0} (p : Y → Bool) (f : X → Y) (xs : List X) → list_any p (map f xs) ≡ list_any (λ x. p (f x)) xs
any_mapped p f [] = refl
any_mapped p f (x ∷ xs) = ap (λ b. p (f x) || b) (any_mapped p f xs)

-- a list, by its places
any_placed : {X : Type 0} (p : X → Bool) (q : ℕ → Bool) (d : X) (xs : List X) (from : ℕ) → ((n : ℕ) → n < length xs → p (slice_index_or xs n d) ≡ q (from + n)) → list_any p xs ≡ list_any q (range_with_len from (length xs))
any_placed p q d [] from same = refl
any_placed p q d (x ∷ xs) from same =
    ap (λ b. b || list_any p xs) (same zero (omega arith) ∙ ap q (omega arith))
    ∙ ap (λ b. q from || b) (any_placed p q d xs (from + 1) (λ n l. same (suc n) (omega (arith, l)) ∙ ap q (omega arith)))

-- one that is found passes
any_found : {X : Type 0} (p q : X → Bool) (xs : List X) (x : X) → find p xs ≡ Some x → q x ≡ true → list_any (λ y. p y && q y) xs ≡ true
any_found p q [] x found h = absurd (cc)
any_found p q (y ∷ ys) x found h = of (p y) refl found (any_found p q ys x)
  where
    of : (b : Bool) → p y ≡ b → cond b (Some y) (find p ys) ≡ Some x → (find p ys ≡ Some x → q x ≡ true → list_any (λ y. p y && q y) ys ≡ true) → ((b && q y) || list_any (λ y. p y && q y) ys) ≡ true
    of true e found later = let same : y ≡ x = cc in ap (λ b. b || list_any (λ y. p y && q y) ys) (ap q same ∙ h)
    of false e found later = later found h

any_in_range : (q : ℕ → Bool) (count from n : ℕ) → n < count → q (from + n) ≡ true → list_any q (range_with_len from count) ≡ true
any_in_range q zero from n l h = absurd (omega (arith, l))
any_in_range q (suc count) from zero l h = ap (λ b. b || list_any q (range_with_len (from + 1) count)) (ap q (omega arith) ∙ h)
any_in_range q (suc count) from (suc n) l h = or_later (q from) (list_any q (range_with_len (from + 1) count)) (any_in_range q count (from + 1) n (omega (arith, l)) (ap q (omega arith) ∙ h))
  where
    or_later : (a b : Bool) → b ≡ true → (a || b) ≡ true
    or_later true b h = refl
    or_later false b h = h

module _ (shape : GuestShape) (state : CoreState) (ideal : Ideal) (key : Key) (sound : IsSound shape state) (related : Related shape state ideal) (there : IsTrue (has_interrupt shape key)) where
  -- the interfaces
  same_there : list_any (list_any (has_cause_there key)) ideal.at ≡ list_any (has_cause_at state key) (range_with_len 0 shape.vcpus)
  same_there =
      any_placed (list_any (has_cause_there key)) (has_cause_at state key) [] ideal.at 0
      (λ vcpu l. ap (list_any (has_cause_there key)) (related.seats vcpu (subst (λ n. vcpu < n) related.at_each l)).at ∙ any_mapped (has_cause_there key) stands (locals_of state vcpu).at ∙ ap (has_cause_at state key) (omega arith))
      ∙ ap (λ n. list_any (has_cause_at state key) (range_with_len 0 n)) related.at_each

  -- what was given back is still at the interface
  absorbed : (a b c d any : Bool) → ((c || d) ≡ true → any ≡ true) → ((a || c) || (b || d) || any) ≡ (a || b || any)
  absorbed true b c d any h = refl
  absorbed false true c d any h = of c d
    where
      of : (c d : Bool) → (c || true || any) ≡ true
      of true d = refl
      of false d = refl
  absorbed false false true d any h = sym (h refl)
  absorbed false false false true any h = sym (h refl)
  absorbed false false false false any h = refl

  any : Bool
  any = list_any (has_cause_at state key) (range_with_len 0 shape.vcpus)

  held_same : (vcpu : ℕ) (at : AtIrq) (word irq : Irq) → vcpu < shape.vcpus → entry_for key (locals_of state vcpu).at ≡ Some at → IsHeldRelated vcpu at word irq
      → (word.rise || word.soft || list_any (has_cause_at state key) (range_with_len 0 shape.vcpus)) ≡ (irq.rise || irq.soft || list_any (has_cause_at state key) (range_with_len 0 shape.vcpus))
  held_same vcpu at word irq few found says =
      ap (λ (i : Irq). i.rise || i.soft || list_any (has_cause_at state key) (range_with_len 0 shape.vcpus)) says.word_is ∙ of at.given
    where
      of : (b : Bool) → let now : Irq = cond b (given_back vcpu (back_of at) irq) irq in (now.rise || now.soft || list_any (has_cause_at state key) (range_with_len 0 shape.vcpus)) ≡ (irq.rise || irq.soft || list_any (has_cause_at state key) (range_with_len 0 shape.vcpus))
      of true = absorbed irq.rise irq.soft at.rise at.soft (list_any (has_cause_at state key) (range_with_len 0 shape.vcpus))
          (λ h. any_in_range (has_cause_at state key) shape.vcpus 0 vcpu few (ap (has_cause_at state key) (omega arith) ∙ any_found (λ (one : AtIrq). is_same_key one.key key) (λ (one : AtIrq). one.rise || one.soft) (locals_of state vcpu).at at found h))
      of false = refl

  pub causes_same : has_cause_in shape state key ≡ has_cause ideal key
  causes_same = of (irq_of (word_in shape state (IrqWord key))).holder refl ∙ ap (λ b. (irq_at ideal.guest key).rise || (irq_at ideal.guest key).soft || b) (sym same_there)
    where
      held_by : (vcpu : ℕ) → vcpu < shape.vcpus → (irq_of (word_in shape state (IrqWord key))).holder ≡ Some vcpu → (o : Option AtIrq) → entry_for key (locals_of state vcpu).at ≡ o → true ≡ is_some o
          → has_cause_in shape state key ≡ ((irq_at ideal.guest key).rise || (irq_at ideal.guest key).soft || list_any (has_cause_at state key) (range_with_len 0 shape.vcpus))
      held_by vcpu few h None e has = absurd (cc)
      held_by vcpu few h (Some at) e has = held_same vcpu at (irq_of (word_in shape state (IrqWord key))) (irq_at ideal.guest key) few e ((related.words (IrqWord key) there).held vcpu h at e)

      of : (o : Option ℕ) → (irq_of (word_in shape state (IrqWord key))).holder ≡ o → has_cause_in shape state key ≡ ((irq_at ideal.guest key).rise || (irq_at ideal.guest key).soft || list_any (has_cause_at state key) (range_with_len 0 shape.vcpus))
      of None e = ap (λ (i : Irq). i.rise || i.soft || list_any (has_cause_at state key) (range_with_len 0 shape.vcpus)) ((related.words (IrqWord key) there).home e)
      of (Some vcpu) e =
          let few : vcpu < shape.vcpus = ltb-true vcpu shape.vcpus (subst (λ o. IsTrue (is_vcpu_or_none shape o)) e (sound.words (IrqWord key) there).irq.holder) in
          held_by vcpu few e (entry_for key (locals_of state vcpu).at) refl (sym (ap (is_number vcpu) e ∙ number_self vcpu) ∙ sound.ties vcpu (IrqWord key) (omega (arith, few)) there)

pub runs_latch : Latches
runs_latch spec number key moments good there parted calls edge =
    let guest = opening_guest spec in
    let leads = run_leads guest number moments (openings_can_open spec good) parted calls in
    let law = histories_latch spec key (ideal_of guest.shape (opening guest number) moments) good there leads.goes edge in
    record {
      there = causes_same guest.shape (end_of_moments guest.shape (opening guest number) moments) (course_of (opening_course guest) (ideal_of guest.shape (opening guest number) moments)).ideal key leads.at.sound leads.at.related there ∙ law.there;
      history = law;
    }
