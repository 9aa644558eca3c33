-- A write of GICR_CTLR that sets EnableLPIs: the LPIs that it makes pending are those of the guest as the call begins.
use Rattle.std.proofs.Common.{◌≡◌, ℕ, ◌<◌, ◌≤◌, ◌+◌, ◌&&◌, ◌||◌, inl, inr, zero, suc, Bool, true, false, cond, IsTrue, All, List, [], ◌∷◌, ◌++◌, Option, Some, None, refl, sym, ap, ◌∙◌, subst, arith}
use Rattle.std.specs.List.{list_all, range_with_len, filter_map, cons_option, flat_map}
use Rattle.std.specs.Option.{option_map_or}
use Rattle.std.proofs.lemmas.Bool.{and_from, cases_eq}
use Rattle.law_home_commutes.specs.Words.{Lpi, SetPending, GuestShape, has_bit, is_number}
use Rattle.law_home_commutes.specs.Registers.{Half, pending_address, part_of, extracted, Part, enable_lpis_after}
use Rattle.law_home_commutes.specs.Calls.{PlainWord, Ram, Pendbaser, Event, Enable, Touch, Place, Register, is_table_zero, lpis_of, is_in_table, pended_at, enable_events, redist_written, Happened, named_of, HandsOut, memory_places, table_places, redist_places, View, memory_at}
use Rattle.law_home_commutes.specs.GicRmap.declared.map.Reg.TheVariants.{Ctlr as RedistCtlr}
use Rattle.law_home_commutes.specs.GicRmap.declared.map.RegRef.TheVariants.{Plain as RedistPlain}
use Rattle.law_home_commutes.specs.GicCall.declared.event.Place.TheVariants.{Word}
use Rattle.law_home_commutes.specs.Histories.{IdealGuest, cpu_at, word_at, view_of}
use Rattle.law_eager_is_history.proofs.EventLemmas.{all_found}
use Rattle.law_lone_calls_are_eager.proofs.NamedLemmas.{named_run, IsIn}
use Rattle.law_lone_calls_are_eager.proofs.PartLemmas.{IsMade}
use Rattle.law_lone_calls_are_eager.proofs.PlainLemmas.{word_held, same_lpis}
use Rattle.law_lone_calls_are_eager.proofs.ReadLemmas.{keeps, all_in}
use Rattle.law_lone_calls_are_eager.proofs.RunLemmas.{events_of, marked, IsHomeRun}

-- Lists.

pub in_left : {X : Type 0} (xs ys : List X) (x : X) → IsIn xs x → IsIn (xs ++ ys) x
in_left [] ys x is = absurd is
in_left (y ∷ xs) ys x (inl e) = inl e
in_left (y ∷ xs) ys x (inr later) = inr (in_left xs ys x later)

pub in_right : {X : Type 0} (xs ys : List X) (x : X) → IsIn ys x → IsIn (xs ++ ys) x
in_right [] ys x is = is
in_right (y ∷ xs) ys x is = inr (in_right xs ys x is)

pub in_flat : {X Y : Type 0} (f : X → List Y) (xs : List X) (x : X) (y : Y) → IsIn xs x → IsIn (f x) y → IsIn (flat_map f xs) y
in_flat f [] x y is at = absurd is
in_flat f (z ∷ xs) x y (inl e) at = in_left (f z) (flat_map f xs) y (subst (λ w. IsIn (f w) y) (sym e) at)
in_flat f (z ∷ xs) x y (inr later) at = in_right (f z) (flat_map f xs) y (in_flat f xs x y later at)

pub in_range : (a n i : ℕ) → a ≤ i → i < a + n → IsIn (range_with_len a n) i
in_range a zero i low high = absurd (omega (arith, low, high))
in_range a (suc n) i low high = elim (cases_eq a i) [
  | inl e ↦ inl e
  | inr differ ↦ inr (in_range (a + 1) n i (omega (arith, low, differ)) (omega (arith, high)))
]

pub found_same : {X : Type 0} (f g : ℕ → Option X) (a n : ℕ) → ((i : ℕ) → a ≤ i → i < a + n → f i ≡ g i) → filter_map f (range_with_len a n) ≡ filter_map g (range_with_len a n)
found_same f g a zero same = refl
found_same f g a (suc n) same =
    ap (λ o. cons_option o (filter_map f (range_with_len (a + 1) n))) (same a (omega arith) (omega arith))
    ∙ ap (cons_option (g a)) (found_same f g (a + 1) n (λ i low high. same i (omega (arith, low)) (omega (arith, high))))

module _ (guest : IdealGuest) (actor : Option ℕ) (view : View) (piece : List Happened) (shape : GuestShape) (vcpu : ℕ) (targets : (id : ℕ) → view.targets id ≡ (view_of guest).targets id) where
  abbrev IsBy : List Event → List Place → Type 0
  IsBy events places = IsMade guest actor view events places piece

  -- EnableLPIs as the call stores it
  enable_first : (rest : List Event) (places : List Place) → IsBy (Enable vcpu ∷ rest) places → view.lpis vcpu ≡ (cpu_at guest vcpu).lpis
  enable_first rest places is = of (named_of actor piece) (named_run false guest actor piece is.run).run is.made.found is.made.events_are
    where
      of : (named : List Happened) → IsHomeRun false guest named → All (λ (h : Happened). HandsOut view h.event h.found) named → events_of named ≡ Enable vcpu ∷ rest → view.lpis vcpu ≡ (cpu_at guest vcpu).lpis
      of [] run found are = absurd (cc)
      of (one ∷ named) run found are =
          let event_is : one.event ≡ Enable vcpu = cc in
          let here : HandsOut view one.event one.found = all_in (λ (h : Happened). HandsOut view h.event h.found) (one ∷ named) one found (inl refl) in
          same_lpis (view.lpis vcpu) (cpu_at guest vcpu).lpis (sym (subst (λ e. HandsOut view e one.found) event_is here) ∙ subst (λ e. HandsOut (marked false guest) e one.found) event_is run.0.hands)

  -- the events keep all words
  abbrev found_with : View → List Event
  found_with by = filter_map (λ number. pended_at shape by vcpu (8192 + number)) (range_with_len 0 shape.lpis)

  abbrev enabled : View → Bool → Bool → List Event
  enabled by on zeros = Enable vcpu ∷ cond (on || zeros) [] (found_with by)

  enabled_keeps : (word : PlainWord) (on zeros : Bool) → IsTrue (list_all (keeps guest.shape (Word word)) (enabled view on zeros))
  enabled_keeps word true zeros = refl
  enabled_keeps word false true = refl
  enabled_keeps word false false = and_from (keeps guest.shape (Word word) (Enable vcpu)) (list_all (keeps guest.shape (Word word)) (found_with view)) refl (all_found (keeps guest.shape (Word word)) (λ number. pended_at shape view vcpu (8192 + number)) 0 shape.lpis (λ i. of i (is_number vcpu (view.targets (8192 + i)) && is_in_table shape view vcpu (8192 + i))))
    where
      of : (i : ℕ) (b : Bool) → IsTrue (option_map_or (keeps guest.shape (Word word)) (cond b (Some (Touch (Lpi (8192 + i)) (Register SetPending 1))) None) true)
      of i true = refl
      of i false = refl

  -- the bit of an LPI in the pending table
  module _ (zeros : Bool) (places : List Place) (is : IsBy (enabled view false zeros) places) where
    memory_in : (address : ℕ) → ((place : Place) → IsIn (memory_places shape address 1) place → IsIn places place) → memory_at shape view address 1 ≡ memory_at shape (view_of guest) address 1
    memory_in address among = of (part_of address 1 shape.ram) among
      where
        of : (o : Option Part) → ((place : Place) → IsIn (option_map_or (λ part. Word (Ram part.index) ∷ []) o []) place → IsIn places place)
            → option_map_or (λ part. extracted (view.words (Ram part.index)) part) o 0 ≡ option_map_or (λ part. extracted (word_at guest (Ram part.index)) part) o 0
        of None among = refl
        of (Some part) among = ap (λ n. extracted n part) (word_held guest actor view piece (enabled view false zeros) places is (Ram part.index) (among (Word (Ram part.index)) (inl refl)) (enabled_keeps (Ram part.index) false zeros))

    table_same : (id : ℕ) → view.words (Pendbaser vcpu) ≡ word_at guest (Pendbaser vcpu) → ((place : Place) → IsIn (memory_places shape (pending_address (view.words (Pendbaser vcpu)) id).0 1) place → IsIn places place) → is_in_table shape view vcpu id ≡ is_in_table shape (view_of guest) vcpu id
    table_same id word among =
        ap (λ n. has_bit n (pending_address (view.words (Pendbaser vcpu)) id).1) (memory_in (pending_address (view.words (Pendbaser vcpu)) id).0 among)
        ∙ ap (λ p. has_bit (memory_at shape (view_of guest) (pending_address p id).0 1) (pending_address p id).1) word

    pended_same : (number : ℕ) → view.words (Pendbaser vcpu) ≡ word_at guest (Pendbaser vcpu) → ((place : Place) → IsIn (memory_places shape (pending_address (view.words (Pendbaser vcpu)) (8192 + number)).0 1) place → IsIn places place)
        → pended_at shape view vcpu (8192 + number) ≡ pended_at shape (view_of guest) vcpu (8192 + number)
    pended_same number word among =
        ap (λ t. cond (is_number vcpu t && is_in_table shape view vcpu (8192 + number)) (Some (Touch (Lpi (8192 + number)) (Register SetPending 1))) None) (targets (8192 + number))
        ∙ ap (λ b. cond (is_number vcpu ((view_of guest).targets (8192 + number)) && b) (Some (Touch (Lpi (8192 + number)) (Register SetPending 1))) None) (table_same (8192 + number) word among)

  -- the events
  zeros_same : (zeros : Bool) → is_table_zero (view.words (Pendbaser vcpu)) ≡ zeros → IsBy (enabled view false zeros) (Word (Pendbaser vcpu) ∷ cond zeros [] (flat_map (λ id. memory_places shape (pending_address (view.words (Pendbaser vcpu)) id).0 1) (lpis_of shape)))
      → enabled view false zeros ≡ enabled (view_of guest) false (is_table_zero (word_at guest (Pendbaser vcpu)))
  zeros_same zeros z is = of zeros z is ∙ ap (λ p. enabled (view_of guest) false (is_table_zero p)) (word zeros is)
    where
      word : (b : Bool) → IsBy (enabled view false b) (Word (Pendbaser vcpu) ∷ cond b [] (flat_map (λ id. memory_places shape (pending_address (view.words (Pendbaser vcpu)) id).0 1) (lpis_of shape))) → view.words (Pendbaser vcpu) ≡ word_at guest (Pendbaser vcpu)
      word b is = word_held guest actor view piece (enabled view false b) (Word (Pendbaser vcpu) ∷ cond b [] (flat_map (λ id. memory_places shape (pending_address (view.words (Pendbaser vcpu)) id).0 1) (lpis_of shape))) is (Pendbaser vcpu) (inl refl) (enabled_keeps (Pendbaser vcpu) false b)

      of : (b : Bool) → is_table_zero (view.words (Pendbaser vcpu)) ≡ b → IsBy (enabled view false b) (Word (Pendbaser vcpu) ∷ cond b [] (flat_map (λ id. memory_places shape (pending_address (view.words (Pendbaser vcpu)) id).0 1) (lpis_of shape)))
          → enabled view false b ≡ enabled (view_of guest) false (is_table_zero (view.words (Pendbaser vcpu)))
      of true z is = sym (ap (enabled (view_of guest) false) z)
      of false z is =
          ap (λ events. Enable vcpu ∷ events)
          (found_same (λ number. pended_at shape view vcpu (8192 + number)) (λ number. pended_at shape (view_of guest) vcpu (8192 + number)) 0 shape.lpis
          (λ i low high.
          pended_same false (Word (Pendbaser vcpu) ∷ flat_map (λ id. memory_places shape (pending_address (view.words (Pendbaser vcpu)) id).0 1) (lpis_of shape)) is i (word false is)
          (λ place among.
          inr
          (in_flat (λ id. memory_places shape (pending_address (view.words (Pendbaser vcpu)) id).0 1) (lpis_of shape) (8192 + i) place (in_range 8192 shape.lpis (8192 + i) (omega arith) (omega (arith, high)))
          among))))
          ∙ sym (ap (enabled (view_of guest) false) z)

  pub enable_same : (half : Half) (value : ℕ) → IsBy (redist_written shape view vcpu RedistCtlr half value) (redist_places shape view vcpu (RedistPlain RedistCtlr half) (Some value))
      → redist_written shape view vcpu RedistCtlr half value ≡ redist_written shape (view_of guest) vcpu RedistCtlr half value
  enable_same half value is = of (enable_lpis_after shape false value) is
    where
      on_same : (b : Bool) → view.lpis vcpu ≡ b → IsBy (enabled view b (is_table_zero (view.words (Pendbaser vcpu)))) (cond b [] (table_places shape view vcpu)) → enabled view b (is_table_zero (view.words (Pendbaser vcpu))) ≡ enabled (view_of guest) b (is_table_zero (word_at guest (Pendbaser vcpu)))
      on_same true e is = refl
      on_same false e is = zeros_same (is_table_zero (view.words (Pendbaser vcpu))) refl is

      of : (b : Bool) → IsBy (cond b (enable_events shape view vcpu) []) (cond b (cond (view.lpis vcpu) [] (table_places shape view vcpu)) []) → cond b (enable_events shape view vcpu) [] ≡ cond b (enable_events shape (view_of guest) vcpu) []
      of true is =
          on_same (view.lpis vcpu) refl is
          ∙ ap (λ b. enabled (view_of guest) b (is_table_zero (word_at guest (Pendbaser vcpu)))) (enable_first (cond (view.lpis vcpu || is_table_zero (view.words (Pendbaser vcpu))) [] (found_with view)) (cond (view.lpis vcpu) [] (table_places shape view vcpu)) is)
      of false is = refl
