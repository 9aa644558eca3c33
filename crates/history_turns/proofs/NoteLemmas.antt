-- What a call notes further on.
use Rattle.std.proofs.Common.{◌≡◌, ℕ, zero, suc, ◌+◌, ◌<◌, ◌≤◌, not, nat_lt, Bool, true, false, cond, List, [], ◌∷◌, ◌++◌, fold, Option, Some, None, refl, sym, ap, ◌∙◌, subst, arith, append_assoc, append-nil}
use Rattle.std.specs.List.{cons_option, filter_map, range_with_len}
use Rattle.std.proofs.lemmas.Grind.{common_steps}
use Rattle.history_turns.specs.Words.{Lpi}
use Rattle.history_turns.specs.Calls.{Event, Reach, Take, Leave, Happened, is_beside, named_of}
use Rattle.history_turns.specs.GicCall.declared.event.Event.TheVariants.{Read}
use Rattle.history_turns.specs.Histories.{Ideal, Call, made, seeing, noted as noted_by, is_passed, is_ahead, come_to, targets_in}
use Rattle.history_turns.specs.LegalLists.Legal.{Note, Made, Sees, noting}
use Rattle.history_commands.proofs.CourseLemmas.{noted_piece}
use Rattle.history_commands.proofs.ExactLaw.{events_in}
use Rattle.history_turns.proofs.RiseLemmas.{touch_of, touch_if}
use Rattle.history_turns.proofs.RisingLemmas.{event_head, event_tail}

abbrev pub events_noted : List Note → List Happened
events_noted [] = []
events_noted (Made signals ideal event found ∷ notes) = (record { event = event; found = found }) ∷ events_noted notes
events_noted (Sees ideal ∷ notes) = events_noted notes

pub noted_all : (call : Call) (notes : List Note) → (fold noting call notes).piece ≡ call.piece ++ events_noted notes
noted_all call [] = sym (append-nil call.piece)
noted_all call (Made signals ideal event found ∷ notes) =
    noted_all (made ideal event found call) notes ∙ ap (λ p. (p ++ (record { event = event; found = found }) ∷ []) ++ events_noted notes) (noted_piece ideal event call)
    ∙ append_assoc call.piece ((record { event = event; found = found }) ∷ []) (events_noted notes)
noted_all call (Sees ideal ∷ notes) = noted_all (seeing ideal call) notes

pub beside_noted : (actor : Option ℕ) (ideal : Ideal) (event : Event) (call : Call) → is_beside actor event ≡ true → noted_by ideal event call ≡ call
beside_noted actor ideal (Read place) call h = refl
beside_noted actor ideal (Reach key vcpu) call h = refl
beside_noted actor ideal (Take key vcpu) call h = refl
beside_noted actor ideal (Leave key vcpu) call h = refl
beside_noted actor ideal event call h = absurd (cc)

-- the next one of some touches in rising order
record IsNextOf (bit : ℕ → Bool) (start : ℕ) (x : Event) (xs : List Event) : Type 0 where
  number : ℕ
  count : ℕ
  low : start ≤ number
  is : x ≡ touch_of number
  rest : xs ≡ filter_map (touch_if bit) (range_with_len (number + 1) count)

next_one : (bit : ℕ → Bool) (start count : ℕ) (x : Event) (xs : List Event) → x ∷ xs ≡ filter_map (touch_if bit) (range_with_len start count) → IsNextOf bit start x xs
next_one bit start zero x xs h = absurd (cc)
next_one bit start (suc count) x xs h = of (bit start) refl (next_one bit (start + 1) count x xs)
  where
    rest : List Event
    rest = filter_map (touch_if bit) (range_with_len (start + 1) count)

    of : (b : Bool) → bit start ≡ b → (x ∷ xs ≡ rest → IsNextOf bit (start + 1) x xs) → IsNextOf bit start x xs
    of true e rec =
        let is : x ∷ xs ≡ touch_of start ∷ rest = h ∙ ap (λ b. cons_option (cond b (Some (touch_of start)) None) rest) e in
        record { number = start; count = count; low = omega arith; is = event_head x (touch_of start) xs rest is; rest = event_tail x (touch_of start) xs rest is }
    of false e rec =
        let next = rec (h ∙ ap (λ b. cons_option (cond b (Some (touch_of start)) None) rest) e) in
        let low = next.low in
        record { number = next.number; count = next.count; low = omega (arith, low); is = next.is; rest = next.rest }

under : (a b : ℕ) → a < b → nat_lt a b ≡ true
under a b h = grind (arith, common_steps, h)

pub not_under : (a b : ℕ) → b ≤ a → nat_lt a b ≡ false
not_under a b h = grind (arith, common_steps, h)

module _ (actor : Option ℕ) (bit : ℕ → Bool) where
  -- for which vCPUs an LPI was that the call has passed stays as it is, while it touches others that are above
  pub kept : (notes : List Note) (call : Call) (here start count : ℕ) → call.place ≡ Some here → here < 8192 + start → events_in (named_of actor (events_noted notes)) ≡ filter_map (touch_if bit) (range_with_len start count) → (id : ℕ) → id < here
      → (fold noting call notes).targets id ≡ call.targets id
  kept [] call here start count place low are id lt = refl
  kept (Sees ideal ∷ notes) call here start count place low are id lt =
      kept notes (seeing ideal call) here start count place low are id lt
      ∙ ap (λ b. cond b (call.targets id) (call.targets id ++ targets_in ideal id ∷ [])) (ap (λ o. is_passed o id) place ∙ under id here lt)
  kept (Made signals ideal event found ∷ notes) call here start count place low are id lt = of (is_beside actor event) refl (kept notes)
    where
      one : Happened
      one = record { event = event; found = found }

      Rec : Type 0
      Rec =
          (call : Call) (here start count : ℕ) → call.place ≡ Some here → here < 8192 + start → events_in (named_of actor (events_noted notes)) ≡ filter_map (touch_if bit) (range_with_len start count) → (id : ℕ) → id < here
          → (fold noting call notes).targets id ≡ call.targets id

      of : (b : Bool) → is_beside actor event ≡ b → Rec → (fold noting (made ideal event found call) notes).targets id ≡ call.targets id
      of true e rec =
          let same = beside_noted actor ideal event call e in
          rec (made ideal event found call) here start count (ap (λ c. c.place) same ∙ place) low (ap (λ b. events_in (cond (not b) (one ∷ named_of actor (events_noted notes)) (named_of actor (events_noted notes)))) (sym e) ∙ are) id lt
          ∙ ap (λ c. c.targets id) same
      of false e rec =
          let all : event ∷ events_in (named_of actor (events_noted notes)) ≡ filter_map (touch_if bit) (range_with_len start count) =
          ap (λ b. events_in (cond (not b) (one ∷ named_of actor (events_noted notes)) (named_of actor (events_noted notes)))) (sym e) ∙ are in
          let next = next_one bit start count event (events_in (named_of actor (events_noted notes))) all in
          let low' = next.low in
          let stays : is_ahead call.place (Lpi (8192 + next.number)) id ≡ false =
          ap (λ o. is_ahead o (Lpi (8192 + next.number)) id) place ∙ not_under (8192 + next.number) id (omega (arith, lt, low, low')) in
          subst (λ x. (fold noting (made ideal x found call) notes).targets id ≡ call.targets id) (sym next.is)
          (rec (made ideal (touch_of next.number) found call) (8192 + next.number) (next.number + 1) next.count (ap (λ o. come_to o (Lpi (8192 + next.number))) place) (omega arith) next.rest id (omega (arith, lt, low, low'))
          ∙ ap (λ b. cond b [] (call.targets id)) stays)
