-- What a step leaves in the core's state: its own word and its actor's seat, and nothing else.
use Rattle.std.proofs.Common.{◌≡◌, ◌≢◌, ℕ, ◌<◌, ◌⊎◌, inl, inr, IsTrue, [], ◌∷◌, ◌++◌, Option, sym, ap, ◌∙◌, subst}
use Rattle.std.proofs.lemmas.Bool.{cases_eq}
use Rattle.std.proofs.lemmas.List.{get_or-set_same}
use Rattle.law_lines_translate.specs.Words.{GuestShape}
use Rattle.law_lines_translate.specs.Registers.{Maps}
use Rattle.law_lines_translate.specs.Core.{CoreStep, WordId, local_after, has_word, place_of_word, CoreState, Seat, no_seat, seat_at, word_in, after, word_of}
use Rattle.law_lines_translate.proofs.PortCore.PlaceLemmas.{word_same}
use Rattle.law_lines_translate.specs.Histories.{Ideal}
use Rattle.law_core_is_history.proofs.KnownSteps.{left_in as known_left, other_in as known_other, seat_other as known_seat}
use Rattle.law_core_is_history.proofs.StepContext.{one, IsStep, has}

module _ {shape : GuestShape} {state : CoreState} {ideal : Ideal} {actor : ℕ} {step : CoreStep} {found left : ℕ} {tables : Option Maps} (is : IsStep shape state ideal actor step found left tables) where
  -- the state after it
  abbrev pub later : CoreState
  later = after shape state (one actor step found left tables)

  -- its word
  pub left_in : word_in shape later (word_of shape actor step) ≡ left
  left_in = known_left shape state (one actor step found left tables) is.good is.sound is.takes

  -- a word of the guest is that one, or stays as it is
  pub word_cases : (w : WordId) → IsTrue (has_word shape w) → ((word_of shape actor step ≡ w) × (word_in shape later w ≡ left)) ⊎ ((word_of shape actor step ≢ w) × (word_in shape later w ≡ word_in shape state w))
  word_cases w there = elim (cases_eq (place_of_word shape w) (place_of_word shape (word_of shape actor step))) [
    | inl same ↦
        (let on : word_of shape actor step ≡ w = sym (word_same shape w (word_of shape actor step) is.good there (has is) same) in
        inl (on, ap (word_in shape later) (sym on) ∙ left_in))
    | inr differ ↦ inr ((λ e. differ (ap (place_of_word shape) (sym e))), known_other shape state (one actor step found left tables) is.good is.sound is.takes w differ)
  ]

  pub word_stays : (w : WordId) → IsTrue (has_word shape w) → word_of shape actor step ≢ w → word_in shape later w ≡ word_in shape state w
  word_stays w there differ = elim (word_cases w there) [ inl here ↦ absurd (differ here.0) | inr apart ↦ apart.1 ]

  -- the actor, and every other one
  pub seat_mine : seat_at later actor ≡ record { local = local_after shape actor (seat_at state actor).local step found; own = (seat_at state actor).own ++ (one actor step found left tables).made ∷ [] }
  seat_mine = get_or-set_same state.seats actor _ no_seat (subst (λ n. actor < n) (sym is.sound.actors) is.takes.actor)

  pub local_mine : (seat_at later actor).local ≡ local_after shape actor (seat_at state actor).local step found
  local_mine = ap (λ (s : Seat). s.local) seat_mine

  pub seat_other : (n : ℕ) → n ≢ actor → seat_at later n ≡ seat_at state n
  seat_other n differ = known_seat shape state (one actor step found left tables) is.good is.sound is.takes n differ
