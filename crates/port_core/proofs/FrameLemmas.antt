-- What a step leaves of the other words and of the other actors.
use Rattle.std.proofs.Common.{◌≡◌, ◌≢◌, ℕ, ◌<◌, IsTrue, List, length, get_or, set, inl, inr, sym, ap, subst, ◌∙◌}
use Rattle.std.proofs.lemmas.List.{get_or-set_same, get_or-set_other, length-set}
use Rattle.std.proofs.lemmas.Bool.{cases_eq}
use Rattle.core_words.specs.Words.{GuestShape, IsShape}
use Rattle.core_words.specs.Registers.{IsValid as IsValidMaps, Maps}
use Rattle.port_core.specs.declared.local.Local.{Local}
use Rattle.core_words.specs.declared.word_id.WordId.{WordId}
use Rattle.port_core.specs.Known.{known_maps}
use Rattle.core_words.specs.Place.{has_word, place_of_word, word_count}
use Rattle.port_core.specs.Actor.{actor_count}
use Rattle.port_core.specs.Valid.{IsValid, IsLocal, Ties}
use Rattle.port_core.specs.Run.{CoreState, Seat, no_seat, seat_at, word_in, IsSound}
use Rattle.core_words.proofs.PlaceLemmas.{place_of_word_within, word_same}

-- what a step of an actor on a word keeps: the word and the actor's own state are valid and agree, every other actor agrees with the word
-- if it did before, and so does the actor with every other word
pub record Keeps (shape : GuestShape) (actor : ℕ) (before after : Local) (word : WordId) (found left : ℕ) : Type 0 where
  pub valid : IsValid shape word left
  pub local : IsLocal shape actor after
  pub here : Ties shape actor after word left
  pub others : (other : ℕ) (local : Local) → other ≢ actor → Ties shape other local word found → Ties shape other local word left
  pub elsewhere : (w : WordId) (n : ℕ) → w ≢ word → Ties shape actor before w n → Ties shape actor after w n

-- what holds of a word after one changed, and of a seat
pub word_changed :
    (shape : GuestShape) (words : List ℕ) (word w : WordId) (left : ℕ) (P : WordId → ℕ → Type 0) → IsShape shape → length words ≡ word_count shape → IsTrue (has_word shape word) → IsTrue (has_word shape w) → P word left
    → (w ≢ word → P w (get_or words (place_of_word shape w) 0)) → P w (get_or (set words (place_of_word shape word) left) (place_of_word shape w) 0)
word_changed shape words word w left P is each has there here else =
    let at = place_of_word shape word in
    let within : at < length words = subst (λ n. at < n) (sym each) (place_of_word_within shape word is has) in
    elim (cases_eq (place_of_word shape w) at) [
      | inl e ↦ subst (λ v. P v (get_or (set words at left) (place_of_word shape v) 0)) (word_same shape word w is has there (sym e)) (subst (P word) (sym (get_or-set_same words at left 0 within)) here)
      | inr differ ↦ subst (P w) (sym (get_or-set_other words at (place_of_word shape w) left 0 differ)) (else (λ e. differ (ap (place_of_word shape) e)))
    ]

pub seat_changed :
    (seats : List Seat) (actor other : ℕ) (after : Seat) (P : ℕ → Seat → Type 0) → actor < length seats → P actor after → (other ≢ actor → P other (get_or seats other no_seat)) → P other (get_or (set seats actor after) other no_seat)
seat_changed seats actor other after P within here else =
    elim (cases_eq other actor) [
      | inl e ↦ subst (λ n. P n (get_or (set seats actor after) n no_seat)) (sym e) (subst (P actor) (sym (get_or-set_same seats actor after no_seat within)) here)
      | inr differ ↦ subst (P other) (sym (get_or-set_other seats actor other after no_seat differ)) (else differ)
    ]

-- what a step of an actor keeps of the maps: they are valid, and whoever has the ITS knows them
pub record KeepsMaps (shape : GuestShape) (state : CoreState) (actor : ℕ) (after : Seat) (maps : Maps) : Type 0 where
  pub valid : IsValidMaps shape maps
  pub mine : IsTrue after.local.turn → known_maps after.own ≡ maps
  pub others : (other : ℕ) → other ≢ actor → other < actor_count shape → IsTrue (seat_at state other).local.turn → known_maps (seat_at state other).own ≡ maps

pub frame :
    (shape : GuestShape) (state : CoreState) (actor : ℕ) (after : Seat) (word : WordId) (left : ℕ) (maps : Maps) → IsShape shape → IsSound shape state → actor < actor_count shape → IsTrue (has_word shape word)
    → Keeps shape actor (seat_at state actor).local after.local word (word_in shape state word) left → KeepsMaps shape state actor after maps
    → IsSound shape (record { words = set state.words (place_of_word shape word) left; seats = set state.seats actor after; maps = maps })
frame shape state actor after word left maps is sound there has keeps mapped =
    let within : actor < length state.seats = subst (λ n. actor < n) (sym sound.actors) there in
    let words = set state.words (place_of_word shape word) left in
    record {
      places = length-set state.words (place_of_word shape word) left ∙ sound.places;
      actors = length-set state.seats actor after ∙ sound.actors;
      words = λ w h. word_changed shape state.words word w left (IsValid shape) is sound.places has h keeps.valid (λ differ. sound.words w h);
      locals = λ other h. seat_changed state.seats actor other after (λ n seat. IsLocal shape n seat.local) within keeps.local (λ differ. sound.locals other h);
      ties = λ other w h i.
          seat_changed state.seats actor other after (λ n seat. Ties shape n seat.local w (get_or words (place_of_word shape w) 0)) within
          (word_changed shape state.words word w left (Ties shape actor after.local) is sound.places has i keeps.here (λ differ. keeps.elsewhere w (word_in shape state w) differ (sound.ties actor w there i)))
          (λ apart.
          word_changed shape state.words word w left (Ties shape other (seat_at state other).local) is sound.places has i (keeps.others other (seat_at state other).local apart (sound.ties other word h has))
          (λ differ. sound.ties other w h i));
      maps = mapped.valid;
      known = λ other h. seat_changed state.seats actor other after (λ n seat. IsTrue seat.local.turn → known_maps seat.own ≡ maps) within mapped.mine (λ apart. mapped.others other apart h);
    }
