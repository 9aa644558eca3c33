-- What a step changes of the relation between the core and the ideal controller: one word and its actor's own state, and what the event changes there.
use Rattle.std.proofs.Common.{◌≡◌, ◌≢◌, ℕ, ◌<◌, IsTrue, refl, sym, ap, ◌∙◌, subst, length, slice_index_or, slice_set}
use Rattle.std.specs.Option.{ForSome}
use Rattle.std.proofs.lemmas.List.{get_or-set_same, get_or-set_other}
use Rattle.law_lines_translate.specs.Words.{Key, GuestShape, interrupt_count, IsShape, Irq}
use Rattle.law_lines_translate.specs.Calls.{plain_count}
use Rattle.law_lines_translate.specs.Registers.{Maps}
use Rattle.law_lines_translate.specs.Histories.{Ideal}
use Rattle.law_lines_translate.specs.Core.{Local, WordId, Irq as IrqWord, Vcpu, Queue, Ctlr, Plain, Index, Line, actor_count, entry_for, has_word, place_of_word, CoreState, Seat, no_seat, word_in, IsSound}
use Rattle.law_lines_translate.proofs.PortCore.FrameLemmas.{word_changed, seat_changed}
use Rattle.law_core_is_history.specs.Related.{bare, IsHeldRelated, IsIrqRelated, WordSays, SeatSays, Related, locals_of}

-- what each actor has for itself once one has another state
abbrev pub locals_after : CoreState → ℕ → Seat → ℕ → Local
locals_after state actor seat number = (slice_index_or (slice_set state.seats actor seat) number no_seat).local

module _ (state : CoreState) (actor : ℕ) (seat : Seat) (there : actor < length state.seats) where
  pub local_here : locals_after state actor seat actor ≡ seat.local
  local_here = ap (λ s. s.local) (get_or-set_same state.seats actor seat no_seat there)

  pub local_other : (other : ℕ) → other ≢ actor → locals_after state actor seat other ≡ locals_of state other
  local_other other differ = ap (λ s. s.local) (get_or-set_other state.seats actor other seat no_seat differ)

  -- what is at each interface, where the step moves nothing
  pub at_kept : seat.local.at ≡ (locals_of state actor).at → (other : ℕ) → (locals_after state actor seat other).at ≡ (locals_of state other).at
  at_kept same other = seat_changed state.seats actor other seat (λ n s. s.local.at ≡ (locals_of state n).at) there same (λ differ. refl)

-- a word says the same of actors that have the same at their interfaces
module _ (shape : GuestShape) (before after : ℕ → Local) (same : (actor : ℕ) → (after actor).at ≡ (before actor).at) where
  pub irq_same : (key : Key) (word ideal : Irq) → IsIrqRelated before key word ideal → IsIrqRelated after key word ideal
  irq_same key word ideal related = record {
    home = related.home;
    held = λ vcpu h. subst (λ at. ForSome (entry_for key at) (λ one. IsHeldRelated vcpu one word ideal)) (sym (same vcpu)) (related.held vcpu h);
  }

  pub says_same : (ideal : Ideal) (word : WordId) (n : ℕ) → WordSays shape before ideal word n → WordSays shape after ideal word n
  says_same ideal (IrqWord key) n says = irq_same key _ _ says
  says_same ideal (Vcpu vcpu) n says = says
  says_same ideal Queue n says = says
  says_same ideal Ctlr n says = says
  says_same ideal (Plain index) n says = says
  says_same ideal (Index vcpu number) n says = says
  says_same ideal (Line number) n says = says

-- a word with the same record but for who waits says the same
pub irq_bare : (locals : ℕ → Local) (key : Key) (before after ideal : Irq) → bare after ≡ bare before → after.holder ≡ before.holder → IsIrqRelated locals key before ideal → IsIrqRelated locals key after ideal
irq_bare locals key before after ideal same holder related = record {
  home = λ h. same ∙ related.home (sym holder ∙ h);
  held = λ vcpu h at e. let says = related.held vcpu (sym holder ∙ h) at e in record { word_is = same ∙ says.word_is; prio = says.prio; group = says.group };
}

-- what a step of an actor on a word, and the event that it stands for, keep of the relation
pub record KeepsRelated (shape : GuestShape) (state : CoreState) (ideal after : Ideal) (actor : ℕ) (seat : Seat) (word : WordId) (left : ℕ) : Type 0 where
  pub here : WordSays shape (locals_after state actor seat) after word left
  pub elsewhere : (w : WordId) (n : ℕ) → w ≢ word → IsTrue (has_word shape w) → WordSays shape (locals_of state) ideal w n → WordSays shape (locals_after state actor seat) after w n
  pub mine : actor < shape.vcpus → SeatSays after actor seat.local
  pub others : (vcpu : ℕ) (local : Local) → vcpu ≢ actor → vcpu < shape.vcpus → SeatSays ideal vcpu local → SeatSays after vcpu local

-- a guest has a place for each record and word
pub record HasPlaces (shape : GuestShape) (ideal : Ideal) : Type 0 where
  pub shape_is : ideal.guest.shape ≡ shape
  pub irqs : length ideal.guest.irqs ≡ interrupt_count shape
  pub cpus : length ideal.guest.cpus ≡ shape.vcpus
  pub words : length ideal.guest.words ≡ plain_count shape
  pub at : length ideal.at ≡ shape.vcpus

pub places_of : (shape : GuestShape) (state : CoreState) (ideal : Ideal) → Related shape state ideal → HasPlaces shape ideal
places_of shape state ideal related = record { shape_is = related.shape_is; irqs = related.irqs_each; cpus = related.cpus_each; words = related.words_each; at = related.at_each }

-- the same of the words as they are
pub record KeepsWords (shape : GuestShape) (state : CoreState) (ideal after : Ideal) (actor : ℕ) (seat : Seat) (word : WordId) (left : ℕ) : Type 0 where
  pub here : WordSays shape (locals_after state actor seat) after word left
  pub elsewhere : (w : WordId) → w ≢ word → IsTrue (has_word shape w) → WordSays shape (locals_of state) ideal w (word_in shape state w) → WordSays shape (locals_after state actor seat) after w (word_in shape state w)
  pub mine : actor < shape.vcpus → SeatSays after actor seat.local
  pub others : (vcpu : ℕ) (local : Local) → vcpu ≢ actor → vcpu < shape.vcpus → SeatSays ideal vcpu local → SeatSays after vcpu local

pub frame_of_words :
    (shape : GuestShape) (state : CoreState) (ideal after : Ideal) (actor : ℕ) (seat : Seat) (word : WordId) (left : ℕ) (maps : Maps) → IsShape shape → IsSound shape state → Related shape state ideal → actor < actor_count shape
    → IsTrue (has_word shape word) → KeepsWords shape state ideal after actor seat word left → after.guest.tables ≡ maps → HasPlaces shape after
    → Related shape (record { words = slice_set state.words (place_of_word shape word) left; seats = slice_set state.seats actor seat; maps = maps }) after
frame_of_words shape state ideal after actor seat word left maps is sound related there has keeps mapped places =
    let within : actor < length state.seats = subst (λ n. actor < n) (sym sound.actors) there in
    record {
      shape_is = places.shape_is;
      words = λ w h. word_changed shape state.words word w left (WordSays shape (locals_after state actor seat) after) is sound.places has h keeps.here (λ differ. keeps.elsewhere w differ h (related.words w h));
      seats = λ vcpu l. seat_changed state.seats actor vcpu seat (λ n s. n < shape.vcpus → SeatSays after n s.local) within keeps.mine (λ differ l. keeps.others vcpu (locals_of state vcpu) differ l (related.seats vcpu l)) l;
      maps = mapped;
      irqs_each = places.irqs;
      cpus_each = places.cpus;
      words_each = places.words;
      at_each = places.at;
    }

pub frame :
    (shape : GuestShape) (state : CoreState) (ideal after : Ideal) (actor : ℕ) (seat : Seat) (word : WordId) (left : ℕ) (maps : Maps) → IsShape shape → IsSound shape state → Related shape state ideal → actor < actor_count shape
    → IsTrue (has_word shape word) → KeepsRelated shape state ideal after actor seat word left → after.guest.tables ≡ maps → HasPlaces shape after
    → Related shape (record { words = slice_set state.words (place_of_word shape word) left; seats = slice_set state.seats actor seat; maps = maps }) after
frame shape state ideal after actor seat word left maps is sound related there has keeps mapped places =
    frame_of_words shape state ideal after actor seat word left maps is sound related there has
    (record { here = keeps.here; elsewhere = λ w differ h says. keeps.elsewhere w (word_in shape state w) differ h says; mine = keeps.mine; others = keeps.others }) mapped places

-- A step that changes nothing of what the ideal controller has: nothing moves, the record of the CPU interface stays but for EnableLPIs, and what the word
-- says stays.
pub record IsQuiet (shape : GuestShape) (state : CoreState) (ideal : Ideal) (actor : ℕ) (local : Local) (word : WordId) (left : ℕ) : Type 0 where
  pub says : WordSays shape (locals_of state) ideal word left
  pub at : local.at ≡ (locals_of state actor).at
  pub mine : actor < shape.vcpus → SeatSays ideal actor local

pub quiet :
    (shape : GuestShape) (state : CoreState) (ideal : Ideal) (actor : ℕ) (seat : Seat) (word : WordId) (left : ℕ) → IsShape shape → IsSound shape state → Related shape state ideal → actor < actor_count shape
    → IsTrue (has_word shape word) → IsQuiet shape state ideal actor seat.local word left
    → Related shape (record { words = slice_set state.words (place_of_word shape word) left; seats = slice_set state.seats actor seat; maps = state.maps }) ideal
quiet shape state ideal actor seat word left is sound related there has step =
    let within : actor < length state.seats = subst (λ n. actor < n) (sym sound.actors) there in
    let same = says_same shape (locals_of state) (locals_after state actor seat) (at_kept state actor seat within step.at) ideal in
    frame shape state ideal ideal actor seat word left state.maps is sound related there has
    (record { here = same word left step.says; elsewhere = λ w n differ h says. same w n says; mine = step.mine; others = λ vcpu local differ l says. says })
    related.maps (places_of shape state ideal related)
