-- What is kept of every word and of every actor's own state, by every step of every run.
use Rattle.std.specs.Prelude.{◌≡◌, ℕ, ◌+◌, ◌*◌, ◌^◌, ◌<◌, ◌≤◌, ◌||◌, Bool, true, false, IsTrue, List, [], length, filter, All, Option, Some, None, is_none, slice_index_or}
use Rattle.std.specs.Option.{option_map_or, ForSome}
use Rattle.core_words.specs.Words.{Key, Lpi, GuestShape, has_interrupt, is_of_vcpu, is_same_key, has_bit, Irq as IrqRecord, is_number, IsWord, irq_of, IsRecordOf}
use Rattle.core_words.specs.Registers.{HasBinaryPoints, HasLevels, is_queue_word, queue_of}
use Rattle.core_words.specs.Calls.{IsEntryOf}
use Rattle.core_words.specs.IdealGuests.CanOpen.{is_own}
use Rattle.port_core.specs.declared.at_list.AtIrq.{AtIrq}
use Rattle.core_words.specs.declared.line.Entered.{Entered}
use Rattle.port_core.specs.declared.local.Local.{Local}
use Rattle.core_words.specs.declared.word_id.WordId.{WordId}
use Rattle.core_words.specs.declared.word_id.WordId.TheVariants.{Irq, Vcpu, Index, Queue, Ctlr, Plain, Line}
use Rattle.core_words.specs.Forms.{is_vcpu_word, is_ctlr_word, ctlr_of, is_line_word, line_of}
use Rattle.port_core.specs.Local.{is_vcpu, is_at, entry_of, has_no_cand, is_in_line, is_inside}
use Rattle.core_words.specs.Place.{index_bits, line_count}
use Rattle.port_core.specs.Actor.{actor_count}

-- Words.

-- while a vCPU holds an interrupt, it is active by that one or by none
abbrev pub is_active_by_holder : IrqRecord → Bool
is_active_by_holder irq = is_none irq.holder || is_none irq.act_by || option_map_or (λ vcpu. is_number vcpu irq.holder) irq.act_by true

-- an interrupt's word: that of a record that the interrupt can have, held and active by vCPUs that it can get to, and while it is held, active by
-- its holder or by none
pub record IsIrqWord (shape : GuestShape) (key : Key) (word : ℕ) : Type 0 where
  pub word_is : IsWord word
  pub irq : IsRecordOf shape key (irq_of word)
  pub holder : IsTrue (is_own key (irq_of word).holder)
  pub active : IsTrue (is_own key (irq_of word).act_by)
  pub one : IsTrue (is_active_by_holder (irq_of word))

-- the number is that of an actor, or there is none
abbrev pub IsActorOrNone : GuestShape → Option ℕ → Type 0
IsActorOrNone shape actor = ForSome actor (λ number. number < actor_count shape)

-- a word of an index: its bits are those of interrupts
pub record IsIndexWord (shape : GuestShape) (number word : ℕ) : Type 0 where
  pub fits : word < 2 ^ 64
  pub bits : (bit : ℕ) → bit < 64 → IsTrue (has_bit word bit) → 64 * number + bit < index_bits shape

-- a translation line's word: its LPI is one of the guest where it has a message, and the guest has the devices that are in it
pub record IsLineWord (shape : GuestShape) (word : ℕ) : Type 0 where
  pub word_is : IsTrue (is_line_word word)
  pub lpi : ForSome (line_of word).pair (λ pair. IsTrue (has_interrupt shape (Lpi (line_of word).lpi)))
  pub inside : (line_of word).inside < 2 ^ shape.devices

-- what a word can be
abbrev pub IsValid : GuestShape → WordId → ℕ → Type 0
IsValid shape (Irq key) word = IsIrqWord shape key word
IsValid shape (Vcpu vcpu) word = IsTrue (is_vcpu_word word)
IsValid shape (Index vcpu number) word = IsIndexWord shape number word
IsValid shape Queue word = IsTrue (is_queue_word word) × IsActorOrNone shape (queue_of word).turn
IsValid shape Ctlr word = IsTrue (is_ctlr_word word) × IsActorOrNone shape (ctlr_of word).mark
IsValid shape (Plain index) word = word < 2 ^ 64
IsValid shape (Line line) word = IsLineWord shape word

-- An actor's own state.

-- an interrupt at a vCPU's interface: one of the guest that the vCPU can get, with what an interface can have of it
pub record IsAt (shape : GuestShape) (actor : ℕ) (at : AtIrq) : Type 0 where
  pub there : IsTrue (has_interrupt shape at.key)
  pub own : IsTrue (is_of_vcpu actor at.key)
  pub entry : IsEntryOf at.key (entry_of at)

-- an interrupt is at an interface once at most
abbrev pub IsOnce : List AtIrq → Type 0
IsOnce at = (key : Key) → length (filter (λ entry. is_same_key entry.key key) at) ≤ 1

-- a set of the guest's vCPUs
abbrev pub AreVcpus : GuestShape → ℕ → Type 0
AreVcpus shape set = set < 2 ^ shape.vcpus

-- candidates: a word for each 64 bits, whose bits are those of interrupts
pub record AreCands (shape : GuestShape) (words : List ℕ) : Type 0 where
  pub each : length words ≡ 96
  pub bits : (number : ℕ) → number < 96 → IsIndexWord shape number (slice_index_or words number 0)

-- the marks that are owed are of an interrupt of the guest, to vCPUs that it can get to
abbrev pub AreMarksOf : GuestShape → Key → ℕ → Type 0
AreMarksOf shape key set = IsTrue (has_interrupt shape key) × ((vcpu : ℕ) → vcpu < shape.vcpus → IsTrue (has_bit set vcpu) → IsTrue (is_of_vcpu vcpu key))

abbrev pub AreMarks : GuestShape → Option Key → ℕ → Type 0
AreMarks shape None set = set ≡ 0
AreMarks shape (Some key) set = AreMarksOf shape key set

-- no interrupt at an interface, and no candidate
pub record HasNone (local : Local) : Type 0 where
  pub at : local.at ≡ []
  pub cands : IsTrue (has_no_cand local)

-- a device is in a line of the guest, with an LPI of the guest
pub record IsEntered (shape : GuestShape) (entered : Entered) : Type 0 where
  pub there : entered.line < line_count shape
  pub device : entered.pair.0 < 65536
  pub event : entered.pair.1 < 65536
  pub lpi : IsTrue (has_interrupt shape (Lpi entered.lpi))

-- only a vCPU has interrupts at an interface and candidates, and only the actor that has the ITS knows lines to be shut
pub record IsLocal (shape : GuestShape) (actor : ℕ) (local : Local) : Type 0 where
  pub points : HasBinaryPoints local.cpu
  pub levels : HasLevels local.cpu
  pub at : All (IsAt shape actor) local.at
  pub once : IsOnce local.at
  pub room : length local.at ≤ 16
  pub owes : AreVcpus shape local.owes.0
  pub marks_are : AreVcpus shape local.marks.vcpus.0
  pub marks : AreMarks shape local.marks.key local.marks.vcpus.0
  pub cands : AreCands shape local.cands.words
  pub device : is_vcpu shape actor ≡ false → HasNone local
  pub line : ForSome local.line (IsEntered shape)
  pub shut : local.shut < 2 ^ 64
  pub idle : local.turn ≡ false → local.shut ≡ 0

-- What a word and an actor's own state say of each other: who holds an interrupt, who has the ITS, who has the mark of GICD_CTLR, and who is in a line.

abbrev pub Ties : GuestShape → ℕ → Local → WordId → ℕ → Type 0
Ties shape actor local (Irq key) word = is_number actor (irq_of word).holder ≡ is_at key local.at
Ties shape actor local Queue word = is_number actor (queue_of word).turn ≡ local.turn
Ties shape actor local Ctlr word = is_number actor (ctlr_of word).mark ≡ local.ctlr
Ties shape actor local (Line line) word = is_inside shape actor (line_of word) ≡ is_in_line line local
Ties shape actor local word found = Unit {0}

-- what a step may find: a valid word that agrees with the actor's own state
pub record CanFind (shape : GuestShape) (actor : ℕ) (local : Local) (word : WordId) (found : ℕ) : Type 0 where
  pub valid : IsValid shape word found
  pub ties : Ties shape actor local word found
