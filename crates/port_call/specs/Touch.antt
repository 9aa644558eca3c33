-- An actor touches an interrupt, and asks the vCPU that holds it for it (own choice).
use Rattle.std.specs.Prelude.{◌≡◌, ◌≢◌, ◌⊎◌, ℕ, ◌++◌, true, IsTrue, List, [], ◌∷◌, Some, None}
use Rattle.floor_core.specs.Words.{Key, irq_of}
use Rattle.floor_core.specs.Calls.{Touch as TouchEvent, Touching}
use Rattle.floor_core.specs.Core.{Made, Look, Touch, Want, Kick, Irq, without_vcpu, Seen, Adds, AddsStep, part_events, shape_of, found_record, IsIrqWord, changes_lpi, has_all_shut}
use Rattle.port_call.specs.declared.touching.Missed.{Missed}
use Rattle.port_call.specs.declared.touching.Missed.TheVariants.{Held, Changed}
use Rattle.port_call.specs.About.{are_about, IsNamedPiece, IsTry}
use Rattle.port_call.specs.Piece.{steps_of, takes_none}
use Rattle.port_call.specs.Rest.{IsAtEase, StaysAtEase}

-- a touch of this kind may be made: one that changes an LPI while the actor knows all translation lines to be shut
abbrev pub MayChange : Seen → Touching → Type 0
MayChange seen kind = changes_lpi kind ≡ true → IsTrue (has_all_shut seen.local)

-- a look found the interrupt's word so
pub record LooksOnly (key : Key) (word : ℕ) (tried : List Made) : Type 0 where
  pub look : Made
  pub tried_is : tried ≡ look ∷ []
  pub look_is : look.step ≡ Look (Irq key)
  pub found_is : look.found ≡ word

-- a look found nobody that holds it, and the touch after it found the word so, and not as it was looked at
pub record TouchesLate (key : Key) (kind : Touching) (word : ℕ) (tried : List Made) : Type 0 where
  pub look : Made
  pub late : Made
  pub tried_is : tried ≡ look ∷ late ∷ []
  pub look_is : look.step ≡ Look (Irq key)
  pub home : (irq_of look.found).holder ≡ None
  pub late_is : late.step ≡ Touch key look.found kind
  pub found_is : late.found ≡ word
  pub other : word ≢ look.found

-- a vCPU holds it, by the look, or else by the touch: the actor asks for it, and kicks that vCPU
pub record IsHeldMiss (key : Key) (kind : Touching) (holder : ℕ) (part : List Made) : Type 0 where
  pub tried : List Made
  pub asked : List Made
  pub part_is : part ≡ tried ++ asked
  pub word : ℕ
  pub found : LooksOnly key word tried ⊎ TouchesLate key kind word tried
  pub held : (irq_of word).holder ≡ Some holder
  pub asked_is : steps_of asked ≡ Want key ∷ Kick holder ∷ []

-- why a touch was not made, and what was done
pub record IsChangedMiss (key : Key) (kind : Touching) (found : ℕ) (part : List Made) : Type 0 where
  pub late : TouchesLate key kind found part
  pub home : (irq_of found).holder ≡ None

abbrev pub IsMiss : Key → Touching → Missed → List Made → Type 0
IsMiss key kind (Held holder) part = IsHeldMiss key kind holder part
IsMiss key kind (Changed found) part = IsChangedMiss key kind found part

-- an actor asked for an interrupt that a vCPU holds, and kicked that
pub record Asks (old new : Seen) (key : Key) (holder : ℕ) : Type 0 where
  pub part : List Made
  pub adds : Adds old new part
  pub steps_are : steps_of part ≡ Want key ∷ Kick holder ∷ []
  pub local_is : new.local ≡ record old.local { owes = without_vcpu old.local.owes holder }
  pub none_taken : IsTrue (takes_none part)
  pub silent : part_events old part ≡ []
  pub try : IsTry old key part

-- an actor tried to touch an interrupt, and did not: nothing of it changed but that it is asked for where it is held, and no event is to be seen of it
pub record Tries (old new : Seen) (key : Key) : Type 0 where
  pub part : List Made
  pub adds : Adds old new part
  pub about : IsTrue (are_about key part)
  pub local_is : new.local ≡ old.local
  pub none_taken : IsTrue (takes_none part)
  pub silent : part_events old part ≡ []
  pub try : IsTry old key part

pub record MissesTouch (old new : Seen) (key : Key) (kind : Touching) (missed : Missed) : Type 0 where
  pub tries : Tries old new key
  pub miss : IsMiss key kind missed tries.part

-- an actor touched an interrupt, maybe after tries, and sent what it owed for it: the record that it found is to be seen of it, and it has for itself what it had
pub record Touches (old new : Seen) (key : Key) (kind : Touching) (found : ℕ) : Type 0 where
  pub misses : List Made
  pub touch : Made
  pub sent : List Made
  pub adds : Adds old new (misses ++ touch ∷ sent)
  pub about : IsTrue (are_about key (misses ++ touch ∷ sent))
  pub touch_is : touch.step ≡ Touch key found kind
  pub found_is : touch.found ≡ found
  pub home : (irq_of found).holder ≡ None
  pub local_is : StaysAtEase old.local new.local
  pub none_taken : IsTrue (takes_none (misses ++ touch ∷ sent))
  pub events : part_events old (misses ++ touch ∷ sent) ≡ (record { event = TouchEvent key kind; found = found_record found }) ∷ []
  pub piece : IsNamedPiece old key (misses ++ touch ∷ sent)

-- The two steps of a try, where nothing comes between.

-- an actor looked at an interrupt, and found it by this word, which nobody holds
pub record FindsHome (old new : Seen) (key : Key) (word : ℕ) : Type 0 where
  pub look : AddsStep old new (Look (Irq key)) word
  pub word_is : IsIrqWord (shape_of old) key word
  pub home : (irq_of word).holder ≡ None

-- that look is the last step of an actor that owed nothing before it
pub record HasFoundHome (seen : Seen) (key : Key) (word : ℕ) : Type 0 where
  pub before : Seen
  pub ease : IsAtEase before.local
  pub finds : FindsHome before seen key word

-- with the look it is a touch; or a touch that was not made
abbrev pub TouchesHome : Seen → Seen → Key → Touching → ℕ → Type 0
TouchesHome looked new key kind word = (old : Seen) → IsAtEase old.local → FindsHome old looked key word → Touches old new key kind word

abbrev pub MissesHome : Seen → Seen → Key → Touching → ℕ → Missed → Type 0
MissesHome looked new key kind word missed = (old : Seen) → IsAtEase old.local → FindsHome old looked key word → MissesTouch old new key kind missed
