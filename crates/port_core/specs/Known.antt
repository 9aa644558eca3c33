-- What an actor knows of the guest's words by its own steps: each word as its last step on it left it.
use Rattle.std.specs.Prelude.{is_some, ℕ, ◌==◌, ◌||◌, Bool, false, List, [], fold, find, if◌then◌else◌, Option, Some, None, unwrap_or, ◌∷◌, ◌++◌}
use Rattle.std.specs.Option.{option_map_or}
use Rattle.core_words.specs.Words.{Lpi, GuestShape, target_in, irq_of}
use Rattle.core_words.specs.Calls.{place_of_plain, maps_done, Place, View}
use Rattle.core_words.specs.GicCall.declared.event.Place.TheVariants.{Word, Queue as QueuePlace, Ctlr as CtlrPlace, Lpis}
use Rattle.core_words.specs.Registers.{queue_of, Maps}
use Rattle.port_core.specs.declared.run.Made.{Made}
use Rattle.port_core.specs.declared.step.CoreStep.{CoreStep}
use Rattle.port_core.specs.declared.step.CoreStep.TheVariants.{CommandDone}
use Rattle.core_words.specs.declared.word_id.WordId.{WordId}
use Rattle.core_words.specs.declared.word_id.WordId.TheVariants.{Irq, Vcpu, Queue, Ctlr, Plain}
use Rattle.core_words.specs.Forms.{vcpu_of, ctlr_of}
use Rattle.core_words.specs.Place.{place_of_word}
use Rattle.port_core.specs.Step.{word_of}

-- a step was on a word
abbrev pub is_on : GuestShape → ℕ → WordId → Made → Bool
is_on shape actor word made = place_of_word shape (word_of shape actor made.step) == place_of_word shape word

-- the word as the actor's last step on it left it, if it made one
abbrev pub known : GuestShape → ℕ → List Made → WordId → Option ℕ
known shape actor own word = fold (λ last made. if is_on shape actor word made then Some made.left else last) None own

-- the same; 0 of a word on which it made no step
abbrev pub known_word : GuestShape → ℕ → List Made → WordId → ℕ
known_word shape actor own word = unwrap_or (known shape actor own word) 0

-- nothing is mapped
abbrev pub no_maps : Maps
no_maps = record { devices = []; events = []; collections = [] }

-- the maps after a step: those that it took with the ITS, or those that a good command made of the ones before
abbrev pub maps_by_step : Maps → CoreStep → Maps
maps_by_step maps (CommandDone offset stalled (Some words)) = maps_done maps words
maps_by_step maps step = maps

abbrev pub maps_after : Maps → Made → Maps
maps_after maps made = unwrap_or made.tables (maps_by_step maps made.step)

-- the maps of the ITS, as the actor's own steps took them and changed them
abbrev pub known_maps : List Made → Maps
known_maps own = fold maps_after no_maps own

-- the steps of the actor from the one on by which it took the ITS last
abbrev pub since_turn : List Made → List Made
since_turn own = fold (λ kept made. if is_some made.tables then made ∷ [] else kept ++ made ∷ []) [] own

-- a step ends a command
abbrev pub ends_command : CoreStep → Bool
ends_command (CommandDone offset stalled done) = stalled || is_some done
ends_command step = false

-- the steps of the actor's present command: those since its last one ended, or since it took the ITS
abbrev pub since_command : List Made → List Made
since_command own = fold (λ kept made. if is_some made.tables || ends_command made.step then [] else kept ++ made ∷ []) [] own

-- the word as the first of some steps on it found it; 0 where none was on it
abbrev pub first_word : GuestShape → ℕ → List Made → WordId → ℕ
first_word shape actor own word = option_map_or (λ made. made.found) (find (is_on shape actor word) own) 0

-- the guest as the actor that has the ITS knows it: what its steps found or left since it took the ITS; the vCPUs that the LPIs are for as its present
-- command found them first
abbrev pub known_view : GuestShape → ℕ → List Made → View
known_view shape actor own =
    let word = known_word shape actor (since_turn own) in
    record {
      irqs = λ key. irq_of (word (Irq key));
      targets = λ id. target_in (irq_of (first_word shape actor (since_command own) (Irq (Lpi id)))).route shape;
      lpis = λ vcpu. (vcpu_of (word (Vcpu vcpu))).lpis;
      words = λ plain. word (Plain (place_of_plain shape plain));
      enables = (ctlr_of (word Ctlr)).enables;
      is_spreading = is_some (ctlr_of (word Ctlr)).mark;
      offset = (queue_of (word Queue)).offset;
      is_stalled = (queue_of (word Queue)).stalled;
      maps = known_maps own;
    }

-- it knows what is stored at a place since then
abbrev pub is_known : GuestShape → ℕ → List Made → Place → Bool
is_known shape actor own (Word plain) = is_some (known shape actor (since_turn own) (Plain (place_of_plain shape plain)))
is_known shape actor own QueuePlace = is_some (known shape actor (since_turn own) Queue)
is_known shape actor own CtlrPlace = is_some (known shape actor (since_turn own) Ctlr)
is_known shape actor own (Lpis vcpu) = is_some (known shape actor (since_turn own) (Vcpu vcpu))

-- the last step that the actor made
abbrev pub last_made : List Made → Option Made
last_made own = fold (λ last made. Some made) None own
