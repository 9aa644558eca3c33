-- The owner word of a place: a state, and the number of its traveller's next step.
use Rattle.std.specs.Prelude.{ℕ, ◌+◌, ◌*◌, ◌/◌, ◌%◌, ◌==◌, Bool, if◌then◌else◌}
use Rattle.vcpu_shelf.specs.declared.word.TheConstants.{STATES, FREE, TAKEN, FINISHED}

-- the word of a state and a number, and what a word has of each
abbrev pub owner_word : ℕ → ℕ → ℕ
owner_word state next = state + STATES * next

abbrev pub state_in : ℕ → ℕ
state_in word = word % STATES

abbrev pub next_in : ℕ → ℕ
next_in word = word / STATES

-- the place is free: its traveller waits, and has steps to do
abbrev pub is_free : ℕ → Bool
is_free word = state_in word == FREE

-- its traveller is out with one seat
abbrev pub is_taken : ℕ → Bool
is_taken word = state_in word == TAKEN

-- its traveller waits, and is done
abbrev pub is_finished : ℕ → Bool
is_finished word = state_in word == FINISHED

-- the word of a traveller that is put on the shelf
abbrev pub stored_word : Bool → ℕ → ℕ
stored_word done next = owner_word (if done then FINISHED else FREE) next

-- a word once its place is taken: the number stays
abbrev pub taken_word : ℕ → ℕ
taken_word word = owner_word TAKEN (next_in word)
