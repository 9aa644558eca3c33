-- The command queue's read side: GITS_CREADR (IHI 0069), with the actor that acts for the ITS (own choice), as fields and as a word.
use Rattle.std.specs.Prelude.{ℕ, ◌≡◌, ◌<◌, ◌+◌, ◌*◌, ◌/◌, ◌%◌, ◌^◌, ◌==◌, ◌&&◌, nat_lt, Bool, if◌then◌else◌, Option, Some, None}
use Rattle.std.specs.Option.{ForSome}
use Rattle.floor_words.specs.Words.{bit_of, has_bit, field_at}
use Rattle.its_cmd.specs.declared.queue.QueueWord.{QueueWord}

-- the bytes of a command: four doublewords (IHI 0069, "The ITS command queue")
abbrev pub command_bytes : ℕ
command_bytes = 32

-- the bytes of a page of the queue (IHI 0069, GITS_CBASER.Size)
abbrev pub page_bytes : ℕ
page_bytes = 4096

-- the bytes of the largest queue: 256 pages (IHI 0069, GITS_CBASER.Size)
abbrev pub max_queue_bytes : ℕ
max_queue_bytes = 1048576

-- actors are numbered below this (own choice)
abbrev pub actors : ℕ
actors = 64

-- what a queue can be: the actor's number fits, and the offset is that of a command in the largest queue
pub record IsQueue (queue : QueueWord) : Type 0 where
  pub actor : ForSome queue.turn (λ actor. actor < actors)
  pub command : queue.offset % command_bytes ≡ 0
  pub within : queue.offset < max_queue_bytes

-- the turn: bit 32 where somebody has it, with the actor's number in bits [38:33]
abbrev pub turn_number : Option ℕ → ℕ
turn_number (Some actor) = 2 ^ 32 + actor * 2 ^ 33
turn_number None = 0

-- the word: Stalled at bit 0 and the offset, whose low five bits are 0, in its place [19:5], as in CREADR, and the turn
abbrev pub packed : QueueWord → ℕ
packed queue = bit_of queue.stalled + queue.offset + turn_number queue.turn

-- the fields of any word
abbrev pub queue_of : ℕ → QueueWord
queue_of word = record {
  turn = if has_bit word 32 then Some (field_at word 33 6) else None;
  offset = field_at word 5 15 * 2 ^ 5;
  stalled = has_bit word 0;
}

-- a word is well formed where each bit that belongs to no field is 0: [4:1], [31:20], and [63:39] where there is a turn or [63:33] where there is none
abbrev pub is_queue_word : ℕ → Bool
is_queue_word word =
    field_at word 1 4 == 0
    && field_at word 20 12 == 0
    && (if has_bit word 32 then word / 2 ^ 39 == 0 else word / 2 ^ 33 == 0)

-- the offset after that of a command: 32 further, and 0 where that is not below the queue's bytes (IHI 0069, "The ITS command queue")
abbrev pub advanced : ℕ → ℕ → ℕ
advanced offset bytes = if nat_lt (offset + command_bytes) bytes then offset + command_bytes else 0
