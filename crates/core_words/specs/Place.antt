-- The words that the actors of a guest share, and their numbering (own choice): first the word of each interrupt in key order, then the queue's,
-- GICD_CTLR's and the plain words; then a block for each vCPU, of whole cache lines, so that no two vCPUs write one line; then, in a guest with LPIs, the
-- translation lines of the ITS, each on a cache line of its own, so that messages of two lines do not meet.
use Rattle.std.specs.Prelude.{ℕ, ◌+◌, ◌-◌, ◌*◌, ◌/◌, ◌%◌, ◌&&◌, ◌==◌, Bool, true, nat_lt, nat_le, if◌then◌else◌, Option, Some, None}
use Rattle.ideal_guest.specs.Words.{Key, Private, Spi, Lpi, GuestShape, has_interrupt, interrupt_count, place_of, key_at}
use Rattle.ideal_guest.specs.Calls.{plain_count}
use Rattle.ideal_guest.specs.Registers.{has_lpis}
use Rattle.core_words.specs.declared.word_id.WordId.{WordId}
use Rattle.core_words.specs.declared.word_id.WordId.TheVariants.{Irq, Vcpu, Index, Queue, Ctlr, Plain, Line}

-- The candidate index: a bit for each interrupt that a vCPU can have at its interface, those private to it by INTID, then the shared ones in key order.

-- how many interrupts come before the extended SPIs in it, and before the LPIs
abbrev pub index_espis_from : GuestShape → ℕ
index_espis_from shape = 32 + shape.spis

abbrev pub index_lpis_from : GuestShape → ℕ
index_lpis_from shape = index_espis_from shape + shape.espis

-- how many bits it has, and how many words of 64 bits
abbrev pub index_bits : GuestShape → ℕ
index_bits shape = index_lpis_from shape + shape.lpis

abbrev pub index_words : GuestShape → ℕ
index_words shape = (index_bits shape + 63) / 64

-- the bit of an interrupt
abbrev pub index_bit : GuestShape → Key → ℕ
index_bit shape (Private vcpu id) = id
index_bit shape (Spi id) = if nat_lt id 4096 then id else index_espis_from shape + (id - 4096)
index_bit shape (Lpi id) = index_lpis_from shape + (id - 8192)

-- the interrupt of a bit of a vCPU's
abbrev pub key_of_bit : GuestShape → ℕ → ℕ → Key
key_of_bit shape vcpu bit =
    if nat_lt bit 32 then Private vcpu bit
    else (if nat_lt bit (index_espis_from shape) then Spi bit
    else (if nat_lt bit (index_lpis_from shape) then Spi (bit - index_espis_from shape + 4096)
    else Lpi (bit - index_lpis_from shape + 8192)))

-- The numbering.

-- a number of words, rounded up to whole cache lines of eight words
abbrev pub whole_lines : ℕ → ℕ
whole_lines words = (words + 7) / 8 * 8

-- where the plain words begin, and the blocks of the vCPUs
abbrev pub plain_from : GuestShape → ℕ
plain_from shape = interrupt_count shape + 2

abbrev pub blocks_from : GuestShape → ℕ
blocks_from shape = whole_lines (plain_from shape + plain_count shape)

-- the words of a vCPU's block: its own, then its index, then none to the end of a line
abbrev pub block_words : GuestShape → ℕ
block_words shape = whole_lines (1 + index_words shape)

abbrev pub block_of : GuestShape → ℕ → ℕ
block_of shape vcpu = blocks_from shape + vcpu * block_words shape

-- how many translation lines the guest has, and where their places begin
abbrev pub line_count : GuestShape → ℕ
line_count shape = if has_lpis shape then 64 else 0

abbrev pub lines_from : GuestShape → ℕ
lines_from shape = block_of shape shape.vcpus

-- how many places there are
abbrev pub word_count : GuestShape → ℕ
word_count shape = lines_from shape + line_count shape * 8

-- the guest has the word
abbrev pub has_word : GuestShape → WordId → Bool
has_word shape (Irq key) = has_interrupt shape key
has_word shape (Vcpu vcpu) = nat_lt vcpu shape.vcpus
has_word shape (Index vcpu word) = nat_lt vcpu shape.vcpus && nat_lt word (index_words shape)
has_word shape Queue = true
has_word shape Ctlr = true
has_word shape (Plain index) = nat_lt index (plain_count shape)
has_word shape (Line line) = nat_lt line (line_count shape)

-- the place of a word
abbrev pub place_of_word : GuestShape → WordId → ℕ
place_of_word shape (Irq key) = place_of shape key
place_of_word shape Queue = interrupt_count shape
place_of_word shape Ctlr = interrupt_count shape + 1
place_of_word shape (Plain index) = plain_from shape + index
place_of_word shape (Vcpu vcpu) = block_of shape vcpu
place_of_word shape (Index vcpu word) = block_of shape vcpu + (1 + word)
place_of_word shape (Line line) = lines_from shape + line * 8

-- the word at a place in a vCPU's block
abbrev pub word_in_block : GuestShape → ℕ → ℕ → Option WordId
word_in_block shape vcpu place =
    if place == 0 then Some (Vcpu vcpu)
    else (if nat_le place (index_words shape) then Some (Index vcpu (place - 1))
    else None)

-- the word at a place among the blocks
abbrev pub word_in_blocks : GuestShape → ℕ → Option WordId
word_in_blocks shape place = word_in_block shape (place / block_words shape) (place % block_words shape)

-- the word at a place among the translation lines
abbrev pub word_in_lines : ℕ → Option WordId
word_in_lines place = if place % 8 == 0 then Some (Line (place / 8)) else None

-- the word at a place, if there is one: none where a cache line is filled up
abbrev pub word_at : GuestShape → ℕ → Option WordId
word_at shape place =
    if nat_lt place (interrupt_count shape) then Some (Irq (key_at shape place))
    else (if place == interrupt_count shape then Some Queue
    else (if place == interrupt_count shape + 1 then Some Ctlr
    else (if nat_lt place (plain_from shape + plain_count shape) then Some (Plain (place - plain_from shape))
    else (if nat_lt place (blocks_from shape) then None
    else (if nat_lt place (lines_from shape) then word_in_blocks shape (place - blocks_from shape)
    else word_in_lines (place - lines_from shape))))))
