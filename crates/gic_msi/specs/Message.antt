-- Messages and their translation lines (own choice: IHI 0069 lets an ITS keep what its tables say, and leaves open how).
use Rattle.std.specs.Prelude.{ℕ, ◌+◌, ◌*◌, ◌%◌, ◌==◌, ◌&&◌, Bool, false, nat_lt}
use Rattle.std.specs.Option.{option_map_or}
use Rattle.dev_port.specs.Core.{line_of}

-- a line keeps a DeviceID and an EventID below 65536
abbrev pub is_short_message : ℕ → ℕ → Bool
is_short_message device event = nat_lt device 65536 && nat_lt event 65536

-- which of the 64 lines a message has
abbrev pub line_of_message : ℕ → ℕ → ℕ
line_of_message device event = (31 * device + event) % 64

-- a line's word has the message
abbrev pub has_message : ℕ → ℕ → ℕ → Bool
has_message device event word = option_map_or (λ pair. pair.0 == device && pair.1 == event) (line_of word).pair false
