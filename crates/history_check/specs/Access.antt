-- What an access of a CPU interface leaves of an interrupt that stands there.
use Rattle.std.specs.Prelude.{ℕ, ◌==◌, Option, if◌then◌else◌}
use Rattle.std.specs.Option.{option_map_or}
use Rattle.floor_histories.specs.Words.{intid_of}
use Rattle.floor_histories.specs.Registers.{Candidate, AtInterface, acknowledged_entry, deactivated_entry}
use Rattle.floor_histories.specs.Histories.{Standing, standing_of}

-- after an acknowledge of a candidate, or of none
abbrev pub taken_one : Option Candidate → AtInterface → AtInterface
taken_one taken one = option_map_or (λ found. if intid_of one.key == found.id then acknowledged_entry one else one) taken one

-- after a deactivation of the interrupt with an INTID, or of none
abbrev pub ended_one : Option ℕ → AtInterface → AtInterface
ended_one ended one = option_map_or (λ id. if intid_of one.key == id then deactivated_entry one else one) ended one

-- after both, without its record
abbrev pub accessed_one : Option Candidate → Option ℕ → AtInterface → Standing
accessed_one taken ended one = standing_of (ended_one ended (taken_one taken one))
