-- Numbers that are outside of their ranges, and presets of what a guest does not have (own choice).
use Rattle.std.specs.Prelude.{ℕ, ◌%◌, ◌&&◌, ◌||◌, ◌==◌, List, [], ◌∷◌, length, Bool, true, false, nat_lt, nat_le, if◌then◌else◌, Option, Some, None, option_and_then, unwrap_or, codes}
use Rattle.serde_json.specs.Data.{Data}
use Rattle.gic_host.specs.ScnRead.JsonField.Field.{number_at, flag_or, list_at}
use Rattle.gic_host.specs.ScnRead.Guest.{vcpus_of, spis_of, espis_of}
use Rattle.gic_host.specs.ScnRead.Preset.{is_private, id_of, is_spi, written_of}
use Rattle.scn_hint.specs.declared.field.What.{What}
use Rattle.scn_hint.specs.declared.field.What.TheVariants.{OutOfRange, WrongLength, NotEdge, NotThere}
use Rattle.scn_hint.specs.declared.limit.Limit.{Limit}
use Rattle.scn_hint.specs.declared.limit.Multiple.{Multiple}
use Rattle.scn_hint.specs.declared.limit.Multiple.TheVariants.{One, Eight, ThirtyTwo}

-- of what the numbers of a range are multiples
abbrev pub number_of : Multiple → ℕ
number_of One = 1
number_of Eight = 8
number_of ThirtyTwo = 32

-- a number is in a range
abbrev pub fits : Limit → ℕ → Bool
fits limit n = nat_le limit.least n && nat_le n limit.most && n % number_of limit.multiple == 0

abbrev pub range : ℕ → ℕ → Multiple → Limit
range least most multiple = record { least = least; most = most; multiple = multiple }

-- what is told first, or else what is found further on
abbrev pub first_told : Option (List ℕ × What) → Option (List ℕ × What) → Option (List ℕ × What)
first_told (Some told) later = Some told
first_told None later = later

-- a field whose number is outside of its range; the first of some
abbrev pub limit_amiss : List ℕ → Limit → Data → Option (List ℕ × What)
limit_amiss name limit d = option_and_then (λ found. if fits limit found then None else Some (name, OutOfRange found limit)) (number_at name d)

abbrev pub limits_amiss : List (List ℕ × Limit) → Data → Option (List ℕ × What)
limits_amiss [] d = None
limits_amiss (row ∷ rows) d = first_told (limit_amiss row.0 row.1 d) (limits_amiss rows d)

-- a list that is too short or too long
abbrev pub length_amiss : List ℕ → Limit → Data → Option (List ℕ × What)
length_amiss name limit d = option_and_then (λ elements. if fits limit (length elements) then None else Some (name, WrongLength (length elements) limit)) (list_at name d)

-- the ranges of a scenario's numbers, of a guest's and of a preset's
abbrev pub scenario_limits : List (List ℕ × Limit)
scenario_limits = (codes "pes", range 1 8 One) ∷ (codes "lrs", range 1 16 One) ∷ []

abbrev pub guest_limits : List (List ℕ × Limit)
guest_limits =
    (codes "vcpus", range 1 32 One)
    ∷ (codes "spis", range 0 960 ThirtyTwo)
    ∷ (codes "espis", range 0 1024 ThirtyTwo)
    ∷ (codes "devices", range 0 4 One)
    ∷ (codes "lpis", range 0 4096 One)
    ∷ (codes "ram", range 0 262144 Eight)
    ∷ []

abbrev pub preset_limits : List (List ℕ × Limit)
preset_limits = (codes "prio", range 0 248 Eight) ∷ (codes "group", range 0 1 One) ∷ []

-- a scenario with a number, or the length of a list, outside of its range
abbrev pub scenario_limit : Data → Option (List ℕ × What)
scenario_limit d = first_told (limits_amiss scenario_limits d) (first_told (length_amiss (codes "guests") (range 1 4 One) d) (length_amiss (codes "steps") (range 0 100000 One) d))

-- an SGI's preset that is not edge-triggered
abbrev pub edge_amiss : Data → Option (List ℕ × What)
edge_amiss d = if unwrap_or (flag_or (codes "edge") true d) false || nat_le 16 (id_of d) then None else Some (codes "edge", NotEdge)

abbrev pub preset_limit : Data → Option (List ℕ × What)
preset_limit d = first_told (limits_amiss preset_limits d) (edge_amiss d)

-- a preset of a vCPU, or of an interrupt, that its guest does not have
abbrev pub there_amiss : Data → Data → Option (List ℕ × What)
there_amiss guest d =
    let preset = written_of d in
    if nat_lt preset.vcpu (vcpus_of guest)
    then (if nat_lt preset.id 32 || is_spi (spis_of guest) (espis_of guest) preset.id then None else Some (codes "id", NotThere))
    else Some ((if is_private d then codes "vcpu" else codes "to"), NotThere)
