-- What words ask for (own choice).
use Rattle.std.specs.Prelude.{◌≡◌, ℕ, ◌-◌, ◌^◌, ◌<◌, ◌≤◌, ◌⊎◌, slice_index, length, ◌&&◌, nat_le, zero, suc, List, [], ◌∷◌, map, codes, decimal, String, string_bytes, bytes_eq, Option, Some, None, if◌then◌else◌, ⊤}
use Rattle.std.specs.Str.Parse.{digits_value}
use Rattle.std.specs.declared.alloc.Global.{Global}
use Rattle.gic_top.specs.declared.command.Command.{Command}
use Rattle.gic_top.specs.declared.command.Command.TheVariants.{Run, Threads, Soak, Host, Save, Resume, Check}

-- the number, of at most so much, whose decimal digits a word is: without a sign, and without zeros before them
abbrev pub number_in : ℕ → List ℕ → Option ℕ
number_in most word = let number = digits_value 10 word in if nat_le number most && bytes_eq word (decimal number) then Some number else None

-- none in place of zero
abbrev pub nonzero : Option ℕ → Option ℕ
nonzero None = None
nonzero (Some zero) = None
nonzero (Some (suc less)) = Some (suc less)

-- the number, from 1 to so much, whose decimal digits a word is
abbrev pub count_in : ℕ → List ℕ → Option ℕ
count_in most word = nonzero (number_in most word)

-- a number is 1 to so much
abbrev pub IsCount : ℕ → ℕ → Type 0
IsCount most count = 1 ≤ count × count ≤ most

-- a word begins with a plus, or with a zero before another character
abbrev pub IsPadded : List ℕ → Type 0
IsPadded word = (slice_index word 0 ≡ 43) ⊎ ((slice_index word 0 ≡ 48) × (1 < length word))

-- a command that stands alone, as `run`, `host`, `resume` and `check` do
abbrev pub alone : Command → List (List ℕ) → Option Command
alone command [] = Some command
alone command (argument ∷ arguments) = None

-- both counts of `threads`
abbrev pub threads_of : Option ℕ → Option ℕ → Option Command
threads_of None per_turn = None
threads_of (Some pes) None = None
threads_of (Some pes) (Some per_turn) = Some (Threads pes per_turn)

-- `threads` has 1 to 8 PEs, and 1 to 1000 operations of a vCPU while it is on one
abbrev pub threads_with : List (List ℕ) → Option Command
threads_with [] = None
threads_with (pes ∷ []) = None
threads_with (pes ∷ per_turn ∷ []) = threads_of (count_in 8 pes) (count_in 1000 per_turn)
threads_with (pes ∷ per_turn ∷ argument ∷ arguments) = None

-- both numbers of `soak`
abbrev pub soak_of : Option ℕ → Option ℕ → Option Command
soak_of None steps = None
soak_of (Some number) None = None
soak_of (Some number) (Some steps) = Some (Soak number steps)

-- `soak` has a number below 2^64, and a count of at most 100000 steps
abbrev pub soak_with : List (List ℕ) → Option Command
soak_with [] = None
soak_with (number ∷ []) = None
soak_with (number ∷ steps ∷ []) = soak_of (number_in (2 ^ 64 - 1) number) (number_in 100000 steps)
soak_with (number ∷ steps ∷ argument ∷ arguments) = None

-- the number of `save`
abbrev pub save_of : Option ℕ → Option Command
save_of None = None
save_of (Some steps) = Some (Save steps)

-- `save` has a count of at most 100000 steps
abbrev pub save_with : List (List ℕ) → Option Command
save_with [] = None
save_with (steps ∷ []) = save_of (number_in 100000 steps)
save_with (steps ∷ argument ∷ arguments) = None

-- the command that words are: the first names it, and the others are its arguments
abbrev pub command_of : List (List ℕ) → Option Command
command_of [] = None
command_of (name ∷ arguments) =
    if bytes_eq name (codes "run") then alone Run arguments
    else (if bytes_eq name (codes "threads") then threads_with arguments
    else (if bytes_eq name (codes "soak") then soak_with arguments
    else (if bytes_eq name (codes "host") then alone Host arguments
    else (if bytes_eq name (codes "save") then save_with arguments
    else (if bytes_eq name (codes "resume") then alone Resume arguments
    else (if bytes_eq name (codes "check") then alone Check arguments
    else None))))))

-- the command that the words of a command line are
abbrev pub command_in : List (String Global) → Option Command
command_in words = command_of (map string_bytes words)

-- at most 100000 steps are to be made or done, and a run on threads has 1 to 8 PEs and 1 to 1000 operations of a vCPU while it is on one
abbrev pub IsInBounds : Command → Type 0
IsInBounds Run = ⊤
IsInBounds (Threads pes per_turn) = IsCount 8 pes × IsCount 1000 per_turn
IsInBounds (Soak number steps) = steps ≤ 100000
IsInBounds Host = ⊤
IsInBounds (Save steps) = steps ≤ 100000
IsInBounds Resume = ⊤
IsInBounds Check = ⊤
