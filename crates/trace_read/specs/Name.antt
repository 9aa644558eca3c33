-- The names of interrupts and of places in a trace, as texts (own choice): an interrupt's is that of the end lines.
use Rattle.std.specs.Prelude.{ℕ, ◌+◌, ◌*◌, ◌&&◌, ◌==◌, not, List, [], ◌∷◌, length, nat_lt, Bool, true, false, if◌then◌else◌, Option, Some, None, option_map, option_and_then, find, codes}
use Rattle.std.specs.Option.{option_map_or, option_zip}
use Rattle.std.specs.List.{before_first, after_first, position_or_len}
use Rattle.std.specs.Char.{digit_value}
use Rattle.std.specs.Str.{bytes_eq}
use Rattle.scn_read.specs.Narrow.{narrowed}
use Rattle.scn_read.specs.ScnBase.Words.{Key, Private, Spi, Lpi}
use Rattle.floor_calls.specs.GicBase.declared.operation.Kind.{Kind}
use Rattle.floor_calls.specs.GicBase.declared.operation.Kind.TheVariants.{Group, SetEnable, ClearEnable, SetPending, ClearPending, SetActive, ClearActive, Priority, Config, Routing}
use Rattle.trace_read.specs.declared.place.Place.{Place}
use Rattle.trace_read.specs.declared.place.Place.TheVariants.{Ram, Propbaser, Pendbaser, ItsCtlr, Cbaser, Cwriter, Baser0, Baser1, Creadr, Ctlr, Lpis}

-- ---- numbers

-- the value of a decimal digit
abbrev pub digit : ℕ → Option ℕ
digit c = if nat_lt (digit_value c) 10 then Some (digit_value c) else None

-- the number that digits spell after those that spelt `high`
abbrev pub digits : ℕ → List ℕ → Option ℕ
digits high [] = Some high
digits high (c ∷ cs) = option_and_then (λ d. digits (10 * high + d) cs) (digit c)

-- a number is written with a digit at least, and with no zero before another one
abbrev pub is_plain : List ℕ → Bool
is_plain [] = false
is_plain (c ∷ []) = true
is_plain (c ∷ d ∷ cs) = not (c == 48)

-- the number that a text writes, where the greatest one of 32 bits stands for all that are greater, since none of them names anything that is there
abbrev pub plain_number : List ℕ → Option ℕ
plain_number text = if is_plain text then option_map narrowed (digits 0 text) else None

-- ---- texts of two parts

abbrev is_colon : ℕ → Bool
is_colon c = c == 58

-- what stands before the first colon of a text, and after it
abbrev pub halves : List ℕ → Option (List ℕ × List ℕ)
halves text = if nat_lt (position_or_len is_colon text) (length text) then Some (before_first is_colon text, after_first is_colon text) else None

-- ---- interrupts

-- the vCPU that is written behind a v
abbrev pub owner_named : List ℕ → Option ℕ
owner_named [] = None
owner_named (c ∷ cs) = if c == 118 then plain_number cs else None

abbrev private_key : ℕ × ℕ → Key
private_key parts = Private parts.0 parts.1

-- a private interrupt has its vCPU and its INTID in its name
abbrev pub private_named : List ℕ × List ℕ → Option Key
private_named parts = option_map private_key (option_zip (owner_named parts.0) (plain_number parts.1))

-- an INTID from 8192 on is that of an LPI (IHI 0069, "INTIDs")
abbrev pub shared_key : ℕ → Key
shared_key id = if nat_lt id 8192 then Spi id else Lpi id

abbrev pub shared_named : List ℕ → Option Key
shared_named text = option_map shared_key (plain_number text)

-- the interrupt of a name, whether the guest has it or not
abbrev pub key_named : List ℕ → Option Key
key_named text = option_map_or private_named (halves text) (shared_named text)

-- ---- places

-- what a place is called, before its number where there are several
abbrev pub name_of : Place → List ℕ
name_of (Ram index) = codes "ram"
name_of (Propbaser vcpu) = codes "propbaser"
name_of (Pendbaser vcpu) = codes "pendbaser"
name_of ItsCtlr = codes "its_ctlr"
name_of Cbaser = codes "cbaser"
name_of Cwriter = codes "cwriter"
name_of Baser0 = codes "baser0"
name_of Baser1 = codes "baser1"
name_of Creadr = codes "creadr"
name_of Ctlr = codes "ctlr"
name_of (Lpis vcpu) = codes "lpis"

-- the places of which there is one
abbrev pub singles : List Place
singles = ItsCtlr ∷ Cbaser ∷ Cwriter ∷ Baser0 ∷ Baser1 ∷ Creadr ∷ Ctlr ∷ []

-- those with a number
abbrev pub numbered : ℕ → List Place
numbered number = Ram number ∷ Propbaser number ∷ Pendbaser number ∷ Lpis number ∷ []

-- the one of these that is called so
abbrev pub called : List ℕ → List Place → Option Place
called name places = find (λ place. bytes_eq name (name_of place)) places

abbrev pub numbered_named : List ℕ × List ℕ → Option Place
numbered_named parts = option_and_then (λ number. called parts.0 (numbered number)) (plain_number parts.1)

-- the place of a name, whether the guest has it or not
abbrev pub place_named : List ℕ → Option Place
place_named text = option_map_or numbered_named (halves text) (called text singles)

-- a value can be put there; the other places are read alone
abbrev pub is_put : Place → Bool
is_put Creadr = false
is_put Ctlr = false
is_put (Lpis vcpu) = false
is_put place = true

-- ---- parts of interrupts

-- a kind of register is called as the product calls it
abbrev pub kind_name : Kind → List ℕ
kind_name Group = codes "Group"
kind_name SetEnable = codes "SetEnable"
kind_name ClearEnable = codes "ClearEnable"
kind_name SetPending = codes "SetPending"
kind_name ClearPending = codes "ClearPending"
kind_name SetActive = codes "SetActive"
kind_name ClearActive = codes "ClearActive"
kind_name Priority = codes "Priority"
kind_name Config = codes "Config"
kind_name Routing = codes "Routing"

abbrev pub kinds : List Kind
kinds = Group ∷ SetEnable ∷ ClearEnable ∷ SetPending ∷ ClearPending ∷ SetActive ∷ ClearActive ∷ Priority ∷ Config ∷ Routing ∷ []

abbrev pub kind_named : List ℕ → Option Kind
kind_named text = find (λ kind. bytes_eq text (kind_name kind)) kinds
