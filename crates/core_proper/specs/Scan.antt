-- A vCPU's scan (own choice): it takes the words of its index, looks at its candidates, takes interrupts to its interface by what it found, and marks
-- the candidates that are left for its next scan.
use Rattle.std.specs.Prelude.{ℕ, ◌+◌, ◌-◌, ◌==◌, ◌&&◌, ◌||◌, not, Bool, true, false, List, [], ◌∷◌, ◌++◌, filter, find, is_none, if◌then◌else◌, Option, Some, None}
use Rattle.std.specs.List.{list_any, range_with_len, filter_map}
use Rattle.std.specs.Option.{option_map, option_map_or}
use Rattle.floor_histories.specs.Words.{Key, GuestShape, is_same_key, Irq}
use Rattle.floor_lists.specs.Lists.{LrState, Both, Choice, Fill, Offer}
use Rattle.port_core.specs.declared.owed.Cands.{Cands}
use Rattle.port_core.specs.declared.local.Local.{Local}
use Rattle.port_core.specs.declared.step.CoreStep.{CoreStep}
use Rattle.port_core.specs.declared.step.CoreStep.TheVariants.{Look, Claim, Kick, Mark, TakeIndex}
use Rattle.port_core.specs.CoreWords.declared.word_id.WordId.TheVariants.{Irq as IrqWord}
use Rattle.port_core.specs.Local.{is_cand, has_no_cand}
use Rattle.port_core.specs.Place.{index_bit, index_bits, key_of_bit}

-- what a scan takes to the interface: what the plan chooses; in trap mode the first interrupt alone; before an end of interrupt nothing
pub data Purpose : Type 0 where
  planned : Purpose
  trapped : Purpose
  bare : Purpose

-- how far a scan is: there is none; it took so many words of the index; it looks at its candidates, from a bit on, and found these interrupts at no
-- interface and not wanted; or it has these claims and these takes to make, and then marks what is left
pub data Scan : Type 0 where
  idle : Scan
  taking : Purpose → ℕ → Scan
  looking : Purpose → ℕ → List Offer → Scan
  claiming : List Key → List Key → Scan

abbrev pub is_idle : Scan → Bool
is_idle idle = true
is_idle scan = false

-- an interrupt is among some, and these without it
abbrev pub has_key : Key → List Key → Bool
has_key key keys = list_any (is_same_key key) keys

abbrev pub without_key : Key → List Key → List Key
without_key key keys = filter (λ other. not (is_same_key key other)) keys

-- the first candidate of a vCPU from a bit of its index on
abbrev pub next_cand : GuestShape → ℕ → Cands → ℕ → Option Key
next_cand shape vcpu cands from = option_map (key_of_bit shape vcpu) (find (is_cand cands) (range_with_len from (index_bits shape - from)))

-- it is this interrupt
abbrev pub is_next : GuestShape → ℕ → Cands → ℕ → Key → Bool
is_next shape vcpu cands from key = option_map_or (is_same_key key) (next_cand shape vcpu cands from) false

-- an interrupt that was found at no interface and not wanted is offered to the scan
abbrev pub offered : Key → Irq → List Offer
offered key irq = if is_none irq.holder && not irq.want then (record { key = key; irq = irq }) ∷ [] else []

-- the interrupts that a plan chose, and those of them that it chose with State 3
abbrev pub keys_chosen : Fill → List Key
keys_chosen fill = filter_map (option_map (λ choice. choice.key)) fill.choice

abbrev pub is_both : LrState → Bool
is_both Both = true
is_both state = false

abbrev pub key_of_both : Choice → Option Key
key_of_both choice = if is_both choice.entry.state then Some choice.key else None

abbrev pub keys_of_both : Fill → List Key
keys_of_both fill = filter_map (λ place. option_map_or key_of_both place None) fill.choice

-- a scan after one of its steps: a word of the index is taken, an interrupt is found, and one is claimed, or its causes are taken. Where a claim failed
-- there is nothing to take.
abbrev pub word_taken : Scan → Scan
word_taken idle = taking trapped 1
word_taken (taking purpose words) = taking purpose (words + 1)
word_taken scan = scan

abbrev pub scan_looked : GuestShape → Key → Irq → Scan → Scan
scan_looked shape key irq (looking purpose from offers) = looking purpose (index_bit shape key + 1) (offers ++ offered key irq)
scan_looked shape key irq scan = scan

abbrev pub tried : Key → Bool → Scan → Scan
tried key done (claiming claims takes) =
    if has_key key claims then claiming (without_key key claims) (if done then takes else without_key key takes)
    else claiming claims (without_key key takes)
tried key done scan = scan

-- a scan is over once it has nothing to claim, to take or to mark
abbrev pub ended_scan : Local → Scan → Scan
ended_scan local (claiming [] []) = if has_no_cand local then idle else claiming [] []
ended_scan local scan = scan

-- the steps that a vCPU may make while it is so far, besides kicks: the next word, a look at the next candidate, a claim, a take once its claim is made,
-- and at last a mark of a candidate to itself; with no scan in progress, all steps
abbrev pub scan_allows : GuestShape → ℕ → Local → Scan → CoreStep → Bool
scan_allows shape vcpu local idle step = true
scan_allows shape vcpu local (taking purpose words) (TakeIndex word) = word == words
scan_allows shape vcpu local (looking purpose from offers) (Look (IrqWord key)) = is_next shape vcpu local.cands from key
scan_allows shape vcpu local (claiming claims takes) (Claim key seen) = has_key key claims || has_key key takes
scan_allows shape vcpu local (claiming [] []) (Mark key target) = target == vcpu && is_cand local.cands (index_bit shape key)
scan_allows shape vcpu local scan (Kick target) = true
scan_allows shape vcpu local scan step = false
