-- How many interrupts a scan looks at (own choice).
use Rattle.std.specs.Prelude.{◌≡◌, ℕ, ◌*◌, ◌≤◌, Bool, true, false, List, length, filter, sum_by, slice_index_or}
use Rattle.std.specs.List.{list_all, range_with_len}
use Rattle.port_call.specs.Words.{has_bit}
use Rattle.port_call.specs.Core.{Cands, Made, CoreStep, Look, TakeIndex, Irq, is_cand}

-- how many numbers from one on pass a test
abbrev pub count_from : (ℕ → Bool) → ℕ → ℕ → ℕ
count_from test from n = length (filter test (range_with_len from n))

-- the looks at interrupts among some steps
abbrev pub is_irq_look : CoreStep → Bool
is_irq_look (Look (Irq key)) = true
is_irq_look step = false

abbrev pub looks_in : List Made → ℕ
looks_in part = length (filter (λ made. is_irq_look made.step) part)

-- the bits of a word, and those that takes of the index found
unfoldable pub bits_in : ℕ → ℕ
bits_in word = count_from (has_bit word) 0 64

abbrev pub bits_found : CoreStep → ℕ → ℕ
bits_found (TakeIndex word) found = bits_in found
bits_found step found = 0

abbrev pub bits_taken : List Made → ℕ
bits_taken part = sum_by (λ made. bits_found made.step made.found) part

-- none of some steps is such a look or takes a word of the index
abbrev pub is_quiet : CoreStep → Bool
is_quiet (Look (Irq key)) = false
is_quiet (TakeIndex word) = false
is_quiet step = true

abbrev pub are_quiet : List Made → Bool
are_quiet part = list_all (λ made. is_quiet made.step) part

-- the candidates are those of so many words of the index, with so many bits
pub record AreTaken (cands : Cands) (words bits : ℕ) : Type 0 where
  pub count : count_from (is_cand cands) 0 (64 * words) ≡ bits
  pub rest : (i : ℕ) → words ≤ i → slice_index_or cands.words i 0 ≡ 0
