-- The plain words that a valid state tells: how many there are, that each has 64 bits, and which stand at the places of the ITS.
use Rattle.std.proofs.Common.{◌≡◌, ℕ, suc, ◌+◌, ◌*◌, ◌/◌, ◌<◌, ◌≤◌, ◌^◌, ◌++◌, Bool, true, false, List, [], ◌∷◌, All, length, fold, replicate, get_or, Option, Some, None, IfSome, IsTrue, refl, ap, ◌∙◌, lit<, arith}
use Rattle.std.proofs.lemmas.Grind.{common_steps}
use Rattle.std.proofs.lemmas.List.{length-set, length-replicate, length-append, get_or-append-add}
use Rattle.std.proofs.lemmas.List.Elements.{All-nil, All-cons, All-append, All-set, All-replicate, All-head, All-tail}
use Rattle.std.specs.List.{slice_set}
use Rattle.ideal_guest.specs.Words.{GuestShape, bit_of}
use Rattle.ideal_guest.specs.Registers.{propbaser_bits, pendbaser_bits, cbaser_bits, baser_bits, queue_bytes}
use Rattle.ideal_guest.specs.Calls.{its_from, plain_count}
use Rattle.scn_saved.specs.declared.state.GuestState.{GuestState}
use Rattle.scn_saved.specs.declared.state.RedistState.{RedistState}
use Rattle.scn_saved.specs.declared.state.ItsState.{ItsState}
use Rattle.scn_saved.specs.declared.state.RamState.{RamState}
use Rattle.saved_guest.specs.State.{memory_of, redist_words, its_words, words_of}
use Rattle.saved_guest.specs.Valid.{is_fault, IsValidRedist, IsValidIts, IsValidWord}

abbrev pub Fits : ℕ → Type 0
Fits word = word < 2 ^ 64

-- ---- memory

abbrev pub put_all : List ℕ → List RamState → List ℕ
put_all memory words = fold (λ memory ram. slice_set memory ram.index ram.word) memory words

length-put_all : (memory : List ℕ) (words : List RamState) → length (put_all memory words) ≡ length memory
length-put_all memory [] = refl
length-put_all memory (ram ∷ words) = length-put_all (slice_set memory ram.index ram.word) words ∙ length-set memory ram.index ram.word

fits-put_all : (shape : GuestShape) (memory : List ℕ) (words : List RamState) → All (IsValidWord shape) words → All Fits memory → All Fits (put_all memory words)
fits-put_all shape memory [] valid fit = fit
fits-put_all shape memory (ram ∷ words) valid fit =
    fits-put_all shape (slice_set memory ram.index ram.word) words (All-tail (IsValidWord shape) ram words valid) (All-set Fits memory ram.index ram.word (All-head (IsValidWord shape) ram words valid).fits fit)

pub length-memory : (shape : GuestShape) (words : List RamState) → length (memory_of shape words) ≡ shape.ram / 8
length-memory shape words = length-put_all (replicate (shape.ram / 8) 0) words ∙ length-replicate (shape.ram / 8) 0

zero_fits : Fits 0
zero_fits = lit< tt

fits-memory : (shape : GuestShape) (words : List RamState) → All (IsValidWord shape) words → All Fits (memory_of shape words)
fits-memory shape words valid = fits-put_all shape (replicate (shape.ram / 8) 0) words valid (All-replicate Fits (shape.ram / 8) 0 zero_fits)

-- ---- redistributors

pub length-redists : (redists : List RedistState) → length (redist_words redists) ≡ 2 * length redists
length-redists [] = refl
length-redists (redist ∷ redists) = let more = length-redists redists in omega (arith, more)

propbaser_fits : (value : ℕ) → value ≡ propbaser_bits value → Fits value
propbaser_fits value is = omega (arith, is)

pendbaser_fits : (value : ℕ) → value ≡ pendbaser_bits value → Fits value
pendbaser_fits value is = omega (arith, is)

fits-redists : (redists : List RedistState) → All IsValidRedist redists → All Fits (redist_words redists)
fits-redists [] valid = All-nil Fits
fits-redists (redist ∷ redists) valid =
    let here = All-head IsValidRedist redist redists valid in
    All-cons Fits redist.propbaser (redist.pendbaser ∷ redist_words redists) (propbaser_fits redist.propbaser here.propbaser)
    (All-cons Fits redist.pendbaser (redist_words redists) (pendbaser_fits redist.pendbaser here.pendbaser)
    (fits-redists redists (All-tail IsValidRedist redist redists valid)))

-- ---- the ITS

cbaser_fits : (value : ℕ) → value ≡ cbaser_bits value → Fits value
cbaser_fits value is = omega (arith, is)

baser_fits : (value : ℕ) → Fits (baser_bits value)
baser_fits value = omega arith

bit_fits : (flag : Bool) → Fits (bit_of flag)
bit_fits true = lit< tt
bit_fits false = lit< tt

-- the queue has 2 ^ 20 bytes at most
pub queue_small : (cbaser : ℕ) → queue_bytes cbaser ≤ 1048576
queue_small cbaser = omega arith

cwriter_fits : (its : ItsState) → IsValidIts its → Fits its.cwriter
cwriter_fits its valid = omega (arith, valid.cwriter, queue_small its.cbaser)

-- the number of a fault is small
pub fault_small : (stalled : Bool) (fault : ℕ) → IsTrue (is_fault stalled fault) → fault < 256
fault_small false fault h = grind (arith, common_steps)
fault_small true fault h = grind (arith, common_steps)

fault_fits : (its : ItsState) → IsValidIts its → Fits its.fault
fault_fits its valid = omega (arith, fault_small its.stalled its.fault valid.fault)

six : (a b c d e f : ℕ) → Fits a → Fits b → Fits c → Fits d → Fits e → Fits f → All Fits (a ∷ b ∷ c ∷ d ∷ e ∷ f ∷ [])
six a b c d e f ha hb hc hd he hf =
    All-cons Fits a (b ∷ c ∷ d ∷ e ∷ f ∷ []) ha
    (All-cons Fits b (c ∷ d ∷ e ∷ f ∷ []) hb
    (All-cons Fits c (d ∷ e ∷ f ∷ []) hc
    (All-cons Fits d (e ∷ f ∷ []) hd
    (All-cons Fits e (f ∷ []) he
    (All-cons Fits f [] hf
    (All-nil Fits))))))

fits-its : (its : Option ItsState) → IfSome its IsValidIts → All Fits (its_words its)
fits-its None valid = six 0 0 0 0 0 0 zero_fits zero_fits zero_fits zero_fits zero_fits zero_fits
fits-its (Some its) valid =
    six (bit_of its.enabled) its.cbaser its.cwriter (baser_bits its.baser0) (baser_bits its.baser1) its.fault (bit_fits its.enabled) (cbaser_fits its.cbaser valid.cbaser) (cwriter_fits its valid) (baser_fits its.baser0)
    (baser_fits its.baser1) (fault_fits its valid)

length-its : (its : Option ItsState) → length (its_words its) ≡ 6
length-its None = refl
length-its (Some its) = refl

-- ---- all words

pub length-words : (shape : GuestShape) (state : GuestState) → length state.redist ≡ shape.vcpus → length (words_of shape state) ≡ plain_count shape
length-words shape state each =
    let memory = length-memory shape state.ram in
    let redists = length-redists state.redist in
    let its = length-its state.its in
    let rest = length-append (redist_words state.redist) (its_words state.its) in
    let whole = length-append (memory_of shape state.ram) (redist_words state.redist ++ its_words state.its) in
    omega (arith, memory, redists, its, rest, whole, each)

pub fits-words : (shape : GuestShape) (state : GuestState) → All (IsValidWord shape) state.ram → All IsValidRedist state.redist → IfSome state.its IsValidIts → All (λ word. word < 2 ^ 64) (words_of shape state)
fits-words shape state ram redist its =
    All-append Fits (memory_of shape state.ram) (redist_words state.redist ++ its_words state.its) (fits-memory shape state.ram ram)
    (All-append Fits (redist_words state.redist) (its_words state.its) (fits-redists state.redist redist) (fits-its state.its its))

-- the word of the ITS with a number from 0
pub its_word : (shape : GuestShape) (state : GuestState) (n : ℕ) → length state.redist ≡ shape.vcpus → get_or (words_of shape state) (its_from shape + n) 0 ≡ get_or (its_words state.its) n 0
its_word shape state n each =
    let memory = length-memory shape state.ram in
    let redists = length-redists state.redist in
    let at : its_from shape + n ≡ length (memory_of shape state.ram) + (length (redist_words state.redist) + n) = omega (arith, memory, redists, each) in
    ap (λ place. get_or (words_of shape state) place 0) at
    ∙ get_or-append-add (memory_of shape state.ram) (redist_words state.redist ++ its_words state.its) (length (redist_words state.redist) + n) 0
    ∙ get_or-append-add (redist_words state.redist) (its_words state.its) n 0
