-- A memory of words as bytes.
use Rattle.std.proofs.Common.{◌≡◌, ℕ, zero, suc, ◌<◌, ◌≤◌, ◌+◌, ◌-◌, ◌*◌, ◌/◌, ◌%◌, ◌^◌, ◌&&◌, nat_le, nat_lt, IsTrue, if◌then◌else◌, Some, List, length, slice_index, slice_set, sym, ap, ◌∙◌, subst, arith, get_or, set, get_or-set_same, get_or-set_other, ◌≢◌}
use Rattle.std.proofs.lemmas.Nat.{shr-shr, mod-pow-add, field_of}
use Rattle.std.proofs.Math.Pow.{mod-mod-pow}
use Rattle.std.proofs.Math.Nat.{mod-mod}
use Rattle.std.proofs.lemmas.Grind.{common_steps, get_or-set_at}
use Rattle.gic_ram.specs.declared.access.Part.{Part}
use Rattle.gic_ram.specs.Access.{is_size, part_of}
use Rattle.gic_ram.proofs.PartLemmas.{Replaced, sum_replaces}
use Rattle.gic_ram.specs.Bytes.{byte_of, byte_at, number_at, read_from, written_to}

-- an access to a memory, and its part
record IsAccess (address size ram : ℕ) (part : Part) : Type 0 where
  index : part.index ≡ address / 8
  shift : part.shift ≡ 8 * (address % 8)
  bits : part.bits ≡ 8 * size
  some_byte : 1 ≤ size
  in_word : address % 8 + size ≤ 8
  in_memory : address + size ≤ ram

access : (address size ram : ℕ) (part : Part) → IsTrue (is_size size) → part_of address size ram ≡ Some part → IsAccess address size ram part
access address size ram part s e = grind (arith, common_steps)

-- one byte more of a field
one_more : (word place size : ℕ) → word / 2 ^ (8 * place) % 2 ^ 8 + 2 ^ 8 * (word / 2 ^ (8 * (place + 1)) % 2 ^ (8 * size)) ≡ word / 2 ^ (8 * place) % 2 ^ (8 * suc size)
one_more word place size =
    let rest : word / 2 ^ (8 * (place + 1)) ≡ word / 2 ^ (8 * place) / 2 ^ 8 = ap (λ (n : ℕ). word / 2 ^ n) {y = 8 * place + 8} (omega arith) ∙ sym (shr-shr word (8 * place) 8) in
    let field : word / 2 ^ (8 * place) % 2 ^ (8 * suc size) ≡ word / 2 ^ (8 * place) % 2 ^ (8 * size + 8) = ap (λ (n : ℕ). word / 2 ^ (8 * place) % 2 ^ n) (omega arith) in
    let fields : word / 2 ^ (8 * place) % 2 ^ (8 * size + 8) ≡ word / 2 ^ (8 * place) / 2 ^ 8 % 2 ^ (8 * size) * 2 ^ 8 + word / 2 ^ (8 * place) % 2 ^ 8 = mod-pow-add (word / 2 ^ (8 * place)) (8 * size) 8 in
    rw rest (omega arith)

-- the bytes from an address on, within one word, spell a field of it
spelled_in : (words : List ℕ) (size address : ℕ) → address % 8 + size ≤ 8 → number_at words address size ≡ slice_index words (address / 8) / 2 ^ (8 * (address % 8)) % 2 ^ (8 * size)
spelled_in words zero address h = omega arith
spelled_in words (suc zero) address h = omega arith
spelled_in words (suc (suc size)) address h =
    let same_word : (address + 1) / 8 ≡ address / 8 = omega arith in
    let next : (address + 1) % 8 ≡ address % 8 + 1 = omega arith in
    let rest : number_at words (address + 1) (suc size) ≡ slice_index words (address / 8) / 2 ^ (8 * (address % 8 + 1)) % 2 ^ (8 * suc size) =
    rw (← same_word, ← next) (spelled_in words (suc size) (address + 1) (omega arith)) in
    ap (λ (n : ℕ). byte_at words address + 2 ^ 8 * n) rest ∙ one_more (slice_index words (address / 8)) (address % 8) (suc size)

pub spelled : (words : List ℕ) (address size : ℕ) (part : Part) → IsTrue (is_size size) → part_of address size (8 * length words) ≡ Some part → read_from words part ≡ number_at words address size
spelled words address size part s e =
    let found = access address size (8 * length words) part s e in
    rw (found.index, found.shift, found.bits) (sym (spelled_in words size address found.in_word))

-- a byte is one of the low bytes
byte_of-low : (value at above : ℕ) → byte_of (value % 2 ^ (8 * (at + 1 + above))) at ≡ byte_of value at
byte_of-low value at above =
    ap (λ (n : ℕ). value % 2 ^ n / 2 ^ (8 * at) % 2 ^ 8) {y = (8 * above + 8) + 8 * at} (omega arith)
    ∙ ap (λ (n : ℕ). n % 2 ^ 8) (field_of value (8 * above + 8) (8 * at))
    ∙ mod-mod-pow (value / 2 ^ (8 * at)) (8 * above) 8

-- or one of those above
byte_of-high : (value place at : ℕ) → byte_of value (place + at) ≡ byte_of (value / 2 ^ (8 * place)) at
byte_of-high value place at =
    ap (λ (n : ℕ). value / 2 ^ n % 2 ^ 8) {y = 8 * place + 8 * at} (omega arith) ∙ ap (λ (n : ℕ). n % 2 ^ 8) (sym (shr-shr value (8 * place) (8 * at)))

-- numbers of the same low bytes, and numbers of the same bytes above
same_low : (x y at place : ℕ) → at < place → x % 2 ^ (8 * place) ≡ y % 2 ^ (8 * place) → byte_of x at ≡ byte_of y at
same_low x y at place h e =
    let is : place ≡ at + 1 + (place - at - 1) = omega arith in
    let same : x % 2 ^ (8 * (at + 1 + (place - at - 1))) ≡ y % 2 ^ (8 * (at + 1 + (place - at - 1))) = subst (λ (n : ℕ). x % 2 ^ (8 * n) ≡ y % 2 ^ (8 * n)) is e in
    sym (byte_of-low x at (place - at - 1)) ∙ ap (λ (n : ℕ). byte_of n at) same ∙ byte_of-low y at (place - at - 1)

same_high : (x y at top : ℕ) → top ≤ at → x / 2 ^ (8 * top) ≡ y / 2 ^ (8 * top) → byte_of x at ≡ byte_of y at
same_high x y at top h e =
    let is : top + (at - top) ≡ at = omega arith in
    subst (λ (n : ℕ). byte_of x n ≡ byte_of y n) is (byte_of-high x top (at - top) ∙ ap (λ (n : ℕ). byte_of n (at - top)) e ∙ sym (byte_of-high y top (at - top)))

-- a byte of a word in which bytes are replaced
byte_of-replaced : (word place size value new at : ℕ) → Replaced word (8 * place) (8 * size) value new → byte_of new at ≡ (if nat_le place at && nat_lt at (place + size) then byte_of value (at - place) else byte_of word at)
byte_of-replaced word place size value new at r =
    let below : at < place → byte_of new at ≡ byte_of word at = λ h. same_low new word at place h r.below in
    let above : place + size ≤ at → byte_of new at ≡ byte_of word at =
    λ h. same_high new word at (place + size) h (subst (λ (n : ℕ). new / 2 ^ n ≡ word / 2 ^ n) {y = 8 * (place + size)} (omega arith) r.above) in
    let inner : at - place < size → byte_of (new / 2 ^ (8 * place)) (at - place) ≡ byte_of value (at - place) =
    λ h. same_low (new / 2 ^ (8 * place)) value (at - place) size h (sym (mod-mod (new / 2 ^ (8 * place)) (2 ^ (8 * size))) ∙ ap (λ (n : ℕ). n % 2 ^ (8 * size)) r.back) in
    let inside : place ≤ at → at - place < size → byte_of new at ≡ byte_of value (at - place) =
    λ h k. let is : place + (at - place) ≡ at = omega (arith, h) in ap (byte_of new) (sym is) ∙ byte_of-high new place (at - place) ∙ inner k in
    grind (arith, common_steps)

-- the word in which a write replaces bytes
new_word : ℕ → ℕ → ℕ → ℕ → ℕ
new_word word place size value = word % 2 ^ (8 * place) + value * 2 ^ (8 * place) + word / 2 ^ (8 * place + 8 * size) * 2 ^ (8 * place + 8 * size)

byte_of-new_word : (word place size value at : ℕ) → value < 2 ^ (8 * size) → byte_of (new_word word place size value) at ≡ (if nat_le place at && nat_lt at (place + size) then byte_of value (at - place) else byte_of word at)
unfolding new_word
byte_of-new_word word place size value at v = byte_of-replaced word place size value (new_word word place size value) at (sum_replaces word (8 * place) (8 * size) value v)

-- a byte of a memory in which one word is so replaced
set_byte : (words : List ℕ) (address size value at : ℕ) → 1 ≤ size → address % 8 + size ≤ 8 → address + size ≤ 8 * length words → value < 2 ^ (8 * size) → byte_at (slice_set words (address / 8) (new_word (slice_index words (address / 8)) (address % 8) size value)) at ≡ (if nat_le address at && nat_lt at (address + size) then byte_of value (at - address) else byte_at words at)
set_byte words address size value at n h m v =
    let new = new_word (slice_index words (address / 8)) (address % 8) size value in
    let same : at / 8 ≡ address / 8 → get_or (set words (address / 8) new) (at / 8) 0 ≡ new = λ e. get_or-set_at words (address / 8) (at / 8) new 0 e (omega arith) in
    let other : at / 8 ≢ address / 8 → get_or (set words (address / 8) new) (at / 8) 0 ≡ get_or words (at / 8) 0 = λ e. get_or-set_other words (address / 8) (at / 8) new 0 e in
    let byte = byte_of-new_word (slice_index words (address / 8)) (address % 8) size value (at % 8) v in
    grind (arith, common_steps)

pub set_bytes : (words : List ℕ) (address size value : ℕ) (part : Part) → IsTrue (is_size size) → part_of address size (8 * length words) ≡ Some part → value < 2 ^ (8 * size) → (at : ℕ) → byte_at (written_to words part value) at ≡ (if nat_le address at && nat_lt at (address + size) then byte_of value (at - address) else byte_at words at)
unfolding new_word
set_bytes words address size value part s e v at =
    let found = access address size (8 * length words) part s e in
    rw (found.index, found.shift, found.bits) (set_byte words address size value at found.some_byte found.in_word found.in_memory v)

pub read_back : (words : List ℕ) (address size value : ℕ) (part : Part) → IsTrue (is_size size) → part_of address size (8 * length words) ≡ Some part → value < 2 ^ (8 * size) → read_from (written_to words part value) part ≡ value
unfolding new_word
read_back words address size value part s e v =
    let found = access address size (8 * length words) part s e in
    let word = slice_index words (address / 8) in
    let new = new_word word (address % 8) size value in
    let there : get_or (set words (address / 8) new) (address / 8) 0 ≡ new = get_or-set_same words (address / 8) new 0 (omega (arith, found.in_memory, found.some_byte)) in
    rw (found.index, found.shift, found.bits, there) ((sum_replaces word (8 * (address % 8)) (8 * size) value v).back)
