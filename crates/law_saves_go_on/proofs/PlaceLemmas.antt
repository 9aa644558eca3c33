-- Each plain word has a place of its own.
use Rattle.std.proofs.Common.{◌≡◌, ℕ, ◌+◌, ◌-◌, ◌*◌, ◌/◌, ◌%◌, ◌<◌, ◌≤◌, cond, IsTrue, nat_lt, sym, ap, ◌∙◌, arith}
use Rattle.std.proofs.lemmas.Bool.{ltb-true, lt-ltb, le-ltb, eq-eqb, ne_eqb}
use Rattle.law_runs_split.specs.GicIdeal.IdealGuests.Words.{GuestShape}
use Rattle.law_runs_split.specs.GicIdeal.IdealGuests.Calls.{PlainWord, Ram, Propbaser, Pendbaser, ItsCtlr, Cbaser, Cwriter, Baser0, Baser1, Fault, has_plain, vcpus_from, its_from, plain_count, its_word_of, vcpu_word_of, plain_at, place_of_plain}

-- the place is one of the guest's
pub place_there : (shape : GuestShape) (word : PlainWord) → IsTrue (has_plain shape word) → place_of_plain shape word < plain_count shape
place_there shape (Ram index) there = let few = ltb-true index (shape.ram / 8) there in omega (arith, few)
place_there shape (Propbaser vcpu) there = let few = ltb-true vcpu shape.vcpus there in omega (arith, few)
place_there shape (Pendbaser vcpu) there = let few = ltb-true vcpu shape.vcpus there in omega (arith, few)
place_there shape ItsCtlr there = omega arith
place_there shape Cbaser there = omega arith
place_there shape Cwriter there = omega arith
place_there shape Baser0 there = omega arith
place_there shape Baser1 there = omega arith
place_there shape Fault there = omega arith

-- what stands at a place among the words of vCPUs, and among those of the ITS
at_vcpus : (shape : GuestShape) (place : ℕ) → vcpus_from shape ≤ place → place < its_from shape → plain_at shape place ≡ vcpu_word_of (place - vcpus_from shape)
at_vcpus shape place from below =
    ap (λ b. cond b (Ram place) (cond (nat_lt place (its_from shape)) (vcpu_word_of (place - vcpus_from shape)) (its_word_of (place - its_from shape)))) (le-ltb place (vcpus_from shape) from)
    ∙ ap (λ b. cond b (vcpu_word_of (place - vcpus_from shape)) (its_word_of (place - its_from shape))) (lt-ltb place (its_from shape) below)

at_its : (shape : GuestShape) (place number : ℕ) → place ≡ its_from shape + number → plain_at shape place ≡ its_word_of number
at_its shape place number is =
    let rest : place - its_from shape ≡ number = omega (arith, is) in
    ap (λ b. cond b (Ram place) (cond (nat_lt place (its_from shape)) (vcpu_word_of (place - vcpus_from shape)) (its_word_of (place - its_from shape)))) (le-ltb place (vcpus_from shape) (omega (arith, is)))
    ∙ ap (λ b. cond b (vcpu_word_of (place - vcpus_from shape)) (its_word_of (place - its_from shape))) (le-ltb place (its_from shape) (omega (arith, is)))
    ∙ ap its_word_of rest

first_of_vcpu : (vcpu number : ℕ) → number ≡ 2 * vcpu → vcpu_word_of number ≡ Propbaser vcpu
first_of_vcpu vcpu number is =
    let half : number / 2 ≡ vcpu = omega (arith, is) in
    ap (λ b. cond b (Propbaser (number / 2)) (Pendbaser (number / 2))) (eq-eqb (number % 2) 0 (omega (arith, is))) ∙ ap (λ n. Propbaser n) half

second_of_vcpu : (vcpu number : ℕ) → number ≡ 2 * vcpu + 1 → vcpu_word_of number ≡ Pendbaser vcpu
second_of_vcpu vcpu number is =
    let half : number / 2 ≡ vcpu = omega (arith, is) in
    ap (λ b. cond b (Propbaser (number / 2)) (Pendbaser (number / 2))) (ne_eqb (number % 2) 0 (λ e. omega (arith, is, e))) ∙ ap (λ n. Pendbaser n) half

-- the word at the place of a word is that word
word_back : (shape : GuestShape) (word : PlainWord) → IsTrue (has_plain shape word) → plain_at shape (place_of_plain shape word) ≡ word
word_back shape (Ram index) there = ap (λ b. cond b (Ram index) (cond (nat_lt index (its_from shape)) (vcpu_word_of (index - vcpus_from shape)) (its_word_of (index - its_from shape)))) there
word_back shape (Propbaser vcpu) there =
    let few = ltb-true vcpu shape.vcpus there in
    at_vcpus shape (vcpus_from shape + 2 * vcpu) (omega arith) (omega (arith, few)) ∙ first_of_vcpu vcpu (vcpus_from shape + 2 * vcpu - vcpus_from shape) (omega arith)
word_back shape (Pendbaser vcpu) there =
    let few = ltb-true vcpu shape.vcpus there in
    at_vcpus shape (vcpus_from shape + 2 * vcpu + 1) (omega arith) (omega (arith, few)) ∙ second_of_vcpu vcpu (vcpus_from shape + 2 * vcpu + 1 - vcpus_from shape) (omega arith)
word_back shape ItsCtlr there = at_its shape (its_from shape) 0 (omega arith)
word_back shape Cbaser there = at_its shape (its_from shape + 1) 1 (omega arith)
word_back shape Cwriter there = at_its shape (its_from shape + 2) 2 (omega arith)
word_back shape Baser0 there = at_its shape (its_from shape + 3) 3 (omega arith)
word_back shape Baser1 there = at_its shape (its_from shape + 4) 4 (omega arith)
word_back shape Fault there = at_its shape (its_from shape + 5) 5 (omega arith)

-- words with one place are one
pub same_word : (shape : GuestShape) (one other : PlainWord) → IsTrue (has_plain shape one) → IsTrue (has_plain shape other) → place_of_plain shape one ≡ place_of_plain shape other → one ≡ other
same_word shape one other here there same = sym (word_back shape one here) ∙ ap (plain_at shape) same ∙ word_back shape other there
