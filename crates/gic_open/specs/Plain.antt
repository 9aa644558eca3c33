-- The plain words of a guest: its memory and the registers that are only stored, and their numbering (own choice).
use Rattle.std.specs.Prelude.{ℕ, ◌+◌, ◌-◌, ◌*◌, ◌/◌, ◌%◌, ◌==◌, Bool, true, nat_lt, if◌then◌else◌}
use Rattle.gic_guest.specs.Words.{GuestShape}
use Rattle.gic_open.specs.declared.plain.PlainWord.{PlainWord}
use Rattle.gic_open.specs.declared.plain.PlainWord.TheVariants.{Ram, Propbaser, Pendbaser, ItsCtlr, Cbaser, Cwriter, Baser0, Baser1, Fault}

-- the guest has this word: eight bytes of its memory, a register of one of its vCPUs, or one of the ITS
abbrev pub has_plain : GuestShape → PlainWord → Bool
has_plain shape (Ram index) = nat_lt index (shape.ram / 8)
has_plain shape (Propbaser vcpu) = nat_lt vcpu shape.vcpus
has_plain shape (Pendbaser vcpu) = nat_lt vcpu shape.vcpus
has_plain shape word = true

-- how many of its words come before those of its vCPUs, and before those of the ITS
abbrev pub vcpus_from : GuestShape → ℕ
vcpus_from shape = shape.ram / 8

abbrev pub its_from : GuestShape → ℕ
its_from shape = vcpus_from shape + 2 * shape.vcpus

-- how many plain words the guest has
abbrev pub plain_count : GuestShape → ℕ
plain_count shape = its_from shape + 6

-- the place of a plain word, from 0
abbrev pub place_of_plain : GuestShape → PlainWord → ℕ
place_of_plain shape (Ram index) = index
place_of_plain shape (Propbaser vcpu) = vcpus_from shape + 2 * vcpu
place_of_plain shape (Pendbaser vcpu) = vcpus_from shape + 2 * vcpu + 1
place_of_plain shape ItsCtlr = its_from shape
place_of_plain shape Cbaser = its_from shape + 1
place_of_plain shape Cwriter = its_from shape + 2
place_of_plain shape Baser0 = its_from shape + 3
place_of_plain shape Baser1 = its_from shape + 4
place_of_plain shape Fault = its_from shape + 5

-- the word of the ITS with a number from 0
abbrev pub its_word_of : ℕ → PlainWord
its_word_of n =
    if n == 0 then ItsCtlr
    else (if n == 1 then Cbaser
    else (if n == 2 then Cwriter
    else (if n == 3 then Baser0
    else (if n == 4 then Baser1
    else Fault))))

-- the word of a vCPU with a number from 0, by two a vCPU
abbrev pub vcpu_word_of : ℕ → PlainWord
vcpu_word_of n = if n % 2 == 0 then Propbaser (n / 2) else Pendbaser (n / 2)

-- the plain word at a place
abbrev pub plain_at : GuestShape → ℕ → PlainWord
plain_at shape place =
    if nat_lt place (vcpus_from shape) then Ram place
    else (if nat_lt place (its_from shape) then vcpu_word_of (place - vcpus_from shape)
    else its_word_of (place - its_from shape))
