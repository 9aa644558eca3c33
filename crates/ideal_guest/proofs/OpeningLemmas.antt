-- A good guest opens sound.
use Rattle.std.proofs.Common.{◌≡◌, [], ℕ, zero, suc, Bool, true, false, cond, ◌||◌, not, IsTrue, replicate, slice_index, refl, lit<, arith}
use Rattle.std.proofs.lemmas.List.{length-replicate}
use Rattle.std.proofs.lemmas.List.Elements.{All-replicate}
use Rattle.floor_calls.specs.Calls.{GuestSpec, IsGoodGuest, opening_cpu, PlainWord, Fault, has_plain, place_of_plain, plain_count, has_wire}
use Rattle.floor_calls.proofs.GicOpen.OpeningLemmas.{openings_valid}
use Rattle.floor_calls.specs.Words.{GuestShape}
use Rattle.std.specs.List.Sorted.{IsStrictlySortedBy}
use Rattle.floor_calls.specs.Registers.{IsValid}
use Rattle.ideal_guest.specs.Ideal.{irq_at, word_at}
use Rattle.ideal_guest.specs.Opening.{opening}
use Rattle.ideal_guest.specs.Sound.{IsIdealCpu, IsSound}

-- a CPU interface opens with its binary points in range and no level active
pub cpu_opening : (on : Bool) → IsIdealCpu (opening_cpu on)
cpu_opening on = record { points = record { group_0 = omega arith; group_1 = omega arith }; levels = record { group_0 = lit< tt; group_1 = lit< tt } }

-- a word of a list of zeros
zero_word : (n place : ℕ) → slice_index (replicate n 0) place ≡ 0
zero_word zero place = refl
zero_word (suc n) zero = refl
zero_word (suc n) (suc place) = zero_word n place

-- the plain words open as 0
pub word_opening : (guest : GuestSpec) (word : PlainWord) → word_at (opening guest) word ≡ 0
word_opening guest word = of (has_plain guest.shape word)
  where
    of : (b : Bool) → cond b (slice_index (replicate (plain_count guest.shape) 0) (place_of_plain guest.shape word)) 0 ≡ 0
    of true = zero_word (plain_count guest.shape) (place_of_plain guest.shape word)
    of false = refl

-- nothing rose is right, whatever has a wire
unrisen : (wired rise : Bool) → rise ≡ false → IsTrue (wired || not rise)
unrisen true rise e = refl
unrisen false rise e = rw e refl

-- no maps are maps that commands can have made
pub empty_valid : (shape : GuestShape) → IsValid shape (record { devices = []; events = []; collections = [] })
unfolding IsStrictlySortedBy
empty_valid shape =
    record {
      sound = record { devices = tt; events = tt; collections = tt; one_each = λ x y id a b h g. absurd (cc); of_mapped = λ event pair h. absurd (cc) };
      device = λ device bits h. absurd (cc);
      bits = λ device bits h. absurd (cc);
      event = λ event pair h. absurd (cc);
      interrupt = λ event pair h. absurd (cc);
      target = λ icid vcpu h. absurd (cc);
    }

pub sound_opening : (guest : GuestSpec) → IsGoodGuest guest → IsValid guest.shape (opening guest).tables → IsSound (opening guest)
sound_opening guest good maps =
    let are = openings_valid guest good in
    record {
      shape = good.shape;
      irqs = are.each;
      cpus = length-replicate guest.shape.vcpus (opening_cpu guest.on);
      records = λ key there.
          let valid = are.valid key there in
          record { valid = valid.record_of; home = valid.home; unrisen = unrisen (has_wire key) (irq_at (opening guest) key).rise valid.no_rise };
      interfaces = All-replicate IsIdealCpu guest.shape.vcpus (opening_cpu guest.on) (cpu_opening guest.on);
      words = length-replicate (plain_count guest.shape) 0;
      place = refl;
      offset = lit< tt;
      fault = rw (word_opening guest Fault) (lit< tt);
      maps = maps;
    }
