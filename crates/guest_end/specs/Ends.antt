-- How guests ended (own choice).
use Rattle.std.specs.Prelude.{◌≡◌, List, [], ◌∷◌, length, take, drop}
use Rattle.gic_ideal.specs.Ends.{end_of}
use Rattle.port_core.specs.Registers.{CpuRec}
use Rattle.gic_ideal.specs.IdealGuests.declared.guest.IdealGuest.{IdealGuest}
use Rattle.gic_ideal.specs.IdealGuests.Opening.{opening as opening_guest}
use Rattle.port_core.specs.declared.end.GuestWords.{GuestWords}
use Rattle.port_core.specs.Calls.{GuestSpec, IsGoodGuest}
use Rattle.guest_end.specs.Home.{IsAtEnd, guest_of}

-- a guest ended with these words and CPU records, and its end lines are those of this guest of the ideal controller
pub record EndsAt (guest : GuestSpec) (words : GuestWords) (cpus : List CpuRec) (ideal : IdealGuest) : Type 0 where
  pub good : IsGoodGuest guest
  pub ended : IsAtEnd guest.shape words cpus
  pub vcpus : length words.vcpus ≡ guest.shape.vcpus
  pub lines : end_of (opening_guest guest) (guest_of guest.shape words cpus) ≡ end_of (opening_guest guest) ideal

-- so did each of some guests, the CPU records of which stand one guest's after the other's
abbrev pub AllEndAt : List GuestSpec → List GuestWords → List CpuRec → List IdealGuest → Type 0
AllEndAt [] [] cpus [] = Unit {0}
AllEndAt (guest ∷ guests) (one ∷ words) cpus (ideal ∷ ideals) = EndsAt guest one (take guest.shape.vcpus cpus) ideal × AllEndAt guests words (drop guest.shape.vcpus cpus) ideals
AllEndAt guests words cpus ideals = ⊥

-- it is told of which guests of the ideal controller that is
pub record HaveEnded (guests : List GuestSpec) (words : List GuestWords) (cpus : List CpuRec) : Type 0 where
  pub ideals : List IdealGuest
  pub all : AllEndAt guests words cpus ideals

-- the guests of the ideal controller that the words and CPU records of some guests say
abbrev pub guests_of : List GuestSpec → List GuestWords → List CpuRec → List IdealGuest
guests_of [] words cpus = []
guests_of (guest ∷ guests) [] cpus = []
guests_of (guest ∷ guests) (one ∷ words) cpus = guest_of guest.shape one (take guest.shape.vcpus cpus) ∷ guests_of guests words (drop guest.shape.vcpus cpus)
