-- A good guest in a valid state is one that can open.
use Rattle.std.proofs.Common.{◌≡◌, ℕ, ◌<◌, ◌%◌, Bool, true, false, cond, IsTrue, List, get_or, Option, Some, None, IfSome, is_some, refl, ◌∙◌, lit<, arith}
use Rattle.std.specs.Option.{option_map_or}
use Rattle.std.proofs.lemmas.Grind.{common_steps}
use Rattle.std.proofs.lemmas.List.{length-map}
use Rattle.std.proofs.lemmas.List.Elements.{All-map, All-weaker}
use Rattle.ideal_guest.specs.Words.{GuestShape, Lpi, has_interrupt, place_of, Irq, target_in}
use Rattle.ideal_guest.specs.Registers.{has_target, queue_bytes}
use Rattle.ideal_guest.specs.Calls.{GuestSpec, IsGoodGuest, irq_in, Cbaser, Cwriter, Fault}
use Rattle.ideal_guest.specs.Ideal.{word_at}
use Rattle.ideal_guest.specs.Sound.{IsIdealCpu, IsSound}
use Rattle.ideal_guest.specs.CanOpen.{AreForNone, CanOpen}
use Rattle.scn_saved.specs.declared.state.GuestState.{GuestState}
use Rattle.scn_saved.specs.declared.state.CpuState.{CpuState}
use Rattle.scn_saved.specs.declared.state.ItsState.{ItsState}
use Rattle.saved_guest.specs.State.{cpu_of, irqs_with, its_words, state_of}
use Rattle.saved_guest.specs.Valid.{is_fault, IsValidCpu, IsValidIts, IsValidState}
use Rattle.saved_guest.specs.Whole.{ValidStatesCanOpen}
use Rattle.saved_guest.proofs.RecLemmas.{told_records}
use Rattle.saved_guest.proofs.WordLemmas.{queue_small, fault_small, length-words, fits-words, its_word}

-- a CPU interface has its binary points in range, and some of 32 levels
cpu_ideal : (shape : GuestShape) (cpu : CpuState) → IsValidCpu shape cpu → IsIdealCpu (cpu_of cpu)
cpu_ideal shape cpu valid = record { points = record { group_0 = valid.bpr0; group_1 = valid.bpr1 }; levels = record { group_0 = valid.ap0; group_1 = valid.ap1 } }

-- an LPI that the guest does not have is for none, and so is one whose target is as the maps say
absent : (shape : GuestShape) (irqs : List Irq) (id : ℕ) → has_interrupt shape (Lpi id) ≡ false → target_in (irq_in shape irqs (Lpi id)).route shape ≡ None
absent shape irqs id none = rw none refl

none_is : (target : Option ℕ) → is_some target ≡ false → target ≡ None
none_is None e = refl
none_is (Some vcpu) e = absurd (cc)

for_none : (guest : GuestSpec) (state : GuestState) → IsValidState guest state → AreForNone (state_of guest state)
for_none guest state valid id lost = of (has_interrupt guest.shape (Lpi id)) refl
  where
    of : (b : Bool) → has_interrupt guest.shape (Lpi id) ≡ b → target_in (irq_in guest.shape (irqs_with guest state.rec) (Lpi id)).route guest.shape ≡ None
    of true there = none_is (target_in (irq_in guest.shape (irqs_with guest state.rec) (Lpi id)).route guest.shape) (valid.targets id there ∙ lost)
    of false there = absent guest.shape (irqs_with guest state.rec) id there

-- the places in the queue, and the number of its fault
record AreInOrder (offset : ℕ) (stalled : Bool) (words : List ℕ) : Type 0 where
  pub next : offset < queue_bytes (get_or words 1 0)
  pub next_place : offset % 32 ≡ 0
  pub writer : get_or words 2 0 < queue_bytes (get_or words 1 0)
  pub writer_place : get_or words 2 0 % 32 ≡ 0
  pub number : get_or words 5 0 < 256
  pub fault : stalled ≡ false → get_or words 5 0 ≡ 0

no_fault : (stalled : Bool) (fault : ℕ) → IsTrue (is_fault stalled fault) → stalled ≡ false → fault ≡ 0
no_fault true fault h e = absurd (cc)
no_fault false fault h e = grind (arith, common_steps)

in_order : (its : Option ItsState) → IfSome its IsValidIts → AreInOrder (option_map_or (λ its. its.offset) its 0) (option_map_or (λ its. its.stalled) its false) (its_words its)
in_order None valid = record { next = lit< tt; next_place = refl; writer = lit< tt; writer_place = refl; number = lit< tt; fault = λ e. refl }
in_order (Some its) valid =
    record {
      next = valid.offset;
      next_place = valid.offset_place;
      writer = valid.cwriter;
      writer_place = valid.cwriter_place;
      number = fault_small its.stalled its.fault valid.fault;
      fault = no_fault its.stalled its.fault valid.fault;
    }

pub valid_states_can_open : ValidStatesCanOpen
valid_states_can_open guest state good valid =
    let records = told_records guest state.rec good valid.each_rec in
    let queue = in_order state.its valid.its_valid in
    let cbaser : word_at (state_of guest state) Cbaser ≡ get_or (its_words state.its) 1 0 = its_word guest.shape state 1 valid.redists in
    let cwriter : word_at (state_of guest state) Cwriter ≡ get_or (its_words state.its) 2 0 = its_word guest.shape state 2 valid.redists in
    let fault : word_at (state_of guest state) Fault ≡ get_or (its_words state.its) 5 0 = its_word guest.shape state 5 valid.redists in
    let within = queue_small (get_or (its_words state.its) 1 0) in
    record {
      sound =
          record {
            shape = good.shape;
            irqs = records.each;
            cpus = length-map state.cpu cpu_of ∙ valid.cpus;
            records = records.ideal;
            interfaces = All-map IsIdealCpu cpu_of state.cpu (All-weaker (IsValidCpu guest.shape) (λ cpu. IsIdealCpu (cpu_of cpu)) (cpu_ideal guest.shape) state.cpu valid.each_cpu);
            words = length-words guest.shape state valid.redists;
            place = queue.next_place;
            offset = omega (arith, queue.next, within);
            fault = rw fault queue.number;
            maps = valid.maps;
          };
      own = records.own;
      copies = valid.copies;
      none = for_none guest state valid;
      fits = fits-words guest.shape state valid.each_word valid.each_redist valid.its_valid;
      queue = record { next = rw cbaser queue.next; writer = rw (cwriter, cbaser) queue.writer; place = rw cwriter queue.writer_place };
      fault = λ e. rw fault (queue.fault e);
    }
