-- A guest as its words and CPU records say that it is, while no interrupt is at a CPU interface (own choice).
use Rattle.std.specs.Prelude.{◌≡◌, ℕ, Bool, false, IsTrue, List, length, map, All, None, slice_index_or, slice_set, if◌then◌else◌}
use Rattle.std.specs.List.{range_with_len}
use Rattle.port_core.specs.Words.{GuestShape, Irq, IsWord, irq_of}
use Rattle.port_core.specs.Calls.{Fault, opening_cpu, place_of_plain}
use Rattle.port_core.specs.Registers.{CpuRec, is_queue_word, queue_of}
use Rattle.gic_ideal.specs.IdealGuests.declared.guest.IdealGuest.{IdealGuest}
use Rattle.gic_ideal.specs.IdealGuests.Sound.{IsSound}
use Rattle.port_core.specs.declared.end.GuestWords.{GuestWords}
use Rattle.port_core.specs.Forms.{ctlr_of, vcpu_of}

-- the record of an interrupt by its word, but for who holds it and whether it is asked for
abbrev pub home_irq : ℕ → Irq
home_irq word = record (irq_of word) { holder = None; want = false }

-- the CPU records, each with EnableLPIs as the vCPU's word has it
abbrev pub cpu_at_home : List ℕ → List CpuRec → ℕ → CpuRec
cpu_at_home words cpus vcpu = record (slice_index_or cpus vcpu (opening_cpu false)) { lpis = (vcpu_of (slice_index_or words vcpu 0)).lpis }

abbrev pub cpus_at_home : List ℕ → List CpuRec → List CpuRec
cpus_at_home words cpus = map (cpu_at_home words cpus) (range_with_len 0 (length words))

-- the plain words, with the number of a fault only where the queue is stalled by it: else the word that keeps it says nothing
abbrev pub plain_at_home : GuestShape → Bool → List ℕ → List ℕ
plain_at_home shape is_stalled words = if is_stalled then words else slice_set words (place_of_plain shape Fault) 0

-- the guest
abbrev pub guest_of : GuestShape → GuestWords → List CpuRec → IdealGuest
guest_of shape words cpus =
    let queue = queue_of words.queue in
    record {
      shape = shape;
      irqs = map home_irq words.irqs;
      cpus = cpus_at_home words.vcpus cpus;
      enables = (ctlr_of words.ctlr).enables;
      words = plain_at_home shape queue.stalled words.plain;
      offset = queue.offset;
      is_stalled = queue.stalled;
      tables = words.tables;
    }

-- the words are those of a guest of this shape, with one CPU record for each vCPU
pub record IsAtEnd (shape : GuestShape) (words : GuestWords) (cpus : List CpuRec) : Type 0 where
  pub well_formed : All IsWord words.irqs
  pub queue : IsTrue (is_queue_word words.queue)
  pub each : length cpus ≡ length words.vcpus
  pub sound : IsSound (guest_of shape words cpus)
