-- What the core's words and actors say of the state of the ideal controller: the relation that every step keeps (own choice).
use Rattle.std.specs.Prelude.{◌≡◌, ℕ, ◌<◌, ◌==◌, ◌||◌, not, Bool, true, false, IsTrue, map, length, Some, None, if◌then◌else◌}
use Rattle.std.specs.List.{list_all}
use Rattle.std.specs.Option.{ForSome}
use Rattle.law_lines_translate.specs.Words.{Key, GuestShape, interrupt_count, Irq, irq_of}
use Rattle.law_lines_translate.specs.Registers.{CpuRec, queue_of}
use Rattle.law_lines_translate.specs.Calls.{plain_at, plain_count, Fault}
use Rattle.law_lines_translate.specs.Histories.{IdealGuest, irq_at, cpu_at, word_at, Ideal, Standing, standing_at}
use Rattle.law_lines_translate.specs.Core.{AtIrq, Local, Phase, Folding, WordId, Irq as IrqWord, Vcpu, Queue, Ctlr, Plain, Index, Line, fault_place, given_back, vcpu_of, ctlr_of, entry_for, entry_of, back_of, has_word, CoreState, seat_at, word_in}

-- Interrupts.

-- a record without who holds the interrupt and whether an access waits for it: the ideal controller has neither
abbrev pub bare : Irq → Irq
bare irq = record irq { holder = None; want = false }

-- the record that a word has of an interrupt at a vCPU's interface, where the ideal one is this: once it was given back, with what the interface had of it
abbrev pub in_word : ℕ → AtIrq → Irq → Irq
in_word vcpu at irq = if at.given then given_back vcpu (back_of at) irq else irq

-- an interrupt at a vCPU's interface: its word says what the ideal record does, and the interface has the priority and the group of that
pub record IsHeldRelated (vcpu : ℕ) (at : AtIrq) (word ideal : Irq) : Type 0 where
  pub word_is : bare word ≡ in_word vcpu at ideal
  pub prio : at.entry_prio ≡ ideal.prio
  pub group : at.group ≡ ideal.group

-- an interrupt: where nobody holds it, its word says what the ideal record does
abbrev pub HeldBy : (ℕ → Local) → Key → ℕ → Irq → Irq → Type 0
HeldBy locals key vcpu word ideal = ForSome (entry_for key (locals vcpu).at) (λ at. IsHeldRelated vcpu at word ideal)

pub record IsIrqRelated (locals : ℕ → Local) (key : Key) (word ideal : Irq) : Type 0 where
  pub home : word.holder ≡ None → bare word ≡ ideal
  pub held : (vcpu : ℕ) → word.holder ≡ Some vcpu → HeldBy locals key vcpu word ideal

-- Words.

-- a plain word: what is stored; of the number of a fault only where the queue is stalled
pub record IsPlainRelated (shape : GuestShape) (index value : ℕ) (guest : IdealGuest) : Type 0 where
  pub stored : (index == fault_place shape) ≡ false → word_at guest (plain_at shape index) ≡ value
  pub fault : (index == fault_place shape) ≡ true → IsTrue guest.is_stalled → word_at guest Fault ≡ value

-- the ITS, and GICD_CTLR
pub record IsQueueRelated (word : ℕ) (ideal : Ideal) : Type 0 where
  pub turn : ideal.has_its ≡ (queue_of word).turn
  pub offset : ideal.guest.offset ≡ (queue_of word).offset
  pub stalled : ideal.guest.is_stalled ≡ (queue_of word).stalled

pub record IsCtlrRelated (word : ℕ) (ideal : Ideal) : Type 0 where
  pub enables : ideal.guest.enables ≡ (ctlr_of word).enables
  pub spreads : ideal.spreads ≡ (ctlr_of word).mark

-- a word of the core says what the ideal controller has
abbrev pub WordSays : GuestShape → (ℕ → Local) → Ideal → WordId → ℕ → Type 0
WordSays shape locals ideal (IrqWord key) word = IsIrqRelated locals key (irq_of word) (irq_at ideal.guest key)
WordSays shape locals ideal (Vcpu vcpu) word = (cpu_at ideal.guest vcpu).lpis ≡ (vcpu_of word).lpis
WordSays shape locals ideal Queue word = IsQueueRelated word ideal
WordSays shape locals ideal Ctlr word = IsCtlrRelated word ideal
WordSays shape locals ideal (Plain index) word = IsPlainRelated shape index word ideal.guest
WordSays shape locals ideal (Index vcpu number) word = Unit {0}
WordSays shape locals ideal (Line number) word = Unit {0}

-- Interfaces.

-- what a vCPU has at its interface, as the ideal controller says it
abbrev pub stands : AtIrq → Standing
stands at = record { key = at.key; entry = entry_of at }

-- EnableLPIs is the word's, and the vCPU's copy may be an older one
abbrev pub but_lpis : CpuRec → CpuRec
but_lpis cpu = record cpu { lpis = false }

-- a vCPU's copy of its interface's record: the same but for EnableLPIs, of which an older copy may miss that it is set, and which is never cleared
pub record IsCpuRelated (own ideal : CpuRec) : Type 0 where
  pub same : but_lpis ideal ≡ but_lpis own
  pub lpis : IsTrue own.lpis → IsTrue ideal.lpis

abbrev pub is_folding : Phase → Bool
is_folding Folding = true
is_folding phase = false

-- a vCPU's interface: the same interrupts in the same order, the same record, and nothing is given back but while the vCPU folds
pub record SeatSays (ideal : Ideal) (vcpu : ℕ) (local : Local) : Type 0 where
  pub at : standing_at ideal vcpu ≡ map stands local.at
  pub cpu : IsCpuRelated local.cpu (cpu_at ideal.guest vcpu)
  pub given : IsTrue (is_folding local.phase || list_all (λ at. not at.given) local.at)

-- The whole.

abbrev pub locals_of : CoreState → ℕ → Local
locals_of state actor = (seat_at state actor).local

-- each word and each interface says what the ideal controller has; its ITS has the same maps; and there is a place for each record
pub record Related (shape : GuestShape) (state : CoreState) (ideal : Ideal) : Type 0 where
  pub shape_is : ideal.guest.shape ≡ shape
  pub words : (word : WordId) → IsTrue (has_word shape word) → WordSays shape (locals_of state) ideal word (word_in shape state word)
  pub seats : (vcpu : ℕ) → vcpu < shape.vcpus → SeatSays ideal vcpu (locals_of state vcpu)
  pub maps : ideal.guest.tables ≡ state.maps
  pub irqs_each : length ideal.guest.irqs ≡ interrupt_count shape
  pub cpus_each : length ideal.guest.cpus ≡ shape.vcpus
  pub words_each : length ideal.guest.words ≡ plain_count shape
  pub at_each : length ideal.at ≡ shape.vcpus
