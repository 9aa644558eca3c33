-- The text of a run of linked interrupts (own choice).
use Rattle.std.specs.Prelude.{ℕ, ◌+◌, Bool, true, false, if◌then◌else◌, Option, Some, None, List, [], ◌∷◌, ◌++◌, map, filter, find, length, replicate, count_by, codes, decimal}
use Rattle.std.specs.Option.{option_map_or}
use Rattle.gic_ich.specs.Words.{GuestShape, Irq, Target, Spi, G1}
use Rattle.gic_ich.specs.GicPrio.declared.cpu.CpuRec.{CpuRec}
use Rattle.gic_ich.specs.GicPrio.Interface.{interface_answer}
use Rattle.floor_lists.specs.Lists.{Offer, plan, words_of}
use Rattle.scn_read.specs.GicGuest.declared.outcome.Answer.{Answer}
use Rattle.scn_read.specs.GicGuest.declared.outcome.Answer.TheVariants.{Nothing, Value, Regs}
use Rattle.gic_report.specs.Text.{answer_line, newline}
use Rattle.gic_host.specs.declared.step.HostStep.{HostStep}
use Rattle.gic_host.specs.declared.step.HostStep.TheVariants.{Phys, Icc, Enter, Exit, Lrs}
use Rattle.gic_host.specs.declared.scenario.HostScenario.{HostScenario}
use Rattle.gic_host.specs.declared.state.LinkState.{LinkState}
use Rattle.gic_host.specs.Link.{linked_fill}
use Rattle.gic_host.specs.State.{HostState, opening, is_of, is_pending, is_active, is_at, cpu_at, interface_at, after}

-- ---- the list registers

-- a virtual interrupt as a record: an edge-triggered one of group 1, enabled and for its vCPU
abbrev pub irq_of : LinkState → Irq
irq_of l =
    record {
      prio = l.link.prio;
      enabled = true;
      group = G1;
      edge = true;
      line = false;
      rise = is_pending l.state;
      soft = false;
      act_by = if is_active l.state then Some l.link.vcpu else None;
      holder = None;
      want = false;
      en0 = true;
      en1 = true;
      route = Target (Some l.link.vcpu);
    }

abbrev pub offer_of : LinkState → Offer
offer_of l = record { key = Spi l.link.vid; irq = irq_of l }

-- what a vCPU has at its interface, to be planned
abbrev pub offers_at : List LinkState → ℕ → List Offer
offers_at links vcpu = map offer_of (filter (is_at vcpu) links)

-- a guest that has vCPUs, and no interrupts of its own
abbrev pub shape_of : ℕ → GuestShape
shape_of vcpus = record { vcpus = vcpus; spis = 0; espis = 0; devices = 0; lpis = 0; ram = 0 }

-- ICH_HCR and the list registers of a PE with n of them for one of so many vCPUs: its plan, with its links
abbrev pub planned_registers : ℕ → ℕ → CpuRec → ℕ → List LinkState → List ℕ
planned_registers n vcpus cpu vcpu links =
    let fill = linked_fill (map (λ l. l.link) links) vcpu (plan (offers_at links vcpu) vcpu cpu (shape_of vcpus) n) in
    fill.hcr ∷ words_of fill n

-- the same for the vCPU that is loaded, or zeros
abbrev pub registers_of : ℕ → HostState → List ℕ
registers_of n host =
    option_map_or (λ vcpu. planned_registers n (length host.cpus) (cpu_at host.cpus vcpu) vcpu host.links) host.loaded (replicate (n + 1) 0)

-- ---- lines

-- the state of a physical interrupt, by its latch and whether it is active
abbrev pub phys_state : Bool → Bool → List ℕ
phys_state false false = codes "inactive"
phys_state true false = codes "pending"
phys_state false true = codes "active"
phys_state true true = codes "both"

-- the line of a step that shows a physical interrupt
abbrev pub phys_line : ℕ → LinkState → List ℕ
phys_line number l = decimal number ++ codes " phys " ++ decimal l.link.phys ++ codes " " ++ phys_state l.latch l.active ++ newline

-- what an access answers
abbrev pub answer : Option ℕ → Answer
answer None = Nothing
answer (Some value) = Value value

-- the line of a step of this number on a PE with n list registers, if it has one
abbrev pub line : ℕ → ℕ → HostStep → HostState → List ℕ
line n number (Phys phys None) host = option_map_or (phys_line number) (find (is_of phys) host.links) []
line n number (Phys phys (Some set)) host = []
line n number (Icc reg write) host = option_map_or (λ vcpu. answer_line number (answer (interface_answer reg write (interface_at host vcpu)))) host.loaded []
line n number (Enter vcpu) host = []
line n number Exit host = []
line n number Lrs host = answer_line number (Regs (registers_of n host))

-- the lines of steps, the first of which has this number
abbrev pub lines : ℕ → ℕ → HostState → List HostStep → List ℕ
lines n number host [] = []
lines n number host (step ∷ steps) = line n number step host ++ lines n (number + 1) (after step host) steps

-- a step that reads a register of the CPU interface
abbrev pub is_read : HostStep → Bool
is_read (Icc reg None) = true
is_read step = false

-- the last line: how many steps there are, and how many of them read
abbrev pub counts_line : List HostStep → List ℕ
counts_line steps = codes "end " ++ decimal (length steps) ++ codes " " ++ decimal (count_by is_read steps) ++ newline

abbrev pub text : HostScenario → List ℕ
text scenario = lines scenario.lrs 1 (opening scenario) scenario.steps ++ counts_line scenario.steps
