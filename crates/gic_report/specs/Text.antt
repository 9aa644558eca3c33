-- The text of a run (own choice).
use Rattle.std.specs.Prelude.{ℕ, ◌+◌, ◌-◌, List, [], ◌∷◌, ◌++◌, length, count_by, replicate, Bool, true, false, Option, Some, None, codes, decimal}
use Rattle.std.specs.List.{flat_map}
use Rattle.std.specs.Fmt.{digits}
use Rattle.gic_soak.specs.ScnBase.declared.scenario.Scenario.{Scenario}
use Rattle.gic_soak.specs.ScnBase.declared.step.Step.{Step}
pub use Rattle.scn_saved.specs.Name.{name_text}
pub use Rattle.scn_saved.specs.Read.{is_read}
use Rattle.gic_soak.specs.GicGuest.declared.outcome.RunOut.{RunOut}
use Rattle.gic_soak.specs.GicGuest.declared.outcome.Answer.{Answer}
use Rattle.gic_soak.specs.GicGuest.declared.outcome.Answer.TheVariants.{Nothing, Value, Regs}
use Rattle.std.specs.Option.{option_map_or}
use Rattle.gic_soak.specs.GicGuest.declared.outcome.CpuEnd.{CpuEnd}
use Rattle.gic_soak.specs.GicGuest.declared.outcome.ItsEnd.{ItsEnd}
use Rattle.gic_soak.specs.GicGuest.declared.outcome.DevEnd.{DevEnd}
use Rattle.gic_soak.specs.GicGuest.declared.outcome.EvtEnd.{EvtEnd}
use Rattle.gic_soak.specs.GicGuest.declared.outcome.ColEnd.{ColEnd}
use Rattle.gic_soak.specs.GicGuest.declared.outcome.IrqEnd.{IrqEnd}
use Rattle.gic_soak.specs.GicGuest.declared.outcome.End.{End}

-- the lower-case hexadecimal digits of a number, with zeros before them up to a width
abbrev pub hex : ℕ → ℕ → List ℕ
hex width n = replicate (width - length (digits 16 false n)) 48 ++ digits 16 false n

-- the end of a line
abbrev pub newline : List ℕ
newline = 10 ∷ []

-- 0 or 1
abbrev pub flag : Bool → List ℕ
flag false = codes "0"
flag true = codes "1"

-- a vCPU's number, or a dash for none
abbrev pub vcpu_text : Option ℕ → List ℕ
vcpu_text None = codes "-"
vcpu_text (Some vcpu) = decimal vcpu

-- the trigger of an interrupt
abbrev pub trigger : Bool → List ℕ
trigger false = codes "level"
trigger true = codes "edge"

-- one of several registers in a line
abbrev pub register_value : ℕ → List ℕ
register_value value = codes " 0x" ++ hex 16 value

-- the line of the step of this number, if it answers
abbrev pub answer_line : ℕ → Answer → List ℕ
answer_line step Nothing = []
answer_line step (Value value) = decimal step ++ codes " 0x" ++ hex 16 value ++ newline
answer_line step (Regs values) = decimal step ++ codes " lrs" ++ flat_map register_value values ++ newline

-- the lines of the steps, the first of which has this number
abbrev pub answer_lines : ℕ → List Answer → List ℕ
answer_lines step [] = []
answer_lines step (answer ∷ answers) = answer_line step answer ++ answer_lines (step + 1) answers

-- the line of GICD_CTLR
abbrev pub gicd_line : ℕ → ℕ → List ℕ
gicd_line guest ctlr = codes "gicd " ++ decimal guest ++ (codes " ctlr=0x" ++ hex 8 ctlr) ++ newline

-- the line of a vCPU's CPU interface
abbrev pub cpu_line : ℕ → CpuEnd → List ℕ
cpu_line guest end =
    codes "cpu " ++ decimal guest ++ codes " " ++ decimal end.vcpu ++ (codes " vmcr=0x" ++ hex 8 end.vmcr) ++ (codes " ap0=0x" ++ hex 8 end.ap0)
    ++ (codes " ap1=0x" ++ hex 8 end.ap1) ++ (codes " lpis=" ++ flag end.lpis) ++ newline

-- which interrupt it is, and how it is configured
abbrev pub irq_setting : ℕ → IrqEnd → List ℕ
irq_setting guest end =
    codes "irq " ++ decimal guest ++ codes " " ++ name_text end.key ++ (codes " en=" ++ flag end.enabled) ++ (codes " grp=" ++ decimal end.group)
    ++ (codes " prio=0x" ++ hex 2 end.prio) ++ (codes " cfg=" ++ trigger end.edge)

-- the line of an interrupt
abbrev pub irq_line : ℕ → IrqEnd → List ℕ
irq_line guest end =
    irq_setting guest end ++ (codes " line=" ++ flag end.line) ++ (codes " rise=" ++ flag end.rise) ++ (codes " soft=" ++ flag end.soft)
    ++ (codes " act=" ++ vcpu_text end.act_by) ++ (codes " to=" ++ vcpu_text end.to) ++ newline

-- the registers of the ITS's queue
abbrev pub queue_part : ItsEnd → List ℕ
queue_part end = (codes " cbaser=0x" ++ hex 16 end.cbaser) ++ (codes " cwriter=0x" ++ hex 16 end.cwriter) ++ (codes " creadr=0x" ++ hex 16 end.creadr)

-- the line of the ITS
abbrev pub its_line : ℕ → ItsEnd → List ℕ
its_line guest end =
    codes "its " ++ decimal guest ++ (codes " ctlr=0x" ++ hex 8 end.ctlr) ++ queue_part end ++ (codes " fault=" ++ decimal end.fault) ++ newline

-- the line of a device
abbrev pub dev_line : ℕ → DevEnd → List ℕ
dev_line guest end = codes "dev " ++ decimal guest ++ codes " " ++ decimal end.device ++ (codes " bits=" ++ decimal end.bits) ++ newline

-- the line of an event
abbrev pub evt_line : ℕ → EvtEnd → List ℕ
evt_line guest end =
    codes "evt " ++ decimal guest ++ codes " " ++ decimal end.device ++ (codes " " ++ decimal end.event) ++ (codes " " ++ decimal end.id)
    ++ (codes " " ++ decimal end.icid) ++ newline

-- the line of a collection
abbrev pub col_line : ℕ → ColEnd → List ℕ
col_line guest end = codes "col " ++ decimal guest ++ codes " " ++ decimal end.icid ++ (codes " " ++ decimal end.vcpu) ++ newline

-- the lines of what the ITS has mapped
abbrev pub mapped_lines : ℕ → End → List ℕ
mapped_lines guest end = flat_map (dev_line guest) end.devs ++ flat_map (evt_line guest) end.evts ++ flat_map (col_line guest) end.cols

-- the lines of a guest
abbrev pub guest_lines : ℕ → End → List ℕ
guest_lines guest end =
    option_map_or (gicd_line guest) end.gicd [] ++ flat_map (cpu_line guest) end.cpus ++ flat_map (irq_line guest) end.irqs
    ++ option_map_or (its_line guest) end.its [] ++ mapped_lines guest end

-- the lines of the guests, the first of which has this number
abbrev pub end_lines : ℕ → List End → List ℕ
end_lines guest [] = []
end_lines guest (end ∷ ends) = guest_lines guest end ++ end_lines (guest + 1) ends

-- the last line: how many steps there are, and how many of them read
abbrev pub counts_of : ℕ → ℕ → List ℕ
counts_of steps reads = codes "end " ++ decimal steps ++ codes " " ++ decimal reads ++ newline

-- that of a scenario with these steps
abbrev pub counts_line : List Step → List ℕ
counts_line steps = counts_of (length steps) (count_by is_read steps)

-- the text of a scenario and its run
abbrev pub text : Scenario → RunOut → List ℕ
text scenario out = answer_lines 1 out.answers ++ end_lines 0 out.ends ++ counts_line scenario.steps
