-- A vCPU on a PE raises an interrupt, as a device would.
use Rattle.std.proofs.Common.{ℕ, Bool, true, false, if◌then◌else◌, IsTrue, refl, sym, ap, subst, ◌∙◌}
use Rattle.port_seq.specs.Words.{Key, Spi, has_interrupt, irq_of}
use Rattle.port_seq.specs.Calls.{Event, Up, Down}
use Rattle.pe_icc.specs.VcpuState.declared.loaded.Loaded.{Loaded}
use Rattle.pe_mem.specs.Core.{Local, CoreStep, WireUp, WireDown, concerned, is_ready, owes_no_mark, Seen, AddsStep, CanMake, shape_of}
use Rattle.pe_mem.specs.PortCall.Rest.{StaysAtEase}
use Rattle.pe_mem.specs.PortCall.Settle.{Settles}
use Rattle.pe_mem.specs.PortCall.Tell.{Tells}
use Rattle.pe_mem.proofs.PortCall.RestLemmas.{owes_none, told_at_ease}
use Rattle.pe_mem.proofs.PortCall.TellLemmas.{IsCause, tells}
use Rattle.pe_icc.specs.PeLoop.Stay.{IsUp}
use Rattle.pe_icc.proofs.PeLoop.LeaveLemmas.{settled_owes}
use Rattle.pe_icc.proofs.IccLemmas.{still_on}

pub no_marks : (seen : Seen) (vcpu : Loaded) → IsUp seen vcpu → IsTrue (owes_no_mark seen.local)
no_marks seen vcpu up = (owes_none seen.local (settled_owes seen.local up.on.settled)).marks

pub up_told : (old new : Seen) (vcpu : Loaded) (step : CoreStep) (key : Key) (event : Event) → IsUp old vcpu → Tells old new step key event → IsUp new vcpu
up_told old new vcpu step key event up told =
    let stays : StaysAtEase old.local new.local
    = subst (StaysAtEase old.local) (sym told.local_is) (told_at_ease (shape_of old) old.actor key (concerned (shape_of old) (irq_of told.form.change.found)) old.local (settled_owes old.local up.on.settled)) in
    record {
      on = still_on old new told.part vcpu told.adds stays up.on;
      lrs = up.lrs;
      ready = ap (λ (local : Local). is_ready local.phase) stays.same ∙ up.ready;
      free = up.free;
      bare = λ trapping. ap (λ (local : Local). local.at) stays.same ∙ up.bare trapping;
    }

-- the step of a wire
abbrev wire_step : ℕ → Bool → CoreStep
wire_step id up = if up then WireUp (Spi id) else WireDown (Spi id)

wire_event : ℕ → Bool → Event
wire_event id up = if up then Up (Spi id) else Down (Spi id)

wire_is_cause : (id : ℕ) (up : Bool) → IsCause (wire_step id up) (Spi id) (wire_event id up)
unfolding wire_event
wire_is_cause id true = record { owes = λ shape actor local found. refl; stands = λ shape actor local own found. refl; plain = refl; known = λ seen. refl; untaking = refl }
wire_is_cause id false = record { owes = λ shape actor local found. refl; stands = λ shape actor local own found. refl; plain = refl; known = λ seen. refl; untaking = refl }

pub can_wire : (seen : Seen) (vcpu : Loaded) (id : ℕ) (up : Bool) → IsUp seen vcpu → IsTrue (has_interrupt (shape_of seen) (Spi id)) → CanMake seen (if up then WireUp (Spi id) else WireDown (Spi id))
can_wire seen vcpu id true up there = record { can = there; seen_is = tt; meets = no_marks seen vcpu up; tables = refl }
can_wire seen vcpu id false up there = record { can = there; seen_is = tt; meets = no_marks seen vcpu up; tables = refl }

pub up_wired : (old mid new : Seen) (vcpu : Loaded) (id found : ℕ) (up : Bool) → IsUp old vcpu → AddsStep old mid (if up then WireUp (Spi id) else WireDown (Spi id)) found → Settles mid new → IsUp new vcpu
up_wired old mid new vcpu id found up is add rest = up_told old new vcpu (wire_step id up) (Spi id) (wire_event id up) is (tells old mid new (wire_step id up) (Spi id) (wire_event id up) found (wire_is_cause id up) add rest)
