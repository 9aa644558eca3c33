-- Nothing but a wire moves an interrupt's line.
use Rattle.std.proofs.Common.{◌≡◌, ◌==◌, Bool, true, false, cond, IsTrue, All, List, [], ◌∷◌, None, refl, sym, ap, ◌∙◌, subst}
use Rattle.std.proofs.lemmas.List.Elements.{All-head, All-tail}
use Rattle.eager_rest.specs.LawSavesGoOn.RunsSplit.GicIdeal.IdealGuests.Words.{has_bit, GuestShape, Key, Kind, SetEnable, ClearEnable, SetPending, ClearPending, SetActive, ClearActive, Priority, Config, Routing, has_interrupt, is_same_key, is_sgi, Irq, is_number, target_in, raised, cleared, acknowledged, deactivated}
use Rattle.eager_rest.specs.LawSavesGoOn.RunsSplit.GicIdeal.IdealGuests.GicBase.declared.operation.Kind.TheVariants.{Group}
use Rattle.eager_rest.specs.LawSavesGoOn.RunsSplit.GicIdeal.IdealGuests.Registers.{part_written, activated}
use Rattle.eager_rest.specs.LawSavesGoOn.RunsSplit.GicIdeal.IdealGuests.GicCall.declared.event.Event.TheVariants.{Raise, Read as ReadEvent, ItsEnd, Queue}
use Rattle.eager_rest.specs.LawSavesGoOn.RunsSplit.GicIdeal.IdealGuests.GicCall.declared.touch.Touching.TheVariants.{Read, Retarget, Configure, Forget}
use Rattle.eager_rest.specs.LawSavesGoOn.RunsSplit.GicIdeal.IdealGuests.Calls.{Touching, Register, Enables, MapLpi, touched, Event, Up, Down, Enable, Touch, Reach, Take, Leave, Cpu, Put, CtlrBegin, CtlrEnd, ItsBegin, Runs, Done, Stalls}
use Rattle.eager_rest.specs.LawSavesGoOn.RunsSplit.GicIdeal.IdealGuests.declared.guest.IdealGuest.{IdealGuest}
use Rattle.eager_rest.specs.LawSavesGoOn.RunsSplit.GicIdeal.IdealGuests.Ideal.{irq_at, after_event, after_events}
use Rattle.eager_rest.specs.LawSavesGoOn.RunsSplit.GicIdeal.Deeds.{acknowledges}
use Rattle.eager_rest.proofs.LawSavesGoOn.RunsSplit.GicIdeal.IdealGuests.KeyLemmas.{IsWhole}
use Rattle.eager_rest.proofs.LawSavesGoOn.RunsSplit.GicIdeal.EffectLemmas.{is_ended, changed_by, event_effect, shape_event}
use Rattle.law_unmapped_lpis.proofs.LawLoneCallsAreEager.MomentLemmas.{guest_whole}
use Rattle.eager_rest.proofs.LawSavesGoOn.OwnLemmas.{StoresOwn}
use Rattle.law_saved_runs_are_valid.proofs.RangeLemmas.{IsDoubleword}

either : (b : Bool) (one irq : Irq) → one.line ≡ irq.line → (cond b one irq).line ≡ irq.line
either true one irq same = same
either false one irq same = refl

turned : (b : Bool) (one irq : Irq) → one.line ≡ irq.line → (cond b irq one).line ≡ irq.line
turned true one irq same = refl
turned false one irq same = same

touched_line : (shape : GuestShape) (key : Key) (touch : Touching) (irq : Irq) → (touched shape key touch irq).line ≡ irq.line
touched_line shape key (Read kind) irq = refl
touched_line shape key (Register kind value) irq = written kind
  where
    written : (kind : Kind) → (part_written kind key irq value shape).line ≡ irq.line
    written Group = refl
    written SetEnable = either (value == 1) (record irq { enabled = true }) irq refl
    written ClearEnable = either (value == 1) (record irq { enabled = false }) irq refl
    written SetPending = either (value == 1) (raised irq) irq refl
    written ClearPending = either (value == 1) (cleared irq) irq refl
    written SetActive = either (value == 1) (record irq { act_by = activated irq.act_by (target_in irq.route shape) }) irq refl
    written ClearActive = either (value == 1) (record irq { act_by = None }) irq refl
    written Priority = refl
    written Config = turned (is_sgi key) (record irq { edge = has_bit value 1 }) irq refl
    written Routing = refl
touched_line shape key (Enables en0 en1) irq = refl
touched_line shape key (MapLpi target enabled prio) irq = refl
touched_line shape key (Retarget target) irq = refl
touched_line shape key (Configure enabled prio) irq = refl
touched_line shape key Forget irq = refl

line_by : (guest : IdealGuest) (event : Event) (key : Key) (irq : Irq) → StoresOwn guest.shape IsDoubleword ⊥ event → (changed_by event guest key irq).line ≡ irq.line
line_by guest (Raise j) key irq own = either (is_same_key key j) (raised irq) irq refl
line_by guest (Up j) key irq own = absurd own
line_by guest (Down j) key irq own = absurd own
line_by guest (Touch j touch) key irq own = either (is_same_key key j) (touched guest.shape j touch irq) irq (touched_line guest.shape j touch irq)
line_by guest (Cpu vcpu reg write) key irq own =
    let next = cond (acknowledges (Cpu vcpu reg write) guest key) (acknowledged key vcpu irq) irq in
    either (is_ended reg write guest vcpu key) (deactivated vcpu next) next (either (is_number vcpu next.act_by) (record next { act_by = None }) next refl)
    ∙ either (acknowledges (Cpu vcpu reg write) guest key) (acknowledged key vcpu irq) irq refl
line_by guest (Enable vcpu) key irq own = refl
line_by guest (Reach j vcpu) key irq own = refl
line_by guest (Take j vcpu) key irq own = refl
line_by guest (Leave j vcpu) key irq own = refl
line_by guest (ReadEvent place) key irq own = refl
line_by guest (Put word value) key irq own = refl
line_by guest (CtlrBegin enables) key irq own = refl
line_by guest CtlrEnd key irq own = refl
line_by guest ItsBegin key irq own = refl
line_by guest ItsEnd key irq own = refl
line_by guest (Queue offset Runs) key irq own = refl
line_by guest (Queue offset (Done words)) key irq own = refl
line_by guest (Queue offset (Stalls fault)) key irq own = refl

pub events_line : (events : List Event) (guest : IdealGuest) (key : Key) → IsWhole guest → All (StoresOwn guest.shape IsDoubleword ⊥) events → IsTrue (has_interrupt guest.shape key) → (irq_at (after_events events guest) key).line ≡ (irq_at guest key).line
events_line [] guest key whole own there = refl
events_line (event ∷ events) guest key whole own there =
    let shape = shape_event event guest in
    let first = All-head (StoresOwn guest.shape IsDoubleword ⊥) event events own in
    events_line events (after_event guest event) key (guest_whole event guest whole) (subst (λ s. All (StoresOwn s IsDoubleword ⊥) events) (sym shape) (All-tail (StoresOwn guest.shape IsDoubleword ⊥) event events own))
    (ap (λ s. has_interrupt s key) shape ∙ there)
    ∙ ap (λ (irq : Irq). irq.line) (event_effect event guest key whole there)
    ∙ line_by guest event key (irq_at guest key) first
