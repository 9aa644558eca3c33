-- Runs from states that differ in the number of a past fault.
use Rattle.std.proofs.Common.{◌≡◌, ℕ, zero, suc, ◌+◌, ◌&&◌, not, Bool, true, false, if◌then◌else◌, List, [], ◌∷◌, map, get_or, Option, Some, None, refl, sym, ap, subst, ◌∙◌}
use Rattle.std.specs.Option.{option_map_or}
use Rattle.std.specs.List.{slice_get, slice_set}
use Rattle.gic_ideal.specs.ScnBase.declared.step.Step.{Step}
use Rattle.gic_ideal.specs.ScnBase.declared.step.Step.TheVariants.{Vcpu, Device, Pe}
use Rattle.gic_ideal.specs.ScnBase.declared.pes.VcpuName.{VcpuName}
use Rattle.gic_ideal.specs.ScnBase.Standing.{pes_after}
use Rattle.gic_ideal.specs.IdealGuests.Words.{GuestOp, Icc, Mem, DeviceOp, Enter, Exit, Lrs, interrupt_count}
use Rattle.gic_ideal.specs.IdealGuests.Registers.{has_lpis, enabled_in, creadr_of}
use Rattle.gic_ideal.specs.IdealGuests.GicImap.Contents.{ctlr_of as its_ctlr_of}
use Rattle.gic_ideal.specs.IdealGuests.Calls.{RunOut, Value, Regs, Event, View, ItsCtlr, Cbaser, Cwriter, its_from, icc_events, access_events, access_value, device_events}
use Rattle.gic_ideal.specs.IdealGuests.GicCall.Call.{starts_commands}
use Rattle.gic_ideal.specs.IdealGuests.GicGuest.declared.outcome.Answer.{Answer}
use Rattle.gic_ideal.specs.IdealGuests.GicGuest.declared.outcome.Answer.TheVariants.{Nothing}
use Rattle.gic_ideal.specs.IdealGuests.GicGuest.declared.outcome.End.{End}
use Rattle.gic_ideal.specs.IdealGuests.GicGuest.declared.outcome.ItsEnd.{ItsEnd}
use Rattle.gic_ideal.specs.IdealGuests.declared.guest.IdealGuest.{IdealGuest}
use Rattle.gic_ideal.specs.IdealGuests.Ideal.{access_answer, view_of, after_events, after_queued}
use Rattle.gic_ideal.specs.IdealGuests.Call.{after_op, op_answer, after_device}
use Rattle.gic_ideal.specs.Shown.{registers_of}
use Rattle.gic_ideal.specs.Ends.{gicd_end, cpu_end, irq_end, is_same_cpu_end, is_same_irq_end, changed, its_end, is_same_its_end, dev_end, evt_end, col_end, end_of, ends_of}
use Rattle.gic_ideal.specs.Eager.{at_guest, after_step, shown, step_answer, after_steps, answers_of}
use Rattle.law_runs_split.specs.Faults.{AreAlike, AreAllAlike, PastFaultsDoNotMatter}
use Rattle.law_runs_split.proofs.FaultLemmas.{with_words, Twins, twins_of, looks_same, same_events, same_starts, same_value, same_device, events_twins, twins_see, queued_twins}

-- ---- one guest

icc_twins : (vcpu : ℕ) (one other : IdealGuest) (own their : List Event) → own ≡ their → Twins one other → Twins (after_events own one) (after_events their other)
icc_twins vcpu one other own their same twins = subst (λ (events : List Event). Twins (after_events own one) (after_events events other)) same (events_twins own one other twins)

op_twins : (op : GuestOp) (vcpu : ℕ) (one other : IdealGuest) → Twins one other → Twins (after_op op one vcpu) (after_op op other vcpu)
op_twins (Icc reg write) vcpu one other twins =
    icc_twins vcpu one other (icc_events one.shape vcpu reg write) (icc_events other.shape vcpu reg write) (twins_see (λ guest view. icc_events guest.shape vcpu reg write) one other (λ base words view. refl) (λ base view. refl) twins) twins
op_twins (Mem frame offset size write) vcpu one other twins =
    let own = access_events one.shape (view_of one) frame offset size write in
    let their = access_events other.shape (view_of other) frame offset size write in
    let same : own ≡ their = twins_see (λ guest view. access_events guest.shape view frame offset size write) one other (λ base words view. refl) (λ base view. same_events base.shape view frame offset size write) twins in
    let starts : starts_commands one.shape (view_of one) frame offset size write ≡ starts_commands other.shape (view_of other) frame offset size write =
    twins_see (λ guest view. starts_commands guest.shape view frame offset size write) one other (λ base words view. refl) (λ base view. same_starts base.shape view frame offset size write) twins in
    of (after_events own one) (after_events their other) (starts_commands one.shape (view_of one) frame offset size write) (starts_commands other.shape (view_of other) frame offset size write) starts (icc_twins vcpu one other own their same twins)
  where
    of : (own their : IdealGuest) (a b : Bool) → a ≡ b → Twins own their → Twins (if a then after_queued own else own) (if b then after_queued their else their)
    of own their true true e twins = queued_twins own their twins
    of own their false false e twins = twins
    of own their true false e twins = absurd (cc)
    of own their false true e twins = absurd (cc)

op_same : (op : GuestOp) (vcpu : ℕ) (one other : IdealGuest) → Twins one other → op_answer op one vcpu ≡ op_answer op other vcpu
op_same (Icc reg write) vcpu one other twins = twins_see (λ guest view. option_map_or Value (access_answer reg write guest vcpu) Nothing) one other (λ base words view. refl) (λ base view. refl) twins
op_same (Mem frame offset size None) vcpu one other twins =
    ap Value (twins_see (λ guest view. access_value guest.shape view frame offset size) one other (λ base words view. refl) (λ base view. same_value base.shape view frame offset size) twins)
op_same (Mem frame offset size (Some value)) vcpu one other twins = refl

device_twins : (op : DeviceOp) (one other : IdealGuest) → Twins one other → Twins (after_device op one) (after_device op other)
device_twins op one other twins =
    icc_twins 0 one other (device_events (view_of one) op) (device_events (view_of other) op) (twins_see (λ guest view. device_events view op) one other (λ base words view. refl) (λ base view. same_device view op) twins) twins

registers_same : (n vcpu : ℕ) (one other : IdealGuest) → Twins one other → Regs (registers_of n one vcpu) ≡ Regs (registers_of n other vcpu)
registers_same n vcpu one other twins = twins_see (λ guest view. Regs (registers_of n guest vcpu)) one other (λ base words view. refl) (λ base view. refl) twins

-- ---- its end

its_end_of : IdealGuest → View → ℕ → ItsEnd
its_end_of base view fault =
    record { ctlr = its_ctlr_of (enabled_in (view.words ItsCtlr)); cbaser = view.words Cbaser; cwriter = view.words Cwriter; creadr = creadr_of base.is_stalled base.offset; fault = fault }

stall_same : (b : Bool) (its others : List ℕ) (n : ℕ) → (b ≡ true → its ≡ others) → (if b then get_or its n 0 else 0) ≡ (if b then get_or others n 0 else 0)
stall_same true its others n same = ap (λ words. get_or words n 0) (same refl)
stall_same false its others n same = refl

its_end_same : (base : IdealGuest) (its others : List ℕ) → AreAlike base.shape base.is_stalled its others → its_end (with_words base its) ≡ its_end (with_words base others)
unfolding its_end_of
its_end_same base its others alike =
    let n = its_from base.shape + 5 in
    looks_same (λ view. its_end_of base view (if base.is_stalled then get_or its n 0 else 0)) base its others (λ view. refl) alike
    ∙ ap (its_end_of base (view_of (with_words base others))) (stall_same base.is_stalled its others n alike.fault)

end_with : IdealGuest → IdealGuest → ItsEnd → End
end_with opened closed own =
    record {
      gicd = gicd_end opened closed;
      cpus = changed is_same_cpu_end (cpu_end opened) (cpu_end closed) opened.shape.vcpus;
      irqs = changed is_same_irq_end (irq_end opened) (irq_end closed) (interrupt_count opened.shape);
      its = if has_lpis closed.shape && not (is_same_its_end (its_end opened) own) then Some own else None;
      devs = map dev_end closed.tables.devices;
      evts = map evt_end closed.tables.events;
      cols = map col_end closed.tables.collections;
    }

end_same : (opened one other : IdealGuest) → Twins one other → end_of opened one ≡ end_of opened other
unfolding end_with
end_same opened one other twins =
    ap (end_of opened) twins.one_is
    ∙ ap (end_with opened twins.base) (its_end_same twins.base twins.its twins.others twins.alike)
    ∙ ap (end_of opened) (sym twins.other_is)

-- ---- all guests

AllTwins : List IdealGuest → List IdealGuest → Type 0
AllTwins [] [] = Unit {0}
AllTwins [] (other ∷ others) = ⊥
AllTwins (one ∷ ones) [] = ⊥
AllTwins (one ∷ ones) (other ∷ others) = Twins one other × AllTwins ones others

all_twins : (ones others : List IdealGuest) → AreAllAlike ones others → AllTwins ones others
unfolding AllTwins
all_twins [] [] alike = tt
all_twins [] (other ∷ others) alike = absurd alike
all_twins (one ∷ ones) [] alike = absurd alike
all_twins (one ∷ ones) (other ∷ others) alike = (twins_of one other alike.0, all_twins ones others alike.1)

-- a change of one of them
later_guest : (n : ℕ) (change : IdealGuest → IdealGuest) (guest : IdealGuest) (guests : List IdealGuest) → at_guest (suc n) change (guest ∷ guests) ≡ guest ∷ at_guest n change guests
later_guest n change guest guests = of (slice_get guests n)
  where
    of : (o : Option IdealGuest) → option_map_or (λ found. slice_set (guest ∷ guests) (suc n) (change found)) o (guest ∷ guests) ≡ guest ∷ option_map_or (λ found. slice_set guests n (change found)) o guests
    of None = refl
    of (Some found) = refl

at_twins : (n : ℕ) (change : IdealGuest → IdealGuest) → ((one other : IdealGuest) → Twins one other → Twins (change one) (change other)) → (ones others : List IdealGuest) → AllTwins ones others → AllTwins (at_guest n change ones) (at_guest n change others)
unfolding AllTwins
at_twins n change keeps [] [] twins = tt
at_twins n change keeps [] (other ∷ others) twins = absurd twins
at_twins n change keeps (one ∷ ones) [] twins = absurd twins
at_twins zero change keeps (one ∷ ones) (other ∷ others) twins = (keeps one other twins.0, twins.1)
at_twins (suc n) change keeps (one ∷ ones) (other ∷ others) twins =
    subst (λ (left : List IdealGuest). AllTwins left (at_guest (suc n) change (other ∷ others))) (sym (later_guest n change one ones))
    (subst (λ (right : List IdealGuest). AllTwins (one ∷ at_guest n change ones) right) (sym (later_guest n change other others)) (twins.0, at_twins n change keeps ones others twins.1))

-- what one of them answers
get_same : (n : ℕ) (told : IdealGuest → Answer) → ((one other : IdealGuest) → Twins one other → told one ≡ told other) → (ones others : List IdealGuest) → AllTwins ones others
    → option_map_or told (slice_get ones n) Nothing ≡ option_map_or told (slice_get others n) Nothing
unfolding AllTwins
get_same n told same [] [] twins = refl
get_same n told same [] (other ∷ others) twins = absurd twins
get_same n told same (one ∷ ones) [] twins = absurd twins
get_same zero told same (one ∷ ones) (other ∷ others) twins = same one other twins.0
get_same (suc n) told same (one ∷ ones) (other ∷ others) twins = get_same n told same ones others twins.1

step_twins : (step : Step) (ones others : List IdealGuest) → AllTwins ones others → AllTwins (after_step step ones) (after_step step others)
step_twins (Vcpu guest vcpu op) ones others twins = at_twins guest (λ state. after_op op state vcpu) (op_twins op vcpu) ones others twins
step_twins (Device guest device op) ones others twins = at_twins guest (after_device op) (device_twins op) ones others twins
step_twins (Pe pe op) ones others twins = twins

shown_same : (n : ℕ) (resident : Option VcpuName) (ones others : List IdealGuest) → AllTwins ones others → shown n resident ones ≡ shown n resident others
shown_same n None ones others twins = refl
shown_same n (Some name) ones others twins = get_same name.guest (λ state. Regs (registers_of n state name.vcpu)) (registers_same n name.vcpu) ones others twins

answer_same : (n : ℕ) (pes : List (Option VcpuName)) (step : Step) (ones others : List IdealGuest) → AllTwins ones others → step_answer n pes step ones ≡ step_answer n pes step others
answer_same n pes (Vcpu guest vcpu op) ones others twins = get_same guest (λ state. op_answer op state vcpu) (op_same op vcpu) ones others twins
answer_same n pes (Device guest device op) ones others twins = refl
answer_same n pes (Pe pe Lrs) ones others twins = shown_same n (get_or pes pe None) ones others twins
answer_same n pes (Pe pe Exit) ones others twins = refl
answer_same n pes (Pe pe (Enter guest vcpu)) ones others twins = refl

answers_same : (n : ℕ) (pes : List (Option VcpuName)) (steps : List Step) (ones others : List IdealGuest) → AllTwins ones others → answers_of n pes steps ones ≡ answers_of n pes steps others
answers_same n pes [] ones others twins = refl
answers_same n pes (step ∷ steps) ones others twins =
    ap (λ answer. answer ∷ answers_of n (pes_after step pes) steps (after_step step ones)) (answer_same n pes step ones others twins)
    ∙ ap (λ answers. step_answer n pes step others ∷ answers) (answers_same n (pes_after step pes) steps (after_step step ones) (after_step step others) (step_twins step ones others twins))

steps_twins : (steps : List Step) (ones others : List IdealGuest) → AllTwins ones others → AllTwins (after_steps steps ones) (after_steps steps others)
steps_twins [] ones others twins = twins
steps_twins (step ∷ steps) ones others twins = steps_twins steps (after_step step ones) (after_step step others) (step_twins step ones others twins)

ends_same : (opened ones others : List IdealGuest) → AllTwins ones others → ends_of opened ones ≡ ends_of opened others
unfolding AllTwins
ends_same [] ones others twins = refl
ends_same (before ∷ opened) [] [] twins = refl
ends_same (before ∷ opened) [] (other ∷ others) twins = absurd twins
ends_same (before ∷ opened) (one ∷ ones) [] twins = absurd twins
ends_same (before ∷ opened) (one ∷ ones) (other ∷ others) twins =
    ap (λ closed. closed ∷ ends_of opened ones) (end_same before one other twins.0) ∙ ap (λ ends. end_of before other ∷ ends) (ends_same opened ones others twins.1)

pub past_faults_do_not_matter : PastFaultsDoNotMatter
past_faults_do_not_matter lrs pes steps opened ones others alike =
    let twins = all_twins ones others alike in
    ap (λ (answers : List Answer). let out : RunOut = record { answers = answers; ends = ends_of opened (after_steps steps ones) } in out) (answers_same lrs pes steps ones others twins)
    ∙ ap (λ (ends : List End). let out : RunOut = record { answers = answers_of lrs pes steps others; ends = ends } in out) (ends_same opened (after_steps steps ones) (after_steps steps others) (steps_twins steps ones others twins))
