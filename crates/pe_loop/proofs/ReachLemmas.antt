-- What a claim leaves of the vCPU's own state.
use Rattle.std.proofs.Common.{◌≡◌, ◌≢◌, ℕ, ◌&&◌, ◌⊎◌, inl, inr, Bool, true, false, cond, if◌then◌else◌, IsTrue, List, [], ◌∷◌, ◌++◌, Option, Some, None, is_some, refl, sym, ap, ◌∙◌}
use Rattle.std.specs.Option.{option_map_or}
use Rattle.std.proofs.lemmas.Bool.{eq-eqb}
use Rattle.port_call.specs.Words.{Key, GuestShape, is_same_key, Irq as IrqRecord, is_number}
use Rattle.vcpu_state.proofs.GicBase.KeyLemmas.{same_itself}
use Rattle.port_call.specs.Calls.{Moved, reached, may_take, taken}
use Rattle.port_call.specs.Lists.{LrState, Invalid, Pending, Active, Both, state_has_active, Choice}
use Rattle.port_call.specs.Registers.{CpuRec, is_deliverable}
use Rattle.port_call.specs.Core.{AtIrq, Local, claimed_at, may_move, moved_of, claimed_irq, entry_for, changed_at, with_entry, arrived, settled}
use Rattle.port_call.proofs.CoreProper.ReachLemmas.{number_is, none_is, inactive, entry_added}
use Rattle.pe_loop.specs.Claiming.{IsRight, without_causes, at_of}

-- Its causes and its state.

-- an interrupt that is active has come without its causes
abbrev pub bare_of : Choice → AtIrq
bare_of choice = at_of (without_causes choice)

pub active_reached : (vcpu : ℕ) (choice : Choice) → IsTrue (is_number vcpu choice.irq.act_by) → arrived choice.key choice.irq (reached choice.irq).entry ≡ bare_of choice
active_reached vcpu choice h =
    let key = choice.key in
    let irq = choice.irq in
    ap (λ act. arrived key irq (reached (record irq { act_by = act })).entry) (number_is vcpu irq.act_by h)

-- what was chosen with State 1 or 2 has come as it was chosen
pub whole_reached : (shape : GuestShape) (vcpu : ℕ) (cpu : CpuRec) (choice : Choice) → IsRight shape vcpu cpu choice → choice.entry.state ≢ Both → arrived choice.key choice.irq (reached choice.irq).entry ≡ at_of choice
whole_reached shape vcpu cpu choice right not_both = of right.state
  where
    with_state : LrState → Choice
    with_state state = record choice { entry = record choice.entry { state = state } }

    active_is : (state : LrState) → IsTrue (state_has_active state) → state ≢ Both → Active ≡ state
    active_is Invalid h n = absurd (cc)
    active_is Pending h n = absurd (cc)
    active_is Active h n = refl
    active_is Both h n = absurd (n refl)

    of : ((choice.entry.state ≡ Pending) × IsTrue (is_deliverable choice.key choice.irq vcpu cpu shape)) ⊎ (IsTrue (state_has_active choice.entry.state) × IsTrue (is_number vcpu choice.irq.act_by)) → arrived choice.key choice.irq (reached choice.irq).entry ≡ at_of choice
    of (inl pending) =
        let key = choice.key in
        let irq = choice.irq in
        ap (λ act. arrived key irq (reached (record irq { act_by = act })).entry) (none_is irq.act_by (inactive key irq vcpu cpu shape pending.1))
        ∙ ap (λ state. at_of (record choice { entry = record choice.entry { state = state } })) (sym pending.0)
    of (inr active) = active_reached vcpu choice active.1 ∙ ap (λ state. at_of (record choice { entry = record choice.entry { state = state } })) (active_is choice.entry.state active.0 not_both)

-- The actor's own state.

pub reached_irq : (actor : ℕ) (local : Local) (key : Key) (irq : IrqRecord) → entry_for key local.at ≡ None → IsTrue (is_number actor irq.act_by) → claimed_irq actor local key irq ≡ record irq { holder = Some actor }
reached_irq actor local key irq free active =
    ap (λ o. (option_map_or (λ entry. taken (moved_of irq entry)) o (record (reached irq) { irq = record (reached irq).irq { holder = Some actor } })).irq) free
    ∙ ap (λ act. record (reached (record irq { act_by = act })).irq { holder = Some actor }) (number_is actor irq.act_by active)
    ∙ ap (λ act. record irq { act_by = act; holder = Some actor }) (sym (number_is actor irq.act_by active))

-- and changes there alone
pub added_changed : (change : AtIrq → AtIrq) (key : Key) (at : List AtIrq) (one : AtIrq) → one.key ≡ key → entry_for key at ≡ None → changed_at change key (at ++ one ∷ []) ≡ at ++ change one ∷ []
added_changed change key [] one is free = ap (λ b. (if b then change one else one) ∷ []) (ap (λ other. is_same_key other key) is ∙ same_itself key)
added_changed change key (other ∷ at) one is free = of (is_same_key other.key key) refl free (added_changed change key at one is)
  where
    of : (b : Bool) → is_same_key other.key key ≡ b → cond b (Some other) (entry_for key at) ≡ None → (entry_for key at ≡ None → changed_at change key (at ++ one ∷ []) ≡ at ++ change one ∷ []) → (if is_same_key other.key key then change other else other) ∷ changed_at change key (at ++ one ∷ []) ≡ other ∷ (at ++ change one ∷ [])
    of true e f later = absurd (cc)
    of false e f later = ap (λ b. (if b then change other else other) ∷ changed_at change key (at ++ one ∷ [])) e ∙ ap (λ rest. other ∷ rest) (later f)

-- an interrupt that came without its causes got them
pub taken_local : (shape : GuestShape) (actor : ℕ) (choice : Choice) (irq : IrqRecord) (local : Local) (before : List AtIrq) → local.at ≡ before ++ bare_of choice ∷ [] → entry_for choice.key before ≡ None → choice.entry.state ≡ Both → irq ≡ record choice.irq { holder = Some actor }
    → claimed_at shape actor choice.key irq local ≡ record local { cands = settled shape actor choice.key local.cands; at = before ++ at_of choice ∷ [] }
taken_local shape actor choice irq local before at free both irq_is =
    let key = choice.key in
    let one = bare_of choice in
    let there : entry_for key local.at ≡ Some one = ap (entry_for key) at ∙ entry_added key before one refl free in
    let moved : Option AtIrq → Moved = λ o. option_map_or (λ entry. taken (moved_of irq entry)) o (record (reached irq) { irq = record (reached irq).irq { holder = Some actor } }) in
    let change : AtIrq → AtIrq = λ entry. record (with_entry entry (taken (moved_of irq one)).entry) { consumed = false } in
    let by : Option AtIrq → Local = λ o.
    record local {
      cands = settled shape actor key local.cands;
      at = if is_some o then changed_at (λ entry. record (with_entry entry (moved o).entry) { consumed = false }) key local.at else local.at ++ arrived key irq (moved o).entry ∷ [];
    } in
    let with_at : List AtIrq → Local = λ at. record local { cands = settled shape actor key local.cands; at = at } in
    ap by there
    ∙ ap with_at (ap (changed_at change key) at ∙ added_changed change key before one refl free)
    ∙ ap (λ irq. with_at (before ++ (record (with_entry one (taken (moved_of irq one)).entry) { consumed = false }) ∷ [])) irq_is
    ∙ ap (λ state. with_at (before ++ at_of (record choice { entry = record choice.entry { state = state } }) ∷ [])) (sym both)

-- its causes may be taken
pub may_take_causes : (shape : GuestShape) (actor : ℕ) (choice : Choice) (local : Local) (before : List AtIrq) → local.at ≡ before ++ bare_of choice ∷ [] → entry_for choice.key before ≡ None → IsTrue (is_deliverable choice.key (record choice.irq { act_by = None }) actor local.cpu shape)
    → may_move shape actor local choice.key (record choice.irq { holder = Some actor }) ≡ true
may_take_causes shape actor choice local before at free deliverable =
    let key = choice.key in
    let held : IrqRecord = record choice.irq { holder = Some actor } in
    let there : entry_for key local.at ≡ Some (bare_of choice) = ap (entry_for key) at ∙ entry_added key before (bare_of choice) refl free in
    ap (λ o. option_map_or (λ entry. is_number actor (Some actor) && may_take shape key (moved_of held entry) actor local.cpu) o false) there
    ∙ ap (λ b. b && is_deliverable key (record choice.irq { act_by = None }) actor local.cpu shape) (eq-eqb actor actor refl)
    ∙ deliverable
