-- For which vCPUs LPIs are after some events, and what a call notes of that.
use Rattle.std.proofs.Common.{◌≡◌, ℕ, ◌==◌, not, Bool, true, false, cond, IsTrue, List, [], ◌∷◌, ◌++◌, Option, Some, None, refl, sym, ap, ◌∙◌}
use Rattle.std.specs.List.{list_all}
use Rattle.std.proofs.lemmas.Bool.{and_parts, eq-eqb, eqb-true}
use Rattle.std.proofs.lemmas.List.{append-nil, append_assoc}
use Rattle.law_home_commutes.specs.Words.{Key, Private, Spi, Lpi, is_same_key, Irq, raised, wire_up, wire_down, acknowledged, deactivated, IccReg}
use Rattle.law_home_commutes.specs.Registers.{taken_by, deactivated_by, Candidate}
use Rattle.law_home_commutes.specs.Calls.{Event, Up, Down, Touch, Reach, Take, Leave, Enable, Cpu, Put, CtlrBegin, CtlrEnd, ItsBegin, Runs, Done, Stalls, touched, is_beside}
use Rattle.law_home_commutes.specs.GicCall.declared.event.Event.TheVariants.{Raise, Read, ItsEnd, Queue}
use Rattle.law_home_commutes.specs.GicCall.declared.touch.Touching.TheVariants.{Retarget as RetargetLpi, Configure as ConfigureLpi}
use Rattle.law_home_commutes.specs.Histories.{IdealGuest, irq_at, cpu_at, candidates, changed_irq, view_of, after_acknowledge, after_deactivation, after_event, after_events, Ideal, happened, Call, targets_in, noted}
use Rattle.law_home_commutes.specs.IdealGuests.Ideal.{after_access}
use Rattle.law_home_commutes.proofs.IdealGuests.KeyLemmas.{IsWhole, whole_changed, whole_changed_at, irq_changed}
use Rattle.law_eager_is_history.proofs.CourseLemmas.{call_after}
use Rattle.law_eager_is_history.proofs.WindowLemmas.{next_call}
use Rattle.law_home_commutes.proofs.LawHistories.TargetLemmas.{by_record}

-- for which vCPU an LPI is
abbrev pub target_at : IdealGuest → ℕ → Option ℕ
target_at guest id = (view_of guest).targets id

-- What an event makes of that.

abbrev pub keeps_for : ℕ → Event → Bool
keeps_for id (Touch (Lpi i) (RetargetLpi target)) = not (i == id)
keeps_for id (Touch key (ConfigureLpi enabled prio)) = true
keeps_for id (Reach key u) = true
keeps_for id (Take key u) = true
keeps_for id (Leave key u) = true
keeps_for id (Read at) = true
keeps_for id (Put other value) = true
keeps_for id (Queue offset change) = true
keeps_for id ItsBegin = true
keeps_for id ItsEnd = true
keeps_for id event = false

abbrev at_rest : IdealGuest → Ideal
at_rest guest = record { guest = guest; at = []; spreads = None; has_its = None }

route_kept : (guest : IdealGuest) (other : Key) (change : Irq → Irq) (id : ℕ) → IsWhole guest → (IsTrue (is_same_key (Lpi id) other) → (change (irq_at guest (Lpi id))).route ≡ (irq_at guest (Lpi id)).route) → target_at (changed_irq other change guest) id ≡ target_at guest id
route_kept guest other change id whole same =
    by_record (at_rest guest) (at_rest (changed_irq other change guest)) id refl
    (λ there. ap (λ (i : Irq). i.route) (irq_changed guest other (Lpi id) change whole there) ∙ of (is_same_key (Lpi id) other) same)
  where
    of : (b : Bool) → (IsTrue b → (change (irq_at guest (Lpi id))).route ≡ (irq_at guest (Lpi id)).route) → (cond b (change (irq_at guest (Lpi id))) (irq_at guest (Lpi id))).route ≡ (irq_at guest (Lpi id)).route
    of true same = same refl
    of false same = refl

pub target_kept : (guest : IdealGuest) (id : ℕ) (event : Event) → IsWhole guest → keeps_for id event ≡ true → target_at (after_event guest event) id ≡ target_at guest id
target_kept guest id (Touch (Lpi i) (RetargetLpi target)) whole h = route_kept guest (Lpi i) (touched guest.shape (Lpi i) (RetargetLpi target)) id whole (λ same. absurd (apart (eqb-true id i same)))
  where
    apart : id ≡ i → ⊥
    apart e = let yes = eq-eqb i id (sym e) in let no = ap not yes in absurd (cc)
target_kept guest id (Touch (Lpi i) (ConfigureLpi enabled prio)) whole h = route_kept guest (Lpi i) (touched guest.shape (Lpi i) (ConfigureLpi enabled prio)) id whole (λ same. refl)
target_kept guest id (Touch (Spi i) (ConfigureLpi enabled prio)) whole h = route_kept guest (Spi i) (touched guest.shape (Spi i) (ConfigureLpi enabled prio)) id whole (λ same. refl)
target_kept guest id (Touch (Private v i) (ConfigureLpi enabled prio)) whole h = route_kept guest (Private v i) (touched guest.shape (Private v i) (ConfigureLpi enabled prio)) id whole (λ same. refl)
target_kept guest id (Reach key u) whole h = refl
target_kept guest id (Take key u) whole h = refl
target_kept guest id (Leave key u) whole h = refl
target_kept guest id (Read at) whole h = refl
target_kept guest id (Put other value) whole h = refl
target_kept guest id (Queue offset Runs) whole h = refl
target_kept guest id (Queue offset (Done words)) whole h = refl
target_kept guest id (Queue offset (Stalls fault)) whole h = refl
target_kept guest id ItsBegin whole h = refl
target_kept guest id ItsEnd whole h = refl
target_kept guest id event whole h = absurd (cc)

pub beside_keeps_for : (id : ℕ) (actor : Option ℕ) (event : Event) → is_beside actor event ≡ true → keeps_for id event ≡ true
beside_keeps_for id actor (Raise key) h = absurd (cc)
beside_keeps_for id actor (Up key) h = absurd (cc)
beside_keeps_for id actor (Down key) h = absurd (cc)
beside_keeps_for id actor (Touch key touching) h = absurd (cc)
beside_keeps_for id actor (Reach key u) h = refl
beside_keeps_for id actor (Take key u) h = refl
beside_keeps_for id actor (Leave key u) h = refl
beside_keeps_for id actor (Enable u) h = absurd (cc)
beside_keeps_for id actor (Cpu u reg write) h = absurd (cc)
beside_keeps_for id actor (Read at) h = refl
beside_keeps_for id actor (Put other value) h = absurd (cc)
beside_keeps_for id actor (CtlrBegin enables) h = absurd (cc)
beside_keeps_for id actor CtlrEnd h = absurd (cc)
beside_keeps_for id actor ItsBegin h = absurd (cc)
beside_keeps_for id actor ItsEnd h = absurd (cc)
beside_keeps_for id actor (Queue offset Runs) h = absurd (cc)
beside_keeps_for id actor (Queue offset (Done words)) h = absurd (cc)
beside_keeps_for id actor (Queue offset (Stalls fault)) h = absurd (cc)

-- After some events.

access_whole : (reg : IccReg) (write : Option ℕ) (guest : IdealGuest) (vcpu : ℕ) → IsWhole guest → IsWhole (after_access reg write guest vcpu)
access_whole reg write guest vcpu whole = let w = ended (deactivated_by reg write (cpu_at guest vcpu)) (acked (taken_by reg write (cpu_at guest vcpu) (candidates guest vcpu))) in record { shape = w.shape; each = w.each }
  where
    acked : (o : Option Candidate) → IsWhole (after_acknowledge o guest vcpu)
    acked None = whole
    acked (Some found) = whole_changed_at found.id vcpu (λ key irq. acknowledged key vcpu irq) guest whole

    ended : (o : Option ℕ) → {g : IdealGuest} → IsWhole g → IsWhole (after_deactivation o g vcpu)
    ended None w = w
    ended (Some id) {g} w = whole_changed_at id vcpu (λ key irq. deactivated vcpu irq) g w

pub guest_whole : (event : Event) (guest : IdealGuest) → IsWhole guest → IsWhole (after_event guest event)
guest_whole (Raise key) guest whole = whole_changed key raised guest whole
guest_whole (Up key) guest whole = whole_changed key wire_up guest whole
guest_whole (Down key) guest whole = whole_changed key wire_down guest whole
guest_whole (Touch key touching) guest whole = whole_changed key (touched guest.shape key touching) guest whole
guest_whole (Reach key u) guest whole = whole
guest_whole (Take key u) guest whole = whole
guest_whole (Leave key u) guest whole = whole
guest_whole (Enable u) guest whole = record { shape = whole.shape; each = whole.each }
guest_whole (Cpu u reg write) guest whole = access_whole reg write guest u whole
guest_whole (Read at) guest whole = whole
guest_whole (Put other value) guest whole = record { shape = whole.shape; each = whole.each }
guest_whole (CtlrBegin enables) guest whole = record { shape = whole.shape; each = whole.each }
guest_whole CtlrEnd guest whole = whole
guest_whole ItsBegin guest whole = whole
guest_whole ItsEnd guest whole = whole
guest_whole (Queue offset Runs) guest whole = record { shape = whole.shape; each = whole.each }
guest_whole (Queue offset (Done words)) guest whole = record { shape = whole.shape; each = whole.each }
guest_whole (Queue offset (Stalls fault)) guest whole = record { shape = whole.shape; each = whole.each }

pub targets_after : (guest : IdealGuest) (id : ℕ) (events : List Event) → IsWhole guest → IsTrue (list_all (keeps_for id) events) → target_at (after_events events guest) id ≡ target_at guest id
targets_after guest id [] whole all = refl
targets_after guest id (event ∷ events) whole all =
    let parts = and_parts (keeps_for id event) (list_all (keeps_for id) events) all in
    targets_after (after_event guest event) id events (guest_whole event guest whole) parts.1 ∙ target_kept guest id event whole parts.0

-- What the call notes.

-- no command begins
abbrev pub is_between : Event → Bool
is_between ItsBegin = false
is_between (Queue offset (Done words)) = false
is_between (Queue offset (Stalls fault)) = false
is_between event = true

begun_kept : (state : Ideal) (event : Event) (call : Call) → is_between event ≡ true → (noted state event call).commands ≡ call.commands
begun_kept state (Raise key) call h = refl
begun_kept state (Up key) call h = refl
begun_kept state (Down key) call h = refl
begun_kept state (Touch key touching) call h = refl
begun_kept state (Reach key u) call h = refl
begun_kept state (Take key u) call h = refl
begun_kept state (Leave key u) call h = refl
begun_kept state (Enable u) call h = refl
begun_kept state (Cpu u reg write) call h = refl
begun_kept state (Read at) call h = refl
begun_kept state (Put other value) call h = refl
begun_kept state (CtlrBegin enables) call h = refl
begun_kept state CtlrEnd call h = refl
begun_kept state ItsBegin call h = absurd (cc)
begun_kept state ItsEnd call h = refl
begun_kept state (Queue offset Runs) call h = refl
begun_kept state (Queue offset (Done words)) call h = absurd (cc)
begun_kept state (Queue offset (Stalls fault)) call h = absurd (cc)

pub commands_kept : (actor : ℕ) (events : List Event) (state : Ideal) (call : Call) → IsTrue (list_all is_between events) → (call_after actor events state call).commands ≡ call.commands
commands_kept actor [] state call all = refl
commands_kept actor (event ∷ events) state call all =
    let parts = and_parts (is_between event) (list_all is_between events) all in
    commands_kept actor events (happened actor event state) (next_call state actor event call) parts.1 ∙ begun_kept state event call parts.0

-- what began stays noted
pub record IsAfter (call after : Call) : Type 0 where
  pub more : List (ℕ → Option ℕ)
  pub is : after.commands ≡ call.commands ++ more

noted_after : (state : Ideal) (event : Event) (call : Call) → IsAfter call (noted state event call)
noted_after state (Raise key) call = record { more = []; is = sym (append-nil call.commands) }
noted_after state (Up key) call = record { more = []; is = sym (append-nil call.commands) }
noted_after state (Down key) call = record { more = []; is = sym (append-nil call.commands) }
noted_after state (Touch key touching) call = record { more = []; is = sym (append-nil call.commands) }
noted_after state (Reach key u) call = record { more = []; is = sym (append-nil call.commands) }
noted_after state (Take key u) call = record { more = []; is = sym (append-nil call.commands) }
noted_after state (Leave key u) call = record { more = []; is = sym (append-nil call.commands) }
noted_after state (Enable u) call = record { more = []; is = sym (append-nil call.commands) }
noted_after state (Cpu u reg write) call = record { more = []; is = sym (append-nil call.commands) }
noted_after state (Read at) call = record { more = []; is = sym (append-nil call.commands) }
noted_after state (Put other value) call = record { more = []; is = sym (append-nil call.commands) }
noted_after state (CtlrBegin enables) call = record { more = []; is = sym (append-nil call.commands) }
noted_after state CtlrEnd call = record { more = []; is = sym (append-nil call.commands) }
noted_after state ItsBegin call = record { more = targets_in state ∷ []; is = refl }
noted_after state ItsEnd call = record { more = []; is = sym (append-nil call.commands) }
noted_after state (Queue offset Runs) call = record { more = []; is = sym (append-nil call.commands) }
noted_after state (Queue offset (Done words)) call = record { more = targets_in state ∷ []; is = refl }
noted_after state (Queue offset (Stalls fault)) call = record { more = targets_in state ∷ []; is = refl }

pub commands_after : (actor : ℕ) (events : List Event) (state : Ideal) (call : Call) → IsAfter call (call_after actor events state call)
commands_after actor [] state call = record { more = []; is = sym (append-nil call.commands) }
commands_after actor (event ∷ events) state call =
    let one = noted_after state event call in
    let later = commands_after actor events (happened actor event state) (next_call state actor event call) in
    record { more = one.more ++ later.more; is = later.is ∙ ap (λ xs. xs ++ later.more) one.is ∙ append_assoc call.commands one.more later.more }
