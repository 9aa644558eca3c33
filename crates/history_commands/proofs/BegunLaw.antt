-- What a call notes as its commands begin, and what an ITS has mapped, go on with each event.
use Rattle.std.proofs.Common.{◌≡◌, ◌⊎◌, ℕ, zero, suc, ◌+◌, ◌-◌, ◌<◌, ◌≤◌, nat_lt, nat_le, ◌&&◌, not, Bool, true, false, cond, is_none, List, [], ◌∷◌, ◌++◌, length, filter, fold, Option, option_map, Some, None, slice_set, slice_index_or, refl, sym, ap, ◌∙◌, subst, arith, inl, inr}
use Rattle.std.specs.Option.{option_map_or}
use Rattle.std.proofs.lemmas.Bool.Decides.{nat_tests}
use Rattle.std.proofs.lemmas.Grind.{common_steps}
use Rattle.std.proofs.lemmas.List.{length-append}
use Rattle.std.proofs.lemmas.List.Elements.{filter-append}
use Rattle.std.proofs.lemmas.List.Sums.{fold-append}
use Rattle.std.proofs.lemmas.Option.{same_Some, none-some}
use Rattle.history_commands.specs.Words.{GuestShape, Key, Lpi, has_interrupt, place_of, target_in}
use Rattle.history_commands.specs.Registers.{fault_number}
use Rattle.history_commands.specs.LegalLists.ItsCmd.Command.{decoded}
use Rattle.history_commands.specs.Calls.{Event, Enable, Touch, Reach, Take, Leave, Cpu, Up, Down, Put, CtlrBegin, CtlrEnd, ItsBegin, Done, Runs, Stalls, Found, Happened, Moment, Begin, Happens, Moved, taken, left, maps_done, opening_irq}
use Rattle.history_commands.specs.GicCall.declared.event.Event.TheVariants.{Raise, Read, ItsEnd, Queue}
use Rattle.history_commands.specs.GicCall.declared.event.Moment.TheVariants.{End}
use Rattle.history_commands.specs.Histories.{IdealGuest, Ideal, Call, Course, call_of, course_of, opening_course, gone_on, happened, begun, made, seeing, targets_in, noted as noted_by, moved_at, with_standing, with_irq, with_entry, without, standing_at}
use Rattle.history_calls.proofs.CourseLemmas.{nobody_opens, noted_piece}
use Rattle.history_calls.proofs.OpenLaw.{set_cases, mapped}
use Rattle.history_commands.specs.Mapped.{mapped_after, mapped_by, nothing_mapped, target_at, targets_by}
use Rattle.history_commands.specs.Begun.{begins_command, begun_by, takes_its, is_done, AreTargets, AreTargetsOf}
use Rattle.history_commands.specs.Laws.{CommandsAreCounted, CommandsGoOn, MapsGoOn}

-- How many commands began.

abbrev with_one : Bool → Happened → List Happened → List Happened
with_one b one piece = cond b (one ∷ piece) piece

count_after : (event : Event) (found : Found) (piece : List Happened) → begun_by (piece ++ (record { event = event; found = found }) ∷ []) ≡ begun_by piece + cond (begins_command event) 1 0
count_after event found piece =
    let one : Happened = record { event = event; found = found } in
    ap length (filter-append (λ (h : Happened). begins_command h.event) piece (one ∷ [])) ∙ length-append (filter (λ (h : Happened). begins_command h.event) piece) (filter (λ (h : Happened). begins_command h.event) (one ∷ []))
    ∙ ap (λ n. begun_by piece + n) (of (begins_command event) one)
  where
    of : (b : Bool) (one : Happened) → length (with_one b one []) ≡ cond b 1 0
    of true one = refl
    of false one = refl

noted_count : (ideal : Ideal) (event : Event) (call : Call) → length (noted_by ideal event call).commands ≡ length call.commands + cond (begins_command event) 1 0
noted_count ideal (Enable vcpu) call = omega arith
noted_count ideal (Touch key touching) call = omega arith
noted_count ideal ItsBegin call = length-append call.commands (targets_in ideal ∷ [])
noted_count ideal (Queue offset Runs) call = omega arith
noted_count ideal (Queue offset (Done words)) call = length-append call.commands (targets_in ideal ∷ [])
noted_count ideal (Queue offset (Stalls fault)) call = length-append call.commands (targets_in ideal ∷ [])
noted_count ideal event call = omega arith

abbrev IsCounted : Call → Type 0
IsCounted call = length call.commands ≡ begun_by call.piece

made_counted : (ideal : Ideal) (event : Event) (found : Found) (call : Call) → IsCounted call → IsCounted (made ideal event found call)
made_counted ideal event found call is =
    let one : Happened = record { event = event; found = found } in
    noted_count ideal event call ∙ ap (λ n. n + cond (begins_command event) 1 0) is ∙ sym (ap (λ p. begun_by (p ++ one ∷ [])) (noted_piece ideal event call) ∙ count_after event found call.piece)

abbrev AreCounted : Option Call → Type 0
AreCounted o = (call : Call) → o ≡ Some call → IsCounted call

none_counted : (o : Option Call) → o ≡ None → AreCounted o
none_counted o e call is = absurd (none-some call (sym e ∙ is))

some_counted : (call : Call) → IsCounted call → AreCounted (Some call)
some_counted call is other e = subst IsCounted (same_Some call other e) is

step : (course : Course) (moment : Moment) → ((actor : ℕ) → AreCounted (call_of course actor)) → (actor : ℕ) → AreCounted (call_of (gone_on course moment) actor)
step course (Begin actor operation) all other = elim (set_cases course.calls actor (Some (begun course.ideal operation)) other) [
  | inl e ↦ subst AreCounted (sym e) (some_counted (begun course.ideal operation) refl)
  | inr e ↦ subst AreCounted (sym e) (all other)
]
step course (End actor answer) all other = elim (set_cases course.calls actor None other) [
  | inl e ↦ none_counted _ e
  | inr e ↦ subst AreCounted (sym e) (all other)
]
step course (Happens actor event found) all other = subst AreCounted (sym (mapped (seeing ideal) (slice_set course.calls actor mine) other)) (elim (set_cases course.calls actor mine other) [
  | inl e ↦ subst (λ o. AreCounted (option_map (seeing ideal) o)) (sym e) (of (call_of course actor) (all actor))
  | inr e ↦ subst (λ o. AreCounted (option_map (seeing ideal) o)) (sym e) (seen (call_of course other) (all other))
])
  where
    ideal : Ideal
    ideal = happened actor event course.ideal

    mine : Option Call
    mine = option_map (made course.ideal event found) (call_of course actor)

    of : (o : Option Call) → AreCounted o → AreCounted (option_map (seeing ideal) (option_map (made course.ideal event found) o))
    of None is = none_counted None refl
    of (Some call) is = some_counted (seeing ideal (made course.ideal event found call)) (made_counted course.ideal event found call (is call refl))

    seen : (o : Option Call) → AreCounted o → AreCounted (option_map (seeing ideal) o)
    seen None is = none_counted None refl
    seen (Some call) is = some_counted (seeing ideal call) (is call refl)

along : (course : Course) (moments : List Moment) → ((actor : ℕ) → AreCounted (call_of course actor)) → (actor : ℕ) → AreCounted (call_of (course_of course moments) actor)
along course [] all = all
along course (moment ∷ moments) all = along (gone_on course moment) moments (step course moment all)

pub commands_counted : CommandsAreCounted
commands_counted guest moments actor call is = along (opening_course guest) moments (λ actor. none_counted (call_of (opening_course guest) actor) (nobody_opens guest actor)) actor call is

-- For which vCPUs LPIs were.

-- an LPI that the guest does not have is for none
none_for : (ideal : Ideal) (id : ℕ) → has_interrupt ideal.guest.shape (Lpi id) ≡ false → targets_in ideal id ≡ None
none_for ideal id e = ap (λ b. target_in (cond b (slice_index_or ideal.guest.irqs (place_of ideal.guest.shape (Lpi id)) (opening_irq false (Lpi id))) (opening_irq false (Lpi id))).route ideal.guest.shape) e

past_end : (targets : List (Option ℕ)) (number : ℕ) → length targets ≤ number → slice_index_or targets number None ≡ None
past_end [] number h = refl
past_end (target ∷ targets) zero h = absurd (omega (arith, h))
past_end (target ∷ targets) (suc number) h = past_end targets number (omega (arith, h))

target_same : (ideal : Ideal) (targets : List (Option ℕ)) → AreTargetsOf ideal targets → (id : ℕ) → targets_in ideal id ≡ target_at targets id
target_same ideal targets are id = of (nat_lt id 8192) refl (nat_lt (id - 8192) ideal.guest.shape.lpis) refl
  where
    of : (b : Bool) → nat_lt id 8192 ≡ b → (c : Bool) → nat_lt (id - 8192) ideal.guest.shape.lpis ≡ c → targets_in ideal id ≡ cond (nat_lt id 8192) None (slice_index_or targets (id - 8192) None)
    of true e c f = none_for ideal id (grind (arith, common_steps, nat_tests, e)) ∙ sym (ap (λ b. cond b None (slice_index_or targets (id - 8192) None)) e)
    of false e true f =
        let there : 8192 ≤ id = grind (arith, common_steps, nat_tests, e) in
        let few : id - 8192 < ideal.guest.shape.lpis = grind (arith, common_steps, nat_tests, f) in
        let same : 8192 + (id - 8192) ≡ id = omega (arith, there) in
        sym (ap (λ b. cond b None (slice_index_or targets (id - 8192) None)) e ∙ are.each (id - 8192) few ∙ ap (targets_in ideal) same)
    of false e false f =
        let there : 8192 ≤ id = grind (arith, common_steps, nat_tests, e) in
        let many : ideal.guest.shape.lpis ≤ id - 8192 = grind (arith, common_steps, nat_tests, f) in
        none_for ideal id (grind (arith, common_steps, nat_tests, there, many))
        ∙ sym (ap (λ b. cond b None (slice_index_or targets (id - 8192) None)) e ∙ past_end targets (id - 8192) (omega (arith, many, are.count)))

one_more : (begun : List (ℕ → Option ℕ)) (noted : List (List (Option ℕ))) (last : ℕ → Option ℕ) (targets : List (Option ℕ)) → ((id : ℕ) → last id ≡ target_at targets id) → length begun ≡ length noted
    → ((number id : ℕ) → slice_index_or begun number (λ lpi. None) id ≡ targets_by noted number id) → (number id : ℕ) → slice_index_or (begun ++ last ∷ []) number (λ lpi. None) id ≡ targets_by (noted ++ targets ∷ []) number id
one_more [] [] last targets same count each zero id = same id
one_more [] [] last targets same count each (suc number) id = each zero id
one_more [] (x ∷ noted) last targets same count each number id = absurd (omega (arith, count))
one_more (x ∷ begun) [] last targets same count each number id = absurd (omega (arith, count))
one_more (x ∷ begun) (y ∷ noted) last targets same count each zero id = each zero id
one_more (x ∷ begun) (y ∷ noted) last targets same count each (suc number) id = one_more begun noted last targets same (omega (arith, count)) (λ n i. each (suc n) i) number id

targets_more : (ideal : Ideal) (begun : List (ℕ → Option ℕ)) (noted : List (List (Option ℕ))) (targets : List (Option ℕ)) → AreTargetsOf ideal targets → AreTargets begun noted → AreTargets (begun ++ targets_in ideal ∷ []) (noted ++ targets ∷ [])
targets_more ideal begun noted targets are is = record {
  count = length-append begun (targets_in ideal ∷ []) ∙ ap (λ n. n + 1) is.count ∙ sym (length-append noted (targets ∷ []));
  each = one_more begun noted (targets_in ideal) targets (target_same ideal targets are) is.count is.each;
}

targets_noted : (ideal : Ideal) (event : Event) (found : Found) (call : Call) (noted : List (List (Option ℕ))) (targets : List (Option ℕ)) → begins_command event ≡ true → AreTargetsOf ideal targets → AreTargets call.commands noted
    → AreTargets (made ideal event found call).commands (noted ++ targets ∷ [])
targets_noted ideal ItsBegin found call noted targets h are is = targets_more ideal call.commands noted targets are is
targets_noted ideal (Queue offset (Done words)) found call noted targets h are is = targets_more ideal call.commands noted targets are is
targets_noted ideal (Queue offset (Stalls fault)) found call noted targets h are is = targets_more ideal call.commands noted targets are is
targets_noted ideal event found call noted targets h are is = absurd (cc)

targets_kept : (ideal : Ideal) (event : Event) (found : Found) (call : Call) → begins_command event ≡ false → (made ideal event found call).commands ≡ call.commands
targets_kept ideal ItsBegin found call h = absurd (cc)
targets_kept ideal (Queue offset Runs) found call h = refl
targets_kept ideal (Queue offset (Done words)) found call h = absurd (cc)
targets_kept ideal (Queue offset (Stalls fault)) found call h = absurd (cc)
targets_kept ideal (Enable vcpu) found call h = refl
targets_kept ideal (Touch key touching) found call h = refl
targets_kept ideal event found call h = refl

abbrev for_none : ℕ → Option ℕ
for_none id = None

abbrev no_targets : List (Option ℕ)
no_targets = []

none_begun : AreTargets [] []
none_begun = record { count = refl; each = λ number id. of id (nat_lt id 8192) }
  where
    of : (id : ℕ) (b : Bool) → for_none id ≡ cond b (for_none id) (slice_index_or no_targets (id - 8192) (for_none id))
    of id true = refl
    of id false = refl

pub commands_on : CommandsGoOn
commands_on = record {
  begins = λ ideal operation. none_begun;
  notes = targets_noted;
  keeps = targets_kept;
  sees = λ ideal call. refl;
}

-- What is mapped.

maps_done_more : (shape : GuestShape) (before : List (List ℕ)) (words : List ℕ) → is_none (fault_number shape (mapped_by shape before) (decoded words)) ≡ true → mapped_by shape (before ++ words ∷ []) ≡ maps_done (mapped_by shape before) words
maps_done_more shape before words good =
    fold-append (mapped_after shape) nothing_mapped before (words ∷ []) ∙ ap (λ b. cond b (maps_done (mapped_by shape before) words) (mapped_by shape before)) good

maps_after_done : (actor offset : ℕ) (words : List ℕ) (ideal : Ideal) (before : List (List ℕ)) → is_none (fault_number ideal.guest.shape ideal.guest.tables (decoded words)) ≡ true → ideal.guest.tables ≡ mapped_by ideal.guest.shape before
    → (happened actor (Queue offset (Done words)) ideal).guest.tables ≡ mapped_by ideal.guest.shape (before ++ words ∷ [])
maps_after_done actor offset words ideal before good e =
    ap (λ maps. maps_done maps words) e ∙ sym (maps_done_more ideal.guest.shape before words (ap (λ maps. is_none (fault_number ideal.guest.shape maps (decoded words))) (sym e) ∙ good))

maps_stay : (actor : ℕ) (event : Event) (ideal : Ideal) → is_done event ≡ false → (happened actor event ideal).guest.tables ≡ ideal.guest.tables
maps_stay actor (Raise key) ideal h = refl
maps_stay actor (Up key) ideal h = refl
maps_stay actor (Down key) ideal h = refl
maps_stay actor (Enable vcpu) ideal h = refl
maps_stay actor (Touch key touching) ideal h = refl
maps_stay actor (Reach key vcpu) ideal h = refl
maps_stay actor (Take key vcpu) ideal h = of (moved_at ideal vcpu key)
  where
    of : (o : Option Moved) → (option_map_or (λ moved. with_standing (with_irq ideal key (taken moved).irq) vcpu (with_entry key (taken moved).entry (standing_at ideal vcpu))) o ideal).guest.tables ≡ ideal.guest.tables
    of None = refl
    of (Some moved) = refl
maps_stay actor (Leave key vcpu) ideal h = of (moved_at ideal vcpu key)
  where
    of : (o : Option Moved) → (option_map_or (λ moved. with_standing (with_irq ideal key (left vcpu moved)) vcpu (without key (standing_at ideal vcpu))) o ideal).guest.tables ≡ ideal.guest.tables
    of None = refl
    of (Some moved) = refl
maps_stay actor (Cpu vcpu reg write) ideal h = refl
maps_stay actor (Read place) ideal h = refl
maps_stay actor (Put word value) ideal h = refl
maps_stay actor (CtlrBegin enables) ideal h = refl
maps_stay actor CtlrEnd ideal h = refl
maps_stay actor ItsBegin ideal h = refl
maps_stay actor ItsEnd ideal h = refl
maps_stay actor (Queue offset Runs) ideal h = refl
maps_stay actor (Queue offset (Stalls fault)) ideal h = refl
maps_stay actor (Queue offset (Done words)) ideal h = absurd (cc)

maps_kept : (ideal : Ideal) (event : Event) (found : Found) (call : Call) → takes_its event ≡ false → (made ideal event found call).maps ≡ call.maps
maps_kept ideal ItsBegin found call h = absurd (cc)
maps_kept ideal (Queue offset Runs) found call h = refl
maps_kept ideal (Queue offset (Done words)) found call h = refl
maps_kept ideal (Queue offset (Stalls fault)) found call h = refl
maps_kept ideal (Enable vcpu) found call h = refl
maps_kept ideal (Touch key touching) found call h = refl
maps_kept ideal event found call h = refl

pub maps_on : MapsGoOn
maps_on = record {
  opens = λ shape. refl;
  done = maps_after_done;
  stays = maps_stay;
  notes = λ ideal found call. refl;
  keeps = maps_kept;
  sees = λ ideal call. refl;
}
