-- The vCPUs that the LPIs are for as each command begins, as a call that takes the ITS to change it notes them.
use Rattle.std.proofs.Common.{◌≡◌, ℕ, ◌+◌, zero, suc, Some, IfSome, true, false, if◌then◌else◌, Contains, List, [], ◌∷◌, ◌++◌, Option, None, refl, sym, ap, ◌∙◌, subst, slice_index_or, arith}
use Rattle.std.proofs.lemmas.List.Elements.{Contains-append_right}
use Rattle.law_ends_agree.specs.Words.{irq_of, target_in}
use Rattle.law_ends_agree.specs.Core.{Made, known_maps, shape_of}
use Rattle.law_ends_agree.specs.Calls.{Event, Enable, ItsBegin, Touch, Found, Done, Runs, Stalls, Beside, command_targets}
use Rattle.law_ends_agree.specs.GicCall.declared.event.Event.TheVariants.{ItsEnd, Queue}
use Rattle.law_ends_agree.specs.Histories.{Ideal, happened, Call, come_to, is_passed, made, noted, seeing, targets_in}
use Rattle.law_found_parts_are_calls.specs.PeMem.Found.{Agrees, Finding, by_commands, by_looks, is_by_commands}
use Rattle.law_found_parts_are_calls.specs.ItsExec.Known.{AgreeWith, first_step}
use Rattle.law_found_parts_are_calls.specs.ItsExec.Queue.{Taken}
use Rattle.law_found_parts_are_calls.specs.ItsExec.Run.{AgreeAll}
use Rattle.law_runs_are_fresh.proofs.LawEagerIsHistory.WindowLemmas.{Targets, no_target}
use Rattle.law_found_parts_are_calls.proofs.TurnRuns.{is_ending}
use Rattle.law_threads_are_history.proofs.TurnPieces.{is_inner}
use Rattle.law_threads_are_history.proofs.WindowLemmas.{call_next}

-- The same vCPUs, command by command.

abbrev pub AreSame : List Targets → List Targets → Type 0
AreSame [] [] = Unit {0}
AreSame [] (t ∷ firsts) = ⊥
AreSame (s ∷ others) [] = ⊥
AreSame (s ∷ others) (t ∷ firsts) = ((id : ℕ) → s id ≡ t id) × AreSame others firsts

pub same_self : (firsts : List Targets) → AreSame firsts firsts
same_self [] = tt
same_self (t ∷ firsts) = ((λ id. refl), same_self firsts)

pub same_more : (firsts others : List Targets) (s t : Targets) → AreSame firsts others → ((id : ℕ) → s id ≡ t id) → AreSame (firsts ++ s ∷ []) (others ++ t ∷ [])
same_more [] [] s t are now = (now, tt)
same_more [] (o ∷ others) s t are now = absurd are
same_more (f ∷ firsts) [] s t are now = absurd are
same_more (f ∷ firsts) (o ∷ others) s t are now = (are.0, same_more firsts others s t are.1 now)

-- that of a number
same_at : (firsts others : List Targets) (number id : ℕ) → AreSame firsts others → slice_index_or firsts number no_target id ≡ slice_index_or others number no_target id
same_at [] [] number id are = refl
same_at [] (o ∷ others) number id are = absurd are
same_at (f ∷ firsts) [] number id are = absurd are
same_at (f ∷ firsts) (o ∷ others) zero id are = are.0 id
same_at (f ∷ firsts) (o ∷ others) (suc number) id are = same_at firsts others number id are.1

-- whoever agrees with these agrees with those
agree_with : (one : Taken) (f g : Targets) → ((id : ℕ) → f id ≡ g id) → AgreeWith one.takes.last (known_maps one.from.own) f → AgreeWith one.takes.last (known_maps one.from.own) g
agree_with one f g same is = record {
  found = record { each = λ id there. of id (first_step one.takes.last id) (is.found.each id there) };
  unmapped = λ id lost left. sym (same id) ∙ is.unmapped id lost left;
}
  where
    of : (id : ℕ) (o : Option Made) → IfSome o (λ (made : Made). f id ≡ target_in (irq_of made.found).route (shape_of one.takes.last)) → IfSome o (λ (made : Made). g id ≡ target_in (irq_of made.found).route (shape_of one.takes.last))
    of id None h = tt
    of id (Some made) h = sym (same id) ∙ h

agree_same : (one other : Beside) (number : ℕ) (commands : List Taken) → ((number id : ℕ) → command_targets one number id ≡ command_targets other number id) → AgreeAll one number commands → AgreeAll other number commands
agree_same one other number [] same are = tt
agree_same one other number (taken ∷ commands) same are = (agree_with taken (command_targets one number) (command_targets other number) (same number) are.0, agree_same one other (number + 1) commands same are.1)

pub agrees_same : (finding : Finding) (one other : Beside) → AreSame one.commands other.commands → is_by_commands finding ≡ true → Agrees finding one → Agrees finding other
agrees_same (by_looks goes_by targets) one other same kind agrees = absurd (cc)
agrees_same (by_commands commands) one other same kind agrees = agree_same one other 0 commands (λ number id. same_at one.commands other.commands number id same) agrees

-- A call that has not stored EnableLPIs.

pub record HasNoted (call : Call) (firsts : List Targets) : Type 0 where
  pub place : call.place ≡ None
  pub some : (id : ℕ) → (t : Option ℕ) × Contains (call.targets id) t
  pub same : AreSame firsts call.commands

-- it sees what the LPIs are for at each event
seen_now : (place : Option ℕ) (id : ℕ) (window : List (Option ℕ)) (x : Option ℕ) → place ≡ None → Contains (if is_passed place id then window else window ++ x ∷ []) x
seen_now place id window x none = subst (λ p. Contains (if is_passed p id then window else window ++ x ∷ []) x) (sym none) (Contains-append_right window (x ∷ []) x (0, omega arith, refl))

pub sees_some : (after : Ideal) (call : Call) (id : ℕ) → call.place ≡ None → (t : Option ℕ) × Contains ((seeing after call).targets id) t
sees_some after call id none = (targets_in after id, seen_now call.place id (call.targets id) (targets_in after id) none)

-- another actor makes an event
pub noted_seen : (after : Ideal) (call : Call) (firsts : List Targets) → HasNoted call firsts → HasNoted (seeing after call) firsts
noted_seen after call firsts is = record { place = is.place; some = λ id. sees_some after call id is.place; same = is.same }

-- an event of its own that begins no command
record Notes (ideal : Ideal) (event : Event) (call : Call) : Type 0 where
  place : (noted ideal event call).place ≡ None
  commands : (noted ideal event call).commands ≡ call.commands

notes : (ideal : Ideal) (event : Event) (call : Call) → is_inner event ≡ true → is_ending event ≡ false → call.place ≡ None → Notes ideal event call
notes ideal ItsBegin call h e none = absurd (cc)
notes ideal ItsEnd call h e none = absurd (cc)
notes ideal (Enable vcpu) call h e none = absurd (cc)
notes ideal (Touch key touching) call h e none = record { place = ap (λ p. come_to p key) none; commands = refl }
notes ideal (Queue offset Runs) call h e none = record { place = none; commands = refl }
notes ideal (Queue offset (Done words)) call h e none = absurd (cc)
notes ideal (Queue offset (Stalls fault)) call h e none = absurd (cc)
notes ideal event call h e none = record { place = none; commands = refl }

after_notes : (before after : Ideal) (event : Event) (found : Found) (call : Call) (firsts : List Targets) → Notes before event call → HasNoted call firsts → HasNoted (call_next before after event found call) firsts
after_notes before after event found call firsts note is =
    record { place = note.place; some = λ id. sees_some after (made before event found call) id note.place; same = subst (AreSame firsts) (sym note.commands) is.same }

pub noted_on : (before after : Ideal) (event : Event) (found : Found) (call : Call) (firsts : List Targets) → is_inner event ≡ true → is_ending event ≡ false → HasNoted call firsts → HasNoted (call_next before after event found call) firsts
noted_on before after event found call firsts h e is = after_notes before after event found call firsts (notes before event call h e is.place) is

-- the end of the turn
pub noted_turn : (before after : Ideal) (event : Event) (found : Found) (call : Call) (firsts : List Targets) → event ≡ ItsEnd → HasNoted call firsts → HasNoted (call_next before after event found call) firsts
noted_turn before after event found call firsts ends is =
    after_notes before after event found call firsts (record { place = ap (λ event. (noted before event call).place) ends ∙ is.place; commands = ap (λ event. (noted before event call).commands) ends }) is

-- one that ends a command
closing : (before : Ideal) (event : Event) (call : Call) → is_ending event ≡ true → call.place ≡ None → ((noted before event call).place ≡ None) × ((noted before event call).commands ≡ call.commands ++ targets_in before ∷ [])
closing before (Queue offset Runs) call e none = absurd (cc)
closing before (Queue offset (Done words)) call e none = (none, refl)
closing before (Queue offset (Stalls fault)) call e none = (none, refl)
closing before event call e none = absurd (cc)

ending_targets : (actor : ℕ) (before : Ideal) (event : Event) (id : ℕ) → is_ending event ≡ true → targets_in (happened actor event before) id ≡ targets_in before id
ending_targets actor before (Queue offset Runs) id e = absurd (cc)
ending_targets actor before (Queue offset (Done words)) id e = refl
ending_targets actor before (Queue offset (Stalls fault)) id e = refl
ending_targets actor before event id e = absurd (cc)

pub noted_end : (actor : ℕ) (before : Ideal) (event : Event) (found : Found) (call : Call) (firsts : List Targets) (t : Targets) → is_ending event ≡ true → ((id : ℕ) → t id ≡ targets_in (happened actor event before) id) → HasNoted call firsts
    → HasNoted (call_next before (happened actor event before) event found call) (firsts ++ t ∷ [])
noted_end actor before event found call firsts t e now is =
    let closes = closing before event call e is.place in
    record {
      place = closes.0;
      some = λ id. sees_some (happened actor event before) (made before event found call) id closes.0;
      same = subst (AreSame (firsts ++ t ∷ [])) (sym closes.1) (same_more firsts call.commands t (targets_in before) is.same (λ id. now id ∙ ending_targets actor before event id e));
    }
