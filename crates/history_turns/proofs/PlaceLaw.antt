-- Each call after moments of a guest has come to the LPI of a pending table that its own events say.
use Rattle.std.proofs.Common.{◌≡◌, ℕ, List, [], ◌∷◌, ◌++◌, fold, Option, option_map, Some, None, slice_set, refl, sym, ap, ◌∙◌, subst, inl, inr}
use Rattle.std.proofs.lemmas.List.{map-append}
use Rattle.std.proofs.lemmas.List.Sums.{fold-append}
use Rattle.std.proofs.lemmas.Option.{same_Some, none-some}
use Rattle.history_turns.specs.Calls.{Event, Enable, Touch, ItsBegin, Done, Runs, Stalls, Found, Happened, Moment, Begin, Happens}
use Rattle.history_turns.specs.GicCall.declared.event.Event.TheVariants.{Queue}
use Rattle.history_turns.specs.GicCall.declared.event.Moment.TheVariants.{End}
use Rattle.history_turns.specs.Histories.{Ideal, Call, Course, call_of, course_of, opening_course, gone_on, happened, begun, made, seeing, noted as noted_by}
use Rattle.history_commands.proofs.CourseLemmas.{nobody_opens, noted_piece}
use Rattle.history_commands.proofs.ExactLaw.{events_in}
use Rattle.history_commands.proofs.OpenLaw.{set_cases, mapped}
use Rattle.history_turns.specs.Laws.{CallsArePlaced}
use Rattle.history_turns.specs.Noted.{placing, place_by}

abbrev IsPlaced : Call → Type 0
IsPlaced call = call.place ≡ place_by call.piece

pub noted_place : (ideal : Ideal) (event : Event) (call : Call) → (noted_by ideal event call).place ≡ placing call.place event
noted_place ideal (Enable vcpu) call = refl
noted_place ideal (Touch key touching) call = refl
noted_place ideal ItsBegin call = refl
noted_place ideal (Queue offset Runs) call = refl
noted_place ideal (Queue offset (Done words)) call = refl
noted_place ideal (Queue offset (Stalls fault)) call = refl
noted_place ideal event call = refl

made_placed : (ideal : Ideal) (event : Event) (found : Found) (call : Call) → IsPlaced call → IsPlaced (made ideal event found call)
made_placed ideal event found call is =
    let one : Happened = record { event = event; found = found } in
    noted_place ideal event call ∙ ap (λ place. placing place event) is
    ∙ sym
    (ap place_by (ap (λ p. p ++ one ∷ []) (noted_piece ideal event call))
    ∙ ap (fold placing None) (map-append (λ (h : Happened). h.event) call.piece (one ∷ []))
    ∙ fold-append placing None (events_in call.piece) (event ∷ []))

abbrev ArePlaced : Option Call → Type 0
ArePlaced o = (call : Call) → o ≡ Some call → IsPlaced call

none_placed : (o : Option Call) → o ≡ None → ArePlaced o
none_placed o e call is = absurd (none-some call (sym e ∙ is))

some_placed : (call : Call) → IsPlaced call → ArePlaced (Some call)
some_placed call is other e = subst IsPlaced (same_Some call other e) is

step : (course : Course) (moment : Moment) → ((actor : ℕ) → ArePlaced (call_of course actor)) → (actor : ℕ) → ArePlaced (call_of (gone_on course moment) actor)
step course (Begin actor operation) all other = elim (set_cases course.calls actor (Some (begun course.ideal operation)) other) [
  | inl e ↦ subst ArePlaced (sym e) (some_placed (begun course.ideal operation) refl)
  | inr e ↦ subst ArePlaced (sym e) (all other)
]
step course (End actor answer) all other = elim (set_cases course.calls actor None other) [
  | inl e ↦ none_placed _ e
  | inr e ↦ subst ArePlaced (sym e) (all other)
]
step course (Happens actor event found) all other = subst ArePlaced (sym (mapped (seeing ideal) (slice_set course.calls actor mine) other)) (elim (set_cases course.calls actor mine other) [
  | inl e ↦ subst (λ o. ArePlaced (option_map (seeing ideal) o)) (sym e) (of (call_of course actor) (all actor))
  | inr e ↦ subst (λ o. ArePlaced (option_map (seeing ideal) o)) (sym e) (seen (call_of course other) (all other))
])
  where
    ideal : Ideal
    ideal = happened actor event course.ideal

    mine : Option Call
    mine = option_map (made course.ideal event found) (call_of course actor)

    of : (o : Option Call) → ArePlaced o → ArePlaced (option_map (seeing ideal) (option_map (made course.ideal event found) o))
    of None is = none_placed None refl
    of (Some call) is = some_placed (seeing ideal (made course.ideal event found call)) (made_placed course.ideal event found call (is call refl))

    seen : (o : Option Call) → ArePlaced o → ArePlaced (option_map (seeing ideal) o)
    seen None is = none_placed None refl
    seen (Some call) is = some_placed (seeing ideal call) (is call refl)

along : (course : Course) (moments : List Moment) → ((actor : ℕ) → ArePlaced (call_of course actor)) → (actor : ℕ) → ArePlaced (call_of (course_of course moments) actor)
along course [] all = all
along course (moment ∷ moments) all = along (gone_on course moment) moments (step course moment all)

pub calls_placed : CallsArePlaced
calls_placed guest moments actor call is = along (opening_course guest) moments (λ actor. none_placed (call_of (opening_course guest) actor) (nobody_opens guest actor)) actor call is
