-- A step that changes a cause, with the marks and kicks after it.
use Rattle.std.proofs.Common.{◌≡◌, ℕ, ◌&&◌, Bool, true, false, IsTrue, List, [], ◌∷◌, ◌++◌, is_none, refl, ap, subst, ◌∙◌}
use Rattle.std.specs.Option.{option_to_list}
use Rattle.floor_core.specs.Words.{Key, GuestShape, irq_of}
use Rattle.floor_core.specs.Calls.{Event}
use Rattle.floor_core.specs.GicCall.declared.event.Event.TheVariants.{Raise as RaiseEvent}
use Rattle.floor_core.specs.GicCall.declared.event.Found.TheVariants.{Nothing}
use Rattle.floor_core.specs.Core.{Local, Made, CoreStep, Raise, target_of, holder_or_active, concerned, local_after, owing_both, Seen, AddsStep, shape_of, made_by, seen_after, part_events, is_taking, stands_for, silent}
use Rattle.floor_core.proofs.PortCore.PortLemmas.{adds_join}
use Rattle.port_call.specs.Piece.{takes_none, IsPiece, is_plain, goes_by_known}
use Rattle.port_call.specs.Settle.{marks_owed, kicks_owed, marks_sent, kicks_sent, Settles}
use Rattle.port_call.specs.Tell.{Tells}
use Rattle.port_call.proofs.PieceLemmas.{piece_cons}
use Rattle.port_call.proofs.SetLemmas.{two_at_most}
use Rattle.port_call.proofs.SettleLemmas.{handed_none}

-- a step changes a cause of an interrupt, and stands for an event
pub record IsCause (step : CoreStep) (key : Key) (event : Event) : Type 0 where
  pub owes : (shape : GuestShape) (actor : ℕ) (local : Local) (found : ℕ) → local_after shape actor local step found ≡ owing_both key (concerned shape (irq_of found)) local
  pub stands : (shape : GuestShape) (actor : ℕ) (local : Local) (own : List Made) (found : ℕ) → stands_for shape actor local own step found ≡ silent event
  pub plain : IsTrue (is_plain step)
  pub known : (seen : Seen) → IsTrue (goes_by_known seen step)
  pub untaking : is_taking step ≡ false

pub raise_is_cause : (key : Key) → IsCause (Raise key) key (RaiseEvent key)
raise_is_cause key = record { owes = λ shape actor local found. refl; stands = λ shape actor local own found. refl; plain = refl; known = λ seen. refl; untaking = refl }

and_true : (a b : Bool) → IsTrue a → IsTrue b → (a && b) ≡ true
and_true true true h k = refl
and_true true false h k = absurd (cc)
and_true false b h k = absurd (cc)

-- it is made, and what is owed then is sent
pub tells : (old mid new : Seen) (step : CoreStep) (key : Key) (event : Event) (found : ℕ) → IsCause step key event → AddsStep old mid step found → Settles mid new → Tells old new step key event
tells old mid new step key event found cause add rest =
    let shape = shape_of old in
    let made = made_by old step found add.tables in
    let vcpus = concerned shape (irq_of found) in
    let Told : Seen → Type 0 = λ seen. part_events seen (rest.marks ++ rest.kicks) ≡ [] in
    let Piece : Seen → Type 0 = λ seen. IsPiece seen (rest.marks ++ rest.kicks) in
    let local : mid.local ≡ owing_both key vcpus old.local = ap (λ seen. seen.local) add.adds.new_is ∙ cause.owes shape old.actor old.local found in
    record {
      part = made ∷ rest.marks ++ rest.kicks;
      form =
          record {
            change = made;
            marks = rest.marks;
            kicks = rest.kicks;
            part_is = refl;
            change_is = refl;
            marks_are = rest.marks_are ∙ ap marks_owed local;
            kicks_are = rest.kicks_are ∙ ap kicks_owed local;
            few = two_at_most (target_of shape (irq_of found)) (holder_or_active (irq_of found));
          };
      adds = adds_join old mid new (made ∷ []) (rest.marks ++ rest.kicks) add.adds rest.adds;
      local_is = rest.local_is ∙ ap (λ seen. kicks_sent (marks_sent (shape_of seen) seen.actor mid.local)) add.adds.new_is ∙ ap (λ l. kicks_sent (marks_sent shape old.actor l)) local;
      none_taken = and_true (is_none add.tables) (takes_none (rest.marks ++ rest.kicks)) (handed_none step found old add.tables cause.untaking add.handed) rest.none_taken;
      events =
          ap (λ happened. option_to_list happened ++ part_events (seen_after old (made ∷ [])) (rest.marks ++ rest.kicks)) (cause.stands shape old.actor old.local old.own found)
          ∙ ap (λ events. (record { event = event; found = Nothing }) ∷ events) (subst Told add.adds.new_is rest.silent);
      piece = piece_cons old made (rest.marks ++ rest.kicks) cause.plain (cause.known old) (subst Piece add.adds.new_is rest.piece);
    }

pub raise_tells : (old mid new : Seen) (key : Key) (found : ℕ) → AddsStep old mid (Raise key) found → Settles mid new → Tells old new (Raise key) key (RaiseEvent key)
raise_tells old mid new key found add rest = tells old mid new (Raise key) key (RaiseEvent key) found (raise_is_cause key) add rest
