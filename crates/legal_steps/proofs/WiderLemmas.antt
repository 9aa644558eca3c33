-- A call that noted more vCPUs of LPIs can become what it could before.
use Rattle.std.proofs.Common.{◌≡◌, ℕ, Bool, true, false, cond, List, [], ◌∷◌, ◌++◌, fold, Contains, Option, refl, sym, subst, inl, inr}
use Rattle.std.proofs.lemmas.List.Elements.{Contains-append_left, Contains-append_right, Contains-append_cases}
use Rattle.legal_lists.specs.Words.{GuestShape}
use Rattle.legal_lists.specs.Calls.{Event, Touch, Enable, Found, Runs}
use Rattle.legal_lists.specs.GicCall.declared.event.Event.TheVariants.{Queue}
use Rattle.legal_lists.specs.Histories.{Ideal, Call, is_ahead, is_passed, targets_in, made, seeing, IsEndedAs}
use Rattle.legal_lists.specs.Legal.{Note, Made, Sees, noting, IsBegun}

-- it is the same call, but for these vCPUs, among which all that it noted are
pub record Wider (call wide : Call) : Type 0 where
  pub targets : ℕ → List (Option ℕ)
  pub same : wide ≡ record call { targets = targets }
  pub more : (id : ℕ) (target : Option ℕ) → Contains (call.targets id) target → Contains (targets id) target

-- after a note
abbrev More : Call → (ℕ → List (Option ℕ)) → Type 0
More call targets = (id : ℕ) (target : Option ℕ) → Contains (call.targets id) target → Contains (targets id) target

kept_in : {X : Type 0} (xs ys : List X) (b : Bool) (x : X) → (Contains xs x → Contains ys x) → Contains (cond b [] xs) x → Contains (cond b [] ys) x
kept_in xs ys true x more h = h
kept_in xs ys false x more h = more h

grown : {X : Type 0} (xs ys : List X) (y : X) (b : Bool) (x : X) → (Contains xs x → Contains ys x) → Contains (cond b xs (xs ++ y ∷ [])) x → Contains (cond b ys (ys ++ y ∷ [])) x
grown xs ys y true x more h = more h
grown xs ys y false x more h = elim (Contains-append_cases xs (y ∷ []) x h) [ inl k ↦ Contains-append_left ys (y ∷ []) x (more k) | inr k ↦ Contains-append_right ys (y ∷ []) x k ]

module _ (call : Call) (targets : ℕ → List (Option ℕ)) (more : More call targets) where
  abbrev wide : Call
  wide = record call { targets = targets }

  made_wider : (ideal : Ideal) (event : Event) (found : Found) → Wider (made ideal event found call) (made ideal event found wide)
  made_wider ideal (Touch key touching) found = record {
    targets = λ id. cond (is_ahead call.place key id) [] (targets id);
    same = refl;
    more = λ id target. kept_in (call.targets id) (targets id) (is_ahead call.place key id) target (more id target);
  }
  made_wider ideal (Enable vcpu) found = record { targets = λ id. []; same = refl; more = λ id target h. h }
  made_wider ideal (Queue offset Runs) found = record { targets = targets; same = refl; more = more }
  made_wider ideal (Queue offset change) found = record { targets = targets; same = refl; more = more }
  made_wider ideal event found = record { targets = targets; same = refl; more = more }

  seeing_wider : (ideal : Ideal) → Wider (seeing ideal call) (seeing ideal wide)
  seeing_wider ideal = record {
    targets = λ id. cond (is_passed call.place id) (targets id) (targets id ++ targets_in ideal id ∷ []);
    same = refl;
    more = λ id target. grown (call.targets id) (targets id) (targets_in ideal id) (is_passed call.place id) target (more id target);
  }

  note_wider : (note : Note) → Wider (noting call note) (noting wide note)
  note_wider (Made signals ideal event found) = made_wider ideal event found
  note_wider (Sees ideal) = seeing_wider ideal

noting_wider : (call other : Call) (note : Note) → Wider call other → Wider (noting call note) (noting other note)
noting_wider call other note is = subst (λ wide. Wider (noting call note) (noting wide note)) (sym is.same) (note_wider call is.targets is.more note)

notes_wider : (call other : Call) (notes : List Note) → Wider call other → Wider (fold noting call notes) (fold noting other notes)
notes_wider call other [] is = is
notes_wider call other (note ∷ notes) is = notes_wider (noting call note) (noting other note) notes (noting_wider call other note is)

ended_wider : (signals : Bool) (shape : GuestShape) (actor : ℕ) (call other : Call) (answer : Option ℕ) → Wider call other → IsEndedAs signals shape actor call answer → IsEndedAs signals shape actor other answer
ended_wider signals shape actor call other answer is ended = subst (λ wide. IsEndedAs signals shape actor wide answer) (sym is.same) of
  where
    of : IsEndedAs signals shape actor (record call { targets = is.targets }) answer
    of = record { beside = ended.beside; maps = ended.maps; commands = ended.commands; targets = λ id. is.more id _ (ended.targets id); right = ended.right; is_call = ended.is_call }

pub begun_wider : (signals : Bool) (shape : GuestShape) (actor : ℕ) (call other : Call) → Wider call other → IsBegun signals shape actor call → IsBegun signals shape actor other
begun_wider signals shape actor call other is begun = record { notes = begun.notes; answer = begun.answer; ended = ended_wider _ shape actor _ _ begun.answer (notes_wider call other begun.notes is) begun.ended }

-- what others do a call notes
pub seen_wider : (ideal : Ideal) (call : Call) → Wider call (seeing ideal call)
seen_wider ideal call = record {
  targets = (seeing ideal call).targets;
  same = refl;
  more = λ id target. of (is_passed call.place id) (call.targets id) (targets_in ideal id) target;
}
  where
    of : (b : Bool) (xs : List (Option ℕ)) (y x : Option ℕ) → Contains xs x → Contains (cond b xs (xs ++ y ∷ [])) x
    of true xs y x h = h
    of false xs y x h = Contains-append_left xs (y ∷ []) x h
