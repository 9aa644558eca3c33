-- The events of a run that the definitions of calls name: reads and moves beside them change nothing.
use Rattle.std.proofs.Common.{◌≡◌, ℕ, ◌⊎◌, inl, inr, zero, suc, not, Bool, true, false, cond, IsTrue, Contains, List, [], ◌∷◌, filter, Option, Some, None, nat_lt, refl, sym, ap, ◌∙◌, subst, arith}
use Rattle.std.specs.List.{list_all}
use Rattle.std.proofs.lemmas.Bool.{and_parts}
use Rattle.law_home_commutes.specs.Words.{GuestShape}
use Rattle.law_home_commutes.specs.Calls.{Event, Up, Down, Touch, Reach, Take, Leave, Enable, Cpu, Put, CtlrBegin, CtlrEnd, ItsBegin, Happened, is_beside, named_of}
use Rattle.law_home_commutes.specs.GicCall.declared.event.Event.TheVariants.{Raise, Read, ItsEnd, Queue}
use Rattle.law_home_commutes.specs.Histories.{IdealGuest, after_event, after_events, vcpu_of}
use Rattle.law_lone_calls_are_eager.proofs.RunLemmas.{events_of, spreading_after, IsHomeRun}

-- What is beside changes nothing.

pub beside_still : (actor : Option ℕ) (event : Event) (guest : IdealGuest) → is_beside actor event ≡ true → after_event guest event ≡ guest
beside_still actor (Read place) guest h = refl
beside_still actor (Reach key vcpu) guest h = refl
beside_still actor (Take key vcpu) guest h = refl
beside_still actor (Leave key vcpu) guest h = refl
beside_still actor (Raise key) guest h = absurd (cc)
beside_still actor (Up key) guest h = absurd (cc)
beside_still actor (Down key) guest h = absurd (cc)
beside_still actor (Touch key touching) guest h = absurd (cc)
beside_still actor (Enable vcpu) guest h = absurd (cc)
beside_still actor (Cpu vcpu reg write) guest h = absurd (cc)
beside_still actor (Put word value) guest h = absurd (cc)
beside_still actor (CtlrBegin enables) guest h = absurd (cc)
beside_still actor CtlrEnd guest h = refl
beside_still actor ItsBegin guest h = refl
beside_still actor ItsEnd guest h = refl
beside_still actor (Queue offset change) guest h = absurd (cc)

beside_mark : (actor : Option ℕ) (event : Event) (b : Bool) → is_beside actor event ≡ true → spreading_after event b ≡ b
beside_mark actor (Read place) b h = refl
beside_mark actor (Reach key vcpu) b h = refl
beside_mark actor (Take key vcpu) b h = refl
beside_mark actor (Leave key vcpu) b h = refl
beside_mark actor (Raise key) b h = refl
beside_mark actor (Up key) b h = refl
beside_mark actor (Down key) b h = refl
beside_mark actor (Touch key touching) b h = refl
beside_mark actor (Enable vcpu) b h = refl
beside_mark actor (Cpu vcpu reg write) b h = refl
beside_mark actor (Put word value) b h = refl
beside_mark actor (CtlrBegin enables) b h = absurd (cc)
beside_mark actor CtlrEnd b h = absurd (cc)
beside_mark actor ItsBegin b h = refl
beside_mark actor ItsEnd b h = refl
beside_mark actor (Queue offset change) b h = refl

-- So a run is one of the named events.

pub record IsNamedRun (b : Bool) (guest : IdealGuest) (actor : Option ℕ) (piece : List Happened) : Type 0 where
  pub run : IsHomeRun b guest (named_of actor piece)
  pub goes : after_events (events_of piece) guest ≡ after_events (events_of (named_of actor piece)) guest

named_one : (b : Bool) (guest : IdealGuest) (actor : Option ℕ) (one : Happened) (piece : List Happened) → IsHomeRun b guest (one ∷ piece) → ((c : Bool) (g : IdealGuest) → IsHomeRun c g piece → IsNamedRun c g actor piece)
    → (x : Bool) → is_beside actor one.event ≡ x → IsNamedRun b guest actor (one ∷ piece)
named_one b guest actor one piece run rest true h =
    let still = rest b guest (subst (λ c. IsHomeRun c guest piece) (beside_mark actor one.event b h) (subst (λ g. IsHomeRun (spreading_after one.event b) g piece) (beside_still actor one.event guest h) run.1)) in
    record {
      run = subst (λ x. IsHomeRun b guest (cond (not x) (one ∷ named_of actor piece) (named_of actor piece))) (sym h) still.run;
      goes = ap (after_events (events_of piece)) (beside_still actor one.event guest h) ∙ still.goes ∙ ap (λ x. after_events (events_of (cond (not x) (one ∷ named_of actor piece) (named_of actor piece))) guest) (sym h);
    }
named_one b guest actor one piece run rest false h =
    let later = rest (spreading_after one.event b) (after_event guest one.event) run.1 in
    record {
      run = subst (λ x. IsHomeRun b guest (cond (not x) (one ∷ named_of actor piece) (named_of actor piece))) (sym h) (run.0, later.run);
      goes = later.goes ∙ ap (λ x. after_events (events_of (cond (not x) (one ∷ named_of actor piece) (named_of actor piece))) guest) (sym h);
    }

pub named_run : (b : Bool) (guest : IdealGuest) (actor : Option ℕ) (piece : List Happened) → IsHomeRun b guest piece → IsNamedRun b guest actor piece
named_run b guest actor [] run = record { run = tt; goes = refl }
named_run b guest actor (one ∷ piece) run = named_one b guest actor one piece run (λ c g r. named_run c g actor piece r) (is_beside actor one.event) refl

-- One of a list.

abbrev pub IsIn : {X : Type 0} → List X → X → Type 0
IsIn [] x = ⊥
IsIn (y ∷ ys) x = (y ≡ x) ⊎ IsIn ys x

pub is_in : {X : Type 0} (xs : List X) (x : X) → Contains xs x → IsIn xs x
is_in [] x (k, l, at) = absurd (omega (arith, l))
is_in (y ∷ ys) x (zero, l, at) = inl at
is_in (y ∷ ys) x (suc k, l, at) = inr (is_in ys x (k, omega (arith, l), at))

pub in_filter : {X : Type 0} (p : X → Bool) (xs : List X) (x : X) → p x ≡ true → IsIn xs x → IsIn (filter p xs) x
in_filter p [] x h is = is
in_filter p (y ∷ ys) x h (inl e) = subst (λ b. IsIn (cond b (y ∷ filter p ys) (filter p ys)) x) (sym (ap p e ∙ h)) (inl e)
in_filter p (y ∷ ys) x h (inr later) = of (p y) (in_filter p ys x h later)
  where
    of : (b : Bool) → IsIn (filter p ys) x → IsIn (cond b (y ∷ filter p ys) (filter p ys)) x
    of true is = inr is
    of false is = is

-- what all events of a list pass, each does
pub event_passes : (test : Event → Bool) (piece : List Happened) (one : Happened) → IsTrue (list_all test (events_of piece)) → IsIn piece one → test one.event ≡ true
event_passes test [] one all is = absurd is
event_passes test (x ∷ piece) one all (inl e) = let parts = and_parts (test x.event) (list_all test (events_of piece)) all in subst (λ y. test y.event ≡ true) e parts.0
event_passes test (x ∷ piece) one all (inr later) = let parts = and_parts (test x.event) (list_all test (events_of piece)) all in event_passes test piece one parts.1 later

-- Actors.

pub vcpu_is : (shape : GuestShape) (actor vcpu : ℕ) → vcpu_of shape actor ≡ Some vcpu → vcpu ≡ actor
vcpu_is shape actor vcpu e = of (nat_lt actor shape.vcpus) e
  where
    of : (b : Bool) → cond b (Some actor) None ≡ Some vcpu → vcpu ≡ actor
    of true h = cc
    of false h = absurd (cc)
