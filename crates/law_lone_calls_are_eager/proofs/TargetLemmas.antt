-- For which vCPUs the LPIs are during a call whose events move none of them.
use Rattle.std.proofs.Common.{◌≡◌, ℕ, zero, suc, Bool, true, false, cond, if◌then◌else◌, IsTrue, Contains, List, [], ◌∷◌, ◌++◌, Option, option_map, Some, None, is_none, find, refl, sym, ap, ◌∙◌, subst, arith}
use Rattle.std.specs.List.{list_all}
use Rattle.std.specs.Option.{option_map_or}
use Rattle.std.proofs.lemmas.Bool.{and_parts}
use Rattle.law_home_commutes.specs.Words.{Key, Lpi, SetPending, GuestShape, has_interrupt, is_same_key, Irq, cleared}
use Rattle.law_home_commutes.specs.Calls.{Event, Up, Down, Touch, Reach, Take, Leave, Enable, Cpu, Put, CtlrBegin, CtlrEnd, ItsBegin, Runs, Done, Stalls, Moved, Register, reached, taken, left, is_beside}
use Rattle.law_home_commutes.specs.GicCall.declared.event.Event.TheVariants.{Raise, Read, ItsEnd, Queue}
use Rattle.law_home_commutes.specs.Histories.{IdealGuest, irq_at, view_of, Ideal, Standing, is_of, standing_at, happened, home, Call, targets_in, is_ahead, is_passed, noted}
use Rattle.law_home_commutes.proofs.IdealGuests.KeyLemmas.{IsWhole}
use Rattle.law_home_commutes.proofs.LawHistories.StateLemmas.{record_is, guest_is}
use Rattle.law_home_commutes.proofs.LawHistories.TargetLemmas.{by_record, either}
use Rattle.law_eager_is_history.proofs.CourseLemmas.{call_after}
use Rattle.law_eager_is_history.proofs.PieceLemmas.{targets_kept}
use Rattle.law_eager_is_history.proofs.WindowLemmas.{next_call}
use Rattle.law_home_commutes.proofs.HomeLemmas.{home_irq, home_rest}
use Rattle.law_home_commutes.proofs.SpotLemmas.{Spot, back, IsTidy, moved_of}

-- reads, moves, EnableLPIs, and touches that set a pending state
abbrev pub keeps_targets : Event → Bool
keeps_targets (Reach key u) = true
keeps_targets (Take key u) = true
keeps_targets (Leave key u) = true
keeps_targets (Read at) = true
keeps_targets (Enable u) = true
keeps_targets (Touch key (Register SetPending value)) = true
keeps_targets event = false

pub beside_targets : (actor : Option ℕ) (event : Event) → is_beside actor event ≡ true → keeps_targets event ≡ true
beside_targets actor (Raise key) h = absurd (cc)
beside_targets actor (Up key) h = absurd (cc)
beside_targets actor (Down key) h = absurd (cc)
beside_targets actor (Touch key touching) h = absurd (cc)
beside_targets actor (Reach key u) h = refl
beside_targets actor (Take key u) h = refl
beside_targets actor (Leave key u) h = refl
beside_targets actor (Enable u) h = absurd (cc)
beside_targets actor (Cpu u reg write) h = absurd (cc)
beside_targets actor (Read at) h = refl
beside_targets actor (Put other value) h = absurd (cc)
beside_targets actor (CtlrBegin enables) h = absurd (cc)
beside_targets actor CtlrEnd h = absurd (cc)
beside_targets actor ItsBegin h = absurd (cc)
beside_targets actor ItsEnd h = absurd (cc)
beside_targets actor (Queue offset Runs) h = absurd (cc)
beside_targets actor (Queue offset (Done words)) h = absurd (cc)
beside_targets actor (Queue offset (Stalls fault)) h = absurd (cc)

-- They move no LPI.

reached_route : (irq : Irq) → (reached irq).irq.route ≡ irq.route
reached_route irq = of (is_none irq.act_by)
  where
    of : (b : Bool) → (cond b (let m : Moved = record { irq = cleared irq; entry = record { pending = true; active = false; rise = irq.rise; soft = irq.soft } } in m) (record { irq = irq; entry = record { pending = false; active = true; rise = false; soft = false } })).irq.route ≡ irq.route
    of true = refl
    of false = refl

module _ (actor : ℕ) (state : Ideal) (whole : IsWhole state.guest) (id : ℕ) where
  found_route : (change : Moved → Irq) (vcpu : ℕ) → ((moved : Moved) → (change moved).route ≡ moved.irq.route)
      → (option_map_or change (option_map (moved_of state (Lpi id)) (find (is_of (Lpi id)) (standing_at state vcpu))) (irq_at state.guest (Lpi id))).route ≡ (irq_at state.guest (Lpi id)).route
  found_route change vcpu same = of (find (is_of (Lpi id)) (standing_at state vcpu))
    where
      of : (o : Option Standing) → (option_map_or change (option_map (moved_of state (Lpi id)) o) (irq_at state.guest (Lpi id))).route ≡ (irq_at state.guest (Lpi id)).route
      of None = refl
      of (Some one) = same (moved_of state (Lpi id) one)

  move_route : (event : Event) (other : Key) (new : Irq) → (IsTrue (has_interrupt state.guest.shape (Lpi id)) → irq_at (happened actor event state).guest (Lpi id) ≡ cond (is_same_key (Lpi id) other) new (irq_at state.guest (Lpi id)))
      → new.route ≡ (irq_at state.guest (Lpi id)).route → targets_in (happened actor event state) id ≡ targets_in state id
  move_route event other new now same =
      by_record state (happened actor event state) id (guest_is actor event state).shape (λ there. ap (λ (i : Irq). i.route) (now there) ∙ either (is_same_key (Lpi id) other) new (irq_at state.guest (Lpi id)) same)

  pub event_targets : (event : Event) → keeps_targets event ≡ true → targets_in (happened actor event state) id ≡ targets_in state id
  event_targets (Reach other vcpu) h =
      move_route (Reach other vcpu) other (reached (irq_at state.guest (Lpi id))).irq (λ there. record_is state (Lpi id) whole there actor (Reach other vcpu)) (reached_route (irq_at state.guest (Lpi id)))
  event_targets (Take other vcpu) h =
      move_route (Take other vcpu) other _ (λ there. record_is state (Lpi id) whole there actor (Take other vcpu)) (found_route (λ moved. (taken moved).irq) vcpu (λ moved. refl))
  event_targets (Leave other vcpu) h =
      move_route (Leave other vcpu) other _ (λ there. record_is state (Lpi id) whole there actor (Leave other vcpu)) (found_route (left vcpu) vcpu (λ moved. refl))
  event_targets (Read at) h = refl
  event_targets (Enable u) h = refl
  event_targets (Touch key (Register SetPending value)) h = targets_kept actor state key value whole id
  event_targets event h = absurd (cc)

-- So a call sees each for one vCPU all along.

abbrev pub AllAre : List (Option ℕ) → Option ℕ → Type 0
AllAre [] t = Unit {0}
AllAre (x ∷ xs) t = (x ≡ t) × AllAre xs t

all_one : (xs : List (Option ℕ)) (t : Option ℕ) → AllAre xs t → AllAre (xs ++ t ∷ []) t
all_one [] t are = (refl, tt)
all_one (x ∷ xs) t are = (are.0, all_one xs t are.1)

pub all_contain : (xs : List (Option ℕ)) (t x : Option ℕ) → AllAre xs t → Contains xs x → x ≡ t
all_contain [] t x are (k, l, at) = absurd (omega (arith, l))
all_contain (y ∷ ys) t x are (zero, l, at) = sym at ∙ are.0
all_contain (y ∷ ys) t x are (suc k, l, at) = all_contain ys t x are.1 (k, omega (arith, l), at)

pub record IsSteady (call : Call) (t : ℕ → Option ℕ) : Type 0 where
  pub all : (id : ℕ) → AllAre (call.targets id) (t id)

noted_steady : (state : Ideal) (event : Event) (call : Call) (t : ℕ → Option ℕ) → keeps_targets event ≡ true → IsSteady call t → IsSteady (noted state event call) t
noted_steady state (Reach key u) call t h is = is
noted_steady state (Take key u) call t h is = is
noted_steady state (Leave key u) call t h is = is
noted_steady state (Read at) call t h is = is
noted_steady state (Enable u) call t h is = record { all = λ id. tt }
noted_steady state (Touch key (Register SetPending value)) call t h is = record { all = λ id. of id (is_ahead call.place key id) }
  where
    of : (id : ℕ) (b : Bool) → AllAre (if b then [] else call.targets id) (t id)
    of id true = tt
    of id false = is.all id
noted_steady state event call t h is = absurd (cc)

next_steady : (actor : ℕ) (state : Ideal) (event : Event) (call : Call) (t : ℕ → Option ℕ) → keeps_targets event ≡ true → ((id : ℕ) → targets_in (happened actor event state) id ≡ t id) → IsSteady call t → IsSteady (next_call state actor event call) t
next_steady actor state event call t h now is =
    let noted_is = noted_steady state event call t h is in
    record { all = λ id. subst (λ x. AllAre (if is_passed (noted state event call).place id then (noted state event call).targets id else (noted state event call).targets id ++ x ∷ []) (t id)) (sym (now id)) (of id (is_passed (noted state event call).place id) (noted_is.all id)) }
  where
    of : (id : ℕ) (b : Bool) → AllAre ((noted state event call).targets id) (t id) → AllAre (if b then (noted state event call).targets id else (noted state event call).targets id ++ t id ∷ []) (t id)
    of id true are = are
    of id false are = all_one ((noted state event call).targets id) (t id) are

pub steady : (actor : ℕ) (events : List Event) (state : Ideal) (call : Call) (t : ℕ → Option ℕ) → IsWhole state.guest → ((id : ℕ) → targets_in state id ≡ t id) → IsTrue (list_all keeps_targets events) → IsSteady call t → IsSteady (call_after actor events state call) t
steady actor [] state call t whole now all is = is
steady actor (event ∷ events) state call t whole now all is =
    let parts = and_parts (keeps_targets event) (list_all keeps_targets events) all in
    let next : (id : ℕ) → targets_in (happened actor event state) id ≡ t id = λ id. event_targets actor state whole id event parts.0 ∙ now id in
    steady actor events (happened actor event state) (next_call state actor event call) t ((guest_is actor event state).whole whole) next parts.1 (next_steady actor state event call t parts.0 next is)

-- For which they are with all taken back.
back_route : (spot : Option Spot) (irq : Irq) → (back spot irq).route ≡ irq.route
back_route None irq = refl
back_route (Some one) irq = refl

pub home_targets : (shape : GuestShape) (state : Ideal) → IsTidy shape state → (id : ℕ) → (view_of (home state)).targets id ≡ targets_in state id
home_targets shape state tidy id =
    by_record state (record state { guest = home state }) id (ap (λ (g : IdealGuest). g.shape) (home_rest state))
    (λ there.
    let placed = tidy.placed (Lpi id) in
    ap (λ (i : Irq). i.route) (home_irq shape state tidy (Lpi id) (subst (λ s. IsTrue (has_interrupt s (Lpi id))) tidy.shape_is there) placed.spot placed.is) ∙ back_route placed.spot (irq_at state.guest (Lpi id)))
