-- Which events leave the vCPU that an LPI is for.
use Rattle.std.proofs.Common.{◌≡◌, true≢false, ℕ, ◌==◌, ◌&&◌, Bool, true, false, cond, if◌then◌else◌, IsTrue, Option, option_map, is_none, find, slice_index_or, Some, None, refl, sym, ap, ◌∙◌}
use Rattle.std.specs.Option.{option_map_or}
use Rattle.std.proofs.lemmas.Bool.{eq-eqb, eqb-true, ne_eqb}
use Rattle.floor_histories.specs.Words.{Private, Spi, Lpi, Kind, SetEnable, ClearEnable, SetPending, ClearPending, SetActive, ClearActive, Priority, Config, Routing, GuestShape, has_interrupt, is_same_key, place_of, Irq, cleared, target_in}
use Rattle.floor_histories.specs.GicBase.declared.operation.Kind.TheVariants.{Group}
use Rattle.floor_histories.specs.Registers.{part_written}
use Rattle.floor_histories.specs.Calls.{CanHappen, irq_in, opening_irq, Event, Up, Down, Touch, Reach, Take, Leave, Enable, Cpu, Put, CtlrBegin, CtlrEnd, ItsBegin, Moved, Touching, Register, Enables as CopyEnables, MapLpi, reached, taken, left, touched}
use Rattle.floor_histories.specs.GicCall.declared.event.Event.TheVariants.{Raise, Read, ItsEnd, Queue}
use Rattle.floor_histories.specs.GicCall.declared.touch.Touching.TheVariants.{Read as ReadTouch, Retarget, Configure, Forget}
use Rattle.floor_histories.specs.Histories.{irq_at, Ideal, moved_at, is_of, standing_at, Standing, happened, targets_in}
use Rattle.floor_histories.proofs.IdealGuests.KeyLemmas.{IsWhole}
use Rattle.law_histories.specs.Held.{moves_target, moves_lpi}
use Rattle.law_histories.proofs.StateLemmas.{record_after, record_is, guest_is}

-- what is said of a record that is there says so of all
pub by_record : (state after : Ideal) (id : ℕ) → after.guest.shape ≡ state.guest.shape → (IsTrue (has_interrupt state.guest.shape (Lpi id)) → (irq_at after.guest (Lpi id)).route ≡ (irq_at state.guest (Lpi id)).route) → targets_in after id ≡ targets_in state id
by_record state after id shape same = ap (target_in (irq_at after.guest (Lpi id)).route) shape ∙ ap (λ r. target_in r state.guest.shape) (of (has_interrupt state.guest.shape (Lpi id)) refl)
  where
    of : (b : Bool) → has_interrupt state.guest.shape (Lpi id) ≡ b → (irq_at after.guest (Lpi id)).route ≡ (irq_at state.guest (Lpi id)).route
    of true e = same e
    of false e =
        ap (λ s. (irq_in s after.guest.irqs (Lpi id)).route) shape
        ∙ ap (λ b. (if b then slice_index_or after.guest.irqs (place_of state.guest.shape (Lpi id)) (opening_irq false (Lpi id)) else opening_irq false (Lpi id)).route) e
        ∙ sym (ap (λ b. (if b then slice_index_or state.guest.irqs (place_of state.guest.shape (Lpi id)) (opening_irq false (Lpi id)) else opening_irq false (Lpi id)).route) e)

pub either : (b : Bool) (one other : Irq) → one.route ≡ other.route → (cond b one other).route ≡ other.route
either true one other e = e
either false one other e = refl

kept_if : (b : Bool) (one other : Irq) → one.route ≡ other.route → (cond b other one).route ≡ other.route
kept_if true one other e = refl
kept_if false one other e = e

written_route : (kind : Kind) (id : ℕ) (irq : Irq) (value : ℕ) (shape : GuestShape) → CanHappen shape (Touch (Lpi id) (Register kind value)) → (part_written kind (Lpi id) irq value shape).route ≡ irq.route
written_route Group id irq value shape can = refl
written_route SetEnable id irq value shape can = either (value == 1) _ irq refl
written_route ClearEnable id irq value shape can = either (value == 1) _ irq refl
written_route SetPending id irq value shape can = either (value == 1) _ irq refl
written_route ClearPending id irq value shape can = either (value == 1) _ irq refl
written_route SetActive id irq value shape can = either (value == 1) _ irq refl
written_route ClearActive id irq value shape can = either (value == 1) _ irq refl
written_route Priority id irq value shape can = refl
written_route Config id irq value shape can = refl
written_route Routing id irq value shape can = absurd (let fits = can.fits in cc)

touched_route : (shape : GuestShape) (id : ℕ) (touching : Touching) (irq : Irq) → CanHappen shape (Touch (Lpi id) touching) → moves_target touching ≡ false → (touched shape (Lpi id) touching irq).route ≡ irq.route
touched_route shape id (ReadTouch kind) irq can h = refl
touched_route shape id (Register kind value) irq can h = written_route kind id irq value shape can
touched_route shape id (CopyEnables en0 en1) irq can h = refl
touched_route shape id (MapLpi target enabled prio) irq can h = absurd (cc)
touched_route shape id (Retarget target) irq can h = absurd (cc)
touched_route shape id (Configure enabled prio) irq can h = refl
touched_route shape id Forget irq can h = absurd (cc)

reached_route : (irq : Irq) → (reached irq).irq.route ≡ irq.route
reached_route irq = of (is_none irq.act_by)
  where
    of : (b : Bool) → let moved : Moved = cond b (record { irq = cleared irq; entry = record { pending = true; active = false; rise = irq.rise; soft = irq.soft } }) (record { irq = irq; entry = record { pending = false; active = true; rise = false; soft = false } }) in moved.irq.route ≡ irq.route
    of true = refl
    of false = refl

module _ (state : Ideal) (vcpu id : ℕ) (change : Moved → Irq) (same : (moved : Moved) → (change moved).route ≡ moved.irq.route) where
  moved_route : (option_map_or change (moved_at state vcpu (Lpi id)) (irq_at state.guest (Lpi id))).route ≡ (irq_at state.guest (Lpi id)).route
  moved_route = of (find (is_of (Lpi id)) (standing_at state vcpu))
    where
      of : (o : Option Standing) → (option_map_or change (option_map (λ standing. record { irq = irq_at state.guest (Lpi id); entry = standing.entry }) o) (irq_at state.guest (Lpi id))).route ≡ (irq_at state.guest (Lpi id)).route
      of None = refl
      of (Some standing) = same (record { irq = irq_at state.guest (Lpi id); entry = standing.entry })

-- a touch of the LPI itself
touch_route : (state : Ideal) (id other : ℕ) (touching : Touching) → CanHappen state.guest.shape (Touch (Lpi other) touching) → (other == id && moves_target touching) ≡ false
    → (cond (is_same_key (Lpi id) (Lpi other)) (touched state.guest.shape (Lpi other) touching (irq_at state.guest (Lpi id))) (irq_at state.guest (Lpi id))).route ≡ (irq_at state.guest (Lpi id)).route
touch_route state id other touching can stays = of (other == id) refl stays
  where
    turned : (m n : ℕ) (b : Bool) → (m == n) ≡ b → (n == m) ≡ b
    turned m n true e = eq-eqb n m (sym (eqb-true m n e))
    turned m n false e = ne_eqb n m (λ k. true≢false (sym (eq-eqb m n (sym k)) ∙ e))

    of : (b : Bool) → (other == id) ≡ b → (b && moves_target touching) ≡ false → (cond (is_same_key (Lpi id) (Lpi other)) (touched state.guest.shape (Lpi other) touching (irq_at state.guest (Lpi id))) (irq_at state.guest (Lpi id))).route ≡ (irq_at state.guest (Lpi id)).route
    of true e h = either (is_same_key (Lpi id) (Lpi other)) _ (irq_at state.guest (Lpi id)) (touched_route state.guest.shape other touching (irq_at state.guest (Lpi id)) can h)
    of false e h = ap (λ b. (cond b (touched state.guest.shape (Lpi other) touching (irq_at state.guest (Lpi id))) (irq_at state.guest (Lpi id))).route) (turned other id false e)

route_after : (event : Event) (state : Ideal) (id : ℕ) → CanHappen state.guest.shape event → moves_lpi id event ≡ false → (record_after event state (Lpi id)).route ≡ (irq_at state.guest (Lpi id)).route
route_after (Raise other) state id can h = either (is_same_key (Lpi id) other) _ (irq_at state.guest (Lpi id)) refl
route_after (Up other) state id can h = either (is_same_key (Lpi id) other) _ (irq_at state.guest (Lpi id)) refl
route_after (Down other) state id can h = either (is_same_key (Lpi id) other) _ (irq_at state.guest (Lpi id)) refl
route_after (Touch (Lpi other) touching) state id can h = touch_route state id other touching can h
route_after (Touch (Spi other) touching) state id can h = refl
route_after (Touch (Private v other) touching) state id can h = refl
route_after (Reach other vcpu) state id can h = either (is_same_key (Lpi id) other) _ (irq_at state.guest (Lpi id)) (reached_route (irq_at state.guest (Lpi id)))
route_after (Take other vcpu) state id can h = either (is_same_key (Lpi id) other) _ (irq_at state.guest (Lpi id)) (moved_route state vcpu id (λ moved. (taken moved).irq) (λ moved. refl))
route_after (Leave other vcpu) state id can h = either (is_same_key (Lpi id) other) _ (irq_at state.guest (Lpi id)) (moved_route state vcpu id (left vcpu) (λ moved. refl))
route_after (Enable vcpu) state id can h = refl
route_after (Cpu vcpu reg write) state id can h = refl
route_after (Read place) state id can h = refl
route_after (Put word value) state id can h = refl
route_after (CtlrBegin enables) state id can h = refl
route_after CtlrEnd state id can h = refl
route_after ItsBegin state id can h = refl
route_after ItsEnd state id can h = refl
route_after (Queue offset change) state id can h = refl

-- an event that does not move an LPI leaves its vCPU
pub target_stays : (actor : ℕ) (event : Event) (state : Ideal) (id : ℕ) → IsWhole state.guest → CanHappen state.guest.shape event → moves_lpi id event ≡ false → targets_in (happened actor event state) id ≡ targets_in state id
target_stays actor event state id whole can h =
    by_record state (happened actor event state) id (guest_is actor event state).shape
    (λ there. ap (λ (i : Irq). i.route) (record_is state (Lpi id) whole there actor event) ∙ route_after event state id can h)
