-- Events that happen as they are found, one after the other.
use Rattle.std.proofs.Common.{◌≡◌, ℕ, suc, ◌+◌, ◌-◌, ◌<◌, ◌&&◌, Bool, true, false, List, ◌∷◌, map, Option, Some, None, refl, sym, ap, ◌∙◌, arith}
use Rattle.std.specs.List.{range_with_len, filter_map, cons_option}
use Rattle.floor_calls.specs.Words.{GuestShape, Key, Private, Kind, Frame}
use Rattle.floor_calls.specs.Registers.{intid_of, is_target}
use Rattle.floor_calls.specs.Calls.{Event, Touch, Touching, part_key, part_touch, part_event, sgi_at}
use Rattle.floor_calls.specs.GicCall.declared.event.Event.TheVariants.{Raise}
use Rattle.ideal_guest.specs.declared.guest.IdealGuest.{IdealGuest}
use Rattle.ideal_guest.specs.Ideal.{after_event, after_events}
use Rattle.ideal_guest.specs.Sound.{IsSound}

-- a guest is sound and of the same shape, and what is left of some events leads from it to where all lead from the start
pub record IsUnderway (old : IdealGuest) (events coming : List Event) (now : IdealGuest) : Type 0 where
  pub sound : IsSound now
  pub shape : now.shape ≡ old.shape
  pub left : after_events coming now ≡ after_events events old

-- one event more happened
pub underway_next : (old now next : IdealGuest) (events left rest : List Event) (event : Event) → left ≡ event ∷ rest → next ≡ after_event now event → IsSound next → next.shape ≡ now.shape → IsUnderway old events left now → IsUnderway old events rest next
underway_next old now next events left rest event is made sound shape way =
    record {
      sound = sound;
      shape = shape ∙ way.shape;
      left = ap (after_events rest) made ∙ ap (λ es. after_events es now) (sym is) ∙ way.left;
    }

-- what is found at the numbers from one on, below another
abbrev pub found_from : (ℕ → Option Event) → ℕ → ℕ → List Event
found_from at n count = filter_map at (range_with_len n (count - n))

found_next : (at : ℕ → Option Event) (n count : ℕ) → n < count → found_from at n count ≡ cons_option (at n) (found_from at (n + 1) count)
found_next at n count more = let left : count - n ≡ suc (count - (n + 1)) = omega arith in ap (λ k. filter_map at (range_with_len n k)) left

-- something is found at the next number, and happened; or nothing is
pub found_happened : (old now next : IdealGuest) (events : List Event) (at : ℕ → Option Event) (n count : ℕ) (event : Event) → n < count → at n ≡ Some event → next ≡ after_event now event → IsSound next → next.shape ≡ now.shape
    → IsUnderway old events (found_from at n count) now → IsUnderway old events (found_from at (n + 1) count) next
found_happened old now next events at n count event more here made sound shape way =
    underway_next old now next events (found_from at n count) (found_from at (n + 1) count) event (found_next at n count more ∙ ap (λ o. cons_option o (found_from at (n + 1) count)) here) made sound shape way

pub found_none : (old now : IdealGuest) (events : List Event) (at : ℕ → Option Event) (n count : ℕ) → n < count → at n ≡ None → IsUnderway old events (found_from at n count) now → IsUnderway old events (found_from at (n + 1) count) now
found_none old now events at n count more here way =
    record {
      sound = way.sound;
      shape = way.shape;
      left = ap (λ es. after_events es now) (sym (found_next at n count more ∙ ap (λ o. cons_option o (found_from at (n + 1) count)) here)) ∙ way.left;
    }

-- an event for each number from one on, below another
pub made_next : (event : ℕ → Event) (n count : ℕ) → n < count → map event (range_with_len n (count - n)) ≡ event n ∷ map event (range_with_len (n + 1) (count - (n + 1)))
made_next event n count more = let left : count - n ≡ suc (count - (n + 1)) = omega arith in ap (λ k. map event (range_with_len n k)) left

-- the touch of a part whose interrupt is there, and of one whose interrupt is not
pub part_there : (shape : GuestShape) (frame : Frame) (kind : Kind) (first : ℕ) (write : Option ℕ) (number : ℕ) (key : Key) (touching : Touching) → part_key shape frame kind (first + number) ≡ Some key → touching ≡ part_touch kind write number → part_event shape frame kind first write number ≡ Some (Touch key touching)
part_there shape frame kind first write number key touching there e = rw there (ap (λ t. Some (Touch key t)) (sym e))

pub part_absent : (shape : GuestShape) (frame : Frame) (kind : Kind) (first : ℕ) (write : Option ℕ) (number : ℕ) → part_key shape frame kind (first + number) ≡ None → part_event shape frame kind first write number ≡ None
part_absent shape frame kind first write number absent = rw absent refl

-- the SGI at a vCPU that a write names, and at another
pub sgi_named : (value sender vcpu id : ℕ) → is_target value sender vcpu ≡ true → id ≡ intid_of value → sgi_at value sender vcpu ≡ Some (Raise (Private vcpu id))
sgi_named value sender vcpu id named e = rw named (ap (λ i. Some (Raise (Private vcpu i))) (sym e))

pub sgi_unnamed : (value sender vcpu : ℕ) → is_target value sender vcpu ≡ false → sgi_at value sender vcpu ≡ None
sgi_unnamed value sender vcpu named = rw named refl

-- whether the value names a vCPU that the guest has is a bit of its set of targets
pub target_bit : (bit there named : Bool) → bit ≡ (there && named) → there ≡ true → named ≡ bit
target_bit bit true named e h = sym e
target_bit bit false named e h = absurd (cc)
