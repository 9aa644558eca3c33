-- Registers that have a part for each interrupt: what a call finds in its touches is what the guest has as it begins.
use Rattle.std.proofs.Common.{◌≡◌, ℕ, ◌<◌, ◌≤◌, ◌+◌, inl, inr, zero, suc, Bool, true, false, cond, IsTrue, IfSome, All, List, [], ◌∷◌, Option, option_map, Some, None, refl, sym, ap, ◌∙◌, subst, arith}
use Rattle.std.specs.List.{list_all, range_with_len, filter_map, cons_option}
use Rattle.std.specs.Option.{option_map_or}
use Rattle.std.proofs.lemmas.Bool.{and_parts, cases_eq}
use Rattle.law_home_commutes.specs.Words.{Key, Frame, Kind, GuestShape, has_interrupt, is_same_key, Irq}
use Rattle.law_home_commutes.specs.Registers.{joined, part_at as placed_at, has_part, part_read}
use Rattle.law_home_commutes.specs.Calls.{Event, Touch, Found, Record, Place, Touching, part_key, part_touch, part_event, part_events, part_at, part_value, Happened, named_of, HandsOut, Makes, View}
use Rattle.law_home_commutes.specs.GicCall.declared.touch.Touching.TheVariants.{Read as ReadTouch}
use Rattle.law_home_commutes.proofs.GicCall.PartLemmas.{part_key_there}
use Rattle.law_home_commutes.specs.Histories.{IdealGuest, irq_at, view_of, after_event}
use Rattle.law_home_commutes.proofs.IdealGuests.KeyLemmas.{IsWhole, whole_changed, irq_changed}
use Rattle.law_eager_is_history.proofs.EventLemmas.{all_found}
use Rattle.law_lone_calls_are_eager.proofs.NamedLemmas.{named_run, IsIn}
use Rattle.law_lone_calls_are_eager.proofs.ReadLemmas.{all_in, shape_kept}
use Rattle.law_lone_calls_are_eager.proofs.RunLemmas.{events_of, spreading_after, marked, IsHomeRun}

-- A run of a guest that makes these events of a call, and hands out what this view has.
pub record IsMade (guest : IdealGuest) (actor : Option ℕ) (view : View) (events : List Event) (places : List Place) (piece : List Happened) : Type 0 where
  pub whole : IsWhole guest
  pub run : IsHomeRun false guest piece
  pub made : Makes actor view events places [] piece

-- Events that only read.

abbrev pub is_part_read : Event → Bool
is_part_read (Touch key (ReadTouch kind)) = true
is_part_read event = false

record IsStill (guest after : IdealGuest) (key : Key) : Type 0 where
  pub whole : IsWhole after
  pub same : irq_at after key ≡ irq_at guest key

still_read : (event : Event) (guest : IdealGuest) (key : Key) → is_part_read event ≡ true → IsWhole guest → IsTrue (has_interrupt guest.shape key) → IsStill guest (after_event guest event) key
still_read (Touch other (ReadTouch kind)) guest key h whole there = record { whole = whole_changed other (λ irq. irq) guest whole; same = irq_changed guest other key (λ irq. irq) whole there ∙ either (is_same_key key other) }
  where
    either : (b : Bool) → cond b (irq_at guest key) (irq_at guest key) ≡ irq_at guest key
    either true = refl
    either false = refl
still_read event guest key h whole there = absurd (cc)

read_found : (key : Key) (kind : Kind) (found : Found) (named : List Happened) (b : Bool) (guest : IdealGuest) → IsWhole guest → IsTrue (has_interrupt guest.shape key) → IsHomeRun b guest named → IsTrue (list_all is_part_read (events_of named))
    → IsIn named (record { event = Touch key (ReadTouch kind); found = found }) → found ≡ Record (irq_at guest key)
read_found key kind found [] b guest whole there run all is = absurd is
read_found key kind found (one ∷ named) b guest whole there run all (inl e) = subst (λ x. HandsOut (marked b guest) x.event x.found) e run.0.hands
read_found key kind found (one ∷ named) b guest whole there run all (inr later) =
    let parts = and_parts (is_part_read one.event) (list_all is_part_read (events_of named)) all in
    let still = still_read one.event guest key parts.0 whole there in
    read_found key kind found named (spreading_after one.event b) (after_event guest one.event) still.whole (subst (λ s. IsTrue (has_interrupt s key)) (sym (shape_kept one.event guest)) there) run.1 parts.1 later
    ∙ ap Record still.same

-- an event of a list happened with something found
pub record HappenedIn (named : List Happened) (event : Event) : Type 0 where
  pub found : Found
  pub is : IsIn named (record { event = event; found = found })

pub happened_in : (named : List Happened) (event : Event) → IsIn (events_of named) event → HappenedIn named event
happened_in [] event is = absurd is
happened_in (one ∷ named) event (inl e) = record { found = one.found; is = inl (ap (λ x. let h : Happened = record { event = x; found = one.found } in h) e) }
happened_in (one ∷ named) event (inr later) = let rest = happened_in named event later in record { found = rest.found; is = inr rest.is }

same_record : (one other : Irq) → Record one ≡ Record other → one ≡ other
same_record one other e = cc

module _ (guest : IdealGuest) (actor : Option ℕ) (view : View) (events : List Event) (places : List Place) (piece : List Happened) (is : IsMade guest actor view events places piece) where
  -- an interrupt that is only read, among others that are
  pub irq_read : (key : Key) (kind : Kind) → IsTrue (list_all is_part_read events) → IsTrue (has_interrupt guest.shape key) → IsIn events (Touch key (ReadTouch kind)) → view.irqs key ≡ irq_at guest key
  irq_read key kind all there among =
      let named = named_run false guest actor piece is.run in
      let one = happened_in (named_of actor piece) (Touch key (ReadTouch kind)) (subst (λ es. IsIn es (Touch key (ReadTouch kind))) (sym is.made.events_are) among) in
      let seen : one.found ≡ Record (view.irqs key) = all_in (λ (h : Happened). HandsOut view h.event h.found) (named_of actor piece) (record { event = Touch key (ReadTouch kind); found = one.found }) is.made.found one.is in
      same_record (view.irqs key) (irq_at guest key)
      (sym seen ∙ read_found key kind one.found (named_of actor piece) false guest is.whole there named.run (subst (λ es. IsTrue (list_all is_part_read es)) (sym is.made.events_are) all) one.is)

  -- the first interrupt that is touched
  pub irq_first : (key : Key) (touching : Touching) (rest : List Event) → events ≡ Touch key touching ∷ rest → view.irqs key ≡ irq_at guest key
  irq_first key touching rest first = of (named_of actor piece) (named_run false guest actor piece is.run).run is.made.found (is.made.events_are ∙ first)
    where
      of : (named : List Happened) → IsHomeRun false guest named → All (λ (h : Happened). HandsOut view h.event h.found) named → events_of named ≡ Touch key touching ∷ rest → view.irqs key ≡ irq_at guest key
      of [] run found are = absurd (cc)
      of (one ∷ named) run found are =
          let event_is : one.event ≡ Touch key touching = cc in
          let here : HandsOut view one.event one.found = all_in (λ (h : Happened). HandsOut view h.event h.found) (one ∷ named) one found (inl refl) in
          same_record (view.irqs key) (irq_at guest key) (sym (subst (λ e. HandsOut view e one.found) event_is here) ∙ subst (λ e. HandsOut (marked false guest) e one.found) event_is run.0.hands)

-- Parts.

in_found : {X : Type 0} (f : ℕ → Option X) (x : X) (a n i : ℕ) → a ≤ i → i < a + n → f i ≡ Some x → IsIn (filter_map f (range_with_len a n)) x
in_found f x a zero i low high e = absurd (omega (arith, low, high))
in_found {X = X} f x a (suc n) i low high e = elim (cases_eq i a) [
  | inl same ↦ subst (λ o. IsIn (cons_option o (filter_map f (range_with_len (a + 1) n))) x) (sym (ap f (sym same) ∙ e)) (inl refl)
  | inr differ ↦ of (f a) (in_found f x (a + 1) n i (omega (arith, low, differ)) (omega (arith, high)) e)
]
  where
    of : (o : Option X) → IsIn (filter_map f (range_with_len (a + 1) n)) x → IsIn (cons_option o (filter_map f (range_with_len (a + 1) n))) x
    of None is = is
    of (Some y) is = inr is

joined_same : (kind : Kind) (f g : ℕ → ℕ) (n : ℕ) → ((m : ℕ) → m < n → f m ≡ g m) → joined kind f n ≡ joined kind g n
joined_same kind f g zero same = refl
joined_same kind f g (suc n) same =
    ap (λ m. m + placed_at kind (f n) n) (joined_same kind f g n (λ m l. same m (omega (arith, l)))) ∙ ap (λ m. joined kind g n + placed_at kind m n) (same n (omega arith))

reads_only : (shape : GuestShape) (frame : Frame) (kind : Kind) (first count : ℕ) → IsTrue (list_all is_part_read (part_events shape frame kind first count None))
reads_only shape frame kind first count = all_found is_part_read (part_event shape frame kind first None) 0 count (λ i. of i (part_key shape frame kind (first + i)))
  where
    of : (i : ℕ) (o : Option Key) → IsTrue (option_map_or is_part_read (option_map (λ key. Touch key (part_touch kind None i)) o) true)
    of i None = refl
    of i (Some key) = refl

-- what a read of some parts answers
pub parts_same :
    (guest : IdealGuest) (actor : Option ℕ) (view : View) (shape : GuestShape) (frame : Frame) (kind : Kind) (first count : ℕ) (places : List Place) (piece : List Happened) → guest.shape ≡ shape → IsMade guest actor view (part_events shape frame kind first count None) places piece
    → part_value shape view frame kind first count ≡ part_value shape (view_of guest) frame kind first count
parts_same guest actor view shape frame kind first count places piece same is = joined_same kind (part_at shape view frame kind first) (part_at shape (view_of guest) frame kind first) count (λ m l. of m l (part_key shape frame kind (first + m)) refl (part_key_there shape frame kind (first + m)))
  where
    of : (m : ℕ) → m < count → (o : Option Key) → part_key shape frame kind (first + m) ≡ o → IfSome o (λ key. IsTrue (has_interrupt shape key) × IsTrue (has_part kind key))
        → option_map_or (λ key. part_read kind (view.irqs key)) o 0 ≡ option_map_or (λ key. part_read kind (irq_at guest key)) o 0
    of m l None e there = refl
    of m l (Some key) e there =
        ap (part_read kind)
        (irq_read guest actor view (part_events shape frame kind first count None) places piece is key kind (reads_only shape frame kind first count) (subst (λ s. IsTrue (has_interrupt s key)) (sym same) there.0)
        (in_found (part_event shape frame kind first None) (Touch key (ReadTouch kind)) 0 count m (omega arith) (omega (arith, l)) (ap (option_map (λ k. Touch k (part_touch kind None m))) e)))
