-- The events that are no moves and no accesses of a CPU interface: what they do to the guest with all taken back.
use Rattle.std.proofs.Common.{◌≡◌, ℕ, ◌||◌, not, Bool, true, false, cond, IsTrue, [], Option, Some, None, is_some, refl, sym, ap, ◌∙◌, subst, arith}
use Rattle.std.proofs.lemmas.Grind.{common_steps}
use Rattle.law_histories.specs.Words.{Key, Kind, SetEnable, ClearEnable, SetPending, ClearPending, SetActive, ClearActive, Priority, Config, Routing, GuestShape, has_interrupt, is_same_key, IsShape, Irq, Route, has_bit, raised, wire_up, wire_down, is_number, target_in, is_routed_as}
use Rattle.law_histories.specs.GicBase.declared.operation.Kind.TheVariants.{Group}
use Rattle.law_histories.proofs.GicBase.KeyLemmas.{same_key}
use Rattle.law_histories.proofs.GicWord.ValidLemmas.{valid_raised, valid_wire_up, valid_wire_down}
use Rattle.law_histories.specs.Registers.{activated, part_written}
use Rattle.law_histories.specs.Calls.{Event, Up, Down, Touch, Reach, Take, Leave, Enable, Cpu, Put, CtlrBegin, CtlrEnd, ItsBegin, Record, Place, Runs, Done, Stalls, Touching, Register, Enables, MapLpi, touched, CanTouch, HandsOut, held_at, CanHappen}
use Rattle.law_histories.specs.GicCall.declared.event.Event.TheVariants.{Raise, Read, ItsEnd, Queue}
use Rattle.law_histories.specs.GicCall.declared.event.Found.TheVariants.{Word as FoundWord, Queue as FoundQueue, Ctlr as FoundCtlr, Lpis as FoundLpis}
use Rattle.law_histories.specs.GicCall.declared.event.Place.TheVariants.{Word, Queue as QueuePlace, Ctlr, Lpis}
use Rattle.law_histories.specs.GicCall.declared.touch.Touching.TheVariants.{Read as ReadTouch, Retarget, Configure, Forget}
use Rattle.law_histories.proofs.GicCall.TouchLemmas.{touch_valid}
use Rattle.law_histories.specs.Histories.{IdealGuest, irq_at, cpu_at, word_at, after_event, Ideal, is_home, view_at, is_allowed, handed_out, happened, home}
use Rattle.law_histories.proofs.IdealGuests.KeyLemmas.{IsWhole}
use Rattle.law_histories.proofs.LatchLaw.{seats_after}
use Rattle.law_histories.proofs.StandLemmas.{of_key, home_nowhere}
use Rattle.law_histories.proofs.StateLemmas.{record_is, guest_is}
use Rattle.law_home_commutes.specs.Home.{is_move, is_cpu, home_view, PassesHome}
use Rattle.law_home_commutes.proofs.HomeLemmas.{with_irqs, home_irq, home_is, home_rest, home_whole}
use Rattle.law_home_commutes.proofs.MoveLemmas.{routed_own}
use Rattle.law_home_commutes.proofs.SpotLemmas.{Spot, back, IsSpot, IsPlaced, is_owned, IsOwn, IsTidy}

abbrev pub is_other : Event → Bool
is_other event = not (is_move event || is_cpu event)

-- What such an event does to a record.

abbrev pub change_by : GuestShape → Key → Event → Irq → Irq
change_by shape key (Raise other) irq = cond (is_same_key key other) (raised irq) irq
change_by shape key (Up other) irq = cond (is_same_key key other) (wire_up irq) irq
change_by shape key (Down other) irq = cond (is_same_key key other) (wire_down irq) irq
change_by shape key (Touch other touching) irq = cond (is_same_key key other) (touched shape other touching irq) irq
change_by shape key event irq = irq

module _ (state : Ideal) (key : Key) (whole : IsWhole state.guest) (there : IsTrue (has_interrupt state.guest.shape key)) (actor : ℕ) where
  pub changed_is : (event : Event) → IsTrue (is_other event) → irq_at (happened actor event state).guest key ≡ change_by state.guest.shape key event (irq_at state.guest key)
  changed_is (Raise other) h = record_is state key whole there actor (Raise other)
  changed_is (Up other) h = record_is state key whole there actor (Up other)
  changed_is (Down other) h = record_is state key whole there actor (Down other)
  changed_is (Touch other touching) h = record_is state key whole there actor (Touch other touching)
  changed_is (Reach other vcpu) h = absurd (cc)
  changed_is (Take other vcpu) h = absurd (cc)
  changed_is (Leave other vcpu) h = absurd (cc)
  changed_is (Enable vcpu) h = refl
  changed_is (Cpu vcpu reg write) h = absurd (cc)
  changed_is (Read place) h = refl
  changed_is (Put word value) h = refl
  changed_is (CtlrBegin enables) h = refl
  changed_is CtlrEnd h = refl
  changed_is ItsBegin h = refl
  changed_is ItsEnd h = refl
  changed_is (Queue offset Runs) h = refl
  changed_is (Queue offset (Done words)) h = refl
  changed_is (Queue offset (Stalls fault)) h = refl

-- the guest after it is the eager controller's
pub guest_after : (actor : ℕ) (event : Event) (state : Ideal) → IsTrue (is_other event) → (happened actor event state).guest ≡ after_event state.guest event
guest_after actor (Raise other) state h = refl
guest_after actor (Up other) state h = refl
guest_after actor (Down other) state h = refl
guest_after actor (Touch other touching) state h = refl
guest_after actor (Reach other vcpu) state h = absurd (cc)
guest_after actor (Take other vcpu) state h = absurd (cc)
guest_after actor (Leave other vcpu) state h = absurd (cc)
guest_after actor (Enable vcpu) state h = refl
guest_after actor (Cpu vcpu reg write) state h = absurd (cc)
guest_after actor (Read place) state h = refl
guest_after actor (Put word value) state h = refl
guest_after actor (CtlrBegin enables) state h = refl
guest_after actor CtlrEnd state h = refl
guest_after actor ItsBegin state h = refl
guest_after actor ItsEnd state h = refl
guest_after actor (Queue offset change) state h = refl

pub at_after : (actor : ℕ) (event : Event) (state : Ideal) → IsTrue (is_other event) → (happened actor event state).at ≡ state.at
at_after actor (Raise other) state h = refl
at_after actor (Up other) state h = refl
at_after actor (Down other) state h = refl
at_after actor (Touch other touching) state h = refl
at_after actor (Reach other vcpu) state h = absurd (cc)
at_after actor (Take other vcpu) state h = absurd (cc)
at_after actor (Leave other vcpu) state h = absurd (cc)
at_after actor (Enable vcpu) state h = refl
at_after actor (Cpu vcpu reg write) state h = absurd (cc)
at_after actor (Read place) state h = refl
at_after actor (Put word value) state h = refl
at_after actor (CtlrBegin enables) state h = refl
at_after actor CtlrEnd state h = refl
at_after actor ItsBegin state h = refl
at_after actor ItsEnd state h = refl
at_after actor (Queue offset change) state h = refl

-- what it does beside the records does not go by them
rest_event : (guest : IdealGuest) (event : Event) → IsTrue (is_other event) → with_irqs (after_event (with_irqs guest []) event) [] ≡ with_irqs (after_event guest event) []
rest_event guest (Raise other) h = refl
rest_event guest (Up other) h = refl
rest_event guest (Down other) h = refl
rest_event guest (Touch other touching) h = refl
rest_event guest (Reach other vcpu) h = absurd (cc)
rest_event guest (Take other vcpu) h = absurd (cc)
rest_event guest (Leave other vcpu) h = absurd (cc)
rest_event guest (Enable vcpu) h = refl
rest_event guest (Cpu vcpu reg write) h = absurd (cc)
rest_event guest (Read place) h = refl
rest_event guest (Put word value) h = refl
rest_event guest (CtlrBegin enables) h = refl
rest_event guest CtlrEnd h = refl
rest_event guest ItsBegin h = refl
rest_event guest ItsEnd h = refl
rest_event guest (Queue offset Runs) h = refl
rest_event guest (Queue offset (Done words)) h = refl
rest_event guest (Queue offset (Stalls fault)) h = refl

-- it does the same to a record that is taken back first
module _ (shape : GuestShape) (key : Key) where
  by_same : (b : Bool) (change : Irq → Irq) (spot : Option Spot) (irq : Irq) → ((one : Option Spot) (irq : Irq) → back one (change irq) ≡ change (back one irq)) → back spot (cond b (change irq) irq) ≡ cond b (change (back spot irq)) (back spot irq)
  by_same true change spot irq same = same spot irq
  by_same false change spot irq same = refl

  raised_back : (spot : Option Spot) (irq : Irq) → back spot (raised irq) ≡ raised (back spot irq)
  raised_back None irq = refl
  raised_back (Some one) irq = refl

  up_back : (spot : Option Spot) (irq : Irq) → back spot (wire_up irq) ≡ wire_up (back spot irq)
  up_back None irq = refl
  up_back (Some one) irq = refl

  down_back : (spot : Option Spot) (irq : Irq) → back spot (wire_down irq) ≡ wire_down (back spot irq)
  down_back None irq = refl
  down_back (Some one) irq = refl

  pub change_back : (event : Event) → IsTrue (is_other event) → (spot : Option Spot) (irq : Irq) → ((other : Key) (touching : Touching) → event ≡ Touch other touching → key ≡ other → spot ≡ None) → back spot (change_by shape key event irq) ≡ change_by shape key event (back spot irq)
  change_back (Raise other) h spot irq home = by_same (is_same_key key other) raised spot irq raised_back
  change_back (Up other) h spot irq home = by_same (is_same_key key other) wire_up spot irq up_back
  change_back (Down other) h spot irq home = by_same (is_same_key key other) wire_down spot irq down_back
  change_back (Touch other touching) h spot irq home = of (is_same_key key other) refl
    where
      of : (b : Bool) → is_same_key key other ≡ b → back spot (cond b (touched shape other touching irq) irq) ≡ cond b (touched shape other touching (back spot irq)) (back spot irq)
      of true e =
          let none : None ≡ spot = sym (home other touching refl (same_key key other e)) in
          subst (λ o. back o (touched shape other touching irq) ≡ touched shape other touching (back o irq)) none refl
      of false e = refl
  change_back (Reach other vcpu) h spot irq home = absurd (cc)
  change_back (Take other vcpu) h spot irq home = absurd (cc)
  change_back (Leave other vcpu) h spot irq home = absurd (cc)
  change_back (Enable vcpu) h spot irq home = refl
  change_back (Cpu vcpu reg write) h spot irq home = absurd (cc)
  change_back (Read place) h spot irq home = refl
  change_back (Put word value) h spot irq home = refl
  change_back (CtlrBegin enables) h spot irq home = refl
  change_back CtlrEnd h spot irq home = refl
  change_back ItsBegin h spot irq home = refl
  change_back ItsEnd h spot irq home = refl
  change_back (Queue offset change) h spot irq home = refl

-- The record stays the interrupt's own.

owned_by : (shape : GuestShape) (key : Key) (route : Route) (o : Option ℕ) → IsTrue (is_routed_as shape key route) → target_in route shape ≡ o → is_owned key o ≡ true
owned_by shape key route None routed e = refl
owned_by shape key route (Some vcpu) routed e = routed_own shape key route vcpu routed (ap (is_number vcpu) e ∙ itself vcpu)
  where
    itself : (n : ℕ) → is_number n (Some n) ≡ true
    itself n = grind (arith, common_steps)

activated_owned : (shape : GuestShape) (key : Key) (route : Route) (act_by : Option ℕ) → IsTrue (is_routed_as shape key route) → is_owned key act_by ≡ true → is_owned key (activated act_by (target_in route shape)) ≡ true
activated_owned shape key route (Some vcpu) routed owned = owned
activated_owned shape key route None routed owned = owned_by shape key route (target_in route shape) routed refl

either : (key : Key) (b : Bool) (one other : Irq) → is_owned key one.act_by ≡ true → is_owned key other.act_by ≡ true → is_owned key (cond b one other).act_by ≡ true
either key true one other h k = h
either key false one other h k = k

written_owned : (shape : GuestShape) (key : Key) (kind : Kind) (value : ℕ) (irq : Irq) → IsOwn shape key irq → is_owned key (part_written kind key irq value shape).act_by ≡ true
written_owned shape key Group value irq own = own.owner
written_owned shape key SetEnable value irq own = either key _ (record irq { enabled = true }) irq own.owner own.owner
written_owned shape key ClearEnable value irq own = either key _ (record irq { enabled = false }) irq own.owner own.owner
written_owned shape key SetPending value irq own = either key _ (raised irq) irq own.owner own.owner
written_owned shape key ClearPending value irq own = either key _ (record irq { rise = false; soft = false }) irq own.owner own.owner
written_owned shape key SetActive value irq own =
    either key _ (record irq { act_by = activated irq.act_by (target_in irq.route shape) }) irq (activated_owned shape key irq.route irq.act_by own.valid.route own.owner) own.owner
written_owned shape key ClearActive value irq own = either key _ (record irq { act_by = None }) irq refl own.owner
written_owned shape key Priority value irq own = own.owner
written_owned shape key Config value irq own = either key _ irq (record irq { edge = has_bit value 1 }) own.owner own.owner
written_owned shape key Routing value irq own = own.owner

touched_owned : (shape : GuestShape) (key : Key) (touching : Touching) (irq : Irq) → IsOwn shape key irq → is_owned key (touched shape key touching irq).act_by ≡ true
touched_owned shape key (ReadTouch kind) irq own = own.owner
touched_owned shape key (Register kind value) irq own = written_owned shape key kind value irq own
touched_owned shape key (Enables en0 en1) irq own = own.owner
touched_owned shape key (MapLpi target enabled prio) irq own = own.owner
touched_owned shape key (Retarget target) irq own = own.owner
touched_owned shape key (Configure enabled prio) irq own = own.owner
touched_owned shape key Forget irq own = own.owner

module _ (shape : GuestShape) (key : Key) (good : IsShape shape) where
  by_own : (b : Bool) (one other : Irq) → IsOwn shape key one → IsOwn shape key other → IsOwn shape key (cond b one other)
  by_own true one other h k = h
  by_own false one other h k = k

  pub change_own : (event : Event) → CanHappen shape event → IsTrue (is_other event) → (irq : Irq) → IsOwn shape key irq → IsOwn shape key (change_by shape key event irq)
  change_own (Raise other) can h irq own = by_own (is_same_key key other) (raised irq) irq (record { valid = valid_raised shape key irq own.valid; owner = own.owner }) own
  change_own (Up other) can h irq own = by_own (is_same_key key other) (wire_up irq) irq (record { valid = valid_wire_up shape key irq own.valid; owner = own.owner }) own
  change_own (Down other) can h irq own = by_own (is_same_key key other) (wire_down irq) irq (record { valid = valid_wire_down shape key irq own.valid; owner = own.owner }) own
  change_own (Touch other touching) can h irq own = of (is_same_key key other) refl
    where
      of : (b : Bool) → is_same_key key other ≡ b → IsOwn shape key (cond b (touched shape other touching irq) irq)
      of true e =
          subst (λ k. IsOwn shape key (touched shape k touching irq)) (same_key key other e)
          (record { valid = touch_valid shape key touching irq good (subst (λ k. CanTouch shape k touching) (sym (same_key key other e)) can) own.valid; owner = touched_owned shape key touching irq own })
      of false e = own
  change_own (Reach other vcpu) can h irq own = absurd (cc)
  change_own (Take other vcpu) can h irq own = absurd (cc)
  change_own (Leave other vcpu) can h irq own = absurd (cc)
  change_own (Enable vcpu) can h irq own = own
  change_own (Cpu vcpu reg write) can h irq own = absurd (cc)
  change_own (Read place) can h irq own = own
  change_own (Put word value) can h irq own = own
  change_own (CtlrBegin enables) can h irq own = own
  change_own CtlrEnd can h irq own = own
  change_own ItsBegin can h irq own = own
  change_own ItsEnd can h irq own = own
  change_own (Queue offset change) can h irq own = own

-- Such an event passes.

-- an interrupt that is touched is at no interface
touched_home : (shape : GuestShape) (state : Ideal) (key : Key) → IsTrue (is_home state key) → (spot : Option Spot) → IsSpot shape key (of_key state key) spot → spot ≡ None
touched_home shape state key home None is = refl
touched_home shape state key home (Some one) is = absurd (let none = home_nowhere state key home one.vcpu in let some = is.here in cc)

module _ (shape : GuestShape) (state : Ideal) (tidy : IsTidy shape state) (actor : ℕ) where
  there_is : (key : Key) → IsTrue (has_interrupt shape key) → IsTrue (has_interrupt state.guest.shape key)
  there_is key there = subst (λ s. IsTrue (has_interrupt s key)) (sym tidy.shape_is) there

  irq_after : (event : Event) → IsTrue (is_other event) → (key : Key) → IsTrue (has_interrupt shape key) → irq_at (happened actor event state).guest key ≡ change_by shape key event (irq_at state.guest key)
  irq_after event h key there = changed_is state key tidy.whole (there_is key there) actor event h ∙ ap (λ s. change_by s key event (irq_at state.guest key)) tidy.shape_is

  pub other_tidy : (event : Event) → IsTrue (is_other event) → CanHappen shape event → IsTidy shape (happened actor event state)
  other_tidy event h can =
      let same = guest_is actor event state in
      record {
        shape_is = same.shape ∙ tidy.shape_is;
        whole = same.whole tidy.whole;
        seats = seats_after actor event state ∙ tidy.seats;
        placed = λ key. subst (λ at. IsPlaced shape key (of_key (record state { at = at }) key)) (sym (at_after actor event state h)) (tidy.placed key);
        records = λ key there.
            subst (IsOwn shape key) (sym (irq_after event h key there)) (change_own shape key (subst IsShape tidy.shape_is tidy.whole.shape) event can h (irq_at state.guest key) (tidy.records key there));
      }

  -- the eager controller's, over the guest with all taken back
  home_shape : (home state).shape ≡ shape
  home_shape = ap (λ (g : IdealGuest). g.shape) (home_rest state) ∙ tidy.shape_is

  abbrev taken_back : Ideal
  taken_back = record state { guest = home state }

  target_irq : (event : Event) → IsTrue (is_other event) → (key : Key) → IsTrue (has_interrupt shape key) → irq_at (after_event (home state) event) key ≡ change_by shape key event (irq_at (home state) key)
  target_irq event h key there =
      ap (λ g. irq_at g key) (sym (guest_after actor event taken_back h))
      ∙ changed_is taken_back key (home_whole state tidy.whole) (subst (λ s. IsTrue (has_interrupt s key)) (sym home_shape) there) actor event h
      ∙ ap (λ s. change_by s key event (irq_at (home state) key)) home_shape

  target_whole : (event : Event) → IsTrue (is_other event) → IsWhole (after_event (home state) event)
  target_whole event h = subst IsWhole (guest_after actor event taken_back h) ((guest_is actor event taken_back).whole (home_whole state tidy.whole))

  pub other_goes : (event : Event) → IsTrue (is_other event) → CanHappen shape event → IsTrue (is_allowed state actor event) → home (happened actor event state) ≡ after_event (home state) event
  other_goes event h can allowed =
      home_is shape (happened actor event state) (after_event (home state) event) (other_tidy event h can) (target_whole event h)
      (ap (λ g. with_irqs g []) (guest_after actor event state h) ∙ sym (rest_event state.guest event h) ∙ ap (λ g. with_irqs (after_event g event) []) (sym (home_rest state)) ∙ rest_event (home state) event h)
      (λ key there.
      let placed = tidy.placed key in
      record {
        spot = placed.spot;
        is = subst (λ at. IsSpot shape key (of_key (record state { at = at }) key) placed.spot) (sym (at_after actor event state h)) placed.is;
        irq_is =
            ap (back placed.spot) (irq_after event h key there)
            ∙ change_back shape key event h placed.spot (irq_at state.guest key)
            (λ other touching e same. touched_home shape state key (subst (λ k. IsTrue (is_home state k)) (sym same) (subst (λ x. IsTrue (is_allowed state actor x)) e allowed)) placed.spot placed.is)
            ∙ ap (change_by shape key event) (sym (home_irq shape state tidy key there placed.spot placed.is))
            ∙ sym (target_irq event h key there);
      })

  -- and hands out what is there
  held_same : (place : Place) → held_at (view_at state) place ≡ held_at (home_view state) place
  held_same (Word word) = ap (λ g. FoundWord (word_at g word)) (sym (home_rest state))
  held_same QueuePlace = ap (λ (g : IdealGuest). FoundQueue g.offset g.is_stalled) (sym (home_rest state))
  held_same Ctlr = ap (λ (g : IdealGuest). FoundCtlr g.enables (is_some state.spreads)) (sym (home_rest state))
  held_same (Lpis vcpu) = ap (λ (g : IdealGuest). FoundLpis (cpu_at g vcpu).lpis) (sym (home_rest state))

  pub other_hands : (event : Event) → IsTrue (is_other event) → CanHappen shape event → IsTrue (is_allowed state actor event) → HandsOut (home_view state) event (handed_out state event)
  other_hands (Raise other) h can allowed = refl
  other_hands (Up other) h can allowed = refl
  other_hands (Down other) h can allowed = refl
  other_hands (Touch other touching) h can allowed = ap Record (sym (home_irq shape state tidy other can.there None (λ vcpu. home_nowhere state other allowed vcpu)))
  other_hands (Reach other vcpu) h can allowed = absurd (cc)
  other_hands (Take other vcpu) h can allowed = absurd (cc)
  other_hands (Leave other vcpu) h can allowed = absurd (cc)
  other_hands (Enable vcpu) h can allowed = ap (λ (g : IdealGuest). FoundLpis (cpu_at g vcpu).lpis) (sym (home_rest state))
  other_hands (Cpu vcpu reg write) h can allowed = absurd (cc)
  other_hands (Read place) h can allowed = held_same place
  other_hands (Put word value) h can allowed = ap (λ g. FoundWord (word_at g word)) (sym (home_rest state))
  other_hands (CtlrBegin enables) h can allowed = refl
  other_hands CtlrEnd h can allowed = refl
  other_hands ItsBegin h can allowed = refl
  other_hands ItsEnd h can allowed = refl
  other_hands (Queue offset change) h can allowed = refl

  pub other_passes : (event : Event) → IsTrue (is_other event) → CanHappen shape event → IsTrue (is_allowed state actor event) → PassesHome state actor event
  other_passes event h can allowed = record { goes = other_goes event h can allowed; hands = other_hands event h can allowed }
