-- What a move leaves of each interrupt: its record with all taken back is as it was.
use Rattle.std.proofs.Common.{◌≡◌, ◌≢◌, ℕ, ◌<◌, ◌||◌, Bool, true, false, cond, IsTrue, is_none, inl, inr, List, [], ◌∷◌, ◌++◌, filter, find, length, Option, option_map, Some, None, refl, sym, ap, ◌∙◌, subst, arith}
use Rattle.std.specs.Option.{option_map_or}
use Rattle.std.proofs.lemmas.Bool.{cases_eq, eqb-true}
use Rattle.std.proofs.lemmas.Grind.{common_steps}
use Rattle.law_histories.specs.Words.{Key, Private, Spi, Lpi, GuestShape, has_interrupt, is_of_vcpu, is_same_key, IsShape, Irq, Route, Affinity, Target, cleared, is_number, target_in, is_routed_as}
use Rattle.law_histories.proofs.GicBase.KeyLemmas.{same_key, same_itself}
use Rattle.law_histories.specs.Registers.{CpuRec, is_deliverable}
use Rattle.law_histories.specs.Calls.{Entry, Moved, may_reach, may_take, reached, taken, left, IsEntryOf, IsMovedOf}
use Rattle.law_histories.proofs.GicCall.MoveLemmas.{reached_valid, taken_valid, left_valid}
use Rattle.law_histories.specs.Histories.{irq_at, cpu_at, changed_irq, Ideal, Standing, standing_at, is_of, is_home, moved_at, with_irq, with_standing, after_reach, after_take, after_leave, with_entry, without}
use Rattle.law_histories.proofs.IdealGuests.KeyLemmas.{irq_changed}
use Rattle.law_histories.proofs.StandLemmas.{of_key, standing_of_key, home_nowhere, put_here, put_other, added_other, added_key, entry_other, entry_key, left_other, left_key}
use Rattle.law_histories.proofs.StateLemmas.{IsSameGuest}
use Rattle.law_home_commutes.proofs.SpotLemmas.{Spot, back, IsThere, IsSpot, is_owned, IsOwn, IsTidy, spot_same, apart_same, moved_of, IsFoundAt, not_found, is_found, found_at}

-- what a move leaves of an interrupt: where it is then, that its record with all taken back is as it was, and that its record is its own
pub record IsMoved (shape : GuestShape) (key : Key) (state after : Ideal) (spot : Option Spot) : Type 0 where
  pub then : Option Spot
  pub is : IsSpot shape key (of_key after key) then
  pub irq_is : IsTrue (has_interrupt shape key) → back then (irq_at after.guest key) ≡ back spot (irq_at state.guest key)
  pub own : IsTrue (has_interrupt shape key) → IsOwn shape key (irq_at after.guest key)

-- a state after each interrupt moved, or not
pub tidy_moved : (shape : GuestShape) (state after : Ideal) → IsTidy shape state → IsSameGuest state.guest after.guest → length after.at ≡ length state.at
    → ((key : Key) (spot : Option Spot) → IsSpot shape key (of_key state key) spot → IsMoved shape key state after spot) → IsTidy shape after
tidy_moved shape state after tidy same seats each =
    record {
      shape_is = same.shape ∙ tidy.shape_is;
      whole = same.whole tidy.whole;
      seats = seats ∙ tidy.seats;
      placed = λ key. let at = tidy.placed key in let moved = each key at.spot at.is in record { spot = moved.then; is = moved.is };
      records = λ key there. let at = tidy.placed key in (each key at.spot at.is).own there;
    }

-- Records.

left_reached : (shape : GuestShape) (key : Key) (irq : Irq) (vcpu : ℕ) (cpu : CpuRec) → IsTrue (may_reach shape key irq vcpu cpu) → left vcpu (reached irq) ≡ irq
left_reached shape key irq vcpu cpu may = grind (arith, common_steps, may)

left_taken : (shape : GuestShape) (key : Key) (moved : Moved) (vcpu : ℕ) (cpu : CpuRec) → IsEntryOf key moved.entry → IsTrue (may_take shape key moved vcpu cpu) → left vcpu (taken moved) ≡ left vcpu moved
left_taken shape key moved vcpu cpu is may = grind (arith, common_steps, may, is.causes)

-- a private interrupt that is for a vCPU is its own
pub routed_own : (shape : GuestShape) (key : Key) (route : Route) (vcpu : ℕ) → IsTrue (is_routed_as shape key route) → is_number vcpu (target_in route shape) ≡ true → is_of_vcpu vcpu key ≡ true
routed_own shape (Private v id) (Affinity affinity) vcpu routed number = absurd (cc)
routed_own shape (Private v id) (Target target) vcpu routed number = of target routed number
  where
    of : (o : Option ℕ) → IsTrue (is_number v o) → is_number vcpu o ≡ true → is_of_vcpu vcpu (Private v id) ≡ true
    of None r n = absurd (cc)
    of (Some m) r n = grind (arith, common_steps, r, n)
routed_own shape (Spi id) route vcpu routed number = refl
routed_own shape (Lpi id) route vcpu routed number = refl

deliverable_for : (key : Key) (irq : Irq) (vcpu : ℕ) (cpu : CpuRec) (shape : GuestShape) → is_deliverable key irq vcpu cpu shape ≡ true → is_number vcpu (target_in irq.route shape) ≡ true
deliverable_for key irq vcpu cpu shape h = grind (arith, common_steps, h)

active_own : (key : Key) (vcpu : ℕ) (act_by : Option ℕ) → is_owned key act_by ≡ true → is_number vcpu act_by ≡ true → is_of_vcpu vcpu key ≡ true
active_own key vcpu None owned number = absurd (cc)
active_own key vcpu (Some by) owned number = subst (λ v. is_of_vcpu v key ≡ true) (eqb-true by vcpu number) owned

reaches_own : (shape : GuestShape) (key : Key) (irq : Irq) (vcpu : ℕ) (cpu : CpuRec) → IsOwn shape key irq → IsTrue (may_reach shape key irq vcpu cpu) → is_of_vcpu vcpu key ≡ true
reaches_own shape key irq vcpu cpu own may = of (is_number vcpu irq.act_by) refl may
  where
    of : (b : Bool) → is_number vcpu irq.act_by ≡ b → IsTrue (b || is_deliverable key irq vcpu cpu shape) → is_of_vcpu vcpu key ≡ true
    of true e h = active_own key vcpu irq.act_by own.owner e
    of false e h = routed_own shape key irq.route vcpu own.valid.route (deliverable_for key irq vcpu cpu shape h)

-- a move is of a record that stays the interrupt's own
reached_own : (shape : GuestShape) (key : Key) (irq : Irq) → IsOwn shape key irq → IsOwn shape key (reached irq).irq
reached_own shape key irq own = record { valid = (reached_valid shape key irq own.valid).irq; owner = of (is_none irq.act_by) }
  where
    of : (b : Bool) → is_owned key (cond b (record { irq = cleared irq; entry = record { pending = true; active = false; rise = irq.rise; soft = irq.soft } }) (let m : Moved = record { irq = irq; entry = record { pending = false; active = true; rise = false; soft = false } } in m)).irq.act_by ≡ true
    of true = own.owner
    of false = own.owner

left_own : (shape : GuestShape) (key : Key) (vcpu : ℕ) (moved : Moved) → IsShape shape → vcpu < shape.vcpus → is_of_vcpu vcpu key ≡ true → IsEntryOf key moved.entry → IsOwn shape key moved.irq → IsOwn shape key (left vcpu moved)
left_own shape key vcpu moved good few mine entry own = record { valid = left_valid shape key vcpu moved good few (record { irq = own.valid; entry = entry }); owner = of moved.entry.active }
  where
    of : (b : Bool) → is_owned key (cond b (Some vcpu) None) ≡ true
    of true = mine
    of false = refl

module _ (shape : GuestShape) (state : Ideal) (tidy : IsTidy shape state) (vcpu : ℕ) (few : vcpu < shape.vcpus) where
  within : vcpu < length state.at
  within = subst (λ n. vcpu < n) (sym tidy.seats) few

  there_is : (key : Key) → IsTrue (has_interrupt shape key) → IsTrue (has_interrupt state.guest.shape key)
  there_is key there = subst (λ s. IsTrue (has_interrupt s key)) (sym tidy.shape_is) there

  -- the interrupt stays as it is
  pub unmoved : (key : Key) (spot : Option Spot) → IsSpot shape key (of_key state key) spot → IsMoved shape key state state spot
  unmoved key spot is = record { then = spot; is = is; irq_is = λ there. refl; own = λ there. tidy.records key there }

  -- Another interrupt moves.

  module _ (key other : Key) (apart : is_same_key key other ≡ false) (change : Moved → Irq) (standing : Moved → List Standing) (same : (moved : Moved) → filter (is_of key) (standing moved) ≡ of_key state key vcpu) where
    pub one_moves : (moved : Moved) (spot : Option Spot) → IsSpot shape key (of_key state key) spot → IsMoved shape key state (with_standing (with_irq state other (change moved)) vcpu (standing moved)) spot
    one_moves moved spot is =
        let kept : IsTrue (has_interrupt shape key) → irq_at (changed_irq other (λ before. change moved) state.guest) key ≡ irq_at state.guest key =
        λ there. irq_changed state.guest other key (λ before. change moved) tidy.whole (there_is key there) ∙ ap (λ b. cond b (change moved) (irq_at state.guest key)) apart in
        record {
          then = spot;
          is = spot_same shape key (of_key state key) (of_key (with_standing state vcpu (standing moved)) key) (apart_same state key vcpu (standing moved) within (same moved)) spot is;
          irq_is = λ there. ap (back spot) (kept there);
          own = λ there. subst (IsOwn shape key) (sym (kept there)) (tidy.records key there);
        }

    pub other_moves : (o : Option Standing) (spot : Option Spot) → IsSpot shape key (of_key state key) spot
        → IsMoved shape key state (option_map_or (λ moved. with_standing (with_irq state other (change moved)) vcpu (standing moved)) (option_map (moved_of state other) o) state) spot
    other_moves None spot is = unmoved key spot is
    other_moves (Some one) spot is = one_moves (moved_of state other one) spot is

  -- The interrupt itself.

  -- the record that it has then
  put_irq : (key : Key) (irq : Irq) → IsTrue (has_interrupt shape key) → irq_at (changed_irq key (λ before. irq) state.guest) key ≡ irq
  put_irq key irq there = irq_changed state.guest key key (λ before. irq) tidy.whole (there_is key there) ∙ ap (λ b. cond b irq (irq_at state.guest key)) (same_itself key)

  -- it is at the interface then, with an entry
  module _ (key : Key) (there : IsTrue (has_interrupt shape key)) (irq : Irq) (entry : Entry) (standing : List Standing) (mine : is_of_vcpu vcpu key ≡ true) (fits : IsEntryOf key entry) (own : IsOwn shape key irq)
      (here : filter (is_of key) standing ≡ standing_of_key key entry ∷ []) (elsewhere : (other : ℕ) → other ≢ vcpu → of_key state key other ≡ []) where
    stands_then : (spot : Option Spot) → left vcpu (record { irq = irq; entry = entry }) ≡ back spot (irq_at state.guest key) → IsMoved shape key state (with_standing (with_irq state key irq) vcpu standing) spot
    stands_then spot same = record {
      then = Some (record { vcpu = vcpu; entry = entry });
      is = record {
        there = there;
        few = few;
        own = mine;
        entry = fits;
        here = put_here state key vcpu standing within ∙ here;
        elsewhere = λ other differ. put_other state key vcpu standing other differ ∙ elsewhere other differ;
      };
      irq_is = λ again. ap (λ i. left vcpu (record { irq = i; entry = entry })) (put_irq key irq there) ∙ same;
      own = λ again. subst (IsOwn shape key) (sym (put_irq key irq there)) own;
    }

  -- Reach.

  reaches_itself : (key : Key) → IsTrue (has_interrupt shape key) → IsTrue (is_home state key) → IsTrue (may_reach shape key (irq_at state.guest key) vcpu (cpu_at state.guest vcpu)) → (spot : Option Spot) → IsSpot shape key (of_key state key) spot
      → IsMoved shape key state (after_reach key vcpu state) spot
  reaches_itself key there home may spot is =
      let irq = irq_at state.guest key in
      let own = tidy.records key there in
      let moved = reached irq in
      stands_then key there moved.irq moved.entry (standing_at state vcpu ++ standing_of_key key moved.entry ∷ []) (reaches_own shape key irq vcpu (cpu_at state.guest vcpu) own may) (reached_valid shape key irq own.valid).entry
      (reached_own shape key irq own) (added_key key (standing_at state vcpu) moved.entry (home_nowhere state key home vcpu)) (λ other differ. home_nowhere state key home other) spot
      (left_reached shape key irq vcpu (cpu_at state.guest vcpu) may ∙ at_home spot is)
    where
      at_home : (o : Option Spot) → IsSpot shape key (of_key state key) o → irq_at state.guest key ≡ back o (irq_at state.guest key)
      at_home None is = refl
      at_home (Some one) is = absurd (let none = home_nowhere state key home one.vcpu in let some = is.here in cc)

  pub reaches : (key other : Key) → IsTrue (has_interrupt shape other) → IsTrue (is_home state other) → IsTrue (may_reach shape other (irq_at state.guest other) vcpu (cpu_at state.guest vcpu)) → (spot : Option Spot) → IsSpot shape key (of_key state key) spot
      → IsMoved shape key state (after_reach other vcpu state) spot
  reaches key other there home may spot is = of (is_same_key key other) refl
    where
      same_sym : is_same_key key other ≡ false → is_same_key other key ≡ false
      same_sym e = differs (is_same_key other key) refl
        where
          differs : (b : Bool) → is_same_key other key ≡ b → b ≡ false
          differs true f = absurd (let same = ap (is_same_key key) (same_key other key f) ∙ same_itself key in cc)
          differs false f = refl

      of : (b : Bool) → is_same_key key other ≡ b → IsMoved shape key state (after_reach other vcpu state) spot
      of true e =
          let same = sym (same_key key other e) in
          subst (λ k. IsMoved shape key state (after_reach k vcpu state) spot) (sym same)
          (reaches_itself key (subst (λ k. IsTrue (has_interrupt shape k)) same there) (subst (λ k. IsTrue (is_home state k)) same home)
          (subst (λ k. IsTrue (may_reach shape k (irq_at state.guest k) vcpu (cpu_at state.guest vcpu))) same may) spot is)
      of false e =
          let moved = reached (irq_at state.guest other) in
          one_moves key other e (λ m. m.irq) (λ m. standing_at state vcpu ++ standing_of_key other m.entry ∷ []) (λ m. added_other key (standing_at state vcpu) (standing_of_key other m.entry) (same_sym e)) moved spot is

  -- Take.

  takes_itself : (key : Key) (spot : Option Spot) → (found : IsFoundAt state key vcpu spot) → IsSpot shape key (of_key state key) spot
      → IsTrue (option_map_or (λ moved. may_take shape key moved vcpu (cpu_at state.guest vcpu)) (option_map (moved_of state key) (find (is_of key) (standing_at state vcpu))) false)
      → IsMoved shape key state (after_take key vcpu state) spot
  takes_itself key spot (not_found none empty) is may = absurd (let h = ap (λ o. option_map_or (λ moved. may_take shape key moved vcpu (cpu_at state.guest vcpu)) (option_map (moved_of state key) o) false) none in cc)
  takes_itself key spot (is_found one spot_is same some) is may =
      subst (λ o. IsMoved shape key state (option_map_or (λ moved. with_standing (with_irq state key (taken moved).irq) vcpu (with_entry key (taken moved).entry (standing_at state vcpu))) (option_map (moved_of state key) o) state) spot) (sym some)
      (stands_then key at.there (taken moved).irq (taken moved).entry (with_entry key (taken moved).entry (standing_at state vcpu)) (subst (λ v. is_of_vcpu v key ≡ true) same at.own) valid.entry
      (record { valid = valid.irq; owner = own.owner }) (entry_key key one.entry (taken moved).entry (standing_at state vcpu) (subst (λ v. of_key state key v ≡ standing_of_key key one.entry ∷ []) same at.here))
      (λ other differ. at.elsewhere other (λ e. differ (e ∙ same))) spot
      (left_taken shape key moved vcpu (cpu_at state.guest vcpu) at.entry (sym (ap (λ o. option_map_or (λ moved. may_take shape key moved vcpu (cpu_at state.guest vcpu)) (option_map (moved_of state key) o) false) some) ∙ may)
      ∙ ap (λ v. left v moved) (sym same) ∙ ap (λ o. back o (irq_at state.guest key)) (sym spot_is)))
    where
      moved : Moved
      moved = record { irq = irq_at state.guest key; entry = one.entry }

      at : IsThere shape key (of_key state key) one
      at = subst (IsSpot shape key (of_key state key)) spot_is is

      own : IsOwn shape key (irq_at state.guest key)
      own = tidy.records key at.there

      valid : IsMovedOf shape key (taken (record { irq = irq_at state.guest key; entry = one.entry }))
      valid = taken_valid shape key (record { irq = irq_at state.guest key; entry = one.entry }) (record { irq = own.valid; entry = at.entry })

  pub takes : (key other : Key) → IsTrue (option_map_or (λ moved. may_take shape other moved vcpu (cpu_at state.guest vcpu)) (moved_at state vcpu other) false) → (spot : Option Spot) → IsSpot shape key (of_key state key) spot
      → IsMoved shape key state (after_take other vcpu state) spot
  takes key other may spot is = of (is_same_key key other) refl
    where
      of : (b : Bool) → is_same_key key other ≡ b → IsMoved shape key state (after_take other vcpu state) spot
      of true e =
          let same = sym (same_key key other e) in
          subst (λ k. IsMoved shape key state (after_take k vcpu state) spot) (sym same)
          (takes_itself key spot (found_at shape state key vcpu spot is) is (subst (λ k. IsTrue (option_map_or (λ moved. may_take shape k moved vcpu (cpu_at state.guest vcpu)) (moved_at state vcpu k) false)) same may))
      of false e =
          other_moves key other e (λ moved. (taken moved).irq) (λ moved. with_entry other (taken moved).entry (standing_at state vcpu)) (λ moved. entry_other key other (taken moved).entry (standing_at state vcpu) e)
          (find (is_of other) (standing_at state vcpu)) spot is

  -- Leave.

  leaves_itself : (key : Key) (spot : Option Spot) → IsFoundAt state key vcpu spot → IsSpot shape key (of_key state key) spot → IsMoved shape key state (after_leave key vcpu state) spot
  leaves_itself key spot (not_found none empty) is =
      subst (λ o. IsMoved shape key state (option_map_or (λ moved. with_standing (with_irq state key (left vcpu moved)) vcpu (without key (standing_at state vcpu))) (option_map (moved_of state key) o) state) spot) (sym none)
      (unmoved key spot is)
  leaves_itself key spot (is_found one spot_is same some) is =
      subst (λ o. IsMoved shape key state (option_map_or (λ moved. with_standing (with_irq state key (left vcpu moved)) vcpu (without key (standing_at state vcpu))) (option_map (moved_of state key) o) state) spot) (sym some) after
    where
      moved : Moved
      moved = record { irq = irq_at state.guest key; entry = one.entry }

      gone : List Standing
      gone = without key (standing_at state vcpu)

      at : IsThere shape key (of_key state key) one
      at = subst (IsSpot shape key (of_key state key)) spot_is is

      after : IsMoved shape key state (with_standing (with_irq state key (left vcpu (record { irq = irq_at state.guest key; entry = one.entry }))) vcpu (without key (standing_at state vcpu))) spot
      after = record {
        then = None;
        is = λ other. elim (cases_eq other vcpu) [
          | inl e ↦ subst (λ v. of_key (with_standing state vcpu (without key (standing_at state vcpu))) key v ≡ []) (sym e) (put_here state key vcpu (without key (standing_at state vcpu)) within ∙ left_key key (standing_at state vcpu))
          | inr differ ↦ put_other state key vcpu (without key (standing_at state vcpu)) other differ ∙ at.elsewhere other (λ e. differ (e ∙ same))
        ];
        irq_is = λ there. put_irq key (left vcpu moved) there ∙ ap (λ v. left v moved) (sym same) ∙ ap (λ o. back o (irq_at state.guest key)) (sym spot_is);
        own = λ there. subst (IsOwn shape key) (sym (put_irq key (left vcpu moved) there))
            (left_own shape key vcpu moved (subst IsShape tidy.shape_is tidy.whole.shape) few (subst (λ v. is_of_vcpu v key ≡ true) same at.own) at.entry (tidy.records key there));
      }

  pub leaves : (key other : Key) (spot : Option Spot) → IsSpot shape key (of_key state key) spot → IsMoved shape key state (after_leave other vcpu state) spot
  leaves key other spot is = of (is_same_key key other) refl
    where
      of : (b : Bool) → is_same_key key other ≡ b → IsMoved shape key state (after_leave other vcpu state) spot
      of true e = subst (λ k. IsMoved shape key state (after_leave k vcpu state) spot) (same_key key other e) (leaves_itself key spot (found_at shape state key vcpu spot is) is)
      of false e = other_moves key other e (left vcpu) (λ moved. without other (standing_at state vcpu)) (λ moved. left_other key other (standing_at state vcpu) e) (find (is_of other) (standing_at state vcpu)) spot is
