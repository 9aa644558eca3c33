-- An actor comes: its script and its port are its own, and it has done nothing yet.
use Rattle.std.proofs.Common.{◌≡◌, ℕ, ◌+◌, ◌*◌, ◌<◌, ◌≤◌, ◌==◌, ◌&&◌, zero, suc, All, Bool, true, false, IsTrue, nat_le, nat_lt, List, [], ◌∷◌, length, length-append, take, get_or, if◌then◌else◌, Some, refl, sym, ap, subst, ◌∙◌, arith}
use Rattle.std.specs.Prelude.{slice_get}
use Rattle.std.proofs.lemmas.Bool.{and_parts, eqb-true, le-ltb, lt-ltb}
use Rattle.std.proofs.lemmas.List.{get_or-replicate}
use Rattle.std.proofs.lemmas.List.Elements.{All-nil, All-cons, All-get_or}
use Rattle.guest_end.specs.Words.{DeviceOp, GuestOp, GuestShape}
use Rattle.guest_end.specs.Calls.{opening_cpu, GuestSpec, IsGoodGuest, is_good_event, is_good_op, passes, shapes_of}
use Rattle.guest_end.specs.Registers.{CpuRec}
use Rattle.thr_trip.specs.PeLoop.Enter.{IsBetween}
use Rattle.thr_trip.specs.Core.{has_registers, is_vcpu, Seen, shape_of, IsAtRest, is_settled}
use Rattle.thr_trip.specs.PortOps.Opened.{no_guest}
use Rattle.thr_trip.specs.PortOps.PortCore.IdealGuests.declared.guest.IdealGuest.{IdealGuest}
use Rattle.thr_trip.specs.PortOps.PortCore.IdealGuests.Ideal.{cpu_at}
use Rattle.thr_trip.specs.PortOps.PortCore.IdealGuests.Opening.{opening as opening_guest}
use Rattle.thr_trip.specs.PortTable.Told.{WordsTold, PortIsOf, opening_seen, words_at}
use Rattle.guest_end.specs.ScnBase.declared.scenario.Scenario.{Scenario}
use Rattle.guest_end.specs.ScnBase.declared.step.Mode.TheVariants.{Threads}
use Rattle.guest_end.specs.ScnBase.declared.step.Step.{Step}
use Rattle.guest_end.specs.ScnBase.declared.step.Step.TheVariants.{Vcpu as VcpuStep, Device as DeviceStep, Pe as PeStep}
use Rattle.guest_end.specs.ScnBase.Good.{is_formed}
use Rattle.thr_trip.proofs.PortCall.PieceLemmas.{seen_nil}
use Rattle.thr_trip.specs.Device.{IsDevice}
use Rattle.thr_trip.specs.Gone.{HasGone}
use Rattle.thr_trip.specs.Script.{all_vcpus, calls_answered, device_ops, vcpu_ops, vcpus_of}
use Rattle.thr_trip.specs.Trip.{IsTrip}
use Rattle.thr_trip.proofs.CallLemmas.{answered_none}
use Rattle.thr_trip.proofs.GoneLemmas.{gone_nowhere}
use Rattle.thr_cast.specs.Set.{IsSet}
use Rattle.thr_cast.proofs.NameLemmas.{length-vcpus_of, vcpu_place}

-- The operations of its script can be asked for.

abbrev GoodOp : GuestShape → GuestOp → Type 0
GoodOp shape op = IsTrue (is_good_op shape op)

abbrev Formed : ℕ → List GuestShape → Step → Type 0
Formed pes shapes step = IsTrue (is_formed Threads pes shapes step)

abbrev GoodEvent : GuestShape → DeviceOp → Type 0
GoodEvent shape op = IsTrue (is_good_event shape op)

-- all of a list is so, and so is the rest of it
rest_of : {X : Type 0} (P : X → Type 0) (x : X) (xs : List X) → All P (x ∷ xs) → All P xs
rest_of P x xs all k d there = all (suc k) d (omega (arith, there))

first_of : {X : Type 0} (P : X → Type 0) (x : X) (xs : List X) → All P (x ∷ xs) → P x
first_of P x xs all = all 0 x (omega arith)

module _ (pes : ℕ) (shapes : List GuestShape) (number actor : ℕ) (shape : GuestShape) (is : slice_get shapes number ≡ Some shape) where
  passed : (P : GuestShape → Bool) (guest : ℕ) → (guest == number) ≡ true → IsTrue (passes P (slice_get shapes guest)) → IsTrue (P shape)
  passed P guest same so = subst (λ o. IsTrue (passes P o)) (ap (slice_get shapes) (eqb-true guest number same) ∙ is) so

  good_ops : (steps : List Step) → All (Formed pes shapes) steps → All (GoodOp shape) (vcpu_ops number actor steps)
  good_ops [] all = All-nil (GoodOp shape)
  good_ops (VcpuStep guest vcpu op ∷ steps) all = of (good_ops steps (rest_of (Formed pes shapes) (VcpuStep guest vcpu op) steps all)) (guest == number && vcpu == actor) refl
    where
      of : All (GoodOp shape) (vcpu_ops number actor steps) → (mine : Bool) → (guest == number && vcpu == actor) ≡ mine → All (GoodOp shape) (if mine then op ∷ vcpu_ops number actor steps else vcpu_ops number actor steps)
      of later false e = later
      of later true e =
          let here = passed (λ shape. nat_lt vcpu shape.vcpus && is_good_op shape op) guest (and_parts (guest == number) (vcpu == actor) e).0 (first_of (Formed pes shapes) (VcpuStep guest vcpu op) steps all) in
          All-cons (GoodOp shape) op (vcpu_ops number actor steps) (and_parts (nat_lt vcpu shape.vcpus) (is_good_op shape op) here).1 later
  good_ops (DeviceStep guest device op ∷ steps) all = good_ops steps (rest_of (Formed pes shapes) (DeviceStep guest device op) steps all)
  good_ops (PeStep pe op ∷ steps) all = good_ops steps (rest_of (Formed pes shapes) (PeStep pe op) steps all)

  good_events : (steps : List Step) → All (Formed pes shapes) steps → All (GoodEvent shape) (device_ops number actor steps)
  good_events [] all = All-nil (GoodEvent shape)
  good_events (VcpuStep guest vcpu op ∷ steps) all = good_events steps (rest_of (Formed pes shapes) (VcpuStep guest vcpu op) steps all)
  good_events (DeviceStep guest device op ∷ steps) all = of (good_events steps (rest_of (Formed pes shapes) (DeviceStep guest device op) steps all)) (guest == number && device == actor) refl
    where
      of : All (GoodEvent shape) (device_ops number actor steps) → (mine : Bool) → (guest == number && device == actor) ≡ mine → All (GoodEvent shape) (if mine then op ∷ device_ops number actor steps else device_ops number actor steps)
      of later false e = later
      of later true e =
          let here = passed (λ shape. nat_lt device shape.devices && is_good_event shape op) guest (and_parts (guest == number) (device == actor) e).0 (first_of (Formed pes shapes) (DeviceStep guest device op) steps all) in
          All-cons (GoodEvent shape) op (device_ops number actor steps) (and_parts (nat_lt device shape.devices) (is_good_event shape op) here).1 later
  good_events (PeStep pe op ∷ steps) all = good_events steps (rest_of (Formed pes shapes) (PeStep pe op) steps all)

-- they are not more than the steps

pub few_ops : (number actor : ℕ) (steps : List Step) → length (vcpu_ops number actor steps) ≤ length steps
few_ops number actor [] = omega arith
few_ops number actor (VcpuStep guest vcpu op ∷ steps) = of (few_ops number actor steps) (guest == number && vcpu == actor)
  where
    of : length (vcpu_ops number actor steps) ≤ length steps → (mine : Bool) → length (if mine then op ∷ vcpu_ops number actor steps else vcpu_ops number actor steps) ≤ suc (length steps)
    of fewer false = omega (arith, fewer)
    of fewer true = omega (arith, fewer)
few_ops number actor (DeviceStep guest device op ∷ steps) = let fewer = few_ops number actor steps in omega (arith, fewer)
few_ops number actor (PeStep pe op ∷ steps) = let fewer = few_ops number actor steps in omega (arith, fewer)

within_16 : (n : ℕ) → 1 ≤ n → n ≤ 16 → IsTrue (nat_le 1 n && nat_le n 16)
within_16 n few most = grind arith

-- The record of a vCPU's CPU interface as its guest opens.

opens_cpu : (guest : GuestSpec) (vcpu : ℕ) → vcpu < guest.shape.vcpus → cpu_at (opening_guest guest) vcpu ≡ opening_cpu guest.on
opens_cpu guest vcpu few = get_or-replicate guest.shape.vcpus vcpu (opening_cpu guest.on) (opening_cpu false) few

-- The shape of a guest.

shape_there : (guests : List GuestSpec) (number : ℕ) → number < length guests → slice_get (shapes_of guests) number ≡ Some (get_or guests number no_guest).shape
shape_there [] number there = absurd (omega (arith, there))
shape_there (guest ∷ guests) zero there = refl
shape_there (guest ∷ guests) (suc number) there = shape_there guests number (omega (arith, there))

module _ (scenario : Scenario) (words : List WordsTold) (set : IsSet scenario words) (guest : ℕ) (there : guest < length words) where
  within : guest < length scenario.guests
  within = subst (λ n. guest < n) set.each there

  pub guest_shape : slice_get (shapes_of scenario.guests) guest ≡ Some (words_at words guest).guest.shape
  guest_shape = shape_there scenario.guests guest within ∙ ap (λ (g : IdealGuest). Some g.shape) (sym (set.guest guest there))

  -- a vCPU that has done nothing
  pub opens_trip :
      (vcpu place : ℕ) (script : List GuestOp) (seen : Seen) (cpu : CpuRec) → vcpu < (words_at words guest).guest.shape.vcpus → script ≡ vcpu_ops guest vcpu scenario.steps → seen ≡ opening_seen (words_at words guest) vcpu → PortIsOf words seen
      → cpu ≡ opening_cpu (get_or scenario.guests guest no_guest).on → place ≡ length (all_vcpus (take guest words)) + vcpu
      → IsTrip words scenario.lrs scenario.steps (record { vcpu = record { guest = guest; vcpu = vcpu; cpu = cpu; next = 0 }; place = place; script = script; answers = []; seen = seen })
  opens_trip vcpu place script seen cpu few script_is seen_is of cpu_is place_is =
      let told = words_at words guest in
      let from = opening_seen told vcpu in
      let is_one : is_vcpu told.guest.shape vcpu ≡ true = lt-ltb vcpu told.guest.shape.vcpus few in
      let n = scenario.lrs in
      let registers : IsTrue (has_registers told.guest.shape vcpu n) = ap (λ (one : Bool). if one then nat_le 1 n && nat_le n 16 else n == 0) is_one ∙ within_16 n set.good.some_list_register set.good.list_registers in
      record {
        of = of;
        actor = record { home = ap (λ (s : Seen). s.home) seen_is; guest = ap (λ (s : Seen). s.guest) seen_is; number = ap (λ (s : Seen). s.number) seen_is; actor = ap (λ (s : Seen). s.actor) seen_is };
        off =
            record {
              actor =
                  record {
                    guest = ap (λ (s : Seen). s.number) seen_is ∙ set.number guest there;
                    number = ap (λ (s : Seen). s.actor) seen_is;
                    is_one = ap (λ (s : Seen). is_vcpu (shape_of s) s.actor) seen_is ∙ is_one;
                  };
              cpu = ap (λ (s : Seen). s.local.cpu) seen_is ∙ ap (λ (g : IdealGuest). cpu_at g vcpu) (set.guest guest there) ∙ opens_cpu (get_or scenario.guests guest no_guest) vcpu (subst (λ (g : IdealGuest). vcpu < g.shape.vcpus) (set.guest guest there) few) ∙ sym cpu_is;
              empty = ap (λ (s : Seen). s.local.at) seen_is;
              settled = ap (λ (s : Seen). is_settled s.local) seen_is;
            };
        place =
            ap (slice_get (all_vcpus words)) place_is ∙ vcpu_place words guest vcpu set.number there few;
        script = script_is;
        good =
            subst (λ (s : Seen). All (GoodOp (shape_of s)) script) (sym seen_is)
            (subst (All (GoodOp told.guest.shape)) (sym script_is) (good_ops scenario.pes (shapes_of scenario.guests) guest vcpu told.guest.shape guest_shape scenario.steps set.good.each_step));
        next = refl;
        most = omega arith;
        gone =
            ∣ subst (λ (s : Seen). HasGone scenario.lrs from s (IsBetween s) (calls_answered script [])) (sym seen_is)
            (subst (HasGone scenario.lrs from from (IsBetween from)) (sym (answered_none script)) (gone_nowhere scenario.lrs from (IsBetween from) registers (record { new_is = sym (seen_nil from) }) (record { rest = record { local = refl; own = refl; scan = refl; wants = refl }; none_failed = refl; debt = refl })))
            ∣₁;
      }

  -- a device that has done nothing
  pub opens_device :
      (device : ℕ) (script : List DeviceOp) (seen : Seen) → device < (words_at words guest).guest.shape.devices → script ≡ device_ops guest device scenario.steps → seen ≡ opening_seen (words_at words guest) ((words_at words guest).guest.shape.vcpus + device)
      → PortIsOf words seen → IsDevice words scenario.steps (record { guest = guest; device = device; script = script; done = false; seen = seen })
  opens_device device script seen few script_is seen_is of =
      let told = words_at words guest in
      let actor = told.guest.shape.vcpus + device in
      let from = opening_seen told actor in
      let is_none : is_vcpu told.guest.shape actor ≡ false = le-ltb actor told.guest.shape.vcpus (omega arith) in
      let registers : IsTrue (has_registers told.guest.shape actor 0) = ap (λ (one : Bool). if one then nat_le 1 0 && nat_le 0 16 else 0 == 0) is_none in
      record {
        of = of;
        actor = record { home = ap (λ (s : Seen). s.home) seen_is; guest = ap (λ (s : Seen). s.guest) seen_is; number = ap (λ (s : Seen). s.number) seen_is; actor = ap (λ (s : Seen). s.actor) seen_is };
        number = ap (λ (s : Seen). s.number) seen_is ∙ set.number guest there;
        ready =
            record {
              device = ap (λ (s : Seen). is_vcpu (shape_of s) s.actor) seen_is ∙ is_none;
              settled = ap (λ (s : Seen). is_settled s.local) seen_is;
            };
        script = script_is;
        good =
            subst (λ (s : Seen). All (GoodEvent (shape_of s)) script) (sym seen_is)
            (subst (All (GoodEvent told.guest.shape)) (sym script_is) (good_events scenario.pes (shapes_of scenario.guests) guest device told.guest.shape guest_shape scenario.steps set.good.each_step));
        gone =
            ∣ subst (λ (s : Seen). HasGone 0 from s (IsAtRest s) []) (sym seen_is)
            (gone_nowhere 0 from (IsAtRest from) registers (record { new_is = sym (seen_nil from) }) (record { local = refl; own = refl; scan = refl; wants = refl }))
            ∣₁;
      }

-- There are not many vCPUs.

few_vcpus : (words : List WordsTold) (count : ℕ) → ((number : ℕ) → number < length words → (words_at words number).guest.shape.vcpus ≤ 32) → length (all_vcpus (take count words)) ≤ 32 * length words
few_vcpus [] zero each = omega arith
few_vcpus [] (suc count) each = omega arith
few_vcpus (one ∷ words) zero each = omega arith
few_vcpus (one ∷ words) (suc count) each =
    let rest = few_vcpus words count (λ number there. each (suc number) (omega (arith, there))) in
    let first = each zero (omega arith) in
    omega (arith, length-append (vcpus_of one) (all_vcpus (take count words)), length-vcpus_of one, first, rest)

pub few_at : (scenario : Scenario) (words : List WordsTold) → IsSet scenario words → (number : ℕ) → number < length words → (words_at words number).guest.shape.vcpus ≤ 32
few_at scenario words set number there =
    let within : number < length scenario.guests = subst (λ n. number < n) set.each there in
    let good = All-get_or IsGoodGuest scenario.guests number no_guest within set.good.each_guest in
    let most = good.shape.vcpus in
    subst (λ (g : IdealGuest). g.shape.vcpus ≤ 32) (sym (set.guest number there)) most

pub few_places : (scenario : Scenario) (words : List WordsTold) → IsSet scenario words → (count : ℕ) → length (all_vcpus (take count words)) ≤ 128
few_places scenario words set count =
    let few = few_vcpus words count (few_at scenario words set) in
    let guests = set.good.guests in
    omega (arith, few, guests, set.each)
