-- A step of a machine, by what it did.
use Rattle.std.proofs.Common.{◌≡◌, ◌≢◌, ℕ, ◌+◌, ◌<◌, ◌==◌, ◌&&◌, ◌||◌, not, Bool, true, false, if◌then◌else◌, inl, inr, List, [], ◌∷◌, ◌++◌, length, set, Option, Some, None, refl, sym, ap, ◌∙◌, subst, arith}
use Rattle.std.proofs.Math.Logic.{∥∥₁_elim}
use Rattle.std.proofs.Props.{props}
use Rattle.std.specs.Prelude.{slice_get}
use Rattle.std.specs.Option.{option_map_or, option_to_list}
use Rattle.std.proofs.lemmas.Bool.{cases_eq, eq-eqb, ne_eqb}
use Rattle.std.proofs.lemmas.Option.{slice_get_cases, slice_get_within}
use Rattle.law_ends_agree.specs.Words.{DeviceOp, GuestOp, Lrs}
use Rattle.law_ends_agree.specs.Calls.{Access, Device as DeviceCall, Regs}
use Rattle.law_ends_agree.specs.Core.{progress_in}
use Rattle.law_ends_agree.specs.Histories.{IdealGuest, after_device, after_op, op_answer}
use Rattle.law_ends_agree.specs.GicIdeal.Eager.{after_step, shown, state_shapes, step_answer}
use Rattle.law_ends_agree.specs.GicIdeal.Shown.{registers_of}
use Rattle.law_ends_agree.proofs.GicIdeal.StepLemmas.{op_is_events}
use Rattle.law_ends_agree.specs.GicGuest.declared.outcome.Answer.{Answer}
use Rattle.law_ends_agree.specs.GicGuest.declared.outcome.Answer.TheVariants.{Nothing}
use Rattle.law_ends_agree.specs.ScnBase.declared.pes.VcpuName.{VcpuName}
use Rattle.law_ends_agree.specs.ScnBase.declared.step.Step.{Step}
use Rattle.law_ends_agree.specs.ScnBase.declared.step.Step.TheVariants.{Vcpu, Device, Pe}
use Rattle.law_ends_agree.specs.ScnBase.Standing.{ResidentsExist, is_resident, pes_after, resident_of, vcpu_name}
use Rattle.law_one_thread_is_eager.specs.PortSeq.Told.{GuestTold, SeqTold, guest_at}
use Rattle.law_one_thread_is_eager.specs.LawLoneCallsAreEager.Runs.{IsGoodCall}
use Rattle.law_one_thread_is_eager.specs.LawSerialIsEager.Serial.{WholePart, moments_of}
use Rattle.law_one_thread_is_eager.specs.SeqGuest.declared.vcpus.Vcpus.{Vcpus}
use Rattle.law_one_thread_is_eager.specs.PePlace.Place.{Spot, entered, left, pe, shelf}
use Rattle.law_one_thread_is_eager.specs.SeqGuest.Guest.{spot_at}
use Rattle.law_one_thread_is_eager.specs.Done.{HasDone, home_after}
use Rattle.run_seq.specs.declared.machine.Machine.{Machine}
use Rattle.law_ends_agree.specs.GuestEnd.Outcome.{answer_by}
use Rattle.run_seq.specs.Acts.{CallsOnce, MovesVcpu, ShowsVcpu}
use Rattle.run_seq.specs.StepCalls.{CallMade, calls_among, step_call}
use Rattle.run_seq.specs.Steps.{IsOfPe, ShowsOwn, enters_in}
use Rattle.run_seq.specs.Machine.{GuestActs, HasDoneStep, IsGuestAt, IsMachineAt, place_by}
use Rattle.run_seq.proofs.AnswerLemmas.{but_for_change, call_elsewhere, call_here, read_is_answer, value_again}
use Rattle.run_seq.proofs.CallLemmas.{calls_append, one_call, residences_call_none}
use Rattle.run_seq.proofs.EnterLemmas.{enters}
use Rattle.run_seq.proofs.GuestLemmas.{calls_at, eager_call, list_is, resides_at, shows_at, shows_own}
use Rattle.run_seq.proofs.MachineLemmas.{IsButFor, but_for_none, machine_acts, more_of, more_same}
use Rattle.run_seq.proofs.ResidentLemmas.{enters_resident, is_named, leaves_resident}
use Rattle.run_seq.specs.Agenda.{StandsOnce}

-- Whoever acts is there.

pub record IsThereIn {X : Type 0} (xs : List X) (number : ℕ) : Type 0 where
  pub one : X
  pub is : slice_get xs number ≡ Some one

pub there_in : {X : Type 0} (xs : List X) (number : ℕ) → number < length xs → IsThereIn xs number
there_in xs number there = elim ((slice_get_cases xs number).1) [
  | inl has ↦ record { one = has.0; is = has.2 }
  | inr past ↦ absurd (omega (arith, there, past.0))
]

module _ (states : List IdealGuest) (lrs : ℕ) (machine next : Machine) (told later : SeqTold) (parts : ℕ → List WholePart) (ideals : List IdealGuest) (at : IsMachineAt states lrs machine told parts ideals) where
  module _ (number : ℕ) (Does : GuestTold → GuestTold → Vcpus → Vcpus → Type 0) (acts : GuestActs number Does machine next told later) where
    count : number < length states
    count = subst (λ n. number < n) at.guests (slice_get_within machine.guests.items number acts.before acts.before_is)

    pub spec : IsThereIn states number
    spec = there_in states number count

    ideal : IsThereIn ideals number
    ideal = there_in ideals number (subst (λ n. number < n) (sym at.ideals_each) count)

    here : IsGuestAt machine.pes lrs spec.one number (guest_at told number) acts.before (parts number) ideal.one
    here = at.each number spec.one acts.before ideal.one spec.is acts.before_is ideal.is

    only : (guest : IdealGuest) → slice_get states number ≡ Some guest → spec.one ≡ guest
    only guest is = some_is spec.one guest (sym spec.is ∙ is)
      where
        some_is : (a b : IdealGuest) → Some a ≡ Some b → a ≡ b
        some_is a b e = cc

    -- one guest acted, and this is the step
    step_by :
        (step : Step) (answer : Answer) (pes : List (Option VcpuName)) (more : List WholePart) (after : IdealGuest) → pes ≡ pes_after step machine.pes → ResidentsExist (state_shapes states) pes → StandsOnce pes → IsButFor number after ideals (after_step step ideals)
        → ((n vcpu : ℕ) → n ≢ number → is_resident pes n vcpu ≡ is_resident machine.pes n vcpu) → IsGuestAt pes lrs spec.one number acts.guest acts.after (parts number ++ more) after
        → ((n : ℕ) (guest : IdealGuest) → slice_get states n ≡ Some guest → calls_among (more_of number more n) ≡ option_to_list (step_call n guest.shape step answer))
        → ((n : ℕ) (guest : IdealGuest) → slice_get states n ≡ Some guest → IsOfPe guest n lrs machine.pes step answer (parts n) (more_of number more n)) → answer ≡ step_answer lrs machine.pes step ideals
        → HasDoneStep states lrs machine (record next { pes = pes }) later parts ideals step answer
    step_by step answer pes more after pes_is residents once but alike mine calls of_pe answer_is = record {
      more = more_of number more;
      calls = calls;
      of_pe = of_pe;
      pes = pes_is;
      answer_is = answer_is;
      at =
          machine_acts states lrs number Does machine next told later parts ideals (after_step step ideals) at acts pes after more residents once but alike
          (λ guest is. subst (λ g. IsGuestAt pes lrs g number acts.guest acts.after (parts number ++ more) after) (only guest is) mine);
    }

    -- a call of the guest
    called : (n : ℕ) (more : List WholePart) (made : CallMade) → calls_among more ≡ made ∷ [] → calls_among (more_of number more n) ≡ option_to_list (if number == n then Some made else None)
    called n more made is = elim (cases_eq n number) [
      | inl same ↦ ap (λ (b : Bool). calls_among (if b then more else [])) (eq-eqb n number same) ∙ is ∙ sym (call_here number n made same)
      | inr apart ↦ ap (λ (b : Bool). calls_among (if b then more else [])) (ne_eqb n number apart) ∙ sym (call_elsewhere number n made apart)
    ]

    uncalled : (n : ℕ) (more : List WholePart) → calls_among more ≡ [] → calls_among (more_of number more n) ≡ []
    uncalled n more is = elim (cases_eq n number) [
      | inl same ↦ ap (λ (b : Bool). calls_among (if b then more else [])) (eq-eqb n number same) ∙ is
      | inr apart ↦ ap (λ (b : Bool). calls_among (if b then more else [])) (ne_eqb n number apart)
    ]

  -- A vCPU calls.
  pub vcpu_step :
      (guest vcpu : ℕ) (op : GuestOp) (value : Option ℕ) (acts : GuestActs guest (CallsOnce vcpu (Access op) value) machine next told later) → IsGoodCall (spec guest (CallsOnce vcpu (Access op) value) acts).one.shape vcpu (Access op)
      → HasDoneStep states lrs machine (record next { pes = machine.pes }) later parts ideals (Vcpu guest vcpu op) (answer_by value)
  vcpu_step guest vcpu op value acts good =
      let Does = CallsOnce vcpu (Access op) value in
      let does = acts.does in
      let mine = spec guest Does acts in
      let one = ideal guest Does acts in
      let old = guest_at told guest in
      let spots : (v : ℕ) → spot_at acts.after v ≡ place_by (is_resident machine.pes guest v) = λ v. does.spots.spot v ∙ (here guest Does acts).spots v in
      let call = eager_call machine.pes lrs mine.one guest old acts.guest acts.before acts.after (parts guest) one.one (here guest Does acts) acts.run machine.pes spots does.quiet vcpu (Access op) value does.goes_on does.first good in
      let done = calls_at machine.pes lrs mine.one guest old acts.guest acts.before acts.after (parts guest) one.one (here guest Does acts) acts.run machine.pes spots does.quiet vcpu (Access op) value does.goes_on does.first good in
      let change : IdealGuest → IdealGuest = λ state. after_op op state vcpu in
      let goes : home_after mine.one guest (parts guest ++ does.goes_on.parts) ≡ change one.one = call.goes ∙ op_is_events op one.one vcpu in
      let made : CallMade = record { actor = vcpu; operation = Access op; answer = value } in
      step_by guest Does acts (Vcpu guest vcpu op) (answer_by value) machine.pes does.goes_on.parts (change one.one) refl at.residents at.once (but_for_change guest one.one ideals change one.is) (λ n v apart. refl)
      (subst (IsGuestAt machine.pes lrs mine.one guest acts.guest acts.after (parts guest ++ does.goes_on.parts)) goes done)
      (λ n other is.
      called guest Does acts n does.goes_on.parts made (one_call vcpu (Access op) value does.goes_on.parts does.goes_on.are refl)
      ∙ ap (λ value. option_to_list (if guest == n then Some (record made { answer = value }) else None)) (sym (value_again value)))
      (λ n other is. tt)
      (ap answer_by call.answers ∙ read_is_answer op one.one vcpu ∙ sym (ap (λ o. option_map_or (λ state. op_answer op state vcpu) o Nothing) one.is))

  -- A device calls.
  pub device_step :
      (guest device : ℕ) (op : DeviceOp) (acts : GuestActs guest (CallsOnce ((guest_at told guest).guest.shape.vcpus + device) (DeviceCall op) None) machine next told later)
      → IsGoodCall (spec guest (CallsOnce ((guest_at told guest).guest.shape.vcpus + device) (DeviceCall op) None) acts).one.shape ((guest_at told guest).guest.shape.vcpus + device) (DeviceCall op)
      → HasDoneStep states lrs machine (record next { pes = machine.pes }) later parts ideals (Device guest device op) Nothing
  device_step guest device op acts good =
      let actor = (guest_at told guest).guest.shape.vcpus + device in
      let none : Option ℕ = None in
      let Does = CallsOnce actor (DeviceCall op) none in
      let does = acts.does in
      let mine = spec guest Does acts in
      let one = ideal guest Does acts in
      let old = guest_at told guest in
      let spots : (v : ℕ) → spot_at acts.after v ≡ place_by (is_resident machine.pes guest v) = λ v. does.spots.spot v ∙ (here guest Does acts).spots v in
      let call = eager_call machine.pes lrs mine.one guest old acts.guest acts.before acts.after (parts guest) one.one (here guest Does acts) acts.run machine.pes spots does.quiet actor (DeviceCall op) none does.goes_on does.first good in
      let done = calls_at machine.pes lrs mine.one guest old acts.guest acts.before acts.after (parts guest) one.one (here guest Does acts) acts.run machine.pes spots does.quiet actor (DeviceCall op) none does.goes_on does.first good in
      let made : CallMade = record { actor = actor; operation = DeviceCall op; answer = none } in
      step_by guest Does acts (Device guest device op) Nothing machine.pes does.goes_on.parts (after_device op one.one) refl at.residents at.once (but_for_change guest one.one ideals (after_device op) one.is) (λ n v apart. refl)
      (subst (IsGuestAt machine.pes lrs mine.one guest acts.guest acts.after (parts guest ++ does.goes_on.parts)) call.goes done)
      (λ n other is.
      called guest Does acts n does.goes_on.parts made (one_call actor (DeviceCall op) none does.goes_on.parts does.goes_on.are refl) ∙ device_call n other is)
      (λ n other is. tt)
      refl
    where
      -- the device's number is told by the guest's shape
      device_call : (n : ℕ) (other : IdealGuest) → slice_get states n ≡ Some other
          → option_to_list (if guest == n then Some (let made : CallMade = record { actor = (guest_at told guest).guest.shape.vcpus + device; operation = DeviceCall op; answer = None } in made) else None)
          ≡ option_to_list (if guest == n then Some (let made : CallMade = record { actor = other.shape.vcpus + device; operation = DeviceCall op; answer = None } in made) else None)
      device_call n other is = elim (cases_eq n guest) [
        | inl same ↦
            ap (λ (g : IdealGuest). option_to_list (if guest == n then Some (let made : CallMade = record { actor = g.shape.vcpus + device; operation = DeviceCall op; answer = None } in made) else None))
            ((here guest (CallsOnce ((guest_at told guest).guest.shape.vcpus + device) (DeviceCall op) None) acts).guest_is
            ∙ (only guest (CallsOnce ((guest_at told guest).guest.shape.vcpus + device) (DeviceCall op) None) acts other (subst (λ m. slice_get states m ≡ Some other) same is)))
        | inr apart ↦
            let of : IdealGuest → CallMade = λ g. record { actor = g.shape.vcpus + device; operation = DeviceCall op; answer = None } in
            call_elsewhere guest n (of (guest_at told guest).guest) apart ∙ sym (call_elsewhere guest n (of other) apart)
      ]

  -- A vCPU enters a PE, or leaves it.
  module _ (name : VcpuName) (change : Spot → Spot) (acts : GuestActs name.guest (MovesVcpu name.vcpu change) machine next told later) (step : Step) where
    pub moved : (pes : List (Option VcpuName)) → pes ≡ pes_after step machine.pes → ResidentsExist (state_shapes states) pes → StandsOnce pes → after_step step ideals ≡ ideals → ((n : ℕ) (guest : IdealGuest) → step_call n guest.shape step Nothing ≡ None)
        → Nothing ≡ step_answer lrs machine.pes step ideals → ((n vcpu : ℕ) → n ≢ name.guest → is_resident pes n vcpu ≡ is_resident machine.pes n vcpu)
        → ((v : ℕ) → (if v == name.vcpu then change (place_by (is_resident machine.pes name.guest v)) else place_by (is_resident machine.pes name.guest v)) ≡ place_by (is_resident pes name.guest v))
        → ((n : ℕ) (guest : IdealGuest) → IsOfPe guest n lrs machine.pes step Nothing (parts n) (more_of name.guest acts.does.goes_on.parts n))
        → HasDoneStep states lrs machine (record next { pes = pes }) later parts ideals step Nothing
    moved pes pes_is residents once still uncalls answer_is alike spots of_pe =
        let Does = MovesVcpu name.vcpu change in
        let does = acts.does in
        let mine = spec name.guest Does acts in
        let one = ideal name.guest Does acts in
        let before = here name.guest Does acts in
        let after_spots : (v : ℕ) → spot_at acts.after v ≡ place_by (is_resident pes name.guest v)
        = λ v. does.spots.spot v ∙ ap (λ spot. if v == name.vcpu then change spot else spot) (before.spots v) ∙ spots v in
        step_by name.guest Does acts step Nothing pes does.goes_on.parts one.one pes_is residents once (subst (IsButFor name.guest one.one ideals) (sym still) (but_for_none name.guest one.one ideals one.is)) alike
        (resides_at machine.pes lrs mine.one name.guest (guest_at told name.guest) acts.guest acts.before acts.after (parts name.guest) one.one before acts.run pes after_spots does.quiet does.goes_on)
        (λ n guest is. uncalled name.guest Does acts n does.goes_on.parts (residences_call_none does.goes_on.parts does.goes_on.are) ∙ ap option_to_list (sym (uncalls n guest))) (λ n guest is. of_pe n guest) answer_is

  -- Whoever is told to enter does.
  pub entered_in : (name : VcpuName) (acts : GuestActs name.guest (MovesVcpu name.vcpu entered) machine next told later) → is_resident machine.pes name.guest name.vcpu ≡ false → enters_in name.vcpu acts.does.goes_on.parts ≡ true
  entered_in name acts free =
      let Does = MovesVcpu name.vcpu entered in
      let one = spec name.guest Does acts in
      let at_home = here name.guest Does acts in
      let off : spot_at acts.before name.vcpu ≡ shelf = at_home.spots name.vcpu ∙ ap place_by free in
      let on : spot_at acts.after name.vcpu ≡ pe
      = acts.does.spots.spot name.vcpu
      ∙ ap (λ (b : Bool). if b then entered (spot_at acts.before name.vcpu) else spot_at acts.before name.vcpu) (eq-eqb name.vcpu name.vcpu refl)
      ∙ ap entered off in
      ∥∥₁_elim at_home.done (Prim.hlevel props)
      (λ (done : HasDone one.one name.guest (guest_at told name.guest) acts.before (parts name.guest)).
      enters (guest_at told name.guest) acts.guest acts.before acts.after name.vcpu acts.does.goes_on off on (progress_in one.one name.guest (moments_of (parts name.guest))) done.followed)

  -- A vCPU shows its registers.
  module _ (number : ℕ) (name : VcpuName) (list : List ℕ) (acts : GuestActs name.guest (ShowsVcpu name.vcpu list) machine next told later) (on : resident_of machine.pes number ≡ Some name) (few : name.vcpu < (spec name.guest (ShowsVcpu name.vcpu list) acts).one.shape.vcpus) where
    abbrev Does : GuestTold → GuestTold → Vcpus → Vcpus → Type 0
    Does = ShowsVcpu name.vcpu list

    abbrev mine : IdealGuest
    mine = (spec name.guest Does acts).one

    abbrev more : List WholePart
    more = acts.does.shown.shows.goes_on.parts ++ acts.does.shown.later.parts

    spots_then : (v : ℕ) → spot_at acts.after v ≡ place_by (is_resident machine.pes name.guest v)
    spots_then v = acts.does.spots.spot v ∙ (here name.guest Does acts).spots v

    none_called : calls_among more ≡ []
    none_called =
        let shown = acts.does.shown in
        calls_append shown.shows.goes_on.parts shown.later.parts
        ∙ ap (λ calls. calls ++ calls_among shown.later.parts) (residences_call_none shown.shows.goes_on.parts shown.shows.goes_on.are)
        ∙ residences_call_none shown.later.parts shown.later.are

    -- and they are its own
    abbrev Shows : ℕ → ℕ → IdealGuest → Type 0
    Shows n vcpu guest = ShowsOwn guest n lrs vcpu (Regs list) (parts n) (more_of name.guest more n)

    mine_shows : Shows name.guest name.vcpu mine
    mine_shows =
        subst (ShowsOwn mine name.guest lrs name.vcpu (Regs list) (parts name.guest)) (sym (more_same name.guest name.guest more refl))
        (shows_own machine.pes lrs mine name.guest (guest_at told name.guest) acts.guest acts.before acts.after (parts name.guest) (ideal name.guest Does acts).one (here name.guest Does acts) acts.run machine.pes spots_then acts.does.quiet name.vcpu list few acts.does.shown)

    same_name : (a b : VcpuName) → Some a ≡ Some b → a ≡ b
    same_name a b e = cc

    shows_there : (n : ℕ) (guest : IdealGuest) → slice_get states n ≡ Some guest → (vcpu : ℕ) → resident_of machine.pes number ≡ Some (vcpu_name n vcpu) → Shows n vcpu guest
    shows_there n guest is vcpu stands =
        let same : name ≡ vcpu_name n vcpu = same_name name (vcpu_name n vcpu) (sym on ∙ stands) in
        let number_is : name.guest ≡ n = ap (λ (m : VcpuName). m.guest) same in
        subst (λ m. Shows m vcpu guest) number_is
        (subst (λ v. Shows name.guest v guest) (ap (λ (m : VcpuName). m.vcpu) same)
        (subst (Shows name.guest name.vcpu) ((only name.guest Does acts guest (subst (λ m. slice_get states m ≡ Some guest) (sym number_is) is))) mine_shows))

    pub shown_step : HasDoneStep states lrs machine (record next { pes = machine.pes }) later parts ideals (Pe number Lrs) (Regs list)
    shown_step =
        let one = ideal name.guest Does acts in
        let old = guest_at told name.guest in
        let before = here name.guest Does acts in
        let registers = list_is machine.pes lrs mine name.guest old acts.guest acts.before acts.after (parts name.guest) one.one before acts.run machine.pes spots_then acts.does.quiet name.vcpu list few acts.does.shown in
        step_by name.guest Does acts (Pe number Lrs) (Regs list) machine.pes more one.one refl at.residents at.once (but_for_none name.guest one.one ideals one.is) (λ n v apart. refl)
        (shows_at machine.pes lrs mine name.guest old acts.guest acts.before acts.after (parts name.guest) one.one before acts.run machine.pes spots_then acts.does.quiet name.vcpu list few acts.does.shown)
        (λ n guest is. uncalled name.guest Does acts n more none_called) shows_there (ap Regs registers ∙ sym (ap (λ o. shown lrs o ideals) on ∙ ap (λ o. option_map_or (λ state. Regs (registers_of lrs state name.vcpu)) o Nothing) one.is))

-- Which vCPUs stand on the PEs then.

pub one_enters : (pes : List (Option VcpuName)) (number : ℕ) (name : VcpuName) → number < length pes → resident_of pes number ≡ None → (v : ℕ)
    → (if v == name.vcpu then entered (place_by (is_resident pes name.guest v)) else place_by (is_resident pes name.guest v)) ≡ place_by (is_resident (set pes number (Some name)) name.guest v)
one_enters pes number name there free v =
    let after = enters_resident pes number name.guest v name there free in
    elim (cases_eq v name.vcpu) [
      | inl same ↦
          ap (λ (b : Bool). if b then entered (place_by (is_resident pes name.guest v)) else place_by (is_resident pes name.guest v)) (eq-eqb v name.vcpu same)
          ∙ goes_in (is_resident pes name.guest v)
          ∙ ap (λ b. place_by (b || is_resident pes name.guest v)) (sym (ap (λ b. b && name.vcpu == v) (eq-eqb name.guest name.guest refl) ∙ eq-eqb name.vcpu v (sym same)))
          ∙ ap place_by (sym after)
      | inr apart ↦
          ap (λ (b : Bool). if b then entered (place_by (is_resident pes name.guest v)) else place_by (is_resident pes name.guest v)) (ne_eqb v name.vcpu apart)
          ∙ ap (λ b. place_by (b || is_resident pes name.guest v)) (sym (ap (λ b. b && name.vcpu == v) (eq-eqb name.guest name.guest refl) ∙ ne_eqb name.vcpu v (λ e. apart (sym e))))
          ∙ ap place_by (sym after)
    ]
  where
    goes_in : (b : Bool) → entered (place_by b) ≡ pe
    goes_in true = refl
    goes_in false = refl

pub one_leaves : (pes : List (Option VcpuName)) (number : ℕ) (name : VcpuName) → StandsOnce pes → slice_get pes number ≡ Some (Some name) → (v : ℕ)
    → (if v == name.vcpu then left (place_by (is_resident pes name.guest v)) else place_by (is_resident pes name.guest v)) ≡ place_by (is_resident (set pes number None) name.guest v)
one_leaves pes number name once on v =
    let after = leaves_resident pes number name.guest v name once on in
    elim (cases_eq v name.vcpu) [
      | inl same ↦
          ap (λ (b : Bool). if b then left (place_by (is_resident pes name.guest v)) else place_by (is_resident pes name.guest v)) (eq-eqb v name.vcpu same)
          ∙ goes_out (is_resident pes name.guest v)
          ∙ ap (λ b. place_by (not b && is_resident pes name.guest v)) (sym (ap (λ b. b && name.vcpu == v) (eq-eqb name.guest name.guest refl) ∙ eq-eqb name.vcpu v (sym same)))
          ∙ ap place_by (sym after)
      | inr apart ↦
          ap (λ (b : Bool). if b then left (place_by (is_resident pes name.guest v)) else place_by (is_resident pes name.guest v)) (ne_eqb v name.vcpu apart)
          ∙ ap (λ b. place_by (not b && is_resident pes name.guest v)) (sym (ap (λ b. b && name.vcpu == v) (eq-eqb name.guest name.guest refl) ∙ ne_eqb name.vcpu v (λ e. apart (sym e))))
          ∙ ap place_by (sym after)
    ]
  where
    goes_out : (b : Bool) → left (place_by b) ≡ shelf
    goes_out true = refl
    goes_out false = refl

pub other_guests : (guest n vcpu : ℕ) (name : VcpuName) → name.guest ≡ guest → n ≢ guest → is_named n vcpu name ≡ false
other_guests guest n vcpu name is apart = ap (λ b. b && name.vcpu == vcpu) (ne_eqb name.guest n (λ e. apart (sym e ∙ is)))
