-- A vCPU enters a PE, does operations there, and leaves it.
use Rattle.std.proofs.Common.{◌≡◌, ℕ, ◌<◌, ◌≤◌, All, IsTrue, List, [], ◌∷◌, ◌++◌, append-nil, length, length-append, Option, Some, inl, refl, sym, ap, subst, ◌∙◌, arith}
use Rattle.std.specs.Prelude.{slice_get}
use Rattle.std.proofs.Math.Logic.{∥∥₁_map}
use Rattle.std.proofs.lemmas.Option.{slice_get_within}
use Rattle.gic_io.specs.Words.{GuestOp}
use Rattle.port_table.specs.Calls.{Access, is_good_op}
use Rattle.port_table.specs.PortOps.PortCore.IdealGuests.declared.guest.IdealGuest.{IdealGuest}
use Rattle.pe_place.specs.Core.{Seen, IsSameActor}
use Rattle.pe_place.specs.LawEagerIsHistory.Calls.{Made}
use Rattle.pe_place.specs.PeIcc.Amid.{IsRunning, IsSame}
use Rattle.pe_place.proofs.PeIcc.LawLemmas.{entry_runs, exit_rests}
use Rattle.pe_place.specs.PeLoop.Enter.{Enters, IsBetween}
use Rattle.pe_place.specs.PeLoop.Leave.{Leaves}
use Rattle.pe_place.specs.PeLoop.Stay.{IsUp}
use Rattle.pe_place.specs.PeOp.Operation.{DoesOperation}
use Rattle.pe_place.specs.Parts.{Part, residence}
use Rattle.pe_place.proofs.MoveLemmas.{residence_found}
use Rattle.pe_place.specs.VcpuState.declared.loaded.Loaded.{Loaded}
use Rattle.pe_place.specs.VcpuState.declared.shelved.Shelved.{Shelved}
use Rattle.pe_place.specs.VcpuState.Moves.{shelved_of}
use Rattle.port_table.specs.ScnBase.declared.pes.VcpuName.{VcpuName}
use Rattle.port_table.specs.ScnBase.declared.step.Step.{Step}
use Rattle.port_table.specs.Told.{WordsTold, opening_seen, words_at}
use Rattle.thr_trip.specs.Gone.{HasGone}
use Rattle.thr_trip.specs.Operate.{Operates}
use Rattle.thr_trip.specs.Script.{all_vcpus, calls_answered, vcpu_ops}
use Rattle.thr_trip.specs.Trip.{IsTrip, TripTold, opened}
use Rattle.thr_trip.proofs.CallLemmas.{answered_more}
use Rattle.thr_trip.proofs.GoneLemmas.{goes_on_by}
use Rattle.port_table.proofs.PortCore.SameLemmas.{same_after, same_twice}

-- Operations on the PE.

pub operates_none : (script : List GuestOp) (seen : Seen) (vcpu : Loaded) (answers : List (Option ℕ)) → IsUp seen vcpu → length answers ≤ length script → Operates script seen seen vcpu vcpu answers answers
operates_none script seen vcpu answers up most =
    record {
      actor = record { home = refl; guest = refl; number = refl; actor = refl };
      up = up;
      same = record { base = refl; lrs = refl };
      most = most;
      goes_on = λ from gone. gone;
    }

same_vcpu : (one two three : Loaded) → IsSame one two → IsSame two three → IsSame one three
same_vcpu one two three a b =
    record { base = ap (λ (base : Shelved). record base { cpu = one.base.cpu }) b.base ∙ a.base; lrs = b.lrs ∙ a.lrs }

pub operates_more :
    (script : List GuestOp) (first old new : Seen) (start before after : Loaded) (answered answers : List (Option ℕ)) (op : GuestOp) (answer : Option ℕ) → Operates script first old start before answered answers
    → slice_get script (length answers) ≡ Some op → DoesOperation old new op before after answer
    → Operates script first new start after answered (answers ++ answer ∷ [])
operates_more script first old new start before after answered answers op answer so there does =
    let part : Part = record { operation = Access op; lrs = before.regs.n; steps = does.part; answer = answer } in
    let within = slice_get_within script (length answers) op there in
    record {
      actor = same_twice first old new so.actor (same_after old new does.part does.adds);
      up = does.up;
      same = same_vcpu start before after so.same does.same;
      most = omega (arith, length-append answers (answer ∷ []), within);
      goes_on = λ from gone.
          let here = so.goes_on from gone in
          subst (HasGone start.regs.n from new (IsRunning new after)) (sym (answered_more script answers op answer there))
          (goes_on_by start.regs.n from old new (IsRunning old before) (IsRunning new after) (calls_answered script answers) part so.same.lrs tt does.adds (inl (record { made = does.call; found = does.found })) does.proper does.goes_on here);
    }

-- The entry before them, and the exit after them.

pub enters_by : (lrs : ℕ) (from old new : Seen) (vcpu : Shelved) (loaded : Loaded) (calls : List Made) → Enters old new vcpu lrs loaded → HasGone lrs from old (IsBetween old) calls → HasGone lrs from new (IsRunning new loaded) calls
enters_by lrs from old new vcpu loaded calls enters gone =
    subst (HasGone lrs from new (IsRunning new loaded)) (append-nil calls)
    (goes_on_by lrs from old new (IsBetween old) (IsRunning new loaded) calls (residence lrs enters.part) refl tt enters.adds (inl (residence_found old lrs enters.part enters.call)) enters.whole_part (λ p between. entry_runs old new vcpu lrs loaded enters p between) gone)

pub leaves_by : (lrs : ℕ) (from old new : Seen) (vcpu : Loaded) (shelved : Shelved) (calls : List Made) → vcpu.regs.n ≡ lrs → Leaves old new vcpu shelved → HasGone lrs from old (IsRunning old vcpu) calls → HasGone lrs from new (IsBetween new) calls
leaves_by lrs from old new vcpu shelved calls lrs_is leaves gone =
    let n = vcpu.regs.n in
    subst (HasGone lrs from new (IsBetween new)) (append-nil calls)
    (goes_on_by lrs from old new (IsRunning old vcpu) (IsBetween new) calls (residence n leaves.part) lrs_is tt leaves.adds (inl (residence_found old n leaves.part leaves.call)) (λ p run. (exit_rests old new n vcpu shelved leaves p run).proper)
    (λ p run. (exit_rests old new n vcpu shelved leaves p run).between) gone)

-- A whole visit.

module _ (words : List WordsTold) (lrs : ℕ) (steps : List Step) (trip : TripTold) (is : IsTrip words lrs steps trip) (entered operated left : Seen) (loaded after : Loaded) (back : Shelved) (next : ℕ) (answers : List (Option ℕ)) (enters : Enters trip.seen entered trip.vcpu lrs loaded) (operates : Operates trip.script entered operated loaded after trip.answers answers) (leaves : Leaves operated left after back) (back_is : back ≡ shelved_of after) (next_is : next ≡ length answers) where
  -- how it is after it
  abbrev pub visited : TripTold
  visited = record { vcpu = record back { next = next }; place = trip.place; script = trip.script; answers = answers; seen = left }

  same_actor : IsSameActor trip.seen left
  same_actor = same_twice trip.seen operated left (same_twice trip.seen entered operated (same_after trip.seen entered enters.part enters.adds) operates.actor) (same_after operated left leaves.part leaves.adds)

  same_guest : trip.vcpu.guest ≡ back.guest
  same_guest = sym (ap (λ (vcpu : Shelved). vcpu.guest) back_is ∙ ap (λ (vcpu : Shelved). vcpu.guest) operates.same.base ∙ ap (λ (vcpu : Shelved). vcpu.guest) enters.kept)

  same_number : trip.vcpu.vcpu ≡ back.vcpu
  same_number = sym (ap (λ (vcpu : Shelved). vcpu.vcpu) back_is ∙ ap (λ (vcpu : Shelved). vcpu.vcpu) operates.same.base ∙ ap (λ (vcpu : Shelved). vcpu.vcpu) enters.kept)

  -- what is said of a vCPU by its name
  by_name : (Says : ℕ → ℕ → Type 0) → Says trip.vcpu.guest trip.vcpu.vcpu → Says back.guest back.vcpu
  by_name Says so = subst (λ number. Says back.guest number) same_number (subst (λ guest. Says guest trip.vcpu.vcpu) same_guest so)

  goes_on : HasGone lrs (opened words trip) trip.seen (IsBetween trip.seen) (calls_answered trip.script trip.answers) → HasGone lrs (opened words trip) left (IsBetween left) (calls_answered trip.script answers)
  goes_on gone =
      let from = opened words trip in
      let first = calls_answered trip.script trip.answers in
      let all = calls_answered trip.script answers in
      leaves_by lrs from operated left after back all (operates.same.lrs ∙ enters.lrs_is) leaves
      (subst (λ n. HasGone n from operated (IsRunning operated after) all) enters.lrs_is
      (operates.goes_on from (subst (λ n. HasGone n from entered (IsRunning entered loaded) first) (sym enters.lrs_is) (enters_by lrs from trip.seen entered trip.vcpu loaded first enters gone))))

  pub visited_is : IsTrip words lrs steps visited
  visited_is =
      let from : ℕ → ℕ → Seen = λ guest vcpu. opening_seen (words_at words guest) vcpu in
      let name : ℕ → ℕ → VcpuName = λ guest vcpu. record { guest = guest; vcpu = vcpu } in
      let off = leaves.off in
      record {
        of =
            record {
              guest = subst (λ number. number < length words) (sym same_actor.number) is.of.guest;
              home = ap (λ number. (words_at words number).home) same_actor.number ∙ is.of.home ∙ sym same_actor.home;
            };
        actor = by_name (λ guest vcpu. IsSameActor (from guest vcpu) left) (same_twice (opened words trip) trip.seen left is.actor same_actor);
        off = record { actor = record { guest = off.actor.guest; number = off.actor.number; is_one = off.actor.is_one }; cpu = off.cpu; empty = off.empty; settled = off.settled };
        place = by_name (λ guest vcpu. slice_get (all_vcpus words) trip.place ≡ Some (name guest vcpu)) is.place;
        script = by_name (λ guest vcpu. trip.script ≡ vcpu_ops guest vcpu steps) is.script;
        good = subst (λ (guest : IdealGuest). All (λ op. IsTrue (is_good_op guest.shape op)) trip.script) (sym same_actor.guest) is.good;
        next = next_is;
        most = operates.most;
        gone =
            by_name (λ guest vcpu. ∥ HasGone lrs (from guest vcpu) left (IsBetween left) (calls_answered trip.script answers) ∥₁)
            (∥∥₁_map is.gone (λ gone. goes_on gone));
      }
