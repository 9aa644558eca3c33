-- A run: what each step keeps, and its lines.
use Rattle.std.proofs.Common.{◌≡◌, ◌<◌, ◌≤◌, ◌+◌, ◌++◌, ℕ, Bool, true, false, ◌&&◌, not, nat_lt, nat_le, Option, Some, None, List, [], ◌∷◌, map, set, length, drop, get_or, ◌⊎◌, inl, inr, add-one, drop-cons, append_assoc, All, refl, sym, ap, ◌∙◌, subst, arith}
use Rattle.std.specs.Prelude.{is_some, is_none, IfSome, IsTrue, if◌then◌else◌}
use Rattle.std.specs.Option.{option_map_or}
use Rattle.std.proofs.lemmas.Bool.{false≢true, and_parts}
use Rattle.std.proofs.lemmas.List.{length-set, length-replicate}
use Rattle.std.proofs.lemmas.List.Elements.{All-set, All-replicate}
use Rattle.std.proofs.Math.ListN.{get_or-eq_default}
use Rattle.gic_ich.specs.GicPrio.declared.cpu.CpuRec.{CpuRec}
use Rattle.gic_ich.specs.GicPrio.Priority.{HasBinaryPoints}
use Rattle.gic_ich.specs.GicPrio.Interface.{AtInterface, candidates_at, interface_after}
use Rattle.gic_ich.proofs.GicPrio.AccessLemmas.{points_after}
use Rattle.gic_open.specs.Opening.{opening_cpu}
use Rattle.scn_read.specs.ScnBase.Codes.{unknown_actor_code, pe_busy_code, first_met}
use Rattle.gic_host.specs.declared.link.Link.{Link}
use Rattle.gic_host.specs.declared.step.PhysSet.{PhysSet}
use Rattle.gic_host.specs.declared.step.PhysSet.TheVariants.{Pend, Clear, Enable, Disable}
use Rattle.gic_host.specs.declared.step.HostStep.{HostStep}
use Rattle.gic_host.specs.declared.step.HostStep.TheVariants.{Phys, Icc, Enter, Exit, Lrs}
use Rattle.gic_host.specs.declared.scenario.HostScenario.{HostScenario}
use Rattle.gic_host.specs.declared.state.Virtual.TheVariants.{Idle, Pending, Active}
use Rattle.gic_host.specs.declared.state.LinkState.{LinkState}
use Rattle.gic_host.specs.State.{HostState, opening, opening_link, settled_link, set_by, is_of, with_set, is_at, interface_at, cpu_at, left_as, accessed, after_access, after}
use Rattle.gic_host.specs.Text.{line, lines}
use Rattle.gic_host.specs.Good.{are_good_links, step_fault, is_loaded_after, are_good_steps, is_good}
use Rattle.gic_host.specs.Access.{IsRunning}
use Rattle.gic_host.proofs.ListLemmas.{map_id, map_map, map_same}
use Rattle.gic_host.proofs.GoodLemmas.{link_of}
use Rattle.gic_host.proofs.SettleLemmas.{moved_link, after_links}

-- ---- the parts of a good scenario

pub record Parts (scenario : HostScenario) : Type 0 where
  pub some_vcpu : 1 ≤ scenario.vcpus
  pub some_register : 1 ≤ scenario.lrs
  pub registers : scenario.lrs ≤ 16
  pub links : are_good_links scenario.vcpus scenario.links ≡ true
  pub few : length scenario.steps ≤ 100000
  pub steps : are_good_steps scenario.links scenario.vcpus true scenario.steps ≡ true

pub parts : (scenario : HostScenario) → IsTrue (is_good scenario) → Parts scenario
parts scenario h =
    let a = nat_le 1 scenario.vcpus in
    let b = nat_le scenario.vcpus 8 in
    let c = nat_le 1 scenario.lrs in
    let d = nat_le scenario.lrs 16 in
    let e = are_good_links scenario.vcpus scenario.links in
    let f = nat_le (length scenario.steps) 100000 in
    let g = are_good_steps scenario.links scenario.vcpus true scenario.steps in
    let g_is = and_parts (a && b && c && d && e && f) g h in
    let f_is = and_parts (a && b && c && d && e) f g_is.0 in
    let e_is = and_parts (a && b && c && d) e f_is.0 in
    let d_is = and_parts (a && b && c) d e_is.0 in
    let c_is = and_parts (a && b) c d_is.0 in
    let b_is = and_parts a b c_is.0 in
    record {
      some_vcpu = at_most 1 scenario.vcpus b_is.0;
      some_register = at_most 1 scenario.lrs c_is.1;
      registers = at_most scenario.lrs 16 d_is.1;
      links = e_is.1;
      few = at_most (length scenario.steps) 100000 f_is.1;
      steps = g_is.1;
    }
  where
    at_most : (m n : ℕ) → nat_le m n ≡ true → m ≤ n
    at_most m n e = grind (arith, e)

-- ---- what steps keep

settled_kept : (l : LinkState) → (settled_link l).link ≡ l.link
settled_kept l = of (l.latch && l.enabled && not l.active)
  where
    of : (b : Bool) → (if b then record l { latch = false; active = true; state = Pending } else l).link ≡ l.link
    of true = refl
    of false = refl

set_kept : (phys : ℕ) (set : PhysSet) (l : LinkState) → (with_set phys set l).link ≡ l.link
set_kept phys set l = of (is_of phys l) set
  where
    of : (b : Bool) (set : PhysSet) → (if b then set_by set l else l).link ≡ l.link
    of true Pend = refl
    of true Clear = refl
    of true Enable = refl
    of true Disable = refl
    of false set = refl

left_kept : (l : LinkState) (entry : AtInterface) → (left_as l entry).link ≡ l.link
left_kept l entry = of entry.pending entry.active
  where
    of : (p a : Bool) → (if p then record l { state = Pending } else (if a then record l { state = Active } else record l { state = Idle; active = false })).link ≡ l.link
    of true a = refl
    of false true = refl
    of false false = refl

accessed_kept : (vcpu : ℕ) (at : List AtInterface) (l : LinkState) → (accessed vcpu at l).link ≡ l.link
accessed_kept vcpu at l = of (is_at vcpu l) _
  where
    of : (b : Bool) (o : Option AtInterface) → (if b then option_map_or (left_as l) o l else l).link ≡ l.link
    of true None = refl
    of true (Some entry) = left_kept l entry
    of false o = refl

moved_kept : (step : HostStep) (host : HostState) (l : LinkState) → (moved_link step host l).link ≡ l.link
moved_kept (Phys phys None) host l = refl
moved_kept (Phys phys (Some set)) host l = set_kept phys set l
moved_kept (Icc reg write) host l = of host.loaded
  where
    of : (loaded : Option ℕ) → (option_map_or (λ vcpu. accessed vcpu (interface_after reg write (interface_at host vcpu)).at l) loaded l).link ≡ l.link
    of None = refl
    of (Some vcpu) = accessed_kept vcpu (interface_after reg write (interface_at host vcpu)).at l
moved_kept (Enter vcpu) host l = refl
moved_kept Exit host l = refl
moved_kept Lrs host l = refl

links_kept : (step : HostStep) (host : HostState) → map link_of (after step host).links ≡ map link_of host.links
links_kept step host =
    ap (map link_of) (after_links step host)
    ∙ map_map link_of (λ l. settled_link (moved_link step host l)) host.links
    ∙ map_same (λ l. (settled_link (moved_link step host l)).link) link_of host.links (λ l has. settled_kept (moved_link step host l) ∙ moved_kept step host l)

cpus_kept : (step : HostStep) (host : HostState) → length (after step host).cpus ≡ length host.cpus
cpus_kept (Phys phys None) host = refl
cpus_kept (Phys phys (Some set)) host = refl
cpus_kept (Icc reg write) host = of host.loaded
  where
    of : (loaded : Option ℕ) → length (option_map_or (λ vcpu. after_access reg write vcpu host) loaded host).cpus ≡ length host.cpus
    of None = refl
    of (Some vcpu) = length-set host.cpus vcpu (interface_after reg write (interface_at host vcpu)).cpu
cpus_kept (Enter vcpu) host = refl
cpus_kept Exit host = refl
cpus_kept Lrs host = refl

opening_points : HasBinaryPoints (opening_cpu true)
opening_points = record { group_0 = omega arith; group_1 = omega arith }

cpu_points : (cpus : List CpuRec) (vcpu : ℕ) → All HasBinaryPoints cpus → HasBinaryPoints (cpu_at cpus vcpu)
cpu_points cpus vcpu h = of (grind arith)
  where
    of : (vcpu < length cpus) ⊎ (length cpus ≤ vcpu) → HasBinaryPoints (cpu_at cpus vcpu)
    of (inl less) = h vcpu (opening_cpu true) less
    of (inr more) = subst HasBinaryPoints (sym (get_or-eq_default cpus (opening_cpu true) more)) opening_points

points_kept : (step : HostStep) (host : HostState) → All HasBinaryPoints host.cpus → All HasBinaryPoints (after step host).cpus
points_kept (Phys phys None) host h = h
points_kept (Phys phys (Some set)) host h = h
points_kept (Icc reg write) host h = of host.loaded
  where
    of : (loaded : Option ℕ) → All HasBinaryPoints (option_map_or (λ vcpu. after_access reg write vcpu host) loaded host).cpus
    of None = h
    of (Some vcpu) = All-set HasBinaryPoints host.cpus vcpu (interface_after reg write (interface_at host vcpu)).cpu (points_after reg write (cpu_at host.cpus vcpu) (candidates_at (interface_at host vcpu)) (cpu_points host.cpus vcpu h)) h
points_kept (Enter vcpu) host h = h
points_kept Exit host h = h
points_kept Lrs host h = h

loaded_kept : (links : List Link) (vcpus : ℕ) (step : HostStep) (host : HostState) → IfSome host.loaded (λ vcpu. vcpu < vcpus) → step_fault links vcpus (is_some host.loaded) step ≡ None → IfSome (after step host).loaded (λ vcpu. vcpu < vcpus)
loaded_kept links vcpus (Phys phys None) host h e = h
loaded_kept links vcpus (Phys phys (Some set)) host h e = h
loaded_kept links vcpus (Icc reg write) host h e = of host.loaded h
  where
    of : (loaded : Option ℕ) → IfSome loaded (λ vcpu. vcpu < vcpus) → IfSome (option_map_or (λ vcpu. after_access reg write vcpu (record host { loaded = loaded })) loaded (record host { loaded = loaded })).loaded (λ vcpu. vcpu < vcpus)
    of None k = k
    of (Some vcpu) k = k
loaded_kept links vcpus (Enter vcpu) host h e = of (nat_lt vcpu vcpus) refl (is_some host.loaded) e
  where
    of : (b : Bool) → nat_lt vcpu vcpus ≡ b → (loaded : Bool) → first_met ((not b, unknown_actor_code) ∷ (loaded, pe_busy_code) ∷ []) ≡ None → vcpu < vcpus
    of true f loaded g = grind (arith, f)
    of false f loaded g = absurd (cc)
loaded_kept links vcpus Exit host h e = tt
loaded_kept links vcpus Lrs host h e = h

pub running_after : (links : List Link) (vcpus : ℕ) (step : HostStep) (host : HostState) → IsRunning links vcpus host → step_fault links vcpus (is_some host.loaded) step ≡ None → IsRunning links vcpus (after step host)
running_after links vcpus step host running e =
    record {
      links_are = links_kept step host ∙ running.links_are;
      good = running.good;
      cpus = cpus_kept step host ∙ running.cpus;
      points = points_kept step host running.points;
      loaded = loaded_kept links vcpus step host running.loaded e;
    }

pub running_opening : (scenario : HostScenario) → Parts scenario → IsRunning scenario.links scenario.vcpus (opening scenario)
running_opening scenario good =
    let some = good.some_vcpu in
    record {
      links_are = map_map link_of opening_link scenario.links ∙ map_id scenario.links;
      good = good.links;
      cpus = length-replicate scenario.vcpus (opening_cpu true);
      points = All-replicate HasBinaryPoints scenario.vcpus (opening_cpu true) opening_points;
      loaded = omega (arith, some);
    }

pub loaded_after : (step : HostStep) (host : HostState) → is_some (after step host).loaded ≡ is_loaded_after step (is_some host.loaded)
loaded_after (Phys phys None) host = refl
loaded_after (Phys phys (Some set)) host = refl
loaded_after (Icc reg write) host = of host.loaded
  where
    of : (loaded : Option ℕ) → is_some (option_map_or (λ vcpu. after_access reg write vcpu (record host { loaded = loaded })) loaded (record host { loaded = loaded })).loaded ≡ is_some loaded
    of None = refl
    of (Some vcpu) = refl
loaded_after (Enter vcpu) host = refl
loaded_after Exit host = refl
loaded_after Lrs host = refl

-- ---- one step of the run

drop_step : (steps : List HostStep) (i : ℕ) (d : HostStep) → i < length steps → drop i steps ≡ get_or steps i d ∷ drop (i + 1) steps
drop_step steps i d less = drop-cons steps i d less ∙ ap (λ (m : ℕ). get_or steps i d ∷ drop m steps) (sym (add-one i))

no_fault : (o : Option ℕ) → is_none o ≡ true → o ≡ None
no_fault None e = refl
no_fault (Some code) e = absurd (false≢true e)

module _ (scenario : HostScenario) (host : HostState) (items : List HostStep) (same : items ≡ scenario.steps) (i : ℕ) (d : HostStep) (less : i < length items)
    (good : are_good_steps scenario.links scenario.vcpus (is_some host.loaded) (drop i scenario.steps) ≡ true) where
  abbrev step : HostStep
  step = get_or items i d

  at_step : drop i scenario.steps ≡ step ∷ drop (i + 1) scenario.steps
  at_step = subst (λ (steps : List HostStep). drop i steps ≡ step ∷ drop (i + 1) steps) same (drop_step items i d less)

  both : (is_none (step_fault scenario.links scenario.vcpus (is_some host.loaded) step) ≡ true) × (are_good_steps scenario.links scenario.vcpus (is_loaded_after step (is_some host.loaded)) (drop (i + 1) scenario.steps) ≡ true)
  both =
      and_parts (is_none (step_fault scenario.links scenario.vcpus (is_some host.loaded) step)) (are_good_steps scenario.links scenario.vcpus (is_loaded_after step (is_some host.loaded)) (drop (i + 1) scenario.steps))
      (sym (ap (are_good_steps scenario.links scenario.vcpus (is_some host.loaded)) at_step) ∙ good)

  pub step_good : step_fault scenario.links scenario.vcpus (is_some host.loaded) step ≡ None
  step_good = no_fault (step_fault scenario.links scenario.vcpus (is_some host.loaded) step) both.0

  pub rest_good : are_good_steps scenario.links scenario.vcpus (is_some (after step host).loaded) (drop (i + 1) scenario.steps) ≡ true
  rest_good = ap (λ (b : Bool). are_good_steps scenario.links scenario.vcpus b (drop (i + 1) scenario.steps)) (loaded_after step host) ∙ both.1

  pub lines_more : (text longer whole : List ℕ) → longer ≡ text ++ line scenario.lrs (i + 1) step host → text ++ lines scenario.lrs (i + 1) host (drop i scenario.steps) ≡ whole
      → longer ++ lines scenario.lrs (i + 1 + 1) (after step host) (drop (i + 1) scenario.steps) ≡ whole
  lines_more text longer whole e told =
      ap (λ (t : List ℕ). t ++ lines scenario.lrs (i + 1 + 1) (after step host) (drop (i + 1) scenario.steps)) e
      ∙ append_assoc text (line scenario.lrs (i + 1) step host) (lines scenario.lrs (i + 1 + 1) (after step host) (drop (i + 1) scenario.steps))
      ∙ sym (ap (λ (steps : List HostStep). text ++ lines scenario.lrs (i + 1) host steps) at_step)
      ∙ told
