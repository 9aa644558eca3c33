-- What steps keep, and what they change.
use Rattle.std.proofs.Common.{◌≡◌, ◌<◌, ℕ, zero, suc, Bool, true, false, ◌&&◌, ◌||◌, not, eqb, Option, Some, None, List, [], ◌∷◌, map, find, fold, set, length, get_or, All, Contains, ◌⊎◌, inl, inr, refl, sym, ap, ◌∙◌, subst, arith}
use Rattle.std.specs.Prelude.{slice_get, slice_set, if◌then◌else◌}
use Rattle.std.specs.Option.{option_map, option_map_or}
use Rattle.std.proofs.lemmas.Grind.{common_steps}
use Rattle.std.proofs.lemmas.Bool.{false≢true}
use Rattle.std.proofs.lemmas.Option.{same_Some, slice_get-map, slice_get_within, get_or_from_slice_get}
use Rattle.std.proofs.lemmas.List.Elements.{All-map}
use Rattle.floor_lists.proofs.VcpuRefill.ElementLemmas.{Contains-nothing, Contains-cases}
use Rattle.gic_ich.specs.Words.{intid_of}
use Rattle.gic_ich.specs.GicPrio.Interface.{AtInterface, interface_after}
use Rattle.gic_host.proofs.ListLemmas.{map_id, map_map}
use Rattle.gic_host.specs.declared.link.Link.{Link}
use Rattle.gic_host.specs.declared.step.PhysSet.{PhysSet}
use Rattle.gic_host.specs.declared.step.PhysSet.TheVariants.{Pend, Clear, Enable, Disable}
use Rattle.gic_host.specs.declared.step.HostStep.{HostStep}
use Rattle.gic_host.specs.declared.step.HostStep.TheVariants.{Phys, Icc, Enter, Exit, Lrs}
use Rattle.gic_host.specs.declared.scenario.HostScenario.{HostScenario}
use Rattle.gic_host.specs.declared.state.Virtual.TheVariants.{Idle, Pending, Active}
use Rattle.gic_host.specs.declared.state.LinkState.{LinkState}
use Rattle.gic_host.specs.State.{HostState, opening, opening_link, settled_link, set_by, is_of, with_set, is_pending, is_active, is_at, interface_at, left_as, accessed, moved, after, after_all}
use Rattle.gic_host.specs.Laws.{PhysicalFollowsVirtual, LatchesAreTaken, IsNotLost, LinksAreApart, OrderDoesNotMatter, touches, reached, settled_at}

-- what a step does to one link, before it is settled
abbrev pub moved_link : HostStep → HostState → LinkState → LinkState
moved_link (Phys phys None) host l = l
moved_link (Phys phys (Some set)) host l = with_set phys set l
moved_link (Icc reg write) host l = option_map_or (λ vcpu. accessed vcpu (interface_after reg write (interface_at host vcpu)).at l) host.loaded l
moved_link (Enter vcpu) host l = l
moved_link Exit host l = l
moved_link Lrs host l = l

pub moved_links : (step : HostStep) (host : HostState) → (moved step host).links ≡ map (moved_link step host) host.links
moved_links (Phys phys None) host = sym (map_id host.links)
moved_links (Phys phys (Some set)) host = refl
moved_links (Icc reg write) host = of host.loaded
  where
    of : (loaded : Option ℕ) → (moved (Icc reg write) (record host { loaded = loaded })).links ≡ map (moved_link (Icc reg write) (record host { loaded = loaded })) host.links
    of None = sym (map_id host.links)
    of (Some vcpu) = refl
moved_links (Enter vcpu) host = sym (map_id host.links)
moved_links Exit host = sym (map_id host.links)
moved_links Lrs host = sym (map_id host.links)

-- each link goes by itself
pub after_links : (step : HostStep) (host : HostState) → (after step host).links ≡ map (λ l. settled_link (moved_link step host l)) host.links
after_links step host = ap (map settled_link) (moved_links step host) ∙ map_map settled_link (moved_link step host) host.links

-- ---- a physical interrupt is active exactly where its virtual one is pending or active

abbrev Follows : LinkState → Type 0
Follows l = l.active ≡ (is_pending l.state || is_active l.state)

settled_follows : (l : LinkState) → Follows l → Follows (settled_link l)
settled_follows l h = of (l.latch && l.enabled && not l.active)
  where
    of : (b : Bool) → Follows (if b then record l { latch = false; active = true; state = Pending } else l)
    of true = refl
    of false = h

set_follows : (phys : ℕ) (set : PhysSet) (l : LinkState) → Follows l → Follows (with_set phys set l)
set_follows phys set l h = of (is_of phys l) (by set)
  where
    by : (set : PhysSet) → Follows (set_by set l)
    by Pend = h
    by Clear = h
    by Enable = h
    by Disable = h

    of : (b : Bool) → Follows (set_by set l) → Follows (if b then set_by set l else l)
    of true rest = rest
    of false rest = h

accessed_follows : (vcpu : ℕ) (at : List AtInterface) (l : LinkState) → Follows l → Follows (accessed vcpu at l)
accessed_follows vcpu at l h = of (eqb l.link.vcpu vcpu) (is_pending l.state || is_active l.state) refl
  where
    left : (live : Bool) → (is_pending l.state || is_active l.state) ≡ live → live ≡ true → (entry : AtInterface) → Follows (left_as l entry)
    left live e is entry = by entry.pending entry.active
      where
        by : (pending active : Bool) → Follows (if pending then record l { state = Pending } else (if active then record l { state = Active } else record l { state = Idle; active = false }))
        by true active = h ∙ e ∙ is
        by false true = h ∙ e ∙ is
        by false false = refl

    found : (live : Bool) → (is_pending l.state || is_active l.state) ≡ live → live ≡ true → (o : Option AtInterface) → Follows (option_map_or (left_as l) o l)
    found live e is None = h
    found live e is (Some entry) = left live e is entry

    of : (a live : Bool) → (is_pending l.state || is_active l.state) ≡ live → Follows (if a && live then option_map_or (left_as l) (find (λ entry. eqb (intid_of entry.key) l.link.vid) at) l else l)
    of true true e = found true e refl (find (λ entry. eqb (intid_of entry.key) l.link.vid) at)
    of true false e = h
    of false live e = h

moved_follows : (step : HostStep) (host : HostState) (l : LinkState) → Follows l → Follows (moved_link step host l)
moved_follows (Phys phys None) host l h = h
moved_follows (Phys phys (Some set)) host l h = set_follows phys set l h
moved_follows (Icc reg write) host l h = of host.loaded
  where
    of : (loaded : Option ℕ) → Follows (option_map_or (λ vcpu. accessed vcpu (interface_after reg write (interface_at host vcpu)).at l) loaded l)
    of None = h
    of (Some vcpu) = accessed_follows vcpu (interface_after reg write (interface_at host vcpu)).at l h
moved_follows (Enter vcpu) host l h = h
moved_follows Exit host l h = h
moved_follows Lrs host l h = h

-- what holds of each link at the opening, and is kept by each step, holds after all steps
module _ (P : LinkState → Type 0) (kept : (step : HostStep) (host : HostState) (l : LinkState) → P l → P (settled_link (moved_link step host l))) where
  after_keeps : (step : HostStep) (host : HostState) → All P host.links → All P (after step host).links
  after_keeps step host h = subst (All P) (sym (after_links step host)) (All-map P (λ l. settled_link (moved_link step host l)) host.links (λ k d less. kept step host (get_or host.links k d) (h k d less)))

  pub all_keep : (steps : List HostStep) (host : HostState) → All P host.links → All P (after_all steps host).links
  all_keep [] host h = h
  all_keep (step ∷ steps) host h = all_keep steps (after step host) (after_keeps step host h)

pub physical_follows : PhysicalFollowsVirtual
physical_follows scenario steps =
    all_keep Follows (λ step host l h. settled_follows (moved_link step host l) (moved_follows step host l h)) steps (opening scenario) (All-map Follows opening_link scenario.links (λ k d less. refl))

-- ---- latches

abbrev Waits : LinkState → Type 0
Waits l = l.latch ≡ true → (l.active ≡ true) ⊎ (l.enabled ≡ false)

settled_waits : (l : LinkState) → Waits (settled_link l)
settled_waits l = of l.latch l.enabled l.active refl refl refl
  where
    of : (latch enabled active : Bool) → l.latch ≡ latch → l.enabled ≡ enabled → l.active ≡ active → Waits (if latch && enabled && not active then record l { latch = false; active = true; state = Pending } else l)
    of true true true e f g = λ h. inl g
    of true true false e f g = λ h. absurd (false≢true h)
    of true false active e f g = λ h. inr f
    of false enabled active e f g = λ h. absurd (false≢true (sym e ∙ h))

opening_waits : (link : Link) → Waits (opening_link link)
opening_waits link = λ h. absurd (false≢true h)

pub taken : (scenario : HostScenario) (steps : List HostStep) → All Waits (reached scenario steps).links
taken scenario steps = all_keep Waits (λ step host l h. settled_waits (moved_link step host l)) steps (opening scenario) (All-map Waits opening_link scenario.links (λ k d less. opening_waits (get_or scenario.links k d)))

-- a link has a latch after a step, or the step clears it
left_latch : (l : LinkState) (entry : AtInterface) → (left_as l entry).latch ≡ l.latch
left_latch l entry = of entry.pending entry.active
  where
    of : (pending active : Bool) → (if pending then record l { state = Pending } else (if active then record l { state = Active } else record l { state = Idle; active = false })).latch ≡ l.latch
    of true active = refl
    of false true = refl
    of false false = refl

accessed_latch : (vcpu : ℕ) (at : List AtInterface) (l : LinkState) → (accessed vcpu at l).latch ≡ l.latch
accessed_latch vcpu at l = of (is_at vcpu l) (find (λ entry. eqb (intid_of entry.key) l.link.vid) at)
  where
    of : (b : Bool) (o : Option AtInterface) → (if b then option_map_or (left_as l) o l else l).latch ≡ l.latch
    of true None = refl
    of true (Some entry) = left_latch l entry
    of false o = refl

abbrev KeepsLatch : HostStep → LinkState → LinkState → Type 0
KeepsLatch step old new = (new.latch ≡ true) ⊎ (step ≡ Phys old.link.phys (Some Clear))

moved_latch : (step : HostStep) (host : HostState) (l : LinkState) → l.latch ≡ true → KeepsLatch step l (moved_link step host l)
moved_latch (Phys phys None) host l h = inl h
moved_latch (Phys phys (Some set)) host l h = of (is_of phys l) refl
  where
    by : (set : PhysSet) → l.link.phys ≡ phys → KeepsLatch (Phys phys (Some set)) l (set_by set l)
    by Pend e = inl refl
    by Clear e = inr (ap (λ (n : ℕ). Phys n (Some Clear)) (sym e))
    by Enable e = inl h
    by Disable e = inl h

    of : (b : Bool) → is_of phys l ≡ b → KeepsLatch (Phys phys (Some set)) l (if b then set_by set l else l)
    of true e = by set (grind (arith, common_steps, e))
    of false e = inl h
moved_latch (Icc reg write) host l h = inl (of host.loaded)
  where
    of : (loaded : Option ℕ) → (option_map_or (λ vcpu. accessed vcpu (interface_after reg write (interface_at host vcpu)).at l) loaded l).latch ≡ true
    of None = h
    of (Some vcpu) = accessed_latch vcpu (interface_after reg write (interface_at host vcpu)).at l ∙ h
moved_latch (Enter vcpu) host l h = inl h
moved_latch Exit host l h = inl h
moved_latch Lrs host l h = inl h

settled_latch : (l : LinkState) → l.latch ≡ true → ((settled_link l).latch ≡ true) ⊎ (((settled_link l).active ≡ true) × ((settled_link l).state ≡ Pending))
settled_latch l h = of (l.latch && l.enabled && not l.active)
  where
    taken_or_not : Bool → LinkState
    taken_or_not b = if b then record l { latch = false; active = true; state = Pending } else l

    of : (b : Bool) → ((if b then record l { latch = false; active = true; state = Pending } else l).latch ≡ true) ⊎ (((if b then record l { latch = false; active = true; state = Pending } else l).active ≡ true) × ((if b then record l { latch = false; active = true; state = Pending } else l).state ≡ Pending))
    of true = inr (refl, refl)
    of false = inl h

-- a link after a step
link_after : (host : HostState) (step : HostStep) (place : ℕ) (old new : LinkState) → slice_get host.links place ≡ Some old → slice_get (after step host).links place ≡ Some new → new ≡ settled_link (moved_link step host old)
link_after host step place old new is becomes =
    same_Some new (settled_link (moved_link step host old))
    (sym becomes ∙ ap (λ (links : List LinkState). slice_get links place) (after_links step host) ∙ slice_get-map (λ l. settled_link (moved_link step host l)) host.links place ∙ ap (option_map (λ l. settled_link (moved_link step host l))) is)

kept_latch : (host : HostState) (step : HostStep) (place : ℕ) (old new : LinkState) → slice_get host.links place ≡ Some old → slice_get (after step host).links place ≡ Some new → old.latch ≡ true → IsNotLost step old new
kept_latch host step place old new is becomes h =
    subst (IsNotLost step old) (sym (link_after host step place old new is becomes))
    (elim (moved_latch step host old h) [
      | inl kept ↦ elim (settled_latch (moved_link step host old) kept) [ inl still ↦ inl still | inr taken ↦ inr (inl taken) ]
      | inr cleared ↦ inr (inr cleared)
    ])

pub latches : LatchesAreTaken
latches = record { taken = taken; kept = kept_latch }

-- ---- links are apart

settled_twice : (l : LinkState) → settled_link (settled_link l) ≡ settled_link l
settled_twice l = of l.latch l.enabled l.active refl refl refl
  where
    of : (latch enabled active : Bool) → l.latch ≡ latch → l.enabled ≡ enabled → l.active ≡ active → settled_link (if latch && enabled && not active then record l { latch = false; active = true; state = Pending } else l) ≡ (if latch && enabled && not active then record l { latch = false; active = true; state = Pending } else l)
    of true true true e f g = rw (e, f, g) refl
    of true true false e f g = refl
    of true false active e f g = rw (e, f) refl
    of false enabled active e f g = rw e refl

abbrev IsSettled : LinkState → Type 0
IsSettled l = settled_link l ≡ l

stays : (step : HostStep) (host : HostState) (l : LinkState) → touches step host.loaded l.link ≡ false → moved_link step host l ≡ l
stays (Phys phys None) host l h = refl
stays (Phys phys (Some set)) host l h = rw h refl
stays (Icc reg write) host l h = of host.loaded h
  where
    of : (loaded : Option ℕ) → option_map_or (λ vcpu. eqb l.link.vcpu vcpu) loaded false ≡ false → option_map_or (λ vcpu. accessed vcpu (interface_after reg write (interface_at host vcpu)).at l) loaded l ≡ l
    of None e = refl
    of (Some vcpu) e = rw e refl
stays (Enter vcpu) host l h = refl
stays Exit host l h = refl
stays Lrs host l h = refl

pub apart : LinksAreApart
apart scenario steps step place l is untouched =
    let host = reached scenario steps in
    let settled_all : All IsSettled host.links =
    all_keep IsSettled (λ s h m k. settled_twice (moved_link s h m)) steps (opening scenario) (All-map IsSettled opening_link scenario.links (λ k d less. refl)) in
    let within : place < length host.links = slice_get_within host.links place l is in
    let here : settled_link l ≡ l = subst IsSettled (get_or_from_slice_get host.links place l l is) (settled_all place l within) in
    ap (λ (links : List LinkState). slice_get links place) (after_links step host)
    ∙ slice_get-map (λ m. settled_link (moved_link step host m)) host.links place
    ∙ ap (option_map (λ m. settled_link (moved_link step host m))) is
    ∙ ap Some (ap settled_link (stays step host l untouched) ∙ here)

-- ---- the order in which links are settled

-- a link further on
further : (l : LinkState) (links : List LinkState) (place : ℕ) → settled_at (l ∷ links) (suc place) ≡ l ∷ settled_at links place
further l links place = of (slice_get links place)
  where
    of : (o : Option LinkState) → option_map_or (λ m. slice_set (l ∷ links) (suc place) (settled_link m)) o (l ∷ links) ≡ l ∷ option_map_or (λ m. slice_set links place (settled_link m)) o links
    of None = refl
    of (Some m) = refl

settled_same : (links : List LinkState) (place : ℕ) → map settled_link (settled_at links place) ≡ map settled_link links
settled_same [] place = refl
settled_same (l ∷ links) zero = ap (λ (m : LinkState). m ∷ map settled_link links) (settled_twice l)
settled_same (l ∷ links) (suc place) = ap (map settled_link) (further l links place) ∙ ap (λ (rest : List LinkState). settled_link l ∷ rest) (settled_same links place)

settled_long : (links : List LinkState) (place : ℕ) → length (settled_at links place) ≡ length links
settled_long [] place = refl
settled_long (l ∷ links) zero = refl
settled_long (l ∷ links) (suc place) = ap length (further l links place) ∙ ap suc (settled_long links place)

-- at each place there is what was there, or that settled
here_or_settled : (links : List LinkState) (place k : ℕ) → (slice_get (settled_at links place) k ≡ slice_get links k) ⊎ (slice_get (settled_at links place) k ≡ option_map settled_link (slice_get links k))
here_or_settled [] place k = inl refl
here_or_settled (l ∷ links) zero zero = inr refl
here_or_settled (l ∷ links) zero (suc k) = inl refl
here_or_settled (l ∷ links) (suc place) zero = inl (ap (λ (rest : List LinkState). slice_get rest 0) (further l links place))
here_or_settled (l ∷ links) (suc place) (suc k) =
    let at = ap (λ (rest : List LinkState). slice_get rest (suc k)) (further l links place) in
    elim (here_or_settled links place k) [ inl same ↦ inl (at ∙ same) | inr other ↦ inr (at ∙ other) ]

here_settled : (links : List LinkState) (place : ℕ) → slice_get (settled_at links place) place ≡ option_map settled_link (slice_get links place)
here_settled [] place = refl
here_settled (l ∷ links) zero = refl
here_settled (l ∷ links) (suc place) = ap (λ (rest : List LinkState). slice_get rest (suc place)) (further l links place) ∙ here_settled links place

abbrev IsFixed : List LinkState → ℕ → Type 0
IsFixed links k = option_map settled_link (slice_get links k) ≡ slice_get links k

option_twice : (o : Option LinkState) → option_map settled_link (option_map settled_link o) ≡ option_map settled_link o
option_twice None = refl
option_twice (Some l) = ap Some (settled_twice l)

now_fixed : (links : List LinkState) (place : ℕ) → IsFixed (settled_at links place) place
now_fixed links place = ap (option_map settled_link) (here_settled links place) ∙ option_twice (slice_get links place) ∙ sym (here_settled links place)

still_fixed : (links : List LinkState) (place k : ℕ) → IsFixed links k → IsFixed (settled_at links place) k
still_fixed links place k h =
    elim (here_or_settled links place k) [
      | inl same ↦ ap (option_map settled_link) same ∙ h ∙ sym same
      | inr other ↦ ap (option_map settled_link) other ∙ option_twice (slice_get links k) ∙ sym other
    ]

all_fixed : (links : List LinkState) → ((k : ℕ) → k < length links → IsFixed links k) → map settled_link links ≡ links
all_fixed [] h = refl
all_fixed (l ∷ links) h = cons (same_Some (settled_link l) l (h zero (omega arith))) (all_fixed links (λ k less. h (suc k) (omega (arith, less))))
  where
    cons : {k m : LinkState} {ks ms : List LinkState} → k ≡ m → ks ≡ ms → k ∷ ks ≡ m ∷ ms
    cons e f = cc

settled_in_turn : (order : List ℕ) (links : List LinkState) → ((k : ℕ) → k < length links → Contains order k ⊎ IsFixed links k) → fold settled_at links order ≡ map settled_link links
settled_in_turn [] links h = sym (all_fixed links (λ k less. fixed k (h k less)))
  where
    fixed : (k : ℕ) → Contains [] k ⊎ IsFixed links k → IsFixed links k
    fixed k (inl has) = absurd (Contains-nothing k has)
    fixed k (inr is) = is
settled_in_turn (place ∷ order) links h =
    settled_in_turn order (settled_at links place) (λ k less. of k (h k (omega (arith, less, settled_long links place)))) ∙ settled_same links place
  where
    of : (k : ℕ) → Contains (place ∷ order) k ⊎ IsFixed links k → Contains order k ⊎ IsFixed (settled_at links place) k
    of k (inl has) = elim (Contains-cases place k order has) [ inl same ↦ inr (subst (IsFixed (settled_at links place)) same (now_fixed links place)) | inr later ↦ inl later ]
    of k (inr is) = inr (still_fixed links place k is)

pub any_order : OrderDoesNotMatter
any_order links order h = settled_in_turn order links (λ k less. inl (h k less))
