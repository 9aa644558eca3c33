-- Claims: an interrupt gets to an interface, or brings its causes to one that has it.
use Rattle.std.proofs.Common.{◌≡◌, ℕ, ◌<◌, ◌==◌, ◌&&◌, ◌||◌, not, Bool, true, false, cond, is_none, is_some, nat_lt, IsTrue, List, [], ◌∷◌, ◌++◌, map, length, Option, option_map, Some, None, refl, sym, ap, ◌∙◌, subst, arith}
use Rattle.std.specs.List.{list_all}
use Rattle.std.specs.Option.{option_map_or}
use Rattle.std.proofs.lemmas.Bool.{and_parts, and_from, ltb-true}
use Rattle.std.proofs.lemmas.List.{map-append}
use Rattle.std.proofs.lemmas.List.Folds.{list_all-append}
use Rattle.law_lines_translate.specs.Words.{Key, Private, Spi, Lpi, GuestShape, has_interrupt, is_of_vcpu, G0, G1, Irq, cleared, is_number, is_ripe, irq_of, packed, IsIrq}
use Rattle.law_lines_translate.specs.GicWord.declared.record.Group.{Group}
use Rattle.law_lines_translate.specs.Registers.{CpuRec, is_group_enabled, takes_kind, is_deliverable, Maps}
use Rattle.law_lines_translate.specs.Calls.{Take, Reach, Entry, Moved, may_reach, may_take, reached, taken}
use Rattle.law_lines_translate.specs.Histories.{irq_at, cpu_at, Ideal, Standing, standing_at, is_home, with_irq, with_standing, with_entry as with_entry_of}
use Rattle.law_lines_translate.specs.Core.{AtIrq, Local, Claim, may_hold, may_move, moved_of, given_back, is_vcpu, entry_for, back_of, changed_at, with_entry, arrived, settled, CoreState, Seat, seat_at, silent}
use Rattle.law_lines_translate.proofs.GicBase.KeyLemmas.{other_key}
use Rattle.law_lines_translate.proofs.PortCore.StepMade.{all_three}
use Rattle.law_lines_translate.proofs.PortCore.StepTies.{number_is, none_is}
use Rattle.law_lines_translate.proofs.PortCore.StepWords.{packed_is}
use Rattle.law_core_is_history.specs.Related.{bare, IsCpuRelated, IsIrqRelated, Related, locals_of, stands, is_folding}
use Rattle.law_core_is_history.specs.Simulates.{IsSimulated, IsSimulatedAs}
use Rattle.law_core_is_history.proofs.MoveLemmas.{held_related, moved}
use Rattle.law_core_is_history.proofs.MoveSteps.{folds_or}
use Rattle.law_core_is_history.proofs.RelatedLemmas.{locals_after, local_here}
use Rattle.law_core_is_history.proofs.StandingLemmas.{not_given, changed_stands, entry_changed, entry_other, entry_added, entry_added_other, all_changed, home_is, moved_is}
use Rattle.law_core_is_history.proofs.StepContext.{one, IsStep, finds, says_found}
use Rattle.law_core_is_history.proofs.TriedSteps.{tried, left_as}

-- What a claim asks, by a copy of the interface's record that may be older.

group_by : (own cpu : CpuRec) → IsCpuRelated own cpu → (group : Group) → is_group_enabled group own ≡ true → is_group_enabled group cpu ≡ true
group_by own cpu related G0 h = ap (λ (c : CpuRec). c.en0) related.same ∙ h
group_by own cpu related G1 h = ap (λ (c : CpuRec). c.en1) related.same ∙ h

kind_by : (own cpu : CpuRec) → IsCpuRelated own cpu → (key : Key) → takes_kind key own ≡ true → takes_kind key cpu ≡ true
kind_by own cpu related (Private vcpu id) h = refl
kind_by own cpu related (Spi id) h = refl
kind_by own cpu related (Lpi id) h = related.lpis h

deliverable_by : (shape : GuestShape) (key : Key) (irq : Irq) (vcpu : ℕ) (own cpu : CpuRec) → IsCpuRelated own cpu → is_deliverable key irq vcpu own shape ≡ true → is_deliverable key irq vcpu cpu shape ≡ true
deliverable_by shape key irq vcpu own cpu related h =
    let kind = and_parts (is_ripe irq vcpu shape && is_none irq.act_by && is_group_enabled irq.group own) (takes_kind key own) h in
    let group = and_parts (is_ripe irq vcpu shape && is_none irq.act_by) (is_group_enabled irq.group own) kind.0 in
    and_from (is_ripe irq vcpu shape && is_none irq.act_by && is_group_enabled irq.group cpu) (takes_kind key cpu)
    (and_from (is_ripe irq vcpu shape && is_none irq.act_by) (is_group_enabled irq.group cpu) group.0 (group_by own cpu related irq.group group.1)) (kind_by own cpu related key kind.1)

reach_by : (shape : GuestShape) (key : Key) (irq : Irq) (vcpu : ℕ) (own cpu : CpuRec) → IsCpuRelated own cpu → may_reach shape key irq vcpu own ≡ true → may_reach shape key (bare irq) vcpu cpu ≡ true
reach_by shape key irq vcpu own cpu related h = folds_or (is_number vcpu irq.act_by) (is_deliverable key irq vcpu own shape) (is_deliverable key (bare irq) vcpu cpu shape) (deliverable_by shape key (bare irq) vcpu own cpu related) h

take_by : (shape : GuestShape) (key : Key) (irq : Irq) (entry : AtIrq) (vcpu : ℕ) (own cpu : CpuRec) → IsCpuRelated own cpu → may_take shape key (moved_of irq entry) vcpu own ≡ true → may_take shape key (moved_of (bare irq) entry) vcpu cpu ≡ true
take_by shape key irq entry vcpu own cpu related h =
    let parts = and_parts (entry.active && not entry.pending) (is_deliverable key (record irq { act_by = None }) vcpu own shape) h in
    and_from (entry.active && not entry.pending) (is_deliverable key (record (bare irq) { act_by = None }) vcpu cpu shape) parts.0 (deliverable_by shape key (record (bare irq) { act_by = None }) vcpu own cpu related parts.1)

-- Records that get to an interface.

-- the two ways to get there
abbrev gets_pending : Irq → Moved
gets_pending irq = record { irq = cleared irq; entry = record { pending = true; active = false; rise = irq.rise; soft = irq.soft } }

abbrev gets_active : Irq → Moved
gets_active irq = record { irq = irq; entry = record { pending = false; active = true; rise = false; soft = false } }

reached_either : (P : Moved → Type 0) (irq : Irq) → P (gets_pending irq) → P (gets_active irq) → P (reached irq)
reached_either P irq pends stays = of (is_none irq.act_by)
  where
    of : (b : Bool) → P (cond b (gets_pending irq) (gets_active irq))
    of true = pends
    of false = stays

reached_fits : (vcpu : ℕ) (irq : Irq) → vcpu < 32 → IsIrq irq → IsIrq (record (reached irq).irq { holder = Some vcpu })
reached_fits vcpu irq few fits =
    let is : IsIrq (record irq { holder = Some vcpu }) = record { prio = fits.prio; prio_bits = fits.prio_bits; active = fits.active; holder = few; route = fits.route } in
    reached_either (λ m. IsIrq (record m.irq { holder = Some vcpu })) irq (record { prio = is.prio; prio_bits = is.prio_bits; active = is.active; holder = is.holder; route = is.route }) is

cleared_fits : (irq : Irq) → IsIrq irq → IsIrq (cleared irq)
cleared_fits irq fits = record { prio = fits.prio; prio_bits = fits.prio_bits; active = fits.active; holder = fits.holder; route = fits.route }

-- who holds it, and who waits, does not count
reached_bare : (vcpu : ℕ) (irq : Irq) → bare (record (reached irq).irq { holder = Some vcpu }) ≡ (reached (bare irq)).irq
reached_bare vcpu irq = of (is_none irq.act_by)
  where
    of : (b : Bool) → bare (record (cond b (gets_pending irq) (gets_active irq)).irq { holder = Some vcpu }) ≡ (cond b (gets_pending (bare irq)) (gets_active (bare irq))).irq
    of true = refl
    of false = refl

reached_entry : (irq : Irq) → (reached irq).entry ≡ (reached (bare irq)).entry
reached_entry irq = of (is_none irq.act_by)
  where
    of : (b : Bool) → (cond b (gets_pending irq) (gets_active irq)).entry ≡ (cond b (gets_pending (bare irq)) (gets_active (bare irq))).entry
    of true = refl
    of false = refl

reached_prio : (irq : Irq) → (reached irq).irq.prio ≡ irq.prio
reached_prio irq = reached_either (λ m. m.irq.prio ≡ irq.prio) irq refl refl

reached_group : (irq : Irq) → (reached irq).irq.group ≡ irq.group
reached_group irq = reached_either (λ m. m.irq.group ≡ irq.group) irq refl refl

-- Claims.

-- what the vCPU has after an interrupt got to its interface, and after one brought its causes
abbrev pub with_arrived : GuestShape → ℕ → Key → Irq → Local → Local
with_arrived shape vcpu key irq local = record local { cands = settled shape vcpu key local.cands; at = local.at ++ arrived key irq (reached irq).entry ∷ [] }

abbrev pub brought : Entry → AtIrq → AtIrq
brought entry one = record (with_entry one entry) { consumed = false }

abbrev pub with_brought : GuestShape → ℕ → Key → Moved → Local → Local
with_brought shape vcpu key moved local = record local { cands = settled shape vcpu key local.cands; at = changed_at (brought moved.entry) key local.at }

-- whether a claim is allowed of an interrupt of which the vCPU has this, and what it makes of it
abbrev may_move_as : GuestShape → ℕ → Local → Key → Irq → Option AtIrq → Bool
may_move_as shape vcpu local key irq o =
    option_map_or (λ entry. is_number vcpu irq.holder && may_take shape key (moved_of irq entry) vcpu local.cpu) o (is_none irq.holder && may_reach shape key irq vcpu local.cpu && may_hold vcpu irq)

abbrev moved_as : ℕ → Irq → Option AtIrq → Moved
moved_as vcpu irq o = option_map_or (λ entry. taken (moved_of irq entry)) o (record (reached irq) { irq = record (reached irq).irq { holder = Some vcpu } })

-- nothing is given back but while the vCPU folds, with one that is not given back besides
folds_added : (b : Bool) (at : List AtIrq) (entry : AtIrq) → entry.given ≡ false → IsTrue (b || list_all (λ one. not one.given) at) → IsTrue (b || list_all (λ one. not one.given) (at ++ entry ∷ []))
folds_added b at entry here h =
    folds_or b (list_all (λ one. not one.given) at) (list_all (λ one. not one.given) (at ++ entry ∷ []))
    (λ all. list_all-append (λ one. not one.given) at (entry ∷ []) ∙ and_from (list_all (λ one. not one.given) at) (not entry.given && true) all (ap (λ g. not g && true) here)) h

module _ {shape : GuestShape} {state : CoreState} {ideal : Ideal} {actor found left : ℕ} {tables : Option Maps} (key : Key) (seen : ℕ) (is : IsStep shape state ideal actor (Claim key seen) found left tables) where
  -- of an interrupt that nobody holds
  reaches :
      entry_for key (locals_of state actor).at ≡ None → (is_none (irq_of found).holder && may_reach shape key (irq_of found) actor (locals_of state actor).cpu && may_hold actor (irq_of found)) ≡ true
      → left ≡ packed (record (reached (irq_of found)).irq { holder = Some actor })
      → IsSimulatedAs shape (left_as shape state actor (Claim key seen) left (with_arrived shape actor key (irq_of found) (locals_of state actor)) (one actor (Claim key seen) found left tables).made state.maps) ideal actor (silent (Reach key actor))
  reaches none may is_left =
      let can = all_three (is_vcpu shape actor) (is_of_vcpu actor key) (has_interrupt shape key) is.takes.can in
      let there : actor < shape.vcpus = ltb-true actor shape.vcpus can.0 in
      let few : actor < 32 = omega (arith, there, is.good.vcpus) in
      let local = locals_of state actor in
      let irq = irq_of found in
      let ideal_irq = irq_at ideal.guest key in
      let parts = all_three (is_none irq.holder) (may_reach shape key irq actor local.cpu) (may_hold actor irq) may in
      let unheld : irq.holder ≡ None = none_is irq.holder parts.0 in
      let same : bare irq ≡ ideal_irq = (says_found is).home unheld in
      let held : Irq = record (reached irq).irq { holder = Some actor } in
      let word : irq_of left ≡ held = ap irq_of is_left ∙ packed_is held (reached_fits actor irq few (finds is).valid.irq.packable) in
      let entry : AtIrq = arrived key irq (reached irq).entry in
      let seat : Seat = record { local = with_arrived shape actor key irq local; own = (seat_at state actor).own ++ (one actor (Claim key seen) found left tables).made ∷ [] } in
      let within : actor < length state.seats = subst (λ n. actor < n) (sym is.sound.actors) is.takes.actor in
      let standing : Standing = record { key = key; entry = (reached ideal_irq).entry } in
      let entries : (reached irq).entry ≡ (reached ideal_irq).entry = reached_entry irq ∙ ap (λ i. (reached i).entry) same in
      record {
        can = (can.2, there);
        allowed = and_from (is_home ideal key) (may_reach ideal.guest.shape key ideal_irq actor (cpu_at ideal.guest actor))
            (home_is is.sound is.related key can.2 (ap (λ n. (irq_of n).holder) (sym is.takes.found) ∙ unheld))
            (subst (λ s. may_reach s key ideal_irq actor (cpu_at ideal.guest actor) ≡ true) (sym is.related.shape_is)
            (subst (λ i. may_reach shape key i actor (cpu_at ideal.guest actor) ≡ true) same (reach_by shape key irq actor local.cpu (cpu_at ideal.guest actor) (is.related.seats actor there).cpu parts.1)));
        hands = refl;
        related = moved shape state ideal actor seat key left (reached ideal_irq).irq (standing_at ideal actor ++ standing ∷ []) is.good is.sound is.related there can.2
            (record {
              here = subst (λ w. IsIrqRelated (locals_after state actor seat) key w (reached ideal_irq).irq) (sym word)
                  (held_related (locals_after state actor seat) key actor seat.local entry held (reached ideal_irq).irq (local_here state actor seat within) refl (entry_added key local.at entry refl (ap is_some none))
                  (record {
                    word_is = reached_bare actor irq ∙ ap (λ i. (reached i).irq) same;
                    prio = ap (λ (i : Irq). i.prio) same ∙ sym (reached_prio ideal_irq);
                    group = ap (λ (i : Irq). i.group) same ∙ sym (reached_group ideal_irq);
                  }));
              others = λ k differ. entry_added_other k local.at entry (other_key key k (λ e. differ (sym e)));
              at = ap (λ xs. xs ++ standing ∷ []) (is.related.seats actor there).at ∙ ap (λ (e : Entry). map stands local.at ++ (record { key = key; entry = e }) ∷ []) (sym entries) ∙ sym (map-append stands local.at (entry ∷ []));
              cpu = refl;
              given = folds_added (is_folding local.phase) local.at entry refl (is.related.seats actor there).given;
            });
      }

  -- of one that the vCPU has
  brings :
      (entry : AtIrq) → entry_for key (locals_of state actor).at ≡ Some entry → (is_number actor (irq_of found).holder && may_take shape key (moved_of (irq_of found) entry) actor (locals_of state actor).cpu) ≡ true
      → left ≡ packed (taken (moved_of (irq_of found) entry)).irq
      → IsSimulatedAs shape (left_as shape state actor (Claim key seen) left (with_brought shape actor key (taken (moved_of (irq_of found) entry)) (locals_of state actor)) (one actor (Claim key seen) found left tables).made state.maps) ideal actor (silent (Take key actor))
  brings entry at may is_left =
      let can = all_three (is_vcpu shape actor) (is_of_vcpu actor key) (has_interrupt shape key) is.takes.can in
      let there : actor < shape.vcpus = ltb-true actor shape.vcpus can.0 in
      let local = locals_of state actor in
      let irq = irq_of found in
      let ideal_irq = irq_at ideal.guest key in
      let parts = and_parts (is_number actor irq.holder) (may_take shape key (moved_of irq entry) actor local.cpu) may in
      let held : irq.holder ≡ Some actor = number_is actor irq.holder parts.0 in
      let here : entry.given ≡ false = not_given entry.given (ap (λ o. option_map_or (λ (e : AtIrq). not e.given) o (nat_lt (length local.at) 16)) (sym at) ∙ is.takes.meets) in
      let says = (says_found is).held actor held entry at in
      let same : bare irq ≡ ideal_irq = says.word_is ∙ ap (λ b. cond b (given_back actor (back_of entry) ideal_irq) ideal_irq) here in
      let word : irq_of left ≡ cleared irq = ap irq_of is_left ∙ packed_is (cleared irq) (cleared_fits irq (finds is).valid.irq.packable) in
      let moved_entry : Entry = (taken (moved_of irq entry)).entry in
      let seat : Seat = record { local = with_brought shape actor key (taken (moved_of irq entry)) local; own = (seat_at state actor).own ++ (one actor (Claim key seen) found left tables).made ∷ [] } in
      let within : actor < length state.seats = subst (λ n. actor < n) (sym is.sound.actors) is.takes.actor in
      let at_is = moved_is is.sound is.related actor key entry there at in
      let entries : moved_entry ≡ (taken (moved_of ideal_irq entry)).entry = ap (λ i. (taken (moved_of i entry)).entry) same in
      record {
        can = (can.2, there);
        allowed = subst (λ o. option_map_or (λ (m : Moved). may_take ideal.guest.shape key m actor (cpu_at ideal.guest actor)) o false ≡ true) (sym at_is)
            (subst (λ s. may_take s key (moved_of ideal_irq entry) actor (cpu_at ideal.guest actor) ≡ true) (sym is.related.shape_is)
            (subst (λ i. may_take shape key (moved_of i entry) actor (cpu_at ideal.guest actor) ≡ true) same (take_by shape key irq entry actor local.cpu (cpu_at ideal.guest actor) (is.related.seats actor there).cpu parts.1)));
        hands = refl;
        related = subst
            (λ o. Related shape (left_as shape state actor (Claim key seen) left (with_brought shape actor key (taken (moved_of irq entry)) local) (one actor (Claim key seen) found left tables).made state.maps)
            (option_map_or (λ (m : Moved). with_standing (with_irq ideal key (taken m).irq) actor (with_entry_of key (taken m).entry (standing_at ideal actor))) o ideal)) (sym at_is)
            (moved shape state ideal actor seat key left (cleared ideal_irq) (with_entry_of key (taken (moved_of ideal_irq entry)).entry (standing_at ideal actor)) is.good is.sound is.related there can.2
            (record {
              here = subst (λ w. IsIrqRelated (locals_after state actor seat) key w (cleared ideal_irq)) (sym word)
                  (held_related (locals_after state actor seat) key actor seat.local (brought moved_entry entry) (cleared irq) (cleared ideal_irq) (local_here state actor seat within) held
                  (entry_changed (brought moved_entry) (λ one. refl) key local.at ∙ ap (option_map (brought moved_entry)) at)
                  (record {
                    word_is = ap cleared same ∙ sym (ap (λ b. cond b (given_back actor (back_of (brought moved_entry entry)) (cleared ideal_irq)) (cleared ideal_irq)) here);
                    prio = says.prio;
                    group = says.group;
                  }));
              others = λ k differ. entry_other (brought moved_entry) (λ one. refl) key k differ local.at;
              at = ap (with_entry_of key (taken (moved_of ideal_irq entry)).entry) (is.related.seats actor there).at ∙ ap (λ e. with_entry_of key e (map stands local.at)) (sym entries)
                  ∙ sym (changed_stands (brought moved_entry) moved_entry (λ one. refl) key local.at);
              cpu = refl;
              given = ap (λ b. is_folding local.phase || b) (all_changed (λ one. not one.given) (brought moved_entry) (λ one. refl) key local.at) ∙ (is.related.seats actor there).given;
            }));
      }

  -- a claim: nothing where it fails
  pub simulates_claim : IsSimulated shape state ideal (one actor (Claim key seen) found left tables)
  simulates_claim = tried (Claim key seen) is refl
      (λ done is_left. of (entry_for key (locals_of state actor).at) refl (and_parts (found == seen) (may_move shape actor (locals_of state actor) key (irq_of found)) done).1 is_left)
    where
      of : (o : Option AtIrq) → entry_for key (locals_of state actor).at ≡ o → may_move_as shape actor (locals_of state actor) key (irq_of found) o ≡ true → left ≡ packed (moved_as actor (irq_of found) o).irq
          → IsSimulatedAs shape
          (left_as shape state actor (Claim key seen) left
          (record (locals_of state actor) {
            cands = settled shape actor key (locals_of state actor).cands;
            at = cond (is_some o) (changed_at (brought (moved_as actor (irq_of found) o).entry) key (locals_of state actor).at) ((locals_of state actor).at ++ arrived key (irq_of found) (moved_as actor (irq_of found) o).entry ∷ []);
          })
          (one actor (Claim key seen) found left tables).made state.maps) ideal actor (silent (cond (is_some o) (Take key actor) (Reach key actor)))
      of None e may is_left = reaches e may is_left
      of (Some entry) e may is_left = brings entry e may is_left
