-- Steps that move an interrupt to an interface, give back what is there, and release it.
use Rattle.std.proofs.Common.{◌≡◌, ℕ, ◌<◌, ◌||◌, not, Bool, true, false, cond, is_some, IsTrue, [], ◌∷◌, ◌++◌, length, Option, option_map, Some, None, refl, sym, ap, ◌∙◌, subst, arith}
use Rattle.std.specs.List.{list_all}
use Rattle.std.specs.Option.{option_map_or}
use Rattle.std.proofs.lemmas.Bool.{and_parts, ltb-true}
use Rattle.law_lines_translate.specs.Words.{Back, Key, GuestShape, has_interrupt, Irq, irq_of, IsIrq, IsSeat}
use Rattle.law_lines_translate.specs.Calls.{Moved, left as left_of}
use Rattle.law_lines_translate.specs.Registers.{Maps}
use Rattle.law_lines_translate.specs.Histories.{irq_at, Ideal, standing_at, with_irq, with_standing, without}
use Rattle.law_lines_translate.specs.Core.{AtIrq, GiveBack, Release, given_at, release_at, given_back, released, is_active_at, is_vcpu, entry_of, back_of, without_at, CoreState, Seat, seat_at, after}
use Rattle.law_lines_translate.proofs.PortCore.StepTies.{number_is}
use Rattle.law_lines_translate.proofs.PortCore.StepWords.{packed_is}
use Rattle.law_core_is_history.specs.Related.{bare, IsIrqRelated, Related, locals_of, is_folding}
use Rattle.law_core_is_history.specs.Simulates.{IsSimulated}
use Rattle.law_core_is_history.proofs.RelatedLemmas.{locals_after, local_here}
use Rattle.law_core_is_history.proofs.MoveLemmas.{home_related, held_related, moved, unmoved}
use Rattle.law_core_is_history.proofs.StandingLemmas.{without_stands, unseen_stands, entry_changed, entry_other, all_without, moved_is}
use Rattle.law_lines_translate.proofs.CoreProper.OnceLemmas.{entry_without}
use Rattle.law_core_is_history.proofs.StepContext.{one, IsStep, finds, says_found}

-- Records that words can have.

given_fits : (vcpu : ℕ) (back : Back) (irq : Irq) → vcpu < 32 → IsIrq irq → IsIrq (given_back vcpu back irq)
given_fits vcpu back irq few fits = record { prio = fits.prio; prio_bits = fits.prio_bits; active = of back.active; holder = fits.holder; route = fits.route }
  where
    of : (b : Bool) → IsSeat (cond b (Some vcpu) irq.act_by)
    of true = few
    of false = fits.active

released_fits : (active : Bool) (irq : Irq) → IsIrq irq → IsIrq (released active irq)
released_fits active irq fits = record { prio = fits.prio; prio_bits = fits.prio_bits; active = of active; holder = tt; route = fits.route }
  where
    of : (b : Bool) → IsSeat (cond b irq.act_by None)
    of true = fits.active
    of false = tt

-- what was given back and is released is what leaves
released_left : (vcpu : ℕ) (entry : AtIrq) (irq ideal : Irq) → bare irq ≡ given_back vcpu (back_of entry) ideal → bare (released entry.active irq) ≡ left_of vcpu (record { irq = ideal; entry = entry_of entry })
released_left vcpu entry irq ideal same = ap (λ (i : Irq). let after : Irq = record i { act_by = cond entry.active i.act_by None } in after) same ∙ of entry.active
  where
    of : (b : Bool) → (let given : Irq = given_back vcpu (record { rise = entry.rise; soft = entry.soft; active = b }) ideal in record given { act_by = cond b given.act_by None })
        ≡ left_of vcpu (record { irq = ideal; entry = record { pending = entry.pending; active = b; rise = entry.rise; soft = entry.soft } })
    of true = refl
    of false = refl

-- what holds of all but while the vCPU folds, and what follows from it
pub folds_or : (b x y : Bool) → (IsTrue x → IsTrue y) → IsTrue (b || x) → IsTrue (b || y)
folds_or true x y more h = refl
folds_or false x y more h = more h

module _ {shape : GuestShape} {state : CoreState} {ideal : Ideal} {actor found left : ℕ} {tables : Option Maps} where
  -- what an interface has of an interrupt is given back
  pub simulates_give_back : (key : Key) (back : Back) → IsStep shape state ideal actor (GiveBack key back) found left tables → IsSimulated shape state ideal (one actor (GiveBack key back) found left tables)
  simulates_give_back key back is =
      let can = and_parts (is_vcpu shape actor) (has_interrupt shape key) is.takes.can in
      let there : actor < shape.vcpus = ltb-true actor shape.vcpus can.0 in
      let few : actor < 32 = omega (arith, there, is.good.vcpus) in
      let local = locals_of state actor in
      let irq = irq_of found in
      let entry = is.takes.meets.entry in
      let change : AtIrq → AtIrq = λ one. record one { given = true } in
      let seat : Seat = record { local = given_at key local; own = (seat_at state actor).own ++ (one actor (GiveBack key back) found left tables).made ∷ [] } in
      let within : actor < length state.seats = subst (λ n. actor < n) (sym is.sound.actors) is.takes.actor in
      let held : irq.holder ≡ Some actor = number_is actor irq.holder ((finds is).ties ∙ ap is_some is.takes.meets.at) in
      let word : irq_of left ≡ given_back actor back irq = ap irq_of is.takes.left ∙ packed_is (given_back actor back irq) (given_fits actor back irq few (finds is).valid.irq.packable) in
      let says = (says_found is).held actor held entry is.takes.meets.at in
      let same : bare irq ≡ irq_at ideal.guest key = says.word_is ∙ ap (λ b. cond b (given_back actor (back_of entry) (irq_at ideal.guest key)) (irq_at ideal.guest key)) is.takes.meets.here in
      unmoved shape state ideal actor seat key left (irq_at ideal.guest key) (standing_at ideal actor) is.good is.sound is.related there can.1
      (record {
        here = subst (λ w. IsIrqRelated (locals_after state actor seat) key w (irq_at ideal.guest key)) (sym word)
            (held_related (locals_after state actor seat) key actor seat.local (change entry) (given_back actor back irq) (irq_at ideal.guest key) (local_here state actor seat within) held
            (entry_changed change (λ one. refl) key local.at ∙ ap (option_map change) is.takes.meets.at)
            (record { word_is = ap (λ b. bare (given_back actor b irq)) is.takes.meets.whole ∙ ap (given_back actor (back_of entry)) same; prio = says.prio; group = says.group }));
        others = λ k differ. entry_other change (λ one. refl) key k differ local.at;
        at = (is.related.seats actor there).at ∙ sym (unseen_stands change (λ one. refl) key local.at);
        cpu = refl;
        given = refl;
      })
      refl refl

  -- an interrupt is released
  pub simulates_release : (key : Key) → IsStep shape state ideal actor (Release key) found left tables → IsSimulated shape state ideal (one actor (Release key) found left tables)
  simulates_release key is =
      let can = and_parts (is_vcpu shape actor) (has_interrupt shape key) is.takes.can in
      let there : actor < shape.vcpus = ltb-true actor shape.vcpus can.0 in
      let local = locals_of state actor in
      let irq = irq_of found in
      let entry = is.takes.meets.entry in
      let ideal_irq = irq_at ideal.guest key in
      let active = is_active_at key local in
      let seat : Seat = record { local = release_at shape actor key irq active local; own = (seat_at state actor).own ++ (one actor (Release key) found left tables).made ∷ [] } in
      let leaving : Moved = record { irq = ideal_irq; entry = entry_of entry } in
      let at_is = moved_is is.sound is.related actor key entry there is.takes.meets.at in
      let held : irq.holder ≡ Some actor = number_is actor irq.holder ((finds is).ties ∙ ap is_some is.takes.meets.at) in
      let word : irq_of left ≡ released active irq = ap irq_of is.takes.left ∙ packed_is (released active irq) (released_fits active irq (finds is).valid.irq.packable) in
      let says = (says_found is).held actor held entry is.takes.meets.at in
      let same : bare irq ≡ given_back actor (back_of entry) ideal_irq = says.word_is ∙ ap (λ b. cond b (given_back actor (back_of entry) ideal_irq) ideal_irq) is.takes.meets.given in
      let active_is : active ≡ entry.active = ap (λ o. option_map_or (λ (one : AtIrq). one.active) o false) is.takes.meets.at in
      record {
        can = (can.1, there);
        allowed = ap is_some at_is;
        hands = refl;
        related = subst
            (λ o. Related shape (after shape state (one actor (Release key) found left tables)) (option_map_or (λ moved. with_standing (with_irq ideal key (left_of actor moved)) actor (without key (standing_at ideal actor))) o ideal)) (sym at_is)
            (moved shape state ideal actor seat key left (left_of actor leaving) (without key (standing_at ideal actor)) is.good is.sound is.related there can.1
            (record {
              here = subst (λ w. IsIrqRelated (locals_after state actor seat) key w (left_of actor leaving)) (sym word)
                  (home_related (locals_after state actor seat) key (released active irq) (left_of actor leaving) refl (ap (λ a. bare (released a irq)) active_is ∙ released_left actor entry irq ideal_irq same));
              others = λ k differ. entry_without key k differ local.at;
              at = ap (without key) (is.related.seats actor there).at ∙ sym (without_stands key local.at);
              cpu = refl;
              given = folds_or (is_folding local.phase) (list_all (λ one. not one.given) local.at) (list_all (λ one. not one.given) (without_at key local.at)) (all_without (λ one. not one.given) key local.at) (is.related.seats actor there).given;
            }));
      }
