-- What a step keeps of the relation that moves an interrupt to its actor's interface or from it, or changes what is there of one.
use Rattle.std.proofs.Common.{◌≡◌, ◌≢◌, ℕ, ◌<◌, ◌||◌, not, IsTrue, List, [], map, length, slice_set, Some, None, refl, sym, ap, ◌∙◌, subst, arith}
use Rattle.std.specs.List.{list_all}
use Rattle.std.specs.Option.{ForSome}
use Rattle.std.proofs.lemmas.List.{get_or-set_same, get_or-set_other, length-set}
use Rattle.law_lines_translate.specs.Words.{Key, GuestShape, has_interrupt, IsShape, Irq, irq_of}
use Rattle.law_lines_translate.specs.Histories.{irq_at, cpu_at, Ideal, Standing, standing_at, with_irq, with_standing}
use Rattle.law_lines_translate.specs.Core.{AtIrq, Local, WordId, Irq as IrqWord, Vcpu, Queue, Ctlr, Plain, Index, Line, actor_count, entry_for, place_of_word, CoreState, Seat, IsSound}
use Rattle.law_lines_translate.proofs.PortCore.FrameLemmas.{seat_changed}
use Rattle.law_core_is_history.specs.Related.{bare, IsHeldRelated, IsIrqRelated, IsCpuRelated, WordSays, Related, locals_of, stands, is_folding}
use Rattle.law_core_is_history.proofs.CauseSteps.{irq_here, says_elsewhere, places_changed}
use Rattle.law_core_is_history.proofs.RelatedLemmas.{locals_after, frame, HasPlaces, places_of}

-- The word of an interrupt.

-- it is home, or at an interface that has this of it
pub home_related : (locals : ℕ → Local) (key : Key) (word ideal : Irq) → word.holder ≡ None → bare word ≡ ideal → IsIrqRelated locals key word ideal
home_related locals key word ideal none same = record { home = λ h. same; held = λ vcpu h. absurd (cc) }

pub held_related : (locals : ℕ → Local) (key : Key) (actor : ℕ) (local : Local) (entry : AtIrq) (word ideal : Irq) → locals actor ≡ local → word.holder ≡ Some actor → entry_for key local.at ≡ Some entry → IsHeldRelated actor entry word ideal → IsIrqRelated locals key word ideal
held_related locals key actor local entry word ideal here held at says = record {
  home = λ h. absurd (cc);
  held = λ vcpu h one e.
      let same : actor ≡ vcpu = cc in
      let found : entry_for key local.at ≡ Some one = ap (λ l. entry_for key l.at) (sym here) ∙ ap (λ n. entry_for key (locals n).at) same ∙ e in
      let entry_is : entry ≡ one = cc in
      subst (λ n. IsHeldRelated n one word ideal) same (subst (λ x. IsHeldRelated actor x word ideal) entry_is says);
}

-- one says the same of vCPUs that have the same of the interrupt
pub irq_kept : (before after : ℕ → Local) (key : Key) (word ideal : Irq) → ((vcpu : ℕ) → entry_for key (after vcpu).at ≡ entry_for key (before vcpu).at) → IsIrqRelated before key word ideal → IsIrqRelated after key word ideal
irq_kept before after key word ideal same related = record {
  home = related.home;
  held = λ vcpu h. subst (λ o. ForSome o (λ one. IsHeldRelated vcpu one word ideal)) (sym (same vcpu)) (related.held vcpu h);
}

-- so does each other word
pub says_but : (shape : GuestShape) (before after : ℕ → Local) (key : Key) (ideal : Ideal) → ((k : Key) → k ≢ key → (vcpu : ℕ) → entry_for k (after vcpu).at ≡ entry_for k (before vcpu).at) → (w : WordId) (n : ℕ) → w ≢ IrqWord key → WordSays shape before ideal w n → WordSays shape after ideal w n
says_but shape before after key ideal same (IrqWord k) n differ says = irq_kept before after k (irq_of n) (irq_at ideal.guest k) (same k (λ e. differ (ap IrqWord e))) says
says_but shape before after key ideal same (Vcpu vcpu) n differ says = says
says_but shape before after key ideal same Queue n differ says = says
says_but shape before after key ideal same Ctlr n differ says = says
says_but shape before after key ideal same (Plain index) n differ says = says
says_but shape before after key ideal same (Index vcpu number) n differ says = says
says_but shape before after key ideal same (Line number) n differ says = says

-- what each vCPU has of an interrupt, once one has the same of it
pub entry_kept : (state : CoreState) (actor : ℕ) (seat : Seat) (key : Key) → actor < length state.seats → entry_for key seat.local.at ≡ entry_for key (locals_of state actor).at → (vcpu : ℕ) → entry_for key (locals_after state actor seat vcpu).at ≡ entry_for key (locals_of state vcpu).at
entry_kept state actor seat key there same vcpu = seat_changed state.seats actor vcpu seat (λ n s. entry_for key s.local.at ≡ entry_for key (locals_of state n).at) there same (λ differ. refl)

-- The ideal controller with others at an interface.

module _ (shape : GuestShape) (ideal : Ideal) (vcpu : ℕ) (standing : List Standing) (places : HasPlaces shape ideal) where
  pub standing_places : HasPlaces shape (with_standing ideal vcpu standing)
  standing_places = record { shape_is = places.shape_is; irqs = places.irqs; cpus = places.cpus; words = places.words; at = length-set ideal.at vcpu standing ∙ places.at }

  pub standing_here : vcpu < shape.vcpus → standing_at (with_standing ideal vcpu standing) vcpu ≡ standing
  standing_here there = get_or-set_same ideal.at vcpu standing [] (omega (arith, there, places.at))

  pub standing_other : (other : ℕ) → other ≢ vcpu → standing_at (with_standing ideal vcpu standing) other ≡ standing_at ideal other
  standing_other other differ = get_or-set_other ideal.at vcpu other standing [] differ

  -- each word says the same
  pub standing_elsewhere : (locals : ℕ → Local) (w : WordId) (n : ℕ) → WordSays shape locals ideal w n → WordSays shape locals (with_standing ideal vcpu standing) w n
  standing_elsewhere locals (IrqWord k) n says = says
  standing_elsewhere locals (Vcpu other) n says = says
  standing_elsewhere locals Queue n says = record { turn = says.turn; offset = says.offset; stalled = says.stalled }
  standing_elsewhere locals Ctlr n says = record { enables = says.enables; spreads = says.spreads }
  standing_elsewhere locals (Plain index) n says = says
  standing_elsewhere locals (Index other number) n says = tt
  standing_elsewhere locals (Line number) n says = tt

-- and with another record of an interrupt
abbrev pub with_move : Key → Irq → ℕ → List Standing → Ideal → Ideal
with_move key irq vcpu standing ideal = with_standing (with_irq ideal key irq) vcpu standing

-- Moves.

-- a step on the word of an interrupt that changes nothing of the other interrupts at its actor's interface: what the word says then, and what the
-- ideal controller has
pub record IsMove (shape : GuestShape) (state : CoreState) (actor : ℕ) (seat : Seat) (key : Key) (left : ℕ) (irq : Irq) (standing : List Standing) : Type 0 where
  pub here : IsIrqRelated (locals_after state actor seat) key (irq_of left) irq
  pub others : (k : Key) → k ≢ key → entry_for k seat.local.at ≡ entry_for k (locals_of state actor).at
  pub at : standing ≡ map stands seat.local.at
  pub cpu : seat.local.cpu ≡ (locals_of state actor).cpu
  pub given : IsTrue (is_folding seat.local.phase || list_all (λ at. not at.given) seat.local.at)

module _ (shape : GuestShape) (state : CoreState) (ideal : Ideal) (actor : ℕ) (seat : Seat) (key : Key) (left : ℕ) (irq : Irq) (standing : List Standing) (is : IsShape shape) (sound : IsSound shape state) (related : Related shape state ideal) (there : actor < shape.vcpus)
    (has : IsTrue (has_interrupt shape key)) (move : IsMove shape state actor seat key left irq standing) where
  among : actor < actor_count shape
  among = omega (arith, there)

  kept : (k : Key) → k ≢ key → (vcpu : ℕ) → entry_for k (locals_after state actor seat vcpu).at ≡ entry_for k (locals_of state vcpu).at
  kept k differ = entry_kept state actor seat k (subst (λ n. actor < n) (sym sound.actors) among) (move.others k differ)

  cpu_kept : IsCpuRelated seat.local.cpu (cpu_at ideal.guest actor)
  cpu_kept = subst (λ own. IsCpuRelated own (cpu_at ideal.guest actor)) (sym move.cpu) (related.seats actor there).cpu

  -- where an event of the ideal controller moves it
  pub moved : Related shape (record { words = slice_set state.words (place_of_word shape (IrqWord key)) left; seats = slice_set state.seats actor seat; maps = state.maps }) (with_move key irq actor standing ideal)
  moved =
      let places = places_of shape state ideal related in
      let changed = places_changed shape key (λ before. irq) ideal is has places in
      frame shape state ideal (with_move key irq actor standing ideal) actor seat (IrqWord key) left state.maps is sound related among has
      (record {
        here = subst (IsIrqRelated (locals_after state actor seat) key (irq_of left)) (sym (irq_here shape key (λ before. irq) ideal is has places)) move.here;
        elsewhere = λ w n differ h says.
            standing_elsewhere shape (with_irq ideal key irq) actor standing changed (locals_after state actor seat) w n
            (says_elsewhere shape key (λ before. irq) ideal is has places (locals_after state actor seat) (locals_after state actor seat) (λ vcpu. refl) w n differ (says_but shape (locals_of state) (locals_after state actor seat) key ideal kept w n differ says));
        mine = λ l. record { at = standing_here shape (with_irq ideal key irq) actor standing changed there ∙ move.at; cpu = cpu_kept; given = move.given };
        others = λ vcpu local differ l says. record { at = standing_other shape (with_irq ideal key irq) actor standing changed vcpu differ ∙ says.at; cpu = says.cpu; given = says.given };
      })
      related.maps (standing_places shape (with_irq ideal key irq) actor standing changed)

  -- and where the ideal controller does nothing
  pub unmoved : irq_at ideal.guest key ≡ irq → standing_at ideal actor ≡ standing
      → Related shape (record { words = slice_set state.words (place_of_word shape (IrqWord key)) left; seats = slice_set state.seats actor seat; maps = state.maps }) ideal
  unmoved same stays =
      frame shape state ideal ideal actor seat (IrqWord key) left state.maps is sound related among has
      (record {
        here = subst (IsIrqRelated (locals_after state actor seat) key (irq_of left)) (sym same) move.here;
        elsewhere = λ w n differ h says. says_but shape (locals_of state) (locals_after state actor seat) key ideal kept w n differ says;
        mine = λ l. record { at = stays ∙ move.at; cpu = cpu_kept; given = move.given };
        others = λ vcpu local differ l says. says;
      })
      related.maps (places_of shape state ideal related)
