-- Steps that change the record of an interrupt wherever it is: a cause comes or goes.
use Rattle.std.proofs.Common.{◌≡◌, ◌≢◌, ℕ, ◌<◌, Bool, true, false, cond, IsTrue, Option, refl, sym, ap, ◌∙◌, subst, length, slice_set}
use Rattle.law_lines_translate.specs.Words.{Back, Key, GuestShape, has_interrupt, interrupt_count, IsShape, Irq, raised, wire_up, wire_down, irq_of, IsIrq}
use Rattle.law_histories.proofs.GicOpen.KeyLemmas.{irq_same as same_place, irq_other as other_place, length-with_irq_in}
use Rattle.law_lines_translate.specs.Registers.{Maps}
use Rattle.law_lines_translate.specs.Histories.{irq_at, changed_irq, Ideal}
use Rattle.law_lines_translate.specs.Core.{AtIrq, Local, Raise, WireUp, WireDown, WordId, Irq as IrqWord, Vcpu, Queue, Ctlr, Plain, Index, Line, actor_count, local_after, given_back, changed, back_of, place_of_word, CoreState, Seat, IsSound}
use Rattle.law_lines_translate.proofs.PortCore.StepWords.{packed_is}
use Rattle.law_core_is_history.specs.Related.{bare, IsIrqRelated, WordSays, SeatSays, Related, locals_of}
use Rattle.law_core_is_history.specs.Simulates.{IsSimulated}
use Rattle.law_core_is_history.proofs.RelatedLemmas.{locals_after, at_kept, irq_same, frame, HasPlaces, places_of}
use Rattle.law_core_is_history.proofs.StepContext.{one, IsStep, has, finds, says_found, seat_same}

-- the ideal controller with a change of an interrupt's record
abbrev pub with_change : Key → (Irq → Irq) → Ideal → Ideal
with_change key change ideal = record ideal { guest = changed_irq key change ideal.guest }

module _ (shape : GuestShape) (key : Key) (change : Irq → Irq) (ideal : Ideal) (is : IsShape shape) (there : IsTrue (has_interrupt shape key)) (places : HasPlaces shape ideal) where
  -- the record of the interrupt, and of every other one
  pub irq_here : irq_at (with_change key change ideal).guest key ≡ change (irq_at ideal.guest key)
  irq_here = same_place ideal.guest.shape key (change (irq_at ideal.guest key)) ideal.guest.irqs (good) (places.irqs ∙ ap interrupt_count (sym places.shape_is)) here
    where
      good : IsShape ideal.guest.shape
      good = subst IsShape (sym places.shape_is) is

      here : IsTrue (has_interrupt ideal.guest.shape key)
      here = subst (λ s. IsTrue (has_interrupt s key)) (sym places.shape_is) there

  pub irq_elsewhere : (other : Key) → other ≢ key → irq_at (with_change key change ideal).guest other ≡ irq_at ideal.guest other
  irq_elsewhere other differ = other_place ideal.guest.shape key other (change (irq_at ideal.guest key)) ideal.guest.irqs (subst IsShape (sym places.shape_is) is) (λ e. differ (sym e))

  pub places_changed : HasPlaces shape (with_change key change ideal)
  places_changed = record {
    shape_is = places.shape_is;
    irqs = length-with_irq_in ideal.guest.shape key (change (irq_at ideal.guest key)) ideal.guest.irqs ∙ places.irqs;
    cpus = places.cpus;
    words = places.words;
    at = places.at;
  }

  -- every other word says the same
  pub says_elsewhere : (before after : ℕ → Local) → ((actor : ℕ) → (after actor).at ≡ (before actor).at) → (w : WordId) (n : ℕ) → w ≢ IrqWord key → WordSays shape before ideal w n → WordSays shape after (with_change key change ideal) w n
  says_elsewhere before after same (IrqWord k) n differ says =
      subst (IsIrqRelated after k (irq_of n)) (sym (irq_elsewhere k (λ e. differ (ap IrqWord e)))) (irq_same shape before after same k (irq_of n) (irq_at ideal.guest k) says)
  says_elsewhere before after same (Vcpu vcpu) n differ says = says
  says_elsewhere before after same Queue n differ says = record { turn = says.turn; offset = says.offset; stalled = says.stalled }
  says_elsewhere before after same Ctlr n differ says = record { enables = says.enables; spreads = says.spreads }
  says_elsewhere before after same (Plain index) n differ says = record { stored = says.stored; fault = says.fault }
  says_elsewhere before after same (Index vcpu number) n differ says = tt
  says_elsewhere before after same (Line number) n differ says = tt

  -- each interface is the same
  pub seat_changed_irq : (vcpu : ℕ) (local : Local) → SeatSays ideal vcpu local → SeatSays (with_change key change ideal) vcpu local
  seat_changed_irq vcpu local says = record { at = says.at; cpu = says.cpu; given = says.given }

-- a change of a record that goes its way whatever an interface has given back, and leaves what the interface has copies of
pub record IsCause (change : Irq → Irq) : Type 0 where
  pub given : (vcpu : ℕ) (back : Back) (irq : Irq) → change (given_back vcpu back irq) ≡ given_back vcpu back (change irq)
  pub bared : (irq : Irq) → bare (change irq) ≡ change (bare irq)
  pub prio : (irq : Irq) → (change irq).prio ≡ irq.prio
  pub group : (irq : Irq) → (change irq).group ≡ irq.group
  pub holder : (irq : Irq) → (change irq).holder ≡ irq.holder

pub cause_related : (change : Irq → Irq) (locals : ℕ → Local) (key : Key) (word ideal : Irq) → IsCause change → IsIrqRelated locals key word ideal → IsIrqRelated locals key (change word) (change ideal)
cause_related change locals key word ideal cause related = record {
  home = λ h. cause.bared word ∙ ap change (related.home (sym (cause.holder word) ∙ h));
  held = λ vcpu h at e.
      let says = related.held vcpu (sym (cause.holder word) ∙ h) at e in
      record {
        word_is = cause.bared word ∙ ap change says.word_is ∙ of vcpu at at.given;
        prio = says.prio ∙ sym (cause.prio ideal);
        group = says.group ∙ sym (cause.group ideal);
      };
}
  where
    of : (vcpu : ℕ) (at : AtIrq) (given : Bool) → change (cond given (given_back vcpu (back_of at) ideal) ideal) ≡ cond given (given_back vcpu (back_of at) (change ideal)) (change ideal)
    of vcpu at true = cause.given vcpu (back_of at) ideal
    of vcpu at false = refl

-- a step on an interrupt's word that moves nothing, and an event that changes its record
pub irq_event :
    (shape : GuestShape) (state : CoreState) (ideal : Ideal) (actor : ℕ) (seat : Seat) (key : Key) (change : Irq → Irq) (left : ℕ) → IsShape shape → IsSound shape state → Related shape state ideal → actor < actor_count shape
    → IsTrue (has_interrupt shape key) → IsIrqRelated (locals_of state) key (irq_of left) (change (irq_at ideal.guest key)) → seat.local.at ≡ (locals_of state actor).at → (actor < shape.vcpus → SeatSays ideal actor seat.local)
    → Related shape (record { words = slice_set state.words (place_of_word shape (IrqWord key)) left; seats = slice_set state.seats actor seat; maps = state.maps }) (with_change key change ideal)
irq_event shape state ideal actor seat key change left is sound related there has says at mine =
    let within : actor < length state.seats = subst (λ n. actor < n) (sym sound.actors) there in
    let places = places_of shape state ideal related in
    let same = at_kept state actor seat within at in
    frame shape state ideal (with_change key change ideal) actor seat (IrqWord key) left state.maps is sound related there has
    (record {
      here = irq_same shape (locals_of state) (locals_after state actor seat) same key (irq_of left) _ (subst (IsIrqRelated (locals_of state) key (irq_of left)) (sym (irq_here shape key change ideal is has places)) says);
      elsewhere = λ w n differ h says. says_elsewhere shape key change ideal is has places (locals_of state) (locals_after state actor seat) same w n differ says;
      mine = λ l. seat_changed_irq shape key change ideal is has places actor seat.local (mine l);
      others = λ vcpu local differ l says. seat_changed_irq shape key change ideal is has places vcpu local says;
    })
    related.maps (places_changed shape key change ideal is has places)

raised_cause : IsCause raised
raised_cause = record { given = λ vcpu back irq. refl; bared = λ irq. refl; prio = λ irq. refl; group = λ irq. refl; holder = λ irq. refl }

up_cause : IsCause wire_up
up_cause = record { given = λ vcpu back irq. refl; bared = λ irq. refl; prio = λ irq. refl; group = λ irq. refl; holder = λ irq. refl }

down_cause : IsCause wire_down
down_cause = record { given = λ vcpu back irq. refl; bared = λ irq. refl; prio = λ irq. refl; group = λ irq. refl; holder = λ irq. refl }

-- the word after a change that keeps the record one that a word can have
changed_word : (change : Irq → Irq) (found left : ℕ) → left ≡ changed change found → IsIrq (change (irq_of found)) → irq_of left ≡ change (irq_of found)
changed_word change found left is fits = ap irq_of is ∙ packed_is (change (irq_of found)) fits

module _ {shape : GuestShape} {state : CoreState} {ideal : Ideal} {actor found left : ℕ} {tables : Option Maps} where
  -- an interrupt is made pending
  pub simulates_raise : (key : Key) → IsStep shape state ideal actor (Raise key) found left tables → IsSimulated shape state ideal (one actor (Raise key) found left tables)
  simulates_raise key is =
      let local = locals_of state actor in
      let fits = (finds is).valid.irq.packable in
      let word = changed_word raised found left is.takes.left (record { prio = fits.prio; prio_bits = fits.prio_bits; active = fits.active; holder = fits.holder; route = fits.route }) in
      record {
        can = is.takes.can;
        allowed = refl;
        hands = refl;
        related = irq_event shape state ideal actor _ key raised left is.good is.sound is.related is.takes.actor (has is)
            (subst (λ w. IsIrqRelated (locals_of state) key w (raised (irq_at ideal.guest key))) (sym word) (cause_related raised (locals_of state) key (irq_of found) (irq_at ideal.guest key) raised_cause (says_found is))) refl
            (λ there. seat_same local (local_after shape actor local (Raise key) found) refl refl refl (is.related.seats actor there));
      }

  -- a wire goes up
  pub simulates_wire_up : (key : Key) → IsStep shape state ideal actor (WireUp key) found left tables → IsSimulated shape state ideal (one actor (WireUp key) found left tables)
  simulates_wire_up key is =
      let local = locals_of state actor in
      let fits = (finds is).valid.irq.packable in
      let word = changed_word wire_up found left is.takes.left (record { prio = fits.prio; prio_bits = fits.prio_bits; active = fits.active; holder = fits.holder; route = fits.route }) in
      record {
        can = is.takes.can;
        allowed = refl;
        hands = refl;
        related = irq_event shape state ideal actor _ key wire_up left is.good is.sound is.related is.takes.actor (has is)
            (subst (λ w. IsIrqRelated (locals_of state) key w (wire_up (irq_at ideal.guest key))) (sym word) (cause_related wire_up (locals_of state) key (irq_of found) (irq_at ideal.guest key) up_cause (says_found is))) refl
            (λ there. seat_same local (local_after shape actor local (WireUp key) found) refl refl refl (is.related.seats actor there));
      }

  -- and down
  pub simulates_wire_down : (key : Key) → IsStep shape state ideal actor (WireDown key) found left tables → IsSimulated shape state ideal (one actor (WireDown key) found left tables)
  simulates_wire_down key is =
      let local = locals_of state actor in
      let fits = (finds is).valid.irq.packable in
      let word = changed_word wire_down found left is.takes.left (record { prio = fits.prio; prio_bits = fits.prio_bits; active = fits.active; holder = fits.holder; route = fits.route }) in
      record {
        can = is.takes.can;
        allowed = refl;
        hands = refl;
        related = irq_event shape state ideal actor _ key wire_down left is.good is.sound is.related is.takes.actor (has is)
            (subst (λ w. IsIrqRelated (locals_of state) key w (wire_down (irq_at ideal.guest key))) (sym word) (cause_related wire_down (locals_of state) key (irq_of found) (irq_at ideal.guest key) down_cause (says_found is))) refl
            (λ there. seat_same local (local_after shape actor local (WireDown key) found) refl refl refl (is.related.seats actor there));
      }
