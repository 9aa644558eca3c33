-- A guest that can open opens with valid words and actors.
use Rattle.std.proofs.Common.{◌≡◌, ℕ, ◌<◌, ◌^◌, ◌||◌, inl, inr, true, false, is_none, IsTrue, Some, None, length, lit<, refl, sym, ap, subst, ◌∙◌, arith}
use Rattle.std.specs.Option.{option_map_or}
use Rattle.std.proofs.lemmas.Bool.{cases_lt, ltb-true}
use Rattle.std.proofs.lemmas.List.{get_or-replicate, get_or_past}
use Rattle.std.proofs.lemmas.List.Elements.{All-get_or}
use Rattle.std.proofs.lemmas.List.FromFn.{length-map-range_with_len, get_or-map-range_with_len}
use Rattle.std.proofs.lemmas.Nat.{pow_pos}
use Rattle.core_words.specs.Words.{GuestShape, Key, has_interrupt, Irq as IrqRecord, is_number, packed, irq_of, IsRecordOf}
use Rattle.core_words.specs.Registers.{QueueWord, IsQueue, is_queue_word, queue_of, packed as packed_queue}
use Rattle.core_words.specs.Calls.{opening_cpu, plain_count}
use Rattle.core_words.specs.IdealGuests.CanOpen.{is_own, CanOpen}
use Rattle.core_words.specs.IdealGuests.Ideal.{irq_at, cpu_at}
use Rattle.core_words.specs.IdealGuests.Sound.{IsIdealCpu}
use Rattle.core_words.specs.IdealGuests.declared.guest.IdealGuest.{IdealGuest}
use Rattle.core_words.proofs.IdealGuests.OpeningLemmas.{cpu_opening}
use Rattle.core_words.specs.declared.words.CtlrWord.{CtlrWord}
use Rattle.core_words.specs.declared.word_id.WordId.{WordId}
use Rattle.core_words.specs.declared.word_id.WordId.TheVariants.{Irq, Vcpu, Index, Queue, Ctlr, Plain, Line}
use Rattle.core_words.specs.Forms.{packed_ctlr, ctlr_of, is_ctlr_word, empty_line}
use Rattle.port_core.specs.Known.{known_maps}
use Rattle.port_core.specs.Laws.{OpeningIsSound}
use Rattle.core_words.specs.Place.{has_word, word_count, place_of_word}
use Rattle.port_core.specs.Run.{opening, opening_word, opening_word_of, opening_seat, no_seat, seat_at, word_in}
use Rattle.port_core.specs.Actor.{actor_count}
use Rattle.port_core.specs.Valid.{IsValid, IsIndexWord, IsLocal, Ties}
use Rattle.port_core.proofs.IndexLemmas.{index_opens}
use Rattle.port_core.proofs.LineLemmas.{none_inside}
use Rattle.core_words.proofs.PlaceLemmas.{word_at_place, place_of_word_within}
use Rattle.port_core.proofs.StepWords.{IsOwned, irq_word, vcpu_word, packed_is, queue_word, queue_back, ctlr_word, ctlr_back}
use Rattle.port_core.proofs.StepLocals.{zero_index}

-- Words.

-- a word that is there opens as its own one
pub word_opens : (guest : IdealGuest) (number : ℕ) (word : WordId) → CanOpen guest → IsTrue (has_word guest.shape word) → word_in guest.shape (opening guest number) word ≡ opening_word_of guest word
word_opens guest number word good there =
    let place = place_of_word guest.shape word in
    get_or-map-range_with_len (opening_word guest) 0 (word_count guest.shape) place place 0 (place_of_word_within guest.shape word good.sound.shape there) (omega arith)
    ∙ ap (λ o. option_map_or (opening_word_of guest) o 0) (word_at_place guest.shape word good.sound.shape there)

-- the record of an interrupt that is home, and active by a vCPU that it can get to
home_owned : (shape : GuestShape) (key : Key) (irq : IrqRecord) → IsRecordOf shape key irq → irq.holder ≡ None → IsTrue (is_own key irq.act_by) → IsOwned shape key irq
home_owned shape key irq is unheld active =
    record {
      record_of = is;
      holder = ap (is_own key) unheld;
      active = active;
      one = ap (λ h. is_none h || is_none irq.act_by || option_map_or (λ vcpu. is_number vcpu h) irq.act_by true) unheld;
    }

irq_owned : (guest : IdealGuest) (key : Key) → CanOpen guest → IsTrue (has_interrupt guest.shape key) → IsOwned guest.shape key (irq_at guest key)
irq_owned guest key good there =
    let is = good.sound.records key there in
    home_owned guest.shape key (irq_at guest key) is.valid is.home.unheld (good.own key there)

-- the record that the word of an interrupt is of
pub record_back : (guest : IdealGuest) (key : Key) → CanOpen guest → IsTrue (has_interrupt guest.shape key) → irq_of (packed (irq_at guest key)) ≡ irq_at guest key
record_back guest key good there = packed_is (irq_at guest key) (good.sound.records key there).valid.packable

pub record_opens : (guest : IdealGuest) (number : ℕ) (key : Key) → CanOpen guest → IsTrue (has_interrupt guest.shape key) → irq_of (word_in guest.shape (opening guest number) (Irq key)) ≡ irq_at guest key
record_opens guest number key good there = ap irq_of (word_opens guest number (Irq key) good there) ∙ record_back guest key good there

-- the queue, that nobody has
opening_queue : IdealGuest → QueueWord
opening_queue guest = record { offset = guest.offset; stalled = guest.is_stalled; turn = None }

queue_opens : (guest : IdealGuest) → CanOpen guest → IsTrue (is_queue_word (packed_queue (opening_queue guest))) × (queue_of (packed_queue (opening_queue guest)) ≡ opening_queue guest)
unfolding opening_queue
queue_opens guest good =
    let is : IsQueue (opening_queue guest) = record { actor = λ a e. absurd (cc); command = good.sound.place; within = good.sound.offset } in
    (queue_word (opening_queue guest) is, queue_back (opening_queue guest) is)

pub queue_is : (guest : IdealGuest) → CanOpen guest → queue_of (packed_queue (record { offset = guest.offset; stalled = guest.is_stalled; turn = None })) ≡ record { offset = guest.offset; stalled = guest.is_stalled; turn = None }
unfolding opening_queue
queue_is guest good = (queue_opens guest good).1

-- GICD_CTLR, with no mark
opening_ctlr : IdealGuest → CtlrWord
opening_ctlr guest = record { enables = guest.enables; mark = None }

ctlr_opens : (guest : IdealGuest) → IsTrue (is_ctlr_word (packed_ctlr (opening_ctlr guest))) × (ctlr_of (packed_ctlr (opening_ctlr guest)) ≡ opening_ctlr guest)
unfolding opening_ctlr
ctlr_opens guest = (ctlr_word (opening_ctlr guest) (λ a e. absurd (cc)), ctlr_back (opening_ctlr guest) (λ a e. absurd (cc)))

pub ctlr_is : (guest : IdealGuest) → ctlr_of (packed_ctlr (record { enables = guest.enables; mark = None })) ≡ record { enables = guest.enables; mark = None }
unfolding opening_ctlr
ctlr_is guest = (ctlr_opens guest).1

word_valid : (guest : IdealGuest) (word : WordId) → CanOpen guest → IsTrue (has_word guest.shape word) → IsValid guest.shape word (opening_word_of guest word)
unfolding opening_queue opening_ctlr
word_valid guest (Irq key) good there = irq_word guest.shape key (irq_at guest key) (irq_owned guest key good there)
word_valid guest (Vcpu vcpu) good there = vcpu_word (record { lpis = (cpu_at guest vcpu).lpis; kick = false })
word_valid guest (Index vcpu number) good there = index_opens guest vcpu number
word_valid guest Queue good there = let is = queue_opens guest good in (is.0, λ a e. let none : None ≡ Some a = sym (ap (λ (q : QueueWord). q.turn) is.1) ∙ e in absurd (cc))
word_valid guest Ctlr good there = let is = ctlr_opens guest in (is.0, λ a e. let none : None ≡ Some a = sym (ap (λ (c : CtlrWord). c.mark) is.1) ∙ e in absurd (cc))
word_valid guest (Line line) good there = record { word_is = refl; lpi = λ pair e. absurd (cc); inside = pow_pos guest.shape.devices }
word_valid guest (Plain index) good there = All-get_or (λ word. word < 2 ^ 64) guest.words index 0 (subst (λ n. index < n) (sym good.sound.words) (ltb-true index (plain_count guest.shape) there)) good.fits

-- Actors.

pub seat_opens : (guest : IdealGuest) (number actor : ℕ) → actor < actor_count guest.shape → seat_at (opening guest number) actor ≡ opening_seat guest number actor
seat_opens guest number actor there = get_or-map-range_with_len (opening_seat guest number) 0 (actor_count guest.shape) actor actor no_seat there (omega arith)

-- the record of a CPU interface, also of an actor that has none
cpu_opens : (guest : IdealGuest) (actor : ℕ) → CanOpen guest → IsIdealCpu (cpu_at guest actor)
cpu_opens guest actor good =
    elim (cases_lt actor (length guest.cpus)) [
      | inl there ↦ All-get_or IsIdealCpu guest.cpus actor (opening_cpu false) there good.sound.interfaces
      | inr past ↦ subst IsIdealCpu (sym (get_or_past guest.cpus actor (opening_cpu false) past)) (cpu_opening false)
    ]

local_valid : (guest : IdealGuest) (number actor : ℕ) → CanOpen guest → IsLocal guest.shape actor (opening_seat guest number actor).local
local_valid guest number actor good =
    let cpu = cpu_opens guest actor good in
    record {
      points = cpu.points;
      levels = cpu.levels;
      at = λ k d l. absurd (omega (arith, l));
      once = λ key. omega arith;
      room = omega arith;
      owes = pow_pos guest.shape.vcpus;
      marks_are = pow_pos guest.shape.vcpus;
      marks = refl;
      cands = record { each = refl; bits = λ n l. subst (IsIndexWord guest.shape n) (sym (get_or-replicate 96 n 0 0 l)) (zero_index guest.shape n) };
      device = λ e. record { at = refl; cands = refl };
      line = λ one e. absurd (cc);
      shut = lit< tt;
      idle = λ e. refl;
    }

ties_open : (guest : IdealGuest) (number actor : ℕ) (word : WordId) → CanOpen guest → IsTrue (has_word guest.shape word) → Ties guest.shape actor (opening_seat guest number actor).local word (opening_word_of guest word)
unfolding opening_queue opening_ctlr
ties_open guest number actor (Irq key) good there = ap (λ i. is_number actor i.holder) (record_back guest key good there) ∙ ap (is_number actor) (good.sound.records key there).home.unheld
ties_open guest number actor Queue good there = ap (λ (q : QueueWord). is_number actor q.turn) (queue_opens guest good).1
ties_open guest number actor Ctlr good there = ap (λ (c : CtlrWord). is_number actor c.mark) (ctlr_opens guest).1
ties_open guest number actor (Vcpu vcpu) good there = tt
ties_open guest number actor (Index vcpu word) good there = tt
ties_open guest number actor (Plain index) good there = tt
ties_open guest number actor (Line line) good there = none_inside guest.shape actor empty_line refl

pub opens_sound : OpeningIsSound
opens_sound guest number good =
    record {
      places = length-map-range_with_len (opening_word guest) 0 (word_count guest.shape);
      actors = length-map-range_with_len (opening_seat guest number) 0 (actor_count guest.shape);
      words = λ word there. subst (IsValid guest.shape word) (sym (word_opens guest number word good there)) (word_valid guest word good there);
      locals = λ actor there. subst (λ seat. IsLocal guest.shape actor seat.local) (sym (seat_opens guest number actor there)) (local_valid guest number actor good);
      ties = λ actor word there has.
          subst (λ seat. Ties guest.shape actor seat.local word (word_in guest.shape (opening guest number) word)) (sym (seat_opens guest number actor there))
          (subst (Ties guest.shape actor (opening_seat guest number actor).local word) (sym (word_opens guest number word good has)) (ties_open guest number actor word good has));
      maps = good.sound.maps;
      known = λ actor there.
          subst (λ seat. IsTrue seat.local.turn → known_maps seat.own ≡ guest.tables) (sym (seat_opens guest number actor there)) (λ h. absurd (cc));
    }
