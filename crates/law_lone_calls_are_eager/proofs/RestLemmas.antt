-- A step of the eager controller leaves the guest at rest.
use Rattle.std.proofs.Common.{◌≡◌, ◌≢◌, ℕ, ◌+◌, ◌/◌, ◌<◌, Bool, true, false, if◌then◌else◌, IsTrue, List, [], ◌∷◌, Option, Some, None, slice_index, slice_set, refl, sym, arith}
use Rattle.std.specs.List.{list_all}
use Rattle.std.specs.Option.{option_map_or}
use Rattle.std.proofs.lemmas.Bool.{and_parts}
use Rattle.std.proofs.lemmas.List.{get_or-set_other}
use Rattle.law_home_commutes.specs.Words.{IccReg, Key, GuestShape, key_of, acknowledged, deactivated}
use Rattle.law_home_commutes.proofs.GicFrame.TestLemmas.{under}
use Rattle.law_home_commutes.specs.Calls.{PlainWord, Ram, Propbaser, Pendbaser, ItsCtlr, Cbaser, Cwriter, Baser0, Baser1, Fault, has_plain, place_of_plain, its_from, Event, Up, Down, Touch, Enable, Cpu, Put, CtlrBegin, HaveSameIts}
use Rattle.law_home_commutes.specs.Registers.{taken_by, deactivated_by, Candidate}
use Rattle.law_home_commutes.specs.GicCall.declared.event.Event.TheVariants.{Raise, Queue}
use Rattle.law_home_commutes.specs.Histories.{IdealGuest, cpu_at, candidates, changed_irq, with_word, view_of, after_acknowledge, after_deactivation, after_event, after_events}
use Rattle.law_home_commutes.specs.IdealGuests.Ideal.{after_access}
use Rattle.law_lone_calls_are_eager.proofs.PassLemmas.{PassesNamed}
use Rattle.law_lone_calls_are_eager.proofs.QueueLemmas.{same_after}

-- An event leaves GITS_CTLR, GITS_CBASER and GITS_CWRITER, and the queue.

abbrev pub is_other_word : PlainWord → Bool
is_other_word ItsCtlr = false
is_other_word Cbaser = false
is_other_word Cwriter = false
is_other_word word = true

abbrev pub is_apart : Event → Bool
is_apart (Put word value) = is_other_word word
is_apart (Queue offset change) = false
is_apart event = true

record AreApart (shape : GuestShape) (word : PlainWord) : Type 0 where
  pub ctlr : its_from shape ≢ place_of_plain shape word
  pub cbaser : its_from shape + 1 ≢ place_of_plain shape word
  pub cwriter : its_from shape + 2 ≢ place_of_plain shape word

words_apart : (shape : GuestShape) (word : PlainWord) → has_plain shape word ≡ true → is_other_word word ≡ true → AreApart shape word
words_apart shape (Ram index) here h =
    let low : index < shape.ram / 8 = under index (shape.ram / 8) here in
    record { ctlr = λ e. absurd (omega (arith, e, low)); cbaser = λ e. absurd (omega (arith, e, low)); cwriter = λ e. absurd (omega (arith, e, low)) }
words_apart shape (Propbaser vcpu) here h =
    let low : vcpu < shape.vcpus = under vcpu shape.vcpus here in
    record { ctlr = λ e. absurd (omega (arith, e, low)); cbaser = λ e. absurd (omega (arith, e, low)); cwriter = λ e. absurd (omega (arith, e, low)) }
words_apart shape (Pendbaser vcpu) here h =
    let low : vcpu < shape.vcpus = under vcpu shape.vcpus here in
    record { ctlr = λ e. absurd (omega (arith, e, low)); cbaser = λ e. absurd (omega (arith, e, low)); cwriter = λ e. absurd (omega (arith, e, low)) }
words_apart shape Baser0 here h = record { ctlr = λ e. absurd (omega (arith, e)); cbaser = λ e. absurd (omega (arith, e)); cwriter = λ e. absurd (omega (arith, e)) }
words_apart shape Baser1 here h = record { ctlr = λ e. absurd (omega (arith, e)); cbaser = λ e. absurd (omega (arith, e)); cwriter = λ e. absurd (omega (arith, e)) }
words_apart shape Fault here h = record { ctlr = λ e. absurd (omega (arith, e)); cbaser = λ e. absurd (omega (arith, e)); cwriter = λ e. absurd (omega (arith, e)) }
words_apart shape ItsCtlr here h = absurd (cc)
words_apart shape Cbaser here h = absurd (cc)
words_apart shape Cwriter here h = absurd (cc)

put_apart : (guest : IdealGuest) (word : PlainWord) (value : ℕ) → is_other_word word ≡ true → HaveSameIts (view_of guest) (view_of (with_word guest word value))
put_apart guest word value h = of (has_plain guest.shape word) refl
  where
    kept : (place : ℕ) → place ≢ place_of_plain guest.shape word → slice_index guest.words place ≡ slice_index (slice_set guest.words (place_of_plain guest.shape word) value) place
    kept place differ = sym (get_or-set_other guest.words (place_of_plain guest.shape word) place value 0 differ)

    of : (b : Bool) → has_plain guest.shape word ≡ b → HaveSameIts (view_of guest) (view_of (record guest { words = if b then slice_set guest.words (place_of_plain guest.shape word) value else guest.words }))
    of true e =
        let apart = words_apart guest.shape word e h in
        record { ctlr = kept (its_from guest.shape) apart.ctlr; cbaser = kept (its_from guest.shape + 1) apart.cbaser; cwriter = kept (its_from guest.shape + 2) apart.cwriter; offset = refl; stalled = refl; maps = refl }
    of false e = record { ctlr = refl; cbaser = refl; cwriter = refl; offset = refl; stalled = refl; maps = refl }

access_apart : (reg : IccReg) (write : Option ℕ) (guest : IdealGuest) (vcpu : ℕ) → HaveSameIts (view_of guest) (view_of (after_access reg write guest vcpu))
access_apart reg write guest vcpu =
    let middle = after_acknowledge (taken_by reg write (cpu_at guest vcpu) (candidates guest vcpu)) guest vcpu in
    let last = ended (deactivated_by reg write (cpu_at guest vcpu)) middle in
    let both = same_after (view_of guest) (view_of middle) (view_of (after_deactivation (deactivated_by reg write (cpu_at guest vcpu)) middle vcpu)) (acked (taken_by reg write (cpu_at guest vcpu) (candidates guest vcpu))) last in
    record { ctlr = both.ctlr; cbaser = both.cbaser; cwriter = both.cwriter; offset = both.offset; stalled = both.stalled; maps = both.maps }
  where
    acked : (o : Option Candidate) → HaveSameIts (view_of guest) (view_of (after_acknowledge o guest vcpu))
    acked None = record { ctlr = refl; cbaser = refl; cwriter = refl; offset = refl; stalled = refl; maps = refl }
    acked (Some found) = of (key_of found.id vcpu guest.shape)
      where
        of : (o : Option Key) → HaveSameIts (view_of guest) (view_of (option_map_or (λ key. changed_irq key (acknowledged key vcpu) guest) o guest))
        of None = record { ctlr = refl; cbaser = refl; cwriter = refl; offset = refl; stalled = refl; maps = refl }
        of (Some key) = record { ctlr = refl; cbaser = refl; cwriter = refl; offset = refl; stalled = refl; maps = refl }

    ended : (o : Option ℕ) (g : IdealGuest) → HaveSameIts (view_of g) (view_of (after_deactivation o g vcpu))
    ended None g = record { ctlr = refl; cbaser = refl; cwriter = refl; offset = refl; stalled = refl; maps = refl }
    ended (Some id) g = of (key_of id vcpu g.shape)
      where
        of : (o : Option Key) → HaveSameIts (view_of g) (view_of (option_map_or (λ key. changed_irq key (deactivated vcpu) g) o g))
        of None = record { ctlr = refl; cbaser = refl; cwriter = refl; offset = refl; stalled = refl; maps = refl }
        of (Some key) = record { ctlr = refl; cbaser = refl; cwriter = refl; offset = refl; stalled = refl; maps = refl }

event_apart : (guest : IdealGuest) (event : Event) → is_apart event ≡ true → HaveSameIts (view_of guest) (view_of (after_event guest event))
event_apart guest (Put word value) h = put_apart guest word value h
event_apart guest (Queue offset change) h = absurd (cc)
event_apart guest (Cpu vcpu reg write) h = access_apart reg write guest vcpu
event_apart guest (Raise key) h = record { ctlr = refl; cbaser = refl; cwriter = refl; offset = refl; stalled = refl; maps = refl }
event_apart guest (Up key) h = record { ctlr = refl; cbaser = refl; cwriter = refl; offset = refl; stalled = refl; maps = refl }
event_apart guest (Down key) h = record { ctlr = refl; cbaser = refl; cwriter = refl; offset = refl; stalled = refl; maps = refl }
event_apart guest (Touch key touching) h = record { ctlr = refl; cbaser = refl; cwriter = refl; offset = refl; stalled = refl; maps = refl }
event_apart guest (Enable vcpu) h = record { ctlr = refl; cbaser = refl; cwriter = refl; offset = refl; stalled = refl; maps = refl }
event_apart guest (CtlrBegin enables) h = record { ctlr = refl; cbaser = refl; cwriter = refl; offset = refl; stalled = refl; maps = refl }
event_apart guest event h = record { ctlr = refl; cbaser = refl; cwriter = refl; offset = refl; stalled = refl; maps = refl }

pub its_same : (events : List Event) (guest : IdealGuest) → IsTrue (list_all is_apart events) → HaveSameIts (view_of guest) (view_of (after_events events guest))
its_same [] guest all = record { ctlr = refl; cbaser = refl; cwriter = refl; offset = refl; stalled = refl; maps = refl }
its_same (event ∷ events) guest all =
    let parts = and_parts (is_apart event) (list_all is_apart events) all in
    same_after (view_of guest) (view_of (after_event guest event)) (view_of (after_events events (after_event guest event))) (event_apart guest event parts.0) (its_same events (after_event guest event) parts.1)

-- So does each operation that takes no command.
pub apart_passes : PassesNamed is_apart
apart_passes = record {
  raise = λ key. refl;
  up = λ key. refl;
  down = λ key. refl;
  touch = λ key touching plain. refl;
  enable = λ vcpu. refl;
  ctlr_begin = λ enables. refl;
  ctlr_end = refl;
  its_begin = refl;
  its_end = refl;
  ram = λ index value. refl;
  propbaser = λ vcpu value. refl;
  pendbaser = λ vcpu value. refl;
}
