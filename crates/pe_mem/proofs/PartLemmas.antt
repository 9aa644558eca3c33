-- Accesses to the part of one interrupt.
use Rattle.std.proofs.Common.{◌≡◌, ℕ, ◌^◌, nat_lt, false, IsTrue, Option, Some, None, refl, sym, ap, subst, ◌∙◌}
use Rattle.std.proofs.lemmas.Bool.{and_parts}
use Rattle.its_exec.specs.Words.{Key, Private, Spi, Lpi, Kind, Routing, GuestShape, Irq, Route, Affinity, Target, is_routed_as, IsRecordOf, IsIrq, irq_of}
use Rattle.its_exec.specs.Registers.{part_bits, has_part, shows_route, part_read}
use Rattle.its_exec.specs.Calls.{Touching, CanTouch, has_shown_part}
use Rattle.its_exec.proofs.GicCall.AccessLemmas.{can_read}
use Rattle.its_exec.specs.Core.{changes_lpi, Seen, shape_of, IsIrqWord}
use Rattle.its_exec.specs.PortCall.declared.touching.Missed.{Missed}
use Rattle.its_exec.specs.PortCall.Touch.{MissesTouch, Touches, Tries}
use Rattle.its_exec.proofs.PortCall.TouchLemmas.{tries_then_touches}
use Rattle.pe_mem.specs.declared.attempt.PartAccess.{PartAccess}
use Rattle.pe_mem.specs.declared.attempt.PartAccess.TheVariants.{Reads, Writes, WritesHalf}
use Rattle.pe_mem.specs.Part.{touching_of, touching_by, part_answer, FitsPart, CanAttempt, Attempts, Misses, Accesses}

-- an interrupt's record shows the part that the interrupt has
shown_of : (shape : GuestShape) (key : Key) (kind : Kind) (route : Route) → IsTrue (has_shown_part kind key) → IsTrue (is_routed_as shape key route) → IsTrue (shows_route kind route)
shown_of shape (Spi id) Routing (Affinity affinity) h r = refl
shown_of shape (Spi id) Routing (Target target) h r = absurd (cc)
shown_of shape (Private vcpu id) Routing route h r = absurd (cc)
shown_of shape (Lpi id) Routing route h r = absurd (cc)
shown_of shape key kind route h r = refl

pub shown_by : (shape : GuestShape) (key : Key) (kind : Kind) (access : PartAccess) (irq : Irq) → CanAttempt shape key kind access → IsRecordOf shape key irq → IsTrue (shows_route kind irq.route)
shown_by shape key kind access irq can is = shown_of shape key kind irq.route can.part is.route

-- an access that reads or writes a value can be tried
pub can_attempt : (shape : GuestShape) (key : Key) (kind : Kind) (write : Option ℕ) (access : PartAccess) → CanTouch shape key (touching_of kind write) → ((kind : Kind) (irq : Irq) → touching_by access kind irq ≡ touching_of kind write) → FitsPart access
    → CanAttempt shape key kind access
can_attempt shape key kind write access can does fits =
    record { there = can.there; part = of write can; can = λ irq is. subst (CanTouch shape key) (sym (does kind irq)) can; fits = fits }
  where
    of : (write : Option ℕ) → CanTouch shape key (touching_of kind write) → IsTrue (has_shown_part kind key)
    of None can = can.fits
    of (Some value) can = (can_read shape key kind can.there (and_parts (has_part kind key) (nat_lt value (2 ^ part_bits kind)) can.fits).0).fits

-- and then it answers what the record shows
pub accessed : (old new : Seen) (key : Key) (kind : Kind) (write : Option ℕ) (access : PartAccess) (irq : Irq) (answer : ℕ) → ((kind : Kind) (irq : Irq) → touching_by access kind irq ≡ touching_of kind write) → Attempts old new key kind access irq
    → answer ≡ part_answer write (part_read kind irq) → Accesses old new key kind write answer
accessed old new key kind write access irq answer does made is =
    let By : Touching → Type 0 = λ touching. Touches old new key touching made.found in
    record {
      found = made.found;
      touches = subst By (does kind (irq_of made.found)) made.touches;
      answer_is = is ∙ ap (λ irq. part_answer write (part_read kind irq)) made.irq_is;
    }

-- a try that missed, and then such an access
pub tries_then_accesses : (old mid new : Seen) (key : Key) (kind : Kind) (write : Option ℕ) (answer : ℕ) → Tries old mid key → Accesses mid new key kind write answer → Accesses old new key kind write answer
tries_then_accesses old mid new key kind write answer tries one =
    record { found = one.found; touches = tries_then_touches old mid new key (touching_of kind write) one.found tries one.touches; answer_is = one.answer_is }

-- The steps of a try.

-- what it does to the record that was looked at
-- an access changes no LPI as a command does
pub quiet_part : (access : PartAccess) (kind : Kind) (irq : Irq) → changes_lpi (touching_by access kind irq) ≡ false
quiet_part Reads kind irq = refl
quiet_part (Writes value) kind irq = refl
quiet_part (WritesHalf half value) kind irq = refl

pub can_try : (shape : GuestShape) (key : Key) (kind : Kind) (access : PartAccess) (seen : ℕ) (irq : Irq) (touching : Touching) → CanAttempt shape key kind access → IsIrqWord shape key seen → irq ≡ irq_of seen → touching ≡ touching_by access kind irq
    → CanTouch shape key touching
can_try shape key kind access seen irq touching can word is does = subst (CanTouch shape key) (sym (does ∙ ap (touching_by access kind) is)) (can.can (irq_of seen) word.irq)

pub shown_so : (shape : GuestShape) (key : Key) (kind : Kind) (access : PartAccess) (seen : ℕ) (irq : Irq) → CanAttempt shape key kind access → IsIrqWord shape key seen → irq ≡ irq_of seen → IsTrue (shows_route kind irq.route)
shown_so shape key kind access seen irq can word is = subst (λ irq. IsTrue (shows_route kind irq.route)) (sym is) (shown_by shape key kind access (irq_of seen) can word.irq)

pub attempted :
    (old new : Seen) (key : Key) (kind : Kind) (access : PartAccess) (seen : ℕ) (irq : Irq) (touching : Touching) → CanAttempt (shape_of old) key kind access → IsIrqWord (shape_of old) key seen → irq ≡ irq_of seen
    → touching ≡ touching_by access kind irq → Touches old new key touching seen → Attempts old new key kind access irq
attempted old new key kind access seen irq touching can word is does made =
    let By : Touching → Type 0 = λ touching. Touches old new key touching seen in
    record {
      found = seen;
      touches = subst By (does ∙ ap (touching_by access kind) is) made;
      irq_is = is;
      packable = subst IsIrq (sym is) word.irq.packable;
      shown = shown_so (shape_of old) key kind access seen irq can word is;
    }

-- where the look found a vCPU that holds it
pub held_so : (old new : Seen) (key : Key) (kind : Kind) (access : PartAccess) (missed : Missed) → ((kind : Touching) → MissesTouch old new key kind missed) → Misses old new key kind access missed
held_so old new key kind access missed misses = let irq = irq_of 0 in record { looked = irq; misses = misses (touching_by access kind irq) }

pub missed_so : (old new : Seen) (key : Key) (kind : Kind) (access : PartAccess) (irq : Irq) (touching : Touching) (missed : Missed) → touching ≡ touching_by access kind irq → MissesTouch old new key touching missed → Misses old new key kind access missed
missed_so old new key kind access irq touching missed does misses = let By : Touching → Type 0 = λ touching. MissesTouch old new key touching missed in record { looked = irq; misses = subst By does misses }

-- and of one that reads or writes a value
pub missed_of : (old new : Seen) (key : Key) (kind : Kind) (write : Option ℕ) (access : PartAccess) (missed : Missed) → ((kind : Kind) (irq : Irq) → touching_by access kind irq ≡ touching_of kind write) → Misses old new key kind access missed
    → MissesTouch old new key (touching_of kind write) missed
missed_of old new key kind write access missed does misses = let By : Touching → Type 0 = λ touching. MissesTouch old new key touching missed in subst By (does kind misses.looked) misses.misses

pub tries_then_attempts : (old mid new : Seen) (key : Key) (kind : Kind) (access : PartAccess) (irq : Irq) → Tries old mid key → Attempts mid new key kind access irq → Attempts old new key kind access irq
tries_then_attempts old mid new key kind access irq tries one =
    record { found = one.found; touches = tries_then_touches old mid new key (touching_by access kind (irq_of one.found)) one.found tries one.touches; irq_is = one.irq_is; packable = one.packable; shown = one.shown }
