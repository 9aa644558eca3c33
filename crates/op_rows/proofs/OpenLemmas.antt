-- A guest that can open still can after a change by hand.
use Rattle.std.proofs.Common.{◌≡◌, ℕ, ◌<◌, ◌≤◌, ◌+◌, ◌*◌, ◌%◌, ◌^◌, Bool, true, false, cond, IsTrue, refl, sym, ap, subst, ◌∙◌, arith}
use Rattle.std.specs.Prelude.{slice_set}
use Rattle.std.proofs.lemmas.List.Elements.{All-set}
use Rattle.port_seq.specs.Words.{Key, Spi, Lpi, Irq, has_interrupt, is_same_key, target_in, wire_up}
use Rattle.port_seq.specs.Registers.{CpuRec, HasBinaryPoints, queue_bytes}
use Rattle.port_seq.specs.Calls.{PlainWord, Cbaser, Cwriter, Fault, has_plain, is_stored, place_of_plain}
use Rattle.port_seq.specs.IdealGuests.CanOpen.{CanOpen, copy_in, is_own}
use Rattle.port_seq.specs.IdealGuests.Ideal.{changed_irq, irq_at, word_at}
use Rattle.port_seq.specs.IdealGuests.Sound.{IsSound}
use Rattle.port_seq.specs.IdealGuests.declared.guest.IdealGuest.{IdealGuest}
use Rattle.port_seq.proofs.PortCore.GicOpen.KeyLemmas.{irq_other}
use Rattle.port_seq.proofs.PortCore.IdealGuests.KeyLemmas.{irq_changed}
use Rattle.port_seq.proofs.PortCore.IdealGuests.SoundLemmas.{sound_with_points, sound_with_word, whole_of}

-- of its vCPU's interface
pub open_with_cpu : (guest : IdealGuest) (vcpu : ℕ) (cpu : CpuRec) → CanOpen guest → HasBinaryPoints cpu → cpu.ap0 < 2 ^ 32 → cpu.ap1 < 2 ^ 32 → CanOpen (record guest { cpus = slice_set guest.cpus vcpu cpu })
open_with_cpu guest vcpu cpu good points low high =
    record {
      sound = sound_with_points guest vcpu cpu good.sound points low high;
      own = good.own;
      copies = good.copies;
      none = good.none;
      fits = good.fits;
      queue = record {
        next = good.queue.next;
        writer = good.queue.writer;
        place = good.queue.place;
      };
      fault = good.fault;
    }

-- of the line of an SPI
line_active : (b : Bool) (key : Key) (irq : Irq) → IsTrue (is_own key irq.act_by) → IsTrue (is_own key (cond b (wire_up irq) irq).act_by)
line_active true key irq own = own
line_active false key irq own = own

line_copy : (b : Bool) (irq : Irq) → copy_in (cond b (wire_up irq) irq) ≡ copy_in irq
line_copy true irq = refl
line_copy false irq = refl

pub open_with_line : (guest : IdealGuest) (id : ℕ) → CanOpen guest → IsSound (changed_irq (Spi id) wire_up guest) → CanOpen (changed_irq (Spi id) wire_up guest)
open_with_line guest id good sound =
    let at : (key : Key) → IsTrue (has_interrupt guest.shape key) → irq_at (changed_irq (Spi id) wire_up guest) key ≡ cond (is_same_key key (Spi id)) (wire_up (irq_at guest key)) (irq_at guest key) =
    λ key there. irq_changed guest (Spi id) key wire_up (whole_of guest good.sound) there in
    record {
      sound = sound;
      own = λ key there. subst (λ (irq : Irq). IsTrue (is_own key irq.act_by)) (sym (at key there)) (line_active (is_same_key key (Spi id)) key (irq_at guest key) (good.own key there));
      copies = λ key there. ap copy_in (at key there) ∙ line_copy (is_same_key key (Spi id)) (irq_at guest key) ∙ good.copies key there;
      none = λ lpi lost.
          ap (λ (irq : Irq). target_in irq.route guest.shape) (irq_other guest.shape (Spi id) (Lpi lpi) (wire_up (irq_at guest (Spi id))) guest.irqs good.sound.shape (λ e. absurd (cc))) ∙ good.none lpi lost;
      fits = good.fits;
      queue = record {
        next = good.queue.next;
        writer = good.queue.writer;
        place = good.queue.place;
      };
      fault = good.fault;
    }

-- a queue has that many bytes at least
least : (cbaser n : ℕ) → n < 4096 → n < queue_bytes cbaser
least cbaser n few = omega (arith, few)

-- of a plain word that leaves the queue in order
pub open_with_word :
    (guest : IdealGuest) (word : PlainWord) (value : ℕ) (new : IdealGuest) → new ≡ record guest { words = slice_set guest.words (place_of_plain guest.shape word) value } → CanOpen guest → value < 2 ^ 64 → IsTrue (has_plain guest.shape word) → IsTrue (is_stored word)
    → guest.offset < 4096 → word_at new Cwriter < 4096 → word_at new Cwriter % 32 ≡ 0 → word_at new Fault ≡ 0 → CanOpen new
open_with_word guest word value new is good small there stored next writer place fault =
    let written : IdealGuest = record guest { words = slice_set guest.words (place_of_plain guest.shape word) value } in
    subst CanOpen (sym is)
    (record {
      sound = sound_with_word guest word value good.sound there stored;
      own = good.own;
      copies = good.copies;
      none = good.none;
      fits = All-set (λ word. word < 2 ^ 64) guest.words (place_of_plain guest.shape word) value small good.fits;
      queue = record {
        next = least (word_at written Cbaser) guest.offset next;
        writer = least (word_at written Cbaser) (word_at written Cwriter) (subst (λ (g : IdealGuest). word_at g Cwriter < 4096) is writer);
        place = subst (λ (g : IdealGuest). word_at g Cwriter % 32 ≡ 0) is place;
      };
      fault = λ e. subst (λ (g : IdealGuest). word_at g Fault ≡ 0) is fault;
    })
