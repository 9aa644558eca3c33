-- A fault by which nothing is stalled is no part of a sound guest, nor of its end lines.
use Rattle.std.proofs.Common.{◌≡◌, ◌≢◌, ℕ, ◌+◌, ◌<◌, ◌&&◌, not, Bool, true, false, cond, List, length, get_or, set, arith, refl, sym, ap, ◌∙◌, subst, Some, None}
use Rattle.std.proofs.lemmas.List.{get_or-set_same, get_or-set_other, length-set}
use Rattle.port_ops.specs.Registers.{has_lpis, enabled_in, creadr_of}
use Rattle.port_ops.specs.GicImap.Contents.{ctlr_of as its_ctlr_of}
use Rattle.port_ops.specs.Words.{GuestShape, interrupt_count}
use Rattle.port_ops.specs.Calls.{Fault, its_from, place_of_plain}
use Rattle.guest_end.specs.GicIdeal.Ends.{cpu_end, irq_end, is_same_cpu_end, is_same_irq_end, changed, gicd_end, its_end, is_same_its_end, dev_end, evt_end, col_end, end_of}
use Rattle.law_core_is_history.specs.Histories.{IdealGuest, word_at, IsSound}
use Rattle.port_ops.specs.GicGuest.declared.outcome.End.{End}
use Rattle.port_ops.specs.GicGuest.declared.outcome.ItsEnd.{ItsEnd}
use Rattle.std.specs.Prelude.{map}
use Rattle.guest_end.specs.Home.{plain_at_home}
use Rattle.law_ends_agree.specs.End.{without_past_fault}

-- no plain word is dropped
pub plain_each : (shape : GuestShape) (is_stalled : Bool) (words : List ℕ) → length (plain_at_home shape is_stalled words) ≡ length words
plain_each shape true words = refl
plain_each shape false words = length-set words (place_of_plain shape Fault) 0

-- a guest that is told so
abbrev told_as : Bool → IdealGuest → IdealGuest
told_as is_stalled guest = record guest { words = plain_at_home guest.shape is_stalled guest.words }

-- Soundness.

fault_small : (b : Bool) (guest : IdealGuest) → IsSound guest → word_at (told_as b guest) Fault < 256
fault_small true guest sound = sound.fault
fault_small false guest sound =
    subst (λ n. n < 256) (sym (get_or-set_same guest.words (place_of_plain guest.shape Fault) 0 0 (omega (arith, sound.words)))) (omega arith)

pub sound_without : (guest : IdealGuest) → IsSound guest → IsSound (without_past_fault guest)
sound_without guest sound =
    record {
      shape = sound.shape;
      irqs = sound.irqs;
      cpus = sound.cpus;
      records = sound.records;
      interfaces = sound.interfaces;
      words = plain_each guest.shape guest.is_stalled guest.words ∙ sound.words;
      place = sound.place;
      offset = sound.offset;
      fault = fault_small guest.is_stalled guest sound;
      maps = sound.maps;
    }

-- Lines.

-- an end of the ITS by what is read for it
abbrev its_by : IdealGuest → ℕ → ℕ → ℕ → ℕ → ItsEnd
its_by guest ctlr cbaser cwriter fault = record { ctlr = its_ctlr_of (enabled_in ctlr); cbaser = cbaser; cwriter = cwriter; creadr = creadr_of guest.is_stalled guest.offset; fault = fault }

its_same : (b : Bool) (guest : IdealGuest) → guest.is_stalled ≡ b → its_end (told_as b guest) ≡ its_end guest
its_same true guest stalled = refl
its_same false guest running =
    let from = its_from guest.shape in
    let words = set guest.words (from + 5) 0 in
    let kept : (k : ℕ) → from + k ≢ from + 5 → get_or words (from + k) 0 ≡ get_or guest.words (from + k) 0 = λ k differ. get_or-set_other guest.words (from + 5) (from + k) 0 0 differ in
    ap (λ n. its_by guest n (get_or words (from + 1) 0) (get_or words (from + 2) 0) (cond guest.is_stalled (get_or words (from + 5) 0) 0)) (get_or-set_other guest.words (from + 5) from 0 0 (λ e. absurd (omega (arith, e))))
    ∙ ap (λ n. its_by guest (get_or guest.words from 0) n (get_or words (from + 2) 0) (cond guest.is_stalled (get_or words (from + 5) 0) 0)) (kept 1 (λ e. absurd (omega (arith, e))))
    ∙ ap (λ n. its_by guest (get_or guest.words from 0) (get_or guest.words (from + 1) 0) n (cond guest.is_stalled (get_or words (from + 5) 0) 0)) (kept 2 (λ e. absurd (omega (arith, e))))
    ∙ ap (its_by guest (get_or guest.words from 0) (get_or guest.words (from + 1) 0) (get_or guest.words (from + 2) 0)) (ap (λ b. cond b (get_or words (from + 5) 0) 0) running ∙ sym (ap (λ b. cond b (get_or guest.words (from + 5) 0) 0) running))

-- an end by what it has of the ITS
abbrev end_by : IdealGuest → IdealGuest → ItsEnd → End
end_by opened closed its =
    record {
      gicd = gicd_end opened closed;
      cpus = changed is_same_cpu_end (cpu_end opened) (cpu_end closed) opened.shape.vcpus;
      irqs = changed is_same_irq_end (irq_end opened) (irq_end closed) (interrupt_count opened.shape);
      its = cond (has_lpis closed.shape && not (is_same_its_end (its_end opened) its)) (Some its) None;
      devs = map dev_end closed.tables.devices;
      evts = map evt_end closed.tables.events;
      cols = map col_end closed.tables.collections;
    }

pub lines_without : (opened closed : IdealGuest) → end_of opened (without_past_fault closed) ≡ end_of opened closed
lines_without opened closed = ap (end_by opened closed) (its_same closed.is_stalled closed refl)
