-- SGIs are sent.
use Rattle.std.proofs.Common.{◌≡◌, ℕ, suc, ◌+◌, ◌<◌, ◌&&◌, Bool, true, false, if◌then◌else◌, IsTrue, List, [], ◌∷◌, ◌++◌, map, filter_map, nat_lt, Option, Some, None, refl, sym, ap, subst, ◌∙◌, arith}
use Rattle.std.specs.List.{range_with_len}
use Rattle.std.proofs.lemmas.Bool.{eqb-true, lt-ltb}
use Rattle.std.proofs.lemmas.List.{map-append}
use Rattle.std.proofs.lemmas.List.Elements.{filter_map-append}
use Rattle.pe_loop.specs.Registers.{Targets, intid_of, is_target}
use Rattle.pe_loop.specs.Words.{IccReg, Sgi1r, Key, Private, GuestShape, has_bit, irq_of}
use Rattle.pe_loop.specs.Calls.{Event, icc_raises, sgi_at}
use Rattle.pe_loop.specs.GicCall.declared.event.Event.TheVariants.{Raise as RaiseEvent}
use Rattle.pe_loop.proofs.GicCall.RangeLemmas.{range_with_len_more}
use Rattle.pe_loop.specs.Core.{Local, Raise, concerned, no_vcpus, owes_no_mark, owes_nothing, Seen, shape_of, part_events}
use Rattle.pe_loop.proofs.PortCore.PortLemmas.{adds_join}
use Rattle.pe_loop.specs.PortCall.Rest.{StaysAtEase}
use Rattle.pe_loop.specs.PortCall.Tell.{Tells}
use Rattle.pe_loop.proofs.PortCall.PieceLemmas.{piece_nil, seen_nil}
use Rattle.pe_loop.proofs.PortCall.RestLemmas.{ease_owes, owes_none, told_at_ease}
use Rattle.pe_loop.proofs.PortCall.TryLemmas.{none_append}
use Rattle.pe_loop.proofs.PortCall.TurnLemmas.{events_then, piece_then}
use Rattle.pe_icc.specs.Sgi.{silent, sgis_before, sgi_written, Sends}

pub sends_none : (seen : Seen) → IsTrue (owes_nothing seen.local) → Sends seen seen []
sends_none seen owes =
    record {
      part = [];
      adds = record { new_is = sym (seen_nil seen) };
      none_taken = refl;
      events_are = refl;
      none = λ e. refl;
      piece = piece_nil seen;
      stays = record { same = refl; marks = no_marks (owes_none seen.local owes).marks };
    }
  where
    no_marks : IsTrue (owes_no_mark seen.local) → seen.local.marks.vcpus ≡ no_vcpus
    no_marks h = let set : ℕ → Targets = λ n. record { 0 = n } in ap set (eqb-true seen.local.marks.vcpus.0 0 h)

pub sends_one : (old new : Seen) (key : Key) → IsTrue (owes_nothing old.local) → Tells old new (Raise key) key (RaiseEvent key) → Sends old new (RaiseEvent key ∷ [])
sends_one old new key owes tells =
    record {
      part = tells.part;
      adds = tells.adds;
      none_taken = tells.none_taken;
      events_are = tells.events;
      none = λ e. absurd (cc);
      piece = tells.piece;
      stays = subst (StaysAtEase old.local) (sym tells.local_is) (told_at_ease (shape_of old) old.actor key (concerned (shape_of old) (irq_of tells.form.change.found)) old.local owes);
    }

stays_then : (one two three : Local) → StaysAtEase one two → StaysAtEase two three → StaysAtEase one three
stays_then one two three a b =
    let back : Local → Local = λ local. record local { marks = one.marks } in
    record { same = ap back b.same ∙ a.same; marks = b.marks }

no_events : (early late : List Event) → early ++ late ≡ [] → (early ≡ []) × (late ≡ [])
no_events [] late e = (refl, e)
no_events (event ∷ early) late e = absurd (cc)

pub sends_then : (old mid new : Seen) (early late : List Event) → Sends old mid early → Sends mid new late → Sends old new (early ++ late)
sends_then old mid new early late one two =
    record {
      part = one.part ++ two.part;
      adds = adds_join old mid new one.part two.part one.adds two.adds;
      none_taken = none_append one.part two.part one.none_taken two.none_taken;
      events_are =
          events_then old mid one.part two.part one.adds
          ∙ ap (λ events. events ++ part_events mid two.part) one.events_are
          ∙ ap (λ events. map silent early ++ events) two.events_are
          ∙ sym (map-append silent early late);
      none = λ e. let parts = no_events early late e in ap (λ part. part ++ two.part) (one.none parts.0) ∙ two.none parts.1;
      piece = piece_then old mid one.part two.part one.adds one.piece two.piece;
      stays = stays_then old.local mid.local new.local one.stays two.stays;
    }

pub still_owing : (old now : Seen) {events : List Event} → IsTrue (owes_nothing old.local) → Sends old now events → IsTrue (owes_nothing now.local)
still_owing old now owes sends = ease_owes old.local now.local sends.stays owes

-- one vCPU more
more_sgis : (value sender vcpu vcpus id : ℕ) (set : ℕ) → vcpu < vcpus → has_bit set vcpu ≡ (nat_lt vcpu vcpus && is_target value sender vcpu) → id ≡ intid_of value
    → sgis_before value sender vcpu ++ (if has_bit set vcpu then RaiseEvent (Private vcpu id) ∷ [] else []) ≡ sgis_before value sender (vcpu + 1)
more_sgis value sender vcpu vcpus id set less member id_is =
    let more : suc vcpu ≡ vcpu + 1 = omega arith in
    ap (λ b. sgis_before value sender vcpu ++ (if b then RaiseEvent (Private vcpu id) ∷ [] else [])) (member ∙ ap (λ b. b && is_target value sender vcpu) (lt-ltb vcpu vcpus less))
    ∙ ap (λ id. sgis_before value sender vcpu ++ (if is_target value sender vcpu then RaiseEvent (Private vcpu id) ∷ [] else [])) id_is
    ∙ ap (λ events. sgis_before value sender vcpu ++ events) (of (is_target value sender vcpu))
    ∙ sym (filter_map-append (sgi_at value sender) (range_with_len 0 vcpu) (vcpu ∷ []))
    ∙ ap (filter_map (sgi_at value sender)) (sym (range_with_len_more 0 vcpu vcpu (omega arith)))
    ∙ ap (sgis_before value sender) more
  where
    of : (b : Bool)
        → (if b then RaiseEvent (Private vcpu (intid_of value)) ∷ [] else []) ≡ filter_map (λ one. if b then Some (RaiseEvent (Private one (intid_of value))) else None) (vcpu ∷ [])
    of true = refl
    of false = refl

pub sent_more : (old now new : Seen) (value sender vcpu vcpus id : ℕ) (set : ℕ) → vcpu < vcpus → has_bit set vcpu ≡ (nat_lt vcpu vcpus && is_target value sender vcpu) → id ≡ intid_of value → Sends old now (sgis_before value sender vcpu)
    → Sends now new (if has_bit set vcpu then RaiseEvent (Private vcpu id) ∷ [] else []) → Sends old new (sgis_before value sender (vcpu + 1))
sent_more old now new value sender vcpu vcpus id set less member id_is before one =
    subst (Sends old new) (more_sgis value sender vcpu vcpus id set less member id_is)
    (sends_then old now new (sgis_before value sender vcpu) (if has_bit set vcpu then RaiseEvent (Private vcpu id) ∷ [] else []) before one)

pub no_raises : (shape : GuestShape) (actor : ℕ) (reg : IccReg) (write : Option ℕ) → sgi_written reg write ≡ None → icc_raises shape actor reg write ≡ []
no_raises shape actor Sgi1r None e = refl
no_raises shape actor Sgi1r (Some value) e = absurd (cc)
no_raises shape actor reg write e = refl

pub all_raises : (shape : GuestShape) (actor : ℕ) (reg : IccReg) (write : Option ℕ) (value : ℕ) → sgi_written reg write ≡ Some value → icc_raises shape actor reg write ≡ sgis_before value actor shape.vcpus
all_raises shape actor Sgi1r None value e = absurd (cc)
all_raises shape actor Sgi1r (Some written) value e = let same : written ≡ value = cc in ap (λ value. sgis_before value actor shape.vcpus) same
all_raises shape actor reg write value e = absurd (cc)
