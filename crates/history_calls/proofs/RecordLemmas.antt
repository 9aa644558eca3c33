-- Where each touch found a record that its interrupt can have, each interrupt is found with one.
use Rattle.std.proofs.Common.{◌≡◌, ℕ, ◌%◌, ◌==◌, ◌<◌, nat_lt, Bool, true, false, cond, IsTrue, lit<, List, [], ◌∷◌, fold, Option, Some, None, refl, sym, ap, ◌∙◌, subst, arith}
use Rattle.std.proofs.Math.Bool.{not-or_self}
use Rattle.std.proofs.lemmas.Bool.{and_parts}
use Rattle.std.proofs.lemmas.Grind.{common_steps}
use Rattle.history_calls.specs.Words.{GuestShape, Key, Private, Spi, Lpi, Irq, Route, Affinity, Target, IsShape, has_interrupt, is_of_kind, is_routed_as, is_vcpu_or_none, IsRecordOf, IsRoute, IsSeat}
use Rattle.history_calls.specs.Calls.{Event, Touch, Found, Record, Happened, opening_irq}
use Rattle.legal_lists.proofs.GicBase.KeyLemmas.{same_key}
use Rattle.history_calls.specs.Found.{touches, telling, record_in}
use Rattle.history_calls.specs.Exact.{fits_route, is_record, finds_record, are_records, HasRecords}

-- Records.

seat : (shape : GuestShape) (vcpu : Option ℕ) → IsShape shape → is_vcpu_or_none shape vcpu ≡ true → IsSeat vcpu
seat shape None good h = tt
seat shape (Some vcpu) good h = grind (arith, common_steps, h, good.vcpus)

routed : (shape : GuestShape) (route : Route) → IsShape shape → fits_route shape route ≡ true → IsRoute route
routed shape (Affinity affinity) good h = grind (arith, common_steps, h)
routed shape (Target target) good h = seat shape target good h

record_of : (shape : GuestShape) (key : Key) (irq : Irq) → IsShape shape → is_record shape key irq ≡ true → IsRecordOf shape key irq
record_of shape key irq good h =
    let one = and_parts (irq.prio % 8 == 0) _ h in
    let two = and_parts (nat_lt irq.prio 256) _ one.1 in
    let three = and_parts (is_vcpu_or_none shape irq.act_by) _ two.1 in
    let four = and_parts (is_vcpu_or_none shape irq.holder) _ three.1 in
    let five = and_parts (fits_route shape irq.route) _ four.1 in
    let six = and_parts (is_routed_as shape key irq.route) (is_of_kind key irq) five.1 in
    record {
      packable = record { prio = grind (arith, common_steps, one.0); prio_bits = grind (arith, common_steps, two.0); active = seat shape irq.act_by good three.0; holder = seat shape irq.holder good four.0; route = routed shape irq.route good five.0 };
      route = six.0;
      kind = six.1;
      active = three.0;
      holder = four.0;
    }

opening_record : (shape : GuestShape) (key : Key) → IsShape shape → IsTrue (has_interrupt shape key) → IsRecordOf shape key (opening_irq true key)
opening_record shape (Private vcpu id) good there =
    let few : vcpu < 32 = grind (arith, common_steps, good.vcpus) in
    record { packable = record { prio = refl; prio_bits = lit< tt; active = tt; holder = tt; route = few }; route = grind (arith, common_steps); kind = not-or_self (nat_lt id 16); active = refl; holder = refl }
opening_record shape (Spi id) good there = record { packable = record { prio = refl; prio_bits = lit< tt; active = tt; holder = tt; route = lit< tt }; route = refl; kind = refl; active = refl; holder = refl }
opening_record shape (Lpi id) good there = record { packable = record { prio = refl; prio_bits = lit< tt; active = tt; holder = tt; route = tt }; route = refl; kind = refl; active = refl; holder = refl }

-- Pieces.

module _ (shape : GuestShape) (good : IsShape shape) (key : Key) (there : IsTrue (has_interrupt shape key)) where
  found_one : (event : Event) (found : Found) → touches key event ≡ true → finds_record shape event found ≡ true → IsRecordOf shape key (record_in key (Some found))
  found_one (Touch other touching) (Record irq) same h = record_of shape key irq good (ap (λ k. is_record shape k irq) (sym (same_key other key same)) ∙ h)
  found_one (Touch other touching) found same h = opening_record shape key good there
  found_one event found same h = absurd (cc)

  found_last : (acc : Option Found) (piece : List Happened) → IsRecordOf shape key (record_in key acc) → are_records shape piece ≡ true → IsRecordOf shape key (record_in key (fold (telling (touches key)) acc piece))
  found_last acc [] so h = so
  found_last acc (one ∷ piece) so h =
      let both = and_parts (finds_record shape one.event one.found) (are_records shape piece) h in
      found_last (telling (touches key) acc one) piece (of (touches key one.event) refl both.0) both.1
    where
      of : (b : Bool) → touches key one.event ≡ b → finds_record shape one.event one.found ≡ true → IsRecordOf shape key (record_in key (cond (touches key one.event) (Some one.found) acc))
      of true e k = subst (λ c. IsRecordOf shape key (record_in key (cond c (Some one.found) acc))) (sym e) (found_one one.event one.found e k)
      of false e k = subst (λ c. IsRecordOf shape key (record_in key (cond c (Some one.found) acc))) (sym e) so

pub records_found : (shape : GuestShape) (piece : List Happened) → IsShape shape → are_records shape piece ≡ true → HasRecords shape piece
records_found shape piece good h = λ key there. found_last shape good key there None piece (opening_record shape key good there) h
