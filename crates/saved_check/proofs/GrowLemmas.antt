-- Tables that grow by the next of a list.
use Rattle.std.proofs.Common.{◌≡◌, ℕ, suc, ◌+◌, ◌<◌, Bool, true, List, length, map, take, get_or, sym, ap, subst, ◌∙◌, arith}
use Rattle.std.specs.Ordering.{nat_cmp}
use Rattle.std.specs.Cmp.{nat_cmp_total}
use Rattle.std.specs.List.Sorted.{IsStrictlySortedBy}
use Rattle.std.specs.Map.{keys_of}
use Rattle.saved_guest.specs.IdealGuests.Words.{GuestShape}
use Rattle.saved_guest.specs.IdealGuests.Registers.{Maps, event_cmp, with_device, with_event, with_collection, IsValid}
use Rattle.saved_guest.specs.IdealGuests.Calls.{DevEnd, EvtEnd, ColEnd}
use Rattle.saved_guest.proofs.IdealGuests.ItsTab.TableLemmas.{event_order}
use Rattle.saved_check.specs.Tables.{dev_entry, evt_entry, col_entry, with_events, can_map}
use Rattle.saved_check.proofs.OrderLemmas.{put_next}
use Rattle.saved_check.proofs.TableLemmas.{valid_with, can_map_next}

pub grown_devs : (start tables new : Maps) (devs : List DevEnd) (i : ℕ) (d : DevEnd) → IsStrictlySortedBy nat_cmp (keys_of (map dev_entry devs)) → i < length devs → tables ≡ record start { devices = map dev_entry (take i devs) }
    → new ≡ with_device tables (get_or devs i d).device (get_or devs i d).bits → new ≡ record start { devices = map dev_entry (take (i + 1) devs) }
grown_devs start tables new devs i d sorted below so_far now =
    now ∙ ap (λ t. with_device t (get_or devs i d).device (get_or devs i d).bits) so_far ∙ ap (λ es. record start { devices = es }) (put_next nat_cmp_total dev_entry devs i d sorted below)
    ∙ ap (λ n. record start { devices = map dev_entry (take n devs) }) {x = suc i} {y = i + 1} (omega arith)

pub grown_cols : (start tables new : Maps) (cols : List ColEnd) (i : ℕ) (d : ColEnd) → IsStrictlySortedBy nat_cmp (keys_of (map col_entry cols)) → i < length cols → tables ≡ record start { collections = map col_entry (take i cols) }
    → new ≡ with_collection tables (get_or cols i d).icid (get_or cols i d).vcpu → new ≡ record start { collections = map col_entry (take (i + 1) cols) }
grown_cols start tables new cols i d sorted below so_far now =
    now ∙ ap (λ t. with_collection t (get_or cols i d).icid (get_or cols i d).vcpu) so_far ∙ ap (λ es. record start { collections = es }) (put_next nat_cmp_total col_entry cols i d sorted below)
    ∙ ap (λ n. record start { collections = map col_entry (take n cols) }) {x = suc i} {y = i + 1} (omega arith)

next_evts : (start : Maps) (evts : List EvtEnd) (i : ℕ) (d : EvtEnd) → IsStrictlySortedBy event_cmp (keys_of (map evt_entry evts)) → i < length evts
    → with_event (with_events start (take i evts)) ((get_or evts i d).device, (get_or evts i d).event) ((get_or evts i d).id, (get_or evts i d).icid) ≡ with_events start (take (i + 1) evts)
next_evts start evts i d sorted below =
    ap (λ es. record start { events = es }) (put_next event_order evt_entry evts i d sorted below) ∙ ap (λ n. with_events start (take n evts)) {x = suc i} {y = i + 1} (omega arith)

pub record Grown (shape : GuestShape) (start new : Maps) (evts : List EvtEnd) (i : ℕ) : Type 0 where
  pub so_far : new ≡ with_events start (take (i + 1) evts)
  pub valid : IsValid shape (with_events start (take (i + 1) evts))

pub grown_evts : (shape : GuestShape) (start tables new : Maps) (evts : List EvtEnd) (i : ℕ) (d : EvtEnd) → IsStrictlySortedBy event_cmp (keys_of (map evt_entry evts)) → i < length evts → tables ≡ with_events start (take i evts) → IsValid shape (with_events start (take i evts))
    → can_map shape tables (get_or evts i d) ≡ true → new ≡ with_event tables ((get_or evts i d).device, (get_or evts i d).event) ((get_or evts i d).id, (get_or evts i d).icid) → Grown shape start new evts i
grown_evts shape start tables new evts i d sorted below so_far valid can now =
    record {
      so_far = now ∙ ap (λ t. with_event t ((get_or evts i d).device, (get_or evts i d).event) ((get_or evts i d).id, (get_or evts i d).icid)) so_far ∙ next_evts start evts i d sorted below;
      valid = subst (IsValid shape) (next_evts start evts i d sorted below) (valid_with shape (with_events start (take i evts)) (get_or evts i d) valid (ap (λ t. can_map shape t (get_or evts i d)) (sym so_far) ∙ can));
    }

-- of valid tables none is refused
pub none_refused : (shape : GuestShape) (start tables : Maps) (evts : List EvtEnd) (i : ℕ) (d : EvtEnd) (can : Bool) → can ≡ can_map shape tables (get_or evts i d) → IsStrictlySortedBy event_cmp (keys_of (map evt_entry evts)) → i < length evts → tables ≡ with_events start (take i evts)
    → IsValid shape (with_events start (take i evts)) → IsValid shape (with_events start evts) → can ≡ true
none_refused shape start tables evts i d can is sorted below so_far first whole = is ∙ ap (λ t. can_map shape t (get_or evts i d)) so_far ∙ can_map_next shape start evts i d sorted whole first.sound below
