-- What a vCPU holds leaves, place by place.
use Rattle.std.proofs.Common.{◌≡◌, ◌≢◌, ℕ, zero, suc, ◌+◌, ◌<◌, ◌&&◌, not, Bool, true, false, cond, if◌then◌else◌, IsTrue, List, [], ◌∷◌, ◌++◌, map, take, length, slice_index_or, All, Contains, Option, Some, None, is_none, refl, sym, ap, subst, ◌∙◌, arith}
use Rattle.std.specs.List.{filter_map, list_all}
use Rattle.std.specs.Option.{option_map}
use Rattle.std.proofs.lemmas.Bool.{and_parts, eqb-true}
use Rattle.std.proofs.lemmas.Option.{none-some}
use Rattle.port_call.proofs.VcpuRefill.ElementLemmas.{Contains-map}
use Rattle.vcpu_state.proofs.GicBase.KeyLemmas.{same_itself}
use Rattle.port_call.specs.Calls.{Residence, Beside, IsCall, named_of}
use Rattle.port_call.specs.Core.{vcpu_of_actor, maps_taken, is_settled, AtIrq, Local, interface_of, shown, CanGiveBack, is_vcpu, back_of, entry_for, without_at, no_vcpus, owes_no_mark, owes_nothing, Seen, IsPort, shape_of, part_events, IsAt, IsLocal}
use Rattle.std.proofs.lemmas.List.{take_all, map-append}
use Rattle.std.proofs.lemmas.List.Elements.{All-nil, All-cons, All-head, All-tail, All-map, All-weaker, All-contains, All-contains_itself}
use Rattle.std.proofs.lemmas.List.FromFn.{get_or-map-range_with_len}
use Rattle.std.proofs.lemmas.List.Sums.{fold-append}
use Rattle.port_call.specs.Words.{Back, HeldIrq, Key, GuestShape, has_interrupt, is_same_key}
use Rattle.port_call.specs.Lists.{IsHeld}
use Rattle.port_call.specs.Registers.{AtInterface, Targets}
use Rattle.port_call.proofs.CoreProper.OnceLemmas.{found_itself, entry_without}
use Rattle.port_call.proofs.PieceLemmas.{piece_nil, piece_is_part, seen_nil}
use Rattle.port_call.proofs.RestLemmas.{owes_none, ease_owes}
use Rattle.port_call.proofs.TryLemmas.{none_append}
use Rattle.port_call.proofs.TurnLemmas.{piece_then, events_then}
use Rattle.port_call.proofs.PortCore.PortLemmas.{adds_join}
use Rattle.vcpu_state.specs.Fold.{back_at, back_from, folded}
use Rattle.vcpu_state.proofs.BackLemmas.{comes_back}
use Rattle.vcpu_state.specs.declared.loaded.Loaded.{Loaded}
use Rattle.vcpu_state.specs.Holding.{held_keys}
use Rattle.vcpu_state.specs.declared.shelved.Shelved.{Shelved}
use Rattle.vcpu_state.specs.Moves.{shelved_of}
use Rattle.pe_loop.specs.Leave.{left_by, without_all, keys_before, CanReleaseHeld, IsLeaving, Leaves, Releases, ReleasesHeld}
use Rattle.pe_loop.specs.Moves.{are_moves}
use Rattle.pe_loop.specs.Stay.{IsOn}
use Rattle.pe_loop.proofs.MoveLemmas.{moves_unnamed, only_leave}

-- What stands at the interface of what is held.

-- what stands there of an interrupt that is shown
record StandsThere (shape : GuestShape) (at : List AtIrq) (one : AtInterface) : Type 0 where
  entry : AtIrq
  found : entry_for one.key at ≡ Some entry
  is : shown entry ≡ one
  whole : entry.given ≡ false
  there : IsTrue (has_interrupt shape one.key)

not_is : (b : Bool) → IsTrue (not b) → b ≡ false
not_is true h = absurd (cc)
not_is false h = refl

whole_each : (at : List AtIrq) → IsTrue (list_all (λ at. not at.given) at) → All (λ at. at.given ≡ false) at
whole_each [] h = All-nil (λ at. at.given ≡ false)
whole_each (one ∷ rest) h =
    let parts = and_parts (not one.given) (list_all (λ at. not at.given) rest) h in
    All-cons (λ at. at.given ≡ false) one rest (not_is one.given parts.0) (whole_each rest parts.1)

stands_each : (shape : GuestShape) (actor : ℕ) (local : Local) → IsLocal shape actor local → IsTrue (list_all (λ at. not at.given) local.at) → All (StandsThere shape local.at) (map shown local.at)
stands_each shape actor local is whole =
    All-map (StandsThere shape local.at) shown local.at
    (All-weaker (Contains local.at) (λ entry. StandsThere shape local.at (shown entry)) (λ entry has. record {
      entry = entry;
      found = All-contains (λ entry. entry_for entry.key local.at ≡ Some entry) local.at entry (found_itself local.at is.once) has;
      is = refl;
      whole = All-contains (λ at. at.given ≡ false) local.at entry (whole_each local.at whole) has;
      there = (All-contains (IsAt shape actor) local.at entry is.at has).there;
    }) local.at (All-contains_itself local.at))

-- a held interrupt with what stands of it
pub record IsHeldAs (shape : GuestShape) (local : Local) (vcpu : Loaded) (place : ℕ) (one : HeldIrq) : Type 0 where
  pub entry : AtIrq
  pub at : entry_for one.key local.at ≡ Some entry
  pub whole : entry.given ≡ false
  pub back : back_at vcpu.regs vcpu.held place ≡ Some (back_of entry)
  pub there : IsTrue (has_interrupt shape one.key)

pub held_as : (seen : Seen) (vcpu : Loaded) (place : ℕ) (one : HeldIrq) → IsPort seen → IsOn seen vcpu → slice_index_or vcpu.held place None ≡ Some one → IsHeldAs (shape_of seen) seen.local vcpu place one
held_as seen vcpu place one port on there =
    let shape = shape_of seen in
    let local = seen.local in
    let back = comes_back vcpu.regs vcpu.held (interface_of local) place one on.stands there in
    let stands = All-contains (StandsThere shape local.at) (map shown local.at) back.entry (stands_each shape seen.actor local port.local on.whole) back.among in
    record {
      entry = stands.entry;
      at = ap (λ key. entry_for key local.at) (sym back.key) ∙ stands.found;
      whole = stands.whole;
      back = back.back ∙ ap (λ entry. Some (back_from entry)) (sym stands.is);
      there = ap (has_interrupt shape) (sym back.key) ∙ stands.there;
    }

-- It stays while others leave.

pub entry_stays : (key : Key) (keys : List Key) (at : List AtIrq) → All (λ other. other ≢ key) keys → entry_for key (without_all keys at) ≡ entry_for key at
entry_stays key [] at differ = refl
entry_stays key (other ∷ keys) at differ =
    let P : Key → Type 0 = λ other. other ≢ key in
    entry_stays key keys (without_at other at) (All-tail P other keys differ) ∙ entry_without other key (λ e. All-head P other keys differ (sym e)) at

-- The keys at the first places.

key_of : Option HeldIrq → Option Key
key_of place = option_map (λ held. held.key) place

before_all : (P : Key → Type 0) (held : List (Option HeldIrq)) (place : ℕ) → ((j : ℕ) (other : HeldIrq) → j < place → slice_index_or held j None ≡ Some other → P other.key) → All P (filter_map (option_map (λ held. held.key)) (take place held))
before_all P held zero h = All-nil P
before_all P [] (suc place) h = All-nil P
before_all P (None ∷ held) (suc place) h = before_all P held place (λ j other l e. h (suc j) other (omega (arith, l)) e)
before_all P (Some one ∷ held) (suc place) h =
    All-cons P one.key (filter_map (option_map (λ held. held.key)) (take place held)) (h 0 one (omega arith) refl) (before_all P held place (λ j other l e. h (suc j) other (omega (arith, l)) e))

before_differ : (seen : Seen) (vcpu : Loaded) (place : ℕ) (one : HeldIrq) → IsOn seen vcpu → slice_index_or vcpu.held place None ≡ Some one → All (λ other. other ≢ one.key) (keys_before place vcpu)
before_differ seen vcpu place one on there =
    before_all (λ other. other ≢ one.key) vcpu.held place (λ j other l e same. let eq : j ≡ place = on.stands.places.once j place other one e there same in omega (arith, l, eq))

-- one place more
more_some : (held : List (Option HeldIrq)) (place : ℕ) (one : HeldIrq) → slice_index_or held place None ≡ Some one
    → filter_map (option_map (λ held. held.key)) (take (suc place) held) ≡ filter_map (option_map (λ held. held.key)) (take place held) ++ one.key ∷ []
more_some [] zero one e = absurd (cc)
more_some [] (suc place) one e = absurd (cc)
more_some (x ∷ held) zero one e = ap (λ o. filter_map (option_map (λ held. held.key)) (o ∷ [])) e
more_some (None ∷ held) (suc place) one e = more_some held place one e
more_some (Some x ∷ held) (suc place) one e = ap (λ keys. x.key ∷ keys) (more_some held place one e)

more_none : (held : List (Option HeldIrq)) (place : ℕ) → slice_index_or held place None ≡ None
    → filter_map (option_map (λ held. held.key)) (take (suc place) held) ≡ filter_map (option_map (λ held. held.key)) (take place held)
more_none [] zero e = refl
more_none [] (suc place) e = refl
more_none (x ∷ held) zero e = ap (λ o. filter_map (option_map (λ held. held.key)) (o ∷ [])) e
more_none (None ∷ held) (suc place) e = more_none held place e
more_none (Some x ∷ held) (suc place) e = ap (λ keys. x.key ∷ keys) (more_none held place e)

-- The loop.

pub none_left_yet : (seen : Seen) (vcpu : Loaded) → IsTrue (owes_nothing seen.local) → IsLeaving seen seen vcpu 0
none_left_yet seen vcpu owes =
    record {
      part = [];
      adds = record { new_is = sym (seen_nil seen) };
      none_taken = refl;
      events = refl;
      piece = piece_nil seen;
      same = refl;
      at = refl;
      marks = no_marks (owes_none seen.local owes).marks;
    }
  where
    no_marks : IsTrue (owes_no_mark seen.local) → seen.local.marks.vcpus ≡ no_vcpus
    no_marks h = let set : ℕ → Targets = λ n. record { 0 = n } in ap set (eqb-true seen.local.marks.vcpus.0 0 h)

-- so far nothing is owed
leaving_owes : (old now : Seen) (vcpu : Loaded) (place : ℕ) → IsTrue (owes_nothing old.local) → IsLeaving old now vcpu place → IsTrue (owes_nothing now.local)
leaving_owes old now vcpu place owes so = ease_owes old.local (record now.local { at = old.local.at; phase = old.local.phase }) (record { same = so.same; marks = so.marks }) owes

pub can_give : (old now : Seen) (vcpu : Loaded) (place : ℕ) (one : HeldIrq) (back : Back) → IsPort old → IsOn old vcpu → slice_index_or vcpu.held place None ≡ Some one → back_at vcpu.regs vcpu.held place ≡ Some back → IsLeaving old now vcpu place → CanGiveBack one.key back now.local
can_give old now vcpu place one back port on there is so =
    let held = held_as old vcpu place one port on there in
    record {
      entry = held.entry;
      at = ap (entry_for one.key) so.at ∙ entry_stays one.key (keys_before place vcpu) old.local.at (before_differ old vcpu place one on there) ∙ held.at;
      here = held.whole;
      whole = some_is back (back_of held.entry) (sym is ∙ held.back);
    }
  where
    some_is : (one other : Back) → Some one ≡ Some other → one ≡ other
    some_is one other e = cc

pub still_there : (old now : Seen) (vcpu : Loaded) (place : ℕ) (one : HeldIrq) → IsPort old → IsOn old vcpu → slice_index_or vcpu.held place None ≡ Some one → IsLeaving old now vcpu place → IsTrue (has_interrupt (shape_of now) one.key)
still_there old now vcpu place one port on there so = ap (λ seen. has_interrupt (shape_of seen) one.key) so.adds.new_is ∙ (held_as old vcpu place one port on there).there

-- what may leave next
pub can_leave : (old now : Seen) (vcpu : Loaded) (place : ℕ) (backs : List (Option Back)) → place < 16 → backs ≡ folded vcpu.regs vcpu.held → IsPort old → IsOn old vcpu → IsLeaving old now vcpu place
    → CanReleaseHeld now (slice_index_or vcpu.held place None) (slice_index_or backs place None)
can_leave old now vcpu place backs within folds port on so = of (slice_index_or vcpu.held place None) refl
  where
    of : (o : Option HeldIrq) → slice_index_or vcpu.held place None ≡ o → CanReleaseHeld now o (slice_index_or backs place None)
    of None e = tt
    of (Some one) e =
        let held = held_as old vcpu place one port on e in
        record {
          one = back_of held.entry;
          back_is = ap (λ backs. slice_index_or backs place None) folds ∙ get_or-map-range_with_len (back_at vcpu.regs vcpu.held) 0 16 place place None within (omega arith) ∙ held.back;
          can = can_give old now vcpu place one (back_of held.entry) port on e held.back so;
          there = still_there old now vcpu place one port on e so;
        }

-- one more left
one_left : (old now new : Seen) (vcpu : Loaded) (place : ℕ) (one : HeldIrq) (back : Back) → slice_index_or vcpu.held place None ≡ Some one → IsLeaving old now vcpu place → Releases now new one.key back → IsLeaving old new vcpu (suc place)
one_left old now new vcpu place one back there so left =
    let late = left.give ∷ left.release ∷ left.sent in
    let keys : keys_before (suc place) vcpu ≡ keys_before place vcpu ++ one.key ∷ [] = more_some vcpu.held place one there in
    let back_to : Local → Local = λ local. record local { at = old.local.at; phase = old.local.phase; marks = old.local.marks } in
    let actor : now.actor ≡ old.actor = ap (λ seen. seen.actor) so.adds.new_is in
    record {
      part = so.part ++ late;
      adds = adds_join old now new so.part late so.adds left.adds;
      none_taken = none_append so.part late so.none_taken left.none_taken;
      events =
          events_then old now so.part late so.adds
          ∙ ap (λ events. events ++ part_events now late) so.events
          ∙ ap (λ events. map (left_by old.actor) (keys_before place vcpu) ++ events) (left.events ∙ ap (λ actor. left_by actor one.key ∷ []) actor)
          ∙ sym (map-append (left_by old.actor) (keys_before place vcpu) (one.key ∷ []))
          ∙ ap (map (left_by old.actor)) (sym keys);
      piece = piece_then old now so.part late so.adds so.piece left.piece;
      same = ap back_to left.local_is.same ∙ so.same;
      at =
          left.local_is.at ∙ ap (without_at one.key) so.at
          ∙ sym (fold-append (λ at key. without_at key at) old.local.at (keys_before place vcpu) (one.key ∷ []))
          ∙ ap (λ keys. without_all keys old.local.at) (sym keys);
      marks = left.local_is.marks;
    }

-- or nothing was held there
none_there : (old now : Seen) (vcpu : Loaded) (place : ℕ) → slice_index_or vcpu.held place None ≡ None → IsLeaving old now vcpu place → IsLeaving old now vcpu (suc place)
none_there old now vcpu place there so =
    let keys : keys_before (suc place) vcpu ≡ keys_before place vcpu = more_none vcpu.held place there in
    record {
      part = so.part;
      adds = so.adds;
      none_taken = so.none_taken;
      events = so.events ∙ ap (map (left_by old.actor)) (sym keys);
      piece = so.piece;
      same = so.same;
      at = so.at ∙ ap (λ keys. without_all keys old.local.at) (sym keys);
      marks = so.marks;
    }

pub place_left : (old now new : Seen) (vcpu : Loaded) (place : ℕ) → IsLeaving old now vcpu place → ReleasesHeld now new (slice_index_or vcpu.held place None) → IsLeaving old new vcpu (place + 1)
place_left old now new vcpu place so left = subst (IsLeaving old new vcpu) (omega arith) (of (slice_index_or vcpu.held place None) refl left)
  where
    of : (o : Option HeldIrq) → slice_index_or vcpu.held place None ≡ o → ReleasesHeld now new o → IsLeaving old new vcpu (suc place)
    of None e same = subst (λ seen. IsLeaving old seen vcpu (suc place)) (sym same) (none_there old now vcpu place e so)
    of (Some one) e it = one_left old now new vcpu place one it.back e so it.releases

-- The end.

-- each that is left is none of those that left
not_false : (b : Bool) → b ≡ false → b ≡ true → ⊥
not_false b f t = cc

kept_all : (Q : AtIrq → Type 0) (key : Key) (at : List AtIrq) → All Q at → All (λ entry. Q entry × (is_same_key entry.key key ≡ false)) (without_at key at)
kept_all Q key [] all = All-nil (λ entry. Q entry × (is_same_key entry.key key ≡ false))
kept_all Q key (one ∷ rest) all = of (is_same_key one.key key) refl (kept_all Q key rest (All-tail Q one rest all))
  where
    P : AtIrq → Type 0
    P entry = Q entry × (is_same_key entry.key key ≡ false)

    of : (b : Bool) → is_same_key one.key key ≡ b → All P (without_at key rest) → All P (cond (not b) (one ∷ without_at key rest) (without_at key rest))
    of true e later = later
    of false e later = All-cons P one (without_at key rest) (All-head Q one rest all, e) later

others_left : (keys : List Key) (Q : AtIrq → Type 0) (at : List AtIrq) → All Q at → All (λ entry. Q entry × All (λ key. is_same_key entry.key key ≡ false) keys) (without_all keys at)
others_left [] Q at all = All-weaker Q (λ entry. Q entry × All (λ key. is_same_key entry.key key ≡ false) []) (λ entry q. (q, All-nil (λ key. is_same_key entry.key key ≡ false))) at all
others_left (key ∷ keys) Q at all =
    All-weaker (λ entry. (Q entry × (is_same_key entry.key key ≡ false)) × All (λ key. is_same_key entry.key key ≡ false) keys)
    (λ entry. Q entry × All (λ key. is_same_key entry.key key ≡ false) (key ∷ keys))
    (λ entry parts. (parts.0.0, All-cons (λ key. is_same_key entry.key key ≡ false) key keys parts.0.1 parts.1))
    (without_all keys (without_at key at))
    (others_left keys (λ entry. Q entry × (is_same_key entry.key key ≡ false)) (without_at key at) (kept_all Q key at all))

-- what holds of all that is held holds of what is held at a place
held_at : (P : Key → Type 0) (held : List (Option HeldIrq)) (place : ℕ) (one : HeldIrq) → All P (filter_map (option_map (λ held. held.key)) held) → slice_index_or held place None ≡ Some one → P one.key
held_at P [] place one all e = absurd (none-some one e)
held_at P (None ∷ held) zero one all e = absurd (none-some one e)
held_at P (None ∷ held) (suc place) one all e = held_at P held place one all e
held_at P (Some x ∷ held) zero one all e = let same : x ≡ one = some_is x one e in subst (λ held. P held.key) same (All-head P x.key (filter_map (option_map (λ held. held.key)) held) all)
  where
    some_is : (one other : HeldIrq) → Some one ≡ Some other → one ≡ other
    some_is one other e = cc
held_at P (Some x ∷ held) (suc place) one all e = held_at P held place one (All-tail P x.key (filter_map (option_map (λ held. held.key)) held) all) e

none_of : {X : Type 0} (xs : List X) → All (λ x. ⊥) xs → xs ≡ []
none_of [] all = refl
none_of (x ∷ xs) all = absurd (All-head (λ x. ⊥) x xs all)

-- nothing is left
pub all_left : (seen : Seen) (vcpu : Loaded) → IsOn seen vcpu → without_all (held_keys vcpu) seen.local.at ≡ []
all_left seen vcpu on =
    let at = seen.local.at in
    let keys = held_keys vcpu in
    none_of (without_all keys at)
    (All-weaker (λ entry. IsHeld vcpu.held entry.key × All (λ key. is_same_key entry.key key ≡ false) keys) (λ entry. ⊥)
    (λ entry parts. held_none entry parts.0 parts.1)
    (without_all keys at)
    (others_left keys (λ entry. IsHeld vcpu.held entry.key) at
    (All-weaker (Contains at) (λ entry. IsHeld vcpu.held entry.key) (λ entry has. on.stands.places.each (shown entry) (Contains-map shown at entry has)) at (All-contains_itself at))))
  where
    held_none : (entry : AtIrq) → IsHeld vcpu.held entry.key → All (λ key. is_same_key entry.key key ≡ false) (held_keys vcpu) → ⊥
    held_none entry held others =
        not_false (is_same_key entry.key held.one.key) (held_at (λ key. is_same_key entry.key key ≡ false) vcpu.held held.place held.one others held.there)
        (ap (is_same_key entry.key) held.is ∙ same_itself entry.key)

pub settled_owes : (local : Local) → IsTrue (is_settled local) → IsTrue (owes_nothing local)
settled_owes local h =
    let line = and_parts (owes_nothing local && not local.turn && not local.ctlr) (is_none local.line) h in
    let ctlr = and_parts (owes_nothing local && not local.turn) (not local.ctlr) line.0 in
    (and_parts (owes_nothing local) (not local.turn) ctlr.0).0

pub leaves : (old new : Seen) (vcpu : Loaded) (shelved : Shelved) → length vcpu.held ≡ 16 → IsOn old vcpu → shelved ≡ shelved_of vcpu → IsLeaving old new vcpu 16 → Leaves old new vcpu shelved
leaves old new vcpu shelved each on is so =
    let shape = shape_of old in
    let keys : keys_before 16 vcpu ≡ held_keys vcpu = ap (filter_map (option_map (λ held. held.key))) (take_all 16 vcpu.held (omega (arith, each))) in
    let events : part_events old so.part ≡ map (left_by old.actor) (held_keys vcpu) = so.events ∙ ap (map (left_by old.actor)) keys in
    let empty : new.local.at ≡ [] = so.at ∙ ap (λ keys. without_all keys old.local.at) keys ∙ all_left old vcpu on in
    let owes : IsTrue (owes_nothing new.local) = leaving_owes old new vcpu 16 (settled_owes old.local on.settled) so in
    let settled : IsTrue (is_settled new.local) =
    ap (λ b. b && not new.local.turn && not new.local.ctlr && is_none new.local.line) owes ∙ ap (λ local. not local.turn && not local.ctlr && is_none local.line) so.same ∙ rest_settled old.local on.settled in
    let none : named_of (Some old.actor) (part_events old so.part) ≡ [] = moves_unnamed old.actor (part_events old so.part) (ap (are_moves old.actor) events ∙ only_leave old.actor (held_keys vcpu)) in
    let is_vcpu_so : vcpu_of_actor shape old.actor ≡ Some old.actor = ap (λ b. if b then Some old.actor else None) on.actor.is_one in
    let answer : Option ℕ = None in
    let beside : Beside = record { maps = maps_taken so.part; targets = λ id. None; commands = []; signals = false } in
    let Call : Option ℕ → Type 0 = λ actor. IsCall shape beside actor Residence (part_events old so.part) answer in
    let after = so.adds.new_is in
    record {
      part = so.part;
      adds = so.adds;
      none_taken = so.none_taken;
      events = events;
      piece = so.piece;
      call = record { beside = beside; maps = refl; signals = refl; call = subst Call (sym is_vcpu_so) (none, refl) };
      proper = λ lrs. piece_is_part old so.part Residence lrs None so.piece (ap (λ seen. seen.local.at) (sym after) ∙ empty) (ap (λ seen. is_settled seen.local) (sym after) ∙ settled);
      off =
          record {
            actor =
                record {
                  guest = ap (λ seen. seen.number) after ∙ on.actor.guest ∙ ap (λ vcpu. vcpu.guest) (sym is);
                  number = ap (λ seen. seen.actor) after ∙ on.actor.number ∙ ap (λ vcpu. vcpu.vcpu) (sym is);
                  is_one = ap (λ seen. is_vcpu (shape_of seen) seen.actor) after ∙ on.actor.is_one;
                };
            cpu = ap (λ local. local.cpu) so.same ∙ sym on.cpu ∙ ap (λ vcpu. vcpu.cpu) (sym is);
            empty = empty;
            settled = settled;
          };
    }
  where
    rest_settled : (local : Local) → IsTrue (is_settled local) → (not local.turn && not local.ctlr && is_none local.line) ≡ true
    rest_settled local h = of (owes_nothing local) (not local.turn) (not local.ctlr) (is_none local.line) h
      where
        of : (a b c d : Bool) → IsTrue (a && b && c && d) → (b && c && d) ≡ true
        of true b c d h = h
        of false b c d h = absurd (cc)
