-- Touches of interrupts, one after the other.
use Rattle.std.proofs.Common.{◌≡◌, ℕ, zero, suc, ◌+◌, ◌<◌, ◌==◌, ◌||◌, not, Bool, true, false, cond, if◌then◌else◌, IsTrue, IfSome, List, [], ◌∷◌, ◌++◌, map, All, Option, Some, None, option_map, add-one, append-nil, refl, sym, ap, subst, ◌∙◌, arith}
use Rattle.std.specs.List.{range_with_len, filter_map, cons_option, list_any}
use Rattle.std.specs.Option.{option_map_or, option_to_list}
use Rattle.std.proofs.lemmas.Bool.{and_from, ne_eqb, eq-eqb, eqb-true}
use Rattle.std.proofs.lemmas.List.Folds.{list_any-append}
use Rattle.its_exec.specs.Registers.{Targets, joined, part_at}
use Rattle.std.proofs.lemmas.List.Elements.{All-head, All-tail, All-nil, All-push}
use Rattle.its_exec.specs.Words.{Key, Kind, is_same_key, Irq, irq_of}
use Rattle.its_exec.proofs.GicBase.KeyLemmas.{same_itself}
use Rattle.its_exec.specs.Calls.{Event, Touch, Record, Operation, Touching, Happened, Makes, HandsOut, IsLastRead, is_beside, named_of, held_at, View}
use Rattle.its_exec.proofs.GicCall.RangeLemmas.{filter_map_more, filter_map_found, filter_map_none}
use Rattle.its_exec.specs.Histories.{key_in, names, takes_commands}
use Rattle.its_exec.specs.Core.{Local, Made, has_begun, known_view, may_name, Seen, Adds, shape_of, part_events, makes, is_end_of, progress_of}
use Rattle.its_exec.proofs.PortCore.PortLemmas.{adds_join}
use Rattle.its_exec.specs.PortCall.About.{IsNamedPiece}
use Rattle.its_exec.specs.PortCall.Piece.{IsIdle, IsGoodPiece, IsPiece}
use Rattle.its_exec.specs.PortCall.Rest.{IsAtEase, StaysAtEase}
use Rattle.its_exec.specs.PortCall.Touch.{Touches}
use Rattle.its_exec.proofs.PortCall.PieceLemmas.{seen_nil, piece_nil, good_joins}
use Rattle.its_exec.proofs.PortCall.RestLemmas.{owes_none, ease_owes}
use Rattle.its_exec.proofs.PortCall.TouchLemmas.{named_good}
use Rattle.its_exec.proofs.PortCall.TryLemmas.{none_append}
use Rattle.its_exec.proofs.PortCall.TurnLemmas.{events_then}
use Rattle.pe_mem.specs.Call.{IsPieceOf, NamesAll, is_key_of}
use Rattle.pe_mem.specs.Each.{touched_at, TouchesEach}

-- What is found below a number.

pub found_below : {X : Type 0} (f g : ℕ → Option X) (n : ℕ) → ((m : ℕ) → m < n → f m ≡ g m) → filter_map f (range_with_len 0 n) ≡ filter_map g (range_with_len 0 n)
found_below f g zero same = refl
found_below {X = X} f g (suc n) same =
    let of : (f : ℕ → Option X) → filter_map f (range_with_len 0 (suc n)) ≡ filter_map f (range_with_len 0 n) ++ option_to_list (f n)
    = λ (f : ℕ → Option X). ap (λ k. filter_map f (range_with_len 0 k)) (sym (add-one n)) ∙ filter_map_more f n in
    of f
    ∙ ap (λ xs. xs ++ option_to_list (f n)) (found_below f g n (λ m h. same m (omega (arith, h))))
    ∙ ap (λ o. filter_map g (range_with_len 0 n) ++ option_to_list o) (same n (omega arith))
    ∙ sym (of g)

pub joined_below : (kind : Kind) (f g : ℕ → ℕ) (n : ℕ) → ((m : ℕ) → m < n → f m ≡ g m) → joined kind f n ≡ joined kind g n
joined_below kind f g zero same = refl
joined_below kind f g (suc n) same =
    ap (λ value. value + part_at kind (f n) n) (joined_below kind f g n (λ m h. same m (omega (arith, h)))) ∙ ap (λ part. joined kind g n + part_at kind part n) (same n (omega arith))

pub joined_more : (kind : Kind) (f : ℕ → ℕ) (n : ℕ) → joined kind f (n + 1) ≡ joined kind f n + part_at kind (f n) n
joined_more kind f n = ap (joined kind f) (add-one n)

-- each that is found below a number is so
pub all_below : {X : Type 0} (P : X → Type 0) (f : ℕ → Option X) (n : ℕ) → ((m : ℕ) → m < n → IfSome (f m) P) → All P (filter_map f (range_with_len 0 n))
all_below P f zero each = All-nil P
all_below {X = X} P f (suc n) each =
    let is : filter_map f (range_with_len 0 (suc n)) ≡ filter_map f (range_with_len 0 n) ++ option_to_list (f n) = ap (λ k. filter_map f (range_with_len 0 k)) (sym (add-one n)) ∙ filter_map_more f n in
    subst (All P) (sym is) (of (f n) (each n (omega arith)) (all_below P f n (λ m h. each m (omega (arith, h)))))
  where
    of : (o : Option X) → IfSome o P → All P (filter_map f (range_with_len 0 n)) → All P (filter_map f (range_with_len 0 n) ++ option_to_list o)
    of None here all = subst (All P) (sym (append-nil (filter_map f (range_with_len 0 n)))) all
    of (Some x) here all = All-push P (filter_map f (range_with_len 0 n)) x all here

-- The events.

-- those of the touches are the events
pub events_of_touched : (at : ℕ → Option Event) (irqs : ℕ → Irq) (numbers : List ℕ) → map (λ h. h.event) (filter_map (touched_at at irqs) numbers) ≡ filter_map at numbers
events_of_touched at irqs [] = refl
events_of_touched at irqs (number ∷ numbers) = of (at number) ∙ ap (cons_option (at number)) (events_of_touched at irqs numbers)
  where
    rest : List Happened
    rest = filter_map (touched_at at irqs) numbers

    of : (o : Option Event) → map (λ h. h.event) (cons_option (option_map (λ event. record { event = event; found = Record (irqs number) }) o) rest) ≡ cons_option o (map (λ h. h.event) rest)
    of None = refl
    of (Some event) = refl

-- all of some events are named
pub all_named : (actor : Option ℕ) (piece : List Happened) → All (λ h. is_beside actor h.event ≡ false) piece → named_of actor piece ≡ piece
all_named actor [] all = refl
all_named actor (h ∷ piece) all =
    let Named : Happened → Type 0 = λ h. is_beside actor h.event ≡ false in
    ap (λ b. cond (not b) (h ∷ named_of actor piece) (named_of actor piece)) (All-head Named h piece all) ∙ ap (λ rest. h ∷ rest) (all_named actor piece (All-tail Named h piece all))

-- a touch that found what the view has
pub record IsTouchOf (actor : Option ℕ) (view : View) (irq : Irq) (event : Event) : Type 0 where
  pub named : is_beside actor event ≡ false
  pub hands : HandsOut view event (Record irq)

pub each_made : (actor : Option ℕ) (view : View) (at : ℕ → Option Event) (irqs : ℕ → Irq) (n : ℕ) → ((m : ℕ) → m < n → IfSome (at m) (IsTouchOf actor view (irqs m)))
    → Makes actor view (filter_map at (range_with_len 0 n)) [] [] (filter_map (touched_at at irqs) (range_with_len 0 n))
each_made actor view at irqs n each =
    let piece = filter_map (touched_at at irqs) (range_with_len 0 n) in
    let Named : Happened → Type 0 = λ h. is_beside actor h.event ≡ false in
    let Hands : Happened → Type 0 = λ h. HandsOut view h.event h.found in
    let all : named_of actor piece ≡ piece = all_named actor piece (all_below Named (touched_at at irqs) n (λ m h. named m (at m) (each m h))) in
    record {
      events_are = ap (map (λ h. h.event)) all ∙ events_of_touched at irqs (range_with_len 0 n);
      found = subst (All Hands) (sym all) (all_below Hands (touched_at at irqs) n (λ m h. hands m (at m) (each m h)));
      reads = All-nil (λ place. IsLastRead place (held_at view place) piece);
    }
  where
    named : (m : ℕ) (o : Option Event) → IfSome o (IsTouchOf actor view (irqs m)) → IfSome {T = Happened} (option_map (λ event. record { event = event; found = Record (irqs m) }) o) (λ h. is_beside actor h.event ≡ false)
    named m None is = tt
    named m (Some event) is = is.named

    hands : (m : ℕ) (o : Option Event) → IfSome o (IsTouchOf actor view (irqs m)) → IfSome {T = Happened} (option_map (λ event. record { event = event; found = Record (irqs m) }) o) (λ h. HandsOut view h.event h.found)
    hands m None is = tt
    hands m (Some event) is = is.hands

-- Pieces of a call.

pub own_nil : (seen : Seen) (operation : Operation) → IsPieceOf seen operation []
own_nil seen operation p idle is none = piece_nil seen p idle

pub own_of_piece : (seen : Seen) (operation : Operation) (part : List Made) → IsPiece seen part → IsPieceOf seen operation part
own_of_piece seen operation part piece p idle is none = piece p idle

pub own_joins : (old mid : Seen) (operation : Operation) (early late : List Made) → Adds old mid early → IsPieceOf old operation early → IsPieceOf mid operation late → IsPieceOf old operation (early ++ late)
own_joins old mid operation early late adds one two p idle is none =
    let first = one p idle is none in
    let q = progress_of (shape_of old) old.actor p (map makes early) in
    let second = two q (subst (λ s. IsIdle s q) (sym adds.new_is) first.ends) (ap (λ s. s.operation) first.stays.same ∙ is) (ap (λ s. s.wants) first.stays.same ∙ none) in
    good_joins old p early late first (subst (λ s. IsGoodPiece s q late) adds.new_is second)

-- a piece about an interrupt, in a call that names it
pub own_of_named : (seen : Seen) (operation : Operation) (key : Key) (part : List Made) → takes_commands (shape_of seen) operation ≡ false → ((key : Key) → is_end_of (shape_of seen) seen.actor (Some operation) key ≡ false)
    → ((view : View) → IsTrue (names (shape_of seen) view seen.actor operation key)) → IsNamedPiece seen key part → IsPieceOf seen operation part
own_of_named seen operation key part commands ends named piece p idle is none =
    let shape = shape_of seen in
    named_good seen key part p piece idle
    (record {
      names_it = λ later about untaken.
          let Named : Option Operation → Type 0 = λ operation. IsTrue (option_map_or (λ operation. may_name shape seen.actor (seen.own ++ later) operation key) operation false) in
          subst Named (sym is) (and_from (names shape (known_view shape seen.actor (seen.own ++ later)) seen.actor operation key) _ (named (known_view shape seen.actor (seen.own ++ later))) (ap (λ b. not b || has_begun shape seen.actor (seen.own ++ later)) commands));
      ends_other = ap (λ operation. is_end_of shape seen.actor operation key) is ∙ ends key;
    })
    none

-- At ease.

pub stays_on : (one two three : Local) → StaysAtEase one two → StaysAtEase two three → StaysAtEase one three
stays_on one two three a b =
    let back : Local → Local = λ l. record l { marks = one.marks } in
    record { same = ap back b.same ∙ a.same; marks = b.marks }

pub ease_on : (one two : Local) → StaysAtEase one two → IsAtEase one → IsAtEase two
ease_on one two stays ease = record { owes = ease_owes one two stays ease.owes; empty = ap (λ l. l.at) stays.same ∙ ease.empty }

-- Each of some events.

is_of : Key → Event → Bool
is_of key event = option_map_or (is_same_key key) (key_in event) false

pub key_early : (early late : List Event) (key : Key) → is_key_of early key → is_key_of (early ++ late) key
unfolding is_of
key_early early late key h = list_any-append (is_of key) early late ∙ ap (λ b. b || list_any (is_of key) late) h

pub key_late : (early : List Event) (key : Key) (touching : Touching) → is_key_of (early ++ Touch key touching ∷ []) key
unfolding is_of
key_late early key touching =
    list_any-append (is_of key) early (Touch key touching ∷ []) ∙ ap (λ b. list_any (is_of key) early || (b || false)) (same_itself key) ∙ or_true (list_any (is_of key) early)
  where
    or_true : (b : Bool) → (b || true) ≡ true
    or_true true = refl
    or_true false = refl

-- the records with one more
abbrev pub with_irq : (ℕ → Irq) → ℕ → Irq → ℕ → Irq
with_irq irqs n irq m = if m == n then irq else irqs m

-- the record that an access finds: without the note that one waits for it
abbrev pub found_irq : ℕ → Irq
found_irq found = record (irq_of found) { want = false }

-- one at ease stays so
pub stays_self : (local : Local) → IsAtEase local → StaysAtEase local local
stays_self local ease =
    let none = owes_none local ease.owes in
    let set : ℕ → Targets = λ n. record { 0 = n } in
    record { same = refl; marks = ap set (eqb-true local.marks.vcpus.0 0 none.marks) }

pub touches_none : (seen : Seen) (at : ℕ → Option Event) (irqs : ℕ → Irq) → IsAtEase seen.local → TouchesEach seen seen at 0 irqs
touches_none seen at irqs ease =
    record {
      part = [];
      adds = record { new_is = sym (seen_nil seen) };
      events = refl;
      stays = stays_self seen.local ease;
      none_taken = refl;
      piece = λ operation naming. own_nil seen operation;
    }

-- a number with no touch
pub touches_kept : (old now : Seen) (at : ℕ → Option Event) (n : ℕ) (irqs : ℕ → Irq) → at n ≡ None → TouchesEach old now at n irqs → TouchesEach old now at (n + 1) irqs
touches_kept old now at n irqs here each =
    let untouched : touched_at at irqs n ≡ None = ap (λ o. option_map (λ event. record { event = event; found = Record (irqs n) }) o) here in
    let By : List Event → Type 0 = λ events. (operation : Operation) → NamesAll (shape_of old) old.actor operation events → IsPieceOf old operation each.part in
    record {
      part = each.part;
      adds = each.adds;
      events = each.events ∙ sym (filter_map_none (touched_at at irqs) n untouched);
      stays = each.stays;
      none_taken = each.none_taken;
      piece = subst By (sym (filter_map_none at n here)) each.piece;
    }

-- and one with a touch
pub touches_more :
    (old mid new : Seen) (at : ℕ → Option Event) (n : ℕ) (irqs : ℕ → Irq) (key : Key) (touching : Touching) (found : ℕ) → at n ≡ Some (Touch key touching) → TouchesEach old mid at n irqs → Touches mid new key touching found
    → TouchesEach old new at (n + 1) (with_irq irqs n (found_irq found))
touches_more old mid new at n irqs key touching found here each one =
    let late = one.misses ++ one.touch ∷ one.sent in
    let irqs' : ℕ → Irq = with_irq irqs n (found_irq found) in
    let happened : Happened = record { event = Touch key touching; found = Record (found_irq found) } in
    let early = filter_map (touched_at at irqs) (range_with_len 0 n) in
    let own : irqs' n ≡ found_irq found = ap (λ b. if b then found_irq found else irqs n) (eq-eqb n n refl) in
    let happens : Irq → Option Event → Option Happened = λ irq o. option_map (λ event. record { event = event; found = Record irq }) o in
    let touched : touched_at at irqs' n ≡ Some happened = ap (λ irq. happens irq (at n)) own ∙ ap (happens (found_irq found)) here in
    let same : filter_map (touched_at at irqs') (range_with_len 0 n) ≡ early
    = found_below (touched_at at irqs') (touched_at at irqs) n (λ m h. ap (λ b. happens (if b then found_irq found else irqs m) (at m)) (ne_eqb m n (λ e. omega (arith, e, h)))) in
    let events : filter_map at (range_with_len 0 (n + 1)) ≡ filter_map at (range_with_len 0 n) ++ Touch key touching ∷ [] = filter_map_found at n (Touch key touching) here in
    record {
      part = each.part ++ late;
      adds = adds_join old mid new each.part late each.adds one.adds;
      events =
          events_then old mid each.part late each.adds
          ∙ ap (λ events. events ++ part_events mid late) each.events
          ∙ ap (λ events. early ++ events) one.events
          ∙ ap (λ events. events ++ happened ∷ []) (sym same)
          ∙ sym (filter_map_found (touched_at at irqs') n happened touched);
      stays = stays_on old.local mid.local new.local each.stays one.local_is;
      none_taken = none_append each.part late each.none_taken one.none_taken;
      piece = λ operation naming.
          let is_named : (view : View) → IsTrue (names (shape_of old) view old.actor operation key) = λ view. naming.names_each view key (subst (λ events. is_key_of events key) (sym events) (key_late (filter_map at (range_with_len 0 n)) key touching)) in
          let before : NamesAll (shape_of old) old.actor operation (filter_map at (range_with_len 0 n))
          = record { commands = naming.commands; ends_none = naming.ends_none; names_each = λ view other h. naming.names_each view other (subst (λ events. is_key_of events other) (sym events) (key_early (filter_map at (range_with_len 0 n)) (Touch key touching ∷ []) other h)) } in
          let Ends : Seen → Type 0 = λ seen. (key : Key) → is_end_of (shape_of seen) seen.actor (Some operation) key ≡ false in
          let Commands : Seen → Type 0 = λ seen. takes_commands (shape_of seen) operation ≡ false in
          let Names : Seen → Type 0 = λ seen. (view : View) → IsTrue (names (shape_of seen) view seen.actor operation key) in
          let mid_is = sym each.adds.new_is in
          own_joins old mid operation each.part late each.adds (each.piece operation before) (own_of_named mid operation key late (subst Commands mid_is naming.commands) (subst Ends mid_is naming.ends_none) (subst Names mid_is is_named) one.piece);
    }
