-- EnableLPIs rises: the pending table, LPI by LPI.
use Rattle.std.proofs.Common.{append-nil, add-one, zero, suc, ◌≡◌, ◌≢◌, ◌⊎◌, inl, inr, true≢false, ℕ, ◌+◌, ◌*◌, ◌/◌, ◌%◌, ◌<◌, ◌≤◌, ◌==◌, ◌&&◌, ◌||◌, not, Bool, true, false, if◌then◌else◌, nat_lt, nat_le, IsTrue, IfSome, List, [], ◌∷◌, ◌++◌, All, Option, Some, None, refl, sym, ap, subst, ◌∙◌, arith}
use Rattle.std.specs.List.{range_with_len, filter_map, list_any}
use Rattle.std.specs.Option.{option_map_or, option_to_list}
use Rattle.std.proofs.lemmas.List.Folds.{list_any-append}
use Rattle.std.proofs.lemmas.Bool.{and_from, eq-eqb, ne_eqb, leb-true, lt-ltb, le-leb, cases_eq}
use Rattle.std.proofs.lemmas.List.{append_assoc}
use Rattle.std.proofs.lemmas.List.Elements.{All-cons, All-nil, All-append, filter-append}
use Rattle.its_exec.specs.Words.{Key, Lpi, GuestShape, has_interrupt, is_same_key, has_bit, Irq, is_number}
use Rattle.its_exec.proofs.GicBase.KeyLemmas.{same_key, same_itself}
use Rattle.its_exec.specs.Registers.{pending_address, table_at, Part, part_of, extracted}
use Rattle.its_exec.specs.Calls.{PlainWord, Ram, Pendbaser, place_of_plain, plain_count, Event, Touch, Enable, Found, Record, Operation, Place, is_table_zero, is_in_table, pended_at, enable_events, Happened, IsLastRead, is_beside, named_of, View}
use Rattle.its_exec.specs.GicCall.declared.event.Event.TheVariants.{Read}
use Rattle.its_exec.specs.GicCall.declared.event.Found.TheVariants.{Word as FoundWord}
use Rattle.its_exec.specs.GicCall.declared.event.Place.TheVariants.{Word}
use Rattle.its_exec.proofs.GicCall.RangeLemmas.{filter_map_more, filter_map_found, filter_map_none}
use Rattle.its_exec.specs.Histories.{before_enabling, names, takes_commands, key_in}
use Rattle.its_exec.specs.Core.{Made, CoreStep, Look, Raise, Touch as TouchStep, Want, Mark, Kick, Irq as IrqWord, Plain, has_begun, may_name, place_of_word, plain_from, blocks_from, word_of, Seen, Adds, shape_of, seen_after, part_events, is_end_of}
use Rattle.its_exec.proofs.PortCore.PlaceLemmas.{lines_hold}
use Rattle.its_exec.proofs.PortCore.PortLemmas.{adds_join}
use Rattle.its_exec.proofs.PortCore.StepLocals.{no_bit}
use Rattle.its_exec.specs.PortCall.About.{is_about, are_about, IsNamedPiece}
use Rattle.its_exec.specs.PortCall.Memory.{view_by}
use Rattle.its_exec.specs.PortCall.Piece.{takes_none}
use Rattle.its_exec.specs.PortCall.Rest.{IsAtEase, StaysAtEase}
use Rattle.its_exec.specs.PortCall.Touch.{Touches}
use Rattle.its_exec.proofs.PortCall.PieceLemmas.{seen_nil}
use Rattle.its_exec.proofs.PortCall.TouchLemmas.{named_good}
use Rattle.its_exec.proofs.PortCall.TryLemmas.{none_append}
use Rattle.its_exec.proofs.PortCall.TurnLemmas.{events_then}
use Rattle.its_exec.specs.Known.{Knows}
use Rattle.its_exec.specs.Parts.{LooksAtTarget}
use Rattle.its_exec.proofs.FrameLemmas.{Leaves, leaves, knows_on, all_steps, off_each}
use Rattle.its_exec.proofs.LookLemmas.{lpi_place, plain_leaves_plain, plain_known, word_held}
use Rattle.pe_mem.specs.Call.{NamesBy, IsPieceOf, is_key_of}
use Rattle.pe_mem.specs.Looked.{IsLookedAt, all_events, comes_after, comes_before}
use Rattle.pe_mem.specs.Each.{touched_at}
use Rattle.pe_mem.specs.Pending.{part_of_number, is_pended_in, pend, FetchesWord, GetsWord, PendsIf, PendsWhere, DoesNumber}
use Rattle.pe_mem.specs.declared.pending.Fetched.{Fetched}
use Rattle.pe_mem.proofs.LookedLemmas.{all_both, before_higher, looked_before, looked_here}
use Rattle.pe_mem.proofs.EachLemmas.{with_irq, found_irq, found_below, own_nil, own_joins, own_of_piece, key_early, stays_on, stays_self, ease_on}

-- The table.

-- the bit of an LPI by its number, where the words of memory are these
abbrev pub is_pended : GuestShape → ℕ → (ℕ → ℕ) → ℕ → Bool
is_pended shape pendbaser words number = is_pended_in pendbaser (option_map_or (λ part. extracted (words part.index) part) (part_of_number shape pendbaser number) 0) number

-- the touch of an LPI that became pending
abbrev pub pend_at : (ℕ → Bool) → ℕ → Option Event
pend_at pended number = if pended number then Some (Touch (Lpi (8192 + number)) pend) else None

-- where its bit is
pub index_is : (shape : GuestShape) (pendbaser number : ℕ) (part : Part) → part_of_number shape pendbaser number ≡ Some part → part.index ≡ (table_at 16 pendbaser + (8192 + number) / 8) / 8
index_is shape pendbaser number part e = of ((pending_address pendbaser (8192 + number)).0 % 1 == 0 && nat_le ((pending_address pendbaser (8192 + number)).0 + 1) shape.ram) e
  where
    at : ℕ
    at = (pending_address pendbaser (8192 + number)).0

    of : (b : Bool) → (if b then Some (record { index = at / 8; shift = 8 * (at % 8); bits = 8 * 1 }) else None) ≡ Some part → part.index ≡ (table_at 16 pendbaser + (8192 + number) / 8) / 8
    of true f = let same : record { index = at / 8; shift = 8 * (at % 8); bits = 8 * 1 } ≡ part = cc in sym (ap (λ (p : Part). p.index) same)
    of false f = absurd (cc)

-- Last reads.

pub IsUnread : Place → List Happened → Type 0
IsUnread place events = All (λ h. h.event ≡ Read place → ⊥) events

pub last_read_on : (place : Place) (found : Found) (piece more : List Happened) → IsLastRead place found piece → IsUnread place more → IsLastRead place found (piece ++ more)
unfolding IsUnread
last_read_on place found piece more last unread =
    record {
      before = last.before;
      after = last.after ++ more;
      split = ap (λ piece. piece ++ more) last.split ∙ append_assoc last.before ((record { event = Read place; found = found }) ∷ last.after) more;
      last = All-append (λ h. h.event ≡ Read place → ⊥) last.after more last.last unread;
    }

pub last_read_before : (place : Place) (found : Found) (more piece : List Happened) → IsLastRead place found piece → IsLastRead place found (more ++ piece)
last_read_before place found more piece last =
    record {
      before = more ++ last.before;
      after = last.after;
      split = ap (λ piece. more ++ piece) last.split ∙ sym (append_assoc more last.before ((record { event = Read place; found = found }) ∷ last.after));
      last = last.last;
    }

pub unread_of : (place : Place) (events : List Happened) → IsUnread place events → All (λ h. h.event ≡ Read place → ⊥) events
unfolding IsUnread
unread_of place events unread = unread

-- What is known.

about_place : (shape : GuestShape) (actor id : ℕ) (step : CoreStep) → IsTrue (is_about (Lpi id) step)
    → (place_of_word shape (word_of shape actor step) ≡ place_of_word shape (IrqWord (Lpi id))) ⊎ (blocks_from shape ≤ place_of_word shape (word_of shape actor step))
about_place shape actor id (Look (IrqWord other)) h = inl (ap (λ k. place_of_word shape (IrqWord k)) (sym (same_key (Lpi id) other h)))
about_place shape actor id (Raise other) h = inl (ap (λ k. place_of_word shape (IrqWord k)) (sym (same_key (Lpi id) other h)))
about_place shape actor id (TouchStep other seen kind) h = inl (ap (λ k. place_of_word shape (IrqWord k)) (sym (same_key (Lpi id) other h)))
about_place shape actor id (Want other) h = inl (ap (λ k. place_of_word shape (IrqWord k)) (sym (same_key (Lpi id) other h)))
about_place shape actor id (Mark other vcpu) h = inr (omega arith)
about_place shape actor id (Kick vcpu) h = inr (omega arith)
about_place shape actor id _ h = absurd (cc)

-- steps about an LPI leave the plain words
pub about_leaves : (old new : Seen) (id : ℕ) (part : List Made) (word : PlainWord) → IsTrue (has_interrupt (shape_of old) (Lpi id)) → place_of_plain (shape_of old) word < plain_count (shape_of old) → IsTrue (are_about (Lpi id) part) → Adds old new part → IsTrue (takes_none part)
    → Leaves old new (Word word)
about_leaves old new id part word there within about add none =
    let shape = shape_of old in
    leaves old new part (Word word) add none
    (off_each shape old.actor (Plain (place_of_plain shape word)) (is_about (Lpi id)) (λ step h. apart (place_of_word shape (word_of shape old.actor step)) (about_place shape old.actor id step h)) part (sym (all_steps (is_about (Lpi id)) part) ∙ about))
  where
    apart : (m : ℕ) → (m ≡ place_of_word (shape_of old) (IrqWord (Lpi id))) ⊎ (blocks_from (shape_of old) ≤ m) → (m == place_of_word (shape_of old) (Plain (place_of_plain (shape_of old) word))) ≡ false
    apart m (inl same) = let lt = lpi_place (shape_of old) id there in ne_eqb m (place_of_word (shape_of old) (Plain (place_of_plain (shape_of old) word))) (λ e. omega (arith, e, same, lt))
    apart m (inr above) =
        let hold = lines_hold (plain_from (shape_of old) + plain_count (shape_of old)) in
        ne_eqb m (place_of_word (shape_of old) (Plain (place_of_plain (shape_of old) word))) (λ e. omega (arith, e, above, hold, within))

-- What the call names.

one_of : Key → Event → Bool
one_of key event = option_map_or (is_same_key key) (key_in event) false

key_at_number : (f : ℕ → Option Event) (n m : ℕ) (key : Key) (event : Event) → m < n → f m ≡ Some event → IsTrue (one_of key event) → is_key_of (filter_map f (range_with_len 0 n)) key
unfolding one_of
key_at_number f zero m key event h here named = absurd (omega (arith, h))
key_at_number f (suc n) m key event h here named =
    let By : List Event → Type 0 = λ events. is_key_of events key in
    let is : filter_map f (range_with_len 0 (suc n)) ≡ filter_map f (range_with_len 0 n) ++ option_to_list (f n) = ap (λ k. filter_map f (range_with_len 0 k)) (sym (add-one n)) ∙ filter_map_more f n in
    elim (cases_eq m n) [
      | inl e ↦ subst By (sym (is ∙ ap (λ o. filter_map f (range_with_len 0 n) ++ option_to_list o) (ap f (sym e) ∙ here))) (last_key (filter_map f (range_with_len 0 n)))
      | inr differ ↦ subst By (sym is) (key_early (filter_map f (range_with_len 0 n)) (option_to_list (f n)) key (key_at_number f n m key event (omega (arith, h, differ)) here named))
    ]
  where
    or_true : (b : Bool) → (b || true) ≡ true
    or_true true = refl
    or_true false = refl

    last_key : (early : List Event) → is_key_of (early ++ event ∷ []) key
    last_key early = list_any-append (one_of key) early (event ∷ []) ∙ ap (λ b. list_any (one_of key) early || (b || false)) named ∙ or_true (list_any (one_of key) early)

pub named_in : (shape : GuestShape) (view : View) (vcpu pendbaser number word : ℕ) (part : Part) → view.words (Pendbaser vcpu) ≡ pendbaser → view.words (Ram part.index) ≡ word → is_table_zero pendbaser ≡ false → number < shape.lpis
    → part_of_number shape pendbaser number ≡ Some part → is_pended_in pendbaser (extracted word part) number ≡ true → is_key_of (enable_events shape (before_enabling vcpu view) vcpu) (Lpi (8192 + number))
unfolding one_of
named_in shape view vcpu pendbaser number word part base holds some below here bit =
    let v = before_enabling vcpu view in
    let id = 8192 + number in
    let all : List Event = filter_map (λ number. pended_at shape v vcpu (8192 + number)) (range_with_len 0 shape.lpis) in
    let in_table : is_in_table shape v vcpu id ≡ true
    = ap (λ base. has_bit (option_map_or (λ part. extracted (view.words (Ram part.index)) part) (part_of (pending_address base id).0 1 shape.ram) 0) (pending_address base id).1) base
    ∙ ap (λ o. is_pended_in pendbaser (option_map_or (λ part. extracted (view.words (Ram part.index)) part) o 0) number) here
    ∙ ap (λ word. is_pended_in pendbaser (extracted word part) number) holds
    ∙ bit in
    let event : pended_at shape v vcpu id ≡ Some (Touch (Lpi id) pend)
    = ap (λ b. if b && is_in_table shape v vcpu id then Some (Touch (Lpi id) pend) else None) (eq-eqb vcpu vcpu refl) ∙ ap (λ b. if b then Some (Touch (Lpi id) pend) else None) in_table in
    let By : Bool → Type 0 = λ b. is_key_of (Enable vcpu ∷ (if b then [] else all)) (Lpi id) in
    let unset : is_table_zero (view.words (Pendbaser vcpu)) ≡ false = ap is_table_zero base ∙ some in
    subst By (sym unset) (key_at_number (λ number. pended_at shape v vcpu (8192 + number)) shape.lpis number (Lpi id) (Touch (Lpi id) pend) below event (same_itself (Lpi id)))

-- How far the table is.

pub record TableBase (old now : Seen) (vcpu pendbaser n : ℕ) : Type 0 where
  pub part : List Made
  pub adds : Adds old now part
  pub pended : ℕ → Bool
  pub irqs : ℕ → Irq
  pub targets : ℕ → Option ℕ
  pub words : ℕ → ℕ
  pub named : named_of (Some old.actor) (part_events old part) ≡ filter_map (touched_at (pend_at pended) irqs) (range_with_len 0 n)
  pub flags : (m : ℕ) → m < n → pended m ≡ (is_number vcpu (targets m) && is_pended (shape_of old) pendbaser words m)
  pub found : (m : ℕ) → m < n → IsTrue (is_pended (shape_of old) pendbaser words m) → IsLookedAt old part (8192 + m) (targets m)
  pub below : IsTrue (all_events (comes_before (8192 + n)) (part_events old part))
  pub reads : (m : ℕ) → m < n → IfSome (part_of_number (shape_of old) pendbaser m) (λ p. IsLastRead (Word (Ram p.index)) (FoundWord (words p.index)) (part_events old part))
  pub other : IsUnread (Word (Pendbaser vcpu)) (part_events old part)
  pub stays : StaysAtEase old.local now.local
  pub none_taken : IsTrue (takes_none part)
  pub piece : (operation : Operation) → NamesBy (shape_of old) old.actor operation (λ view. enable_events (shape_of old) (before_enabling vcpu view) vcpu) → IsPieceOf old operation part
  pub base_known : Knows now (Word (Pendbaser vcpu)) (FoundWord pendbaser)

-- the word that was looked at last
pub record IsLast (old now : Seen) (vcpu pendbaser n : ℕ) (base : TableBase old now vcpu pendbaser n) (fetched : Fetched) : Type 0 where
  pub known : Knows now (Word (Ram fetched.index)) (FoundWord fetched.word)
  pub holds : base.words fetched.index ≡ fetched.word
  pub read : IsLastRead (Word (Ram fetched.index)) (FoundWord fetched.word) (part_events old base.part)
  pub behind : (m : ℕ) → m < n → IfSome (part_of_number (shape_of old) pendbaser m) (λ p. p.index ≤ fetched.index)
  pub ahead : (m : ℕ) → n ≤ m → IfSome (part_of_number (shape_of old) pendbaser m) (λ p. fetched.index ≤ p.index)

abbrev pub LastIs : (old now : Seen) (vcpu pendbaser n : ℕ) → TableBase old now vcpu pendbaser n → Option Fetched → Type 0
LastIs old now vcpu pendbaser n base None = (m : ℕ) → m < n → part_of_number (shape_of old) pendbaser m ≡ None
LastIs old now vcpu pendbaser n base (Some fetched) = IsLast old now vcpu pendbaser n base fetched

pub record TableSoFar (old now : Seen) (vcpu pendbaser n : ℕ) (last : Option Fetched) : Type 0 where
  pub base : TableBase old now vcpu pendbaser n
  pub last_is : LastIs old now vcpu pendbaser n base last

-- nothing of it yet
pub table_none : (old : Seen) (vcpu pendbaser : ℕ) → IsAtEase old.local → Knows old (Word (Pendbaser vcpu)) (FoundWord pendbaser) → TableSoFar old old vcpu pendbaser 0 None
unfolding IsUnread
table_none old vcpu pendbaser ease known =
    record {
      base =
          record {
            part = [];
            adds = record { new_is = sym (seen_nil old) };
            pended = λ m. false;
            irqs = λ m. found_irq 0;
            targets = λ m. None;
            words = λ i. 0;
            named = refl;
            flags = λ m h. absurd (omega (arith, h));
            found = λ m h bit. absurd (omega (arith, h));
            below = refl;
            reads = λ m h. absurd (omega (arith, h));
            other = All-nil (λ h. h.event ≡ Read (Word (Pendbaser vcpu)) → ⊥);
            stays = stays_self old.local ease;
            none_taken = refl;
            piece = λ operation by. own_nil old operation;
            base_known = known;
          };
      last_is = λ m h. absurd (omega (arith, h));
    }

-- One number more.

next_below : (P : ℕ → Type 0) (n : ℕ) → ((m : ℕ) → m < n → P m) → P n → (m : ℕ) → m < n + 1 → P m
next_below P n before here m h = elim (cases_eq m n) [
  | inl e ↦ subst P (sym e) here
  | inr differ ↦ before m (omega (arith, h, differ))
]

with_flag : (ℕ → Bool) → ℕ → Bool → ℕ → Bool
with_flag flags n flag m = if m == n then flag else flags m

with_target : (ℕ → Option ℕ) → ℕ → Option ℕ → ℕ → Option ℕ
with_target targets n target m = if m == n then target else targets m

with_word : (ℕ → ℕ) → ℕ → ℕ → ℕ → ℕ
with_word words i word j = if j == i then word else words j

-- the flags with one more
flags_more :
    (shape : GuestShape) (vcpu pendbaser n : ℕ) (pended : ℕ → Bool) (targets : ℕ → Option ℕ) (words : ℕ → ℕ) (flag : Bool) (target : Option ℕ) → ((m : ℕ) → m < n → pended m ≡ (is_number vcpu (targets m) && is_pended shape pendbaser words m))
    → (is_number vcpu target && is_pended shape pendbaser words n) ≡ flag
    → (m : ℕ) → m < n + 1 → with_flag pended n flag m ≡ (is_number vcpu (with_target targets n target m) && is_pended shape pendbaser words m)
unfolding with_flag with_target
flags_more shape vcpu pendbaser n pended targets words flag target before here =
    next_below (λ m. with_flag pended n flag m ≡ (is_number vcpu (with_target targets n target m) && is_pended shape pendbaser words m)) n
    (λ m h.
    let other : (m == n) ≡ false = ne_eqb m n (λ e. omega (arith, e, h)) in
    ap (λ b. if b then flag else pended m) other ∙ before m h ∙ sym (ap (λ (b : Bool). is_number vcpu (if b then target else targets m) && is_pended shape pendbaser words m) other))
    (ap (λ b. if b then flag else pended n) (eq-eqb n n refl) ∙ sym here ∙ sym (ap (λ (b : Bool). is_number vcpu (if b then target else targets n) && is_pended shape pendbaser words n) (eq-eqb n n refl)))

flag_at : (pended : ℕ → Bool) (n : ℕ) (flag : Bool) → with_flag pended n flag n ≡ flag
unfolding with_flag
flag_at pended n flag = ap (λ b. if b then flag else pended n) (eq-eqb n n refl)

happens : (ℕ → Irq) → ℕ → Bool → Option Happened
happens irqs m b = touched_at (λ n. if b then Some (Touch (Lpi (8192 + n)) pend) else None) irqs m

-- what was found below a number stays
found_kept : (pended : ℕ → Bool) (irqs : ℕ → Irq) (n : ℕ) (flag : Bool) (irq : Irq)
    → filter_map (touched_at (pend_at (with_flag pended n flag)) (with_irq irqs n irq)) (range_with_len 0 n) ≡ filter_map (touched_at (pend_at pended) irqs) (range_with_len 0 n)
unfolding with_flag
found_kept pended irqs n flag irq =
    found_below (touched_at (pend_at (with_flag pended n flag)) (with_irq irqs n irq)) (touched_at (pend_at pended) irqs) n
    (λ m h.
    let other : (m == n) ≡ false = ne_eqb m n (λ e. omega (arith, e, h)) in
    ap (λ (b : Bool). touched_at (λ k. if (if b then flag else pended m) then Some (Touch (Lpi (8192 + k)) pend) else None) (λ k. if b then irq else irqs m) m) other)

-- with one number more
found_all :
    (old : Seen) (pendbaser n : ℕ) (part : List Made) (targets : ℕ → Option ℕ) (words : ℕ → ℕ) (target : Option ℕ) → ((m : ℕ) → m < n → IsTrue (is_pended (shape_of old) pendbaser words m) → IsLookedAt old part (8192 + m) (targets m))
    → (IsTrue (is_pended (shape_of old) pendbaser words n) → IsLookedAt old part (8192 + n) target)
    → (m : ℕ) → m < n + 1 → IsTrue (is_pended (shape_of old) pendbaser words m) → IsLookedAt old part (8192 + m) (with_target targets n target m)
unfolding with_target
found_all old pendbaser n part targets words target before here =
    next_below (λ m. IsTrue (is_pended (shape_of old) pendbaser words m) → IsLookedAt old part (8192 + m) (with_target targets n target m)) n
    (λ m h bit. subst (IsLookedAt old part (8192 + m)) (sym (ap (λ (b : Bool). if b then target else targets m) (ne_eqb m n (λ e. omega (arith, e, h))))) (before m h bit))
    (λ bit. subst (IsLookedAt old part (8192 + n)) (sym (ap (λ (b : Bool). if b then target else targets n) (eq-eqb n n refl))) (here bit))

-- what comes before the look at a number's LPI, with nothing more, comes before that at the next
below_next : (n : ℕ) (early : List Happened) → IsTrue (all_events (comes_before (8192 + n)) early) → IsTrue (all_events (comes_before (8192 + (n + 1))) early)
below_next n early all = before_higher (8192 + n) (8192 + (n + 1)) (omega arith) early all

-- so it does with the touch of the number's LPI, which comes after the look at it and those at lower ones
below_touched : (n : ℕ) (irq : Irq) (early : List Happened) → IsTrue (all_events (comes_before (8192 + n)) early) → IsTrue (all_events (comes_before (8192 + (n + 1))) (early ++ (record { event = Touch (Lpi (8192 + n)) pend; found = Record irq }) ∷ []))
below_touched n irq early all =
    let h : 8192 + n < 8192 + (n + 1) = omega arith in
    all_both (comes_before (8192 + (n + 1))) early ((record { event = Touch (Lpi (8192 + n)) pend; found = Record irq }) ∷ []) (below_next n early all) (ap (λ b. b && true) (lt-ltb (8192 + n) (8192 + (n + 1)) h))

touched_late : (n m : ℕ) (irq : Irq) → m < n + 1 → IsTrue (all_events (comes_after (8192 + m)) ((record { event = Touch (Lpi (8192 + n)) pend; found = Record irq }) ∷ []))
touched_late n m irq h = ap (λ b. b && true) (le-leb (8192 + m) (8192 + n) (omega (arith, h)))

-- steps after which nothing more is to be seen
base_kept :
    (old now next : Seen) (vcpu pendbaser n : ℕ) (base : TableBase old now vcpu pendbaser n) (target : Option ℕ) (late : List Made) → Adds now next late → part_events now late ≡ [] → next.local ≡ now.local → IsTrue (takes_none late)
    → ((operation : Operation) → ((key : Key) → is_end_of (shape_of now) now.actor (Some operation) key ≡ false) → IsPieceOf now operation late) → Knows next (Word (Pendbaser vcpu)) (FoundWord pendbaser)
    → (is_number vcpu target && is_pended (shape_of old) pendbaser base.words n) ≡ false → (IsTrue (is_pended (shape_of old) pendbaser base.words n) → IsLookedAt old base.part (8192 + n) target)
    → IfSome (part_of_number (shape_of old) pendbaser n) (λ p. IsLastRead (Word (Ram p.index)) (FoundWord (base.words p.index)) (part_events old base.part)) → TableBase old next vcpu pendbaser (n + 1)
unfolding happens with_flag
base_kept old now next vcpu pendbaser n base target late adds silent same none piece known flag looked read =
    let events : part_events old (base.part ++ late) ≡ part_events old base.part
    = events_then old now base.part late base.adds ∙ ap (λ more. part_events old base.part ++ more) silent ∙ append-nil (part_events old base.part) in
    let irq = base.irqs n in
    let missing : touched_at (pend_at (with_flag base.pended n false)) (with_irq base.irqs n irq) n ≡ None = ap (happens (with_irq base.irqs n irq) n) (flag_at base.pended n false) in
    let Reads : List Happened → ℕ → Type 0 = λ piece m. IfSome (part_of_number (shape_of old) pendbaser m) (λ p. IsLastRead (Word (Ram p.index)) (FoundWord (base.words p.index)) piece) in
    let Ends : Seen → Type 0 = λ seen. (operation : Operation) → ((key : Key) → is_end_of (shape_of seen) seen.actor (Some operation) key ≡ false) → IsPieceOf now operation late in
    record {
      part = base.part ++ late;
      adds = adds_join old now next base.part late base.adds adds;
      pended = with_flag base.pended n false;
      irqs = with_irq base.irqs n irq;
      targets = with_target base.targets n target;
      words = base.words;
      named =
          ap (named_of (Some old.actor)) events ∙ base.named ∙ sym (found_kept base.pended base.irqs n false irq)
          ∙ sym (filter_map_none (touched_at (pend_at (with_flag base.pended n false)) (with_irq base.irqs n irq)) n missing);
      flags = flags_more (shape_of old) vcpu pendbaser n base.pended base.targets base.words false target base.flags flag;
      found =
          let all = found_all old pendbaser n base.part base.targets base.words target base.found looked in
          λ m h bit. looked_before old now base.part late (8192 + m) (with_target base.targets n target m) base.adds (ap (all_events (comes_after (8192 + m))) silent) (all m h bit);
      below = ap (all_events (comes_before (8192 + (n + 1)))) events ∙ below_next n (part_events old base.part) base.below;
      reads = let all = next_below (Reads (part_events old base.part)) n base.reads read in λ m h. subst (λ piece. Reads piece m) (sym events) (all m h);
      other = subst (IsUnread (Word (Pendbaser vcpu))) (sym events) base.other;
      stays = subst (StaysAtEase old.local) (sym same) base.stays;
      none_taken = none_append base.part late base.none_taken none;
      piece = λ operation by. own_joins old now operation base.part late base.adds (base.piece operation by) (subst Ends base.adds.new_is piece operation by.ends_none);
      base_known = known;
    }

-- a piece about an interrupt, in a call that names it by what the actor knows
own_of_known : (seen : Seen) (operation : Operation) (key : Key) (part : List Made) → takes_commands (shape_of seen) operation ≡ false → ((key : Key) → is_end_of (shape_of seen) seen.actor (Some operation) key ≡ false)
    → ((later : List Made) → IsTrue (are_about key later) → IsTrue (takes_none later) → IsTrue (names (shape_of seen) (view_by (seen_after seen later)) seen.actor operation key)) → IsNamedPiece seen key part → IsPieceOf seen operation part
own_of_known seen operation key part commands ends named piece p idle is none =
    let shape = shape_of seen in
    named_good seen key part p piece idle
    (record {
      names_it = λ later about untaken.
          let Named : Option Operation → Type 0 = λ operation. IsTrue (option_map_or (λ operation. may_name shape seen.actor (seen.own ++ later) operation key) operation false) in
          subst Named (sym is) (and_from (names shape (view_by (seen_after seen later)) seen.actor operation key) _ (named later about untaken) (ap (λ b. not b || has_begun shape seen.actor (seen.own ++ later)) commands));
      ends_other = ap (λ operation. is_end_of shape seen.actor operation key) is ∙ ends key;
    })
    none

pub lpi_there : (shape : GuestShape) (number : ℕ) → number < shape.lpis → IsTrue (has_interrupt shape (Lpi (8192 + number)))
lpi_there shape number h = both (nat_le 8192 (8192 + number)) (nat_lt (8192 + number) (8192 + shape.lpis)) (le-leb 8192 (8192 + number) (omega arith)) (lt-ltb (8192 + number) (8192 + shape.lpis) (omega (arith, h)))
  where
    both : (a b : Bool) → IsTrue a → IsTrue b → IsTrue (a && b)
    both true true h k = refl
    both true false h k = absurd (cc)
    both false b h k = absurd (cc)

-- the LPI became pending
base_touched :
    (old now next : Seen) (vcpu pendbaser n word found : ℕ) (part : Part) (base : TableBase old now vcpu pendbaser n) (target : Option ℕ) → vcpu < (shape_of now).vcpus → n < (shape_of now).lpis → part.index < (shape_of now).ram / 8 → is_table_zero pendbaser ≡ false
    → part_of_number (shape_of now) pendbaser n ≡ Some part → is_pended_in pendbaser (extracted word part) n ≡ true → Knows now (Word (Ram part.index)) (FoundWord word) → (touches : Touches now next (Lpi (8192 + n)) pend found)
    → (is_number vcpu target && is_pended (shape_of old) pendbaser base.words n) ≡ true → IsLookedAt old base.part (8192 + n) target
    → IfSome (part_of_number (shape_of old) pendbaser n) (λ p. IsLastRead (Word (Ram p.index)) (FoundWord (base.words p.index)) (part_events old base.part)) → TableBase old next vcpu pendbaser (n + 1)
unfolding IsUnread happens with_flag
base_touched old now next vcpu pendbaser n word found part base target vcpu_there below inside unset here bit holds touches flag looked read =
    let key = Lpi (8192 + n) in
    let late = touches.misses ++ touches.touch ∷ touches.sent in
    let irq = found_irq found in
    let happened : Happened = record { event = Touch key pend; found = Record irq } in
    let more : List Happened = happened ∷ [] in
    let events : part_events old (base.part ++ late) ≡ part_events old base.part ++ more = events_then old now base.part late base.adds ∙ ap (λ more. part_events old base.part ++ more) touches.events in
    let irq_is : with_irq base.irqs n irq n ≡ irq = ap (λ b. if b then irq else base.irqs n) (eq-eqb n n refl) in
    let there : touched_at (pend_at (with_flag base.pended n true)) (with_irq base.irqs n irq) n ≡ Some happened
    = ap (happens (with_irq base.irqs n irq) n) (flag_at base.pended n true) ∙ ap (λ irq. Some (record { event = Touch key pend; found = Record irq })) irq_is in
    let Reads : List Happened → ℕ → Type 0 = λ piece m. IfSome (part_of_number (shape_of old) pendbaser m) (λ p. IsLastRead (Word (Ram p.index)) (FoundWord (base.words p.index)) piece) in
    let unread : (place : Place) → IsUnread place more = λ place. All-cons (λ h. h.event ≡ Read place → ⊥) happened [] (λ e. absurd (cc)) (All-nil (λ h. h.event ≡ Read place → ⊥)) in
    let known = about_leaves now next (8192 + n) late (Pendbaser vcpu) (lpi_there (shape_of now) n below) (omega (arith, vcpu_there)) touches.about touches.adds touches.none_taken in
    record {
      part = base.part ++ late;
      adds = adds_join old now next base.part late base.adds touches.adds;
      pended = with_flag base.pended n true;
      irqs = with_irq base.irqs n irq;
      targets = with_target base.targets n target;
      words = base.words;
      named =
          ap (named_of (Some old.actor)) events
          ∙ filter-append (λ h. not (is_beside (Some old.actor) h.event)) (part_events old base.part) more
          ∙ ap (λ early. early ++ more) (base.named ∙ sym (found_kept base.pended base.irqs n true irq))
          ∙ sym (filter_map_found (touched_at (pend_at (with_flag base.pended n true)) (with_irq base.irqs n irq)) n happened there);
      flags = flags_more (shape_of old) vcpu pendbaser n base.pended base.targets base.words true target base.flags flag;
      found =
          let all = found_all old pendbaser n base.part base.targets base.words target base.found (λ bit. looked) in
          λ m h bit. looked_before old now base.part late (8192 + m) (with_target base.targets n target m) base.adds (ap (all_events (comes_after (8192 + m))) touches.events ∙ touched_late n m irq h) (all m h bit);
      below = ap (all_events (comes_before (8192 + (n + 1)))) events ∙ below_touched n irq (part_events old base.part) base.below;
      reads =
          let all = next_below (Reads (part_events old base.part)) n base.reads read in
          λ m h. subst (λ piece. Reads piece m) (sym events) (read_more (part_of_number (shape_of old) pendbaser m) (all m h));
      other = subst (IsUnread (Word (Pendbaser vcpu))) (sym events) (All-append (λ h. h.event ≡ Read (Word (Pendbaser vcpu)) → ⊥) (part_events old base.part) more base.other (unread (Word (Pendbaser vcpu))));
      stays = stays_on old.local now.local next.local base.stays touches.local_is;
      none_taken = none_append base.part late base.none_taken touches.none_taken;
      piece = λ operation by.
          let By : Seen → Type 0 = λ seen. NamesBy (shape_of seen) seen.actor operation (λ view. enable_events (shape_of seen) (before_enabling vcpu view) vcpu) in
          let its : NamesBy (shape_of now) now.actor operation (λ view. enable_events (shape_of now) (before_enabling vcpu view) vcpu) = subst By (sym base.adds.new_is) by in
          own_joins old now operation base.part late base.adds (base.piece operation by)
          (own_of_known now operation key late its.commands its.ends_none
          (λ later about untaken.
          let after = seen_after now later in
          let adds : Adds now after later = record { new_is = refl } in
          let base_left = knows_on now after (Word (Pendbaser vcpu)) (FoundWord pendbaser) (about_leaves now after (8192 + n) later (Pendbaser vcpu) (lpi_there (shape_of now) n below) (omega (arith, vcpu_there)) about adds untaken) base.base_known in
          let word_left = knows_on now after (Word (Ram part.index)) (FoundWord word) (about_leaves now after (8192 + n) later (Ram part.index) (lpi_there (shape_of now) n below) (omega (arith, inside)) about adds untaken) holds in
          let named = named_in (shape_of now) (view_by after) vcpu pendbaser n word part (word_held after (Pendbaser vcpu) pendbaser base_left) (word_held after (Ram part.index) word word_left) unset below here bit in
          subst (λ events. is_key_of events key) (sym (its.named_are (view_by after))) named)
          touches.piece);
      base_known = knows_on now next (Word (Pendbaser vcpu)) (FoundWord pendbaser) known base.base_known;
    }
  where
    read_more : (o : Option Part) → IfSome o (λ p. IsLastRead (Word (Ram p.index)) (FoundWord (base.words p.index)) (part_events old base.part))
        → IfSome o (λ p. IsLastRead (Word (Ram p.index)) (FoundWord (base.words p.index)) (part_events old base.part ++ (record { event = Touch (Lpi (8192 + n)) pend; found = Record (found_irq found) }) ∷ []))
    read_more None last = tt
    read_more (Some p) last =
        let place : Place = Word (Ram p.index) in
        last_read_on place (FoundWord (base.words p.index)) (part_events old base.part) ((record { event = Touch (Lpi (8192 + n)) pend; found = Record (found_irq found) }) ∷ []) last
        (All-cons (λ h. h.event ≡ Read place → ⊥) (record { event = Touch (Lpi (8192 + n)) pend; found = Record (found_irq found) }) [] (λ e. absurd (cc)) (All-nil (λ h. h.event ≡ Read place → ⊥)))

-- The word that has a bit.

-- the same with the word of the number's bit
pub record AtNumber (old now : Seen) (vcpu pendbaser n : ℕ) (part : Part) (fetched : Fetched) : Type 0 where
  pub base : TableBase old now vcpu pendbaser n
  pub last : IsLast old now vcpu pendbaser n base fetched
  pub index : fetched.index ≡ part.index

pub at_same : (old now : Seen) (vcpu pendbaser n : ℕ) (part : Part) (last : Option Fetched) (fetched : Fetched) → last ≡ Some fetched → fetched.index ≡ part.index → TableSoFar old now vcpu pendbaser n last → AtNumber old now vcpu pendbaser n part fetched
at_same old now vcpu pendbaser n part last fetched e index so =
    let So : Option Fetched → Type 0 = λ last. TableSoFar old now vcpu pendbaser n last in
    let its : So (Some fetched) = subst So e so in
    record { base = its.base; last = its.last_is; index = index }

-- parts of earlier numbers are in other words than one that is looked at now
apart_before : (old now : Seen) (vcpu pendbaser n : ℕ) (part : Part) (last : Option Fetched) → part_of_number (shape_of old) pendbaser n ≡ Some part → IfSome last (λ one. one.index ≢ part.index) → (so : TableSoFar old now vcpu pendbaser n last)
    → (m : ℕ) → m < n → IfSome (part_of_number (shape_of old) pendbaser m) (λ p. p.index < part.index)
apart_before old now vcpu pendbaser n part None here other so m h =
    let Below : Option Part → Type 0 = λ o. IfSome o (λ p. p.index < part.index) in subst Below (sym (so.last_is m h)) tt
apart_before old now vcpu pendbaser n part (Some one) here other so m h =
    let Ahead : Option Part → Type 0 = λ o. IfSome o (λ p. one.index ≤ p.index) in
    let ahead : one.index ≤ part.index = subst Ahead here (so.last_is.ahead n (omega arith)) in
    of (part_of_number (shape_of old) pendbaser m) (so.last_is.behind m h) ahead
  where
    of : (o : Option Part) → IfSome o (λ p. p.index ≤ one.index) → one.index ≤ part.index → IfSome o (λ p. p.index < part.index)
    of None below ahead = tt
    of (Some p) below ahead = let strict : one.index < part.index = omega (arith, ahead, other) in omega (arith, below, strict)

pub at_read : (old now next : Seen) (vcpu pendbaser n : ℕ) (part : Part) (last : Option Fetched) (fetched : Fetched) → shape_of now ≡ shape_of old → part.index < (shape_of now).ram / 8 → part_of_number (shape_of old) pendbaser n ≡ Some part
    → FetchesWord now next last part.index fetched → TableSoFar old now vcpu pendbaser n last → AtNumber old next vcpu pendbaser n part fetched
unfolding IsUnread with_word
at_read old now next vcpu pendbaser n part last fetched same inside here gets so =
    let base = so.base in
    let reads = gets.reads in
    let word = fetched.word in
    let read : Happened = record { event = Read (Word (Ram part.index)); found = FoundWord word } in
    let early = part_events old base.part in
    let more : List Happened = read ∷ [] in
    let late = reads.look ∷ [] in
    let events : part_events old (base.part ++ late) ≡ early ++ more = events_then old now base.part late base.adds ∙ ap (λ more. early ++ more) reads.events in
    let words' : ℕ → ℕ = with_word base.words part.index word in
    let apart = apart_before old now vcpu pendbaser n part last here gets.other so in
    let kept : (m : ℕ) → m < n → is_pended (shape_of old) pendbaser words' m ≡ is_pended (shape_of old) pendbaser base.words m = λ m h. ap (λ byte. is_pended_in pendbaser byte m) (byte_kept (part_of_number (shape_of old) pendbaser m) (apart m h)) in
    let own : words' part.index ≡ word = ap (λ b. if b then word else base.words part.index) (eq-eqb part.index part.index refl) in
    let Last : List Happened → ℕ → Type 0 = λ piece m. IfSome (part_of_number (shape_of old) pendbaser m) (λ p. IsLastRead (Word (Ram p.index)) (FoundWord (words' p.index)) piece) in
    let Known : ℕ → Type 0 = λ index. Knows next (Word (Ram index)) (FoundWord word) in
    let At : ℕ → Type 0 = λ index. IsLastRead (Word (Ram index)) (FoundWord word) (part_events old (base.part ++ late)) in
    let Holds : ℕ → Type 0 = λ index. words' index ≡ word in
    let newest : IsLastRead (Word (Ram part.index)) (FoundWord word) (early ++ more) = record { before = early; after = []; split = refl; last = All-nil (λ h. h.event ≡ Read (Word (Ram part.index)) → ⊥) } in
    let its : TableBase old next vcpu pendbaser n = record {
      part = base.part ++ late;
      adds = adds_join old now next base.part late base.adds reads.adds;
      pended = base.pended;
      irqs = base.irqs;
      targets = base.targets;
      words = words';
      named =
          ap (named_of (Some old.actor)) events ∙ filter-append (λ h. not (is_beside (Some old.actor) h.event)) early more ∙ append-nil (named_of (Some old.actor) early) ∙ base.named;
      flags = λ m h. base.flags m h ∙ ap (λ b. is_number vcpu (base.targets m) && b) (sym (kept m h));
      found = λ m h bit. looked_before old now base.part late (8192 + m) (base.targets m) base.adds (ap (all_events (comes_after (8192 + m))) reads.events) (base.found m h (sym (kept m h) ∙ bit));
      below = ap (all_events (comes_before (8192 + n))) events ∙ all_both (comes_before (8192 + n)) early more base.below refl;
      reads = λ m h. subst (λ piece. Last piece m) (sym events) (read_on (part_of_number (shape_of old) pendbaser m) (apart m h) (base.reads m h));
      other =
          subst (IsUnread (Word (Pendbaser vcpu))) (sym events)
          (All-append (λ h. h.event ≡ Read (Word (Pendbaser vcpu)) → ⊥) early more base.other (All-cons (λ h. h.event ≡ Read (Word (Pendbaser vcpu)) → ⊥) read [] (λ e. absurd (cc)) (All-nil (λ h. h.event ≡ Read (Word (Pendbaser vcpu)) → ⊥))));
      stays = subst (StaysAtEase old.local) (sym reads.local_is) base.stays;
      none_taken = none_append base.part late base.none_taken reads.none_taken;
      piece = λ operation by. own_joins old now operation base.part late base.adds (base.piece operation by) (own_of_piece now operation late reads.piece);
      base_known =
          knows_on now next (Word (Pendbaser vcpu)) (FoundWord pendbaser) (plain_leaves_plain now next (Ram part.index) (Pendbaser vcpu) word (λ e. omega (arith, e, inside)) reads) base.base_known;
    } in
    record {
      base = its;
      last =
          record {
            known = subst Known (sym gets.index_is) (plain_known now next (Ram part.index) word reads);
            holds = subst Holds (sym gets.index_is) own;
            read = subst At (sym gets.index_is) (subst (λ piece. IsLastRead (Word (Ram part.index)) (FoundWord word) piece) (sym events) newest);
            behind = λ m h. subst (λ index. IfSome (part_of_number (shape_of old) pendbaser m) (λ p. p.index ≤ index)) (sym gets.index_is) (weaker (part_of_number (shape_of old) pendbaser m) (apart m h));
            ahead = λ m h. subst (λ index. IfSome (part_of_number (shape_of old) pendbaser m) (λ p. index ≤ p.index)) (sym gets.index_is) (further m h (part_of_number (shape_of old) pendbaser m) refl);
          };
      index = gets.index_is;
    }
  where
    byte_kept : (o : Option Part) → IfSome o (λ p. p.index < part.index) → option_map_or (λ p. extracted (with_word so.base.words part.index fetched.word p.index) p) o 0 ≡ option_map_or (λ p. extracted (so.base.words p.index) p) o 0
    byte_kept None below = refl
    byte_kept (Some p) below = ap (λ (b : Bool). extracted (if b then fetched.word else so.base.words p.index) p) (ne_eqb p.index part.index (λ e. omega (arith, e, below)))

    read_on : (o : Option Part) → IfSome o (λ p. p.index < part.index) → IfSome o (λ p. IsLastRead (Word (Ram p.index)) (FoundWord (so.base.words p.index)) (part_events old so.base.part))
        → IfSome o (λ p. IsLastRead (Word (Ram p.index)) (FoundWord (with_word so.base.words part.index fetched.word p.index)) (part_events old so.base.part ++ (record { event = Read (Word (Ram part.index)); found = FoundWord fetched.word }) ∷ []))
    read_on None below last = tt
    read_on (Some p) below last =
        let place : Place = Word (Ram p.index) in
        let read : Happened = record { event = Read (Word (Ram part.index)); found = FoundWord fetched.word } in
        let By : ℕ → Type 0 = λ n. IsLastRead place (FoundWord n) (part_events old so.base.part ++ read ∷ []) in
        let differ : (p.index == part.index) ≡ false = ne_eqb p.index part.index (λ e. omega (arith, e, below)) in
        subst By (sym (ap (λ (b : Bool). if b then fetched.word else so.base.words p.index) differ))
        (last_read_on place (FoundWord (so.base.words p.index)) (part_events old so.base.part) (read ∷ []) last
        (All-cons (λ h. h.event ≡ Read place → ⊥) read [] (λ e. let same : part.index ≡ p.index = cc in absurd (omega (arith, same, below))) (All-nil (λ h. h.event ≡ Read place → ⊥))))

    weaker : (o : Option Part) → IfSome o (λ p. p.index < part.index) → IfSome o (λ p. p.index ≤ part.index)
    weaker None below = tt
    weaker (Some p) below = omega (arith, below)

    further : (m : ℕ) → n ≤ m → (o : Option Part) → part_of_number (shape_of old) pendbaser m ≡ o → IfSome o (λ p. part.index ≤ p.index)
    further m h None e = tt
    further m h (Some p) e =
        let one = index_is (shape_of old) pendbaser n part here in
        let two = index_is (shape_of old) pendbaser m p e in
        omega (arith, one, two, h)

-- The bit of the number.

word_here : (old now : Seen) (vcpu pendbaser n : ℕ) (part : Part) (fetched : Fetched) (at : AtNumber old now vcpu pendbaser n part fetched) → at.base.words part.index ≡ fetched.word
word_here old now vcpu pendbaser n part fetched at = ap at.base.words (sym at.index) ∙ at.last.holds

bit_here : (old now : Seen) (vcpu pendbaser n : ℕ) (part : Part) (fetched : Fetched) (at : AtNumber old now vcpu pendbaser n part fetched) → part_of_number (shape_of old) pendbaser n ≡ Some part
    → is_pended (shape_of old) pendbaser at.base.words n ≡ is_pended_in pendbaser (extracted fetched.word part) n
bit_here old now vcpu pendbaser n part fetched at here =
    ap (λ o. is_pended_in pendbaser (option_map_or (λ part. extracted (at.base.words part.index) part) o 0) n) here ∙ ap (λ word. is_pended_in pendbaser (extracted word part) n) (word_here old now vcpu pendbaser n part fetched at)

read_here : (old now : Seen) (vcpu pendbaser n : ℕ) (part : Part) (fetched : Fetched) (at : AtNumber old now vcpu pendbaser n part fetched) → part_of_number (shape_of old) pendbaser n ≡ Some part
    → IfSome (part_of_number (shape_of old) pendbaser n) (λ p. IsLastRead (Word (Ram p.index)) (FoundWord (at.base.words p.index)) (part_events old at.base.part))
read_here old now vcpu pendbaser n part fetched at here =
    let Of : Option Part → Type 0 = λ o. IfSome o (λ p. IsLastRead (Word (Ram p.index)) (FoundWord (at.base.words p.index)) (part_events old at.base.part)) in
    let By : ℕ → Type 0 = λ index. IsLastRead (Word (Ram index)) (FoundWord fetched.word) (part_events old at.base.part) in
    let To : ℕ → Type 0 = λ word. IsLastRead (Word (Ram part.index)) (FoundWord word) (part_events old at.base.part) in
    subst Of (sym here) (subst To (sym (word_here old now vcpu pendbaser n part fetched at)) (subst By at.index at.last.read))

-- the word is the last one after the number
over : (old now next : Seen) (vcpu pendbaser n : ℕ) (part : Part) (fetched : Fetched) → AtNumber old now vcpu pendbaser n part fetched → part_of_number (shape_of old) pendbaser n ≡ Some part → (base : TableBase old next vcpu pendbaser (n + 1)) → base.words fetched.index ≡ fetched.word
    → Knows next (Word (Ram fetched.index)) (FoundWord fetched.word) → IsLastRead (Word (Ram fetched.index)) (FoundWord fetched.word) (part_events old base.part) → TableSoFar old next vcpu pendbaser (n + 1) (Some fetched)
over old now next vcpu pendbaser n part fetched at here base holds known read =
    let Behind : Option Part → Type 0 = λ o. IfSome o (λ p. p.index ≤ fetched.index) in
    let index : part.index ≤ fetched.index = omega (arith, at.index) in
    record {
      base = base;
      last_is =
          record {
            known = known;
            holds = holds;
            read = read;
            behind = next_below (λ m. Behind (part_of_number (shape_of old) pendbaser m)) n at.last.behind (subst Behind (sym here) index);
            ahead = λ m h. at.last.ahead m (omega (arith, h));
          };
    }

-- no bit, or an LPI that is for another vCPU
number_left : (old now : Seen) (vcpu pendbaser n : ℕ) (part : Part) (fetched : Fetched) (target : Option ℕ) (at : AtNumber old now vcpu pendbaser n part fetched) → part_of_number (shape_of old) pendbaser n ≡ Some part
    → (is_number vcpu target && is_pended (shape_of old) pendbaser at.base.words n) ≡ false → (IsTrue (is_pended (shape_of old) pendbaser at.base.words n) → IsLookedAt old at.base.part (8192 + n) target)
    → TableSoFar old now vcpu pendbaser (n + 1) (Some fetched)
unfolding base_kept
number_left old now vcpu pendbaser n part fetched target at here flag looked =
    let base = base_kept old now now vcpu pendbaser n at.base target [] (record { new_is = sym (seen_nil now) }) refl refl refl (λ operation ends. own_nil now operation) at.base.base_known flag looked (read_here old now vcpu pendbaser n part fetched at here) in
    let By : List Made → Type 0 = λ part. IsLastRead (Word (Ram fetched.index)) (FoundWord fetched.word) (part_events old part) in
    over old now now vcpu pendbaser n part fetched at here base at.last.holds at.last.known (subst By (sym (append-nil at.base.part)) at.last.read)

-- a look at the LPI
at_looked : (old now mid : Seen) (vcpu pendbaser n : ℕ) (part : Part) (fetched : Fetched) (target : Option ℕ) → vcpu < (shape_of now).vcpus → n < (shape_of now).lpis → part.index < (shape_of now).ram / 8 → LooksAtTarget now mid (8192 + n) target
    → AtNumber old now vcpu pendbaser n part fetched → AtNumber old mid vcpu pendbaser n part fetched
at_looked old now mid vcpu pendbaser n part fetched target vcpu_there below inside looks at =
    let base = at.base in
    let late = looks.look ∷ [] in
    let about : IsTrue (are_about (Lpi (8192 + n)) late) = ap (λ step. is_about (Lpi (8192 + n)) step && true) looks.step_is ∙ ap (λ b. b && true) (same_itself (Lpi (8192 + n))) in
    let events : part_events old (base.part ++ late) ≡ part_events old base.part
    = events_then old now base.part late base.adds ∙ ap (λ more. part_events old base.part ++ more) looks.silent ∙ append-nil (part_events old base.part) in
    let there = lpi_there (shape_of now) n below in
    let Reads : List Happened → ℕ → Type 0 = λ piece m. IfSome (part_of_number (shape_of old) pendbaser m) (λ p. IsLastRead (Word (Ram p.index)) (FoundWord (base.words p.index)) piece) in
    let index_in : fetched.index < (shape_of now).ram / 8 = omega (arith, at.index, inside) in
    record {
      base =
          record {
            part = base.part ++ late;
            adds = adds_join old now mid base.part late base.adds looks.adds;
            pended = base.pended;
            irqs = base.irqs;
            targets = base.targets;
            words = base.words;
            named = ap (named_of (Some old.actor)) events ∙ base.named;
            flags = base.flags;
            found = λ m h bit. looked_before old now base.part late (8192 + m) (base.targets m) base.adds (ap (all_events (comes_after (8192 + m))) looks.silent) (base.found m h bit);
            below = ap (all_events (comes_before (8192 + n))) events ∙ base.below;
            reads = λ m h. subst (λ piece. Reads piece m) (sym events) (base.reads m h);
            other = subst (IsUnread (Word (Pendbaser vcpu))) (sym events) base.other;
            stays = subst (StaysAtEase old.local) (sym looks.local_is) base.stays;
            none_taken = none_append base.part late base.none_taken looks.none_taken;
            piece = λ operation by.
                let Of : Seen → Type 0 = λ seen. is_end_of (shape_of seen) seen.actor (Some operation) (Lpi (8192 + n)) ≡ false in
                let ends : is_end_of (shape_of now) now.actor (Some operation) (Lpi (8192 + n)) ≡ false = subst Of (sym base.adds.new_is) (by.ends_none (Lpi (8192 + n))) in
                own_joins old now operation base.part late base.adds (base.piece operation by)
                (λ p idle is none. looks.piece p idle (ap (λ operation. is_end_of (shape_of now) now.actor operation (Lpi (8192 + n))) is ∙ ends));
            base_known = knows_on now mid (Word (Pendbaser vcpu)) (FoundWord pendbaser) (about_leaves now mid (8192 + n) late (Pendbaser vcpu) there (omega (arith, vcpu_there)) about looks.adds looks.none_taken) base.base_known;
          };
      last =
          record {
            known = knows_on now mid (Word (Ram fetched.index)) (FoundWord fetched.word) (about_leaves now mid (8192 + n) late (Ram fetched.index) there (omega (arith, index_in)) about looks.adds looks.none_taken) at.last.known;
            holds = at.last.holds;
            read = subst (λ piece. IsLastRead (Word (Ram fetched.index)) (FoundWord fetched.word) piece) (sym events) at.last.read;
            behind = at.last.behind;
            ahead = at.last.ahead;
          };
      index = at.index;
    }

-- that found for which vCPU it is
found_here : (old now mid : Seen) (vcpu pendbaser n : ℕ) (part : Part) (fetched : Fetched) (target : Option ℕ) (vcpu_there : vcpu < (shape_of now).vcpus) (below : n < (shape_of now).lpis) (inside : part.index < (shape_of now).ram / 8) (looks : LooksAtTarget now mid (8192 + n) target)
    (at : AtNumber old now vcpu pendbaser n part fetched) → IsLookedAt old (at_looked old now mid vcpu pendbaser n part fetched target vcpu_there below inside looks at).base.part (8192 + n) target
unfolding at_looked
found_here old now mid vcpu pendbaser n part fetched target vcpu_there below inside looks at = looked_here old now mid at.base.part (8192 + n) target at.base.adds at.base.below looks

-- the LPI becomes pending
number_pended :
    (old now next : Seen) (vcpu pendbaser n found : ℕ) (part : Part) (fetched : Fetched) (target : Option ℕ) (at : AtNumber old now vcpu pendbaser n part fetched) → shape_of now ≡ shape_of old → vcpu < (shape_of now).vcpus → n < (shape_of now).lpis
    → part.index < (shape_of now).ram / 8 → is_table_zero pendbaser ≡ false → part_of_number (shape_of old) pendbaser n ≡ Some part → is_pended_in pendbaser (extracted fetched.word part) n ≡ true → is_number vcpu target ≡ true → IsLookedAt old at.base.part (8192 + n) target
    → (touches : Touches now next (Lpi (8192 + n)) pend found) → TableSoFar old next vcpu pendbaser (n + 1) (Some fetched)
unfolding base_touched IsUnread
number_pended old now next vcpu pendbaser n found part fetched target at same vcpu_there below inside unset here bit its looked touches =
    let late = touches.misses ++ touches.touch ∷ touches.sent in
    let Known : ℕ → Type 0 = λ index. Knows now (Word (Ram index)) (FoundWord fetched.word) in
    let here_now : part_of_number (shape_of now) pendbaser n ≡ Some part = ap (λ shape. part_of_number shape pendbaser n) same ∙ here in
    let flag : (is_number vcpu target && is_pended (shape_of old) pendbaser at.base.words n) ≡ true
    = ap (λ b. b && is_pended (shape_of old) pendbaser at.base.words n) its ∙ bit_here old now vcpu pendbaser n part fetched at here ∙ bit in
    let base = base_touched old now next vcpu pendbaser n fetched.word found part at.base target vcpu_there below inside unset here_now bit (subst Known at.index at.last.known) touches flag looked (read_here old now vcpu pendbaser n part fetched at here) in
    let happened : Happened = record { event = Touch (Lpi (8192 + n)) pend; found = Record (found_irq found) } in
    let events : part_events old (at.base.part ++ late) ≡ part_events old at.base.part ++ happened ∷ []
    = events_then old now at.base.part late at.base.adds ∙ ap (λ more. part_events old at.base.part ++ more) touches.events in
    let place : Place = Word (Ram fetched.index) in
    let index_in : fetched.index < (shape_of now).ram / 8 = omega (arith, at.index, inside) in
    let read = last_read_on place (FoundWord fetched.word) (part_events old at.base.part) (happened ∷ []) at.last.read (touch_unread place happened (λ e. absurd (cc))) in
    over old now next vcpu pendbaser n part fetched at here base at.last.holds
    (knows_on now next place (FoundWord fetched.word) (about_leaves now next (8192 + n) late (Ram fetched.index) (lpi_there (shape_of now) n below) (omega (arith, index_in)) touches.about touches.adds touches.none_taken) at.last.known)
    (subst (λ piece. IsLastRead place (FoundWord fetched.word) piece) (sym events) read)
  where
    touch_unread : (place : Place) (happened : Happened) → (happened.event ≡ Read place → ⊥) → IsUnread place (happened ∷ [])
    touch_unread place happened differ = All-cons (λ h. h.event ≡ Read place → ⊥) happened [] differ (All-nil (λ h. h.event ≡ Read place → ⊥))

-- a whole number
inside_is : (shape : GuestShape) (pendbaser number : ℕ) (part : Part) → shape.ram % 8 ≡ 0 → part_of_number shape pendbaser number ≡ Some part → part.index < shape.ram / 8
inside_is shape pendbaser number part words e = of ((pending_address pendbaser (8192 + number)).0 % 1 == 0) (nat_le ((pending_address pendbaser (8192 + number)).0 + 1) shape.ram) refl e
  where
    at : ℕ
    at = (pending_address pendbaser (8192 + number)).0

    of : (a b : Bool) → nat_le (at + 1) shape.ram ≡ b → (if a && b then Some (record { index = at / 8; shift = 8 * (at % 8); bits = 8 * 1 }) else None) ≡ Some part → part.index < shape.ram / 8
    of true true f g =
        let same : record { index = at / 8; shift = 8 * (at % 8); bits = 8 * 1 } ≡ part = cc in
        let index : part.index ≡ at / 8 = sym (ap (λ (p : Part). p.index) same) in
        let le = leb-true (at + 1) shape.ram f in
        omega (arith, index, le, words)
    of true false f g = absurd (cc)
    of false b f g = absurd (cc)

-- an LPI whose bit is in no memory
table_outside : (old now : Seen) (vcpu pendbaser n : ℕ) (last : Option Fetched) → part_of_number (shape_of old) pendbaser n ≡ None → TableSoFar old now vcpu pendbaser n last → TableSoFar old now vcpu pendbaser (n + 1) last
unfolding base_kept
table_outside old now vcpu pendbaser n last here so =
    record { base = base'; last_is = of last so.last_is }
  where
    none_there : IsTrue (is_pended (shape_of old) pendbaser so.base.words n) → IsLookedAt old so.base.part (8192 + n) None
    none_there bit = absurd (no_bit ((pending_address pendbaser (8192 + n)).1) (subst (λ o. IsTrue (is_pended_in pendbaser (option_map_or (λ part. extracted (so.base.words part.index) part) o 0) n)) here bit))

    base' : TableBase old now vcpu pendbaser (n + 1)
    base' =
        let Read : Option Part → Type 0 = λ o. IfSome o (λ p. IsLastRead (Word (Ram p.index)) (FoundWord (so.base.words p.index)) (part_events old so.base.part)) in
        base_kept old now now vcpu pendbaser n so.base None [] (record { new_is = sym (seen_nil now) }) refl refl refl (λ operation ends. own_nil now operation) so.base.base_known refl none_there (subst Read (sym here) tt)

    of : (last : Option Fetched) → LastIs old now vcpu pendbaser n so.base last → LastIs old now vcpu pendbaser (n + 1) base' last
    of None none = next_below (λ m. part_of_number (shape_of old) pendbaser m ≡ None) n none here
    of (Some fetched) is =
        let Behind : Option Part → Type 0 = λ o. IfSome o (λ p. p.index ≤ fetched.index) in
        let By : List Made → Type 0 = λ part. IsLastRead (Word (Ram fetched.index)) (FoundWord fetched.word) (part_events old part) in
        record {
          known = is.known;
          holds = is.holds;
          read = subst By (sym (append-nil so.base.part)) is.read;
          behind = next_below (λ m. Behind (part_of_number (shape_of old) pendbaser m)) n is.behind (subst Behind (sym here) tt);
          ahead = λ m h. is.ahead m (omega (arith, h));
        }

-- the word of its bit
number_at : (old now mid : Seen) (vcpu pendbaser n : ℕ) (part : Part) (last : Option Fetched) (fetched : Fetched) → (shape_of old).ram % 8 ≡ 0 → part_of_number (shape_of old) pendbaser n ≡ Some part → GetsWord now mid last part.index fetched
    → TableSoFar old now vcpu pendbaser n last → AtNumber old mid vcpu pendbaser n part fetched
number_at old now mid vcpu pendbaser n part last fetched words here (inl has) so =
    let At : Seen → Type 0 = λ seen. AtNumber old seen vcpu pendbaser n part fetched in subst At (sym has.same) (at_same old now vcpu pendbaser n part last fetched has.last_is has.index_is so)
number_at old now mid vcpu pendbaser n part last fetched words here (inr gets) so =
    let same : shape_of now ≡ shape_of old = ap shape_of so.base.adds.new_is in
    let In : GuestShape → Type 0 = λ shape. part.index < shape.ram / 8 in
    at_read old now mid vcpu pendbaser n part last fetched same (subst In (sym same) (inside_is (shape_of old) pendbaser n part words here)) here gets so

-- and what becomes of it
number_rest : (old mid next : Seen) (vcpu pendbaser n : ℕ) (part : Part) (fetched : Fetched) → AtNumber old mid vcpu pendbaser n part fetched → (shape_of old).ram % 8 ≡ 0 → vcpu < (shape_of old).vcpus → n < (shape_of old).lpis → is_table_zero pendbaser ≡ false
    → part_of_number (shape_of old) pendbaser n ≡ Some part → (bit : Bool) → is_pended_in pendbaser (extracted fetched.word part) n ≡ bit → PendsWhere bit mid next vcpu (8192 + n) → TableSoFar old next vcpu pendbaser (n + 1) (Some fetched)
number_rest old mid next vcpu pendbaser n part fetched at words vcpu_there below unset here false bit rest =
    let Next : Seen → Type 0 = λ seen. TableSoFar old seen vcpu pendbaser (n + 1) (Some fetched) in subst Next (sym rest) (number_left old mid vcpu pendbaser n part fetched None at here refl (λ has. absurd (true≢false (sym has ∙ bit_here old mid vcpu pendbaser n part fetched at here ∙ bit))))
number_rest old mid next vcpu pendbaser n part fetched at words vcpu_there below unset here true bit pends =
    let same : shape_of mid ≡ shape_of old = ap shape_of at.base.adds.new_is in
    let There : GuestShape → Type 0 = λ shape. vcpu < shape.vcpus in
    let Below : GuestShape → Type 0 = λ shape. n < shape.lpis in
    let In : GuestShape → Type 0 = λ shape. part.index < shape.ram / 8 in
    let inside = inside_is (shape_of old) pendbaser n part words here in
    let looked = at_looked old mid pends.mid vcpu pendbaser n part fetched pends.target (subst There (sym same) vcpu_there) (subst Below (sym same) below) (subst In (sym same) inside) pends.looks at in
    of looked (found_here old mid pends.mid vcpu pendbaser n part fetched pends.target (subst There (sym same) vcpu_there) (subst Below (sym same) below) (subst In (sym same) inside) pends.looks at) inside (is_number vcpu pends.target) refl pends.rest
  where
    of : (looked : AtNumber old pends.mid vcpu pendbaser n part fetched) → IsLookedAt old looked.base.part (8192 + n) pends.target → part.index < (shape_of old).ram / 8 → (its : Bool) → is_number vcpu pends.target ≡ its → PendsIf its pends.mid next (8192 + n) → TableSoFar old next vcpu pendbaser (n + 1) (Some fetched)
    of looked has inside true its touches =
        let same : shape_of pends.mid ≡ shape_of old = ap shape_of looked.base.adds.new_is in
        let There : GuestShape → Type 0 = λ shape. vcpu < shape.vcpus in
        let Below : GuestShape → Type 0 = λ shape. n < shape.lpis in
        let In : GuestShape → Type 0 = λ shape. part.index < shape.ram / 8 in
        number_pended old pends.mid next vcpu pendbaser n touches.0 part fetched pends.target looked same (subst There (sym same) vcpu_there) (subst Below (sym same) below) (subst In (sym same) inside) unset here bit its has touches.1
    of looked has inside false other stays =
        let Next : Seen → Type 0 = λ seen. TableSoFar old seen vcpu pendbaser (n + 1) (Some fetched) in
        subst Next (sym stays) (number_left old pends.mid vcpu pendbaser n part fetched pends.target looked here (ap (λ b. b && is_pended (shape_of old) pendbaser looked.base.words n) other) (λ bit. has))

pub table_more : (old now next : Seen) (vcpu pendbaser n : ℕ) (last its : Option Fetched) → (shape_of old).ram % 8 ≡ 0 → vcpu < (shape_of old).vcpus → n < (shape_of old).lpis → is_table_zero pendbaser ≡ false
    → DoesNumber now next vcpu pendbaser n last its (part_of_number (shape_of now) pendbaser n) → TableSoFar old now vcpu pendbaser n last → TableSoFar old next vcpu pendbaser (n + 1) its
table_more old now next vcpu pendbaser n last its words vcpu_there below unset does so =
    let same : shape_of now ≡ shape_of old = ap shape_of so.base.adds.new_is in
    let Does : GuestShape → Type 0 = λ shape. DoesNumber now next vcpu pendbaser n last its (part_of_number shape pendbaser n) in
    of (part_of_number (shape_of old) pendbaser n) refl (subst Does same does)
  where
    of : (o : Option Part) → part_of_number (shape_of old) pendbaser n ≡ o → DoesNumber now next vcpu pendbaser n last its o → TableSoFar old next vcpu pendbaser (n + 1) its
    of None here does =
        let Next : Seen → Option Fetched → Type 0 = λ seen its. TableSoFar old seen vcpu pendbaser (n + 1) its in
        subst (λ seen. Next seen its) (sym does.0) (subst (Next now) (sym does.1) (table_outside old now vcpu pendbaser n last here so))
    of (Some part) here does =
        let Next : Option Fetched → Type 0 = λ its. TableSoFar old next vcpu pendbaser (n + 1) its in
        let at = number_at old now does.mid vcpu pendbaser n part last does.fetched words here does.gets so in
        subst Next (sym does.next_is)
        (number_rest old does.mid next vcpu pendbaser n part does.fetched at words vcpu_there below unset here (is_pended_in pendbaser (extracted does.fetched.word part) n) refl does.rest)

pub table_ease : (old now : Seen) (vcpu pendbaser n : ℕ) (last : Option Fetched) → IsAtEase old.local → TableSoFar old now vcpu pendbaser n last → IsAtEase now.local
table_ease old now vcpu pendbaser n last ease so = ease_on old.local now.local so.base.stays ease
