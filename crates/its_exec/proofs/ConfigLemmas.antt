-- The configuration byte of an LPI.
use Rattle.std.proofs.Common.{◌≡◌, ◌≢◌, ℕ, ◌-◌, ◌/◌, ◌<◌, ◌==◌, ◌&&◌, Bool, true, false, nat_lt, if◌then◌else◌, IsTrue, List, [], ◌∷◌, ◌++◌, All, Option, Some, None, slice_index, append-nil, refl, sym, ap, subst, ◌∙◌, arith}
use Rattle.std.specs.Option.{option_map_or}
use Rattle.std.proofs.lemmas.Bool.{and_parts, ltb-true, lt-ltb, eq-eqb}
use Rattle.std.proofs.lemmas.List.{append_assoc}
use Rattle.std.proofs.lemmas.List.Elements.{All-append, All-nil, All-cons}
use Rattle.port_call.specs.Words.{GuestShape}
use Rattle.port_call.specs.Registers.{config_address, Part, part_of, extracted}
use Rattle.port_call.specs.Calls.{place_of_plain, PlainWord, Ram, Propbaser, Pendbaser, ItsCtlr, Cbaser, Cwriter, Baser0, Baser1, Fault, Found, Place, Happened, IsLastRead, held_at}
use Rattle.port_call.specs.GicCall.declared.event.Event.TheVariants.{Read}
use Rattle.port_call.specs.GicCall.declared.event.Found.TheVariants.{Word as FoundWord}
use Rattle.port_call.specs.GicCall.declared.event.Place.TheVariants.{Word, Queue as QueuePlace, Ctlr as CtlrPlace, Lpis}
use Rattle.port_call.specs.Core.{has_all_shut, Made, Plain, place_of_word, Seen, Adds, shape_of, part_events}
use Rattle.port_call.specs.Memory.{view_by}
use Rattle.port_call.specs.Plain.{ReadsPlain}
use Rattle.port_call.proofs.TurnLemmas.{events_then}
use Rattle.its_exec.specs.declared.fetch.Fetched.{Fetched}
use Rattle.its_exec.specs.Known.{Knows, KnowsSame, HasRead, HasFetched, is_fetched}
use Rattle.its_exec.specs.Config.{is_kept, IsUnread, Spares, Keeps, HoldsCommand, ReadsWord, ReadsConfig}
use Rattle.its_exec.proofs.FrameLemmas.{word_of_place, same_by}
use Rattle.its_exec.proofs.LookLemmas.{word_held, reading_plain, reading_none, reading_joins, plain_leaves, plain_known, plain_apart, queue_apart}
use Rattle.its_exec.proofs.FetchLemmas.{last_one, read_stays, read_after}

-- What is kept stands apart from GICR_PROPBASER and from other words of the memory.

propbaser_apart : (shape : GuestShape) (address vcpu : ℕ) (place : Place) → vcpu < shape.vcpus → IsTrue (is_kept shape address place)
    → (place_of_word shape (Plain (place_of_plain shape (Propbaser vcpu))) == place_of_word shape (word_of_place shape place)) ≡ false
propbaser_apart shape address vcpu QueuePlace there kept = queue_apart shape (place_of_plain shape (Propbaser vcpu))
propbaser_apart shape address vcpu (Word (Ram index)) there kept =
    let inside = ltb-true index (shape.ram / 8) (and_parts (is_fetched address index) (nat_lt index (shape.ram / 8)) kept).1 in
    plain_apart shape (place_of_plain shape (Propbaser vcpu)) index (λ e. omega (arith, e, inside))
propbaser_apart shape address vcpu (Word (Propbaser v)) there kept = absurd (cc)
propbaser_apart shape address vcpu (Word (Pendbaser v)) there kept = absurd (cc)
propbaser_apart shape address vcpu (Word ItsCtlr) there kept = plain_apart shape (place_of_plain shape (Propbaser vcpu)) (place_of_plain shape ItsCtlr) (λ e. omega (arith, e, there))
propbaser_apart shape address vcpu (Word Cbaser) there kept = plain_apart shape (place_of_plain shape (Propbaser vcpu)) (place_of_plain shape Cbaser) (λ e. omega (arith, e, there))
propbaser_apart shape address vcpu (Word Cwriter) there kept = plain_apart shape (place_of_plain shape (Propbaser vcpu)) (place_of_plain shape Cwriter) (λ e. omega (arith, e, there))
propbaser_apart shape address vcpu (Word Baser0) there kept = plain_apart shape (place_of_plain shape (Propbaser vcpu)) (place_of_plain shape Baser0) (λ e. omega (arith, e, there))
propbaser_apart shape address vcpu (Word Baser1) there kept = plain_apart shape (place_of_plain shape (Propbaser vcpu)) (place_of_plain shape Baser1) (λ e. omega (arith, e, there))
propbaser_apart shape address vcpu (Word Fault) there kept = plain_apart shape (place_of_plain shape (Propbaser vcpu)) (place_of_plain shape Fault) (λ e. omega (arith, e, there))
propbaser_apart shape address vcpu CtlrPlace there kept = absurd (cc)
propbaser_apart shape address vcpu (Lpis v) there kept = absurd (cc)

ram_apart : (shape : GuestShape) (address index : ℕ) (place : Place) → index < shape.ram / 8 → is_fetched address index ≡ false → IsTrue (is_kept shape address place)
    → (place_of_word shape (Plain index) == place_of_word shape (word_of_place shape place)) ≡ false
ram_apart shape address index QueuePlace there out kept = queue_apart shape index
ram_apart shape address index (Word (Ram other)) there out kept =
    let fetched = (and_parts (is_fetched address other) (nat_lt other (shape.ram / 8)) kept).0 in
    plain_apart shape index other (λ e. let both : true ≡ false = sym fetched ∙ ap (is_fetched address) (sym e) ∙ out in absurd (cc))
ram_apart shape address index (Word (Propbaser v)) there out kept = absurd (cc)
ram_apart shape address index (Word (Pendbaser v)) there out kept = absurd (cc)
ram_apart shape address index (Word ItsCtlr) there out kept = plain_apart shape index (place_of_plain shape ItsCtlr) (λ e. omega (arith, e, there))
ram_apart shape address index (Word Cbaser) there out kept = plain_apart shape index (place_of_plain shape Cbaser) (λ e. omega (arith, e, there))
ram_apart shape address index (Word Cwriter) there out kept = plain_apart shape index (place_of_plain shape Cwriter) (λ e. omega (arith, e, there))
ram_apart shape address index (Word Baser0) there out kept = plain_apart shape index (place_of_plain shape Baser0) (λ e. omega (arith, e, there))
ram_apart shape address index (Word Baser1) there out kept = plain_apart shape index (place_of_plain shape Baser1) (λ e. omega (arith, e, there))
ram_apart shape address index (Word Fault) there out kept = plain_apart shape index (place_of_plain shape Fault) (λ e. omega (arith, e, there))
ram_apart shape address index CtlrPlace there out kept = absurd (cc)
ram_apart shape address index (Lpis v) there out kept = absurd (cc)

-- A look at a word spares other places.

other_place : (shape : GuestShape) (word : PlainWord) (place : Place) → (place_of_word shape (Plain (place_of_plain shape word)) == place_of_word shape (word_of_place shape place)) ≡ false → Read (Word word) ≢ Read place
other_place shape word place apart e =
    let same : Word word ≡ place = of (Word word) place e in
    let yes : (place_of_word shape (Plain (place_of_plain shape word)) == place_of_word shape (word_of_place shape place)) ≡ true
    = ap (λ p. place_of_word shape (Plain (place_of_plain shape word)) == place_of_word shape (word_of_place shape p)) (sym same)
    ∙ eq-eqb (place_of_word shape (Plain (place_of_plain shape word))) (place_of_word shape (Plain (place_of_plain shape word))) refl in
    let both : true ≡ false = sym yes ∙ apart in
    absurd (cc)
  where
    of : (p q : Place) → Read p ≡ Read q → p ≡ q
    of p q e = cc

pub plain_spares : (old new : Seen) (word : PlainWord) (value : ℕ) (place : Place) (reads : ReadsPlain old new word value)
    → (place_of_word (shape_of old) (Plain (place_of_plain (shape_of old) word)) == place_of_word (shape_of old) (word_of_place (shape_of old) place)) ≡ false → Spares old new (reads.look ∷ []) place
plain_spares old new word value place reads apart =
    let By : List Happened → Type 0 = λ events. IsUnread place events in
    record {
      same = same_by old new place (plain_leaves old new word value place reads apart);
      unread =
          subst By (sym reads.events)
          (All-cons (λ happened. happened.event ≡ Read place → ⊥) (record { event = Read (Word word); found = FoundWord value }) [] (λ e. other_place (shape_of old) word place apart e) (All-nil (λ happened. happened.event ≡ Read place → ⊥)));
    }

-- no step
pub same_none : (seen : Seen) (place : Place) → KnowsSame seen seen place
same_none seen place = record { known = refl; held = refl }

pub spares_none : (seen : Seen) (place : Place) → Spares seen seen [] place
spares_none seen place = record { same = same_none seen place; unread = All-nil (λ happened. happened.event ≡ Read place → ⊥) }

pub keeps_none : (seen : Seen) (address : ℕ) → Keeps seen seen address []
keeps_none seen address = record { each = λ place kept. spares_none seen place }

-- parts, one after the other
pub same_on : (old mid new : Seen) (place : Place) → KnowsSame old mid place → KnowsSame mid new place → KnowsSame old new place
same_on old mid new place one two = record { known = two.known ∙ one.known; held = two.held ∙ one.held }

pub spares_on : (old mid new : Seen) (early late : List Made) (place : Place) → Adds old mid early → Spares old mid early place → Spares mid new late place → Spares old new (early ++ late) place
spares_on old mid new early late place add one two =
    let By : List Happened → Type 0 = λ events. IsUnread place events in
    record {
      same = same_on old mid new place one.same two.same;
      unread = subst By (sym (events_then old mid early late add)) (All-append (λ happened. happened.event ≡ Read place → ⊥) (part_events old early) (part_events mid late) one.unread two.unread);
    }

pub keeps_on : (old mid new : Seen) (address : ℕ) (early late : List Made) → Adds old mid early → Keeps old mid address early → Keeps mid new address late → Keeps old new address (early ++ late)
keeps_on old mid new address early late add one two =
    let Kept : Place → GuestShape → Type 0 = λ place shape. IsTrue (is_kept shape address place) in
    record { each = λ place kept. spares_on old mid new early late place add (one.each place kept) (two.each place (subst (Kept place) (sym (ap shape_of add.new_is)) kept)) }

-- A word of the memory.

pub word_fetched : (seen : Seen) (fetched : Fetched) (index word : ℕ) → index < (shape_of seen).ram / 8 → HoldsCommand seen fetched
    → Some word ≡ (if is_fetched fetched.address index then Some (slice_index fetched.words (index - fetched.address / 8)) else None) → ReadsWord seen seen fetched index word
word_fetched seen fetched index word there holds e =
    let at : IsTrue (is_fetched fetched.address index) = of (is_fetched fetched.address index) e in
    let same : word ≡ slice_index fetched.words (index - fetched.address / 8) = value (is_fetched fetched.address index) at e in
    let By : ℕ → Type 0 = λ n. Knows seen (Word (Ram index)) (FoundWord n) in
    let Has : List Happened → Type 0 = λ events. HasRead seen (Word (Ram index)) events in
    record {
      part = [];
      reading = reading_none seen;
      keeps = keeps_none seen fetched.address;
      spares = λ vcpu h. spares_none seen (Word (Propbaser vcpu));
      knows = subst By (sym same) (holds.each index at there);
      has = λ before has. subst Has (sym (append-nil before)) (has.each index at there);
    }
  where
    of : (b : Bool) → Some word ≡ (if b then Some (slice_index fetched.words (index - fetched.address / 8)) else None) → b ≡ true
    of true e = refl
    of false e = absurd (cc)

    value : (b : Bool) → b ≡ true → Some word ≡ (if b then Some (slice_index fetched.words (index - fetched.address / 8)) else None) → word ≡ slice_index fetched.words (index - fetched.address / 8)
    value true h e = cc
    value false h e = absurd (cc)

pub word_looked : (old new : Seen) (fetched : Fetched) (index word : ℕ) → index < (shape_of old).ram / 8
    → None ≡ (if is_fetched fetched.address index then Some (slice_index fetched.words (index - fetched.address / 8)) else None) → ReadsPlain old new (Ram index) word → ReadsWord old new fetched index word
word_looked old new fetched index word there e reads =
    let out : is_fetched fetched.address index ≡ false = of (is_fetched fetched.address index) e in
    let knows = plain_known old new (Ram index) word reads in
    let By : List Happened → Type 0 = λ events. IsLastRead (Word (Ram index)) (held_at (view_by new) (Word (Ram index))) events in
    let ByFound : Found → Type 0 = λ found. IsLastRead (Word (Ram index)) found ((record { event = Read (Word (Ram index)); found = FoundWord word }) ∷ []) in
    record {
      part = reads.look ∷ [];
      reading = reading_plain old new (Ram index) word reads;
      keeps = record { each = λ place kept. plain_spares old new (Ram index) word place reads (ram_apart (shape_of old) fetched.address index place there out kept) };
      spares = λ vcpu h. plain_spares old new (Ram index) word (Word (Propbaser vcpu)) reads (plain_apart (shape_of old) index (place_of_plain (shape_of old) (Propbaser vcpu)) (λ e. omega (arith, e, there)));
      knows = knows;
      has = λ before has. read_after new (Word (Ram index)) before (part_events old (reads.look ∷ []))
          (record { known = knows.known; last = subst By (sym reads.events) (subst ByFound (sym knows.held) (last_one (Word (Ram index)) (FoundWord word))) });
    }
  where
    of : (b : Bool) → None ≡ (if b then Some (slice_index fetched.words (index - fetched.address / 8)) else None) → b ≡ false
    of true e = absurd (cc)
    of false e = refl

-- The byte.

and_kept : (a b : Bool) → IsTrue a → IsTrue b → IsTrue (a && b)
and_kept true true h k = refl
and_kept true false h k = absurd (cc)
and_kept false b h k = absurd (cc)

-- what the actor holds of the command, and what it has read, stays over a part that keeps it
pub holds_on : (old new : Seen) (fetched : Fetched) (part : List Made) → Adds old new part → new.local.shut ≡ old.local.shut → Keeps old new fetched.address part → HoldsCommand old fetched → HoldsCommand new fetched
holds_on old new fetched part add shut keeps holds =
    let shape : shape_of new ≡ shape_of old = ap shape_of add.new_is in
    record {
      each = λ index at inside.
          (let there : index < (shape_of old).ram / 8 = omega (arith, inside, ap (λ shape. shape.ram / 8) shape) in
          let kept = keeps.each (Word (Ram index)) (and_kept (is_fetched fetched.address index) (nat_lt index ((shape_of old).ram / 8)) at (lt-ltb index ((shape_of old).ram / 8) there)) in
          let was = holds.each index at there in
          record { known = kept.same.known ∙ was.known; held = kept.same.held ∙ was.held });
      lines = ap (λ set. has_all_shut (record old.local { shut = set })) shut ∙ holds.lines;
    }

pub has_on : (old new : Seen) (address : ℕ) (part : List Made) (before : List Happened) → Adds old new part → Keeps old new address part → HasFetched old address before → HasFetched new address (before ++ part_events old part)
has_on old new address part before add keeps has =
    let shape : shape_of new ≡ shape_of old = ap shape_of add.new_is in
    record {
      each = λ index at inside.
          (let there : index < (shape_of old).ram / 8 = omega (arith, inside, ap (λ shape. shape.ram / 8) shape) in
          let kept = keeps.each (Word (Ram index)) (and_kept (is_fetched address index) (nat_lt index ((shape_of old).ram / 8)) at (lt-ltb index ((shape_of old).ram / 8) there)) in
          read_stays old new (Word (Ram index)) before (part_events old part) kept.same kept.unread (has.each index at there));
    }

-- what was fetched is known still
pub has_still : (old new : Seen) (address : ℕ) (part : List Made) (before : List Happened) → Adds old new part → Keeps old new address part → HasFetched old address before → HasFetched new address before
has_still old new address part before add keeps has =
    let shape : shape_of new ≡ shape_of old = ap shape_of add.new_is in
    record {
      each = λ index at inside.
          (let there : index < (shape_of old).ram / 8 = omega (arith, inside, ap (λ shape. shape.ram / 8) shape) in
          let kept = keeps.each (Word (Ram index)) (and_kept (is_fetched address index) (nat_lt index ((shape_of old).ram / 8)) at (lt-ltb index ((shape_of old).ram / 8) there)) in
          let was = has.each index at there in
          let Last : Found → Type 0 = λ found. IsLastRead (Word (Ram index)) found before in
          record { known = kept.same.known ∙ was.known; last = subst Last (sym kept.same.held) was.last });
    }

-- the look at GICR_PROPBASER keeps all of it
propbaser_keeps : (old mid : Seen) (address vcpu value : ℕ) → vcpu < (shape_of old).vcpus → (reads : ReadsPlain old mid (Propbaser vcpu) value) → Keeps old mid address (reads.look ∷ [])
propbaser_keeps old mid address vcpu value there reads =
    record { each = λ place kept. plain_spares old mid (Propbaser vcpu) value place reads (propbaser_apart (shape_of old) address vcpu place there kept) }

pub propbaser_holds : (old mid : Seen) (fetched : Fetched) (vcpu value : ℕ) → vcpu < (shape_of old).vcpus → ReadsPlain old mid (Propbaser vcpu) value → HoldsCommand old fetched → HoldsCommand mid fetched
propbaser_holds old mid fetched vcpu value there reads holds = holds_on old mid fetched (reads.look ∷ []) reads.adds (ap (λ l. l.shut) reads.local_is) (propbaser_keeps old mid fetched.address vcpu value there reads) holds

-- it was read
propbaser_read : (old mid : Seen) (vcpu value : ℕ) (before : List Happened) → (reads : ReadsPlain old mid (Propbaser vcpu) value) → HasRead mid (Word (Propbaser vcpu)) (before ++ part_events old (reads.look ∷ []))
propbaser_read old mid vcpu value before reads =
    let place : Place = Word (Propbaser vcpu) in
    let knows = plain_known old mid (Propbaser vcpu) value reads in
    let By : List Happened → Type 0 = λ events. IsLastRead place (held_at (view_by mid) place) events in
    let ByFound : Found → Type 0 = λ found. IsLastRead place found ((record { event = Read place; found = FoundWord value }) ∷ []) in
    read_after mid place before (part_events old (reads.look ∷ []))
    (record { known = knows.known; last = subst By (sym reads.events) (subst ByFound (sym knows.held) (last_one place (FoundWord value))) })

-- where the byte is, and what it is, by the part of the memory that it is in
config_part : Seen → ℕ → ℕ → Option Part
config_part seen vcpu lpi = part_of (config_address ((view_by seen).words (Propbaser vcpu)) lpi) 1 (shape_of seen).ram

byte_by : Seen → Option Part → ℕ
byte_by seen part = option_map_or (λ part. extracted ((view_by seen).words (Ram part.index)) part) part 0

places_by : Option Part → List Place
places_by part = option_map_or (λ part. Word (Ram part.index) ∷ []) part []

pub config_inside :
    (old mid new : Seen) (fetched : Fetched) (vcpu lpi propbaser word byte : ℕ) (part : Part) → vcpu < (shape_of old).vcpus → ReadsPlain old mid (Propbaser vcpu) propbaser
    → part_of (config_address propbaser lpi) 1 (shape_of old).ram ≡ Some part → ReadsWord mid new fetched part.index word → byte ≡ extracted word part → ReadsConfig old new fetched (Some vcpu) lpi byte
unfolding config_part byte_by places_by
config_inside old mid new fetched vcpu lpi propbaser word byte part there reads at rest is =
    let shape : shape_of mid ≡ shape_of old = ap shape_of reads.adds.new_is in
    let later : shape_of new ≡ shape_of mid = ap shape_of rest.reading.adds.new_is in
    let keeps = propbaser_keeps old mid fetched.address vcpu propbaser there reads in
    let here : vcpu < (shape_of mid).vcpus = omega (arith, there, ap (λ shape. shape.vcpus) shape) in
    let spared = rest.spares vcpu here in
    let knows : Knows mid (Word (Propbaser vcpu)) (FoundWord propbaser) = plain_known old mid (Propbaser vcpu) propbaser reads in
    let held : (view_by new).words (Propbaser vcpu) ≡ propbaser = word_held new (Propbaser vcpu) propbaser (record { known = spared.same.known ∙ knows.known; held = spared.same.held ∙ knows.held }) in
    let inside : config_part new vcpu lpi ≡ Some part
    = ap (λ n. part_of (config_address n lpi) 1 (shape_of new).ram) held ∙ ap (λ shape. part_of (config_address propbaser lpi) 1 shape.ram) (later ∙ shape) ∙ at in
    let looks = reads.look ∷ [] in
    let By : List Place → Type 0 = λ places. (before : List Happened) → HasFetched old fetched.address before → All (λ place. HasRead new place (before ++ part_events old (looks ++ rest.part))) (Word (Propbaser vcpu) ∷ places) in
    record {
      part = looks ++ rest.part;
      reading = reading_joins old mid new looks rest.part (reading_plain old mid (Propbaser vcpu) propbaser reads) rest.reading;
      keeps = keeps_on old mid new fetched.address looks rest.part reads.adds keeps rest.keeps;
      byte_is = is ∙ ap (λ n. extracted n part) (sym (word_held new (Ram part.index) word rest.knows)) ∙ sym (ap (byte_by new) inside);
      has = subst By (sym (ap places_by inside)) (λ before has. both_read before has);
    }
  where
    both_read : (before : List Happened) → HasFetched old fetched.address before
        → All (λ place. HasRead new place (before ++ part_events old (reads.look ∷ [] ++ rest.part))) (Word (Propbaser vcpu) ∷ Word (Ram part.index) ∷ [])
    both_read before has =
        let looks = reads.look ∷ [] in
        let so_far = before ++ part_events old looks in
        let events : so_far ++ part_events mid rest.part ≡ before ++ part_events old (looks ++ rest.part)
        = append_assoc before (part_events old looks) (part_events mid rest.part) ∙ ap (λ events. before ++ events) (sym (events_then old mid looks rest.part reads.adds)) in
        let At : Place → List Happened → Type 0 = λ place events. HasRead new place events in
        let here : vcpu < (shape_of mid).vcpus = omega (arith, there, ap (λ shape. shape.vcpus) (ap shape_of reads.adds.new_is)) in
        let spared = rest.spares vcpu here in
        let fetched_mid = has_on old mid fetched.address looks before reads.adds (propbaser_keeps old mid fetched.address vcpu propbaser there reads) has in
        let P : Place → Type 0 = λ place. HasRead new place (before ++ part_events old (looks ++ rest.part)) in
        All-cons P (Word (Propbaser vcpu)) (Word (Ram part.index) ∷ [])
        (subst (At (Word (Propbaser vcpu))) events (read_stays mid new (Word (Propbaser vcpu)) so_far (part_events mid rest.part) spared.same spared.unread (propbaser_read old mid vcpu propbaser before reads)))
        (All-cons P (Word (Ram part.index)) [] (subst (At (Word (Ram part.index))) events (rest.has so_far fetched_mid)) (All-nil P))

pub config_outside :
    (old new : Seen) (fetched : Fetched) (vcpu lpi propbaser : ℕ) → vcpu < (shape_of old).vcpus → ReadsPlain old new (Propbaser vcpu) propbaser → part_of (config_address propbaser lpi) 1 (shape_of old).ram ≡ None → ReadsConfig old new fetched (Some vcpu) lpi 0
unfolding config_part byte_by places_by
config_outside old new fetched vcpu lpi propbaser there reads at =
    let shape : shape_of new ≡ shape_of old = ap shape_of reads.adds.new_is in
    let knows : Knows new (Word (Propbaser vcpu)) (FoundWord propbaser) = plain_known old new (Propbaser vcpu) propbaser reads in
    let held : (view_by new).words (Propbaser vcpu) ≡ propbaser = word_held new (Propbaser vcpu) propbaser knows in
    let outside : config_part new vcpu lpi ≡ None = ap (λ n. part_of (config_address n lpi) 1 (shape_of new).ram) held ∙ ap (λ shape. part_of (config_address propbaser lpi) 1 shape.ram) shape ∙ at in
    let By : List Place → Type 0 = λ places. (before : List Happened) → HasFetched old fetched.address before → All (λ place. HasRead new place (before ++ part_events old (reads.look ∷ []))) (Word (Propbaser vcpu) ∷ places) in
    record {
      part = reads.look ∷ [];
      reading = reading_plain old new (Propbaser vcpu) propbaser reads;
      keeps = propbaser_keeps old new fetched.address vcpu propbaser there reads;
      byte_is = sym (ap (byte_by new) outside);
      has =
          subst By (sym (ap places_by outside))
          (λ before has. All-cons (λ place. HasRead new place (before ++ part_events old (reads.look ∷ []))) (Word (Propbaser vcpu)) [] (propbaser_read old new vcpu propbaser before reads)
          (All-nil (λ place. HasRead new place (before ++ part_events old (reads.look ∷ [])))));
    }

-- the part of the memory as the call finds it
pub part_found : (old mid : Seen) (vcpu lpi propbaser address : ℕ) (shape : GuestShape) (found : Option Part) → ReadsPlain old mid (Propbaser vcpu) propbaser → address ≡ config_address propbaser lpi → shape ≡ shape_of mid → found ≡ part_of address 1 shape.ram
    → part_of (config_address propbaser lpi) 1 (shape_of old).ram ≡ found
part_found old mid vcpu lpi propbaser address shape found reads is same value =
    ap (λ a. part_of a 1 (shape_of old).ram) (sym is) ∙ ap (λ s. part_of address 1 s.ram) (sym (same ∙ ap shape_of reads.adds.new_is)) ∙ sym value

-- an LPI for no vCPU
pub config_none : (seen : Seen) (fetched : Fetched) (lpi : ℕ) → ReadsConfig seen seen fetched None lpi 0
config_none seen fetched lpi =
    record {
      part = [];
      reading = reading_none seen;
      keeps = keeps_none seen fetched.address;
      byte_is = refl;
      has = λ before has. All-nil (λ place. HasRead seen place (before ++ []));
    }
