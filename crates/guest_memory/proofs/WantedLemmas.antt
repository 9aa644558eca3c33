-- What is copied of the guest's memory is within what is wanted.
use Rattle.std.proofs.Common.{◌≡◌, ℕ, zero, suc, ◌+◌, ◌-◌, ◌*◌, ◌/◌, ◌%◌, ◌<◌, ◌≤◌, inl, inr, ◌==◌, ◌&&◌, ◌||◌, nat_le, nat_lt, if◌then◌else◌, Bool, true, false, IsTrue, [], ◌∷◌, length, map, get_or, Option, Some, None, Result, Ok, Err, unwrap_or, true≢false, refl, sym, ap, subst, ◌∙◌, arith}
use Rattle.std.specs.List.{range_with_len, list_any}
use Rattle.std.specs.Option.{option_map_or}
use Rattle.std.proofs.lemmas.Grind.{common_steps}
use Rattle.std.proofs.lemmas.Nat.{div-add-mod', mod_below, mod-mul-add}
use Rattle.std.proofs.lemmas.Bool.{cases_lt}
use Rattle.std.proofs.lemmas.List.Folds.{list_any_at}
use Rattle.std.proofs.lemmas.List.FromFn.{get_or-map-range_with_len, length-map-range_with_len}
use Rattle.ideal_guest.specs.Words.{GuestShape}
use Rattle.ideal_guest.specs.Registers.{Part, part_of, inserted, id_of, Command, Mapti, Mapi, Inv, Invall, Movall, BadCommand}
use Rattle.ideal_guest.specs.ItsCmd.declared.command.Command.TheVariants.{Movi, Int, Clear, Sync, Mapd, Mapc, Discard}
use Rattle.ideal_guest.specs.ItsCmd.Command.{decoded}
use Rattle.ideal_guest.specs.Calls.{Put, Ram, Cbaser, Pendbaser as PendbaserWord, queue_address}
use Rattle.ideal_guest.specs.declared.guest.IdealGuest.{IdealGuest}
use Rattle.ideal_guest.specs.Ideal.{word_at, after_events}
use Rattle.ideal_guest.specs.Sound.{IsSound}
use Rattle.guest_memory.specs.declared.access.Access.{Access}
use Rattle.guest_memory.specs.declared.base.Bases.{Bases}
use Rattle.guest_memory.specs.declared.reads.Commands.{Commands}
use Rattle.guest_memory.specs.declared.reads.Doublewords.{Doublewords}
use Rattle.guest_memory.specs.declared.reads.PendingTable.{PendingTable}
use Rattle.guest_memory.specs.declared.wants.Wants.{Wants}
use Rattle.guest_memory.specs.declared.base.Base.TheVariants.{Queue, Pending}
use Rattle.guest_memory.specs.Bases.{address_of, base_in}
use Rattle.guest_memory.specs.Memory.{InTurn, IsRead, put_at, put_some, put_all, commands_of, AreInQueue, command_offset, IsFetched, words_at, no_doublewords, doubleword_of, all_doublewords, read_by, read_by_words, table_of, is_first, table_place, AreCopied, IsTableCopied, IsCommandCopied, pending_of, IsPendingCopied, IsCopied}
use Rattle.guest_memory.specs.Wants.{span, no_span, until_end, table_span, wanted_by, is_in, is_wanted, Wanted}

-- The queue.

whole_rest : (n b : ℕ) → b % 32 ≡ 0 → n % 32 ≡ 0 → n % b % 32 ≡ 0
whole_rest n b whole place = of (n / b) (b / 32) (omega (arith, whole)) (div-add-mod' n b)
  where
    product : (q m : ℕ) → q * (32 * m) ≡ 32 * (q * m)
    product q m = grind (arith, common_steps)

    of : (q m : ℕ) → 32 * m ≡ b → q * b + n % b ≡ n → n % b % 32 ≡ 0
    of q m parts is =
        let all : q * b ≡ 32 * (q * m) = ap (λ (k : ℕ). q * k) (sym parts) ∙ product q m in
        omega (arith, is, all, place)

-- commands from an offset on, round the end of so many bytes
pub in_queue : (offset bytes n : ℕ) → offset % 32 ≡ 0 → bytes % 32 ≡ 0 → 4096 ≤ bytes → bytes ≤ 1048576 → AreInQueue (record { offset = offset % bytes; count = n % bytes / 32; bytes = bytes })
in_queue offset bytes n place whole some most =
    record {
      place = whole_rest offset bytes whole place;
      offset = mod_below offset bytes (omega (arith, some));
      few = omega (arith, mod_below n bytes (omega (arith, some)));
      whole = whole;
      some = some;
      most = most;
    }

-- Addresses that are wanted.

-- an address in a span
inside : (address first bytes : ℕ) → first ≤ address → address < first + bytes → IsTrue (is_in address (span first bytes))
inside address first bytes low high = grind (arith, common_steps, low, high)

mod_small : (n b : ℕ) → n < b → n % b ≡ n
mod_small n b below =
    let none : 0 * b + n ≡ n = omega arith in
    sym (ap (λ (m : ℕ). m % b) none) ∙ mod-mul-add 0 b n below

mod_once : (n b : ℕ) → b ≤ n → n < b + b → n % b ≡ n - b
mod_once n b from below =
    let again : 1 * b + (n - b) ≡ n = omega (arith, from) in
    sym (ap (λ (m : ℕ). m % b) again) ∙ mod-mul-add 1 b (n - b) (omega (arith, below))

left : (a b : Bool) → IsTrue a → IsTrue (a || b)
left true b h = refl
left false b h = absurd (true≢false (sym h))

right : (a b : Bool) → IsTrue b → IsTrue (a || b)
right true b h = refl
right false b h = h

-- a doubleword of a command is in one of the two spans of the commands, which begin at the queue's first byte
command_in : (queue : ℕ) (commands : Commands) (number k : ℕ) → AreInQueue commands → number < commands.count → k < 4
    → IsTrue (list_any (is_in (queue + (command_offset commands number + 8 * k))) (span (queue + commands.offset) (until_end commands) ∷ span queue (32 * commands.count - until_end commands) ∷ []))
command_in queue commands number k is few small = elim (cases_lt (commands.offset + 32 * number) commands.bytes) [
  | inl before ↦
      let at : command_offset commands number ≡ commands.offset + 32 * number = mod_small (commands.offset + 32 * number) commands.bytes before in
      let low : queue + commands.offset ≤ queue + (command_offset commands number + 8 * k) = omega (arith, at) in
      let high : queue + (command_offset commands number + 8 * k) < queue + commands.offset + until_end commands = omega (arith, at, before, few, small, is.place, is.whole) in
      left (is_in (queue + (command_offset commands number + 8 * k)) (span (queue + commands.offset) (until_end commands))) _ (inside (queue + (command_offset commands number + 8 * k)) (queue + commands.offset) (until_end commands) low high)
  | inr past ↦
      let at : command_offset commands number ≡ commands.offset + 32 * number - commands.bytes = mod_once (commands.offset + 32 * number) commands.bytes past (omega (arith, few, is.offset, is.few)) in
      let low : queue ≤ queue + (command_offset commands number + 8 * k) = omega arith in
      let high : queue + (command_offset commands number + 8 * k) < queue + (32 * commands.count - until_end commands) = omega (arith, at, past, few, small, is.offset) in
      right (is_in (queue + (command_offset commands number + 8 * k)) (span (queue + commands.offset) (until_end commands))) _
      (left (is_in (queue + (command_offset commands number + 8 * k)) (span queue (32 * commands.count - until_end commands))) _ (inside (queue + (command_offset commands number + 8 * k)) queue (32 * commands.count - until_end commands) low high))
]

-- a doubleword of a configuration table is in the span of the first vCPU that has the table
table_in : (guest : IdealGuest) (bases : Bases) (commands : Commands) (vcpu n : ℕ) → 0 < commands.count → vcpu < guest.shape.vcpus → vcpu < 32 → is_first bases vcpu ≡ true → n < (all_doublewords guest.shape).count
    → IsTrue (list_any (is_in (table_of bases vcpu + 8 * n)) (map (table_span guest bases commands) (range_with_len 0 32)))
table_in guest bases commands vcpu n some there few first below =
    let spans = map (table_span guest bases commands) (range_with_len 0 32) in
    let address = table_of bases vcpu + 8 * n in
    let long : length spans ≡ 32 = length-map-range_with_len (table_span guest bases commands) 0 32 in
    let found : get_or spans vcpu no_span ≡ table_span guest bases commands vcpu = get_or-map-range_with_len (table_span guest bases commands) 0 32 vcpu vcpu no_span few (omega arith) in
    list_any_at (is_in address) spans vcpu no_span (omega (arith, long, few)) (ap (is_in address) found ∙ of (nat_lt 0 commands.count) (nat_lt vcpu guest.shape.vcpus) (is_first bases vcpu) (less 0 commands.count some) (less vcpu guest.shape.vcpus there) first)
  where
    less : (x y : ℕ) → x < y → nat_lt x y ≡ true
    less x y h = grind (arith, common_steps, h)

    of : (a b c : Bool) → a ≡ true → b ≡ true → c ≡ true → is_in (table_of bases vcpu + 8 * n) (if a && b && c then span (table_of bases vcpu) (8 * (all_doublewords guest.shape).count) else no_span) ≡ true
    of true true true e f g = inside (table_of bases vcpu + 8 * n) (table_of bases vcpu) (8 * (all_doublewords guest.shape).count) (omega arith) (omega (arith, below))
    of true true false e f g = absurd (true≢false (sym g))
    of true false c e f g = absurd (true≢false (sym f))
    of false b c e f g = absurd (true≢false (sym e))

-- the doublewords that a command can read are among those of all LPIs
one_in_all : (shape : GuestShape) (id n : ℕ) → n < (doubleword_of shape id).count → (doubleword_of shape id).first + n < (all_doublewords shape).count
one_in_all shape id n = of (nat_le 8192 id) refl (nat_lt id (8192 + shape.lpis)) refl
  where
    from : nat_le 8192 id ≡ true → 8192 ≤ id
    from h = grind (arith, common_steps, h)

    there : nat_lt id (8192 + shape.lpis) ≡ true → id < 8192 + shape.lpis
    there h = grind (arith, common_steps, h)

    of : (a : Bool) → nat_le 8192 id ≡ a → (b : Bool) → nat_lt id (8192 + shape.lpis) ≡ b → n < (if a && b then record { first = (id - 8192) / 8; count = 1 } else no_doublewords).count
        → (if a && b then record { first = (id - 8192) / 8; count = 1 } else no_doublewords).first + n < (shape.lpis + 7) / 8
    of true e true f h = omega (arith, h, from e, there f)
    of true e false f h = absurd (omega (arith, h))
    of false e b f h = absurd (omega (arith, h))

read_in_all : (command : Command) (guest : IdealGuest) (n : ℕ) → n < (read_by command guest).count → (read_by command guest).first + n < (all_doublewords guest.shape).count
read_in_all (Mapti device event id icid) guest n h = one_in_all guest.shape id n h
read_in_all (Mapi device event icid) guest n h = one_in_all guest.shape event n h
read_in_all (Inv device event) guest n h = of (id_of guest.tables (device, event)) h
  where
    of : (id : Option ℕ) → n < (option_map_or (doubleword_of guest.shape) id no_doublewords).count → (option_map_or (doubleword_of guest.shape) id no_doublewords).first + n < (all_doublewords guest.shape).count
    of None l = absurd (omega (arith, l))
    of (Some id) l = one_in_all guest.shape id n l
read_in_all (Invall icid) guest n h = omega (arith, h)
read_in_all (Movall rdbase second) guest n h = omega (arith, h)
read_in_all (Movi device event icid) guest n h = absurd (omega (arith, h))
read_in_all (Int device event) guest n h = absurd (omega (arith, h))
read_in_all (Clear device event) guest n h = absurd (omega (arith, h))
read_in_all (Sync rdbase) guest n h = absurd (omega (arith, h))
read_in_all (Mapd device size itt valid) guest n h = absurd (omega (arith, h))
read_in_all (Mapc icid rdbase valid) guest n h = absurd (omega (arith, h))
read_in_all (Discard device event) guest n h = absurd (omega (arith, h))

words_in_all : (words : Result Command BadCommand) (guest : IdealGuest) (n : ℕ) → n < (read_by_words words guest).count → (read_by_words words guest).first + n < (all_doublewords guest.shape).count
words_in_all (Ok command) guest n h = read_in_all command guest n h
words_in_all (Err bad) guest n h = absurd (omega (arith, h))

-- Copies.

-- steps one after the other are steps of another kind, where each is and keeps the guest's shape
in_turn : (Step Other : ℕ → IdealGuest → IdealGuest → Type 0) (shape : GuestShape) (n : ℕ)
    → ((number : ℕ) (before after : IdealGuest) → number < n → before.shape ≡ shape → Step number before after → Other number before after × (after.shape ≡ shape))
    → (before after : IdealGuest) → before.shape ≡ shape → InTurn Step n before after → InTurn Other n before after × (after.shape ≡ shape)
in_turn Step Other shape zero each before after is same = (same, ap (λ (guest : IdealGuest). guest.shape) same ∙ is)
in_turn Step Other shape (suc n) each before after is (between, first, last) =
    let so_far = in_turn Step Other shape n (λ number b a h. each number b a (omega (arith, h))) before between is first in
    let one = each n between after (omega arith) so_far.1 last in
    ((between, so_far.0, one.0), one.1)

-- a store keeps the shape
put_shape : (place value : ℕ) (guest : IdealGuest) → (put_at place value guest).shape ≡ guest.shape
put_shape place value guest = of (part_of place 8 guest.shape.ram)
  where
    of : (at : Option Part) → (after_events (option_map_or (λ part. Put (Ram part.index) (inserted (word_at guest (Ram part.index)) part value) ∷ []) at []) guest).shape ≡ guest.shape
    of None = refl
    of (Some part) = refl

some_shape : (bases : Bases) (table at value n : ℕ) (guest : IdealGuest) → (put_some bases table at value n guest).shape ≡ guest.shape
some_shape bases table at value zero guest = refl
some_shape bases table at value (suc n) guest = one (table_of bases n == table) (put_some bases table at value n guest) ∙ some_shape bases table at value n guest
  where
    one : (is : Bool) (guest : IdealGuest) → (if is then put_at (table_place guest n + at) value guest else guest).shape ≡ guest.shape
    one true guest = put_shape (table_place guest n + at) value guest
    one false guest = refl

-- a read at an address that is wanted, and the store of its answer
read_wanted : (wants : Wants) (May : ℕ → Option ℕ → Type 0) (address : ℕ) (put : ℕ → IdealGuest → IdealGuest) (shape : GuestShape)
    → ((value : ℕ) (guest : IdealGuest) → (put value guest).shape ≡ guest.shape) → IsTrue (is_wanted wants address)
    → (before after : IdealGuest) → before.shape ≡ shape → IsRead May address put before after → IsRead (Wanted wants May) address put before after × (after.shape ≡ shape)
read_wanted wants May address put shape keeps is before after was read =
    (record { answer = read.answer; may = (is, read.may); is = read.is }, ap (λ (guest : IdealGuest). guest.shape) read.is ∙ keeps (unwrap_or read.answer 0) before ∙ was)

-- what an access copies is wanted
pub only_wanted : (May : ℕ → Option ℕ → Type 0) (bases : Bases) (access : Access) (before after : IdealGuest) → IsSound before → AreInQueue (commands_of access access.frame before)
    → IsCopied May bases access before after → IsCopied (Wanted (wanted_by before bases access) May) bases access before after
only_wanted May bases access before after sound queue copied =
    let taken = in_turn (λ number. IsCommandCopied May bases (command_offset commands number)) (λ number. IsCommandCopied Only bases (command_offset commands number)) before.shape commands.count each_command before copied.queued refl copied.commands in
    record {
      queued = copied.queued;
      commands = taken.0;
      pending = (in_turn (IsPendingCopied May bases pending.vcpu) (IsPendingCopied Only bases pending.vcpu) before.shape pending.count each_pending copied.queued after taken.1 copied.pending).0;
    }
  where
    commands : Commands
    commands = commands_of access access.frame before

    pending : PendingTable
    pending = pending_of access access.frame before

    wants : Wants
    wants = wanted_by before bases access

    Only : ℕ → Option ℕ → Type 0
    Only = Wanted wants May

    by_commands : (address : ℕ) → IsTrue (list_any (is_in address) wants.commands) → IsTrue (is_wanted wants address)
    by_commands address h = of (list_any (is_in address) wants.commands) (list_any (is_in address) wants.tables) (is_in address wants.pending) h
      where
        of : (a b c : Bool) → IsTrue a → IsTrue (a || b || c)
        of true b c h = refl
        of false b c h = absurd (true≢false (sym h))

    by_tables : (address : ℕ) → IsTrue (list_any (is_in address) wants.tables) → IsTrue (is_wanted wants address)
    by_tables address h = of (list_any (is_in address) wants.commands) (list_any (is_in address) wants.tables) (is_in address wants.pending) h
      where
        of : (a b c : Bool) → IsTrue b → IsTrue (a || b || c)
        of true b c h = refl
        of false true c h = refl
        of false false c h = absurd (true≢false (sym h))

    by_pending : (address : ℕ) → IsTrue (is_in address wants.pending) → IsTrue (is_wanted wants address)
    by_pending address h = of (list_any (is_in address) wants.commands) (list_any (is_in address) wants.tables) (is_in address wants.pending) h
      where
        of : (a b c : Bool) → IsTrue c → IsTrue (a || b || c)
        of true b c h = refl
        of false true c h = refl
        of false false c h = h

    each_word : (number : ℕ) → number < commands.count → (k : ℕ) (b a : IdealGuest) → k < 4 → b.shape ≡ before.shape → IsFetched May bases (command_offset commands number) k b a → IsFetched Only bases (command_offset commands number) k b a × (a.shape ≡ before.shape)
    each_word number few k b a small is read =
        let at = command_offset commands number + 8 * k in
        read_wanted wants May (address_of Queue bases.queue + at) (put_at (queue_address (word_at b Cbaser) + at)) before.shape (put_shape (queue_address (word_at b Cbaser) + at))
        (by_commands (address_of Queue bases.queue + at) (command_in (address_of Queue bases.queue) commands number k queue few small)) b a is read

    each_table : (number : ℕ) → number < commands.count → (words : Result Command BadCommand) (guest : IdealGuest) → guest.shape ≡ before.shape
        → (vcpu : ℕ) (b a : IdealGuest) → vcpu < guest.shape.vcpus → b.shape ≡ before.shape → IsTableCopied May bases (read_by_words words guest) vcpu b a → IsTableCopied Only bases (read_by_words words guest) vcpu b a × (a.shape ≡ before.shape)
    each_table number few words guest same vcpu b a there is copied = of (is_first bases vcpu) refl copied
      where
        wanted : Doublewords
        wanted = read_by_words words guest

        table : ℕ
        table = table_of bases vcpu

        there_too : vcpu < before.shape.vcpus
        there_too = subst (λ (shape : GuestShape). vcpu < shape.vcpus) same there

        in_all : (n : ℕ) → n < wanted.count → wanted.first + n < (all_doublewords before.shape).count
        in_all n h = subst (λ (shape : GuestShape). wanted.first + n < (all_doublewords shape).count) same (words_in_all words guest n h)

        one : is_first bases vcpu ≡ true → (n : ℕ) (b a : IdealGuest) → n < wanted.count → b.shape ≡ before.shape
            → IsRead May (table + 8 * (wanted.first + n)) (put_all bases table (8 * (wanted.first + n))) b a → IsRead Only (table + 8 * (wanted.first + n)) (put_all bases table (8 * (wanted.first + n))) b a × (a.shape ≡ before.shape)
        one first n b a h was read =
            let at = 8 * (wanted.first + n) in
            read_wanted wants May (table + at) (put_all bases table at) before.shape (λ value guest. some_shape bases table at value guest.shape.vcpus guest)
            (by_tables (table + at) (table_in before bases commands vcpu (wanted.first + n) (omega (arith, few)) there_too (omega (arith, there_too, sound.shape.vcpus)) first (in_all n h))) b a was read

        of : (first : Bool) → is_first bases vcpu ≡ first → AreCopied May bases (if first then wanted else no_doublewords) table b a → AreCopied Only bases (if first then wanted else no_doublewords) table b a × (a.shape ≡ before.shape)
        of true e copied =
            in_turn (λ n between. IsRead May (table + 8 * (wanted.first + n)) (put_all bases table (8 * (wanted.first + n))) between) (λ n between. IsRead Only (table + 8 * (wanted.first + n)) (put_all bases table (8 * (wanted.first + n))) between)
            before.shape wanted.count (one e) b a is copied
        of false e same_guest = (same_guest, ap (λ (guest : IdealGuest). guest.shape) same_guest ∙ is)

    each_command : (number : ℕ) (b a : IdealGuest) → number < commands.count → b.shape ≡ before.shape → IsCommandCopied May bases (command_offset commands number) b a → IsCommandCopied Only bases (command_offset commands number) b a × (a.shape ≡ before.shape)
    each_command number b a few is command =
        let fetched = command.fetched in
        let words = decoded (words_at fetched (command_offset commands number)) in
        let found = in_turn (IsFetched May bases (command_offset commands number)) (IsFetched Only bases (command_offset commands number)) before.shape 4 (each_word number few) b fetched is command.words in
        let tables = in_turn (IsTableCopied May bases (read_by_words words fetched)) (IsTableCopied Only bases (read_by_words words fetched)) before.shape fetched.shape.vcpus (each_table number few words fetched found.1) fetched a found.1 command.tables in
        (record { fetched = fetched; words = found.0; tables = tables.0 }, tables.1)

    each_pending : (number : ℕ) (b a : IdealGuest) → number < pending.count → b.shape ≡ before.shape → IsPendingCopied May bases pending.vcpu number b a → IsPendingCopied Only bases pending.vcpu number b a × (a.shape ≡ before.shape)
    each_pending number b a few is read =
        let at = 0x400 + 8 * number in
        let table = address_of (Pending pending.vcpu) (base_in bases (Pending pending.vcpu)) in
        let place = address_of (Pending pending.vcpu) (word_at b (PendbaserWord pending.vcpu)) in
        read_wanted wants May (table + at) (put_at (place + at)) before.shape (put_shape (place + at)) (by_pending (table + at) (of (pending.count == 0) refl)) b a is read
      where
        none_there : (pending.count == 0) ≡ true → ⊥
        none_there e = grind (arith, common_steps, e, few)

        of : (none : Bool) → (pending.count == 0) ≡ none → IsTrue (is_in (address_of (Pending pending.vcpu) (base_in bases (Pending pending.vcpu)) + (0x400 + 8 * number)) (if none then no_span else span (address_of (Pending pending.vcpu) (base_in bases (Pending pending.vcpu)) + 0x400) (8 * pending.count)))
        of true e = absurd (none_there e)
        of false e = inside (address_of (Pending pending.vcpu) (base_in bases (Pending pending.vcpu)) + (0x400 + 8 * number)) (address_of (Pending pending.vcpu) (base_in bases (Pending pending.vcpu)) + 0x400) (8 * pending.count) (omega arith) (omega (arith, few))
