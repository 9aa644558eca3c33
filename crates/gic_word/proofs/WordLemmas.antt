-- The fields of a word, one beside the other.
use Rattle.std.proofs.Common.{◌≡◌, ◌≤◌, ◌<◌, ◌+◌, ◌*◌, ◌/◌, ◌%◌, ℕ, Bool, true, false, if◌then◌else◌, Option, Some, None, nat_eq, zero, suc, refl, sym, ap, ◌∙◌, subst, arith}
use Rattle.gic_word.specs.declared.record.Group.TheVariants.{G0, G1}
use Rattle.gic_word.specs.declared.record.Route.{Route}
use Rattle.gic_word.specs.declared.record.Route.TheVariants.{Affinity, Target}
use Rattle.gic_word.specs.declared.record.Irq.{Irq}
use Rattle.gic_base.specs.Shape.{max_vcpus}
use Rattle.gic_word.specs.Word.{IsSeat, IsRoute, IsIrq, IsWord, seat_number, seat_at, route_field, route_number, flags_number, packed, HasFlags, route_of, irq_of}
use Rattle.gic_bits.specs.Bits.{bit_of, has_bit}
use Rattle.gic_word.specs.Record.{group_number}
use Rattle.gic_bits.proofs.BitLemmas.{bit_back}

-- records whose fields agree are one
pub same_irq :
    (a b : Irq) → a.prio ≡ b.prio → a.enabled ≡ b.enabled → a.group ≡ b.group → a.edge ≡ b.edge → a.line ≡ b.line → a.rise ≡ b.rise → a.soft ≡ b.soft → a.act_by ≡ b.act_by → a.holder ≡ b.holder → a.want ≡ b.want → a.en0 ≡ b.en0 → a.en1 ≡ b.en1 → a.route ≡ b.route → a ≡ b
same_irq a b prio enabled group edge line rise soft act_by holder want en0 en1 route =
    ap (λ x. record { prio = x; enabled = a.enabled; group = a.group; edge = a.edge; line = a.line; rise = a.rise; soft = a.soft; act_by = a.act_by; holder = a.holder; want = a.want; en0 = a.en0; en1 = a.en1; route = a.route }) prio ∙
    ap (λ x. record { prio = b.prio; enabled = x; group = a.group; edge = a.edge; line = a.line; rise = a.rise; soft = a.soft; act_by = a.act_by; holder = a.holder; want = a.want; en0 = a.en0; en1 = a.en1; route = a.route }) enabled ∙
    ap (λ x. record { prio = b.prio; enabled = b.enabled; group = x; edge = a.edge; line = a.line; rise = a.rise; soft = a.soft; act_by = a.act_by; holder = a.holder; want = a.want; en0 = a.en0; en1 = a.en1; route = a.route }) group ∙
    ap (λ x. record { prio = b.prio; enabled = b.enabled; group = b.group; edge = x; line = a.line; rise = a.rise; soft = a.soft; act_by = a.act_by; holder = a.holder; want = a.want; en0 = a.en0; en1 = a.en1; route = a.route }) edge ∙
    ap (λ x. record { prio = b.prio; enabled = b.enabled; group = b.group; edge = b.edge; line = x; rise = a.rise; soft = a.soft; act_by = a.act_by; holder = a.holder; want = a.want; en0 = a.en0; en1 = a.en1; route = a.route }) line ∙
    ap (λ x. record { prio = b.prio; enabled = b.enabled; group = b.group; edge = b.edge; line = b.line; rise = x; soft = a.soft; act_by = a.act_by; holder = a.holder; want = a.want; en0 = a.en0; en1 = a.en1; route = a.route }) rise ∙
    ap (λ x. record { prio = b.prio; enabled = b.enabled; group = b.group; edge = b.edge; line = b.line; rise = b.rise; soft = x; act_by = a.act_by; holder = a.holder; want = a.want; en0 = a.en0; en1 = a.en1; route = a.route }) soft ∙
    ap (λ x. record { prio = b.prio; enabled = b.enabled; group = b.group; edge = b.edge; line = b.line; rise = b.rise; soft = b.soft; act_by = x; holder = a.holder; want = a.want; en0 = a.en0; en1 = a.en1; route = a.route }) act_by ∙
    ap (λ x. record { prio = b.prio; enabled = b.enabled; group = b.group; edge = b.edge; line = b.line; rise = b.rise; soft = b.soft; act_by = b.act_by; holder = x; want = a.want; en0 = a.en0; en1 = a.en1; route = a.route }) holder ∙
    ap (λ x. record { prio = b.prio; enabled = b.enabled; group = b.group; edge = b.edge; line = b.line; rise = b.rise; soft = b.soft; act_by = b.act_by; holder = b.holder; want = x; en0 = a.en0; en1 = a.en1; route = a.route }) want ∙
    ap (λ x. record { prio = b.prio; enabled = b.enabled; group = b.group; edge = b.edge; line = b.line; rise = b.rise; soft = b.soft; act_by = b.act_by; holder = b.holder; want = b.want; en0 = x; en1 = a.en1; route = a.route }) en0 ∙
    ap (λ x. record { prio = b.prio; enabled = b.enabled; group = b.group; edge = b.edge; line = b.line; rise = b.rise; soft = b.soft; act_by = b.act_by; holder = b.holder; want = b.want; en0 = b.en0; en1 = x; route = a.route }) en1 ∙
    ap (λ x. record { prio = b.prio; enabled = b.enabled; group = b.group; edge = b.edge; line = b.line; rise = b.rise; soft = b.soft; act_by = b.act_by; holder = b.holder; want = b.want; en0 = b.en0; en1 = b.en1; route = x }) route

-- a vCPU's number comes back from its field, which is at most the number of vCPUs
pub seat_back : (seat : Option ℕ) → seat_at (seat_number seat) ≡ seat
seat_back None = refl
seat_back (Some vcpu) = grind arith

pub seat_small : (seat : Option ℕ) → IsSeat seat → seat_number seat ≤ max_vcpus
seat_small None h = omega arith
seat_small (Some vcpu) h = omega (arith, h)

-- the route as the bit that tells an affinity and the 32 bits above it
pub record RouteParts (route : Route) (number : ℕ) : Type 0 where
  pub kind : ℕ
  pub field : ℕ
  pub is : number ≡ kind * 67108864 + field * 134217728
  pub kind_bit : kind < 2
  pub field_bits : field < 4294967296
  pub target : kind ≡ 0 → field ≤ max_vcpus
  pub back : (if nat_eq kind 1 then Affinity field else Target (seat_at field)) ≡ route

pub route_parts : (route : Route) → IsRoute route → RouteParts route (route_number route)
route_parts (Affinity affinity) h = record { kind = 1; field = affinity; is = omega arith; kind_bit = omega arith; field_bits = h; target = λ e. absurd (omega (arith, e)); back = refl }
route_parts (Target target) h =
    let small = seat_small target h in
    record {
      kind = 0;
      field = seat_number target;
      is = omega arith;
      kind_bit = omega arith;
      field_bits = omega (arith, small);
      target = λ e. small;
      back = ap Target (seat_back target);
    }

-- two numbers have the same flags
pub record SameFlags (word flags : ℕ) : Type 0 where
  pub soft : word / 1 % 2 ≡ flags / 1 % 2
  pub line : word / 2 % 2 ≡ flags / 2 % 2
  pub rise : word / 4 % 2 ≡ flags / 4 % 2
  pub edge : word / 8 % 2 ≡ flags / 8 % 2
  pub enabled : word / 16 % 2 ≡ flags / 16 % 2
  pub group : word / 32 % 2 ≡ flags / 32 % 2
  pub en0 : word / 64 % 2 ≡ flags / 64 % 2
  pub en1 : word / 128 % 2 ≡ flags / 128 % 2
  pub want : word / 256 % 2 ≡ flags / 256 % 2

-- what stands above the flags does not change them
same_flags : (word flags rest : ℕ) → word ≡ flags + rest * 512 → SameFlags word flags
same_flags word flags rest e =
    record {
      soft = omega (arith, e);
      line = omega (arith, e);
      rise = omega (arith, e);
      edge = omega (arith, e);
      enabled = omega (arith, e);
      group = omega (arith, e);
      en0 = omega (arith, e);
      en1 = omega (arith, e);
      want = omega (arith, e);
    }

pub is_one : {m n : ℕ} → m ≡ n → nat_eq m 1 ≡ nat_eq n 1
is_one e = ap (λ k. nat_eq k 1) e

-- a word of these parts, and what each field of it reads
pub record Parted (irq : Irq) (flags : ℕ) (parts_kind parts_field : ℕ) (word : ℕ) : Type 0 where
  pub same : SameFlags word flags
  pub prio : word / 512 % 32 ≡ irq.prio / 8
  pub active : word / 16384 % 64 ≡ seat_number irq.act_by
  pub active_small : seat_number irq.act_by ≤ max_vcpus
  pub holder : word / 1048576 % 64 ≡ seat_number irq.holder
  pub holder_small : seat_number irq.holder ≤ max_vcpus
  pub kind : word / 67108864 % 2 ≡ parts_kind
  pub field : word / 134217728 % 4294967296 ≡ parts_field
  pub end : word < 576460752303423488

parted : (irq : Irq) (flags route : ℕ) → IsIrq irq → HasFlags irq flags → (parts : RouteParts irq.route route) → Parted irq flags parts.kind parts.field (flags + irq.prio / 8 * 512 + seat_number irq.act_by * 16384 + seat_number irq.holder * 1048576 + route)
parted irq flags route is has parts =
    let p = irq.prio / 8 in
    let a = seat_number irq.act_by in
    let h = seat_number irq.holder in
    let a_small : a ≤ max_vcpus = seat_small irq.act_by is.active in
    let h_small : h ≤ max_vcpus = seat_small irq.holder is.holder in
    let p_small : p < 32 = is.prio_bits in
    let route_is : route ≡ parts.kind * 67108864 + parts.field * 134217728 = parts.is in
    record {
      same = same_flags (flags + p * 512 + a * 16384 + h * 1048576 + route) flags (p + a * 32 + h * 2048 + (parts.kind * 131072 + parts.field * 262144)) (omega (arith, route_is));
      prio = omega (arith, route_is, has.end, p_small);
      active = omega (arith, route_is, has.end, p_small, a_small);
      active_small = a_small;
      holder = omega (arith, route_is, has.end, p_small, a_small, h_small);
      holder_small = h_small;
      kind = omega (arith, route_is, has.end, p_small, a_small, h_small, parts.kind_bit);
      field = omega (arith, route_is, has.end, p_small, a_small, h_small, parts.kind_bit, parts.field_bits);
      end = omega (arith, route_is, has.end, p_small, a_small, h_small, parts.kind_bit, parts.field_bits);
    }

-- the word of a record gives the record back
pub word_back :
    (irq : Irq) (flags : ℕ) → IsIrq irq → HasFlags irq flags → irq_of (flags + irq.prio / 8 * 512 + seat_number irq.act_by * 16384 + seat_number irq.holder * 1048576 + route_number irq.route) ≡ irq
word_back irq flags is has =
    let word = flags + irq.prio / 8 * 512 + seat_number irq.act_by * 16384 + seat_number irq.holder * 1048576 + route_number irq.route in
    let parts = route_parts irq.route is.route in
    let parted = parted irq flags (route_number irq.route) is has parts in
    let same = parted.same in
    same_irq (irq_of word) irq
    (ap (λ n. n * 8) parted.prio ∙ omega (arith, is.prio))
    (is_one same.enabled ∙ has.enabled)
    (ap (λ b. if b then G1 else G0) (is_one same.group) ∙ has.group)
    (is_one same.edge ∙ has.edge)
    (is_one same.line ∙ has.line)
    (is_one same.rise ∙ has.rise)
    (is_one same.soft ∙ has.soft)
    (ap seat_at parted.active ∙ seat_back irq.act_by)
    (ap seat_at parted.holder ∙ seat_back irq.holder)
    (is_one same.want ∙ has.want)
    (is_one same.en0 ∙ has.en0)
    (is_one same.en1 ∙ has.en1)
    (routed (word / 67108864 % 2) parts.kind (word / 134217728 % 4294967296) parts.field parted.kind parted.field ∙ parts.back)
  where
    routed : (k kind f field : ℕ) → k ≡ kind → f ≡ field → (if nat_eq k 1 then Affinity f else Target (seat_at f)) ≡ (if nat_eq kind 1 then Affinity field else Target (seat_at field))
    routed k kind f field e g = cc

-- and it is well formed
pub word_fits :
    (irq : Irq) (flags : ℕ) → IsIrq irq → HasFlags irq flags → IsWord (flags + irq.prio / 8 * 512 + seat_number irq.act_by * 16384 + seat_number irq.holder * 1048576 + route_number irq.route)
word_fits irq flags is has =
    let parts = route_parts irq.route is.route in
    let parted = parted irq flags (route_number irq.route) is has parts in
    record {
      active = omega (arith, parted.active, parted.active_small);
      holder = omega (arith, parted.holder, parted.holder_small);
      target = λ e. subst (λ n. n ≤ max_vcpus) (sym parted.field) (parts.target (zero_of parts.kind parts.kind_bit (sym (is_one parted.kind) ∙ e)));
      end = parted.end;
    }
  where
    zero_of : (kind : ℕ) → kind < 2 → nat_eq kind 1 ≡ false → kind ≡ 0
    zero_of kind small e = grind arith

-- a group's bit is its group
group_back : (n : ℕ) → n < 2 → group_number (if nat_eq n 1 then G1 else G0) ≡ n
group_back zero small = refl
group_back (suc zero) small = refl
group_back (suc (suc n)) small = absurd (omega (arith, small))

-- a field is the vCPU's number that it says
field_back : (field : ℕ) → seat_number (seat_at field) ≡ field
field_back zero = refl
field_back (suc field) = grind arith

-- the flags of a word's record are its lowest bits
flags_back : (word : ℕ) → flags_number (irq_of word) ≡ word % 512
flags_back word =
    let soft_is : bit_of (irq_of word).soft ≡ word / 1 % 2 = bit_back (word / 1 % 2) (omega arith) in
    let line_is : bit_of (irq_of word).line ≡ word / 2 % 2 = bit_back (word / 2 % 2) (omega arith) in
    let rise_is : bit_of (irq_of word).rise ≡ word / 4 % 2 = bit_back (word / 4 % 2) (omega arith) in
    let edge_is : bit_of (irq_of word).edge ≡ word / 8 % 2 = bit_back (word / 8 % 2) (omega arith) in
    let enabled_is : bit_of (irq_of word).enabled ≡ word / 16 % 2 = bit_back (word / 16 % 2) (omega arith) in
    let group_is : group_number (irq_of word).group ≡ word / 32 % 2 = group_back (word / 32 % 2) (omega arith) in
    let en0_is : bit_of (irq_of word).en0 ≡ word / 64 % 2 = bit_back (word / 64 % 2) (omega arith) in
    let en1_is : bit_of (irq_of word).en1 ≡ word / 128 % 2 = bit_back (word / 128 % 2) (omega arith) in
    let want_is : bit_of (irq_of word).want ≡ word / 256 % 2 = bit_back (word / 256 % 2) (omega arith) in
    omega (arith, soft_is, line_is, rise_is, edge_is, enabled_is, group_is, en0_is, en1_is, want_is)

-- the route of a word is what stands above the holder
route_back : (word : ℕ) → word < 576460752303423488 → route_number (route_of word) ≡ word / 67108864 * 67108864
route_back word end = by_kind (word / 67108864 % 2) (omega arith) (omega arith)
  where
    by_kind : (kind : ℕ) → kind < 2 → word / 67108864 % 2 ≡ kind → route_number (if nat_eq kind 1 then Affinity (route_field word) else Target (seat_at (route_field word))) ≡ word / 67108864 * 67108864
    by_kind zero small is = let field_is = field_back (route_field word) in omega (arith, field_is, is, end)
    by_kind (suc zero) small is = omega (arith, is, end)
    by_kind (suc (suc kind)) small is = absurd (omega (arith, small))

-- a well-formed word is the word of its record
pub packed_back : (word : ℕ) → IsWord word → packed (irq_of word) ≡ word
packed_back word is =
    let flags_is : flags_number (irq_of word) ≡ word % 512 = flags_back word in
    let active_is : seat_number (irq_of word).act_by ≡ word / 16384 % 64 = field_back (word / 16384 % 64) in
    let holder_is : seat_number (irq_of word).holder ≡ word / 1048576 % 64 = field_back (word / 1048576 % 64) in
    let route_is : route_number (irq_of word).route ≡ word / 67108864 * 67108864 = route_back word is.end in
    omega (arith, flags_is, active_is, holder_is, route_is)

seat_is : (field : ℕ) → field ≤ max_vcpus → IsSeat (seat_at field)
seat_is zero small = tt
seat_is (suc field) small = grind arith

-- and that record can stand in a word
pub irq_fits : (word : ℕ) → IsWord word → IsIrq (irq_of word)
irq_fits word is =
    record {
      prio = omega arith;
      prio_bits = omega arith;
      active = seat_is (word / 16384 % 64) is.active;
      holder = seat_is (word / 1048576 % 64) is.holder;
      route = by_flag (has_bit word 26) refl;
    }
  where
    by_flag : (b : Bool) → has_bit word 26 ≡ b → IsRoute (if b then Affinity (route_field word) else Target (seat_at (route_field word)))
    by_flag true e = omega arith
    by_flag false e = seat_is (route_field word) (is.target e)

-- the parts as the code has them
pub record HasParts (irq : Irq) (prio active holder route : ℕ) : Type 0 where
  pub prio_is : prio ≡ irq.prio / 8 * 512
  pub active_is : active ≡ seat_number irq.act_by * 16384
  pub holder_is : holder ≡ seat_number irq.holder * 1048576
  pub route_is : route ≡ route_number irq.route

pub parted_is :
    (irq : Irq) (flags prio active holder route : ℕ) → HasParts irq prio active holder route → flags + prio + active + holder + route ≡ flags + irq.prio / 8 * 512 + seat_number irq.act_by * 16384 + seat_number irq.holder * 1048576 + route_number irq.route
parted_is irq flags prio active holder route has =
    let p : prio ≡ irq.prio / 8 * 512 = has.prio_is in
    let a : active ≡ seat_number irq.act_by * 16384 = has.active_is in
    let h : holder ≡ seat_number irq.holder * 1048576 = has.holder_is in
    let r : route ≡ route_number irq.route = has.route_is in
    cc
