-- Registers that have a part for each interrupt: the parts so far.
use Rattle.std.proofs.Common.{◌≡◌, ℕ, ◌+◌, ◌*◌, ◌<◌, ◌^◌, ◌&&◌, Bool, true, false, if◌then◌else◌, IfSome, Option, Some, None, option_map, refl, sym, ap, subst, ◌∙◌, arith}
use Rattle.std.specs.Option.{option_map_or}
use Rattle.std.proofs.lemmas.Bool.{ne_eqb, eq-eqb}
use Rattle.its_exec.specs.Words.{Key, Private, Spi, Frame, Dist, Redist, Its, Ram as Memory, Kind, SetEnable, ClearEnable, SetPending, ClearPending, SetActive, ClearActive, Priority, Config, Routing, GuestShape, has_interrupt, intid_of, Irq, irq_of}
use Rattle.its_exec.specs.GicBase.declared.operation.Kind.TheVariants.{Group}
use Rattle.its_exec.specs.Registers.{part_bits, joined, part_at, has_part, part_read}
use Rattle.its_exec.specs.Calls.{Event, Touch, Touching, part_key, part_touch, part_event}
use Rattle.its_exec.specs.Core.{Seen, shape_of}
use Rattle.its_exec.specs.PortCall.Rest.{IsAtEase}
use Rattle.its_exec.specs.PortCall.Touch.{Touches}
use Rattle.pe_mem.specs.Each.{part_written_of, number_answer, AccessesNumber, AccessesParts, TouchesEach}
use Rattle.pe_mem.specs.Part.{touching_of, part_answer}
use Rattle.pe_mem.proofs.EachLemmas.{with_irq, found_irq, joined_below, joined_more, touches_none, touches_kept, touches_more, ease_on}

-- the parts below a number
pub record PartsSoFar (old now : Seen) (frame : Frame) (kind : Kind) (first n : ℕ) (write : Option ℕ) (value : ℕ) : Type 0 where
  pub accesses : AccessesParts old now frame kind first n write value
  pub below : value < 2 ^ (n * part_bits kind)

pub parts_ease : (old now : Seen) (frame : Frame) (kind : Kind) (first n : ℕ) (write : Option ℕ) (value : ℕ) → IsAtEase old.local → PartsSoFar old now frame kind first n write value → IsAtEase now.local
parts_ease old now frame kind first n write value ease parts = ease_on old.local now.local parts.accesses.touches.stays ease

pub no_irqs : ℕ → Irq
no_irqs number = irq_of 0

pub parts_none : (old : Seen) (frame : Frame) (kind : Kind) (first : ℕ) (write : Option ℕ) → IsAtEase old.local → PartsSoFar old old frame kind first 0 write 0
parts_none old frame kind first write ease =
    record {
      accesses = record { irqs = no_irqs; touches = touches_none old (part_event (shape_of old) frame kind first write) no_irqs ease; answer_is = refl };
      below = let none : 0 * part_bits kind ≡ 0 = omega arith in let one : 2 ^ (0 * part_bits kind) ≡ 1 = ap (λ n. 2 ^ n) none in omega (arith, one);
    }

-- what an access does to the part of a number
touching_is : (kind : Kind) (write : Option ℕ) (n : ℕ) → touching_of kind (part_written_of kind write n) ≡ part_touch kind write n
touching_is kind None n = refl
touching_is kind (Some value) n = refl

answer_is : (kind : Kind) (write : Option ℕ) (n read : ℕ) → part_answer (part_written_of kind write n) read ≡ part_answer write read
answer_is kind None n read = refl
answer_is kind (Some value) n read = refl

-- no part shows whether an access waits
read_is : (kind : Kind) (irq : Irq) → part_read kind (record irq { want = false }) ≡ part_read kind irq
read_is Group irq = refl
read_is SetEnable irq = refl
read_is ClearEnable irq = refl
read_is SetPending irq = refl
read_is ClearPending irq = refl
read_is SetActive irq = refl
read_is ClearActive irq = refl
read_is Priority irq = refl
read_is Config irq = refl
read_is Routing irq = refl

pub parts_more :
    (old mid new : Seen) (frame : Frame) (kind : Kind) (first n : ℕ) (write : Option ℕ) (value part next : ℕ) → shape_of mid ≡ shape_of old → PartsSoFar old mid frame kind first n write value
    → AccessesNumber mid new (part_key (shape_of mid) frame kind (first + n)) kind (part_written_of kind write n) part → next ≡ value + part_at kind part n → next < 2 ^ ((n + 1) * part_bits kind) → PartsSoFar old new frame kind first (n + 1) write next
parts_more old mid new frame kind first n write value part next same parts made is below =
    record { accesses = of (part_key (shape_of old) frame kind (first + n)) refl (subst (λ shape. AccessesNumber mid new (part_key shape frame kind (first + n)) kind (part_written_of kind write n) part) same made); below = below }
  where
    shape : GuestShape
    shape = shape_of old

    at : ℕ → Option Event
    at = part_event shape frame kind first write

    irqs : ℕ → Irq
    irqs = parts.accesses.irqs

    -- the value with what the part of the number answers
    joins : (irqs' : ℕ → Irq) → ((m : ℕ) → m < n → number_answer shape frame kind first write irqs' m ≡ number_answer shape frame kind first write irqs m) → number_answer shape frame kind first write irqs' n ≡ part
        → next ≡ joined kind (number_answer shape frame kind first write irqs') (n + 1)
    joins irqs' same_below here =
        is
        ∙ ap (λ value. value + part_at kind part n) (parts.accesses.answer_is ∙ sym (joined_below kind (number_answer shape frame kind first write irqs') (number_answer shape frame kind first write irqs) n same_below))
        ∙ ap (λ part. joined kind (number_answer shape frame kind first write irqs') n + part_at kind part n) (sym here)
        ∙ sym (joined_more kind (number_answer shape frame kind first write irqs') n)

    of : (o : Option Key) → part_key shape frame kind (first + n) ≡ o → AccessesNumber mid new o kind (part_written_of kind write n) part → AccessesParts old new frame kind first (n + 1) write next
    of None here made =
        let none : at n ≡ None = ap (option_map (λ key. Touch key (part_touch kind write n))) here in
        let nothing : number_answer shape frame kind first write irqs n ≡ part = ap (λ o. option_map_or (λ (key : Key). part_answer write (part_read kind (irqs n))) o 0) here ∙ sym made.1 in
        let each = touches_kept old mid at n irqs none parts.accesses.touches in
        record { irqs = irqs; touches = subst (λ seen. TouchesEach old seen at (n + 1) irqs) (sym made.0) each; answer_is = joins irqs (λ m h. refl) nothing }
    of (Some key) here made =
        let irq = found_irq made.found in
        let irqs' : ℕ → Irq = with_irq irqs n irq in
        let one : at n ≡ Some (Touch key (part_touch kind write n)) = ap (option_map (λ key. Touch key (part_touch kind write n))) here in
        let By : Touching → Type 0 = λ touching. Touches mid new key touching made.found in
        let answers : Irq → Option Key → ℕ = λ irq o. option_map_or (λ (key : Key). part_answer write (part_read kind irq)) o 0 in
        let own : irqs' n ≡ irq = ap (λ b. if b then irq else irqs n) (eq-eqb n n refl) in
        let answered : number_answer shape frame kind first write irqs' n ≡ part
        = ap (λ irq. answers irq (part_key shape frame kind (first + n))) own
        ∙ ap (answers irq) here
        ∙ ap (part_answer write) (read_is kind (irq_of made.found))
        ∙ sym (answer_is kind write n (part_read kind (irq_of made.found)))
        ∙ sym made.answer_is in
        record {
          irqs = irqs';
          touches = touches_more old mid new at n irqs key (part_touch kind write n) made.found one parts.accesses.touches (subst By (touching_is kind write n) made.touches);
          answer_is = joins irqs' (λ m h. ap (λ b. answers (if b then irq else irqs m) (part_key shape frame kind (first + m))) (ne_eqb m n (λ e. omega (arith, e, h)))) answered;
        }

-- the INTID of a part's interrupt
pub part_intid : (shape : GuestShape) (frame : Frame) (kind : Kind) (id : ℕ) → IfSome (part_key shape frame kind id) (λ key. intid_of key ≡ id)
part_intid shape Dist kind id = of (has_interrupt shape (Spi id) && has_part kind (Spi id))
  where
    of : (b : Bool) → IfSome (if b then Some (Spi id) else None) (λ key. intid_of key ≡ id)
    of true = refl
    of false = tt
part_intid shape (Redist vcpu) kind id = of (has_interrupt shape (Private vcpu id) && has_part kind (Private vcpu id))
  where
    of : (b : Bool) → IfSome (if b then Some (Private vcpu id) else None) (λ key. intid_of key ≡ id)
    of true = refl
    of false = tt
part_intid shape Its kind id = tt
part_intid shape Memory kind id = tt
