-- Copies of the guest's memory, one after the other.
use Rattle.std.proofs.Common.{◌≡◌, ℕ, ◌+◌, ◌==◌, ◌||◌, suc, unwrap_or, not, Bool, [], ◌∷◌, Option, Some, None, refl, sym, ap, subst, ◌∙◌, arith}
use Rattle.std.specs.Option.{option_map_or}
use Rattle.ideal_guest.specs.Registers.{Part, part_of, inserted}
use Rattle.ideal_guest.specs.Calls.{Put, Ram}
use Rattle.ideal_guest.specs.declared.guest.IdealGuest.{IdealGuest}
use Rattle.ideal_guest.specs.Ideal.{word_at, after_events}
use Rattle.ideal_guest.specs.Sound.{IsSound}
use Rattle.guest_memory.specs.declared.base.Bases.{Bases}
use Rattle.guest_memory.specs.declared.reads.Doublewords.{Doublewords}
use Rattle.guest_memory.specs.Memory.{InTurn, IsRead, IsKeptBut, put_at, put_one, put_some, has_table, table_of, is_first, AreCopied}

next : (n : ℕ) → suc n ≡ n + 1
next n = omega arith

-- one more step
pub one_more : (Step : ℕ → IdealGuest → IdealGuest → Type 0) (n : ℕ) (before between after : IdealGuest) → InTurn Step n before between → Step n between after → InTurn Step (n + 1) before after
one_more Step n before between after first last = subst (λ (m : ℕ). InTurn Step m before after) (next n) (between, first, last)

-- a read and its store, by equal addresses and places
pub read_along : (May : ℕ → Option ℕ → Type 0) (from to place target : ℕ) (before after : IdealGuest) → from ≡ to → place ≡ target → IsRead May from (put_at place) before after → IsRead May to (put_at target) before after
read_along May from to place target before after same_address same_place read =
    subst (λ (at : ℕ). IsRead May to (put_at at) before after) same_place (subst (λ (address : ℕ). IsRead May address (put_at place) before after) same_address read)

-- a read, and what is made of its value
pub read_made : (May : ℕ → Option ℕ → Type 0) (address : ℕ) (put : ℕ → IdealGuest → IdealGuest) (before after : IdealGuest) (answer : Option ℕ) (value : ℕ) → May address answer → value ≡ unwrap_or answer 0 → after ≡ put value before → IsRead May address put before after
read_made May address put before after answer value may is made = record { answer = answer; may = may; is = made ∙ ap (λ (n : ℕ). put n before) is }

-- one vCPU more stores
pub put_more : (bases : Bases) (table at value n : ℕ) (initial guest after : IdealGuest) → guest ≡ put_some bases table at value n initial → after ≡ put_one bases table at value n guest → after ≡ put_some bases table at value (n + 1) initial
put_more bases table at value n initial guest after is one =
    one ∙ ap (put_one bases table at value n) is ∙ ap (λ (m : ℕ). put_some bases table at value m initial) (next n)

-- one vCPU more is asked for its table
pub has_more : (bases : Bases) (table n : ℕ) (found more : Bool) → found ≡ has_table bases table n → more ≡ (found || table_of bases n == table) → more ≡ has_table bases table (n + 1)
has_more bases table n found more is one =
    one ∙ ap (λ (b : Bool). b || table_of bases n == table) is ∙ ap (has_table bases table) (next n)

-- so it is known whether a vCPU is the first that has its table
pub first_is : (bases : Bases) (vcpu other table : ℕ) (found : Bool) → found ≡ has_table bases table other → other ≡ vcpu → table ≡ table_of bases vcpu → not found ≡ is_first bases vcpu
first_is bases vcpu other table found is same of =
    ap not (is ∙ ap (has_table bases table) same ∙ ap (λ (t : ℕ). has_table bases t vcpu) of)

-- copies of a table, by equal doublewords and addresses
pub table_along : (May : ℕ → Option ℕ → Type 0) (bases : Bases) (one other : Doublewords) (table address : ℕ) (before after : IdealGuest) → one ≡ other → table ≡ address → AreCopied May bases one table before after → AreCopied May bases other address before after
table_along May bases one other table address before after same_doublewords same_table copied =
    subst (λ (at : ℕ). AreCopied May bases other at before after) same_table (subst (λ (doublewords : Doublewords). AreCopied May bases doublewords table before after) same_doublewords copied)

-- nothing but the GIC's own memory changes where nothing does, and in two changes where it does in each
pub kept_none : (guest : IdealGuest) → IsSound guest → IsKeptBut guest guest
kept_none guest sound = record { sound = sound; shape = refl; irqs = refl; cpus = refl }

pub kept_more : (before between after : IdealGuest) → IsKeptBut before between → IsKeptBut between after → IsKeptBut before after
kept_more before between after first last =
    record {
      sound = last.sound;
      shape = last.shape ∙ first.shape;
      irqs = last.irqs ∙ first.irqs;
      cpus = last.cpus ∙ first.cpus;
    }

-- a store of a doubleword changes no interrupt and no interface
irqs_stored : (guest : IdealGuest) (value : ℕ) (at : Option Part) → (after_events (option_map_or (λ part. Put (Ram part.index) (inserted (word_at guest (Ram part.index)) part value) ∷ []) at []) guest).irqs ≡ guest.irqs
irqs_stored guest value None = refl
irqs_stored guest value (Some part) = refl

cpus_stored : (guest : IdealGuest) (value : ℕ) (at : Option Part) → (after_events (option_map_or (λ part. Put (Ram part.index) (inserted (word_at guest (Ram part.index)) part value) ∷ []) at []) guest).cpus ≡ guest.cpus
cpus_stored guest value None = refl
cpus_stored guest value (Some part) = refl

-- a store changes the GIC's own memory alone
pub put_kept : (place value : ℕ) (guest after : IdealGuest) → after ≡ put_at place value guest → IsSound after → after.shape ≡ guest.shape → IsKeptBut guest after
put_kept place value guest after is sound shape =
    record {
      sound = sound;
      shape = shape;
      irqs = ap (λ (g : IdealGuest). g.irqs) is ∙ irqs_stored guest value (part_of place 8 guest.shape.ram);
      cpus = ap (λ (g : IdealGuest). g.cpus) is ∙ cpus_stored guest value (part_of place 8 guest.shape.ram);
    }

-- a store outside of it changes nothing
pub put_outside : (place value : ℕ) (guest : IdealGuest) → part_of place 8 guest.shape.ram ≡ None → guest ≡ put_at place value guest
put_outside place value guest none =
    ap (λ (at : Option Part). after_events (option_map_or (λ part. Put (Ram part.index) (inserted (word_at guest (Ram part.index)) part value) ∷ []) at []) guest) (sym none)
