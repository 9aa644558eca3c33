-- A place that is set or cleared.
use Rattle.std.proofs.Common.{◌≡◌, ◌≢◌, ◌≤◌, ◌<◌, ℕ, Option, Some, None, List, length, get_or, set, Contains, ◌⊎◌, inl, inr, sym, ap, ◌∙◌, subst, arith}
use Rattle.std.proofs.Math.Seq.{take-set-lt}
use Rattle.std.proofs.lemmas.Option.{none-some, same_Some}
use Rattle.std.proofs.lemmas.List.{length-set, length-take, get_or-set_same, get_or-set_other}
use Rattle.gic_ich.specs.Words.{HeldIrq}
use Rattle.gic_ich.specs.GicPrio.Interface.{AtInterface, InterfaceState}
use Rattle.gic_ich.specs.declared.regs.IchRegs.{IchRegs}
use Rattle.gic_ich.specs.Regs.{listed_of}
use Rattle.gic_ich.specs.Place.{StandsAs, HasOne, IsHeld, StandByPlace, StandFor}
use Rattle.vcpu_state.specs.Places.{IsWith, IsWithout}

-- two numbers are one or apart
same_or : (m n : ℕ) → (m ≡ n) ⊎ (m ≢ n)
same_or m n = by_order (grind arith)
  where
    by_order : (m < n) ⊎ ((m ≡ n) ⊎ (n < m)) → (m ≡ n) ⊎ (m ≢ n)
    by_order (inl less) = inr (λ e. omega (arith, less, e))
    by_order (inr (inl same)) = inl same
    by_order (inr (inr more)) = inr (λ e. omega (arith, more, e))

-- an interrupt is put into a free place
put_place :
    (words : List ℕ) (held : List (Option HeldIrq)) (at after : List AtInterface) (place word : ℕ) (one : HeldIrq) (entry : AtInterface) → StandByPlace words held at → place < length words → place < length held → get_or held place None ≡ None → (IsHeld held one.key → ⊥) → StandsAs word one entry → IsWith entry at after
    → StandByPlace (set words place word) (set held place (Some one)) after
put_place words held at after place word one entry stand within room free new stands with =
    let long : length (set words place word) ≡ length words = length-set words place word in
    record {
      filled = λ n other less is. filled n other (omega (arith, long, less)) is (same_or n place);
      free = λ n less none. free_at n (omega (arith, long, less)) none (same_or n place);
      past = λ n more. get_or-set_other held place n (Some one) None (λ e. omega (arith, long, more, e, within)) ∙ stand.past n (omega (arith, long, more));
      each = λ other has. each other (with.only other has);
      once = λ j k a b is are e. once j k a b is are e (same_or j place) (same_or k place);
    }
  where
    held_there : get_or (set held place (Some one)) place None ≡ Some one
    held_there = get_or-set_same held place (Some one) None room

    filled : (n : ℕ) (other : HeldIrq) → n < length words → get_or (set held place (Some one)) n None ≡ Some other → (n ≡ place) ⊎ (n ≢ place) → HasOne (get_or (set words place word) n 0) other after
    filled n other less is (inl same) =
        let is_one : one ≡ other = same_Some one other (sym held_there ∙ ap (λ m. get_or (set held place (Some one)) m None) (sym same) ∙ is) in
        subst (λ w. HasOne w other after) (sym (ap (λ m. get_or (set words place word) m 0) same ∙ get_or-set_same words place word 0 within))
        (subst (λ held. HasOne word held after) is_one (record { entry = entry; among = with.one; stands = stands }))
    filled n other less is (inr apart) =
        let has = stand.filled n other less (sym (get_or-set_other held place n (Some one) None apart) ∙ is) in
        subst (λ w. HasOne w other after) (sym (get_or-set_other words place n word 0 apart)) (record { entry = has.entry; among = with.kept has.entry has.among; stands = has.stands })

    free_at : (n : ℕ) → n < length words → get_or (set held place (Some one)) n None ≡ None → (n ≡ place) ⊎ (n ≢ place) → get_or (set words place word) n 0 ≡ 0
    free_at n less none (inl same) = absurd (none-some one (sym none ∙ ap (λ m. get_or (set held place (Some one)) m None) same ∙ held_there))
    free_at n less none (inr apart) = get_or-set_other words place n word 0 apart ∙ stand.free n less (sym (get_or-set_other held place n (Some one) None apart) ∙ none)

    each : (other : AtInterface) → (other ≡ entry) ⊎ Contains at other → IsHeld (set held place (Some one)) other.key
    each other (inl same) = record { place = place; one = one; there = held_there; is = sym stands.key ∙ ap (λ entry. entry.key) (sym same) }
    each other (inr has) =
        let old = stand.each other has in
        record { place = old.place; one = old.one; there = get_or-set_other held place old.place (Some one) None (λ e. none-some old.one (sym free ∙ ap (λ m. get_or held m None) (sym e) ∙ old.there)) ∙ old.there; is = old.is }

    old : (n : ℕ) (other : HeldIrq) → n ≢ place → get_or (set held place (Some one)) n None ≡ Some other → get_or held n None ≡ Some other
    old n other apart is = sym (get_or-set_other held place n (Some one) None apart) ∙ is

    now : (n : ℕ) (other : HeldIrq) → n ≡ place → get_or (set held place (Some one)) n None ≡ Some other → other ≡ one
    now n other same is = same_Some other one (sym is ∙ ap (λ m. get_or (set held place (Some one)) m None) same ∙ held_there)

    once : (j k : ℕ) (a b : HeldIrq) → get_or (set held place (Some one)) j None ≡ Some a → get_or (set held place (Some one)) k None ≡ Some b → a.key ≡ b.key → (j ≡ place) ⊎ (j ≢ place) → (k ≡ place) ⊎ (k ≢ place) → j ≡ k
    once j k a b is are e (inl here) (inl there) = here ∙ sym there
    once j k a b is are e (inl here) (inr apart) = absurd (new (record { place = k; one = b; there = old k b apart are; is = sym e ∙ ap (λ h. h.key) (now j a here is) }))
    once j k a b is are e (inr apart) (inl there) = absurd (new (record { place = j; one = a; there = old j a apart is; is = e ∙ ap (λ h. h.key) (now k b there are) }))
    once j k a b is are e (inr apart) (inr away) = stand.once j k a b (old j a apart is) (old k b away are) e

-- a place is cleared
clear_place :
    (words : List ℕ) (held : List (Option HeldIrq)) (at after : List AtInterface) (place : ℕ) (one : HeldIrq) → StandByPlace words held at → place < length held → get_or held place None ≡ Some one → IsWithout one.key at after → StandByPlace (set words place 0) (set held place None) after
clear_place words held at after place one stand room was without =
    let long : length (set words place 0) ≡ length words = length-set words place 0 in
    record {
      filled = λ n other less is. filled n other (omega (arith, long, less)) is (same_or n place);
      free = λ n less none. free_at n (omega (arith, long, less)) none (same_or n place);
      past = λ n more. past n (omega (arith, long, more)) (same_or n place);
      each = λ other has.
          let old = stand.each other (without.only other has) in
          record { place = old.place; one = old.one; there = get_or-set_other held place old.place None None (λ e. without.gone other has (sym old.is ∙ ap (λ h. h.key) (same_Some old.one one (sym old.there ∙ ap (λ m. get_or held m None) e ∙ was)))) ∙ old.there; is = old.is };
      once = λ j k a b is are e. stand.once j k a b (old j a is (same_or j place)) (old k b are (same_or k place)) e;
    }
  where
    none_there : get_or (set held place None) place None ≡ None
    none_there = get_or-set_same held place None None room

    old : (n : ℕ) (other : HeldIrq) → get_or (set held place None) n None ≡ Some other → (n ≡ place) ⊎ (n ≢ place) → get_or held n None ≡ Some other
    old n other is (inl same) = absurd (none-some other (sym none_there ∙ ap (λ m. get_or (set held place None) m None) (sym same) ∙ is))
    old n other is (inr apart) = sym (get_or-set_other held place n None None apart) ∙ is

    filled : (n : ℕ) (other : HeldIrq) → n < length words → get_or (set held place None) n None ≡ Some other → (n ≡ place) ⊎ (n ≢ place) → HasOne (get_or (set words place 0) n 0) other after
    filled n other less is (inl same) = absurd (none-some other (sym none_there ∙ ap (λ m. get_or (set held place None) m None) (sym same) ∙ is))
    filled n other less is (inr apart) =
        let before = old n other is (inr apart) in
        let has = stand.filled n other less before in
        subst (λ w. HasOne w other after) (sym (get_or-set_other words place n 0 0 apart))
        (record { entry = has.entry; among = without.kept has.entry has.among (λ e. apart (stand.once n place other one before was (sym has.stands.key ∙ e))); stands = has.stands })

    free_at : (n : ℕ) → n < length words → get_or (set held place None) n None ≡ None → (n ≡ place) ⊎ (n ≢ place) → get_or (set words place 0) n 0 ≡ 0
    free_at n less none (inl same) = ap (λ m. get_or (set words place 0) m 0) same ∙ get_or-set_same words place 0 0 (subst (λ m. m < length words) same less)
    free_at n less none (inr apart) = get_or-set_other words place n 0 0 apart ∙ stand.free n less (sym (get_or-set_other held place n None None apart) ∙ none)

    past : (n : ℕ) → length words ≤ n → (n ≡ place) ⊎ (n ≢ place) → get_or (set held place None) n None ≡ None
    past n more (inl same) = ap (λ m. get_or (set held place None) m None) same ∙ none_there
    past n more (inr apart) = get_or-set_other held place n None None apart ∙ stand.past n more

-- the registers with one place set or cleared
pub put_stands :
    (regs : IchRegs) (held : List (Option HeldIrq)) (interface : InterfaceState) (at : List AtInterface) (place word : ℕ) (one : HeldIrq) (entry : AtInterface) → place < length regs.lr → place < length held → StandFor regs held interface → place < regs.n → get_or held place None ≡ None → (IsHeld held one.key → ⊥) → StandsAs word one entry → IsWith entry interface.at at
    → StandFor (record regs { lr = set regs.lr place word }) (set held place (Some one)) (record interface { at = at })
put_stands regs held interface at place word one entry inside room stand below free new stands with =
    let within : place < length (listed_of regs) = omega (arith, length-take regs.n regs.lr, inside, below) in
    record {
      holds = record { enabled = stand.holds.enabled; vmcr = stand.holds.vmcr; ap0 = stand.holds.ap0; ap1 = stand.holds.ap1 };
      places = subst (λ words. StandByPlace words (set held place (Some one)) at) (sym (take-set-lt regs.n regs.lr place word below))
          (put_place (listed_of regs) held interface.at at place word one entry stand.places within room free new stands with);
    }

pub clear_stands : (regs : IchRegs) (held : List (Option HeldIrq)) (interface : InterfaceState) (at : List AtInterface) (place : ℕ) (one : HeldIrq) → place < length held → StandFor regs held interface → get_or held place None ≡ Some one → IsWithout one.key interface.at at
    → StandFor (record regs { lr = set regs.lr place 0 }) (set held place None) (record interface { at = at })
clear_stands regs held interface at place one room stand was without =
    let within : place < length (listed_of regs) = inside (grind arith) in
    let below : place < regs.n = omega (arith, length-take regs.n regs.lr, within) in
    record {
      holds = record { enabled = stand.holds.enabled; vmcr = stand.holds.vmcr; ap0 = stand.holds.ap0; ap1 = stand.holds.ap1 };
      places = subst (λ words. StandByPlace words (set held place None) at) (sym (take-set-lt regs.n regs.lr place 0 below))
          (clear_place (listed_of regs) held interface.at at place one stand.places room was without);
    }
  where
    inside : (place < length (listed_of regs)) ⊎ (length (listed_of regs) ≤ place) → place < length (listed_of regs)
    inside (inl less) = less
    inside (inr past) = absurd (none-some one (sym (stand.places.past place past) ∙ was))
