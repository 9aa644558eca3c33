-- A change of which a vCPU is still to be told was made in a call of another actor that is open.
use Rattle.std.proofs.Common.{◌≡◌, ℕ, ◌+◌, ◌<◌, ◌≤◌, ◌==◌, ◌&&◌, ◌||◌, zero, suc, inl, inr, not, Bool, true, false, IsTrue, All, List, [], ◌∷◌, map, Option, Some, None, is_some, cond, refl, sym, ap, ◌∙◌, subst, arith}
use Rattle.std.specs.List.{list_all, list_any, range_with_len}
use Rattle.std.specs.Option.{option_map_or}
use Rattle.std.proofs.lemmas.Bool.{and_parts, and_from, cases_eq, eqb-true, ne_eqb}
use Rattle.std.proofs.lemmas.List.Elements.{All-head, All-tail}
use Rattle.law_serial_is_eager.specs.Words.{Key, GuestShape, has_interrupt, is_same_key}
use Rattle.law_serial_is_eager.proofs.GicBase.KeyLemmas.{same_itself}
use Rattle.law_serial_is_eager.specs.Histories.{Track, Turn, changes_of, doing_of, is_last_open, is_open, Standing}
use Rattle.law_serial_is_eager.specs.Core.{AtIrq, entry_for, is_at, CoreState, seat_at, IsAt}
use Rattle.law_serial_is_eager.specs.LawCoreIsHistory.Related.{stands}
use Rattle.law_serial_is_eager.specs.LawScansMissNone.Excuse.{IsExcused, is_current}
use Rattle.law_serial_is_eager.specs.LawScansMissNone.Index.{owes_kick}
use Rattle.law_serial_is_eager.specs.LawScansMissNone.Standing.{IsOwing}

module _ (shape : GuestShape) (state : CoreState) (track : Track) (vcpu : ℕ) (free : IsTrue (owes_kick vcpu (seat_at state vcpu).local) → ⊥) where
  -- a call that goes on, of another actor
  goes_on : (turn : Turn) → (turn.actor ≡ vcpu → ⊥) → IsTrue (is_current track turn) → IsTrue (is_open track vcpu turn)
  goes_on turn differ current =
      let both = and_parts (is_some (doing_of track turn.actor).operation) ((doing_of track turn.actor).number == turn.number) current in
      and_from (not (turn.actor == vcpu) && is_some (doing_of track turn.actor).operation) ((doing_of track turn.actor).number == turn.number)
      (and_from (not (turn.actor == vcpu)) (is_some (doing_of track turn.actor).operation) (ap not (ne_eqb turn.actor vcpu differ)) both.0) both.1

  -- who owes the vCPU a kick is another
  another : (actor : ℕ) → IsTrue (owes_kick vcpu (seat_at state actor).local) → actor ≡ vcpu → ⊥
  another actor owes e = free (subst (λ n. IsTrue (owes_kick vcpu (seat_at state n).local)) e owes)

  pub owing_open : (turn : Turn) → IsOwing shape state track vcpu turn → IsTrue (is_open track vcpu turn)
  owing_open turn owing = goes_on turn (another turn.actor owing.owes) owing.current

  pub all_open : (turns : List Turn) → All (IsOwing shape state track vcpu) turns → IsTrue (list_all (is_open track vcpu) turns)
  all_open [] all = refl
  all_open (turn ∷ turns) all =
      and_from (is_open track vcpu turn) (list_all (is_open track vcpu) turns) (owing_open turn (All-head (IsOwing shape state track vcpu) turn turns all)) (all_open turns (All-tail (IsOwing shape state track vcpu) turn turns all))

  pub excused_open : (key : Key) → IsExcused shape state track vcpu key → IsTrue (is_last_open shape track vcpu key)
  excused_open key excused = of (changes_of shape track key).last excused.last
    where
      of : (o : Option Turn) → IsTrue (option_map_or (λ turn. turn.actor == excused.actor && is_current track turn) o false) → IsTrue (option_map_or (is_open track vcpu) o false)
      of None h = h
      of (Some turn) h =
          let both = and_parts (turn.actor == excused.actor) (is_current track turn) h in
          goes_on turn (λ e. another excused.actor excused.owes (sym (eqb-true turn.actor excused.actor both.0) ∙ e)) both.1

-- Lists.

-- one of a range
pub any_in_range : (test : ℕ → Bool) (from count i : ℕ) → from ≤ i → i < from + count → IsTrue (test i) → IsTrue (list_any test (range_with_len from count))
any_in_range test from zero i low high h = absurd (omega (arith, low, high))
any_in_range test from (suc count) i low high h = elim (cases_eq i from) [
  | inl same ↦ ap (λ b. b || list_any test (range_with_len (from + 1) count)) (subst (λ n. IsTrue (test n)) same h)
  | inr differ ↦ right (test from) (list_any test (range_with_len (from + 1) count)) (any_in_range test (from + 1) count i (omega (arith, low, differ)) (omega (arith, high)) h)
]
  where
    right : (a b : Bool) → IsTrue b → IsTrue (a || b)
    right true b h = refl
    right false b h = h

-- what holds of each interrupt at an interface
pub all_stand : (shape : GuestShape) (vcpu : ℕ) (test : Standing → Bool) (list : List AtIrq) → All (IsAt shape vcpu) list → ((entry : AtIrq) → IsTrue (has_interrupt shape entry.key) → is_at entry.key list ≡ true → IsTrue (test (stands entry))) → IsTrue (list_all test (map stands list))
all_stand shape vcpu test [] all each = refl
all_stand shape vcpu test (first ∷ list) all each =
    and_from (test (stands first)) (list_all test (map stands list)) (each first (All-head (IsAt shape vcpu) first list all).there (here first.key (same_itself first.key)))
    (all_stand shape vcpu test list (All-tail (IsAt shape vcpu) first list all) (λ entry there at. each entry there (later entry.key at)))
  where
    here : (key : Key) → is_same_key first.key key ≡ true → is_at key (first ∷ list) ≡ true
    here key e = ap (λ b. is_some (cond b (Some first) (entry_for key list))) e

    later : (key : Key) → is_at key list ≡ true → is_at key (first ∷ list) ≡ true
    later key h = of (is_same_key first.key key)
      where
        of : (b : Bool) → is_some (cond b (Some first) (entry_for key list)) ≡ true
        of true = refl
        of false = h
