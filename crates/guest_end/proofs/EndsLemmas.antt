-- How the guests of a scenario end, one after the other.
use Rattle.std.proofs.Common.{◌≡◌, ℕ, zero, suc, ◌<◌, ◌≤◌, List, [], ◌∷◌, ◌++◌, length, map, take, drop, get_or, Some, refl, sym, ap, ◌∙◌, subst, arith}
use Rattle.std.specs.Prelude.{slice_get}
use Rattle.std.specs.List.{flat_map}
use Rattle.std.proofs.lemmas.List.{append_assoc, append-nil}
use Rattle.std.proofs.lemmas.Option.{get_or_from_slice_get, slice_get-get_or}
use Rattle.port_core.specs.Registers.{CpuRec}
use Rattle.gic_ideal.specs.IdealGuests.declared.guest.IdealGuest.{IdealGuest}
use Rattle.gic_ideal.specs.IdealGuests.Opening.{opening}
use Rattle.gic_ideal.specs.Ends.{end_of, ends_of}
use Rattle.port_core.specs.Calls.{GuestSpec, IsGoodGuest}
use Rattle.port_core.specs.GicGuest.declared.outcome.End.{End}
use Rattle.port_core.specs.declared.end.GuestWords.{GuestWords}
use Rattle.guest_end.specs.Ends.{AllEndAt, EndsAt, HaveEnded, guests_of}
use Rattle.guest_end.specs.Home.{IsAtEnd, guest_of}

-- The guests from one on.

pub record EndsFirst (guest : GuestSpec) (guests : List GuestSpec) (words : List GuestWords) (cpus : List CpuRec) (ideals : List IdealGuest) : Type 0 where
  pub one : GuestWords
  pub later : List GuestWords
  pub ideal : IdealGuest
  pub others : List IdealGuest
  pub words_are : words ≡ one ∷ later
  pub ideals_are : ideals ≡ ideal ∷ others
  pub at : EndsAt guest one (take guest.shape.vcpus cpus) ideal
  pub rest : AllEndAt guests later (drop guest.shape.vcpus cpus) others

pub ends_first : (guest : GuestSpec) (guests : List GuestSpec) (words : List GuestWords) (cpus : List CpuRec) (ideals : List IdealGuest) → AllEndAt (guest ∷ guests) words cpus ideals → EndsFirst guest guests words cpus ideals
ends_first guest guests [] cpus [] all = absurd all
ends_first guest guests [] cpus (ideal ∷ ideals) all = absurd all
ends_first guest guests (one ∷ words) cpus [] all = absurd all
ends_first guest guests (one ∷ words) cpus (ideal ∷ ideals) all = record { one = one; later = words; ideal = ideal; others = ideals; words_are = refl; ideals_are = refl; at = all.0; rest = all.1 }

pub ends_none : (words : List GuestWords) (cpus : List CpuRec) (ideals : List IdealGuest) → AllEndAt [] words cpus ideals → ideals ≡ []
ends_none [] cpus [] all = refl
ends_none [] cpus (ideal ∷ ideals) all = absurd all
ends_none (one ∷ words) cpus [] all = absurd all
ends_none (one ∷ words) cpus (ideal ∷ ideals) all = absurd all

-- So far.

-- the guests from one on ended with the words and records that are left
pub record WalksSoFar (guests : List GuestSpec) (words : List GuestWords) (cpus rest : List CpuRec) (count : ℕ) : Type 0 where
  pub going : (ideals : List IdealGuest) → AllEndAt guests words cpus ideals → AllEndAt (drop count guests) (drop count words) rest (drop count ideals)

-- the end lines of the first guests
pub record EndsSoFar (guests : List GuestSpec) (words : List GuestWords) (cpus rest : List CpuRec) (ends : List End) (count : ℕ) : Type 0 where
  pub walks : WalksSoFar guests words cpus rest count
  pub told : (ideals : List IdealGuest) → AllEndAt guests words cpus ideals → ends ++ ends_of (map opening (drop count guests)) (drop count ideals) ≡ ends_of (map opening guests) ideals

-- the first guests
pub record StatesSoFar (guests : List GuestSpec) (words : List GuestWords) (cpus rest : List CpuRec) (states : List IdealGuest) (count : ℕ) : Type 0 where
  pub walks : WalksSoFar guests words cpus rest count
  pub told : states ++ guests_of (drop count guests) (drop count words) rest ≡ guests_of guests words cpus

pub drop_next : {X : Type 0} (xs : List X) (n : ℕ) (x : X) → slice_get xs n ≡ Some x → drop n xs ≡ x ∷ drop (suc n) xs
drop_next [] n x e = absurd (cc)
drop_next {X = X} (y ∷ xs) zero x e = ap (λ z. z ∷ xs) (same y x e)
  where
    same : (a b : X) → Some a ≡ Some b → a ≡ b
    same a b e = cc
drop_next (y ∷ xs) (suc n) x e = drop_next xs n x e

drop_later : {X : Type 0} (xs : List X) (n : ℕ) (x : X) (rest : List X) → drop n xs ≡ x ∷ rest → (slice_get xs n ≡ Some x) × (rest ≡ drop (suc n) xs)
drop_later [] zero x rest e = absurd (cc)
drop_later [] (suc n) x rest e = absurd (cc)
drop_later {X = X} (y ∷ xs) zero x rest e = (ap Some (first y x xs rest e), sym (later y x xs rest e))
  where
    first : (a b : X) (as' bs : List X) → (a ∷ as') ≡ (b ∷ bs) → a ≡ b
    first a b as' bs e = cc

    later : (a b : X) (as' bs : List X) → (a ∷ as') ≡ (b ∷ bs) → as' ≡ bs
    later a b as' bs e = cc
drop_later (y ∷ xs) (suc n) x rest e = drop_later xs n x rest e

-- one more guest
module _ (guests : List GuestSpec) (words : List GuestWords) (cpus rest : List CpuRec) (count : ℕ) (so : WalksSoFar guests words cpus rest count) (guest : GuestSpec) (here : slice_get guests count ≡ Some guest) where
  next_end : (ideals : List IdealGuest) → AllEndAt guests words cpus ideals → EndsFirst guest (drop (suc count) guests) (drop count words) rest (drop count ideals)
  next_end ideals all = ends_first guest (drop (suc count) guests) (drop count words) rest (drop count ideals) (subst (λ (gs : List GuestSpec). AllEndAt gs (drop count words) rest (drop count ideals)) (drop_next guests count guest here) (so.going ideals all))

  -- what the end of that guest asks for
  pub record EndsNext (one : GuestWords) : Type 0 where
    pub good : IsGoodGuest guest
    pub ended : IsAtEnd guest.shape one (take guest.shape.vcpus rest)

  same_words : (one : GuestWords) → get_or words count one ≡ one → (have : HaveEnded guests words cpus) → (next_end have.ideals have.all).one ≡ one
  same_words one one_is have =
      let first = next_end have.ideals have.all in
      sym (get_or_from_slice_get words count first.one one (drop_later words count first.one first.later first.words_are).0) ∙ one_is

  pub next_ends : (one : GuestWords) → get_or words count one ≡ one → HaveEnded guests words cpus → EndsNext one
  next_ends one one_is have =
      let first = next_end have.ideals have.all in
      record { good = first.at.good; ended = subst (λ (w : GuestWords). IsAtEnd guest.shape w (take guest.shape.vcpus rest)) (same_words one one_is have) first.at.ended }

  -- the CPU records last
  pub next_cpus : HaveEnded guests words cpus → guest.shape.vcpus ≤ length rest
  next_cpus have =
      let first = next_end have.ideals have.all in
      let each : length (take guest.shape.vcpus rest) ≡ guest.shape.vcpus = first.at.ended.each ∙ first.at.vcpus in
      taken_within rest guest.shape.vcpus each
    where
      taken_within : {X : Type 0} (xs : List X) (n : ℕ) → length (take n xs) ≡ n → n ≤ length xs
      taken_within [] zero e = omega arith
      taken_within [] (suc n) e = absurd (omega (arith, e))
      taken_within (x ∷ xs) zero e = omega arith
      taken_within (x ∷ xs) (suc n) e = let rest = taken_within xs n (omega (arith, e)) in omega (arith, rest)

  walks_more : WalksSoFar guests words cpus (drop guest.shape.vcpus rest) (suc count)
  walks_more = record {
    going = λ ideals all.
        let first = next_end ideals all in
        subst (λ (ws : List GuestWords). AllEndAt (drop (suc count) guests) ws (drop guest.shape.vcpus rest) (drop (suc count) ideals)) (drop_later words count first.one first.later first.words_are).1
        (subst (λ (is : List IdealGuest). AllEndAt (drop (suc count) guests) first.later (drop guest.shape.vcpus rest) is) (drop_later ideals count first.ideal first.others first.ideals_are).1 first.rest);
  }

-- one more end line
pub ends_more :
    (guests : List GuestSpec) (words : List GuestWords) (cpus rest : List CpuRec) (ends : List End) (count : ℕ) → EndsSoFar guests words cpus rest ends count → (guest : GuestSpec) → slice_get guests count ≡ Some guest → (one : GuestWords) (end : End) (next : List End) → get_or words count one ≡ one
    → next ≡ ends ++ end ∷ [] → end ≡ end_of (opening guest) (guest_of guest.shape one (take guest.shape.vcpus rest)) → EndsSoFar guests words cpus (drop guest.shape.vcpus rest) next (suc count)
ends_more guests words cpus rest ends count so guest here one end next one_is pushed end_is = record {
  walks = walks_more guests words cpus rest count so.walks guest here;
  told = λ ideals all.
      let first = next_end guests words cpus rest count so.walks guest here ideals all in
      let same : first.one ≡ one = sym (get_or_from_slice_get words count first.one one (drop_later words count first.one first.later first.words_are).0) ∙ one_is in
      let ideals_there = drop_later ideals count first.ideal first.others first.ideals_are in
      let line : end ≡ end_of (opening guest) first.ideal
      = end_is ∙ ap (λ (w : GuestWords). end_of (opening guest) (guest_of guest.shape w (take guest.shape.vcpus rest))) (sym same) ∙ first.at.lines in
      ap (λ (es : List End). es ++ ends_of (map opening (drop (suc count) guests)) (drop (suc count) ideals)) pushed
      ∙ append_assoc ends (end ∷ []) (ends_of (map opening (drop (suc count) guests)) (drop (suc count) ideals))
      ∙ ap (λ (e : End). ends ++ e ∷ ends_of (map opening (drop (suc count) guests)) (drop (suc count) ideals)) line
      ∙ ap (λ (is : List IdealGuest). ends ++ end_of (opening guest) first.ideal ∷ ends_of (map opening (drop (suc count) guests)) is) (sym ideals_there.1)
      ∙ ap (λ (is : List IdealGuest). ends ++ ends_of (opening guest ∷ map opening (drop (suc count) guests)) is) (sym first.ideals_are)
      ∙ ap (λ (gs : List GuestSpec). ends ++ ends_of (map opening gs) (drop count ideals)) (sym (drop_next guests count guest here))
      ∙ so.told ideals all;
}

-- one more state
pub states_more :
    (guests : List GuestSpec) (words : List GuestWords) (cpus rest : List CpuRec) (states : List IdealGuest) (count : ℕ) → StatesSoFar guests words cpus rest states count → (guest : GuestSpec) → slice_get guests count ≡ Some guest → HaveEnded guests words cpus → (one : GuestWords) (state : IdealGuest) (next : List IdealGuest)
    → get_or words count one ≡ one → next ≡ states ++ state ∷ [] → state ≡ guest_of guest.shape one (take guest.shape.vcpus rest) → StatesSoFar guests words cpus (drop guest.shape.vcpus rest) next (suc count)
states_more guests words cpus rest states count so guest here have one state next one_is pushed state_is =
    let first = next_end guests words cpus rest count so.walks guest here have.ideals have.all in
    let same = same_words guests words cpus rest count so.walks guest here one one_is have in
    let later = (drop_later words count first.one first.later first.words_are).1 in
    let others = guests_of (drop (suc count) guests) (drop (suc count) words) (drop guest.shape.vcpus rest) in
    record {
      walks = walks_more guests words cpus rest count so.walks guest here;
      told =
          ap (λ (all : List IdealGuest). all ++ others) pushed
          ∙ append_assoc states (state ∷ []) others
          ∙ ap (λ (one : IdealGuest). states ++ one ∷ others) (state_is ∙ ap (λ (w : GuestWords). guest_of guest.shape w (take guest.shape.vcpus rest)) (sym same))
          ∙ ap (λ (ws : List GuestWords). states ++ guest_of guest.shape first.one (take guest.shape.vcpus rest) ∷ guests_of (drop (suc count) guests) ws (drop guest.shape.vcpus rest)) (sym later)
          ∙ ap (λ (ws : List GuestWords). states ++ guests_of (guest ∷ drop (suc count) guests) ws rest) (sym first.words_are)
          ∙ ap (λ (gs : List GuestSpec). states ++ guests_of gs (drop count words) rest) (sym (drop_next guests count guest here))
          ∙ so.told;
    }

-- All guests, each told of by one value.

taken_first : {X : Type 0} (xs ys : List X) (n : ℕ) → length xs ≡ n → take n (xs ++ ys) ≡ xs
taken_first [] ys zero e = refl
taken_first [] ys (suc n) e = absurd (omega (arith, e))
taken_first (x ∷ xs) ys zero e = absurd (omega (arith, e))
taken_first (x ∷ xs) ys (suc n) e = ap (λ rest. x ∷ rest) (taken_first xs ys n (omega (arith, e)))

dropped_first : {X : Type 0} (xs ys : List X) (n : ℕ) → length xs ≡ n → drop n (xs ++ ys) ≡ ys
dropped_first [] ys zero e = refl
dropped_first [] ys (suc n) e = absurd (omega (arith, e))
dropped_first (x ∷ xs) ys zero e = absurd (omega (arith, e))
dropped_first (x ∷ xs) ys (suc n) e = dropped_first xs ys n (omega (arith, e))

pub all_end :
    {Told : Type 0} (words_of : Told → GuestWords) (cpus_of : Told → List CpuRec) (guests : List GuestSpec) (tolds : List Told) (ideals : List IdealGuest) → length tolds ≡ length guests → length ideals ≡ length guests
    → ((n : ℕ) (guest : GuestSpec) (told : Told) (ideal : IdealGuest) → slice_get guests n ≡ Some guest → slice_get tolds n ≡ Some told → slice_get ideals n ≡ Some ideal → EndsAt guest (words_of told) (cpus_of told) ideal)
    → AllEndAt guests (map words_of tolds) (flat_map cpus_of tolds) ideals
all_end words_of cpus_of [] [] [] one two each = tt
all_end words_of cpus_of [] [] (ideal ∷ ideals) one two each = absurd (omega (arith, two))
all_end words_of cpus_of [] (told ∷ tolds) ideals one two each = absurd (omega (arith, one))
all_end words_of cpus_of (guest ∷ guests) [] ideals one two each = absurd (omega (arith, one))
all_end words_of cpus_of (guest ∷ guests) (told ∷ tolds) [] one two each = absurd (omega (arith, two))
all_end words_of cpus_of (guest ∷ guests) (told ∷ tolds) (ideal ∷ ideals) one two each =
    let first = each 0 guest told ideal refl refl refl in
    let count : length (cpus_of told) ≡ guest.shape.vcpus = first.ended.each ∙ first.vcpus in (
      subst (λ cpus. EndsAt guest (words_of told) cpus ideal) (sym (taken_first (cpus_of told) (flat_map cpus_of tolds) guest.shape.vcpus count)) first,
      subst (λ cpus. AllEndAt guests (map words_of tolds) cpus ideals) (sym (dropped_first (cpus_of told) (flat_map cpus_of tolds) guest.shape.vcpus count))
          (all_end words_of cpus_of guests tolds ideals (omega (arith, one)) (omega (arith, two)) (λ n guest told ideal a b c. each (suc n) guest told ideal a b c)),
    )

-- and their end lines
pub lines_are : (guests : List GuestSpec) (words : List GuestWords) (cpus : List CpuRec) (ideals : List IdealGuest) → AllEndAt guests words cpus ideals → length ideals ≡ length guests
lines_are [] words cpus ideals all = ap length (ends_none words cpus ideals all)
lines_are (guest ∷ guests) words cpus ideals all =
    let first = ends_first guest guests words cpus ideals all in ap length first.ideals_are ∙ ap suc (lines_are guests first.later (drop guest.shape.vcpus cpus) first.others first.rest)

-- where words are left, so is a guest
pub guest_left : (guests : List GuestSpec) (words : List GuestWords) (cpus rest : List CpuRec) (count : ℕ) → WalksSoFar guests words cpus rest count → HaveEnded guests words cpus → (one : GuestWords) (later : List GuestWords) → drop count words ≡ one ∷ later → count < length guests
guest_left guests words cpus rest count so have one later left = within guests count (λ none. never (drop count have.ideals) (subst (λ gs. AllEndAt gs (one ∷ later) rest (drop count have.ideals)) none (subst (λ ws. AllEndAt (drop count guests) ws rest (drop count have.ideals)) left (so.going have.ideals have.all))))
  where
    never : (ideals : List IdealGuest) → AllEndAt [] (one ∷ later) rest ideals → ⊥
    never [] all = all
    never (ideal ∷ ideals) all = all

    within : {X : Type 0} (xs : List X) (n : ℕ) → (drop n xs ≡ [] → ⊥) → n < length xs
    within [] zero some = absurd (some refl)
    within [] (suc n) some = absurd (some refl)
    within (x ∷ xs) zero some = omega arith
    within (x ∷ xs) (suc n) some = let rest = within xs n some in omega (arith, rest)

-- the next words are those of the next guest
pub record NextOne (guests : List GuestSpec) (words : List GuestWords) (count : ℕ) (one : GuestWords) (guest : GuestSpec) : Type 0 where
  pub here : slice_get guests count ≡ Some guest
  pub is : get_or words count one ≡ one

next_words : (words yielded later : List GuestWords) (one : GuestWords) → words ≡ yielded ++ one ∷ later → drop (length yielded) words ≡ one ∷ later
next_words words yielded later one all = ap (drop (length yielded)) all ∙ dropped_first yielded (one ∷ later) (length yielded) refl

pub guest_next : (guests : List GuestSpec) (words : List GuestWords) (cpus rest : List CpuRec) (yielded later : List GuestWords) (one : GuestWords) (guest : GuestSpec) → WalksSoFar guests words cpus rest (length yielded) → HaveEnded guests words cpus → words ≡ yielded ++ one ∷ later
    → length yielded < length guests
guest_next guests words cpus rest yielded later one guest so have all = guest_left guests words cpus rest (length yielded) so have one later (next_words words yielded later one all)

pub next_one : (guests : List GuestSpec) (words : List GuestWords) (cpus rest : List CpuRec) (yielded later : List GuestWords) (one : GuestWords) (guest : GuestSpec) → WalksSoFar guests words cpus rest (length yielded) → HaveEnded guests words cpus → words ≡ yielded ++ one ∷ later
    → guest ≡ get_or guests (length yielded) guest → NextOne guests words (length yielded) one guest
next_one guests words cpus rest yielded later one guest so have all is = record {
  here = slice_get-get_or guests (length yielded) guest (guest_next guests words cpus rest yielded later one guest so have all) ∙ ap Some (sym is);
  is = get_or_from_slice_get words (length yielded) one one (drop_later words (length yielded) one later (next_words words yielded later one all)).0;
}

-- no words are left
pub states_all : (guests : List GuestSpec) (words : List GuestWords) (cpus rest : List CpuRec) (states : List IdealGuest) (yielded : List GuestWords) → StatesSoFar guests words cpus rest states (length yielded) → words ≡ yielded → states ≡ guests_of guests words cpus
states_all guests words cpus rest states yielded so all =
    let none : drop (length yielded) words ≡ [] = ap (drop (length yielded)) (all ∙ sym (append-nil yielded)) ∙ dropped_first yielded [] (length yielded) refl in
    sym (append-nil states) ∙ ap (λ others. states ++ others) (sym (nobody (drop (length yielded) guests))) ∙ ap (λ ws. states ++ guests_of (drop (length yielded) guests) ws rest) (sym none) ∙ so.told
  where
    nobody : (gs : List GuestSpec) → guests_of gs [] rest ≡ []
    nobody [] = refl
    nobody (guest ∷ gs) = refl

pub nothing_left : {X : Type 0} (rest : List X) → length rest ≡ 0 → rest ≡ []
nothing_left [] none = refl
nothing_left (x ∷ rest) none = absurd (omega (arith, none))

-- the guests that all say, each told of by one value
pub all_states :
    {Told : Type 0} (words_of : Told → GuestWords) (cpus_of : Told → List CpuRec) (at_home : IdealGuest → IdealGuest) (guests : List GuestSpec) (tolds : List Told) (ideals : List IdealGuest) → length tolds ≡ length guests → length ideals ≡ length guests
    → ((n : ℕ) (guest : GuestSpec) (told : Told) (ideal : IdealGuest) → slice_get guests n ≡ Some guest → slice_get tolds n ≡ Some told → slice_get ideals n ≡ Some ideal → (length (cpus_of told) ≡ guest.shape.vcpus) × (guest_of guest.shape (words_of told) (cpus_of told) ≡ at_home ideal))
    → guests_of guests (map words_of tolds) (flat_map cpus_of tolds) ≡ map at_home ideals
all_states words_of cpus_of at_home [] [] [] one two each = refl
all_states words_of cpus_of at_home [] [] (ideal ∷ ideals) one two each = absurd (omega (arith, two))
all_states words_of cpus_of at_home [] (told ∷ tolds) ideals one two each = absurd (omega (arith, one))
all_states words_of cpus_of at_home (guest ∷ guests) [] ideals one two each = absurd (omega (arith, one))
all_states words_of cpus_of at_home (guest ∷ guests) (told ∷ tolds) [] one two each = absurd (omega (arith, two))
all_states words_of cpus_of at_home (guest ∷ guests) (told ∷ tolds) (ideal ∷ ideals) one two each =
    let first = each 0 guest told ideal refl refl refl in
    let others = map words_of tolds in
    ap (λ cpus. guest_of guest.shape (words_of told) cpus ∷ guests_of guests others (drop guest.shape.vcpus (cpus_of told ++ flat_map cpus_of tolds))) (taken_first (cpus_of told) (flat_map cpus_of tolds) guest.shape.vcpus first.0)
    ∙ ap (λ cpus. guest_of guest.shape (words_of told) (cpus_of told) ∷ guests_of guests others cpus) (dropped_first (cpus_of told) (flat_map cpus_of tolds) guest.shape.vcpus first.0)
    ∙ ap (λ one. one ∷ guests_of guests others (flat_map cpus_of tolds)) first.1
    ∙ ap (λ rest. at_home ideal ∷ rest) (all_states words_of cpus_of at_home guests tolds ideals (omega (arith, one)) (omega (arith, two)) (λ n guest told ideal a b c. each (suc n) guest told ideal a b c))
