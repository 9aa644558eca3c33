-- A piece from its first named event on.
use Rattle.std.proofs.Common.{◌≡◌, ℕ, ◌+◌, ◌-◌, ◌<◌, length, get_or, take, drop, length-drop, arith, not, Bool, true, false, cond, List, [], ◌∷◌, ◌++◌, Option, refl, sym, ap, ap₂, ◌∙◌, ◌==◌, append_assoc}
use Rattle.std.proofs.lemmas.Bool.{and_parts, and_from}
use Rattle.std.proofs.lemmas.Grind.{common_steps}
use Rattle.std.proofs.lemmas.List.{drop_more, take_all}
use Rattle.history_commands.specs.Calls.{Found, Happened, Place, IsLastRead, is_beside, named_of}
use Rattle.history_calls.proofs.CountLemmas.{named_more}
use Rattle.history_commands.specs.Walked.{from_named, before_named, is_idle}

same_head : (x y : Happened) (xs ys : List Happened) → x ∷ xs ≡ y ∷ ys → x ≡ y
same_head x y xs ys h = cc

same_tail : (x y : Happened) (xs ys : List Happened) → x ∷ xs ≡ y ∷ ys → xs ≡ ys
same_tail x y xs ys h = cc

-- a piece has this event first of the named ones, and after it these
pub record IsFirstOf (actor : Option ℕ) (piece : List Happened) (one : Happened) (rest : List Happened) : Type 0 where
  pub before : List Happened
  pub split : piece ≡ before ++ one ∷ rest
  pub none : named_of actor before ≡ []
  pub named : is_beside actor one.event ≡ false

pub from_first : (actor : Option ℕ) (piece : List Happened) (one : Happened) (rest : List Happened) → from_named actor piece ≡ one ∷ rest → IsFirstOf actor piece one rest
from_first actor [] one rest h = absurd (cc)
from_first actor (x ∷ piece) one rest h = of (is_beside actor x.event) refl h (from_first actor piece one rest)
  where
    of : (b : Bool) → is_beside actor x.event ≡ b → cond b (from_named actor piece) (x ∷ piece) ≡ one ∷ rest → (from_named actor piece ≡ one ∷ rest → IsFirstOf actor piece one rest) → IsFirstOf actor (x ∷ piece) one rest
    of true e k more =
        let is = more k in
        record {
          before = x ∷ is.before;
          split = ap (λ p. x ∷ p) is.split;
          none = ap (λ b. cond (not b) (x ∷ named_of actor is.before) (named_of actor is.before)) e ∙ is.none;
          named = is.named;
        }
    of false e k more = record { before = []; split = k; none = refl; named = ap (λ (h : Happened). is_beside actor h.event) (sym (same_head x one piece rest k)) ∙ e }

pub from_none : (actor : Option ℕ) (piece : List Happened) → from_named actor piece ≡ [] → named_of actor piece ≡ []
from_none actor [] h = refl
from_none actor (x ∷ piece) h = of (is_beside actor x.event) refl h (from_none actor piece)
  where
    of : (b : Bool) → is_beside actor x.event ≡ b → cond b (from_named actor piece) (x ∷ piece) ≡ [] → (from_named actor piece ≡ [] → named_of actor piece ≡ []) → cond (not (is_beside actor x.event)) (x ∷ named_of actor piece) (named_of actor piece) ≡ []
    of true e k more = ap (λ b. cond (not b) (x ∷ named_of actor piece) (named_of actor piece)) e ∙ more k
    of false e k more = absurd (cc)

-- its named events are that one and those after it
pub first_named : (actor : Option ℕ) (piece : List Happened) (one : Happened) (rest : List Happened) → IsFirstOf actor piece one rest → named_of actor piece ≡ one ∷ named_of actor rest
first_named actor piece one rest is =
    ap (named_of actor) is.split ∙ named_more actor is.before (one ∷ rest) ∙ ap (λ xs. xs ++ named_of actor (one ∷ rest)) is.none
    ∙ ap (λ b. cond (not b) (one ∷ named_of actor rest) (named_of actor rest)) is.named

-- a piece whose only named event is this
pub record IsAlone (actor : Option ℕ) (piece : List Happened) (one : Happened) : Type 0 where
  pub more : List Happened
  pub from : (rest : List Happened) → from_named actor (piece ++ rest) ≡ one ∷ (more ++ rest)
  pub none : named_of actor more ≡ []

pub alone : (actor : Option ℕ) (piece : List Happened) (one : Happened) → named_of actor piece ≡ one ∷ [] → IsAlone actor piece one
alone actor [] one h = absurd (cc)
alone actor (x ∷ piece) one h = of (is_beside actor x.event) refl h (alone actor piece one)
  where
    of : (b : Bool) → is_beside actor x.event ≡ b → cond (not b) (x ∷ named_of actor piece) (named_of actor piece) ≡ one ∷ [] → (named_of actor piece ≡ one ∷ [] → IsAlone actor piece one) → IsAlone actor (x ∷ piece) one
    of true e k rec = let is = rec k in record { more = is.more; from = λ rest. ap (λ b. cond b (from_named actor (piece ++ rest)) (x ∷ (piece ++ rest))) e ∙ is.from rest; none = is.none }
    of false e k rec = record {
      more = piece;
      from = λ rest. ap (λ b. cond b (from_named actor (piece ++ rest)) (x ∷ (piece ++ rest))) e ∙ ap (λ y. y ∷ (piece ++ rest)) (same_head x one (named_of actor piece) [] k);
      none = same_tail x one (named_of actor piece) [] k;
    }

-- no event of it is named
pub idle_none : (actor : Option ℕ) (piece : List Happened) → is_idle actor piece ≡ true → named_of actor piece ≡ []
idle_none actor [] h = refl
idle_none actor (x ∷ piece) h =
    let both = and_parts (is_beside actor x.event) (is_idle actor piece) h in
    ap (λ b. cond (not b) (x ∷ named_of actor piece) (named_of actor piece)) both.0 ∙ idle_none actor piece both.1

pub none_idle : (actor : Option ℕ) (piece : List Happened) → named_of actor piece ≡ [] → is_idle actor piece ≡ true
none_idle actor [] h = refl
none_idle actor (x ∷ piece) h = of (is_beside actor x.event) refl h (none_idle actor piece)
  where
    of : (b : Bool) → is_beside actor x.event ≡ b → cond (not b) (x ∷ named_of actor piece) (named_of actor piece) ≡ [] → (named_of actor piece ≡ [] → is_idle actor piece ≡ true) → is_idle actor (x ∷ piece) ≡ true
    of true e k more = and_from (is_beside actor x.event) (is_idle actor piece) e (more k)
    of false e k more = absurd (cc)

-- reads that come before others change nothing
pub reads_more : (place : Place) (found : Found) (more piece : List Happened) → IsLastRead place found piece → IsLastRead place found (more ++ piece)
reads_more place found more piece is = record { before = more ++ is.before; after = is.after; split = ap (λ p. more ++ p) is.split ∙ sym (append_assoc more is.before _); last = is.last }

-- with more events
pub from_append : (actor : Option ℕ) (piece more : List Happened) (one : Happened) (rest : List Happened) → from_named actor piece ≡ one ∷ rest → from_named actor (piece ++ more) ≡ one ∷ (rest ++ more)
from_append actor [] more one rest h = absurd (cc)
from_append actor (x ∷ piece) more one rest h = of (is_beside actor x.event) refl h (from_append actor piece more one rest)
  where
    of : (b : Bool) → is_beside actor x.event ≡ b → cond (is_beside actor x.event) (from_named actor piece) (x ∷ piece) ≡ one ∷ rest → (from_named actor piece ≡ one ∷ rest → from_named actor (piece ++ more) ≡ one ∷ (rest ++ more))
        → cond (is_beside actor x.event) (from_named actor (piece ++ more)) (x ∷ (piece ++ more)) ≡ one ∷ (rest ++ more)
    of true e k rec = ap (λ b. cond b (from_named actor (piece ++ more)) (x ∷ (piece ++ more))) e ∙ rec (ap (λ b. cond b (from_named actor piece) (x ∷ piece)) (sym e) ∙ k)
    of false e k rec =
        ap (λ b. cond b (from_named actor (piece ++ more)) (x ∷ (piece ++ more))) e
        ∙ ap (λ xs. xs ++ more) (ap (λ b. cond b (from_named actor piece) (x ∷ piece)) (sym e) ∙ k)

pub from_later : (actor : Option ℕ) (piece more : List Happened) → from_named actor piece ≡ [] → from_named actor (piece ++ more) ≡ from_named actor more
from_later actor [] more h = refl
from_later actor (x ∷ piece) more h = of (is_beside actor x.event) refl h (from_later actor piece more)
  where
    of : (b : Bool) → is_beside actor x.event ≡ b → cond (is_beside actor x.event) (from_named actor piece) (x ∷ piece) ≡ [] → (from_named actor piece ≡ [] → from_named actor (piece ++ more) ≡ from_named actor more)
        → cond (is_beside actor x.event) (from_named actor (piece ++ more)) (x ∷ (piece ++ more)) ≡ from_named actor more
    of true e k rec = ap (λ b. cond b (from_named actor (piece ++ more)) (x ∷ (piece ++ more))) e ∙ rec (ap (λ b. cond b (from_named actor piece) (x ∷ piece)) (sym e) ∙ k)
    of false e k rec = let some : x ∷ piece ≡ [] = ap (λ b. cond b (from_named actor piece) (x ∷ piece)) (sym e) ∙ k in absurd (cc)

-- The program's steps.

module _ (actor : Option ℕ) (piece : List Happened) (i : ℕ) (one : Happened) (there : i < length piece) (at : get_or piece i one ≡ one) where
  from_here : drop i piece ≡ one ∷ drop (i + 1) piece
  from_here = drop_more piece i one there ∙ ap (λ x. x ∷ drop (i + 1) piece) at

  pub here_named : is_beside actor one.event ≡ false → from_named actor (drop i piece) ≡ drop i piece
  here_named e = ap (from_named actor) from_here ∙ ap (λ b. cond b (from_named actor (drop (i + 1) piece)) (one ∷ drop (i + 1) piece)) e ∙ sym from_here

  pub here_beside : is_beside actor one.event ≡ true → from_named actor (drop (i + 1) piece) ≡ from_named actor (drop i piece)
  here_beside e = sym (ap (from_named actor) from_here ∙ ap (λ b. cond b (from_named actor (drop (i + 1) piece)) (one ∷ drop (i + 1) piece)) e)

  pub rest_whole : take (length piece - i) (drop i piece) ≡ drop i piece
  rest_whole = take_all (length piece - i) (drop i piece) (let l = length-drop i piece in omega (arith, l))

nothing_of : (n : ℕ) → (n == 0) ≡ true → n ≡ 0
nothing_of n h = grind (arith, common_steps, h)

pub none_left : (from : List Happened) (b : Bool) → b ≡ (length from == 0) → b ≡ true → from ≡ []
none_left [] b e h = refl
none_left (x ∷ from) b e h = let none = nothing_of (length (x ∷ from)) (sym e ∙ h) in absurd (omega (arith, none))

pub some_left : (from : List Happened) (one : Happened) (b : Bool) → b ≡ (length from == 0) → b ≡ false → one ≡ get_or from 0 one → from ≡ one ∷ take (length from - 1) (drop 1 from)
some_left [] one b e h is = absurd (cc)
some_left (x ∷ from) one b e h is = ap₂ (λ y ys. y ∷ ys) (sym is) (sym (take_all (length (x ∷ from) - 1) from (omega arith)))

-- What comes before the first named event.

pub split_named : (actor : Option ℕ) (piece : List Happened) → piece ≡ before_named actor piece ++ from_named actor piece
split_named actor [] = refl
split_named actor (x ∷ piece) = of (is_beside actor x.event) (split_named actor piece)
  where
    of : (b : Bool) → piece ≡ before_named actor piece ++ from_named actor piece → x ∷ piece ≡ cond b (x ∷ before_named actor piece) [] ++ cond b (from_named actor piece) (x ∷ piece)
    of true h = ap (λ xs. x ∷ xs) h
    of false h = refl

pub before_idle : (actor : Option ℕ) (piece : List Happened) → named_of actor (before_named actor piece) ≡ []
before_idle actor [] = refl
before_idle actor (x ∷ piece) = of (is_beside actor x.event) refl (before_idle actor piece)
  where
    of : (b : Bool) → is_beside actor x.event ≡ b → named_of actor (before_named actor piece) ≡ [] → named_of actor (cond b (x ∷ before_named actor piece) []) ≡ []
    of true e h = ap (λ c. cond (not c) (x ∷ named_of actor (before_named actor piece)) (named_of actor (before_named actor piece))) e ∙ h
    of false e h = refl

-- with more events, where one is named
pub before_append : (actor : Option ℕ) (piece more : List Happened) (one : Happened) (rest : List Happened) → from_named actor piece ≡ one ∷ rest → before_named actor (piece ++ more) ≡ before_named actor piece
before_append actor [] more one rest h = absurd (cc)
before_append actor (x ∷ piece) more one rest h = of (is_beside actor x.event) refl h (before_append actor piece more one rest)
  where
    of : (b : Bool) → is_beside actor x.event ≡ b → cond b (from_named actor piece) (x ∷ piece) ≡ one ∷ rest → (from_named actor piece ≡ one ∷ rest → before_named actor (piece ++ more) ≡ before_named actor piece)
        → cond (is_beside actor x.event) (x ∷ before_named actor (piece ++ more)) [] ≡ cond (is_beside actor x.event) (x ∷ before_named actor piece) []
    of true e k rec = ap (λ xs. cond (is_beside actor x.event) (x ∷ xs) []) (rec k)
    of false e k rec = ap (λ b. cond b (x ∷ before_named actor (piece ++ more)) []) e ∙ ap (λ b. cond b (x ∷ before_named actor piece) []) (sym e)

-- and where none is
pub before_later : (actor : Option ℕ) (piece more : List Happened) → named_of actor piece ≡ [] → before_named actor (piece ++ more) ≡ piece ++ before_named actor more
before_later actor [] more h = refl
before_later actor (x ∷ piece) more h = of (is_beside actor x.event) refl h (before_later actor piece more)
  where
    of : (b : Bool) → is_beside actor x.event ≡ b → cond (not b) (x ∷ named_of actor piece) (named_of actor piece) ≡ [] → (named_of actor piece ≡ [] → before_named actor (piece ++ more) ≡ piece ++ before_named actor more)
        → cond (is_beside actor x.event) (x ∷ before_named actor (piece ++ more)) [] ≡ x ∷ (piece ++ before_named actor more)
    of true e k rec = ap (λ b. cond b (x ∷ before_named actor (piece ++ more)) []) e ∙ ap (λ xs. x ∷ xs) (rec k)
    of false e k rec = absurd (cc)

pub none_from : (actor : Option ℕ) (piece : List Happened) → named_of actor piece ≡ [] → from_named actor piece ≡ []
none_from actor [] h = refl
none_from actor (x ∷ piece) h = of (is_beside actor x.event) refl h (none_from actor piece)
  where
    of : (b : Bool) → is_beside actor x.event ≡ b → cond (not b) (x ∷ named_of actor piece) (named_of actor piece) ≡ [] → (named_of actor piece ≡ [] → from_named actor piece ≡ []) → cond (is_beside actor x.event) (from_named actor piece) (x ∷ piece) ≡ []
    of true e k rec = ap (λ b. cond b (from_named actor piece) (x ∷ piece)) e ∙ rec k
    of false e k rec = absurd (cc)
