-- One event after the other: what it takes to follow a piece that begins with an event.
use Rattle.std.proofs.Common.{◌≡◌, ℕ, ◌+◌, not, Bool, true, false, cond, List, [], ◌∷◌, ◌++◌, map, All, Option, Some, None, refl, sym, ap, ap₂, ◌∙◌, subst, arith, append_assoc, append-nil}
use Rattle.std.proofs.lemmas.List.{map-append}
use Rattle.std.proofs.lemmas.List.Elements.{All-nil, All-cons, All-head, All-tail, All-append, All-same}
use Rattle.history_commands.specs.Words.{GuestShape}
use Rattle.history_commands.specs.Registers.{Maps}
use Rattle.history_commands.specs.Calls.{Event, Found, Happened, View, Part, Place, HandsOut, IsLastRead, Makes, held_at, is_beside, named_of}
use Rattle.history_calls.proofs.CountLemmas.{named_more}
use Rattle.history_commands.specs.declared.its.Its.{Its}
use Rattle.history_commands.specs.Stage.{Stage, Between, Within, Ending, Over, FitsUnless, FitsNamed, Follow, MayStop, noting, named_after}

abbrev pub events_in : List Happened → List Event
events_in piece = map (λ (h : Happened). h.event) piece

-- Named events.

pub record IsQuiet (actor : Option ℕ) (one : Happened) (rest : List Happened) : Type 0 where
  pub beside : is_beside actor one.event ≡ true
  pub later : named_of actor rest ≡ []

pub quiet_parts : (actor : Option ℕ) (one : Happened) (rest : List Happened) → named_of actor (one ∷ rest) ≡ [] → IsQuiet actor one rest
quiet_parts actor one rest h = of (is_beside actor one.event) refl h
  where
    of : (b : Bool) → is_beside actor one.event ≡ b → cond (not b) (one ∷ named_of actor rest) (named_of actor rest) ≡ [] → IsQuiet actor one rest
    of true e k = record { beside = e; later = k }
    of false e k = absurd (cc)

pub quiet_more : (actor : Option ℕ) (one other : List Happened) → named_of actor one ≡ [] → named_of actor other ≡ [] → named_of actor (one ++ other) ≡ []
quiet_more actor one other h k = named_more actor one other ∙ ap₂ (λ xs ys. xs ++ ys) h k

pub quiet_one : (actor : Option ℕ) (one : Happened) → is_beside actor one.event ≡ true → named_of actor (one ∷ []) ≡ []
quiet_one actor one e = ap (λ b. cond (not b) (one ∷ []) []) e

pub named_one : (actor : Option ℕ) (one : Happened) (rest : List Happened) → is_beside actor one.event ≡ false → named_of actor (one ∷ rest) ≡ one ∷ named_of actor rest
named_one actor one rest e = ap (λ b. cond (not b) (one ∷ named_of actor rest) (named_of actor rest)) e

module _ (shape : GuestShape) (targets : ℕ → ℕ → Option ℕ) (actor : ℕ) (is_open : Bool) where
  abbrev pub Goes : Stage → List Happened → Type 0
  Goes stage piece = Follow shape targets actor is_open stage piece

  -- a step forth

  pub goes_beside : (stage : Stage) (one : Happened) (rest : List Happened) → is_beside (Some actor) one.event ≡ true → Goes (noting stage one) rest → Goes stage (one ∷ rest)
  goes_beside stage one rest e h = of (is_beside (Some actor) one.event) e
    where
      of : (b : Bool) → b ≡ true → FitsUnless b shape targets stage one × Goes (cond b (noting stage one) (named_after shape targets stage one)) rest
      of true k = (tt, h)
      of false k = absurd (cc)

  pub goes_named : (stage : Stage) (one : Happened) (rest : List Happened) → is_beside (Some actor) one.event ≡ false → FitsNamed shape targets stage one → Goes (named_after shape targets stage one) rest → Goes stage (one ∷ rest)
  goes_named stage one rest e fits h = of (is_beside (Some actor) one.event) e
    where
      of : (b : Bool) → b ≡ false → FitsUnless b shape targets stage one × Goes (cond b (noting stage one) (named_after shape targets stage one)) rest
      of true k = absurd (cc)
      of false k = (fits, h)

  -- and back

  pub went_beside : (stage : Stage) (one : Happened) (rest : List Happened) → is_beside (Some actor) one.event ≡ true → Goes stage (one ∷ rest) → Goes (noting stage one) rest
  went_beside stage one rest e h = of (is_beside (Some actor) one.event) e h
    where
      of : (b : Bool) → b ≡ true → FitsUnless b shape targets stage one × Goes (cond b (noting stage one) (named_after shape targets stage one)) rest → Goes (noting stage one) rest
      of true k g = g.1
      of false k g = absurd (cc)

  pub went_named : (stage : Stage) (one : Happened) (rest : List Happened) → is_beside (Some actor) one.event ≡ false → Goes stage (one ∷ rest) → FitsNamed shape targets stage one × Goes (named_after shape targets stage one) rest
  went_named stage one rest e h = of (is_beside (Some actor) one.event) e h
    where
      of : (b : Bool) → b ≡ false → FitsUnless b shape targets stage one × Goes (cond b (noting stage one) (named_after shape targets stage one)) rest → FitsNamed shape targets stage one × Goes (named_after shape targets stage one) rest
      of true k g = absurd (cc)
      of false k g = g

  -- over events that are not named

  pub over_between : (number : ℕ) (its : Its) (maps : Maps) (reads quiet rest : List Happened) → named_of (Some actor) quiet ≡ [] → Goes (Between number its maps (reads ++ quiet)) rest → Goes (Between number its maps reads) (quiet ++ rest)
  over_between number its maps reads [] rest none h = subst (λ rs. Goes (Between number its maps rs) rest) (append-nil reads) h
  over_between number its maps reads (one ∷ quiet) rest none h =
      let is = quiet_parts (Some actor) one quiet none in
      goes_beside (Between number its maps reads) one (quiet ++ rest) is.beside
      (over_between number its maps (reads ++ one ∷ []) quiet rest is.later (subst (λ rs. Goes (Between number its maps rs) rest) (sym (append_assoc reads (one ∷ []) quiet)) h))

  pub over_within : (number : ℕ) (its : Its) (maps : Maps) (fetch : List Happened) (parts : List Part) (reads quiet rest : List Happened) → named_of (Some actor) quiet ≡ [] → Goes (Within number its maps fetch parts (reads ++ quiet)) rest
      → Goes (Within number its maps fetch parts reads) (quiet ++ rest)
  over_within number its maps fetch parts reads [] rest none h = subst (λ rs. Goes (Within number its maps fetch parts rs) rest) (append-nil reads) h
  over_within number its maps fetch parts reads (one ∷ quiet) rest none h =
      let is = quiet_parts (Some actor) one quiet none in
      goes_beside (Within number its maps fetch parts reads) one (quiet ++ rest) is.beside
      (over_within number its maps fetch parts (reads ++ one ∷ []) quiet rest is.later (subst (λ rs. Goes (Within number its maps fetch parts rs) rest) (sym (append_assoc reads (one ∷ []) quiet)) h))

  pub over_ending : (quiet rest : List Happened) → named_of (Some actor) quiet ≡ [] → Goes Ending rest → Goes Ending (quiet ++ rest)
  over_ending [] rest none h = h
  over_ending (one ∷ quiet) rest none h = let is = quiet_parts (Some actor) one quiet none in goes_beside Ending one (quiet ++ rest) is.beside (over_ending quiet rest is.later h)

  pub over_over : (quiet : List Happened) → named_of (Some actor) quiet ≡ [] → Goes Over quiet
  over_over [] none = tt
  over_over (one ∷ quiet) none = let is = quiet_parts (Some actor) one quiet none in goes_beside Over one quiet is.beside (over_over quiet is.later)

  -- after the ITS was given back nothing is named
  pub over_quiet : (piece : List Happened) → Goes Over piece → named_of (Some actor) piece ≡ []
  over_quiet [] h = refl
  over_quiet (one ∷ piece) h = of (is_beside (Some actor) one.event) refl (λ k. over_quiet piece k)
    where
      of : (b : Bool) → is_beside (Some actor) one.event ≡ b → (Goes Over piece → named_of (Some actor) piece ≡ []) → named_of (Some actor) (one ∷ piece) ≡ []
      of true e more = ap (λ b. cond (not b) (one ∷ named_of (Some actor) piece) (named_of (Some actor) piece)) e ∙ more (went_beside Over one piece e h)
      of false e more = absurd (went_named Over one piece e h).0

-- A piece whose only named event is of some kind.

abbrev pub Hands : View → Happened → Type 0
Hands view happened = HandsOut view happened.event happened.found

pub record IsSingle (actor : Option ℕ) (view : View) (event : Event) (piece : List Happened) : Type 0 where
  pub before : List Happened
  pub one : Happened
  pub after : List Happened
  pub split : piece ≡ before ++ one ∷ after
  pub quiet : named_of actor before ≡ []
  pub named : is_beside actor one.event ≡ false
  pub later : named_of actor after ≡ []
  pub event_is : one.event ≡ event
  pub hands : Hands view one

head_is : (x y : Event) (xs ys : List Event) → x ∷ xs ≡ y ∷ ys → x ≡ y
head_is x y xs ys h = cc

none_of : (x y : Event) (xs : List Happened) → x ∷ events_in xs ≡ y ∷ [] → xs ≡ []
none_of x y [] h = refl
none_of x y (one ∷ xs) h = absurd (cc)

pub single : (actor : Option ℕ) (view : View) (event : Event) (piece : List Happened) → events_in (named_of actor piece) ≡ event ∷ [] → All (Hands view) (named_of actor piece) → IsSingle actor view event piece
single actor view event [] h all = absurd (cc)
single actor view event (x ∷ piece) h all = of (is_beside actor x.event) refl h all (single actor view event piece)
  where
    of : (b : Bool) → is_beside actor x.event ≡ b → events_in (cond (not b) (x ∷ named_of actor piece) (named_of actor piece)) ≡ event ∷ [] → All (Hands view) (cond (not b) (x ∷ named_of actor piece) (named_of actor piece))
        → (events_in (named_of actor piece) ≡ event ∷ [] → All (Hands view) (named_of actor piece) → IsSingle actor view event piece) → IsSingle actor view event (x ∷ piece)
    of true e k hands rec =
        let is = rec k hands in
        record {
          before = x ∷ is.before;
          one = is.one;
          after = is.after;
          split = ap (λ xs. x ∷ xs) is.split;
          quiet = ap (λ b. cond (not b) (x ∷ named_of actor is.before) (named_of actor is.before)) e ∙ is.quiet;
          named = is.named;
          later = is.later;
          event_is = is.event_is;
          hands = is.hands;
        }
    of false e k hands rec = record {
      before = [];
      one = x;
      after = piece;
      split = refl;
      quiet = refl;
      named = e;
      later = none_of x.event event (named_of actor piece) k;
      event_is = head_is x.event event (events_in (named_of actor piece)) [] k;
      hands = All-head (Hands view) x (named_of actor piece) hands;
    }

-- and such a piece
pub makes_single : (actor : Option ℕ) (view : View) (before : List Happened) (one : Happened) (after : List Happened) → named_of actor before ≡ [] → is_beside actor one.event ≡ false → named_of actor after ≡ [] → Hands view one
    → Makes actor view (one.event ∷ []) [] [] (before ++ one ∷ after)
makes_single actor view before one after quiet named later hands =
    let is : named_of actor (before ++ one ∷ after) ≡ one ∷ [] =
    named_more actor before (one ∷ after) ∙ ap₂ (λ xs ys. xs ++ ys) quiet (named_one actor one after named ∙ ap (λ xs. one ∷ xs) later) in
    record {
      events_are = ap events_in is;
      found = All-same (Hands view) _ _ is (All-cons (Hands view) one [] hands (All-nil (Hands view)));
      reads = All-nil (λ (place : Place). IsLastRead place (held_at view place) ([] ++ (before ++ one ∷ after)));
    }
