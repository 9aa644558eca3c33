-- Calls that set EnableLPIs: what they made is one exactly where it says so itself.
use Rattle.std.proofs.Common.{◌≡◌, ℕ, ◌+◌, ◌<◌, ◌==◌, not, nat_lt, Bool, true, false, cond, List, [], ◌∷◌, ◌++◌, All, Contains, Option, Some, None, refl, sym, ap, ap₂, ◌∙◌, subst, arith, rules, append_assoc}
use Rattle.std.proofs.lemmas.Grind.{common_steps}
use Rattle.std.proofs.lemmas.List.Elements.{All-nil, All-cons, All-head, All-same, All-weaker}
use Rattle.history_turns.specs.Words.{Redist, Mem, GuestShape}
use Rattle.history_turns.specs.GicRmap.Map.{decoded as redist_decoded}
use Rattle.history_turns.specs.GicRmap.declared.map.RegRef.{RegRef as RedistRef}
use Rattle.history_turns.specs.GicRmap.declared.map.RegRef.TheVariants.{Plain as RedistPlain}
use Rattle.history_turns.specs.GicRmap.declared.map.Reg.TheVariants.{Ctlr as RedistCtlr}
use Rattle.history_turns.specs.Calls.{Event, Enable, Found, Happened, Beside, View, Place, HandsOut, IsLastRead, Makes, MakesAfter, MakesPlain, IsCall, IsPlainCall, Operation, Access, held_at, named_of, pended_events, redist_places, table_places, access_places, access_value, enabled_by, read_answer, sets_lpis}
use Rattle.history_turns.specs.GicCall.declared.event.Found.TheVariants.{Lpis as FoundLpis}
use Rattle.history_turns.specs.Histories.{Call, vcpu_of, IsEndedAs}
use Rattle.history_commands.proofs.CountLemmas.{named_more}
use Rattle.history_commands.proofs.ExactLaw.{events_in, Hands}
use Rattle.history_turns.specs.Noted.{NotedOf, seen_at, IsSeen}
use Rattle.history_turns.specs.Risen.{stored_in, RisesFrom, Rises}
use Rattle.history_turns.specs.Walked.{from_named}
use Rattle.history_turns.proofs.NamedLemmas.{from_first, alone, reads_more}
use Rattle.history_turns.proofs.RiseLaw.{risen, IsChosen, choice}

-- What such a write reads and answers.

set_places : (shape : GuestShape) (view : View) (vcpu : ℕ) (ref : RedistRef) (write : Option ℕ) → sets_lpis shape ref write ≡ true → redist_places shape view vcpu ref write ≡ cond (view.lpis vcpu) [] (table_places shape view vcpu)
set_places shape view vcpu (RedistPlain RedistCtlr half) (Some value) h = ap (λ b. cond b (cond (view.lpis vcpu) [] (table_places shape view vcpu)) []) h
set_places shape view vcpu ref write h = absurd (cc)

set_answer : (shape : GuestShape) (ref : RedistRef) (write : Option ℕ) (value : ℕ) → sets_lpis shape ref write ≡ true → read_answer write value ≡ None
set_answer shape (RedistPlain RedistCtlr half) (Some written) value h = refl
set_answer shape ref write value h = absurd (cc)

-- the one named event of a piece
pub record IsOne (actor : Option ℕ) (event : Event) (piece : List Happened) : Type 0 where
  pub one : Happened
  pub named : named_of actor piece ≡ one ∷ []
  pub is : one.event ≡ event

pub only_one : (actor : Option ℕ) (event : Event) (piece : List Happened) → events_in (named_of actor piece) ≡ event ∷ [] → IsOne actor event piece
only_one actor event piece h = of (named_of actor piece) refl h
  where
    of : (named : List Happened) → named_of actor piece ≡ named → events_in named ≡ event ∷ [] → IsOne actor event piece
    of [] e k = absurd (cc)
    of (one ∷ []) e k = record { one = one; named = e; is = cc }
    of (one ∷ other ∷ named) e k = absurd (cc)

pub stored_as : (vcpu : ℕ) (event : Event) (found : Found) (is_on : Bool) → event ≡ Enable vcpu → found ≡ FoundLpis is_on → stored_in vcpu event found ≡ Some is_on
stored_as vcpu event found is_on e f = ap₂ (stored_in vcpu) e f ∙ ap (λ b. cond b (Some is_on) None) (own vcpu)
  where
    own : (v : ℕ) → (v == v) ≡ true
    own v = search rules

some_is : {X : Type 0} (a b : X) → ◌≡◌ {A = Option X} (Some a) (Some b) → a ≡ b
some_is a b h = cc

pub as_stored : (vcpu : ℕ) (event : Event) (found : Found) (is_on : Bool) → stored_in vcpu event found ≡ Some is_on → (event ≡ Enable vcpu) × (found ≡ FoundLpis is_on)
as_stored vcpu (Enable other) (FoundLpis b) is_on h = of (other == vcpu) refl h
  where
    of : (c : Bool) → (other == vcpu) ≡ c → cond c (Some b) None ≡ Some is_on → (◌≡◌ {A = Event} (Enable other) (Enable vcpu)) × (◌≡◌ {A = Found} (FoundLpis b) (FoundLpis is_on))
    of true e k = (ap Enable (grind (arith, common_steps, e)), ap FoundLpis (some_is b is_on k))
    of false e k = absurd (cc)
as_stored vcpu event found is_on h = absurd (cc)

-- what an actor makes that sets EnableLPIs of a vCPU, where each LPI is for one of these
pub record IsAfter (shape : GuestShape) (actor vcpu : ℕ) (targets : ℕ → List (Option ℕ)) (piece : List Happened) : Type 0 where
  pub view : View
  pub there : (id : ℕ) → Contains (targets id) (view.targets id)
  pub made : MakesAfter (Some actor) view (Enable vcpu) (pended_events shape view vcpu) (cond (view.lpis vcpu) [] (table_places shape view vcpu)) piece

-- what follows in it
pub record IsSplit (shape : GuestShape) (actor vcpu : ℕ) (view : View) (piece : List Happened) : Type 0 where
  pub one : Happened
  pub rest : List Happened
  pub from : from_named (Some actor) piece ≡ one ∷ rest
  pub stored : stored_in vcpu one.event one.found ≡ Some (view.lpis vcpu)
  pub made : Makes (Some actor) view (pended_events shape view vcpu) (cond (view.lpis vcpu) [] (table_places shape view vcpu)) [] rest

module _ (shape : GuestShape) (actor vcpu : ℕ) where
  abbrev who : Option ℕ
  who = Some actor

  pub split_after : (view : View) (piece : List Happened) → MakesAfter (Some actor) view (Enable vcpu) (pended_events shape view vcpu) (cond (view.lpis vcpu) [] (table_places shape view vcpu)) piece → IsSplit shape actor vcpu view piece
  split_after view piece is =
      let first = only_one who (Enable vcpu) is.begin is.begun.events_are in
      let sole = alone who is.begin first.one first.named in
      let named : named_of who (sole.more ++ is.rest) ≡ named_of who is.rest = named_more who sole.more is.rest ∙ ap (λ xs. xs ++ named_of who is.rest) sole.none in
      let hands : HandsOut view (Enable vcpu) first.one.found = subst (λ e. HandsOut view e first.one.found) first.is (All-head (Hands view) first.one [] (subst (All (Hands view)) first.named is.begun.found)) in
      record {
        one = first.one;
        rest = sole.more ++ is.rest;
        from = ap (from_named who) is.split ∙ sole.from is.rest;
        stored = stored_as vcpu first.one.event first.one.found (view.lpis vcpu) first.is hands;
        made = record {
          events_are = ap events_in named ∙ is.made.events_are;
          found = All-same (Hands view) (named_of who (sole.more ++ is.rest)) (named_of who is.rest) named is.made.found;
          reads =
              All-weaker (λ (place : Place). IsLastRead place (held_at view place) is.rest) (λ (place : Place). IsLastRead place (held_at view place) (sole.more ++ is.rest)) (λ place read. reads_more place (held_at view place) sole.more is.rest read)
              (cond (view.lpis vcpu) [] (table_places shape view vcpu)) is.made.reads;
        };
      }

  pub chosen_after : (targets : ℕ → List (Option ℕ)) (is_on : Bool) (piece : List Happened) (one : Happened) (rest : List Happened) → from_named (Some actor) piece ≡ one ∷ rest → stored_in vcpu one.event one.found ≡ Some is_on → IsChosen shape actor vcpu targets is_on rest
      → IsAfter shape actor vcpu targets piece
  chosen_after targets is_on piece one rest e stored pick =
      let first = from_first who piece one rest e in
      let event = as_stored vcpu one.event one.found is_on stored in
      let begin : List Happened = first.before ++ one ∷ [] in
      let named : named_of who begin ≡ one ∷ [] =
      named_more who first.before (one ∷ []) ∙ ap (λ xs. xs ++ named_of who (one ∷ [])) first.none ∙ ap (λ b. cond (not b) (one ∷ []) []) first.named in
      record {
        view = pick.view;
        there = pick.there;
        made = record {
          begin = begin;
          rest = rest;
          split = first.split ∙ sym (append_assoc first.before (one ∷ []) rest);
          begun = record {
            events_are = ap events_in named ∙ ap (λ e. e ∷ []) event.0;
            found =
                All-same (Hands pick.view) (named_of who begin) (one ∷ []) named
                (All-cons (Hands pick.view) one [] (subst (λ e. HandsOut pick.view e one.found) (sym event.0) (event.1 ∙ ap FoundLpis (sym pick.lpis))) (All-nil (Hands pick.view)));
            reads = All-nil (λ (place : Place). IsLastRead place (held_at pick.view place) begin);
          };
          made = pick.made;
        };
      }

  module _ (noted : NotedOf) (targets : ℕ → List (Option ℕ)) (seen : (n : ℕ) → n < shape.lpis → IsSeen vcpu (targets (8192 + n)) (seen_at noted n)) where
    after_rises : (piece : List Happened) → IsAfter shape actor vcpu targets piece → Rises shape actor vcpu noted piece
    after_rises piece is =
        let split = split_after is.view piece is.made in
        subst (RisesFrom shape actor vcpu noted) (sym split.from) (is.view.lpis vcpu, split.stored, risen shape actor vcpu is.view split.rest split.made noted targets seen is.there)

    rises_after : ((id : ℕ) → (target : Option ℕ) × Contains (targets id) target) → (piece : List Happened) → Rises shape actor vcpu noted piece → IsAfter shape actor vcpu targets piece
    rises_after some piece is = of (from_named who piece) refl is
      where
        of : (from : List Happened) → from_named who piece ≡ from → RisesFrom shape actor vcpu noted from → IsAfter shape actor vcpu targets piece
        of [] e h = absurd h
        of (one ∷ rest) e (is_on, stored, so) = chosen_after targets is_on piece one rest e stored (choice shape actor vcpu noted targets seen some is_on rest so)

-- The calls.

module _ (shape : GuestShape) (actor vcpu offset size : ℕ) (write : Option ℕ) (sets : sets_lpis shape (redist_decoded offset size) write ≡ true) (doer : nat_lt actor shape.vcpus ≡ true) where
  abbrev enabling : Operation
  enabling = Access (Mem (Redist vcpu) offset size write)

  is_vcpu : vcpu_of shape actor ≡ Some actor
  is_vcpu = ap (λ b. cond b (Some actor) None) doer

  is_enabled : enabled_by shape (Redist vcpu) offset size write ≡ Some vcpu
  is_enabled = ap (λ b. cond b (Some vcpu) None) sets

  module _ (call : Call) (same : call.operation ≡ enabling) (answer : Option ℕ) (signals : Bool) where
    pub ended_after : IsEndedAs signals shape actor call answer → IsAfter shape actor vcpu call.targets call.piece × (answer ≡ None)
    ended_after is =
        let plain : IsPlainCall shape is.beside actor (Redist vcpu) offset size write call.piece answer =
        subst (λ who. IsCall shape is.beside who enabling call.piece answer) is_vcpu (subst (λ o. IsCall shape is.beside (vcpu_of shape actor) o call.piece answer) same is.is_call) in
        let after : MakesAfter (Some actor) plain.view (Enable vcpu) (pended_events shape plain.view vcpu) (access_places shape plain.view (Redist vcpu) offset size write) call.piece =
        subst (λ o. MakesPlain o shape plain.view actor (Redist vcpu) offset size write call.piece) is_enabled plain.made in (
          record {
            view = plain.view;
            there = λ id. subst (λ t. Contains (call.targets id) (t id)) (sym plain.targets) (is.targets id);
            made = subst (λ places. MakesAfter (Some actor) plain.view (Enable vcpu) (pended_events shape plain.view vcpu) places call.piece) (set_places shape plain.view vcpu (redist_decoded offset size) write sets) after;
          },
          plain.answers ∙ set_answer shape (redist_decoded offset size) write (access_value shape plain.view (Redist vcpu) offset size) sets,
        )

    pub after_ended : IsAfter shape actor vcpu call.targets call.piece → answer ≡ None → IsEndedAs signals shape actor call answer
    after_ended after none =
        let beside : Beside = record { maps = call.maps; targets = after.view.targets; commands = call.commands; signals = false } in
        let made : MakesAfter (Some actor) after.view (Enable vcpu) (pended_events shape after.view vcpu) (access_places shape after.view (Redist vcpu) offset size write) call.piece =
        subst (λ places. MakesAfter (Some actor) after.view (Enable vcpu) (pended_events shape after.view vcpu) places call.piece) (sym (set_places shape after.view vcpu (redist_decoded offset size) write sets)) after.made in
        let plain : IsPlainCall shape beside actor (Redist vcpu) offset size write call.piece answer = record {
          view = after.view;
          targets = refl;
          made = subst (λ o. MakesPlain o shape after.view actor (Redist vcpu) offset size write call.piece) (sym is_enabled) made;
          answers = none ∙ sym (set_answer shape (redist_decoded offset size) write (access_value shape after.view (Redist vcpu) offset size) sets);
        } in
        record {
          beside = beside;
          maps = refl;
          commands = refl;
          targets = after.there;
          right = λ h. absurd (cc);
          is_call = subst (λ o. IsCall shape beside (vcpu_of shape actor) o call.piece answer) (sym same) (subst (λ who. IsCall shape beside who enabling call.piece answer) (sym is_vcpu) plain);
        }

    module _ (noted : NotedOf) (seen : (n : ℕ) → n < shape.lpis → IsSeen vcpu (call.targets (8192 + n)) (seen_at noted n)) where
      pub ended_rises : IsEndedAs signals shape actor call answer → Rises shape actor vcpu noted call.piece × (answer ≡ None)
      ended_rises is = let after = ended_after is in (after_rises shape actor vcpu noted call.targets seen call.piece after.0, after.1)

      pub rises_ended : ((id : ℕ) → (target : Option ℕ) × Contains (call.targets id) target) → Rises shape actor vcpu noted call.piece → answer ≡ None → IsEndedAs signals shape actor call answer
      rises_ended some is none = after_ended (rises_after shape actor vcpu noted call.targets seen some call.piece is) none
