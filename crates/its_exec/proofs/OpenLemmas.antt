-- What the parts of a command read before the first event that is named.
use Rattle.std.proofs.Common.{◌≡◌, ℕ, not, false, cond, IsTrue, List, [], ◌∷◌, ◌++◌, map, All, Option, refl, sym, ap, subst, ◌∙◌}
use Rattle.std.proofs.lemmas.List.{append_assoc}
use Rattle.std.proofs.lemmas.List.Elements.{filter-append}
use Rattle.port_call.specs.Words.{GuestShape}
use Rattle.port_call.specs.Calls.{Part, Map, Clear, Event, lpi_event, Happened, HandsOut, IsLastRead, IsPartThen, ArePartsThen, is_beside, named_of, begins_named, byte_places, held_at, View}
use Rattle.port_call.specs.GicCall.declared.command.Part.TheVariants.{Forget, Retarget, Raise, Configure}
use Rattle.its_exec.specs.Command.{IsOver}

-- parts that begin with an event that is named: what was read before it counts with what comes before the parts
pub record Opens (actor : Option ℕ) (shape : GuestShape) (targets : ℕ → Option ℕ) (words : List Happened) (parts : List Part) (Rest : List Happened → Type 0) (before piece : List Happened) : Type 0 where
  pub reads : List Happened
  pub rest : List Happened
  pub split : piece ≡ reads ++ rest
  pub none : named_of actor reads ≡ []
  pub whole : IsTrue (begins_named actor rest)
  pub parts_are : ArePartsThen actor shape targets words parts Rest (before ++ reads) rest

-- a part's event is named
part_named : (actor : Option ℕ) (shape : GuestShape) (view : View) (targets : ℕ → Option ℕ) (part : Part) → is_beside actor (lpi_event shape view targets part) ≡ false
part_named actor shape view targets (Forget id) = refl
part_named actor shape view targets (Map id target) = refl
part_named actor shape view targets (Retarget id target) = refl
part_named actor shape view targets (Raise id) = refl
part_named actor shape view targets (Clear id) = refl
part_named actor shape view targets (Configure id) = refl

-- where one event is all, none is before it
last_only : (events : List Happened) (last : Happened) (event : Event) → map (λ (h : Happened). h.event) (events ++ last ∷ []) ≡ event ∷ [] → events ≡ []
last_only [] last event e = refl
last_only (one ∷ []) last event e = absurd (cc)
last_only (one ∷ two ∷ events) last event e = absurd (cc)

first_opens : (actor : Option ℕ) (shape : GuestShape) (targets : ℕ → Option ℕ) (part : Part) (before piece : List Happened) (Rest : List Happened → Type 0) (is : IsPartThen actor shape targets part before piece Rest)
    → named_of actor is.ends.before ≡ [] × IsPartThen actor shape targets part (before ++ is.ends.before) ((record { event = lpi_event shape is.view targets part; found = is.ends.found }) ∷ is.rest) Rest
first_opens actor shape targets part before piece Rest is =
    let event = lpi_event shape is.view targets part in
    let last : Happened = record { event = event; found = is.ends.found } in
    let reads = is.ends.before in
    let named : named_of actor (last ∷ []) ≡ last ∷ [] = ap (λ b. cond (not b) (last ∷ []) []) (part_named actor shape is.view targets part) in
    let all : named_of actor is.own ≡ named_of actor reads ++ last ∷ []
    = ap (named_of actor) is.ends.split ∙ filter-append (λ (h : Happened). not (is_beside actor h.event)) reads (last ∷ []) ∙ ap (λ events. named_of actor reads ++ events) named in
    let none : named_of actor reads ≡ [] = last_only (named_of actor reads) last event (sym (ap (map (λ (h : Happened). h.event)) all) ∙ is.made.events_are) in
    let Hands : Happened → Type 0 = λ h. HandsOut is.view h.event h.found in
    let Read_in : List Happened → Type 0 = λ events. All (λ place. IsLastRead place (held_at is.view place) events) (byte_places shape is.view targets part) in (
      none,
      record {
        view = is.view;
        own = last ∷ [];
        rest = is.rest;
        split = refl;
        made = record {
          events_are = ap (map (λ (h : Happened). h.event)) named;
          found = subst (All Hands) (all ∙ ap (λ events. events ++ last ∷ []) none ∙ sym named) is.made.found;
          reads = subst Read_in (ap (λ own. before ++ own) is.ends.split ∙ sym (append_assoc before reads (last ∷ []))) is.made.reads;
        };
        ends = record { before = []; found = is.ends.found; split = refl };
        later = is.later;
      },
    )

pub opened : (actor : Option ℕ) (shape : GuestShape) (targets : ℕ → Option ℕ) (words : List Happened) (parts : List Part) (Rest : List Happened → Type 0) (before piece : List Happened) → (parts ≡ [] → IsTrue (begins_named actor piece))
    → ArePartsThen actor shape targets words parts Rest before piece → Opens actor shape targets words parts Rest before piece
opened actor shape targets words [] Rest before piece begins over = record { reads = []; rest = piece; split = refl; none = refl; whole = begins refl; parts_are = over }
opened actor shape targets words (part ∷ parts) Rest before piece begins is =
    let first = first_opens actor shape targets part before piece (ArePartsThen actor shape targets words parts Rest words) is in
    let last : Happened = record { event = lpi_event shape is.view targets part; found = is.ends.found } in
    record {
      reads = is.ends.before;
      rest = last ∷ is.rest;
      split = is.split ∙ ap (λ own. own ++ is.rest) is.ends.split ∙ append_assoc is.ends.before (last ∷ []) is.rest;
      none = first.0;
      whole = ap not (part_named actor shape is.view targets part);
      parts_are = first.1;
    }

-- where there are no parts there is no event
pub none_over : (actor : Option ℕ) (shape : GuestShape) (targets : ℕ → Option ℕ) (words before own : List Happened) (parts : List Part) → parts ≡ [] → ArePartsThen actor shape targets words parts IsOver before own → own ≡ []
none_over actor shape targets words before own [] e over = over
none_over actor shape targets words before own (part ∷ parts) e over = absurd (cc)
