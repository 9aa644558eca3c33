-- A write of a register of the ITS that takes it is over exactly where it is made so.
use Rattle.std.proofs.Common.{◌≡◌, ◌↔◌, ℕ, Bool, true, false, cond, IsTrue, List, [], ◌∷◌, ◌++◌, map, fold, All, Option, Some, None, refl, sym, ap, ap₂, ◌∙◌, subst, append_assoc, append-nil}
use Rattle.std.specs.List.{list_all}
use Rattle.std.proofs.lemmas.List.Elements.{All-nil, All-same, All-weaker}
use Rattle.history_commands.specs.Words.{GuestShape, Its as ItsFrame}
use Rattle.history_commands.specs.Registers.{Maps}
use Rattle.history_commands.specs.GicImap.Map.{decoded as its_decoded}
use Rattle.history_commands.specs.GicImap.declared.map.RegRef.{RegRef as ItsRef}
use Rattle.history_commands.specs.Calls.{Event, ItsBegin, Found, Happened, Beside, View, Place, HandsOut, IsLastRead, IsItsCall, AreCommands, AreStarted, Makes, MakesAfter, command_targets, held_at, is_beside, its_events, its_places, its_starts, its_written_by, named_of}
use Rattle.history_commands.specs.GicCall.declared.event.Event.TheVariants.{ItsEnd}
use Rattle.history_commands.specs.GicCall.declared.event.Found.TheVariants.{Nothing}
use Rattle.history_commands.specs.HistoryCalls.Found.{found_by}
use Rattle.history_calls.proofs.CountLemmas.{named_more}
use Rattle.history_commands.specs.declared.its.Its.{Its}
use Rattle.history_commands.specs.Known.{its_in}
use Rattle.history_commands.specs.Stage.{Stage, Between, Ending, Over, AreReadBy, Follow}
use Rattle.history_commands.specs.Written.{starting, IsWritten, IsFirstNamed, IsItsMade}
use Rattle.history_commands.specs.Laws.{ItsWritesAreExact}
use Rattle.history_commands.proofs.ViewLemmas.{reads_more}
use Rattle.history_commands.proofs.StepLemmas.{events_in, Hands, single, makes_single, goes_named, over_ending, over_over, over_between}
use Rattle.history_commands.specs.Writing.{is_of_its}
use Rattle.history_commands.proofs.WriteLemmas.{IsFoundBy, write_found, write_of_its, written_left, written_maps, with_maps, events_mapped, starts_mapped, read_mapped, hands_mapped}
use Rattle.history_commands.proofs.FollowLaw.{fwd_all, bwd, none_in}

module _ (shape : GuestShape) (beside : Beside) (actor offset size value : ℕ) where
  abbrev ref : ItsRef
  ref = its_decoded offset size

  abbrev events_by : View → List Event
  events_by view = its_events shape view ref (Some value)

  abbrev Runs : Stage → List Happened → Type 0
  Runs stage piece = Follow shape (command_targets beside) actor false stage piece

  -- reads before count too
  made_more : (view : View) (events : List Event) (places : List Place) (more piece : List Happened) → named_of (Some actor) more ≡ [] → Makes (Some actor) view events places [] piece → Makes (Some actor) view events places [] (more ++ piece)
  made_more view events places more piece quiet made =
      let same : named_of (Some actor) (more ++ piece) ≡ named_of (Some actor) piece = named_more (Some actor) more piece ∙ ap (λ xs. xs ++ named_of (Some actor) piece) quiet in
      record {
        events_are = ap events_in same ∙ made.events_are;
        found = All-same (Hands view) _ _ same made.found;
        reads = All-weaker (λ place. IsLastRead place (held_at view place) piece) (λ place. IsLastRead place (held_at view place) (more ++ piece)) (λ place is. reads_more place (held_at view place) more piece is) places made.reads;
      }

  -- the commands, where they start or not
  started_forth : (view end : View) (views : List View) (its : Its) (commands last : List Happened) (starts : Bool) → (starts ≡ true → its_in (its_written_by shape view (events_by view)) ≡ its) → (its_written_by shape view (events_by view)).maps ≡ beside.maps
      → AreStarted starts (Some actor) shape beside (its_written_by shape view (events_by view)) views commands → Makes (Some actor) end (ItsEnd ∷ []) [] [] last → Runs (cond starts (Between 0 its beside.maps []) Ending) (commands ++ last)
  started_forth view end views its commands last true e m is ended = fwd_all shape beside actor views 0 (its_written_by shape view (events_by view)) its beside.maps [] commands last end (e refl) m refl is ended
  started_forth view end views its commands last false e m is ended =
      let s = single (Some actor) end ItsEnd last ended.events_are ended.found in
      over_ending shape (command_targets beside) actor false commands last (none_in (named_of (Some actor) commands) is.events_are)
      (subst (Runs Ending) (sym s.split)
      (over_ending shape (command_targets beside) actor false s.before (s.one ∷ s.after) s.quiet
      (goes_named shape (command_targets beside) actor false Ending s.one s.after s.named
      (record { event_is = s.event_is; found_is = subst (λ event. HandsOut end event s.one.found) s.event_is s.hands })
      (over_over shape (command_targets beside) actor false s.after s.later))))

  forth : (piece : List Happened) (answer : Option ℕ) → IsItsCall shape beside actor offset size value piece answer → IsItsMade shape beside.maps (command_targets beside) actor offset size value piece
  forth piece answer is =
      let view : View = is.view in
      let w = is.written in
      let s = single (Some actor) view ItsBegin w.begin w.begun.events_are w.begun.found in
      let written : List Happened = s.after ++ w.rest in
      let made = made_more view (events_by view) (its_places shape ref (Some value)) s.after w.rest s.later w.made in
      let found = write_found shape (Some actor) view ref value written made in
      let of_its = write_of_its shape view ref value in
      record {
        first = s.one;
        rest = written ++ (is.commands ++ is.last);
        is_first = record {
          idle = s.before;
          split =
              is.split ∙ ap (λ xs. (xs ++ is.commands) ++ is.last) (w.split ∙ ap (λ xs. xs ++ w.rest) s.split ∙ append_assoc s.before (s.one ∷ s.after) w.rest) ∙ append_assoc (s.before ++ s.one ∷ written) is.commands is.last
              ∙ append_assoc s.before (s.one ∷ written) (is.commands ++ is.last);
          quiet = s.quiet;
          named = s.named;
        };
        taken = s.event_is;
        found = subst (λ event. HandsOut view event s.one.found) s.event_is s.hands;
        goes_on = record {
          written = written;
          later = is.commands ++ is.last;
          split = refl;
          made = record { events_are = made.events_are ∙ sym found.events; found = found.hands; reads = found.read };
          follow =
              subst (λ b. Runs (cond b (Between 0 (its_in (its_written_by shape (found_by written) (events_by (found_by written)))) beside.maps []) Ending) (is.commands ++ is.last)) (sym found.starts)
              (started_forth view view is.views (its_in (its_written_by shape (found_by written) (events_by (found_by written)))) is.commands is.last (its_starts shape view ref (Some value))
              (λ h. sym (ap (λ es. its_in (its_written_by shape (found_by written) es)) found.events ∙ written_left shape (events_by view) view (found_by written) of_its (found.its h)))
              (written_maps shape (events_by view) view of_its ∙ is.maps) is.started is.ended);
        };
      }

  record IsStarted (view : View) (starts : Bool) (later : List Happened) : Type 0 where
    views : List View
    commands : List Happened
    last : List Happened
    split : later ≡ commands ++ last
    started : AreStarted starts (Some actor) shape beside (its_written_by shape view (events_by view)) views commands
    ended : Makes (Some actor) view (ItsEnd ∷ []) [] [] last

  started_back : (view : View) (its : Its) (starts : Bool) (later : List Happened) → its_in (its_written_by shape view (events_by view)) ≡ its → (its_written_by shape view (events_by view)).maps ≡ beside.maps → Runs (cond starts (Between 0 its beside.maps []) Ending) later → IsStarted view starts later
  started_back view its true later e m runs =
      let is = (bwd shape beside actor later).between 0 its beside.maps [] refl runs (its_written_by shape view (events_by view)) e m in
      record { views = is.views; commands = is.commands; last = is.last; split = is.split; started = is.are; ended = is.ended view }
  started_back view its false later e m runs = record {
    views = [];
    commands = [];
    last = later;
    split = refl;
    started = record { events_are = refl; found = All-nil (Hands (its_written_by shape view (events_by view))); reads = All-nil (λ place. IsLastRead place (held_at (its_written_by shape view (events_by view)) place) []) };
    ended = (bwd shape beside actor later).ending [] refl runs view;
  }

  back : (piece : List Happened) → IsItsMade shape beside.maps (command_targets beside) actor offset size value piece → IsItsCall shape beside actor offset size value piece None
  back piece is =
      let w = is.goes_on in
      let found : View = found_by w.written in
      let view : View = with_maps found beside.maps in
      let events_are : events_by view ≡ events_by found = events_mapped shape found beside.maps ref value in
      let of_its = write_of_its shape found ref value in
      let starts_are : its_starts shape view ref (Some value) ≡ its_starts shape found ref (Some value) = starts_mapped shape found beside.maps ref value in
      let started = started_back view (its_in (its_written_by shape found (events_by found))) (its_starts shape found ref (Some value)) w.later
      (ap (λ es. its_in (its_written_by shape view es)) events_are ∙ written_left shape (events_by found) found view of_its refl)
      (written_maps shape (events_by view) view (write_of_its shape view ref value)) w.follow in
      let first = is.is_first in
      record {
        view = view;
        maps = refl;
        views = started.views;
        register = (first.idle ++ is.first ∷ []) ++ w.written;
        commands = started.commands;
        last = started.last;
        split =
            first.split ∙ ap (λ xs. first.idle ++ is.first ∷ xs) (w.split ∙ ap (λ xs. w.written ++ xs) started.split)
            ∙ sym (append_assoc first.idle (is.first ∷ []) (w.written ++ (started.commands ++ started.last)))
            ∙ sym (append_assoc (first.idle ++ is.first ∷ []) w.written (started.commands ++ started.last))
            ∙ sym (append_assoc ((first.idle ++ is.first ∷ []) ++ w.written) started.commands started.last);
        written = record {
          begin = first.idle ++ is.first ∷ [];
          rest = w.written;
          split = refl;
          begun =
              subst (λ event. Makes (Some actor) view (event ∷ []) [] [] (first.idle ++ is.first ∷ [])) is.taken
              (makes_single (Some actor) view first.idle is.first [] first.quiet first.named refl (subst (λ event. HandsOut view event is.first.found) (sym is.taken) is.found));
          made = record {
            events_are = w.made.events_are ∙ sym events_are;
            found = hands_mapped found beside.maps (named_of (Some actor) w.written) (ap (list_all is_of_its) w.made.events_are ∙ of_its) w.made.found;
            reads = read_mapped found beside.maps w.written (its_places shape ref (Some value)) w.made.reads;
          };
        };
        started = subst (λ b. AreStarted b (Some actor) shape beside (its_written_by shape view (events_by view)) started.views started.commands) (sym starts_are) started.started;
        ended = started.ended;
        answers = refl;
      }

pub writes_exact : ItsWritesAreExact
writes_exact shape beside actor offset size value piece answer = (
  λ is. (forth shape beside actor offset size value piece answer is, is.answers),
  λ h. subst (IsItsCall shape beside actor offset size value piece) (sym h.1) (back shape beside actor offset size value piece h.0),
)
