-- The commands of a call, one after the other, are those that the eager controller takes.
use Rattle.std.proofs.Common.{◌≡◌, ℕ, ◌+◌, zero, suc, Bool, true, false, cond, List, [], ◌∷◌, ◌++◌, Some, refl, sym, ap, ◌∙◌, subst}
use Rattle.std.proofs.lemmas.Bool.{not-true}
use Rattle.std.proofs.lemmas.List.{append_assoc}
use Rattle.std.proofs.lemmas.Grind.{fold-append}
use Rattle.law_home_commutes.specs.Words.{GuestShape}
use Rattle.law_home_commutes.specs.Calls.{Cbaser, Event, takes_command, command_words, queue_event, queue_places, maps_done, Happened, Beside, AreCommands, HaveSameIts, left_by, View}
use Rattle.law_home_commutes.specs.Histories.{IdealGuest, view_of, word_at, after_event, after_events, after_command, after_commands, after_queued, IsQueueInOrder, IsSound, Ideal, Call}
use Rattle.law_home_commutes.proofs.IdealGuests.KeyLemmas.{IsWhole}
use Rattle.law_home_commutes.proofs.IdealGuests.QueueLemmas.{commands_end, all_run_dry}
use Rattle.law_eager_is_history.proofs.CommandLemmas.{sound_command, command_known, command_shape}
use Rattle.law_eager_is_history.proofs.CourseLemmas.{state_after, call_after, call_append}
use Rattle.law_eager_is_history.proofs.QueueLemmas.{takes_known}
use Rattle.law_lone_calls_are_eager.proofs.CommandLemmas.{marks_after, run_split, events_both, queue_same}
use Rattle.law_lone_calls_are_eager.proofs.OneLemmas.{follows_split, still_beside, queue_is, IsAt, HasTargets, words_are, one_done, none_beside}
use Rattle.law_lone_calls_are_eager.proofs.RunLemmas.{events_of, IsHomeRun, Follows}

-- What is known of the ITS.

pub same_then : (one two three : View) → HaveSameIts one two → HaveSameIts one three → HaveSameIts two three
same_then one two three first second = record {
  ctlr = sym first.ctlr ∙ second.ctlr;
  cbaser = sym first.cbaser ∙ second.cbaser;
  cwriter = sym first.cwriter ∙ second.cwriter;
  offset = sym first.offset ∙ second.offset;
  stalled = sym first.stalled ∙ second.stalled;
  maps = sym first.maps ∙ second.maps;
}

pub same_after : (one two three : View) → HaveSameIts one two → HaveSameIts two three → HaveSameIts one three
same_after one two three first second = record {
  ctlr = first.ctlr ∙ second.ctlr;
  cbaser = first.cbaser ∙ second.cbaser;
  cwriter = first.cwriter ∙ second.cwriter;
  offset = first.offset ∙ second.offset;
  stalled = first.stalled ∙ second.stalled;
  maps = first.maps ∙ second.maps;
}

left_same : (shape : GuestShape) (one other by : View) → HaveSameIts one other → HaveSameIts (left_by shape one (queue_event shape by)) (left_by shape other (queue_event shape by))
left_same shape one other by same =
    queue_is shape by (λ e. HaveSameIts (left_by shape one e) (left_by shape other e))
    (λ fault. record { ctlr = same.ctlr; cbaser = same.cbaser; cwriter = same.cwriter; offset = refl; stalled = refl; maps = same.maps })
    (record { ctlr = same.ctlr; cbaser = same.cbaser; cwriter = same.cwriter; offset = refl; stalled = refl; maps = ap (λ maps. maps_done maps (command_words shape by)) same.maps })

-- after a command, whose doublewords are those of the guest
pub left_after : (shape : GuestShape) (guest : IdealGuest) (view : View) → IsSound guest → guest.shape ≡ shape → HaveSameIts view (view_of guest) → command_words shape view ≡ command_words shape (view_of guest)
    → HaveSameIts (left_by shape view (queue_event shape view)) (view_of (after_command guest))
left_after shape guest view sound shape_is known words =
    subst (λ e. HaveSameIts (left_by shape view e) (view_of (after_command guest))) (sym (queue_same shape guest view known words))
    (same_after (left_by shape view (queue_event shape (view_of guest))) (left_by shape (view_of guest) (queue_event shape (view_of guest))) (view_of (after_command guest)) (left_same shape view (view_of guest) (view_of guest) known)
    (subst (λ s. HaveSameIts (left_by s (view_of guest) (queue_event s (view_of guest))) (view_of (after_command guest))) shape_is (command_known 0 0 guest sound)))

-- Commands that are taken, one after the other, until none is.

abbrev pub after_taken : ℕ → IdealGuest → IdealGuest
after_taken zero guest = guest
after_taken (suc count) guest = after_taken count (after_command guest)

abbrev pub AllTaken : ℕ → IdealGuest → Type 0
AllTaken zero guest = takes_command (view_of guest) ≡ false
AllTaken (suc count) guest = (takes_command (view_of guest) ≡ true) × AllTaken count (after_command guest)

-- they are those that the eager controller takes, of at most so many, where that is enough
reached : (count most : ℕ) (guest : IdealGuest) → AllTaken count guest → takes_command (view_of (after_commands most guest)) ≡ false → after_commands most guest ≡ after_taken count guest
reached zero most guest all dry = commands_end most guest all
reached (suc count) zero guest all dry = absurd (let no = sym all.0 ∙ dry in cc)
reached (suc count) (suc most) guest all dry =
    let step : after_commands (suc most) guest ≡ after_commands most (after_command guest) = ap (λ b. cond b (after_commands most (after_command guest)) guest) all.0 in
    step ∙ reached count most (after_command guest) all.1 (sym (ap (λ g. takes_command (view_of g)) step) ∙ dry)

pub queued_is : (count : ℕ) (guest : IdealGuest) → IsSound guest → IsQueueInOrder guest → AllTaken count guest → after_queued guest ≡ after_taken count guest
queued_is count guest sound order all = reached count (queue_places (word_at guest Cbaser)) guest all (not-true (takes_command (view_of (after_queued guest))) (all_run_dry guest sound order))

-- The commands of a call.

pub record CommandsDone (guest : IdealGuest) (piece : List Happened) : Type 0 where
  pub count : ℕ
  pub goes : after_events (events_of piece) guest ≡ after_taken count guest
  pub all : AllTaken count guest

module _ (shape : GuestShape) (actor vcpu : ℕ) (beside : Beside) where
  pub commands_done : (views : List View) (number : ℕ) (its : View) (piece : List Happened) (after : List Event) (b : Bool) (guest : IdealGuest) (state : Ideal) (call : Call) → AreCommands (Some vcpu) shape beside number its views piece
      → IsSound guest → guest.shape ≡ shape → HaveSameIts its (view_of guest) → IsAt guest call number → IsHomeRun b guest piece → Follows actor state guest (events_of piece) → HasTargets beside (call_after actor (events_of piece ++ after) state call)
      → CommandsDone guest piece
  commands_done [] number its piece after b guest state call are sound shape_is same at run follows targets = record {
    count = zero;
    goes = still_beside (Some vcpu) piece guest (none_beside (Some vcpu) piece are.0.events_are);
    all = sym (takes_known its (view_of guest) same) ∙ not-true (takes_command its) are.1;
  }
  commands_done (view ∷ views) number its piece after b guest state call are sound shape_is same at run follows targets =
      let known : HaveSameIts view (view_of guest) = same_then its view (view_of guest) are.same same in
      let taken : takes_command (view_of guest) ≡ true = sym (takes_known view (view_of guest) known) ∙ are.command.taken in
      let events : events_of piece ≡ events_of are.own ++ events_of are.rest = ap events_of are.split ∙ events_both are.own are.rest in
      let runs = run_split are.own are.rest b guest (subst (IsHomeRun b guest) are.split run) in
      let follow = follows_split actor (events_of are.own) (events_of are.rest) state guest (subst (Follows actor state guest) events follows) in
      let targets_now : HasTargets beside (call_after actor (events_of are.own ++ (events_of are.rest ++ after)) state call) = subst (λ es. HasTargets beside (call_after actor es state call)) (ap (λ es. es ++ after) events ∙ append_assoc (events_of are.own) (events_of are.rest) after) targets in
      let whole : IsWhole guest = record { shape = sound.shape; each = sound.irqs } in
      let one = one_done shape actor vcpu beside b guest whole shape_is view known number are.targets_are state call at are.own (events_of are.rest ++ after) are.command runs.0 follow.0 targets_now in
      let words = words_are shape actor vcpu beside b guest whole shape_is view known number are.targets_are state call at are.own are.command runs.0 in
      let next = after_command guest in
      let left = left_after shape guest view sound shape_is known words in
      let later = commands_done views (number + 1) (left_by shape view (queue_event shape view)) are.rest after (marks_after are.own b) (after_command guest) (state_after actor (events_of are.own) state) (call_after actor (events_of are.own) state call) are.later
      (sound_command 0 0 guest sound) (command_shape 0 0 guest sound ∙ shape_is) left one.at (subst (λ g. IsHomeRun (marks_after are.own b) g are.rest) one.goes runs.1)
      (subst (λ g. Follows actor (state_after actor (events_of are.own) state) g (events_of are.rest)) one.goes follow.1) (subst (HasTargets beside) (call_append actor (events_of are.own) (events_of are.rest ++ after) state call) targets_now) in
      record {
        count = suc later.count;
        goes = ap (λ es. after_events es guest) events ∙ fold-append after_event guest (events_of are.own) (events_of are.rest) ∙ ap (after_events (events_of are.rest)) one.goes ∙ later.goes;
        all = (taken, later.all);
      }
