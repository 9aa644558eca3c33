-- An interrupt is given back and released.
use Rattle.std.proofs.Common.{◌≡◌, ℕ, ◌&&◌, Bool, true, false, IsTrue, [], ◌∷◌, ◌++◌, is_none, refl, sym, ap, subst, ◌∙◌}
use Rattle.port_call.specs.Words.{Back, Key, has_interrupt, irq_of}
use Rattle.port_call.specs.Core.{Local, Folding, GiveBack, Release, told_of_release, marked_of_release, CanGiveBack, CanRelease, is_active_at, is_vcpu, owes_nothing, owing, without_at, changed_at, Seen, Adds, AddsStep, CanMake, made_by, shape_of, seen_after, part_events}
use Rattle.port_call.proofs.PortCore.PortLemmas.{adds_join}
use Rattle.port_call.specs.Piece.{IsPiece, takes_none}
use Rattle.port_call.specs.Rest.{StaysAtEase}
use Rattle.port_call.specs.Settle.{marks_sent, kicks_sent, Settles}
use Rattle.port_call.proofs.PieceLemmas.{piece_cons}
use Rattle.port_call.proofs.RestLemmas.{owes_none, sent_at_ease}
use Rattle.port_call.proofs.SettleLemmas.{handed_none}
use Rattle.port_call.proofs.TurnLemmas.{events_then}
use Rattle.pe_loop.specs.Leave.{left_by, Releases}
use Rattle.pe_loop.proofs.AtLemmas.{entry_given, without_given}

and_true : (a b : Bool) → IsTrue a → IsTrue b → IsTrue (a && b)
and_true true true h k = refl
and_true true false h k = absurd (cc)
and_true false b h k = absurd (cc)

-- what was given back may be released
pub can_release : (old mid : Seen) (key : Key) (back : Back) (found : ℕ) → IsTrue (is_vcpu (shape_of old) old.actor) → IsTrue (has_interrupt (shape_of old) key) → CanGiveBack key back old.local → IsTrue (owes_nothing old.local)
    → AddsStep old mid (GiveBack key back) found → CanMake mid (Release key)
can_release old mid key back found vcpu there can owes add =
    let shape : shape_of mid ≡ shape_of old = ap shape_of add.adds.new_is in
    let actor : mid.actor ≡ old.actor = ap (λ seen. seen.actor) add.adds.new_is in
    record {
      can = ap (λ seen. is_vcpu (shape_of seen) seen.actor && has_interrupt (shape_of seen) key) add.adds.new_is ∙ and_true (is_vcpu (shape_of old) old.actor) (has_interrupt (shape_of old) key) vcpu there;
      seen_is = tt;
      meets = subst (CanRelease key) (sym (ap (λ seen. seen.local) add.adds.new_is)) (record {
        entry = record can.entry { given = true };
        at = entry_given key old.local.at can.entry can.at;
        given = refl;
        marks = (owes_none old.local owes).marks;
      });
      tables = refl;
    }

-- the two steps, and what is owed then
pub releases : (old mid mid2 new : Seen) (key : Key) (back : Back) (one two : ℕ) → IsTrue (owes_nothing old.local) → AddsStep old mid (GiveBack key back) one → AddsStep mid mid2 (Release key) two → Settles mid2 new → Releases old new key back
releases old mid mid2 new key back one two owes first second settles =
    let shape = shape_of mid in
    let give = made_by old (GiveBack key back) one first.tables in
    let release = made_by mid (Release key) two second.tables in
    let sent = settles.marks ++ settles.kicks in
    let given : mid.local ≡ record old.local { at = changed_at (λ entry. record entry { given = true }) key old.local.at; phase = Folding } = ap (λ seen. seen.local) first.adds.new_is in
    let active = is_active_at key mid.local in
    let kicks = told_of_release shape mid.actor active (irq_of two) in
    let marks = marked_of_release shape mid.actor active (irq_of two) in
    let without : Local → Local = λ local. record local { at = without_at key local.at } in
    let released : mid2.local ≡ owing kicks key marks (without mid.local) = ap (λ seen. seen.local) second.adds.new_is in
    let ends : Local → Local = λ local. kicks_sent (marks_sent shape mid.actor local) in
    let left : without mid.local ≡ record old.local { at = without_at key old.local.at; phase = Folding }
    = ap without given ∙ ap (λ at. record old.local { at = at; phase = Folding }) (without_given key old.local.at) in
    let ease : StaysAtEase (without mid.local) new.local =
    subst (StaysAtEase (without mid.local))
    (sym (settles.local_is ∙ ap (λ seen. kicks_sent (marks_sent (shape_of seen) seen.actor mid2.local)) second.adds.new_is ∙ ap ends released))
    (sent_at_ease shape mid.actor kicks key marks (without mid.local) (ap owes_nothing left ∙ owes)) in
    let back_to : Local → Local = λ local. record local { at = old.local.at; phase = old.local.phase; marks = old.local.marks } in
    let Sent : Seen → Type 0 = λ seen. IsPiece seen sent in
    let by : Adds old mid2 (give ∷ release ∷ []) = adds_join old mid mid2 (give ∷ []) (release ∷ []) first.adds second.adds in
    record {
      give = give;
      release = release;
      sent = sent;
      adds = adds_join old mid2 new (give ∷ release ∷ []) sent by settles.adds;
      give_is = refl;
      release_is = refl;
      local_is =
          record {
            same = ap back_to ease.same ∙ ap back_to left;
            at = ap (λ local. local.at) ease.same ∙ ap (λ local. local.at) left;
            phase = ap (λ local. local.phase) ease.same ∙ ap (λ local. local.phase) left;
            marks = ease.marks;
          };
      none_taken =
          and_true (is_none first.tables) (is_none second.tables && takes_none sent) (handed_none (GiveBack key back) one old first.tables refl first.handed)
          (and_true (is_none second.tables) (takes_none sent) (handed_none (Release key) two mid second.tables refl second.handed) settles.none_taken);
      events =
          events_then old mid (give ∷ []) (release ∷ sent) first.adds
          ∙ events_then mid mid2 (release ∷ []) sent second.adds
          ∙ ap (λ events. part_events mid (release ∷ []) ++ events) settles.silent
          ∙ ap (λ actor. left_by actor key ∷ []) (ap (λ seen. seen.actor) first.adds.new_is);
      piece = piece_cons old give (release ∷ sent) refl refl (piece_cons (seen_after old (give ∷ [])) release sent refl refl (subst Sent by_two settles.piece));
    }
  where
    by_two : mid2 ≡ seen_after (seen_after old (made_by old (GiveBack key back) one first.tables ∷ [])) (made_by mid (Release key) two second.tables ∷ [])
    by_two = second.adds.new_is ∙ ap (λ seen. seen_after seen (made_by mid (Release key) two second.tables ∷ [])) first.adds.new_is
