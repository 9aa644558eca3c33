-- An actor tries to touch an interrupt, and touches it.
use Rattle.std.proofs.Common.{◌≡◌, inl, inr, ℕ, ◌==◌, ◌&&◌, not, Bool, true, false, cond, if◌then◌else◌, IsTrue, List, [], ◌∷◌, ◌++◌, map, filter, Option, Some, None, is_none, append-nil, refl, sym, ap, subst, ◌∙◌}
use Rattle.std.specs.List.{list_all}
use Rattle.std.specs.Option.{option_map_or, option_to_list}
use Rattle.std.proofs.lemmas.Bool.{and_parts, both_ways, eq-eqb, eqb-true, false_from_ne_true}
use Rattle.std.proofs.lemmas.List.{append_assoc, map-append}
use Rattle.std.proofs.lemmas.List.Sums.{fold-append}
use Rattle.floor_core.specs.Words.{Key, has_interrupt, is_same_key, irq_of, is_number}
use Rattle.floor_core.proofs.GicBase.KeyLemmas.{same_itself}
use Rattle.floor_core.specs.Calls.{Touching, CanTouch, touched}
use Rattle.floor_core.specs.Registers.{Maps}
use Rattle.floor_core.specs.Core.{Local, Made, Look, Touch, Want, Kick, Mark, Irq, concerned_by, local_after, local_done, succeeds, known, IsIrqWord, changes_lpi, has_all_shut, owes_no_mark, owes_nothing, owing_both, without_vcpu, Seen, Adds, AddsStep, CanMake, shape_of, seen_after, made_by, part_events, event_done, makes, Progress, progressed, progress_of, scan_on, stepped, is_idle, IsProper}
use Rattle.floor_core.proofs.PortCore.PortLemmas.{adds_join, seen_joins}
use Rattle.floor_core.proofs.CoreProper.PartLemmas.{proper_append}
use Rattle.port_call.specs.declared.touching.Missed.TheVariants.{Held, Changed}
use Rattle.port_call.specs.About.{is_about, are_about, IsNaming, IsServed, IsTry, IsNamedPiece}
use Rattle.port_call.specs.Piece.{IsIdle, StaysSo, IsGoodPiece, IsPiece, goes_by_known, takes_none}
use Rattle.port_call.specs.Rest.{IsAtEase, StaysAtEase}
use Rattle.port_call.specs.Settle.{vcpus_in, marks_sent, kicks_sent, Settles}
use Rattle.port_call.specs.Touch.{Asks, FindsHome, HasFoundHome, MayChange, Tries, MissesTouch, TouchesLate, Touches}
use Rattle.port_call.proofs.MemoryLemmas.{on_own}
use Rattle.port_call.proofs.PieceLemmas.{seen_nil, idle_is, idle_on, stays_on}
use Rattle.port_call.proofs.RestLemmas.{owes_none, look_kept, kick_kept, told_at_ease}
use Rattle.port_call.proofs.SettleLemmas.{handed_none}
use Rattle.port_call.proofs.TryLemmas.{try_nil, try_cons, try_joins, about_append, none_append, naming_on, trying_proper}
use Rattle.port_call.proofs.TurnLemmas.{events_then, known_by_last}

and_true : (a : Bool) → IsTrue a → IsTrue (a && true)
and_true true h = refl
and_true false h = absurd (cc)

-- A request.

pub asks : (old mid new : Seen) (key : Key) (holder want kick : ℕ) → AddsStep old mid (Want key) want → AddsStep mid new (Kick holder) kick → Asks old new key holder
asks old mid new key holder want kick one two =
    let first = made_by old (Want key) want one.tables in
    let second = made_by mid (Kick holder) kick two.tables in
    let of : Seen → Local = λ seen. record seen.local { owes = without_vcpu seen.local.owes holder } in
    record {
      part = first ∷ second ∷ [];
      adds = adds_join old mid new (first ∷ []) (second ∷ []) one.adds two.adds;
      steps_are = refl;
      local_is = ap (λ seen. seen.local) two.adds.new_is ∙ ap of one.adds.new_is;
      none_taken = none_append (first ∷ []) (second ∷ []) (and_true (is_none one.tables) (handed_none (Want key) want old one.tables refl one.handed)) (and_true (is_none two.tables) (handed_none (Kick holder) kick mid two.tables refl two.handed));
      silent = refl;
      try =
          try_cons old key first (second ∷ []) (same_itself key) (handed_none (Want key) want old one.tables refl one.handed) refl
          (try_cons (seen_after old (first ∷ [])) key second [] refl (handed_none (Kick holder) kick mid two.tables refl two.handed) refl (try_nil (seen_after (seen_after old (first ∷ [])) (second ∷ [])) key));
    }

-- Tries.

pub tries_join : (old mid new : Seen) (key : Key) → Tries old mid key → Tries mid new key → Tries old new key
tries_join old mid new key one two =
    record {
      part = one.part ++ two.part;
      adds = adds_join old mid new one.part two.part one.adds two.adds;
      about = about_append key one.part two.part one.about two.about;
      local_is = two.local_is ∙ one.local_is;
      none_taken = none_append one.part two.part one.none_taken two.none_taken;
      silent = events_then old mid one.part two.part one.adds ∙ ap (λ events. events ++ part_events mid two.part) one.silent ∙ two.silent;
      try = try_joins old key one.part two.part one.about one.none_taken one.try (subst (λ seen. IsTry seen key two.part) one.adds.new_is two.try);
    }

pub no_try : (seen : Seen) (key : Key) → Tries seen seen key
no_try seen key =
    record { part = []; adds = record { new_is = sym (seen_nil seen) }; about = refl; local_is = refl; none_taken = refl; silent = refl; try = try_nil seen key }

-- a look
pub look_tries : (old mid : Seen) (key : Key) (seen : ℕ) → IsTrue (owes_nothing old.local) → AddsStep old mid (Look (Irq key)) seen → Tries old mid key
look_tries old mid key seen owes add =
    let made = made_by old (Look (Irq key)) seen add.tables in
    let none = handed_none (Look (Irq key)) seen old add.tables refl add.handed in
    record {
      part = made ∷ [];
      adds = add.adds;
      about = and_true (is_same_key key key) (same_itself key);
      local_is = ap (λ seen. seen.local) add.adds.new_is ∙ look_kept (shape_of old) old.actor key (irq_of seen) old.local (owes_none old.local owes).cands;
      none_taken = and_true (is_none add.tables) none;
      silent = refl;
      try = try_cons old key made [] (same_itself key) none refl (try_nil (seen_after old (made ∷ [])) key);
    }

-- a touch that found another word than was looked at
fails : (seen found : ℕ) → (found == seen) ≡ false → (found == seen && is_none (irq_of found).holder) ≡ false
fails seen found e = ap (λ b. b && is_none (irq_of found).holder) e

pub late_tries : (mid new : Seen) (key : Key) (kind : Touching) (seen found : ℕ) → (found == seen) ≡ false → IsTrue (goes_by_known mid (Touch key seen kind)) → AddsStep mid new (Touch key seen kind) found → Tries mid new key
late_tries mid new key kind seen found late known add =
    let made = made_by mid (Touch key seen kind) found add.tables in
    let none = handed_none (Touch key seen kind) found mid add.tables refl add.handed in
    let no_success : succeeds (shape_of mid) mid.actor mid.local (Touch key seen kind) found ≡ false = fails seen found late in
    record {
      part = made ∷ [];
      adds = add.adds;
      about = and_true (is_same_key key key) (same_itself key);
      local_is = ap (λ seen. seen.local) add.adds.new_is ∙ ap (λ b. if b then local_done (shape_of mid) mid.actor mid.local (Touch key seen kind) found else mid.local) no_success;
      none_taken = and_true (is_none add.tables) none;
      silent = ap (λ b. option_to_list (if b then event_done (shape_of mid) mid.actor mid.local mid.own (Touch key seen kind) found else None) ++ []) no_success;
      try = try_cons mid key made [] (same_itself key) none known (try_nil (seen_after mid (made ∷ [])) key);
    }

-- a request of one that owes nothing
pub asked_tries : (mid new : Seen) (key : Key) (holder : ℕ) → IsTrue (owes_nothing mid.local) → Asks mid new key holder → Tries mid new key
asked_tries mid new key holder owes asked =
    record {
      part = asked.part;
      adds = asked.adds;
      about = ap (list_all (is_about key)) asked.steps_are ∙ and_true (is_same_key key key) (same_itself key);
      local_is = asked.local_is ∙ kick_kept holder mid.local (owes_none mid.local owes).kicks;
      none_taken = asked.none_taken;
      silent = asked.silent;
      try = asked.try;
    }

-- a touch goes by what the look before it found
pub looked_known : (old mid : Seen) (key : Key) (kind : Touching) (seen : ℕ) → AddsStep old mid (Look (Irq key)) seen → IsTrue (goes_by_known mid (Touch key seen kind))
looked_known old mid key kind seen add =
    let made = made_by old (Look (Irq key)) seen add.tables in
    let is : known (shape_of old) old.actor (old.own ++ made ∷ []) (Irq key) ≡ Some seen
    = known_by_last (shape_of old) old.actor old.own made (Irq key) (on_own (shape_of old) old.actor (Irq key) made refl) in
    ap (λ told. goes_by_known told (Touch key seen kind)) add.adds.new_is ∙ ap (is_number seen) is ∙ eq-eqb seen seen refl

-- Misses.

keeps_owing : (before after : Local) → after ≡ before → IsTrue (owes_nothing before) → IsTrue (owes_nothing after)
keeps_owing before after e h = ap owes_nothing e ∙ h

-- the look finds a vCPU that holds it
pub held_by_look : (old mid new : Seen) (key : Key) (kind : Touching) (seen holder : ℕ) → IsTrue (owes_nothing old.local) → (irq_of seen).holder ≡ Some holder → AddsStep old mid (Look (Irq key)) seen → Asks mid new key holder → MissesTouch old new key kind (Held holder)
unfolding look_tries tries_join asked_tries
held_by_look old mid new key kind seen holder owes held look asked =
    let one = look_tries old mid key seen owes look in
    let two = asked_tries mid new key holder (keeps_owing old.local mid.local one.local_is owes) asked in
    record {
      tries = tries_join old mid new key one two;
      miss =
          record {
            tried = one.part;
            asked = asked.part;
            part_is = refl;
            word = seen;
            found = inl (record { look = made_by old (Look (Irq key)) seen look.tables; tried_is = refl; look_is = refl; found_is = refl });
            held = held;
            asked_is = asked.steps_are;
          };
    }

touches_late : (old mid new : Seen) (key : Key) (kind : Touching) (seen found : ℕ) (look : AddsStep old mid (Look (Irq key)) seen) (add : AddsStep mid new (Touch key seen kind) found) → (irq_of seen).holder ≡ None → (found == seen) ≡ false
    → TouchesLate key kind found (made_by old (Look (Irq key)) seen look.tables ∷ made_by mid (Touch key seen kind) found add.tables ∷ [])
touches_late old mid new key kind seen found look add home late =
    record {
      look = made_by old (Look (Irq key)) seen look.tables;
      late = made_by mid (Touch key seen kind) found add.tables;
      tried_is = refl;
      look_is = refl;
      home = home;
      late_is = refl;
      found_is = refl;
      other = λ e. differ (found == seen) late (eq-eqb found seen e);
    }
  where
    differ : (b : Bool) → b ≡ false → b ≡ true → ⊥
    differ b f t = cc

-- the look finds nobody, and the touch a vCPU that holds it by then
pub held_by_touch :
    (old mid mid2 new : Seen) (key : Key) (kind : Touching) (seen found holder : ℕ) → IsTrue (owes_nothing old.local) → (irq_of seen).holder ≡ None → (found == seen) ≡ false → (irq_of found).holder ≡ Some holder
    → AddsStep old mid (Look (Irq key)) seen → AddsStep mid mid2 (Touch key seen kind) found → Asks mid2 new key holder → MissesTouch old new key kind (Held holder)
unfolding tries_join asked_tries look_tries late_tries
held_by_touch old mid mid2 new key kind seen found holder owes home late held look add asked =
    let one = look_tries old mid key seen owes look in
    let two = late_tries mid mid2 key kind seen found late (looked_known old mid key kind seen look) add in
    let both = tries_join old mid mid2 key one two in
    let three = asked_tries mid2 new key holder (keeps_owing old.local mid2.local both.local_is owes) asked in
    record {
      tries = tries_join old mid2 new key both three;
      miss =
          record {
            tried = both.part;
            asked = asked.part;
            part_is = refl;
            word = found;
            found = inr (touches_late old mid mid2 key kind seen found look add home late);
            held = held;
            asked_is = asked.steps_are;
          };
    }

-- or nobody, but another word
pub changed_by_touch :
    (old mid new : Seen) (key : Key) (kind : Touching) (seen found : ℕ) → IsTrue (owes_nothing old.local) → (irq_of seen).holder ≡ None → (found == seen) ≡ false → (irq_of found).holder ≡ None
    → AddsStep old mid (Look (Irq key)) seen → AddsStep mid new (Touch key seen kind) found → MissesTouch old new key kind (Changed found)
unfolding tries_join look_tries late_tries
changed_by_touch old mid new key kind seen found owes home late unheld look add =
    let one = look_tries old mid key seen owes look in
    let two = late_tries mid new key kind seen found late (looked_known old mid key kind seen look) add in
    record {
      tries = tries_join old mid new key one two;
      miss = record { late = touches_late old mid new key kind seen found look add home late; home = unheld };
    }

-- Touches.

about_marks : (key : Key) (vcpus : List ℕ) → IsTrue (list_all (is_about key) (map (Mark key) vcpus))
about_marks key [] = refl
about_marks key (vcpu ∷ vcpus) = ap (λ b. b && list_all (is_about key) (map (Mark key) vcpus)) (same_itself key) ∙ about_marks key vcpus

about_kicks : (key : Key) (vcpus : List ℕ) → IsTrue (list_all (is_about key) (map Kick vcpus))
about_kicks key [] = refl
about_kicks key (vcpu ∷ vcpus) = about_kicks key vcpus

-- what is sent for an interrupt is about it
pub sent_about : (old new : Seen) (key : Key) (settles : Settles old new) → old.local.marks.key ≡ Some key → IsTrue (are_about key (settles.marks ++ settles.kicks))
sent_about old new key settles of_key =
    about_append key settles.marks settles.kicks
    (ap (list_all (is_about key)) (settles.marks_are ∙ ap (λ o. option_map_or (λ key. map (Mark key) (vcpus_in old.local.marks.vcpus)) o []) of_key) ∙ about_marks key (vcpus_in old.local.marks.vcpus))
    (ap (list_all (is_about key)) settles.kicks_are ∙ about_kicks key (vcpus_in old.local.owes))

-- an actor that asked for an interrupt alone, and touches it, asks for none
none_left : (key : Key) (keys : List Key) → IsTrue (list_all (is_same_key key) keys) → filter (λ other. not (is_same_key key other)) keys ≡ []
none_left key [] h = refl
none_left key (other ∷ keys) h =
    let parts = and_parts (is_same_key key other) (list_all (is_same_key key) keys) h in
    ap (λ b. cond (not b) (other ∷ filter (λ one. not (is_same_key key one)) keys) (filter (λ one. not (is_same_key key one)) keys)) parts.0 ∙ none_left key keys parts.1

bare : Progress → Progress
bare p = record p { wants = [] }

-- a piece after one that leaves it asking for none
served_joins : (seen : Seen) (p : Progress) (early late : List Made) → IsServed seen p early → IsPiece (seen_after seen early) late → IsServed seen p (early ++ late)
served_joins seen p early late first piece =
    let shape = shape_of seen in
    let acts = map-append makes early late in
    let q = progress_of shape seen.actor p (map makes early) in
    let second = piece q first.ends in
    let along : progress_of shape seen.actor p (map makes (early ++ late)) ≡ progress_of shape seen.actor q (map makes late)
    = ap (progress_of shape seen.actor p) acts ∙ fold-append (progressed shape seen.actor) p (map makes early) (map makes late) in
    let Ends : Seen → Type 0 = λ told. IsIdle told (progress_of shape seen.actor p (map makes (early ++ late))) in
    record {
      proper = subst (IsProper shape seen.actor p) (sym acts) ((proper_append shape seen.actor p (map makes early) (map makes late)).1 (first.proper, second.proper));
      stays = subst (StaysSo (record p { wants = [] })) (sym along) (stays_on (record p { wants = [] }) q (progress_of shape seen.actor q (map makes late)) first.stays second.stays);
      ends = subst Ends (sym (seen_joins seen early late)) (subst (IsIdle (seen_after (seen_after seen early) late)) (sym along) second.ends);
    }

-- and such a one after a try
tries_then_served : (seen : Seen) (key : Key) (early late : List Made) → IsTrue (are_about key early) → IsTrue (takes_none early) → IsTry seen key early → IsNamedPiece (seen_after seen early) key late → IsNamedPiece seen key (early ++ late)
unfolding bare
tries_then_served seen key early late about none try piece p idle naming asked =
    let shape = shape_of seen in
    let acts = map-append makes early late in
    let q = progress_of shape seen.actor p (map makes early) in
    let first = try p idle naming in
    let second = piece q first.ends (naming_on seen p q key early about none (ap (λ s. s.operation) first.stays.same) naming) (first.stays.wants asked) in
    let along : progress_of shape seen.actor p (map makes (early ++ late)) ≡ progress_of shape seen.actor q (map makes late)
    = ap (progress_of shape seen.actor p) acts ∙ fold-append (progressed shape seen.actor) p (map makes early) (map makes late) in
    let Ends : Seen → Type 0 = λ told. IsIdle told (progress_of shape seen.actor p (map makes (early ++ late))) in
    let back : Progress → Progress = λ s. record s { local = p.local; own = p.own; failed = p.failed } in
    let r = progress_of shape seen.actor q (map makes late) in
    let stays : StaysSo (record p { wants = [] }) r = record {
      same = ap back second.stays.same ∙ ap bare first.stays.same;
      failed = λ h. first.stays.failed (second.stays.failed h);
    } in
    record {
      proper = subst (IsProper shape seen.actor p) (sym acts) ((proper_append shape seen.actor p (map makes early) (map makes late)).1 (first.proper, second.proper));
      stays = subst (StaysSo (record p { wants = [] })) (sym along) stays;
      ends = subst Ends (sym (seen_joins seen early late)) (subst (IsIdle (seen_after (seen_after seen early) late)) (sym along) second.ends);
    }

-- a part of a call that asks for none
pub named_good : (seen : Seen) (key : Key) (part : List Made) (p : Progress) → IsNamedPiece seen key part → IsIdle seen p → IsNaming seen p key → p.wants ≡ [] → IsGoodPiece seen p part
named_good seen key part p piece idle naming none =
    let good = piece p idle naming (ap (list_all (is_same_key key)) none) in
    let without : List Key → Progress = λ wants. record p { wants = wants } in
    record { proper = good.proper; stays = subst (λ q. StaysSo q (progress_of (shape_of seen) seen.actor p (map makes part))) (ap without (sym none)) good.stays; ends = good.ends }

-- tries, and the touch
touch_piece : (old : Seen) (key : Key) (kind : Touching) (misses : List Made) (seen found left : ℕ) (tables : Option Maps) → IsTry old key misses → IsTrue (are_about key misses) → IsTrue (takes_none misses)
    → succeeds (shape_of old) old.actor (seen_after old misses).local (Touch key seen kind) found ≡ true → IsTrue (goes_by_known (seen_after old misses) (Touch key seen kind))
    → IsNamedPiece old key (misses ++ (record { step = Touch key seen kind; found = found; left = left; tables = tables }) ∷ [])
unfolding bare
touch_piece old key kind misses seen found left tables tries about none success by_known p idle naming asked =
    let shape = shape_of old in
    let made : Made = record { step = Touch key seen kind; found = found; left = left; tables = tables } in
    let first = tries p idle naming in
    let q = progress_of shape old.actor p (map makes misses) in
    let mid = seen_after old misses in
    let scan = idle_is q.scan first.ends.scan in
    let local = local_after shape old.actor q.local (Touch key seen kind) found in
    let own = q.own ++ made ∷ [] in
    let done : succeeds shape old.actor q.local (Touch key seen kind) found ≡ true = ap (λ local. succeeds shape old.actor local (Touch key seen kind) found) first.ends.local ∙ success in
    let kept = filter (λ other. not (is_same_key key other)) q.wants in
    let all : IsTrue (list_all (is_same_key key) q.wants) = first.stays.wants asked in
    let wants : (if succeeds shape old.actor q.local (Touch key seen kind) found then kept else q.wants) ≡ [] = ap (λ b. if b then kept else q.wants) done ∙ none_left key q.wants all in
    let make : List Key → Progress = λ wants. record q { wants = wants; local = local; own = own } in
    let is : stepped shape old.actor made q ≡ make [] = ap (λ wants. scan_on shape old.actor (make wants)) wants ∙ idle_on shape old.actor (make []) scan in
    let r = stepped shape old.actor made q in
    let back : Progress → Progress = λ s. record s { local = p.local; own = p.own; failed = p.failed } in
    let acts = map-append makes misses (made ∷ []) in
    let along : progress_of shape old.actor p (map makes (misses ++ made ∷ [])) ≡ r
    = ap (progress_of shape old.actor p) acts ∙ fold-append (progressed shape old.actor) p (map makes misses) (makes made ∷ []) in
    let stays : StaysSo (record p { wants = [] }) r = record {
      same = ap back is ∙ ap bare first.stays.same;
      failed = λ h. first.stays.failed (ap (λ s. s.failed) (sym is) ∙ h);
    } in
    let ends : IsIdle (seen_after mid (made ∷ [])) r = record {
      local = ap (λ s. s.local) is ∙ ap (λ local. local_after shape old.actor local (Touch key seen kind) found) first.ends.local;
      own = ap (λ s. s.own) is ∙ ap (λ own. own ++ made ∷ []) first.ends.own;
      scan = ap (λ s. is_idle s.scan) is ∙ first.ends.scan;
    } in
    let Ends : Seen → Type 0 = λ told. IsIdle told (progress_of shape old.actor p (map makes (misses ++ made ∷ []))) in
    record {
      proper =
          subst (IsProper shape old.actor p) (sym acts)
          ((proper_append shape old.actor p (map makes misses) (makes made ∷ [])).1
          (first.proper, (trying_proper mid q key (Touch key seen kind) (same_itself key) by_known first.ends (naming_on old p q key misses about none (ap (λ s. s.operation) first.stays.same) naming), tt)));
      stays = subst (StaysSo (record p { wants = [] })) (sym along) stays;
      ends = subst Ends (sym (seen_joins old misses (made ∷ []))) (subst (IsIdle (seen_after mid (made ∷ []))) (sym along) ends);
    }

-- a touch that found the word as it was looked at, and nobody that holds it
pub touches :
    (old mid mid2 new : Seen) (key : Key) (kind : Touching) (seen found : ℕ) → IsTrue (owes_nothing old.local) → Tries old mid key → (found == seen) ≡ true → (irq_of seen).holder ≡ None → IsTrue (goes_by_known mid (Touch key seen kind))
    → AddsStep mid mid2 (Touch key seen kind) found → Settles mid2 new → Touches old new key kind found
touches old mid mid2 new key kind seen found owes tries e home known add settles =
    let shape = shape_of mid in
    let same : found ≡ seen = eqb-true found seen e in
    let unheld : (irq_of found).holder ≡ None = ap (λ word. (irq_of word).holder) same ∙ home in
    let success : succeeds shape mid.actor mid.local (Touch key seen kind) found ≡ true = ap (λ b. b && is_none (irq_of found).holder) e ∙ ap is_none unheld in
    let made = made_by mid (Touch key seen kind) found add.tables in
    let sent = settles.marks ++ settles.kicks in
    let one = tries.part ++ made ∷ [] in
    let parts : one ++ sent ≡ tries.part ++ made ∷ sent = append_assoc tries.part (made ∷ []) sent in
    let untaken = handed_none (Touch key seen kind) found mid add.tables refl add.handed in
    let vcpus = concerned_by shape (irq_of found) (touched shape key kind (irq_of found)) in
    let local : mid2.local ≡ owing_both key vcpus mid.local
    = ap (λ seen. seen.local) add.adds.new_is ∙ ap (λ b. if b then local_done shape mid.actor mid.local (Touch key seen kind) found else mid.local) success in
    let of_key : mid2.local.marks.key ≡ Some key = ap (λ local. local.marks.key) local in
    let mid_is = tries.adds.new_is in
    let Success : Seen → Type 0 = λ seen'. succeeds (shape_of seen') seen'.actor seen'.local (Touch key seen kind) found ≡ true in
    let Known : Seen → Type 0 = λ seen'. IsTrue (goes_by_known seen' (Touch key seen kind)) in
    let by : Adds old mid2 one = adds_join old mid mid2 tries.part (made ∷ []) tries.adds add.adds in
    let Sent : Seen → Type 0 = λ told. IsPiece told sent in
    let sent_piece : IsPiece (seen_after old one) sent = subst Sent by.new_is settles.piece in
    let Named : List Made → Type 0 = λ part. IsNamedPiece old key part in
    let touched_piece = touch_piece old key kind tries.part seen found made.left add.tables tries.try tries.about tries.none_taken (subst Success mid_is success) (subst Known mid_is known) in
    let By : List Made → Type 0 = λ part. Adds old new part in
    let ends : Local → Local = λ local. kicks_sent (marks_sent shape mid.actor local) in
    record {
      misses = tries.part;
      touch = made;
      sent = sent;
      adds = subst By parts (adds_join old mid2 new one sent by settles.adds);
      about = about_append key tries.part (made ∷ sent) tries.about (ap (λ b. b && are_about key sent) (same_itself key) ∙ sent_about mid2 new key settles of_key);
      touch_is = ap (λ word. Touch key word kind) (sym same);
      found_is = refl;
      home = unheld;
      local_is =
          subst (StaysAtEase old.local)
          (sym (settles.local_is ∙ ap (λ seen. kicks_sent (marks_sent (shape_of seen) seen.actor mid2.local)) add.adds.new_is ∙ ap ends local ∙ ap (λ local. ends (owing_both key vcpus local)) tries.local_is))
          (told_at_ease shape mid.actor key vcpus old.local owes);
      none_taken = none_append tries.part (made ∷ sent) tries.none_taken (ap (λ b. b && takes_none sent) untaken ∙ settles.none_taken);
      events =
          events_then old mid tries.part (made ∷ sent) tries.adds ∙ ap (λ events. events ++ part_events mid (made ∷ sent)) tries.silent
          ∙ events_then mid mid2 (made ∷ []) sent add.adds
          ∙ ap (λ events. part_events mid (made ∷ []) ++ events) settles.silent
          ∙ append-nil (part_events mid (made ∷ []))
          ∙ ap (λ b. option_to_list (if b then event_done shape mid.actor mid.local mid.own (Touch key seen kind) found else None) ++ []) success;
      piece = subst Named parts (λ p idle naming wants. served_joins old p one sent (touched_piece p idle naming wants) sent_piece);
    }

-- a try that missed, and then a touch
pub tries_then_touches : (old mid new : Seen) (key : Key) (kind : Touching) (found : ℕ) → Tries old mid key → Touches mid new key kind found → Touches old new key kind found
tries_then_touches old mid new key kind found one two =
    let late = two.misses ++ two.touch ∷ two.sent in
    let parts : one.part ++ late ≡ (one.part ++ two.misses) ++ two.touch ∷ two.sent = sym (append_assoc one.part two.misses (two.touch ∷ two.sent)) in
    let By : List Made → Type 0 = λ part. Adds old new part in
    let About : List Made → Type 0 = λ part. IsTrue (are_about key part) in
    let None : List Made → Type 0 = λ part. IsTrue (takes_none part) in
    let Piece : List Made → Type 0 = λ part. IsNamedPiece old key part in
    record {
      misses = one.part ++ two.misses;
      touch = two.touch;
      sent = two.sent;
      adds = subst By parts (adds_join old mid new one.part late one.adds two.adds);
      about = subst About parts (about_append key one.part late one.about two.about);
      touch_is = two.touch_is;
      found_is = two.found_is;
      home = two.home;
      local_is = subst (λ local. StaysAtEase local new.local) one.local_is two.local_is;
      none_taken = subst None parts (none_append one.part late one.none_taken two.none_taken);
      events =
          ap (part_events old) (sym parts) ∙ events_then old mid one.part late one.adds ∙ ap (λ events. events ++ part_events mid late) one.silent ∙ two.events;
      piece = subst Piece parts (tries_then_served old key one.part late one.about one.none_taken one.try (subst (λ seen. IsNamedPiece seen key late) one.adds.new_is two.piece));
    }

-- What the steps ask.

-- after a look an actor owes no mark still, and may touch the interrupt
pub looked_marks : (old mid : Seen) (key : Key) (seen : ℕ) → IsTrue (owes_nothing old.local) → AddsStep old mid (Look (Irq key)) seen → IsTrue (owes_no_mark mid.local)
looked_marks old mid key seen owes look = ap owes_no_mark (look_tries old mid key seen owes look).local_is ∙ (owes_none old.local owes).marks

pub can_touch : (old mid : Seen) (key : Key) (kind : Touching) (seen : ℕ) → IsAtEase old.local → CanTouch (shape_of old) key kind → IsIrqWord (shape_of old) key seen → AddsStep old mid (Look (Irq key)) seen → MayChange mid kind → CanMake mid (Touch key seen kind)
can_touch old mid key kind seen ease can word look may =
    let shape : shape_of mid ≡ shape_of old = ap shape_of look.adds.new_is in
    record {
      can = subst (λ shape. CanTouch shape key kind) (sym shape) can;
      seen_is = subst (λ shape. IsIrqWord shape key seen) (sym shape) word;
      meets =
          record {
            empty = ap (λ local. local.at) (look_tries old mid key seen ease.owes look).local_is ∙ ease.empty;
            marks = looked_marks old mid key seen ease.owes look;
            lines = may;
          };
      tables = refl;
    }

-- after a touch that was late too
pub late_marks : (old mid new : Seen) (key : Key) (kind : Touching) (seen found : ℕ) → IsTrue (owes_nothing old.local) → (found == seen) ≡ false → AddsStep old mid (Look (Irq key)) seen → AddsStep mid new (Touch key seen kind) found → IsTrue (owes_no_mark new.local)
late_marks old mid new key kind seen found owes late look add =
    ap owes_no_mark (late_tries mid new key kind seen found late (looked_known old mid key kind seen look) add).local_is ∙ looked_marks old mid key seen owes look

pub there_still : (old new : Seen) (key : Key) (kind : Touching) (seen found : ℕ) → CanTouch (shape_of old) key kind → AddsStep old new (Touch key seen kind) found → IsTrue (has_interrupt (shape_of new) key)
there_still old new key kind seen found can add = ap (λ shape. has_interrupt shape key) (ap shape_of add.adds.new_is) ∙ can.there

-- after a look that found nobody an actor may touch the interrupt
pub found_can : (seen : Seen) (key : Key) (kind : Touching) (word : ℕ) → CanTouch (shape_of seen) key kind → HasFoundHome seen key word → MayChange seen kind → CanMake seen (Touch key word kind)
found_can seen key kind word can looked may =
    let shape : shape_of seen ≡ shape_of looked.before = ap shape_of looked.finds.look.adds.new_is in
    can_touch looked.before seen key kind word looked.ease (subst (λ shape. CanTouch shape key kind) shape can) looked.finds.word_is looked.finds.look may

pub looked_can : (old mid : Seen) (key : Key) (kind : Touching) (word : ℕ) → CanTouch (shape_of old) key kind → FindsHome old mid key word → CanTouch (shape_of mid) key kind
looked_can old mid key kind word can finds = subst (λ shape. CanTouch shape key kind) (sym (ap shape_of finds.look.adds.new_is)) can

-- a touch that changes no LPI may always be made
pub may_quiet : (seen : Seen) (kind : Touching) → changes_lpi kind ≡ false → MayChange seen kind
may_quiet seen kind quiet = λ e. absurd (both_ways (changes_lpi kind) quiet e)

-- it may still change what it may, after a look, and after tries
pub may_look : (old mid : Seen) (key : Key) (kind : Touching) (word : ℕ) → IsAtEase old.local → FindsHome old mid key word → MayChange old kind → MayChange mid kind
unfolding look_tries
may_look old mid key kind word ease finds may = λ e. ap has_all_shut (look_tries old mid key word ease.owes finds.look).local_is ∙ may e

pub may_try : (old mid : Seen) (key : Key) (kind : Touching) → Tries old mid key → MayChange old kind → MayChange mid kind
may_try old mid key kind tries may = λ e. ap has_all_shut tries.local_is ∙ may e

-- numbers that differ
pub not_eq : (found seen : ℕ) → (found ≡ seen → ⊥) → (found == seen) ≡ false
not_eq found seen differ = false_from_ne_true (found == seen) (λ e. differ (eqb-true found seen e))
