-- Steps about an interrupt of a call that names it: looks, touches, requests and kicks.
use Rattle.std.proofs.Common.{◌≡◌, ℕ, ◌==◌, ◌&&◌, not, Bool, true, false, cond, if◌then◌else◌, IsTrue, List, [], ◌∷◌, ◌++◌, map, filter, Option, Some, is_none, append-nil, refl, sym, ap, subst, ◌∙◌}
use Rattle.std.specs.List.{list_all}
use Rattle.std.specs.Option.{option_map_or}
use Rattle.std.proofs.lemmas.Bool.{and_parts}
use Rattle.std.proofs.lemmas.List.{append_assoc, map-append}
use Rattle.std.proofs.lemmas.List.Folds.{list_all-append}
use Rattle.std.proofs.lemmas.List.Sums.{fold-append}
use Rattle.floor_core.specs.Words.{Key, GuestShape, is_same_key, irq_of, is_number}
use Rattle.floor_core.proofs.GicBase.KeyLemmas.{same_key}
use Rattle.floor_core.specs.Calls.{Operation}
use Rattle.floor_core.specs.Core.{Made, CoreStep, Look, Touch, Want, Kick, Irq, local_after, succeeds, Seen, shape_of, seen_after, makes, Progress, is_end_of, progressed, progress_of, scan_on, stepped, IsProper, IsProperStep, keeps_seen, keeps_want, may_name, keeps_trap_scan, keeps_failed_claim, keeps_far_end, keeps_refill, Scan, idle, is_idle, scan_looked}
use Rattle.floor_core.proofs.PortCore.PortLemmas.{seen_joins}
use Rattle.floor_core.specs.CoreProper.Progress.{changed_by}
use Rattle.floor_core.proofs.CoreProper.PartLemmas.{proper_append}
use Rattle.port_call.specs.About.{is_about, are_about, IsNaming, IsTry, StaysAsking}
use Rattle.port_call.specs.Piece.{IsIdle, goes_by_known, takes_none, steps_of}
use Rattle.port_call.proofs.PieceLemmas.{idle_is, idle_on, scan_free}

-- A step.

-- the conditions of a step, but for the scan, what it asks for and the seen word
record IsFree (shape : GuestShape) (actor : ℕ) (p : Progress) (step : CoreStep) : Type 0 where
  trap : IsTrue (keeps_trap_scan p step)
  failed : IsTrue (keeps_failed_claim p step)
  far : IsTrue (keeps_far_end shape actor p step)
  refill : IsTrue (keeps_refill shape actor p step)

-- a step by which an actor tries to touch an interrupt: a look at it, a touch, a step that asks for it, or a kick
abbrev pub is_trying : Key → CoreStep → Bool
is_trying key (Look (Irq other)) = is_same_key key other
is_trying key (Touch other seen kind) = is_same_key key other
is_trying key (Want other) = is_same_key key other
is_trying key (Kick vcpu) = true
is_trying key step = false

-- what it changes besides the actor's own state
pub record ChangesAsked (key : Key) (p after : Progress) : Type 0 where
  pub failed : Bool
  pub wants : List Key
  pub is : after ≡ record p { failed = failed; wants = wants }
  pub less : IsTrue failed → IsTrue p.failed
  pub only : IsTrue (list_all (is_same_key key) p.wants) → IsTrue (list_all (is_same_key key) wants)

left : (a b : Bool) → IsTrue (a && b) → IsTrue a
left true b h = refl
left false b h = absurd (cc)

-- fewer of some are still all of a kind
fewer : (keep : Key → Bool) (test : Key → Bool) (keys : List Key) → IsTrue (list_all test keys) → IsTrue (list_all test (filter keep keys))
fewer keep test [] h = refl
fewer keep test (key ∷ keys) h = let parts = and_parts (test key) (list_all test keys) h in of (keep key) parts.0 (fewer keep test keys parts.1)
  where
    of : (b : Bool) → IsTrue (test key) → IsTrue (list_all test (filter keep keys)) → IsTrue (list_all test (cond b (key ∷ filter keep keys) (filter keep keys)))
    of true h k = ap (λ b. b && list_all test (filter keep keys)) h ∙ k
    of false h k = k

-- the look of a call that does not end the interrupt leaves what it looked for
far_kept : (b : Bool) (found : Bool) (far : Option Bool) → b ≡ false → (if b then Some found else far) ≡ far
far_kept b found far e = ap (λ b. if b then Some found else far) e

pub trying_changes : (shape : GuestShape) (actor : ℕ) (key : Key) (step : CoreStep) (found : ℕ) (done : Bool) (p : Progress) → IsTrue (is_trying key step) → p.scan ≡ idle → is_end_of shape actor p.operation key ≡ false
    → ChangesAsked key p (changed_by shape actor step found done p)
trying_changes shape actor key (Look (Irq other)) found done p h e far =
    let make : Scan → Option Bool → Progress = λ scan looked. record p { scan = scan; far = looked } in
    let same : key ≡ other = same_key key other h in
    let not_far : is_end_of shape actor p.operation other ≡ false = ap (is_end_of shape actor p.operation) (sym same) ∙ far in
    let looked = if is_end_of shape actor p.operation other then Some (is_number actor (irq_of found).act_by) else p.far in
    record {
      failed = p.failed;
      wants = p.wants;
      is = ap (λ scan. make scan looked) (ap (scan_looked shape other (irq_of found)) e ∙ sym e) ∙ ap (make p.scan) (far_kept (is_end_of shape actor p.operation other) (is_number actor (irq_of found).act_by) p.far not_far);
      less = λ h. h;
      only = λ h. h;
    }
trying_changes shape actor key (Touch other seen kind) found done p h e far =
    let kept = filter (λ one. not (is_same_key other one)) p.wants in
    record { failed = p.failed; wants = if done then kept else p.wants; is = refl; less = λ h. h; only = λ all. of done all }
  where
    of : (b : Bool) → IsTrue (list_all (is_same_key key) p.wants) → IsTrue (list_all (is_same_key key) (if b then filter (λ one. not (is_same_key other one)) p.wants else p.wants))
    of true all = fewer (λ one. not (is_same_key other one)) (is_same_key key) p.wants all
    of false all = all
trying_changes shape actor key (Want other) found done p h e far =
    record { failed = p.failed; wants = other ∷ p.wants; is = refl; less = λ h. h; only = λ all. ap (λ b. b && list_all (is_same_key key) p.wants) h ∙ all }
trying_changes shape actor key (Kick v) found done p h e far =
    record { failed = p.failed && not (v == actor); wants = p.wants; is = refl; less = left p.failed _; only = λ h. h }
trying_changes shape actor key _ found done p h e far = absurd (cc)

trying_free : (shape : GuestShape) (actor : ℕ) (p : Progress) (key : Key) (step : CoreStep) → IsTrue (is_trying key step) → IsFree shape actor p step
trying_free shape actor p key (Look (Irq other)) h = record { trap = refl; failed = refl; far = refl; refill = refl }
trying_free shape actor p key (Touch other seen kind) h = record { trap = refl; failed = refl; far = refl; refill = refl }
trying_free shape actor p key (Want other) h = record { trap = refl; failed = refl; far = refl; refill = refl }
trying_free shape actor p key (Kick vcpu) h = record { trap = refl; failed = refl; far = refl; refill = refl }
trying_free shape actor p key _ h = absurd (cc)

-- the protocol asks of it that the call names what it asks for, and that it goes by what is known
pub trying_proper : (seen : Seen) (p : Progress) (key : Key) (step : CoreStep) → IsTrue (is_trying key step) → IsTrue (goes_by_known seen step) → IsIdle seen p → IsNaming seen p key → IsProperStep (shape_of seen) seen.actor p step
trying_proper seen p key step trying known is naming =
    let shape = shape_of seen in
    let own : List Made → Type 0 = λ own. IsTrue (keeps_seen shape seen.actor (record p { own = own }) step) in
    let free = trying_free shape seen.actor p key step trying in
    record {
      scan = scan_free shape seen.actor p step (idle_is p.scan is.scan);
      trap = free.trap;
      failed = free.failed;
      far = free.far;
      refill = free.refill;
      want = trying_want step trying;
      seen = subst own (sym is.own) known;
    }
  where
    named : IsTrue (option_map_or (λ operation. may_name (shape_of seen) seen.actor p.own operation key) p.operation false)
    named =
        let Named : List Made → Type 0 = λ own. IsTrue (option_map_or (λ operation. may_name (shape_of seen) seen.actor own operation key) p.operation false) in
        subst Named (append-nil seen.own ∙ sym is.own) (naming.names_it [] refl refl)

    trying_want : (step : CoreStep) → IsTrue (is_trying key step) → IsTrue (keeps_want (shape_of seen) seen.actor p step)
    trying_want (Want other) h =
        let Named : Key → Type 0 = λ key. IsTrue (option_map_or (λ operation. may_name (shape_of seen) seen.actor p.own operation key) p.operation false) in
        subst Named (same_key key other h) named
    trying_want (Look (Irq other)) h = refl
    trying_want (Touch other seen kind) h = refl
    trying_want (Kick vcpu) h = refl
    trying_want _ h = absurd (cc)

-- an actor after it
trying_stepped : (shape : GuestShape) (actor : ℕ) (key : Key) (made : Made) (p : Progress) → IsTrue (is_trying key made.step) → p.scan ≡ idle → is_end_of shape actor p.operation key ≡ false
    → ChangesAsked key (record p { local = local_after shape actor p.local made.step made.found; own = p.own ++ made ∷ [] }) (stepped shape actor made p)
trying_stepped shape actor key made p trying e far =
    let done = succeeds shape actor p.local made.step made.found in
    let changed = trying_changes shape actor key made.step made.found done p trying e far in
    let local = local_after shape actor p.local made.step made.found in
    let own = p.own ++ made ∷ [] in
    let q : Progress = record p { failed = changed.failed; wants = changed.wants; local = local; own = own } in
    let on : scan_on shape actor q ≡ q = idle_on shape actor q e in
    record {
      failed = changed.failed;
      wants = changed.wants;
      is = ap (λ r. scan_on shape actor (record r { local = local; own = own })) changed.is ∙ on;
      less = changed.less;
      only = changed.only;
    }

-- Parts.

pub about_append : (key : Key) (early late : List Made) → IsTrue (are_about key early) → IsTrue (are_about key late) → IsTrue (are_about key (early ++ late))
about_append key early late one two =
    ap (list_all (is_about key)) (map-append (λ made. made.step) early late) ∙ list_all-append (is_about key) (steps_of early) (steps_of late) ∙ both (are_about key early) (are_about key late) one two
  where
    both : (a b : Bool) → IsTrue a → IsTrue b → (a && b) ≡ true
    both true true h k = refl
    both true false h k = absurd (cc)
    both false b h k = absurd (cc)

pub none_append : (early late : List Made) → IsTrue (takes_none early) → IsTrue (takes_none late) → IsTrue (takes_none (early ++ late))
none_append early late one two = list_all-append (λ made. is_none made.tables) early late ∙ both (takes_none early) (takes_none late) one two
  where
    both : (a b : Bool) → IsTrue a → IsTrue b → (a && b) ≡ true
    both true true h k = refl
    both true false h k = absurd (cc)
    both false b h k = absurd (cc)

stays_asking : (key : Key) (p q r : Progress) → StaysAsking key p q → StaysAsking key q r → StaysAsking key p r
stays_asking key p q r one two =
    let back : Progress → Progress = λ s. record s { local = p.local; own = p.own; failed = p.failed; wants = p.wants } in
    record { same = ap back two.same ∙ one.same; failed = λ h. one.failed (two.failed h); wants = λ h. two.wants (one.wants h) }

pub try_nil : (seen : Seen) (key : Key) → IsTry seen key []
try_nil seen key p is naming =
    record {
      proper = tt;
      stays = record { same = refl; failed = λ h. h; wants = λ h. h };
      ends = record { local = is.local; own = is.own ∙ sym (append-nil seen.own); scan = is.scan };
    }

-- the call still names the interrupt after a part about it
pub naming_on : (seen : Seen) (p q : Progress) (key : Key) (part : List Made) → IsTrue (are_about key part) → IsTrue (takes_none part) → q.operation ≡ p.operation → IsNaming seen p key → IsNaming (seen_after seen part) q key
naming_on seen p q key part about none same naming =
    let shape = shape_of seen in
    record {
      names_it = λ later about' none'.
          let Named : List Made → Type 0 = λ own. IsTrue (option_map_or (λ operation. may_name shape seen.actor own operation key) q.operation false) in
          let By : Option Operation → Type 0 = λ operation. IsTrue (option_map_or (λ operation. may_name shape seen.actor (seen.own ++ (part ++ later)) operation key) operation false) in
          subst Named (sym (append_assoc seen.own part later)) (subst By (sym same) (naming.names_it (part ++ later) (about_append key part later about about') (none_append part later none none')));
      ends_other = ap (λ operation. is_end_of shape seen.actor operation key) same ∙ naming.ends_other;
    }

pub try_cons : (seen : Seen) (key : Key) (made : Made) (part : List Made) → IsTrue (is_trying key made.step) → IsTrue (is_none made.tables) → IsTrue (goes_by_known seen made.step) → IsTry (seen_after seen (made ∷ [])) key part → IsTry seen key (made ∷ part)
try_cons seen key made part trying none known later p is naming =
    let shape = shape_of seen in
    let scan = idle_is p.scan is.scan in
    let q = stepped shape seen.actor made p in
    let after = trying_stepped shape seen.actor key made p trying scan naming.ends_other in
    let back : Progress → Progress = λ s. record s { local = p.local; own = p.own; failed = p.failed; wants = p.wants } in
    let stays : StaysAsking key p q = record { same = ap back after.is; failed = λ h. after.less (ap (λ r. r.failed) (sym after.is) ∙ h); wants = λ h. ap (λ r. list_all (is_same_key key) r.wants) after.is ∙ after.only h } in
    let idle_so : IsIdle (seen_after seen (made ∷ [])) q = record {
      local = ap (λ r. r.local) after.is ∙ ap (λ local. local_after shape seen.actor local made.step made.found) is.local;
      own = ap (λ r. r.own) after.is ∙ ap (λ own. own ++ made ∷ []) is.own;
      scan = ap (λ r. is_idle r.scan) after.is ∙ is.scan;
    } in
    let naming_so = naming_on seen p q key (made ∷ []) (one_about made.step trying) (one_none none) (ap (λ r. r.operation) after.is) naming in
    let rest = later q idle_so naming_so in
    let Ends : Seen → Type 0 = λ told. IsIdle told (progress_of shape seen.actor p (map makes (made ∷ part))) in
    record {
      proper = (trying_proper seen p key made.step trying known is naming, rest.proper);
      stays = stays_asking key p q (progress_of shape seen.actor p (map makes (made ∷ part))) stays rest.stays;
      ends = subst Ends (sym (seen_joins seen (made ∷ []) part)) rest.ends;
    }
  where
    one_about : (step : CoreStep) → IsTrue (is_trying key step) → IsTrue (is_about key step && true)
    one_about (Look (Irq other)) h = ap (λ b. b && true) h
    one_about (Touch other seen kind) h = ap (λ b. b && true) h
    one_about (Want other) h = ap (λ b. b && true) h
    one_about (Kick vcpu) h = refl
    one_about _ h = absurd (cc)

    one_none : IsTrue (is_none made.tables) → IsTrue (is_none made.tables && true)
    one_none h = ap (λ b. b && true) h

-- two tries, one after the other
pub try_joins : (seen : Seen) (key : Key) (early late : List Made) → IsTrue (are_about key early) → IsTrue (takes_none early) → IsTry seen key early → IsTry (seen_after seen early) key late → IsTry seen key (early ++ late)
try_joins seen key early late about none one two p is naming =
    let shape = shape_of seen in
    let first = one p is naming in
    let q = progress_of shape seen.actor p (map makes early) in
    let second = two q first.ends (naming_on seen p q key early about none (ap (λ r. r.operation) first.stays.same) naming) in
    let acts = map-append makes early late in
    let along : progress_of shape seen.actor p (map makes (early ++ late)) ≡ progress_of shape seen.actor q (map makes late)
    = ap (progress_of shape seen.actor p) acts ∙ fold-append (progressed shape seen.actor) p (map makes early) (map makes late) in
    let Ends : Seen → Type 0 = λ told. IsIdle told (progress_of shape seen.actor p (map makes (early ++ late))) in
    record {
      proper = subst (IsProper shape seen.actor p) (sym acts) ((proper_append shape seen.actor p (map makes early) (map makes late)).1 (first.proper, second.proper));
      stays = subst (StaysAsking key p) (sym along) (stays_asking key p q (progress_of shape seen.actor q (map makes late)) first.stays second.stays);
      ends = subst Ends (sym (seen_joins seen early late)) (subst (IsIdle (seen_after (seen_after seen early) late)) (sym along) second.ends);
    }
