-- What was chosen for a list register is claimed, and its causes are taken.
use Rattle.std.proofs.Common.{◌≡◌, ◌≢◌, ℕ, ◌<◌, nat_lt, length, arith, ◌⊎◌, inl, inr, ◌==◌, ◌&&◌, ◌||◌, not, Bool, true, false, if◌then◌else◌, IsTrue, List, [], ◌∷◌, ◌++◌, map, Some, None, option_to_list, append-nil, refl, sym, ap, subst, ◌∙◌}
use Rattle.std.specs.List.{cons_option}
use Rattle.std.specs.Option.{option_map}
use Rattle.std.proofs.lemmas.List.Sums.{fold-append}
use Rattle.port_call.specs.Words.{Key, GuestShape, has_interrupt, is_of_vcpu, IsShape, Irq as IrqRecord, is_number, IsIrq, irq_of, packed}
use Rattle.port_call.specs.Lists.{IchRegs, LrState, Invalid, Pending, Active, Both, offer_of, is_deliverable_once_inactive, Choice}
use Rattle.port_call.specs.Registers.{CpuRec}
use Rattle.vcpu_state.proofs.GicWord.WordLemmas.{irq_fits}
use Rattle.port_call.proofs.PortCore.StepWords.{packed_is}
use Rattle.port_call.specs.Core.{IsIrqWord, AtIrq, Local, Made, Claim, Irq, claimed_at, claimed_irq, may_move, is_on, known, entry_for, is_vcpu, settled, Seen, IsPort, Adds, CanMake, left_by, made_by, shape_of, seen_after, part_events, claim_event, makes, Progress, claim_left, progressed, progress_of, IsProper, without_take, Scan, claiming, ended_scan, has_key, is_both, key_of_both, tried}
use Rattle.std.specs.Option.{option_map_or}
use Rattle.std.proofs.lemmas.Bool.{ltb-true}
use Rattle.port_call.proofs.PortCore.PortLemmas.{adds_join}
use Rattle.port_call.proofs.CoreProper.PartLemmas.{proper_append}
use Rattle.port_call.specs.Piece.{takes_none}
use Rattle.port_call.proofs.KnownLemmas.{known_kept, places_apart}
use Rattle.port_call.proofs.MemoryLemmas.{on_own}
use Rattle.port_call.proofs.SettleLemmas.{handed_none}
use Rattle.port_call.proofs.TryLemmas.{none_append}
use Rattle.port_call.proofs.TurnLemmas.{known_by_last}
use Rattle.pe_loop.specs.declared.claims.Claimed.TheVariants.{Whole, Bare, Missed}
use Rattle.pe_loop.specs.declared.claims.Claimed.{Claimed}
use Rattle.pe_loop.specs.Claiming.{Claims, IsRight, IsClaimable, IsTakeable, TakesCauses, held_irq, choice_left, at_of, regs_left, is_whole, IsNoneOf, claims_by, ClaimsChosen}
use Rattle.pe_loop.specs.Counting.{are_quiet}
use Rattle.pe_loop.specs.Moves.{are_moves}
use Rattle.pe_loop.specs.Scanning.{told_by}
use Rattle.pe_loop.specs.Steps.{all_are, all_hit, is_claim}
use Rattle.pe_loop.proofs.CountLemmas.{quiet_append}
use Rattle.pe_loop.proofs.MoveLemmas.{claim_moves, moves_join}
use Rattle.pe_loop.proofs.StepLemmas.{and_one, are_append, hit_append}
use Rattle.pe_loop.proofs.ClaimLemmas.{claim_proper, claim_stepped, ended_more, first_left, first_tried, has_first, has_none, take_left, take_tried}
use Rattle.port_call.proofs.CoreProper.ReachLemmas.{entry_added, reached_local}
use Rattle.pe_loop.proofs.ReachLemmas.{bare_of, active_reached, may_take_causes, reached_irq, taken_local, whole_reached}

-- A claim.

-- what a claim leaves besides what it was for
pub record Tried (old new : Seen) (key : Key) (irq : IrqRecord) (done : Bool) : Type 0 where
  pub made : Made
  pub adds : Adds old new (made ∷ [])
  pub none_taken : IsTrue (takes_none (made ∷ []))
  pub quiet : IsTrue (are_quiet (made ∷ []))
  pub steps_are : IsTrue (all_are is_claim (made ∷ []))
  pub hit : done ≡ all_hit (made ∷ [])
  pub moves : IsTrue (are_moves old.actor (part_events old (made ∷ [])))
  pub others : (other : Key) → IsTrue (has_interrupt (shape_of old) other) → other ≢ key → known (shape_of old) old.actor new.own (Irq other) ≡ known (shape_of old) old.actor old.own (Irq other)
  pub local : new.local ≡ (if done then claimed_at (shape_of old) old.actor key irq old.local else old.local)
  pub knows : done ≡ true → known (shape_of old) old.actor new.own (Irq key) ≡ Some (packed (claimed_irq old.actor old.local key irq))
  pub proper :
      (claims takes : List Key) (regs : IchRegs) (trapping failed : Bool) (p : Progress) → (has_key key claims || has_key key takes) ≡ true → known (shape_of old) old.actor old.own (Irq key) ≡ Some (packed irq)
      → IsProper (shape_of old) old.actor (record (told_by old p) { scan = claiming claims takes; regs = regs; trapping = trapping; failed = failed }) (map makes (made ∷ []))
  pub goes_on :
      (claims takes : List Key) (regs : IchRegs) (trapping failed : Bool) (p : Progress)
      → progress_of (shape_of old) old.actor (record (told_by old p) { scan = claiming claims takes; regs = regs; trapping = trapping; failed = failed }) (map makes (made ∷ []))
      ≡ record (told_by new p) { scan = ended_scan new.local (tried key done (claiming claims takes)); regs = claim_left key done claims regs; trapping = trapping; failed = failed || not done }

pub tries : (old new : Seen) (key : Key) (irq : IrqRecord) (done : Bool) → IsShape (shape_of old) → IsTrue (has_interrupt (shape_of old) key) → Claims old new key irq done → Tried old new key irq done
tries old new key irq done good there claims =
    let shape = shape_of old in
    let actor = old.actor in
    let step = Claim key (packed irq) in
    let found = claims.found in
    let add = claims.adds in
    let made = made_by old step found add.tables in
    record {
      made = made;
      adds = add.adds;
      none_taken = ap (λ b. b && true) (handed_none step found old add.tables refl add.handed);
      quiet = refl;
      steps_are = refl;
      hit = claims.hit ∙ sym (and_one (found == packed irq));
      moves = ap (λ b. are_moves actor (option_to_list (if b then claim_event actor key old.local else None) ++ [])) claims.done_is ∙ claim_moves actor key old.local done;
      others = λ other is differ.
          let off : is_on shape actor (Irq other) made ≡ false = places_apart shape (Irq key) (Irq other) good there is (λ e. differ (sym (key_is key other e))) in
          ap (λ seen. known shape actor seen.own (Irq other)) add.adds.new_is
          ∙ known_kept shape actor (Irq other) old.own (made ∷ []) (ap (λ b. (if b then false else true) && true) off);
      local =
          ap (λ seen. seen.local) add.adds.new_is
          ∙ ap (λ b. if b then claimed_at shape actor key (irq_of found) old.local else old.local) claims.done_is
          ∙ local_by done claims.found_is;
      knows = λ e.
          ap (λ seen. known shape actor seen.own (Irq key)) add.adds.new_is
          ∙ known_by_last shape actor old.own made (Irq key) (on_own shape actor (Irq key) made refl)
          ∙ ap (λ b. Some (if b then packed (claimed_irq actor old.local key (irq_of found)) else found)) (claims.done_is ∙ e)
          ∙ ap (λ irq. Some (packed (claimed_irq actor old.local key irq))) (claims.found_is e);
      proper = λ here takes regs trapping failed p has knows. (claim_proper shape actor (record (told_by old p) { scan = claiming here takes; regs = regs; trapping = trapping; failed = failed }) key (packed irq) here takes refl has knows, tt);
      goes_on = claim_stepped old new key (packed irq) found add done claims.done_is;
    }
  where
    key_is : (one other : Key) → Irq one ≡ Irq other → one ≡ other
    key_is one other e = cc

    local_by : (done : Bool) → (done ≡ true → irq_of claims.found ≡ irq)
        → (if done then claimed_at (shape_of old) old.actor key (irq_of claims.found) old.local else old.local) ≡ (if done then claimed_at (shape_of old) old.actor key irq old.local else old.local)
    local_by true is = ap (λ irq. claimed_at (shape_of old) old.actor key irq old.local) (is refl)
    local_by false is = refl

-- What was chosen.

is_both_of : (choice : Choice) → choice.entry.state ≢ Both → is_both choice.entry.state ≡ false
is_both_of choice differ = of choice.entry.state differ
  where
    of : (state : LrState) → state ≢ Both → is_both state ≡ false
    of Invalid n = refl
    of Pending n = refl
    of Active n = refl
    of Both n = absurd (n refl)

free_first : (key : Key) (claims takes : List Key) → (has_key key (key ∷ claims) || has_key key takes) ≡ true
free_first key claims takes = ap (λ b. b || has_key key takes) (has_first key claims)

-- it was missed
pub chosen_missed : (old new : Seen) (choice : Choice) → IsShape (shape_of old) → IsClaimable old choice → Claims old new choice.key choice.irq false → ClaimsChosen old new choice Missed
chosen_missed old new choice good can claims =
    let key = choice.key in
    let it = tries old new key choice.irq false good can.found.there claims in
    let back : Local → Local = λ local. record local { at = old.local.at; cands = old.local.cands } in
    record {
      part = it.made ∷ [];
      adds = it.adds;
      none_taken = it.none_taken;
      quiet = it.quiet;
      steps_are = it.steps_are;
      whole_is = it.hit;
      moves = it.moves;
      same = ap back it.local;
      at = ap (λ local. local.at) it.local ∙ sym (append-nil old.local.at);
      bare = λ e. absurd (cc);
      others = it.others;
      proper = λ here takes regs trapping failed p none nothing. it.proper (key ∷ here) (cons_option (key_of_both choice) takes) regs trapping failed p (free_first key here (cons_option (key_of_both choice) takes)) can.found.known_as;
      goes_on = λ here takes regs trapping failed p none nothing.
          let make : Scan → IchRegs → Progress = λ scan regs. record (told_by new p) { scan = ended_scan new.local scan; regs = regs; trapping = trapping; failed = failed || true } in
          it.goes_on (key ∷ here) (cons_option (key_of_both choice) takes) regs trapping failed p
          ∙ ap (λ scan. make scan (claim_left key false (key ∷ here) regs)) (first_tried key false (is_both choice.entry.state) here takes none nothing)
          ∙ ap (make (claiming here takes)) (first_left key false here regs);
    }

-- it came whole, with State 1 or 2
pub chosen_whole : (old new : Seen) (choice : Choice) → IsShape (shape_of old) → IsClaimable old choice → choice.entry.state ≢ Both → Claims old new choice.key choice.irq true → ClaimsChosen old new choice Whole
chosen_whole old new choice good can not_both claims =
    let shape = shape_of old in
    let key = choice.key in
    let it = tries old new key choice.irq true good can.found.there claims in
    let local : new.local ≡ record old.local { cands = settled shape old.actor key old.local.cands; at = old.local.at ++ at_of choice ∷ [] }
    = it.local ∙ reached_local shape old.actor key choice.irq old.local can.free
    ∙ ap (λ entry. record old.local { cands = settled shape old.actor key old.local.cands; at = old.local.at ++ entry ∷ [] }) (whole_reached shape old.actor old.local.cpu choice can.right not_both) in
    let back : Local → Local = λ local. record local { at = old.local.at; cands = old.local.cands } in
    record {
      part = it.made ∷ [];
      adds = it.adds;
      none_taken = it.none_taken;
      quiet = it.quiet;
      steps_are = it.steps_are;
      whole_is = it.hit;
      moves = it.moves;
      same = ap back local;
      at = ap (λ local. local.at) local;
      bare = λ e. absurd (cc);
      others = it.others;
      proper = λ here takes regs trapping failed p none nothing. it.proper (key ∷ here) (cons_option (key_of_both choice) takes) regs trapping failed p (free_first key here (cons_option (key_of_both choice) takes)) can.found.known_as;
      goes_on = λ here takes regs trapping failed p none nothing.
          let make : Scan → IchRegs → Progress = λ scan regs. record (told_by new p) { scan = ended_scan new.local scan; regs = regs; trapping = trapping; failed = failed || false } in
          it.goes_on (key ∷ here) (cons_option (key_of_both choice) takes) regs trapping failed p
          ∙ ap (λ scan. make scan (claim_left key true (key ∷ here) regs)) (first_tried key true (is_both choice.entry.state) here takes none nothing)
          ∙ ap (λ both. make (claiming here (cons_option (if both then Some key else None) takes)) regs) (is_both_of choice not_both);
    }

-- What was chosen with State 3: it came active, and then its causes or not.

active_of : (choice : Choice) (vcpu : ℕ) (cpu : CpuRec) (shape : GuestShape) → choice.entry.state ≡ Both → IsRight shape vcpu cpu choice → IsTrue (is_number vcpu choice.irq.act_by)
active_of choice vcpu cpu shape both right =
    elim right.state [
      | inl pending ↦ absurd (differ (sym pending.0 ∙ both))
      | inr active ↦ active.1
    ]
  where
    differ : Pending ≡ Both → ⊥
    differ e = cc

-- it came active
pub record CameActive (old mid : Seen) (choice : Choice) : Type 0 where
  pub tried : Tried old mid choice.key choice.irq true
  pub local : mid.local ≡ record old.local { cands = settled (shape_of old) old.actor choice.key old.local.cands; at = old.local.at ++ bare_of choice ∷ [] }
  pub knows : known (shape_of old) old.actor mid.own (Irq choice.key) ≡ Some (packed (record choice.irq { holder = Some old.actor }))

pub came_active : (old mid : Seen) (choice : Choice) → IsShape (shape_of old) → IsClaimable old choice → choice.entry.state ≡ Both → Claims old mid choice.key choice.irq true → CameActive old mid choice
came_active old mid choice good can both claims =
    let shape = shape_of old in
    let key = choice.key in
    let it = tries old mid key choice.irq true good can.found.there claims in
    let active = active_of choice old.actor old.local.cpu shape both can.right in
    record {
      tried = it;
      local =
          it.local ∙ reached_local shape old.actor key choice.irq old.local can.free
          ∙ ap (λ entry. record old.local { cands = settled shape old.actor key old.local.cands; at = old.local.at ++ entry ∷ [] }) (active_reached old.actor choice active);
      knows = it.knows refl ∙ ap (λ irq. Some (packed irq)) (reached_irq old.actor old.local key choice.irq can.free active);
    }

-- its causes may be taken
pub takeable : (old mid : Seen) (choice : Choice) → IsPort old → IsClaimable old choice → choice.entry.state ≡ Both → Claims old mid choice.key choice.irq true → IsTakeable mid choice
takeable old mid choice port can both claims =
    let shape = shape_of old in
    let key = choice.key in
    let came = came_active old mid choice port.good.sound.shape can both claims in
    let is = came.tried.adds.new_is in
    let active = active_of choice old.actor old.local.cpu shape both can.right in
    let held : IrqRecord = held_irq old.actor choice in
    let word_is : left_by old (Claim key (packed choice.irq)) claims.found ≡ packed held
    = ap (λ b. if b then packed (claimed_irq old.actor old.local key (irq_of claims.found)) else claims.found) claims.done_is
    ∙ ap (λ irq. packed (claimed_irq old.actor old.local key irq)) (claims.found_is refl)
    ∙ ap packed (reached_irq old.actor old.local key choice.irq can.free active) in
    let fits : IsIrq choice.irq = subst IsIrq can.found.record_is (irq_fits (packed choice.irq) can.found.word.word_is) in
    let few : old.actor < 32 = below shape old.actor port.good.sound.shape can.vcpu in
    let By : Seen → Type 0 = λ seen. IsTakeable (record seen { local = mid.local; own = mid.own }) choice in
    let whole : By (seen_after old (came.tried.made ∷ []))
    = record {
      vcpu = can.vcpu;
      own = can.found.own;
      there = can.found.there;
      word = subst (IsIrqWord shape key) word_is claims.left;
      record_is = packed_is held (record { prio = fits.prio; prio_bits = fits.prio_bits; active = fits.active; holder = few; route = fits.route });
      known_as = came.knows;
      before = old.local.at;
      at = ap (λ local. local.at) came.local;
      free = can.free;
      state = both;
      deliverable = subst (λ cpu. IsTrue (is_deliverable_once_inactive old.actor cpu shape (offer_of choice))) (sym (ap (λ local. local.cpu) came.local)) (can.right.both both);
    } in
    subst By (sym is) whole
  where
    below : (shape : GuestShape) (vcpu : ℕ) → IsShape shape → is_vcpu shape vcpu ≡ true → vcpu < 32
    below shape vcpu good e = let less : vcpu < shape.vcpus = ltb-true vcpu shape.vcpus e in let most = good.vcpus in omega (arith, less, most)

-- The take.

pub takes_so : (old new : Seen) (choice : Choice) (vcpu : ℕ) (done : Bool) → vcpu ≡ old.actor → Claims old new choice.key (record choice.irq { holder = Some vcpu }) done → TakesCauses old new choice (if done then Whole else Bare)
takes_so old new choice vcpu done is claims =
    let By : ℕ → Type 0 = λ vcpu. Claims old new choice.key (held_irq vcpu choice) done in
    record { done = done; claims = subst By is claims; claimed_is = refl }

can_take_at : (old : Seen) (choice : Choice) (take : IsTakeable old choice) → entry_for choice.key old.local.at ≡ Some (bare_of choice)
can_take_at old choice take = ap (entry_for choice.key) take.at ∙ entry_added choice.key take.before (bare_of choice) refl take.free

pub can_take : (old : Seen) (choice : Choice) (vcpu : ℕ) → vcpu ≡ old.actor → IsTakeable old choice → CanMake old (Claim choice.key (packed (held_irq vcpu choice)))
can_take old choice vcpu is take =
    subst (λ vcpu. CanMake old (Claim choice.key (packed (held_irq vcpu choice)))) (sym is) (record {
      can = ap (λ b. b && is_of_vcpu old.actor choice.key && has_interrupt (shape_of old) choice.key) take.vcpu ∙ ap (λ b. b && has_interrupt (shape_of old) choice.key) take.own ∙ take.there;
      seen_is = take.word;
      meets = ap (λ o. option_map_or (λ entry. not entry.given) o (nat_lt (length old.local.at) 16)) (can_take_at old choice take);
      tables = refl;
    })

pub may_take_it : (old : Seen) (choice : Choice) (vcpu : ℕ) → vcpu ≡ old.actor → IsTakeable old choice → may_move (shape_of old) old.actor old.local choice.key (held_irq vcpu choice) ≡ true
may_take_it old choice vcpu is take =
    ap (λ vcpu. may_move (shape_of old) old.actor old.local choice.key (held_irq vcpu choice)) is
    ∙ may_take_causes (shape_of old) old.actor choice old.local take.before take.at take.free take.deliverable

pub held_fits : (old : Seen) (choice : Choice) (vcpu : ℕ) → vcpu ≡ old.actor → IsTakeable old choice → IsIrq (held_irq vcpu choice)
held_fits old choice vcpu is take =
    subst (λ vcpu. IsIrq (held_irq vcpu choice)) (sym is) (subst IsIrq take.record_is (irq_fits (packed (held_irq old.actor choice)) take.word.word_is))

-- Both.

taken_at : (before : List AtIrq) (choice : Choice) (mid new : Local) (shape : GuestShape) (actor : ℕ) (done : Bool) → mid.at ≡ before ++ bare_of choice ∷ [] → entry_for choice.key before ≡ None → choice.entry.state ≡ Both
    → new ≡ (if done then claimed_at shape actor choice.key (held_irq actor choice) mid else mid)
    → (record new { cands = mid.cands; at = mid.at } ≡ mid) × (new.at ≡ before ++ option_to_list (option_map at_of (choice_left (if done then Whole else Bare) choice)))
taken_at before choice mid new shape actor true at free both is =
    let back : Local → Local = λ local. record local { cands = mid.cands; at = mid.at } in
    let local = is ∙ taken_local shape actor choice (held_irq actor choice) mid before at free both refl in
    (ap back local, ap (λ local. local.at) local)
taken_at before choice mid new shape actor false at free both is =
    let back : Local → Local = λ local. record local { cands = mid.cands; at = mid.at } in
    (ap back is, ap (λ local. local.at) is ∙ at)

-- what comes of the take in the protocol
record TakenOn (old new : Seen) (choice : Choice) (done : Bool) (part : List Made) : Type 0 where
  proper :
      (claims takes : List Key) (regs : IchRegs) (trapping failed : Bool) (p : Progress) → IsNoneOf choice.key claims → IsNoneOf choice.key takes
      → IsProper (shape_of old) old.actor (claims_by old claims (choice.key ∷ takes) regs trapping failed p) (map makes part)
  goes_on :
      (claims takes : List Key) (regs : IchRegs) (trapping failed : Bool) (p : Progress) → IsNoneOf choice.key claims → IsNoneOf choice.key takes
      → progress_of (shape_of old) old.actor (claims_by old claims (choice.key ∷ takes) regs trapping failed p) (map makes part)
      ≡ claims_by new claims takes (if done then regs else without_take choice.key regs) trapping (failed || not done) p

taken_on : (old new : Seen) (choice : Choice) (done : Bool) (it : Tried old new choice.key (held_irq old.actor choice) done) → known (shape_of old) old.actor old.own (Irq choice.key) ≡ Some (packed (held_irq old.actor choice)) → TakenOn old new choice done (it.made ∷ [])
taken_on old new choice done it knows =
    let key = choice.key in
    let shape = shape_of old in
    let actor = old.actor in
    record {
      proper = λ here takes regs trapping failed p none nothing.
          let By : Scan → Type 0 = λ scan. IsProper shape actor (record (told_by old p) { scan = scan; regs = regs; trapping = trapping; failed = failed }) (map makes (it.made ∷ [])) in
          subst By (sym (ended_more old.local key here takes))
          (it.proper here (key ∷ takes) regs trapping failed p (ap (λ b. b || has_key key (key ∷ takes)) (has_none key here none) ∙ has_first key takes) knows);
      goes_on = λ here takes regs trapping failed p none nothing.
          let from : Scan → Progress = λ scan. progress_of shape actor (record (told_by old p) { scan = scan; regs = regs; trapping = trapping; failed = failed }) (map makes (it.made ∷ [])) in
          let make : Scan → IchRegs → Progress = λ scan regs. record (told_by new p) { scan = ended_scan new.local scan; regs = regs; trapping = trapping; failed = failed || not done } in
          ap from (ended_more old.local key here takes)
          ∙ it.goes_on here (key ∷ takes) regs trapping failed p
          ∙ ap (λ scan. make scan (claim_left key done here regs)) (take_tried key done here takes none nothing)
          ∙ ap (make (claiming here takes)) (take_left key done here regs none);
    }

-- the claim, and what comes of it in the protocol
came_on : (old mid : Seen) (choice : Choice) (came : CameActive old mid choice) → choice.entry.state ≡ Both
    → (claims takes : List Key) (regs : IchRegs) (trapping failed : Bool) (p : Progress) → IsNoneOf choice.key claims → IsNoneOf choice.key takes
    → progress_of (shape_of old) old.actor (claims_by old (choice.key ∷ claims) (cons_option (key_of_both choice) takes) regs trapping failed p) (map makes (came.tried.made ∷ []))
    ≡ claims_by mid claims (choice.key ∷ takes) regs trapping failed p
came_on old mid choice came both here takes regs trapping failed p none nothing =
    let key = choice.key in
    let make : Scan → Bool → Progress = λ scan failed. record (told_by mid p) { scan = ended_scan mid.local scan; regs = regs; trapping = trapping; failed = failed } in
    came.tried.goes_on (key ∷ here) (cons_option (key_of_both choice) takes) regs trapping failed p
    ∙ ap (λ scan. make scan (failed || false)) (first_tried key true (is_both choice.entry.state) here takes none nothing)
    ∙ ap (λ state. make (claiming here (cons_option (if is_both state then Some key else None) takes)) (failed || false)) both
    ∙ ap (make (claiming here (key ∷ takes))) (or_false failed)
  where
    or_false : (b : Bool) → (b || false) ≡ b
    or_false true = refl
    or_false false = refl

pub chosen_both : (old mid new : Seen) (choice : Choice) (claimed : Claimed) → IsPort old → IsClaimable old choice → choice.entry.state ≡ Both → Claims old mid choice.key choice.irq true → TakesCauses mid new choice claimed → ClaimsChosen old new choice claimed
chosen_both old mid new choice claimed port can both claims takes =
    let shape = shape_of old in
    let actor = old.actor in
    let key = choice.key in
    let done = takes.done in
    let came = came_active old mid choice port.good.sound.shape can both claims in
    let first = came.tried in
    let is = first.adds.new_is in
    let shape_is : shape_of mid ≡ shape = ap shape_of is in
    let actor_is : mid.actor ≡ actor = ap (λ seen. seen.actor) is in
    let good_mid : IsShape (shape_of mid) = subst IsShape (sym shape_is) port.good.sound.shape in
    let there_mid : IsTrue (has_interrupt (shape_of mid) key) = ap (λ shape. has_interrupt shape key) shape_is ∙ can.found.there in
    let second = tries mid new key (held_irq mid.actor choice) done good_mid there_mid takes.claims in
    let knows : known (shape_of mid) mid.actor mid.own (Irq key) ≡ Some (packed (held_irq mid.actor choice))
    = ap (λ seen. known (shape_of seen) seen.actor mid.own (Irq key)) is ∙ came.knows ∙ ap (λ actor. Some (packed (held_irq actor choice))) (sym actor_is) in
    let on = taken_on mid new choice done second knows in
    let state = taken_at old.local.at choice mid.local new.local (shape_of mid) mid.actor done (ap (λ local. local.at) came.local) can.free both second.local in
    let back : Local → Local = λ local. record local { at = old.local.at; cands = old.local.cands } in
    let Chosen : Claimed → Type 0 = λ claimed. ClaimsChosen old new choice claimed in
    subst Chosen (sym takes.claimed_is) (record {
      part = first.made ∷ second.made ∷ [];
      adds = adds_join old mid new (first.made ∷ []) (second.made ∷ []) first.adds second.adds;
      none_taken = none_append (first.made ∷ []) (second.made ∷ []) first.none_taken second.none_taken;
      quiet = quiet_append (first.made ∷ []) (second.made ∷ []) first.quiet second.quiet;
      steps_are = are_append is_claim (first.made ∷ []) (second.made ∷ []) first.steps_are second.steps_are;
      whole_is = whole_where done ∙ second.hit ∙ ap (λ b. b && all_hit (second.made ∷ [])) first.hit ∙ sym (hit_append (first.made ∷ []) (second.made ∷ []));
      moves = moves_join old mid (first.made ∷ []) (second.made ∷ []) first.adds first.moves second.moves;
      same = ap back state.0 ∙ ap back came.local;
      at = state.1;
      bare = λ e. both;
      others = λ other is_there differ.
          ap (λ seen. known (shape_of seen) seen.actor new.own (Irq other)) (sym is)
          ∙ second.others other (ap (λ shape. has_interrupt shape other) shape_is ∙ is_there) differ
          ∙ ap (λ seen. known (shape_of seen) seen.actor mid.own (Irq other)) is
          ∙ first.others other is_there differ;
      proper = λ here takes regs trapping failed p none nothing.
          let q = claims_by old (key ∷ here) (cons_option (key_of_both choice) takes) regs trapping failed p in
          let Late : Progress → Type 0 = λ q. IsProper shape actor q (map makes (second.made ∷ [])) in
          let late : Late (claims_by mid here (key ∷ takes) regs trapping failed p)
          = subst (λ seen. IsProper (shape_of seen) seen.actor (claims_by mid here (key ∷ takes) regs trapping failed p) (map makes (second.made ∷ []))) is (on.proper here takes regs trapping failed p none nothing) in
          (proper_append shape actor q (map makes (first.made ∷ [])) (map makes (second.made ∷ []))).1 (
            first.proper (key ∷ here) (cons_option (key_of_both choice) takes) regs trapping failed p (free_first key here (cons_option (key_of_both choice) takes)) can.found.known_as,
            subst Late (sym (came_on old mid choice came both here takes regs trapping failed p none nothing)) late,
          );
      goes_on = λ here takes regs trapping failed p none nothing.
          let q = claims_by old (key ∷ here) (cons_option (key_of_both choice) takes) regs trapping failed p in
          fold-append (progressed shape actor) q (map makes (first.made ∷ [])) (map makes (second.made ∷ []))
          ∙ ap (λ q. progress_of shape actor q (map makes (second.made ∷ []))) (came_on old mid choice came both here takes regs trapping failed p none nothing)
          ∙ ap (λ seen. progress_of (shape_of seen) seen.actor (claims_by mid here (key ∷ takes) regs trapping failed p) (map makes (second.made ∷ []))) (sym is)
          ∙ on.goes_on here takes regs trapping failed p none nothing
          ∙ by_done done here takes regs trapping failed p;
    })
  where
    whole_where : (done : Bool) → is_whole (if done then Whole else Bare) ≡ done
    whole_where true = refl
    whole_where false = refl

    by_done : (done : Bool) (here takes : List Key) (regs : IchRegs) (trapping failed : Bool) (p : Progress)
        → claims_by new here takes (if done then regs else without_take choice.key regs) trapping (failed || not done) p
        ≡ claims_by new here takes (regs_left (if done then Whole else Bare) choice.key regs) trapping (failed || not (is_whole (if done then Whole else Bare))) p
    by_done true here takes regs trapping failed p = refl
    by_done false here takes regs trapping failed p = refl

pub other_state : (state : LrState) → (state ≡ Invalid) ⊎ ((state ≡ Pending) ⊎ (state ≡ Active)) → state ≢ Both
other_state state (inl is) e = absurd (let same : Invalid ≡ Both = sym is ∙ e in cc)
other_state state (inr (inl is)) e = absurd (let same : Pending ≡ Both = sym is ∙ e in cc)
other_state state (inr (inr is)) e = absurd (let same : Active ≡ Both = sym is ∙ e in cc)
