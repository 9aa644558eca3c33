-- A claim, in the protocol of a vCPU that has it to make.
use Rattle.std.proofs.Common.{◌≡◌, ℕ, ◌==◌, ◌&&◌, ◌||◌, not, Bool, true, false, cond, if◌then◌else◌, List, [], ◌∷◌, ◌++◌, Option, Some, None, refl, sym, ap, subst, ◌∙◌}
use Rattle.std.specs.List.{cons_option}
use Rattle.std.proofs.lemmas.Bool.{eqb-true, eq-eqb}
use Rattle.std.proofs.lemmas.List.Elements.{All-head, All-tail}
use Rattle.port_call.specs.Words.{Key, GuestShape, is_same_key, Irq as IrqRecord, is_number, irq_of, packed}
use Rattle.vcpu_state.proofs.GicBase.KeyLemmas.{same_itself}
use Rattle.port_call.specs.Lists.{IchRegs}
use Rattle.port_call.specs.Core.{Local, Made, Claim, Irq, local_after, succeeds, may_move, known, Seen, AddsStep, made_by, left_by, shape_of, IsIrqWord, Progress, claim_left, scan_on, stepped, IsProperStep, without_claim, without_take, Scan, claiming, ended_scan, has_key, without_key, tried}
use Rattle.pe_loop.specs.Claiming.{Claims, IsNoneOf}
use Rattle.pe_loop.specs.Scanning.{told_by}

-- Keys.

tail_none : (key other : Key) (keys : List Key) → IsNoneOf key (other ∷ keys) → IsNoneOf key keys
tail_none key other keys none = record { each = All-tail (λ other. is_same_key key other ≡ false) other keys none.each }

pub has_none : (key : Key) (keys : List Key) → IsNoneOf key keys → has_key key keys ≡ false
has_none key [] none = refl
has_none key (other ∷ keys) none = ap (λ b. b || has_key key keys) (All-head (λ other. is_same_key key other ≡ false) other keys none.each) ∙ has_none key keys (tail_none key other keys none)

pub none_without : (key : Key) (keys : List Key) → IsNoneOf key keys → without_key key keys ≡ keys
none_without key [] none = refl
none_without key (other ∷ keys) none =
    ap (λ b. cond (not b) (other ∷ without_key key keys) (without_key key keys)) (All-head (λ other. is_same_key key other ≡ false) other keys none.each)
    ∙ ap (λ keys. other ∷ keys) (none_without key keys (tail_none key other keys none))

pub has_first : (key : Key) (keys : List Key) → has_key key (key ∷ keys) ≡ true
has_first key keys = ap (λ b. b || has_key key keys) (same_itself key)

pub first_without : (key : Key) (keys : List Key) → IsNoneOf key keys → without_key key (key ∷ keys) ≡ keys
first_without key keys none = ap (λ b. cond (not b) (key ∷ without_key key keys) (without_key key keys)) (same_itself key) ∙ none_without key keys none

-- A step.

-- a claim that is among those to be made, or a take
pub claim_proper : (shape : GuestShape) (actor : ℕ) (p : Progress) (key : Key) (seen : ℕ) (claims takes : List Key) → p.scan ≡ claiming claims takes → (has_key key claims || has_key key takes) ≡ true → known shape actor p.own (Irq key) ≡ Some seen → IsProperStep shape actor p (Claim key seen)
claim_proper shape actor p key seen claims takes e has knows =
    let At : Scan → Type 0 = λ scan. IsProperStep shape actor (record p { scan = scan }) (Claim key seen) in
    subst At (sym e) (record { scan = has; trap = refl; failed = refl; far = refl; refill = refl; want = refl; seen = ap (is_number seen) knows ∙ eq-eqb seen seen refl })

-- so many are left
tried_on : (shape : GuestShape) (actor : ℕ) (key : Key) (done : Bool) (claims takes : List Key) (p : Progress)
    → scan_on shape actor (record p { scan = tried key done (claiming claims takes) }) ≡ record p { scan = ended_scan p.local (tried key done (claiming claims takes)) }
tried_on shape actor key done claims takes p = of (has_key key claims)
  where
    left : Bool → Scan
    left b = if b then claiming (without_key key claims) (if done then takes else without_key key takes) else claiming claims (without_key key takes)

    of : (b : Bool) → scan_on shape actor (record p { scan = if b then claiming (without_key key claims) (if done then takes else without_key key takes) else claiming claims (without_key key takes) }) ≡ record p { scan = ended_scan p.local (if b then claiming (without_key key claims) (if done then takes else without_key key takes) else claiming claims (without_key key takes)) }
    of true = refl
    of false = refl

pub claim_stepped : (now new : Seen) (key : Key) (seen found : ℕ) (add : AddsStep now new (Claim key seen) found) (done : Bool) → succeeds (shape_of now) now.actor now.local (Claim key seen) found ≡ done
    → (claims takes : List Key) (regs : IchRegs) (trapping failed : Bool) (p : Progress)
    → stepped (shape_of now) now.actor (made_by now (Claim key seen) found add.tables) (record (told_by now p) { scan = claiming claims takes; regs = regs; trapping = trapping; failed = failed })
    ≡ record (told_by new p) { scan = ended_scan new.local (tried key done (claiming claims takes)); regs = claim_left key done claims regs; trapping = trapping; failed = failed || not done }
claim_stepped now new key seen found add done is claims takes regs trapping failed p =
    let shape = shape_of now in
    let actor = now.actor in
    let made = made_by now (Claim key seen) found add.tables in
    let local = local_after shape actor now.local (Claim key seen) found in
    let own = now.own ++ made ∷ [] in
    let q : Bool → Progress = λ done. record p { local = local; own = own; scan = tried key done (claiming claims takes); regs = claim_left key done claims regs; trapping = trapping; failed = failed || not done } in
    let told : Local → List Made → Progress = λ local own. record p { local = local; own = own; scan = ended_scan local (tried key done (claiming claims takes)); regs = claim_left key done claims regs; trapping = trapping; failed = failed || not done } in
    ap (λ done. scan_on shape actor (q done)) is
    ∙ tried_on shape actor key done claims takes (q done)
    ∙ ap (λ local. told local own) (sym (ap (λ seen. seen.local) add.adds.new_is))
    ∙ ap (told new.local) (sym (ap (λ seen. seen.own) add.adds.new_is))

-- The first claim.

-- what is to be taken after it
abbrev pub takes_after : Bool → Option Key → List Key → List Key
takes_after true take takes = cons_option take takes
takes_after false take takes = takes

pub first_tried : (key : Key) (done both : Bool) (claims takes : List Key) → IsNoneOf key claims → IsNoneOf key takes
    → tried key done (claiming (key ∷ claims) (cons_option (if both then Some key else None) takes)) ≡ claiming claims (takes_after done (if both then Some key else None) takes)
first_tried key done both claims takes none none_taken =
    let all = cons_option (if both then Some key else None) takes in
    ap (λ b. if b then claiming (without_key key (key ∷ claims)) (if done then all else without_key key all) else claiming (key ∷ claims) (without_key key all)) (has_first key claims)
    ∙ ap (λ claims. claiming claims (if done then all else without_key key all)) (first_without key claims none)
    ∙ ap (claiming claims) (of done both)
  where
    of : (done both : Bool) → (if done then cons_option (if both then Some key else None) takes else without_key key (cons_option (if both then Some key else None) takes)) ≡ takes_after done (if both then Some key else None) takes
    of true both = refl
    of false true = first_without key takes none_taken
    of false false = none_without key takes none_taken

pub first_left : (key : Key) (done : Bool) (claims : List Key) (regs : IchRegs) → claim_left key done (key ∷ claims) regs ≡ (if done then regs else without_claim key regs)
first_left key true claims regs = refl
first_left key false claims regs = ap (λ b. if b then without_claim key regs else without_take key regs) (has_first key claims)

-- The take.

pub ended_more : (local : Local) (key : Key) (claims takes : List Key) → ended_scan local (claiming claims (key ∷ takes)) ≡ claiming claims (key ∷ takes)
ended_more local key [] takes = refl
ended_more local key (claim ∷ claims) takes = refl

pub take_tried : (key : Key) (done : Bool) (claims takes : List Key) → IsNoneOf key claims → IsNoneOf key takes → tried key done (claiming claims (key ∷ takes)) ≡ claiming claims takes
take_tried key done claims takes none none_taken =
    ap (λ b. if b then claiming (without_key key claims) (if done then key ∷ takes else without_key key (key ∷ takes)) else claiming claims (without_key key (key ∷ takes))) (has_none key claims none)
    ∙ ap (claiming claims) (first_without key takes none_taken)

pub take_left : (key : Key) (done : Bool) (claims : List Key) (regs : IchRegs) → IsNoneOf key claims → claim_left key done claims regs ≡ (if done then regs else without_take key regs)
take_left key true claims regs none = refl
take_left key false claims regs none = ap (λ b. if b then without_claim key regs else without_take key regs) (has_none key claims none)

-- What the claim found.

pub claims_so : (old new : Seen) (key : Key) (irq : IrqRecord) (found seen : ℕ) → seen ≡ packed irq → irq_of seen ≡ irq → may_move (shape_of old) old.actor old.local key irq ≡ true → AddsStep old new (Claim key seen) found → IsIrqWord (shape_of old) key (left_by old (Claim key seen) found)
    → Claims old new key irq (found == seen)
claims_so old new key irq found seen is back may add left =
    record {
      found = found;
      adds = subst (λ word. AddsStep old new (Claim key word) found) is add;
      done_is = ap (λ word. found == word && may_move (shape_of old) old.actor old.local key (irq_of found)) (sym is) ∙ of (found == seen) refl;
      hit = ap (λ word. found == word) is;
      found_is = λ e. ap irq_of (eqb-true found seen e) ∙ back;
      left = subst (λ word. IsIrqWord (shape_of old) key (left_by old (Claim key word) found)) is left;
    }
  where
    of : (b : Bool) → (found == seen) ≡ b → (b && may_move (shape_of old) old.actor old.local key (irq_of found)) ≡ b
    of true e = ap (may_move (shape_of old) old.actor old.local key) (ap irq_of (eqb-true found seen e) ∙ back) ∙ may
    of false e = refl
