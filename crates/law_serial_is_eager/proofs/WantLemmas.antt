-- What a call that names no interrupt wants: nothing.
use Rattle.std.proofs.Common.{◌≡◌, ℕ, ◌&&◌, ◌||◌, not, true≢false, Bool, true, false, if◌then◌else◌, IsTrue, [], filter, Option, Some, None, unwrap_or, refl, sym, ap, ◌∙◌, subst}
use Rattle.std.specs.Option.{option_map_or}
use Rattle.law_lone_calls_are_eager.specs.Words.{IccReg, Iar0, Iar1, Hppir0, Hppir1, Key, Icc, GuestShape, is_same_key, irq_of}
use Rattle.law_lone_calls_are_eager.specs.Calls.{Operation, Access, View}
use Rattle.law_lone_calls_are_eager.specs.Histories.{asks_first, names, takes_commands}
use Rattle.law_lone_accesses_find_all.specs.Core.{Made, CoreStep, Look, Raise, Claim, GiveBack, Release, Poll, Kick, Touch, Want, WireUp, WireDown, EnableLpis, RamLook, RamPut, CtlrTake, CtlrEnd, TurnTake, CommandDone, TurnRelease, Mark, TakeIndex, LineEnter, LineLeave, LineFill, LineClose, WordId, Irq, Vcpu, Queue, Ctlr, Plain, Index, Line, succeeds, vcpu_of, known_view, Progress, after_claim, after_poll, begun, stepped, keeps_want, Scan, idle, taking, looking, claiming, has_begun, may_name}
use Rattle.law_lone_accesses_find_all.specs.CoreProper.Progress.{changed_by}
use Rattle.law_lone_accesses_find_all.proofs.CoreProper.ScanLemmas.{wants_on}
use Rattle.law_lone_accesses_find_all.proofs.LawScansMissNone.ScanSteps.{with_made}

abbrev pub is_want : CoreStep → Bool
is_want (Want key) = true
is_want step = false

-- a step that asks for no interrupt leaves nothing wanted where nothing is
pub wants_stay : (shape : GuestShape) (actor : ℕ) (step : CoreStep) (found : ℕ) (done : Bool) (p : Progress) → is_want step ≡ false → p.wants ≡ [] → (changed_by shape actor step found done p).wants ≡ []
wants_stay shape actor (Look word) found done p other none = of word
  where
    of : (w : WordId) → (changed_by shape actor (Look w) found done p).wants ≡ []
    of (Irq k) = none
    of (Vcpu v) = none
    of Queue = none
    of Ctlr = none
    of (Plain i) = none
    of (Index v n) = none
    of (Line n) = none
wants_stay shape actor (Claim k seen) found done p other none = of p.scan
  where
    of : (scan : Scan) → (after_claim k (irq_of found) done scan p).wants ≡ []
    of idle = none
    of (taking purpose words) = none
    of (looking purpose from offers) = none
    of (claiming claims takes) = none
wants_stay shape actor (Poll None write) found done p other none = of (unwrap_or p.far false)
  where
    of : (b : Bool) → (begun b p).wants ≡ []
    of true = none
    of false = none
wants_stay shape actor (Poll (Some reg) write) found done p other none = of (vcpu_of found).kick
  where
    of : (b : Bool) → (after_poll (Some reg) write b p).wants ≡ []
    of true = none
    of false = none
wants_stay shape actor (Touch k seen kind) found done p other none = of done
  where
    of : (b : Bool) → (if b then filter (λ other. not (is_same_key k other)) p.wants else p.wants) ≡ []
    of true = ap (filter (λ other. not (is_same_key k other))) none
    of false = none
wants_stay shape actor (Want k) found done p other none = absurd (true≢false other)
wants_stay shape actor (Raise k) found done p other none = none
wants_stay shape actor (GiveBack k back) found done p other none = none
wants_stay shape actor (Release k) found done p other none = none
wants_stay shape actor (Kick v) found done p other none = none
wants_stay shape actor (WireUp k) found done p other none = none
wants_stay shape actor (WireDown k) found done p other none = none
wants_stay shape actor (EnableLpis v) found done p other none = none
wants_stay shape actor (RamLook i) found done p other none = none
wants_stay shape actor (RamPut i seen value) found done p other none = none
wants_stay shape actor (CtlrTake seen value) found done p other none = none
wants_stay shape actor CtlrEnd found done p other none = none
wants_stay shape actor (TurnTake seen) found done p other none = none
wants_stay shape actor (CommandDone offset stalled ending) found done p other none = none
wants_stay shape actor TurnRelease found done p other none = none
wants_stay shape actor (Mark k v) found done p other none = none
wants_stay shape actor (TakeIndex w) found done p other none = none
wants_stay shape actor (LineEnter line seen) found done p other none = none
wants_stay shape actor (LineLeave line) found done p other none = none
wants_stay shape actor (LineFill line device event lpi) found done p other none = none
wants_stay shape actor (LineClose line) found done p other none = none

-- an access that asks for the first interrupt names none
pub names_none : (shape : GuestShape) (view : View) (actor : ℕ) (reg : IccReg) (write : Option ℕ) (key : Key) → asks_first reg write ≡ true → names shape view actor (Access (Icc reg write)) key ≡ false
names_none shape view actor Iar0 None key asks = refl
names_none shape view actor Iar1 None key asks = refl
names_none shape view actor Hppir0 None key asks = refl
names_none shape view actor Hppir1 None key asks = refl
names_none shape view actor reg write key asks = absurd (true≢false (sym asks))

asks_none : (shape : GuestShape) (actor : ℕ) (p : Progress) (operation : Operation) → ((view : View) (key : Key) → names shape view actor operation key ≡ false) → p.operation ≡ Some operation → (step : CoreStep) → IsTrue (keeps_want shape actor p step) → is_want step ≡ false
asks_none shape actor p operation none is (Want key) keeps =
    absurd
    (true≢false
    (sym (subst (λ o. option_map_or (λ operation. may_name shape actor p.own operation key) o false ≡ true) is keeps)
    ∙ ap (λ b. b && (not (takes_commands shape operation) || has_begun shape actor p.own)) (none (known_view shape actor p.own) key)))
asks_none shape actor p operation none is step keeps = refl

-- while a call names none nothing is wanted
pub wants_none : (shape : GuestShape) (actor : ℕ) (made : Made) (p : Progress) (operation : Operation) → ((view : View) (key : Key) → names shape view actor operation key ≡ false) → p.operation ≡ Some operation → IsTrue (keeps_want shape actor p made.step) → p.wants ≡ []
    → (stepped shape actor made p).wants ≡ []
wants_none shape actor made p operation none is keeps unwanted =
    wants_on shape actor (with_made shape actor made p (changed_by shape actor made.step made.found (succeeds shape actor p.local made.step made.found) p))
    ∙ wants_stay shape actor made.step made.found (succeeds shape actor p.local made.step made.found) p (asks_none shape actor p operation none is made.step keeps) unwanted
