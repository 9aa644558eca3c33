-- The whole access.
use Rattle.std.proofs.Common.{◌≡◌, ℕ, ◌≤◌, ◌&&◌, ◌||◌, not, Bool, true, false, cond, if◌then◌else◌, IsTrue, List, [], ◌∷◌, ◌++◌, map, filter, filter_map, All, Contains, Option, Some, None, is_some, is_none, unwrap_or, inl, inr, append-nil, refl, sym, ap, subst, ◌∙◌, ◌==◌}
use Rattle.std.specs.List.{cons_option, list_all, range_with_len}
use Rattle.std.proofs.lemmas.List.Elements.{All-nil, All-cons, filter-append}
use Rattle.pe_loop.specs.Words.{IccReg, Eoir0, Eoir1, Dir, Sgi1r, GuestShape, Private}
use Rattle.pe_loop.specs.Registers.{intid_of, is_target, Candidate, CpuRec, answer_of, candidates_at}
use Rattle.pe_loop.specs.Calls.{Event, Cpu, Operation, icc_raises, sgi_at, Happened, Beside, IsCall, HandsOut, is_beside, named_of, held_at, IsLastRead, View, is_usable}
use Rattle.pe_loop.specs.GicCall.declared.event.Event.TheVariants.{Raise}
use Rattle.pe_loop.specs.GicCall.declared.event.Found.TheVariants.{Answer}
use Rattle.pe_loop.proofs.GicIcv.FollowLemmas.{no_answer}
use Rattle.pe_loop.specs.VcpuState.declared.loaded.Loaded.{Loaded}
use Rattle.pe_loop.specs.VcpuState.declared.shelved.Shelved.{Shelved}
use Rattle.pe_loop.proofs.VcpuRefill.ElementLemmas.{Contains-here, Contains-there, Contains-cases}
use Rattle.pe_loop.specs.Core.{Local, Phase, Off, Scanning, Claiming, Loaded as LoadedPhase, Folding, Made, Poll, interface_of, is_ready, known_view, is_vcpu, owes_nothing, Seen, Adds, shape_of, part_events, made_by, MakesCall, vcpu_of_actor, maps_taken, makes, begins, ends, part_of, Progress, Debt, paid, is_paid, owed_after_scan, ended_by, owed_after_part, is_to_scan, progressed, progress_of, IsProper, IsProperEnd, is_empty, gives_back, is_settled, wants_nothing, after_operation}
use Rattle.pe_loop.proofs.PortCore.PortLemmas.{adds_join}
use Rattle.pe_loop.proofs.CoreProper.PartLemmas.{proper_append}
use Rattle.std.proofs.lemmas.List.Sums.{fold-append}
use Rattle.pe_loop.specs.PortCall.Piece.{IsPiece, IsIdle, steps_of}
use Rattle.pe_loop.specs.PortCall.Rest.{StaysAtEase}
use Rattle.pe_loop.proofs.PortCall.PieceLemmas.{seen_nil}
use Rattle.pe_loop.proofs.PortCall.RestLemmas.{ease_owes}
use Rattle.pe_loop.proofs.PortCall.SettleLemmas.{handed_none}
use Rattle.pe_loop.proofs.PortCall.TryLemmas.{none_append}
use Rattle.pe_loop.proofs.PortCall.TurnLemmas.{events_then}
use Rattle.pe_loop.specs.Lists.{StandFor, misr_of}
use Rattle.pe_loop.specs.Stay.{IsOn, IsOpen, IsUp}
use Rattle.pe_loop.proofs.LeaveLemmas.{settled_owes}
use Rattle.pe_icc.specs.Amid.{IsRunning, IsAble, IsSame, IsSet, Leads, debt_of}
use Rattle.pe_icc.proofs.SgiLemmas.{no_raises}
use Rattle.pe_icc.specs.Operate.{is_kicked, finds_kick, MayAsk, MayReenter, HasAsked, debt_left, Polls}
use Rattle.pe_icc.specs.declared.operate.Polled.TheVariants.{Kicked, Done}
use Rattle.pe_icc.specs.declared.stay.Stay.{Stay}
use Rattle.pe_icc.specs.Reenter.{Reenters, Refills}
use Rattle.pe_icc.specs.Sgi.{silent, SendsSgis}
use Rattle.pe_icc.specs.Icc.{call_of, IsAbout, IsNear, IsLight, Prepares, IsAgain, events_of, IsMade, DoesAccess}
use Rattle.pe_icc.proofs.AmidLemmas.{leads_nil, leads_then}
use Rattle.pe_icc.proofs.ReenterLemmas.{amid_after}

-- Events.

joined_named : (old mid : Seen) (early late : List Made) (first second : List Happened) → Adds old mid early → named_of (Some old.actor) (part_events old early) ≡ first → named_of (Some mid.actor) (part_events mid late) ≡ second
    → named_of (Some old.actor) (part_events old (early ++ late)) ≡ first ++ second
joined_named old mid early late first second add one two =
    let actor : mid.actor ≡ old.actor = ap (λ (seen : Seen). seen.actor) add.new_is in
    ap (named_of (Some old.actor)) (events_then old mid early late add)
    ∙ filter-append (λ happened. not (is_beside (Some old.actor) happened.event)) (part_events old early) (part_events mid late)
    ∙ ap (λ events. events ++ named_of (Some old.actor) (part_events mid late)) one
    ∙ ap (λ events. first ++ events) (ap (λ actor. named_of (Some actor) (part_events mid late)) (sym actor) ∙ two)

-- the SGIs of a write are events that the call names
sgis_named : (actor value sender : ℕ) (vcpus : List ℕ) → named_of (Some actor) (map silent (filter_map (sgi_at value sender) vcpus)) ≡ map silent (filter_map (sgi_at value sender) vcpus)
sgis_named actor value sender [] = refl
sgis_named actor value sender (vcpu ∷ vcpus) = of (is_target value sender vcpu) (sgis_named actor value sender vcpus)
  where
    rest : List Event
    rest = filter_map (sgi_at value sender) vcpus

    sgi : Event
    sgi = Raise (Private vcpu (intid_of value))

    of : (b : Bool) → named_of (Some actor) (map silent rest) ≡ map silent rest
        → named_of (Some actor) (map silent (cons_option (if b then Some sgi else None) rest)) ≡ map silent (cons_option (if b then Some sgi else None) rest)
    of true e = ap (λ events. silent sgi ∷ events) e
    of false e = e

raises_named : (actor : ℕ) (shape : GuestShape) (vcpu : ℕ) (reg : IccReg) (write : Option ℕ) → named_of (Some actor) (map silent (icc_raises shape vcpu reg write)) ≡ map silent (icc_raises shape vcpu reg write)
raises_named actor shape vcpu Sgi1r (Some value) = sgis_named actor value vcpu (range_with_len 0 shape.vcpus)
raises_named actor shape vcpu Sgi1r None = refl
raises_named actor shape vcpu reg write = refl

-- and hand out nothing
sgis_hand : (view : View) (value sender : ℕ) (vcpus : List ℕ) → All (λ happened. HandsOut view happened.event happened.found) (map silent (filter_map (sgi_at value sender) vcpus))
sgis_hand view value sender [] = All-nil (λ happened. HandsOut view happened.event happened.found)
sgis_hand view value sender (vcpu ∷ vcpus) = of (is_target value sender vcpu) (sgis_hand view value sender vcpus)
  where
    Hands : Happened → Type 0
    Hands happened = HandsOut view happened.event happened.found

    rest : List Event
    rest = filter_map (sgi_at value sender) vcpus

    sgi : Event
    sgi = Raise (Private vcpu (intid_of value))

    of : (b : Bool) → All Hands (map silent rest) → All Hands (map silent (cons_option (if b then Some sgi else None) rest))
    of true all = All-cons Hands (silent sgi) (map silent rest) refl all
    of false all = all

raises_hand : (view : View) (shape : GuestShape) (vcpu : ℕ) (reg : IccReg) (write : Option ℕ) → All (λ happened. HandsOut view happened.event happened.found) (map silent (icc_raises shape vcpu reg write))
raises_hand view shape vcpu Sgi1r (Some value) = sgis_hand view value vcpu (range_with_len 0 shape.vcpus)
raises_hand view shape vcpu Sgi1r None = All-nil (λ happened. HandsOut view happened.event happened.found)
raises_hand view shape vcpu reg write = All-nil (λ happened. HandsOut view happened.event happened.found)

events_back : (events : List Event) → map (λ happened. happened.event) (map silent events) ≡ events
events_back [] = refl
events_back (event ∷ events) = ap (λ rest. event ∷ rest) (events_back events)

from_filter : {X : Type 0} (p : X → Bool) (xs : List X) (y : X) → Contains (filter p xs) y → Contains xs y
from_filter p [] y among = among
from_filter p (x ∷ xs) y among = of (p x) among (from_filter p xs y)
  where
    of : (b : Bool) → Contains (cond b (x ∷ filter p xs) (filter p xs)) y → (Contains (filter p xs) y → Contains xs y) → Contains (x ∷ xs) y
    of true here later = elim (Contains-cases x y (filter p xs) here) [
      | inl same ↦ subst (Contains (x ∷ xs)) same (Contains-here x xs)
      | inr there ↦ Contains-there x y xs (later there)
    ]
    of false there later = Contains-there x y xs (later there)

-- a part with these events is the call
pub icc_call : (seen : Seen) (part : List Made) (reg : IccReg) (write answer : Option ℕ) → is_vcpu (shape_of seen) seen.actor ≡ true → named_of (Some seen.actor) (part_events seen part) ≡ events_of seen reg write answer → MakesCall seen part (call_of reg write) answer
icc_call seen part reg write answer is_one events =
    let shape = shape_of seen in
    let actor = seen.actor in
    let piece = part_events seen part in
    let view = known_view shape actor [] in
    let raises = icc_raises shape actor reg write in
    let cpu : Happened = record { event = Cpu actor reg write; found = Answer answer } in
    let Hands : Happened → Type 0 = λ happened. HandsOut view happened.event happened.found in
    let beside : Beside = record { maps = maps_taken part; targets = λ id. None; commands = []; signals = false } in
    let is_vcpu_so : vcpu_of_actor shape actor ≡ Some actor = ap (λ b. if b then Some actor else None) is_one in
    let Call : Option ℕ → Type 0 = λ actor. IsCall shape beside actor (call_of reg write) piece answer in
    record {
      beside = beside;
      maps = refl;
      signals = refl;
      call =
          subst Call (sym is_vcpu_so)
          (record {
            view = view;
            made =
                record {
                  events_are = ap (map (λ happened. happened.event)) events ∙ ap (λ rest. Cpu actor reg write ∷ rest) (events_back raises);
                  found = subst (All Hands) (sym events) (All-cons Hands cpu (map silent raises) (answer, refl) (raises_hand view shape actor reg write));
                  reads = All-nil (λ place. IsLastRead place (held_at view place) ([] ++ piece));
                };
            answers = from_filter (λ happened. not (is_beside (Some actor) happened.event)) piece cpu (subst (λ events. Contains events cpu) (sym events) (Contains-here cpu (map silent raises)));
          });
    }

-- Answers.

reads_so : (reg : IccReg) (cpu : CpuRec) (candidates : List Candidate) → IsTrue (is_usable reg None) → is_some (answer_of reg None cpu candidates) ≡ true
reads_so Eoir0 cpu candidates usable = absurd (cc)
reads_so Eoir1 cpu candidates usable = absurd (cc)
reads_so Dir cpu candidates usable = absurd (cc)
reads_so Sgi1r cpu candidates usable = absurd (cc)
reads_so reg cpu candidates usable = refl

answers_so : (reg : IccReg) (write : Option ℕ) (cpu : CpuRec) (candidates : List Candidate) → IsTrue (is_usable reg write) → is_some (answer_of reg write cpu candidates) ≡ is_none write
answers_so reg None cpu candidates usable = reads_so reg cpu candidates usable
answers_so reg (Some value) cpu candidates usable = ap is_some (no_answer reg value cpu candidates)

-- Kicks that were found.

kick_before : (early late : List Made) → finds_kick early ≡ true → finds_kick (early ++ late) ≡ true
kick_before [] late e = absurd (cc)
kick_before (made ∷ early) late e = of (is_kicked made.step made.found) e (kick_before early late)
  where
    of : (b : Bool) → (b || finds_kick early) ≡ true → (finds_kick early ≡ true → finds_kick (early ++ late) ≡ true) → (b || finds_kick (early ++ late)) ≡ true
    of true e later = refl
    of false e later = later e

kick_after : (early late : List Made) → finds_kick late ≡ true → finds_kick (early ++ late) ≡ true
kick_after [] late e = e
kick_after (made ∷ early) late e = of (is_kicked made.step made.found) (kick_after early late e)
  where
    of : (b : Bool) → finds_kick (early ++ late) ≡ true → (b || finds_kick (early ++ late)) ≡ true
    of true later = refl
    of false later = later

-- One try.

owing_scan : (owing : Bool) → owed_after_scan (debt_of owing) ≡ debt_of owing
owing_scan true = refl
owing_scan false = refl

pub same_then : (one two three : Loaded) → IsSame one two → IsSame two three → IsSame one three
same_then one two three a b =
    let with_cpu : Shelved → Shelved = λ base. record base { cpu = one.base.cpu } in
    record { base = ap with_cpu b.base ∙ a.base; lrs = b.lrs ∙ a.lrs }

same_regs : (before after : Loaded) → record after { regs = before.regs } ≡ before → after.regs.n ≡ before.regs.n → IsSame before after
same_regs before after same lrs = record { base = ap (λ (vcpu : Loaded). record vcpu.base { cpu = before.base.cpu }) same; lrs = lrs }

pub tried_again : (old mid mid2 new : Seen) (reg : IccReg) (write : Option ℕ) (before ready after : Stay) (kicked : Loaded) → Prepares old mid reg write before ready → Polls mid mid2 reg write ready.vcpu kicked Kicked → Reenters mid2 new kicked after.vcpu → after.owing ≡ ready.owing
    → IsAgain old new reg write before after
tried_again old mid mid2 new reg write before ready after kicked prep polls again owing =
    let is = polls.is in
    let made = made_by mid (Poll (Some reg) write) polls.found polls.adds.tables in
    let late = made ∷ again.part in
    let op = call_of reg write in
    let debt = debt_of ready.owing in
    let adds_late : Adds mid new late = adds_join mid mid2 new (made ∷ []) again.part polls.adds.adds again.adds in
    let After : Debt → Progress → Type 0 = λ debt. IsAble new after.vcpu op debt in
    let counts : kicked.regs.n ≡ ready.vcpu.regs.n = ap (λ (vcpu : Loaded). vcpu.regs.n) is.same in
    let Again : ℕ → Type 0 = λ n. Leads mid2 again.part (MayReenter mid2 op n debt) (After (owed_after_scan debt)) in
    record {
      part = prep.part ++ late;
      adds = adds_join old mid new prep.part late prep.adds adds_late;
      none_taken = none_append prep.part late prep.none_taken (none_append (made ∷ []) again.part (ap (λ b. b && true) (handed_none (Poll (Some reg) write) polls.found mid polls.adds.tables refl polls.adds.handed)) again.none_taken);
      moves = joined_named old mid prep.part late [] [] prep.adds prep.moves (joined_named mid mid2 (made ∷ []) again.part [] [] polls.adds.adds (ap (named_of (Some mid.actor)) is.silent) again.moves);
      up = again.up;
      same = same_then before.vcpu ready.vcpu after.vcpu prep.same (subst (λ vcpu. IsSame vcpu after.vcpu) is.same again.same);
      ending = λ on. ap (λ seen. is_some (ended_by (shape_of seen) seen.actor reg write)) (adds_join old mid new prep.part late prep.adds adds_late).new_is ∙ prep.ending (sym owing ∙ on);
      kicked = inr (kick_after prep.part late (kick_before (made ∷ []) again.part is.kicked));
      leads =
          leads_then old mid prep.part late (IsAbout old reg write before) (MayAsk mid ready.vcpu op debt reg write) (After (debt_of after.owing)) prep.adds prep.leads
          (leads_then mid mid2 (made ∷ []) again.part (MayAsk mid ready.vcpu op debt reg write) (MayReenter mid2 op ready.vcpu.regs.n debt) (After (debt_of after.owing)) polls.adds.adds (is.leads op debt)
          (subst (λ debt_after. Leads mid2 again.part (MayReenter mid2 op ready.vcpu.regs.n debt) (After debt_after)) (owing_scan ready.owing ∙ ap debt_of (sym owing)) (subst Again counts (again.leads op debt))));
    }

-- The SGIs leave the protocol as far.

asked_piece : (old mid : Seen) (part : List Made) (vcpu : Loaded) (operation : Operation) (debt : Debt) → Adds old mid part → IsPiece old part → Leads old part (HasAsked old vcpu operation debt) (HasAsked mid vcpu operation debt)
asked_piece old mid part vcpu operation debt add piece =
    let idle : (p : Progress) → HasAsked old vcpu operation debt p → IsIdle old p = λ p has. record { local = has.able.amid.rest.local; own = has.able.amid.rest.own; scan = has.able.amid.rest.scan } in
    record {
      proper = λ p has. (piece p (idle p has)).proper;
      after = λ p has.
          let good = piece p (idle p has) in
          let same = good.stays.same in
          record {
            able =
                record {
                  amid = amid_after old mid part operation vcpu.regs.n debt p (progress_of (shape_of old) old.actor p (map makes part)) add good.stays good.ends has.able.amid;
                  regs = ap (λ (p : Progress). p.regs) same ∙ has.able.regs;
                  trapping = ap (λ (p : Progress). p.trapping) same ∙ has.able.trapping;
                };
            near = ap (λ (p : Progress). unwrap_or p.far false) same ∙ has.near;
          };
    }

-- so is the vCPU on its PE
pub still_on : (old new : Seen) (part : List Made) (vcpu : Loaded) → Adds old new part → StaysAtEase old.local new.local → IsOn old vcpu → IsOn new vcpu
still_on old new part vcpu add stays on =
    let same = stays.same in
    let new_is = add.new_is in
    record {
      actor =
          record {
            guest = ap (λ (seen : Seen). seen.number) new_is ∙ on.actor.guest;
            number = ap (λ (seen : Seen). seen.actor) new_is ∙ on.actor.number;
            is_one = ap (λ seen. is_vcpu (shape_of seen) seen.actor) new_is ∙ on.actor.is_one;
          };
      stands = subst (λ interface. StandFor vcpu.regs vcpu.held interface) (sym (ap interface_of same)) on.stands;
      cpu = on.cpu ∙ sym (ap (λ (local : Local). local.cpu) same);
      whole = ap (λ (local : Local). list_all (λ at. not at.given) local.at) same ∙ on.whole;
      settled =
          rest_settled (owes_nothing new.local) new.local.turn new.local.ctlr (is_none new.local.line) old.local.turn old.local.ctlr (is_none old.local.line) (ease_owes old.local new.local stays (settled_owes old.local on.settled))
          (ap (λ (local : Local). local.turn) same) (ap (λ (local : Local). local.ctlr) same) (ap (λ (local : Local). is_none local.line) same)
          (others (owes_nothing old.local) old.local.turn old.local.ctlr (is_none old.local.line) on.settled);
    }
  where
    others : (a b c d : Bool) → IsTrue (a && not b && not c && d) → IsTrue (not b && not c && d)
    others true b c d h = h
    others false b c d h = absurd (cc)

    rest_settled : (a b c d e f g : Bool) → IsTrue a → b ≡ e → c ≡ f → d ≡ g → IsTrue (not e && not f && g) → IsTrue (a && not b && not c && d)
    rest_settled a b c d e f g owes turn ctlr line so = rw (owes, turn, ctlr, line) so

pub still_owes : (old new : Seen) (vcpu : Loaded) → IsOn new vcpu → IsTrue (owes_nothing new.local)
still_owes old new vcpu on = settled_owes new.local on.settled

set_after : (mid new : Seen) (part : List Made) (before after : Loaded) → Adds mid new part → StaysAtEase mid.local new.local → IsOn mid after → mid.local.phase ≡ LoadedPhase → (1 ≤ before.regs.n) × (before.regs.n ≤ 16) → after.regs.n ≡ before.regs.n → (after.trapping ≡ false → IsOpen after.regs.hcr) → IsSet new after
set_after mid new part before after add stays on phase few lrs free =
    record {
      on = still_on mid new part after add stays on;
      lrs = (subst (λ n. 1 ≤ n) (sym lrs) few.0, subst (λ n. n ≤ 16) (sym lrs) few.1);
      ready = ap is_ready (ap (λ (local : Local). local.phase) stays.same ∙ phase);
      free = free;
    }

pub done_set : (mid mid2 mid3 : Seen) (reg : IccReg) (write : Option ℕ) (ready : Stay) (after : Loaded) (answer : Option ℕ) → IsSet mid ready.vcpu → Polls mid mid2 reg write ready.vcpu after (Done answer) → SendsSgis mid2 mid3 reg write → IsSet mid3 after
done_set mid mid2 mid3 reg write ready after answer set polls sends =
    let is = polls.is in
    set_after mid2 mid3 sends.part ready.vcpu after sends.adds sends.stays is.on is.phase set.lrs is.lrs (λ none. is.opens (sym (ap (λ (vcpu : Loaded). vcpu.trapping) is.same) ∙ none))

pub done_owes : (mid mid2 : Seen) (reg : IccReg) (write : Option ℕ) (before after : Loaded) (answer : Option ℕ) → Polls mid mid2 reg write before after (Done answer) → IsTrue (owes_nothing mid2.local)
done_owes mid mid2 reg write before after answer polls = settled_owes mid2.local polls.is.on.settled

pub tried_done : (old mid mid2 mid3 new : Seen) (reg : IccReg) (write : Option ℕ) (before ready : Stay) (done after : Loaded) (answer : Option ℕ) → IsTrue (is_usable reg write) → Prepares old mid reg write before ready → Polls mid mid2 reg write ready.vcpu done (Done answer)
    → SendsSgis mid2 mid3 reg write → Refills mid3 new done after ready.owing → IsMade old new reg write before after answer
tried_done old mid mid2 mid3 new reg write before ready done after answer usable prep polls sends fills =
    let is = polls.is in
    let made = made_by mid (Poll (Some reg) write) polls.found polls.adds.tables in
    let last = sends.part ++ fills.part in
    let late = made ∷ last in
    let op = call_of reg write in
    let debt = debt_of ready.owing in
    let adds_last : Adds mid2 new last = adds_join mid2 mid3 new sends.part fills.part sends.adds fills.adds in
    let adds_late : Adds mid new late = adds_join mid mid2 new (made ∷ []) last polls.adds.adds adds_last in
    let trapping : done.trapping ≡ ready.vcpu.trapping = ap (λ (vcpu : Loaded). vcpu.trapping) is.same in
    let Asked : Seen → Bool → Progress → Type 0 = λ seen trapping. HasAsked seen done op (debt_left done.regs trapping debt) in
    let sgis : Seen → List Happened = λ seen. map silent (icc_raises (shape_of seen) seen.actor reg write) in
    let cpu : Seen → Happened = λ seen. record { event = Cpu seen.actor reg write; found = Answer answer } in
    let mid_is = prep.adds.new_is in
    let mid2_is = (adds_join old mid mid2 prep.part (made ∷ []) prep.adds polls.adds.adds).new_is in
    record {
      part = prep.part ++ late;
      adds = adds_join old mid new prep.part late prep.adds adds_late;
      none_taken =
          none_append prep.part late prep.none_taken
          (none_append (made ∷ []) last (ap (λ b. b && true) (handed_none (Poll (Some reg) write) polls.found mid polls.adds.tables refl polls.adds.handed)) (none_append sends.part fills.part sends.none_taken fills.none_taken));
      events =
          joined_named old mid prep.part late [] (cpu mid ∷ sgis mid2 ++ []) prep.adds prep.moves
          (joined_named mid mid2 (made ∷ []) last (cpu mid ∷ []) (sgis mid2 ++ []) polls.adds.adds (ap (named_of (Some mid.actor)) is.event)
          (joined_named mid2 mid3 sends.part fills.part (sgis mid2) [] sends.adds (ap (named_of (Some mid2.actor)) sends.events_are ∙ raises_named mid2.actor (shape_of mid2) mid2.actor reg write) fills.moves))
          ∙ ap (λ events. cpu mid ∷ events) (append-nil (sgis mid2))
          ∙ ap (λ seen. cpu seen ∷ sgis mid2) mid_is
          ∙ ap (λ seen. cpu old ∷ sgis seen) mid2_is;
      answers = ap is_some is.answer_is ∙ answers_so reg write mid.local.cpu (candidates_at (interface_of mid.local)) usable;
      up = fills.up;
      light = λ light none.
          let before_is = prep.light light.near in
          let regs : done.regs ≡ after_operation false reg write before.vcpu.regs
          = is.regs ∙ ap (λ (stay : Stay). after_operation stay.vcpu.trapping reg write stay.vcpu.regs) before_is.1 ∙ ap (λ trapping. after_operation trapping reg write before.vcpu.regs) light.near.free in
          let untrapped : done.trapping ≡ false = trapping ∙ ap (λ (stay : Stay). stay.vcpu.trapping) before_is.1 ∙ light.near.free in
          let paid_so : ready.owing ≡ false = ap (λ (stay : Stay). stay.owing) before_is.1 ∙ none in
          let scan : is_to_scan done.regs done.trapping (debt_of ready.owing) ≡ false
          = ap (λ regs. is_to_scan regs done.trapping (debt_of ready.owing)) regs
          ∙ ap (λ misr. not (misr == 0) || done.trapping || not (is_paid (debt_of ready.owing))) light.quiet
          ∙ ap (λ trapping. trapping || not (is_paid (debt_of ready.owing))) untrapped
          ∙ ap (λ owing. not (is_paid (debt_of owing))) paid_so in
          ap (λ part. steps_of (part ++ late)) before_is.0
          ∙ ap (λ part. Poll (Some reg) write ∷ steps_of (part ++ fills.part)) (sends.none (no_raises (shape_of mid2) mid2.actor reg write light.sends_none))
          ∙ ap (λ part. Poll (Some reg) write ∷ steps_of part) (fills.light scan).0;
      same = same_then before.vcpu ready.vcpu after prep.same (same_then ready.vcpu done after (same_regs ready.vcpu done is.same is.lrs) fills.same);
      leads =
          leads_then old mid prep.part late (IsAbout old reg write before) (MayAsk mid ready.vcpu op debt reg write) (IsAble new after op paid) prep.adds prep.leads
          (leads_then mid mid2 (made ∷ []) last (MayAsk mid ready.vcpu op debt reg write) (Asked mid2 ready.vcpu.trapping) (IsAble new after op paid) polls.adds.adds (is.leads op debt)
          (leads_then mid2 mid3 sends.part fills.part (Asked mid2 ready.vcpu.trapping) (Asked mid3 ready.vcpu.trapping) (IsAble new after op paid) sends.adds
          (asked_piece mid2 mid3 sends.part done op (debt_left done.regs ready.vcpu.trapping debt) sends.adds sends.piece)
          (subst (λ trapping. Leads mid3 fills.part (Asked mid3 trapping) (IsAble new after op paid)) trapping (fills.leads op))));
    }

-- The loop.

pub not_tried : (seen : Seen) (reg : IccReg) (write : Option ℕ) (stay : Stay) → IsUp seen stay.vcpu → stay.owing ≡ false → IsAgain seen seen reg write stay stay
not_tried seen reg write stay up none =
    record {
      part = [];
      adds = record { new_is = sym (seen_nil seen) };
      none_taken = refl;
      moves = refl;
      up = up;
      same = record { base = refl; lrs = refl };
      ending = λ on. absurd (both stay.owing on none);
      kicked = inl (refl, refl);
      leads = leads_nil seen (IsAbout seen reg write stay);
    }
  where
    both : (b : Bool) → b ≡ true → b ≡ false → ⊥
    both b t f = cc

pub again_then : (old mid new : Seen) (reg : IccReg) (write : Option ℕ) (before between after : Stay) → IsAgain old mid reg write before between → IsAgain mid new reg write between after → IsAgain old new reg write before after
again_then old mid new reg write before between after one two =
    record {
      part = one.part ++ two.part;
      adds = adds_join old mid new one.part two.part one.adds two.adds;
      none_taken = none_append one.part two.part one.none_taken two.none_taken;
      moves = joined_named old mid one.part two.part [] [] one.adds one.moves two.moves;
      up = two.up;
      same = same_then before.vcpu between.vcpu after.vcpu one.same two.same;
      ending = two.ending;
      kicked = elim one.kicked [
        | inl none ↦ elim two.kicked [
          | inl later ↦ inl (ap (λ part. part ++ two.part) none.0 ∙ later.0, later.1 ∙ none.1)
          | inr later ↦ inr (kick_after one.part two.part later)
        ]
        | inr found ↦ inr (kick_before one.part two.part found)
      ];
      leads = leads_then old mid one.part two.part (IsAbout old reg write before) (IsAbout mid reg write between) (IsAbout new reg write after) one.adds one.leads two.leads;
    }

-- a part that has settled may end
ready_end : (phase : Phase) → IsTrue (is_ready phase) → not (gives_back phase) ≡ true
ready_end Off ready = refl
ready_end Scanning ready = refl
ready_end Claiming ready = refl
ready_end LoadedPhase ready = refl
ready_end Folding ready = absurd (cc)

able_end : (new : Seen) (vcpu : Loaded) (operation : Operation) (p : Progress) → IsUp new vcpu → IsAble new vcpu operation paid p → IsProperEnd p
able_end new vcpu operation p up able =
    let amid = able.amid in
    record {
      scan = amid.rest.scan;
      refill =
          ap (λ debt. is_empty p.local.at || (is_paid debt && not (gives_back p.local.phase))) amid.debt_is
          ∙ ap (λ (local : Local). is_empty p.local.at || not (gives_back local.phase)) amid.rest.local
          ∙ ap (λ b. is_empty p.local.at || b) (ready_end new.local.phase up.ready)
          ∙ or_true (is_empty p.local.at);
      want = ap wants_nothing amid.rest.wants;
      settled = ap is_settled amid.rest.local ∙ up.on.settled;
    }
  where
    or_true : (b : Bool) → (b || true) ≡ true
    or_true true = refl
    or_true false = refl

-- a part that leads to where the vCPU may access again, with no scan owed, is whole
pub part_proper : (old new : Seen) (vcpu : Loaded) (operation : Operation) (lrs : ℕ) (answer : Option ℕ) (part : List Made) (At : Progress → Type 0) (p : Progress) → IsUp new vcpu → Leads old part At (IsAble new vcpu operation paid)
    → At (progressed (shape_of old) old.actor p (begins operation lrs)) → IsProper (shape_of old) old.actor p (part_of operation lrs part answer)
part_proper old new vcpu operation lrs answer part At p up leads at =
    let shape = shape_of old in
    let begin = progressed shape old.actor p (begins operation lrs) in
    let ends_so = able_end new vcpu operation (progress_of shape old.actor begin (map makes part)) up (leads.after begin at) in
    (tt, (proper_append shape old.actor begin (map makes part) (ends answer ∷ [])).1 (leads.proper begin at, (ends_so, tt)))

-- and leaves it between two accesses
pub part_runs : (old new : Seen) (vcpu : Loaded) (operation : Operation) (lrs : ℕ) (answer : Option ℕ) (part : List Made) (At : Progress → Type 0) (p : Progress) → Leads old part At (IsAble new vcpu operation paid)
    → At (progressed (shape_of old) old.actor p (begins operation lrs)) → IsRunning new vcpu (progress_of (shape_of old) old.actor p (part_of operation lrs part answer))
part_runs old new vcpu operation lrs answer part At p leads at =
    let shape = shape_of old in
    let begin = progressed shape old.actor p (begins operation lrs) in
    let able = leads.after begin at in
    let amid = able.amid in
    subst (IsRunning new vcpu) (sym (fold-append (progressed shape old.actor) begin (map makes part) (ends answer ∷ [])))
    (record {
      rest = record { local = amid.rest.local; own = amid.rest.own; scan = amid.rest.scan; wants = amid.rest.wants };
      regs = able.regs;
      trapping = able.trapping;
      none_failed = amid.none_failed;
      debt = ap (λ debt. owed_after_part debt) amid.debt_is;
    })

pub access_done : (old mid new : Seen) (reg : IccReg) (write : Option ℕ) (before after : Loaded) (between : Stay) (answer : Option ℕ) → IsUp old before → IsAgain old mid reg write (record { vcpu = before; owing = false }) between → IsMade mid new reg write between after answer → DoesAccess old new reg write before after answer
access_done old mid new reg write before after between answer up tries made =
    let shape = shape_of old in
    let actor = old.actor in
    let op = call_of reg write in
    let part = tries.part ++ made.part in
    let lrs = before.regs.n in
    let start : Stay = record { vcpu = before; owing = false } in
    let begin : Progress → Progress = λ p. progressed shape actor p (begins op lrs) in
    let at : (p : Progress) → IsRunning old before p → IsAbout old reg write start (begin p)
    = λ p run. record {
      amid = record { rest = record { local = run.rest.local; own = run.rest.own; scan = run.rest.scan; wants = run.rest.wants }; operation_is = refl; lrs_is = refl; none_failed = run.none_failed; debt_is = run.debt };
      regs = run.regs;
      trapping = run.trapping;
    } in
    let leads : Leads old part (IsAbout old reg write start) (IsAble new after op paid) = leads_then old mid tries.part made.part (IsAbout old reg write start) (IsAbout mid reg write between) (IsAble new after op paid) tries.adds tries.leads made.leads in
    record {
      part = part;
      adds = adds_join old mid new tries.part made.part tries.adds made.adds;
      none_taken = none_append tries.part made.part tries.none_taken made.none_taken;
      call =
          icc_call old part reg write answer up.on.actor.is_one
          (joined_named old mid tries.part made.part [] (events_of mid reg write answer) tries.adds tries.moves made.events ∙ ap (λ seen. events_of seen reg write answer) tries.adds.new_is);
      proper = λ p run. part_proper old new after op lrs answer part (IsAbout old reg write start) p made.up leads (at p run);
      goes_on = λ p run. part_runs old new after op lrs answer part (IsAbout old reg write start) p leads (at p run);
      answers = made.answers;
      light = λ light none. elim tries.kicked [
        | inl first ↦ (
            let near : IsNear mid reg write between.vcpu = record { free = ap (λ (stay : Stay). stay.vcpu.trapping) first.1 ∙ light.near.free; ends_none = ap (λ seen. ended_by (shape_of seen) seen.actor reg write) tries.adds.new_is ∙ light.near.ends_none } in
            let light_now : IsLight mid reg write between.vcpu = record { near = near; sends_none = light.sends_none; quiet = ap (λ (stay : Stay). misr_of (after_operation false reg write stay.vcpu.regs)) first.1 ∙ light.quiet } in
            ap (λ part. steps_of (part ++ made.part)) first.0 ∙ made.light light_now (ap (λ (stay : Stay). stay.owing) first.1))
        | inr found ↦ absurd (differ (finds_kick part) (kick_before tries.part made.part found) none)
      ];
      up = made.up;
      same = same_then before between.vcpu after tries.same made.same;
    }
  where
    differ : (b : Bool) → b ≡ true → b ≡ false → ⊥
    differ b t f = cc
