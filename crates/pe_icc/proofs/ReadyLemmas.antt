-- A vCPU gets ready for an access.
use Rattle.std.proofs.Common.{◌≡◌, ℕ, length, ◌==◌, ◌&&◌, ◌||◌, not, Bool, true, false, if◌then◌else◌, IsTrue, List, [], ◌∷◌, ◌++◌, Option, Some, None, is_some, is_none, nat_lt, unwrap_or, refl, sym, ap, subst, ◌∙◌, arith}
use Rattle.std.specs.List.{list_all}
use Rattle.std.specs.Option.{option_map_or}
use Rattle.std.proofs.lemmas.Option.{none-some}
use Rattle.std.proofs.lemmas.Bool.{eq-eqb, eqb-true}
use Rattle.pe_loop.specs.Words.{IccReg, Iar0, Iar1, Hppir0, Hppir1, Eoir0, Eoir1, Dir, Key, GuestShape, has_interrupt, is_of_vcpu, is_same_key, is_within, key_of, Private, Spi, Lpi, Irq as IrqRecord, is_number, IsIrq, packed}
use Rattle.pe_loop.specs.Registers.{intid_written}
use Rattle.pe_loop.proofs.GicBase.KeyLemmas.{same_itself}
use Rattle.pe_loop.specs.Calls.{Operation, named_of}
use Rattle.pe_loop.specs.Lists.{StandFor}
use Rattle.pe_loop.proofs.GicWord.WordLemmas.{irq_fits, packed_back}
use Rattle.pe_loop.specs.VcpuState.declared.loaded.Loaded.{Loaded}
use Rattle.pe_loop.specs.Core.{AtIrq, Local, Made, interface_of, is_ready, has_no_cand, is_at, is_vcpu, Seen, Adds, shape_of, part_events, IsIrqWord, Progress, Debt, after_end, ended_by, is_end_of, owing_after, asks_first, is_settled, may_access}
use Rattle.pe_loop.proofs.PortCore.PortLemmas.{adds_join}
use Rattle.pe_loop.proofs.PortCall.PieceLemmas.{seen_nil}
use Rattle.pe_loop.proofs.PortCall.TryLemmas.{none_append}
use Rattle.pe_loop.proofs.PortCall.TurnLemmas.{events_then}
use Rattle.pe_loop.specs.Stay.{IsOn, IsUp}
use Rattle.pe_loop.proofs.MoveLemmas.{both_moves}
use Rattle.pe_icc.specs.declared.stay.Stay.{Stay}
use Rattle.pe_icc.specs.Amid.{IsAble, IsSet, Leads, debt_of}
use Rattle.pe_icc.specs.Bare.{Gathers}
use Rattle.pe_icc.specs.First.{HasScanned, ScansFirst}
use Rattle.pe_icc.specs.Icc.{call_of, IsAbout, IsEnding, Prepares}
use Rattle.pe_icc.specs.Operate.{MayAsk}
use Rattle.pe_icc.specs.Prepare.{HasLooked, LooksFor, CanClaimFar, ClaimsFar}
use Rattle.pe_icc.specs.Ready.{CanTakeFar, MayEnd, ReadiesEnd, TakesFar}
use Rattle.pe_icc.proofs.AmidLemmas.{leads_nil, leads_then, leads_to}
use Rattle.pe_icc.proofs.FarLemmas.{no_cands}
use Rattle.pe_icc.proofs.IccLemmas.{same_then}

-- A vCPU that is set.

pub up_set : (seen : Seen) (vcpu : Loaded) → IsUp seen vcpu → IsSet seen vcpu
up_set seen vcpu up = record { on = up.on; lrs = up.lrs; ready = up.ready; free = up.free }

-- so it is after a step that leaves what the actor has for itself
set_same : (old new : Seen) (part : List Made) (vcpu : Loaded) → Adds old new part → new.local ≡ old.local → IsSet old vcpu → IsSet new vcpu
set_same old new part vcpu add local set =
    let on = set.on in
    let new_is = add.new_is in
    record {
      on =
          record {
            actor =
                record {
                  guest = ap (λ (seen : Seen). seen.number) new_is ∙ on.actor.guest;
                  number = ap (λ (seen : Seen). seen.actor) new_is ∙ on.actor.number;
                  is_one = ap (λ seen. is_vcpu (shape_of seen) seen.actor) new_is ∙ on.actor.is_one;
                };
            stands = subst (λ (local : Local). StandFor vcpu.regs vcpu.held (interface_of local)) (sym local) on.stands;
            cpu = on.cpu ∙ sym (ap (λ (local : Local). local.cpu) local);
            whole = ap (λ (local : Local). list_all (λ at. not at.given) local.at) local ∙ on.whole;
            settled = ap is_settled local ∙ on.settled;
          };
      lrs = set.lrs;
      ready = ap (λ (local : Local). is_ready local.phase) local ∙ set.ready;
      free = set.free;
    }

pub none_cands : (seen : Seen) (vcpu : Loaded) → IsOn seen vcpu → IsTrue (has_no_cand seen.local)
none_cands seen vcpu on = no_cands seen.local on.settled

-- An interrupt that was found active by the vCPU.

holder_none : (actor : ℕ) (holder act_by : Option ℕ) → is_number actor holder ≡ false → is_number actor act_by ≡ true → IsTrue (is_none holder || is_none act_by || option_map_or (λ vcpu. is_number vcpu holder) act_by true) → holder ≡ None
holder_none actor None act_by other active one = refl
holder_none actor (Some holder) None other active one = absurd (cc)
holder_none actor (Some holder) (Some active_by) other active one =
    let same : active_by ≡ actor = eqb-true active_by actor active in
    absurd (both (holder == actor) other (ap (λ n. holder == n) (sym same) ∙ one))
  where
    both : (b : Bool) → b ≡ false → b ≡ true → ⊥
    both b f t = cc

pub can_take : (old new : Seen) (vcpu : Loaded) (key : Key) (irq : IrqRecord) → IsSet old vcpu → IsTrue (has_interrupt (shape_of old) key) → IsTrue (is_of_vcpu old.actor key) → is_at key old.local.at ≡ false → (looks : LooksFor old new key irq) → is_number old.actor irq.act_by ≡ true → CanTakeFar new vcpu key irq
can_take old new vcpu key irq set there own away looks active =
    let new_is = looks.adds.new_is in
    let word = looks.word in
    let packs : packed irq ≡ looks.found = ap packed looks.irq_is ∙ packed_back looks.found word.word_is in
    let shape_is : shape_of new ≡ shape_of old = ap shape_of new_is in
    let actor_is : new.actor ≡ old.actor = ap (λ (seen : Seen). seen.actor) new_is in
    record {
      set = set_same old new looks.part vcpu looks.adds looks.same set;
      there = ap (λ shape. has_interrupt shape key) shape_is ∙ there;
      own = ap (λ actor. is_of_vcpu actor key) actor_is ∙ own;
      fits = subst IsIrq (sym looks.irq_is) (irq_fits looks.found word.word_is);
      word = subst (λ shape. IsIrqWord shape key (packed irq)) (sym shape_is) (subst (IsIrqWord (shape_of old) key) (sym packs) word);
      known_as = looks.known_as ∙ ap Some (sym packs);
      free =
          holder_none old.actor irq.holder irq.act_by (looks.free ∙ away) active
          (ap (λ (irq : IrqRecord). is_none irq.holder || is_none irq.act_by || option_map_or (λ vcpu. is_number vcpu irq.holder) irq.act_by true) looks.irq_is ∙ word.one);
      active = ap (λ actor. is_number actor irq.act_by) actor_is ∙ active;
    }

pub can_claim : (seen : Seen) (vcpu : Loaded) (key : Key) (irq : IrqRecord) → CanTakeFar seen vcpu key irq → seen.local.at ≡ [] → CanClaimFar seen vcpu key irq
can_claim seen vcpu key irq can empty =
    record { set = can.set; empty = empty; there = can.there; own = can.own; fits = can.fits; word = can.word; known_as = can.known_as; free = can.free; active = can.active }

-- after the vCPU gave all back
pub can_take_after : (old mid new : Seen) (before after : Loaded) (key : Key) (irq last : IrqRecord) → CanTakeFar old before key irq → (gathers : Gathers old mid before after) → LooksFor mid new key last → is_number mid.actor last.act_by ≡ true → CanClaimFar new after key last
can_take_after old mid new before after key irq last can gathers looks active =
    let mid_is = gathers.adds.new_is in
    can_claim new after key last
    (can_take mid new after key last gathers.set (ap (λ seen. has_interrupt (shape_of seen) key) mid_is ∙ can.there) (ap (λ (seen : Seen). is_of_vcpu seen.actor key) mid_is ∙ can.own) (ap (is_at key) gathers.empty) looks active)
    (ap (λ (local : Local). local.at) looks.same ∙ gathers.empty)

pub at_empty : (at slice : List AtIrq) → slice ≡ at → (length slice == 0) ≡ true → at ≡ []
at_empty [] slice is none = refl
at_empty (one ∷ rest) slice is none = let some : length (one ∷ rest) ≡ 0 = ap length (sym is) ∙ eqb-true (length slice) 0 none in absurd (omega (arith, some))

-- It may be ended.

claimed_may : (seen : Seen) (vcpu : Loaded) (operation : Operation) (debt : Debt) (key : Key) (p : Progress) → HasLooked seen vcpu operation debt false p → MayEnd seen vcpu operation debt key p
claimed_may seen vcpu operation debt key p has =
    record { able = has.able; known = ap (λ far. is_at key p.local.at || not (unwrap_or far true)) has.far ∙ or_true (is_at key p.local.at) }
  where
    or_true : (b : Bool) → (b || true) ≡ true
    or_true true = refl
    or_true false = refl

owing_end : (owing : Bool) → owing_after (debt_of owing) ≡ after_end
owing_end true = refl
owing_end false = refl

same_operation : (old new : Seen) (part : List Made) (operation : Operation) (key : Key) → Adds old new part → is_end_of (shape_of old) old.actor (Some operation) key ≡ true → is_end_of (shape_of new) new.actor (Some operation) key ≡ true
same_operation old new part operation key add ends = ap (λ seen. is_end_of (shape_of seen) seen.actor (Some operation) key) add.new_is ∙ ends

-- it is claimed at once
pub takes_here : (old new : Seen) (key : Key) (before : Stay) (after : Loaded) → ClaimsFar old new key before.vcpu after → TakesFar old new key before (record { vcpu = after; owing = true })
takes_here old new key before after claims =
    record {
      part = claims.part;
      adds = claims.adds;
      none_taken = claims.none_taken;
      moves = claims.moves;
      set = claims.set;
      same = claims.same;
      leads = λ operation ends.
          let Before : Progress → Type 0 = HasLooked old before.vcpu operation (debt_of before.owing) true in
          leads_to old claims.part Before (HasLooked new after operation after_end false) (MayEnd new after operation after_end key) (claimed_may new after operation after_end key)
          (subst (λ debt. Leads old claims.part Before (HasLooked new after operation debt false)) (owing_end before.owing) (claims.leads operation (debt_of before.owing) ends));
    }

-- two pieces
moves_then : (old mid : Seen) (early late : List Made) → Adds old mid early → named_of (Some old.actor) (part_events old early) ≡ [] → named_of (Some mid.actor) (part_events mid late) ≡ [] → named_of (Some old.actor) (part_events old (early ++ late)) ≡ []
moves_then old mid early late add one two =
    let actor : mid.actor ≡ old.actor = ap (λ (seen : Seen). seen.actor) add.new_is in
    ap (named_of (Some old.actor)) (events_then old mid early late add)
    ∙ both_moves (Some old.actor) (part_events old early) (part_events mid late) one (ap (λ actor. named_of (Some actor) (part_events mid late)) (sym actor) ∙ two)

-- the vCPU gave all back and looked again: it is inactive by now
pub gathered_inactive : (old mid new : Seen) (key : Key) (before : Stay) (after : Loaded) (irq : IrqRecord) → Gathers old mid before.vcpu after → LooksFor mid new key irq → is_number mid.actor irq.act_by ≡ false → TakesFar old new key before (record { vcpu = after; owing = true })
gathered_inactive old mid new key before after irq gathers looks inactive =
    record {
      part = gathers.part ++ looks.part;
      adds = adds_join old mid new gathers.part looks.part gathers.adds looks.adds;
      none_taken = none_append gathers.part looks.part gathers.none_taken looks.none_taken;
      moves = moves_then old mid gathers.part looks.part gathers.adds gathers.moves (ap (named_of (Some mid.actor)) looks.silent);
      set = set_same mid new looks.part after looks.adds looks.same gathers.set;
      same = gathers.same;
      leads = λ operation ends.
          let Before : Progress → Type 0 = HasLooked old before.vcpu operation (debt_of before.owing) true in
          let Able : Progress → Type 0 = IsAble mid after operation after_end in
          leads_then old mid gathers.part looks.part Before Able (MayEnd new after operation after_end key) gathers.adds (gathers.leads operation (debt_of before.owing))
          (leads_to mid looks.part Able (HasLooked new after operation after_end false) (MayEnd new after operation after_end key) (claimed_may new after operation after_end key)
          (subst (λ active. Leads mid looks.part Able (HasLooked new after operation after_end active)) inactive (looks.leads after operation after_end (same_operation old mid gathers.part operation key gathers.adds ends))));
    }

-- or it is claimed then
pub gathered_claimed : (old mid mid2 new : Seen) (key : Key) (before : Stay) (gathered after : Loaded) (irq : IrqRecord) → Gathers old mid before.vcpu gathered → LooksFor mid mid2 key irq → is_number mid.actor irq.act_by ≡ true → ClaimsFar mid2 new key gathered after
    → TakesFar old new key before (record { vcpu = after; owing = true })
gathered_claimed old mid mid2 new key before gathered after irq gathers looks active claims =
    let late = looks.part ++ claims.part in
    let adds_late : Adds mid new late = adds_join mid mid2 new looks.part claims.part looks.adds claims.adds in
    record {
      part = gathers.part ++ late;
      adds = adds_join old mid new gathers.part late gathers.adds adds_late;
      none_taken = none_append gathers.part late gathers.none_taken (none_append looks.part claims.part looks.none_taken claims.none_taken);
      moves = moves_then old mid gathers.part late gathers.adds gathers.moves (moves_then mid mid2 looks.part claims.part looks.adds (ap (named_of (Some mid.actor)) looks.silent) claims.moves);
      set = claims.set;
      same = same_then before.vcpu gathered after gathers.same claims.same;
      leads = λ operation ends.
          let Before : Progress → Type 0 = HasLooked old before.vcpu operation (debt_of before.owing) true in
          let Able : Progress → Type 0 = IsAble mid gathered operation after_end in
          let Looked : Progress → Type 0 = HasLooked mid2 gathered operation after_end true in
          let ends_mid = same_operation old mid gathers.part operation key gathers.adds ends in
          leads_then old mid gathers.part late Before Able (MayEnd new after operation after_end key) gathers.adds (gathers.leads operation (debt_of before.owing))
          (leads_then mid mid2 looks.part claims.part Able Looked (MayEnd new after operation after_end key) looks.adds
          (subst (λ active. Leads mid looks.part Able (HasLooked mid2 gathered operation after_end active)) active (looks.leads gathered operation after_end ends_mid))
          (leads_to mid2 claims.part Looked (HasLooked new after operation after_end false) (MayEnd new after operation after_end key) (claimed_may new after operation after_end key)
          (claims.leads operation after_end (same_operation mid mid2 looks.part operation key looks.adds ends_mid))));
    }

-- The first look.

pub ready_near : (seen : Seen) (key : Key) (stay : Stay) → IsUp seen stay.vcpu → is_at key seen.local.at ≡ true → ReadiesEnd seen seen key stay stay
ready_near seen key stay up near =
    record {
      part = [];
      adds = record { new_is = sym (seen_nil seen) };
      none_taken = refl;
      moves = refl;
      set = up_set seen stay.vcpu up;
      same = record { base = refl; lrs = refl };
      leads = λ operation ends.
          let Able : Progress → Type 0 = IsAble seen stay.vcpu operation (debt_of stay.owing) in
          leads_to seen [] Able Able (MayEnd seen stay.vcpu operation (debt_of stay.owing) key)
          (λ p able. record { able = able; known = ap (λ (local : Local). is_at key local.at || not (unwrap_or p.far true)) able.amid.rest.local ∙ ap (λ b. b || not (unwrap_or p.far true)) near }) (leads_nil seen Able);
    }

pub ready_inactive : (old new : Seen) (key : Key) (stay : Stay) (irq : IrqRecord) → IsUp old stay.vcpu → LooksFor old new key irq → is_number old.actor irq.act_by ≡ false → ReadiesEnd old new key stay stay
ready_inactive old new key stay irq up looks inactive =
    record {
      part = looks.part;
      adds = looks.adds;
      none_taken = looks.none_taken;
      moves = ap (named_of (Some old.actor)) looks.silent;
      set = set_same old new looks.part stay.vcpu looks.adds looks.same (up_set old stay.vcpu up);
      same = record { base = refl; lrs = refl };
      leads = λ operation ends.
          let debt = debt_of stay.owing in
          let Able : Progress → Type 0 = IsAble old stay.vcpu operation debt in
          leads_to old looks.part Able (HasLooked new stay.vcpu operation debt false) (MayEnd new stay.vcpu operation debt key) (claimed_may new stay.vcpu operation debt key)
          (subst (λ active. Leads old looks.part Able (HasLooked new stay.vcpu operation debt active)) inactive (looks.leads stay.vcpu operation debt ends));
    }

pub ready_far : (old mid new : Seen) (key : Key) (before after : Stay) (irq : IrqRecord) → LooksFor old mid key irq → is_number old.actor irq.act_by ≡ true → TakesFar mid new key before after → ReadiesEnd old new key before after
ready_far old mid new key before after irq looks active takes =
    record {
      part = looks.part ++ takes.part;
      adds = adds_join old mid new looks.part takes.part looks.adds takes.adds;
      none_taken = none_append looks.part takes.part looks.none_taken takes.none_taken;
      moves = moves_then old mid looks.part takes.part looks.adds (ap (named_of (Some old.actor)) looks.silent) takes.moves;
      set = takes.set;
      same = takes.same;
      leads = λ operation ends.
          let debt = debt_of before.owing in
          let Able : Progress → Type 0 = IsAble old before.vcpu operation debt in
          let Looked : Progress → Type 0 = HasLooked mid before.vcpu operation debt true in
          leads_then old mid looks.part takes.part Able Looked (MayEnd new after.vcpu operation (debt_of after.owing) key) looks.adds
          (subst (λ active. Leads old looks.part Able (HasLooked mid before.vcpu operation debt active)) active (looks.leads before.vcpu operation debt ends))
          (takes.leads operation (same_operation old mid looks.part operation key looks.adds ends));
    }

-- The interrupt that an access ends is one of the guest's that the vCPU can get to.
pub record IsEnded (shape : GuestShape) (vcpu : ℕ) (key : Key) : Type 0 where
  pub there : IsTrue (has_interrupt shape key)
  pub own : IsTrue (is_of_vcpu vcpu key)

key_there : (id vcpu : ℕ) (shape : GuestShape) (key : Key) → key_of id vcpu shape ≡ Some key → IsEnded shape vcpu key
key_there id vcpu shape key is = of (nat_lt id 32) refl (nat_lt vcpu shape.vcpus) refl (is_within 32 shape.spis id || is_within 4096 shape.espis id) refl (is_within 8192 shape.lpis id) refl is
  where
    of : (a : Bool) → nat_lt id 32 ≡ a → (b : Bool) → nat_lt vcpu shape.vcpus ≡ b → (c : Bool) → (is_within 32 shape.spis id || is_within 4096 shape.espis id) ≡ c → (d : Bool) → is_within 8192 shape.lpis id ≡ d
        → (if a then (if b then Some (Private vcpu id) else None) else (if c then Some (Spi id) else (if d then Some (Lpi id) else None))) ≡ Some key → IsEnded shape vcpu key
    of true a true b c f d g e =
        let same : Private vcpu id ≡ key = cc in
        subst (IsEnded shape vcpu) same (record { there = ap (λ x. x && nat_lt id 32) b ∙ a; own = eq-eqb vcpu vcpu refl })
    of true a false b c f d g e = absurd (cc)
    of false a b h true f d g e = let same : Spi id ≡ key = cc in subst (IsEnded shape vcpu) same (record { there = f; own = refl })
    of false a b h false f true g e = let same : Lpi id ≡ key = cc in subst (IsEnded shape vcpu) same (record { there = g; own = refl })
    of false a b h false f false g e = absurd (cc)

pub ended_there : (shape : GuestShape) (vcpu : ℕ) (reg : IccReg) (write : Option ℕ) (key : Key) → ended_by shape vcpu reg write ≡ Some key → IsEnded shape vcpu key
ended_there shape vcpu Eoir0 (Some value) key e = key_there (intid_written value) vcpu shape key e
ended_there shape vcpu Eoir1 (Some value) key e = key_there (intid_written value) vcpu shape key e
ended_there shape vcpu Dir (Some value) key e = key_there (intid_written value) vcpu shape key e
ended_there shape vcpu reg write key e = absurd (cc)

-- Any access.

-- an end of interrupt asks for no interrupt
ends_ask : (shape : GuestShape) (vcpu : ℕ) (reg : IccReg) (write : Option ℕ) (key : Key) → ended_by shape vcpu reg write ≡ Some key → asks_first reg ≡ false
ends_ask shape vcpu Iar0 write key e = absurd (cc)
ends_ask shape vcpu Iar1 write key e = absurd (cc)
ends_ask shape vcpu Hppir0 write key e = absurd (cc)
ends_ask shape vcpu Hppir1 write key e = absurd (cc)
ends_ask shape vcpu reg write key e = refl

owed_may : (owing : Bool) (ended : Option Key) → (owing ≡ true → is_some ended ≡ true) → IsTrue (may_access (debt_of owing) ended)
owed_may true ended so = so refl
owed_may false ended so = refl

end_asks : (new : Seen) (vcpu : Loaded) (reg : IccReg) (write : Option ℕ) (owing : Bool) (key : Key) (p : Progress) → ended_by (shape_of new) new.actor reg write ≡ Some key → MayEnd new vcpu (call_of reg write) (debt_of owing) key p → MayAsk new vcpu (call_of reg write) (debt_of owing) reg write p
end_asks new vcpu reg write owing key p is may =
    let shape = shape_of new in
    let actor = new.actor in
    let amid = may.able.amid in
    let ends : is_end_of shape actor p.operation key ≡ true
    = ap (λ operation. is_end_of shape actor operation key) amid.operation_is ∙ ap (λ o. option_map_or (is_same_key key) o false) is ∙ same_itself key in
    record {
      able = may.able;
      trap = ap (λ b. not (p.trapping && b) || p.scanned) (ends_ask shape actor reg write key is) ∙ untrapped p.trapping p.scanned;
      far =
          ap (λ o. option_map_or (λ key. is_at key p.local.at || (is_end_of shape actor p.operation key && not (unwrap_or p.far true))) o true) is
          ∙ ap (λ b. is_at key p.local.at || (b && not (unwrap_or p.far true))) ends
          ∙ may.known;
      refill = owed_may owing (ended_by shape actor reg write) (λ on. ap is_some is);
    }
  where
    untrapped : (a b : Bool) → (not (a && false) || b) ≡ true
    untrapped true b = refl
    untrapped false b = refl

pub prepared_end : (old new : Seen) (reg : IccReg) (write : Option ℕ) (before after : Stay) (key : Key) → ended_by (shape_of old) old.actor reg write ≡ Some key → ReadiesEnd old new key before after → Prepares old new reg write before after
prepared_end old new reg write before after key is ready =
    let op = call_of reg write in
    let is_new : ended_by (shape_of new) new.actor reg write ≡ Some key = ap (λ seen. ended_by (shape_of seen) seen.actor reg write) ready.adds.new_is ∙ is in
    let ends : is_end_of (shape_of old) old.actor (Some op) key ≡ true = ap (λ o. option_map_or (is_same_key key) o false) is ∙ same_itself key in
    record {
      part = ready.part;
      adds = ready.adds;
      none_taken = ready.none_taken;
      moves = ready.moves;
      set = ready.set;
      same = ready.same;
      ending = λ on. ap is_some is;
      light = λ near. absurd (none-some key (sym near.ends_none ∙ is));
      leads =
          leads_to old ready.part (IsAbout old reg write before) (MayEnd new after.vcpu op (debt_of after.owing) key) (MayAsk new after.vcpu op (debt_of after.owing) reg write)
          (λ p may. end_asks new after.vcpu reg write after.owing key p is_new may) (ready.leads op ends);
    }

-- the scan of trap mode
pub prepared_first : (old new : Seen) (reg : IccReg) (write : Option ℕ) (before : Stay) (after : Loaded) → (before.vcpu.trapping && asks_first reg) ≡ true → ended_by (shape_of old) old.actor reg write ≡ None → IsEnding old reg write before.owing → ScansFirst old new before.vcpu after → Prepares old new reg write before (record { vcpu = after; owing = before.owing })
prepared_first old new reg write before after asks is ending scans =
    let op = call_of reg write in
    let debt = debt_of before.owing in
    let is_new : ended_by (shape_of new) new.actor reg write ≡ None = ap (λ seen. ended_by (shape_of seen) seen.actor reg write) scans.adds.new_is ∙ is in
    record {
      part = scans.part;
      adds = scans.adds;
      none_taken = scans.none_taken;
      moves = scans.moves;
      set = scans.set;
      same = scans.same;
      ending = ending;
      light = λ near. absurd (trapped before.vcpu.trapping (asks_first reg) asks near.free);
      leads =
          leads_to old scans.part (IsAbout old reg write before) (HasScanned new after op debt) (MayAsk new after op debt reg write)
          (λ p has. record {
            able = has.able;
            trap = ap (λ b. not (p.trapping && asks_first reg) || b) has.scanned ∙ or_true (not (p.trapping && asks_first reg));
            far = ap (λ o. option_map_or (λ key. is_at key p.local.at || (is_end_of (shape_of new) new.actor p.operation key && not (unwrap_or p.far true))) o true) is_new;
            refill = owed_may before.owing (ended_by (shape_of new) new.actor reg write) (λ on. ap (λ seen. is_some (ended_by (shape_of seen) seen.actor reg write)) scans.adds.new_is ∙ ending on);
          }) (scans.leads op debt);
    }
  where
    or_true : (b : Bool) → (b || true) ≡ true
    or_true true = refl
    or_true false = refl

    trapped : (a b : Bool) → (a && b) ≡ true → a ≡ false → ⊥
    trapped true b t f = cc
    trapped false b t f = cc

-- nothing is to be done
pub prepared_not : (seen : Seen) (reg : IccReg) (write : Option ℕ) (stay : Stay) → ended_by (shape_of seen) seen.actor reg write ≡ None → IsEnding seen reg write stay.owing → IsUp seen stay.vcpu → (stay.vcpu.trapping && asks_first reg) ≡ false → Prepares seen seen reg write stay stay
prepared_not seen reg write stay is ending up free =
    let op = call_of reg write in
    let debt = debt_of stay.owing in
    record {
      part = [];
      adds = record { new_is = sym (seen_nil seen) };
      none_taken = refl;
      moves = refl;
      set = up_set seen stay.vcpu up;
      same = record { base = refl; lrs = refl };
      ending = ending;
      light = λ near. (refl, refl);
      leads =
          leads_to seen [] (IsAbout seen reg write stay) (IsAbout seen reg write stay) (MayAsk seen stay.vcpu op debt reg write)
          (λ p able. record {
            able = able;
            trap = ap (λ trapping. not (trapping && asks_first reg) || p.scanned) able.trapping ∙ ap (λ b. not b || p.scanned) free;
            far = ap (λ o. option_map_or (λ key. is_at key p.local.at || (is_end_of (shape_of seen) seen.actor p.operation key && not (unwrap_or p.far true))) o true) is;
            refill = owed_may stay.owing (ended_by (shape_of seen) seen.actor reg write) ending;
          }) (leads_nil seen (IsAbout seen reg write stay));
    }
