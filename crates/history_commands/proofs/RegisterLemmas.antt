-- The register's part of a write of the ITS, as the program finds it.
use Rattle.std.proofs.Common.{◌≡◌, ◌↔◌, ℕ, zero, suc, ◌+◌, ◌<◌, ◌≤◌, ◌==◌, ◌&&◌, not, Bool, true, false, cond, IsTrue, List, [], ◌∷◌, ◌++◌, map, take, drop, length, get_or, All, Option, Some, None, refl, sym, ap, ap₂, ◌∙◌, subst, arith, append-nil, length-append, take-append-drop}
use Rattle.std.specs.List.{list_all}
use Rattle.std.proofs.lemmas.Grind.{common_steps}
use Rattle.std.proofs.lemmas.Bool.{and_parts, and_from, or_left, or_right}
use Rattle.history_commands.specs.Words.{GuestShape, Its as ItsFrame}
use Rattle.history_commands.specs.Registers.{Maps, Half, has_lpis}
use Rattle.history_commands.specs.GicImap.Map.{decoded as its_decoded}
use Rattle.history_commands.specs.GicImap.declared.map.Reg.{Reg as ItsReg}
use Rattle.history_commands.specs.GicImap.declared.map.Reg.TheVariants.{Ctlr as ItsCtlrReg}
use Rattle.history_commands.specs.GicImap.declared.map.RegRef.{RegRef as ItsRef}
use Rattle.history_commands.specs.GicImap.declared.map.RegRef.TheVariants.{Plain as ItsPlain, Reserved as ItsReserved}
use Rattle.history_commands.specs.Calls.{Event, Found, Happened, Place, View, HandsOut, IsLastRead, Makes, held_at, is_beside, named_of, its_events, its_places, its_starts, its_written, its_written_by}
use Rattle.history_commands.specs.HistoryCalls.Counted.{IsUncounted}
use Rattle.history_commands.specs.HistoryCalls.Found.{found_by, last_found, reads}
use Rattle.history_calls.proofs.FoundLemmas.{read_found, found_read}
use Rattle.history_commands.specs.declared.its.Its.{Its}
use Rattle.history_commands.specs.Known.{its_in}
use Rattle.history_commands.specs.Stage.{Stage, Between, Ending, Follow}
use Rattle.history_commands.specs.Written.{starting, IsWritten}
use Rattle.history_commands.specs.Followed.{stage_from}
use Rattle.history_commands.specs.Writing.{is_of_its, may_be_written, IsRegisterMade, IsWrittenAt}
use Rattle.history_commands.proofs.StepLemmas.{events_in}
use Rattle.history_commands.proofs.WriteLemmas.{write_of_its}

pub read_so : (place : Place) (found : Found) (piece : List Happened) (b : Bool) → IsTrue b ↔ (last_found (reads place) piece ≡ Some found) → IsTrue b ↔ IsLastRead place found piece
read_so place found piece b so = (λ h. found_read place found piece (so.0 h), λ is. so.1 (read_found place found piece is))

-- The events.

pub not_these : (actor : Option ℕ) (view : View) (events : List Event) (piece : List Happened) → IsUncounted actor view events piece → IsTrue false ↔ IsRegisterMade actor view events piece
not_these actor view events piece none = (λ h. absurd (cc), λ is. absurd (none [] (append-nil (events_in (named_of actor piece)) ∙ is.events_are) is.found))

abbrev pub AreRead : GuestShape → ItsRef → ℕ → List Happened → Type 0
AreRead shape ref value piece = All (λ place. IsLastRead place (held_at (found_by piece) place) piece) (its_places shape ref (Some value))

abbrev pub IsMade : GuestShape → ℕ → ItsRef → ℕ → List Happened → Type 0
IsMade shape actor ref value piece = Makes (Some actor) (found_by piece) (its_events shape (found_by piece) ref (Some value)) (its_places shape ref (Some value)) [] piece

module _ (shape : GuestShape) (actor : ℕ) (ref : ItsRef) (value : ℕ) (piece : List Happened) (events : List Event) (are : events ≡ its_events shape (found_by piece) ref (Some value)) where
  pub these_of_its : list_all is_of_its events ≡ true
  these_of_its = ap (list_all is_of_its) are ∙ write_of_its shape (found_by piece) ref value

  pub unmade : (b : Bool) → b ≡ false → IsTrue b ↔ IsRegisterMade (Some actor) (found_by piece) events piece → IsTrue false ↔ IsMade shape actor ref value piece
  unmade b e so = (λ h. absurd (cc), λ is. let yes = so.1 (record { events_are = is.events_are ∙ sym are; found = is.found }) in absurd (cc))

  pub made_decided : (b read : Bool) → b ≡ true → IsTrue b ↔ IsRegisterMade (Some actor) (found_by piece) events piece → IsTrue read ↔ AreRead shape ref value piece → IsTrue read ↔ IsMade shape actor ref value piece
  made_decided b read e so was = (λ h. let is = so.0 e in record { events_are = is.events_are ∙ are; found = is.found; reads = was.0 h }, λ is. was.1 is.reads)

-- The commands that it starts.

nothing_of : (n : ℕ) → (n == 0) ≡ true → n ≡ 0
nothing_of n h = grind (arith, common_steps, h)

lpis_there : (n : ℕ) → (n ≡ 0 → ⊥) → not (n == 0) ≡ true
lpis_there n some = of (n == 0) refl
  where
    of : (b : Bool) → (n == 0) ≡ b → not b ≡ true
    of true e = absurd (some (nothing_of n e))
    of false e = refl

pub start_ctlr : (shape : GuestShape) (view : View) (reg : ItsReg) (half : Half) (value : ℕ) (ref : ItsRef) (its : Its) → ref ≡ ItsPlain reg half → reg ≡ ItsCtlrReg → (shape.lpis ≡ 0 → ⊥) → its ≡ its_in (its_written_by shape view (its_written view ItsCtlrReg half value))
    → Some its ≡ cond (its_starts shape view ref (Some value)) (Some (its_in (its_written_by shape view (its_events shape view ref (Some value))))) None
start_ctlr shape view reg half value ref its e r l s = subst (λ ref. Start ref) (sym (e ∙ ap (λ reg. ItsPlain reg half) r)) (of (has_lpis shape) (lpis_there shape.lpis l))
  where
    Start : ItsRef → Type 0
    Start ref = Some its ≡ cond (its_starts shape view ref (Some value)) (Some (its_in (its_written_by shape view (its_events shape view ref (Some value))))) None

    of : (b : Bool) → b ≡ true → Some its ≡ cond (b && true) (Some (its_in (its_written_by shape view (cond b (its_written view ItsCtlrReg half value) [])))) None
    of true k = ap Some s
    of false k = absurd (cc)

stage_start : (maps : Maps) (its : Its) (b : Bool) → stage_from maps (cond b (Some its) None) ≡ cond b (Between 0 its maps []) Ending
stage_start maps its true = refl
stage_start maps its false = refl

-- One cut.

module _ (shape : GuestShape) (maps : Maps) (targets : ℕ → ℕ → Option ℕ) (actor : ℕ) (ref : ItsRef) (value : ℕ) (is_open : Bool) (written later : List Happened) (offset size : ℕ) (same : ref ≡ its_decoded offset size) where
  abbrev At : Type 0
  At = IsWrittenAt shape maps targets actor offset size value is_open written later

  moved : IsMade shape actor ref value written → IsMade shape actor (its_decoded offset size) value written
  moved is = subst (λ r. IsMade shape actor r value written) same is

  pub unwritten : (b : Bool) → b ≡ false → IsTrue b ↔ IsMade shape actor ref value written → IsTrue false ↔ At
  unwritten b e so = (λ h. absurd (cc), λ is. let yes = so.1 (subst (λ r. IsMade shape actor r value written) (sym same) is.made) in absurd (cc))

  pub written_decided : (start : Option Its) → start ≡ cond (its_starts shape (found_by written) ref (Some value)) (Some (its_in (its_written_by shape (found_by written) (its_events shape (found_by written) ref (Some value))))) None
      → (b ok : Bool) → b ≡ true → IsTrue b ↔ IsMade shape actor ref value written → IsTrue ok ↔ Follow shape targets actor is_open (stage_from maps start) later → IsTrue ok ↔ At
  written_decided start s b ok e so follow =
      let stage : stage_from maps start ≡ starting shape (found_by written) maps offset size value =
      ap (stage_from maps) s ∙ stage_start maps _ (its_starts shape (found_by written) ref (Some value))
      ∙ ap (λ r. cond (its_starts shape (found_by written) r (Some value)) (Between 0 (its_in (its_written_by shape (found_by written) (its_events shape (found_by written) r (Some value)))) maps []) Ending) same in (
        λ h. record { made = moved (so.0 e); follow = subst (λ s. Follow shape targets actor is_open s later) stage (follow.0 h) },
        λ is. follow.1 (subst (λ s. Follow shape targets actor is_open s later) (sym stage) is.follow),
      )

-- How far the register's part can go.

pub reach_here : (p : Happened → Bool) (piece before after : List Happened) (i : ℕ) (one : Happened) → piece ≡ before ++ after → list_all p before ≡ true → get_or piece i one ≡ one → p one ≡ false → length before ≤ i
reach_here p piece before after i one split all at other = of before i all (ap (λ xs. get_or xs i one) (sym split) ∙ at)
  where
    of : (before : List Happened) (i : ℕ) → list_all p before ≡ true → get_or (before ++ after) i one ≡ one → length before ≤ i
    of [] i all at = omega arith
    of (x ∷ before) zero all at = let yes = (and_parts (p x) (list_all p before) all).0 in let is = ap p at in absurd (cc)
    of (x ∷ before) (suc i) all at = let rest = of before i (and_parts (p x) (list_all p before) all).1 at in omega (arith, rest)

pub reach_all : (piece before after : List Happened) → piece ≡ before ++ after → length before ≤ length piece
reach_all piece before after split = let both = ap length split ∙ length-append before after in omega (arith, both)

all_may : (actor : Option ℕ) (piece : List Happened) → list_all is_of_its (events_in (named_of actor piece)) ≡ true → list_all (λ (h : Happened). may_be_written actor h.event) piece ≡ true
all_may actor [] h = refl
all_may actor (one ∷ piece) h = of (is_beside actor one.event) refl h (all_may actor piece)
  where
    of : (b : Bool) → is_beside actor one.event ≡ b → list_all is_of_its (events_in (cond (not b) (one ∷ named_of actor piece) (named_of actor piece))) ≡ true
        → (list_all is_of_its (events_in (named_of actor piece)) ≡ true → list_all (λ (h : Happened). may_be_written actor h.event) piece ≡ true) → list_all (λ (h : Happened). may_be_written actor h.event) (one ∷ piece) ≡ true
    of true e k more = and_from (may_be_written actor one.event) (list_all (λ (h : Happened). may_be_written actor h.event) piece) (or_left (is_beside actor one.event) (is_of_its one.event) e) (more k)
    of false e k more =
        let both = and_parts (is_of_its one.event) (list_all is_of_its (events_in (named_of actor piece))) k in
        and_from (may_be_written actor one.event) (list_all (λ (h : Happened). may_be_written actor h.event) piece) (or_right (is_beside actor one.event) (is_of_its one.event) both.0) (more both.1)

-- All cuts.

take_front : (before after : List Happened) → take (length before) (before ++ after) ≡ before
take_front [] after = refl
take_front (x ∷ before) after = ap (λ xs. x ∷ xs) (take_front before after)

drop_front : (before after : List Happened) → drop (length before) (before ++ after) ≡ after
drop_front [] after = refl
drop_front (x ∷ before) after = drop_front before after

module _ (shape : GuestShape) (maps : Maps) (targets : ℕ → ℕ → Option ℕ) (actor offset size value : ℕ) (is_open : Bool) (piece : List Happened) where
  abbrev pub IsCut : ℕ → Type 0
  IsCut cut = IsWrittenAt shape maps targets actor offset size value is_open (take cut piece) (drop cut piece)

  pub cut_written : (cut : ℕ) → IsCut cut → IsWritten shape maps targets actor offset size value is_open piece
  cut_written cut is = record { written = take cut piece; later = drop cut piece; split = sym (take-append-drop cut piece); made = is.made; follow = is.follow }

  pub no_cut : (most : ℕ) → ((before after : List Happened) → piece ≡ before ++ after → list_all (λ (h : Happened). may_be_written (Some actor) h.event) before ≡ true → length before ≤ most) → ((cut : ℕ) → cut < most + 1 → IsCut cut → ⊥)
      → IsTrue false ↔ IsWritten shape maps targets actor offset size value is_open piece
  no_cut most reach none = (
    λ h. absurd (cc),
    λ is.
        let of_its = ap (list_all is_of_its) is.made.events_are ∙ write_of_its shape (found_by is.written) (its_decoded offset size) value in
        let far = reach is.written is.later is.split (all_may (Some actor) is.written of_its) in
        let front = ap (take (length is.written)) is.split ∙ take_front is.written is.later in
        let back = ap (drop (length is.written)) is.split ∙ drop_front is.written is.later in
        let at : IsWrittenAt shape maps targets actor offset size value is_open is.written is.later = record { made = is.made; follow = is.follow } in
        absurd (none (length is.written) (omega (arith, far)) (subst (λ one. IsWrittenAt shape maps targets actor offset size value is_open one (drop (length is.written) piece)) (sym front) (subst (λ other. IsWrittenAt shape maps targets actor offset size value is_open is.written other) (sym back) at))),
  )
