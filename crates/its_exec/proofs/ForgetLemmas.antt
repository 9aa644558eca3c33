-- The events of a device are forgotten, one after the other.
use Rattle.std.proofs.Common.{◌≡◌, ℕ, ◌+◌, ◌%◌, ◌<◌, ◌==◌, ◌||◌, Bool, true, false, nat_lt, nat_le, IsTrue, IsSome, List, [], ◌∷◌, ◌++◌, length, Option, Some, None, append-nil, refl, sym, ap, subst, ◌∙◌, arith}
use Rattle.std.proofs.lemmas.Bool.{and_parts, eq-eqb, ltb-true}
use Rattle.std.proofs.lemmas.List.{append_assoc, map-append}
use Rattle.port_call.specs.Words.{Lpi, GuestShape, has_interrupt}
use Rattle.port_call.specs.Calls.{Part, each, parts, lpis_of_device}
use Rattle.port_call.specs.GicCall.declared.command.Part.TheVariants.{Forget}
use Rattle.port_call.specs.Registers.{Command, without_events, Maps, pair_of, first_event, without_event, IsSound}
use Rattle.port_call.proofs.GicCall.DeviceLemmas.{first_lpi, lpis_over}
use Rattle.port_call.proofs.ItsTab.TableLemmas.{pair_of-without_event, sound-without_event}
use Rattle.port_call.proofs.ItsTab.CarryLemmas.{without_events-without_event, without_events-none, fewer_events, first_event-without_events}
use Rattle.port_call.specs.Core.{Local, Seen, shape_of}
use Rattle.port_call.specs.Memory.{view_by}
use Rattle.port_call.specs.Rest.{IsAtEase, StaysAtEase}
use Rattle.port_call.proofs.RestLemmas.{ease_owes, owes_none}
use Rattle.its_exec.specs.declared.fetch.Fetched.{Fetched}
use Rattle.its_exec.specs.Command.{has_part, DoesParts}
use Rattle.its_exec.specs.Config.{HoldsCommand}
use Rattle.its_exec.specs.Plan.{HasLpis, ForgetsEvent, ForgetsAll, lpis_end}
use Rattle.its_exec.proofs.ConfigLemmas.{holds_on}
use Rattle.its_exec.proofs.CommandLemmas.{IsAmong, parts_none, parts_one, parts_join}

-- What is known while they are forgotten.

pub record Forgetting (old now : Seen) (fetched : Fetched) (was maps : Maps) (device : ℕ) : Type 0 where
  pub done : List ℕ
  pub shape : shape_of now ≡ shape_of old
  pub all : lpis_of_device was device ≡ done ++ lpis_of_device maps device
  pub rest : without_events maps device ≡ without_events was device
  pub sound : IsSound maps
  pub lpis : HasLpis (shape_of now) maps
  pub ease : IsAtEase now.local
  pub holds : HoldsCommand now fetched
  pub does :
      (known : Maps) (command : Command) → ((targets : ℕ → Option ℕ) → parts (shape_of old) known targets command ≡ each (lpis_of_device was device) Forget)
      → DoesParts old now fetched.address known command (lpis_end (shape_of old)) (each done Forget)

pub forgetting_none : (seen : Seen) (fetched : Fetched) (maps : Maps) (device : ℕ) → IsSound maps → HasLpis (shape_of seen) maps → IsAtEase seen.local → HoldsCommand seen fetched → Forgetting seen seen fetched maps maps device
forgetting_none seen fetched maps device sound lpis ease holds =
    record {
      done = [];
      shape = refl;
      all = refl;
      rest = refl;
      sound = sound;
      lpis = lpis;
      ease = ease;
      holds = holds;
      does = λ known command are. parts_none seen fetched.address known command (lpis_end (shape_of seen)) (owes_none seen.local ease.owes).marks;
    }

-- at ease again
pub ease_after : (before after : Local) → StaysAtEase before after → IsAtEase before → IsAtEase after
ease_after before after stays ease = record { owes = ease_owes before after stays ease.owes; empty = ap (λ l. l.at) stays.same ∙ ease.empty }

or_true : (a b : Bool) → b ≡ true → (a || b) ≡ true
or_true true b h = refl
or_true false b h = h

-- one of the LPIs
pub has_forgotten : (done rest : List ℕ) (id : ℕ) → has_part id (each (done ++ id ∷ rest) Forget) ≡ true
has_forgotten [] rest id = ap (λ b. b || has_part id (each rest Forget)) (eq-eqb id id refl)
has_forgotten (n ∷ done) rest id = or_true (n == id) (has_part id (each (done ++ id ∷ rest) Forget)) (has_forgotten done rest id)

pub below_end : (shape : GuestShape) (id : ℕ) → IsTrue (has_interrupt shape (Lpi id)) → id < lpis_end shape
below_end shape id there = ltb-true id (8192 + shape.lpis) (and_parts (nat_le 8192 id) (nat_lt id (8192 + shape.lpis)) there).1

lpis_without : (shape : GuestShape) (maps : Maps) (event : ℕ × ℕ) → IsSound maps → HasLpis shape maps → HasLpis shape (without_event maps event)
lpis_without shape maps event sound lpis = record { each = λ q w at. lpis.each q w (pair_of-without_event maps event q w sound at) }

pub forgetting_more :
    (old now next : Seen) (fetched : Fetched) (was maps new : Maps) (device event : ℕ) → (shape_of old).ram % 8 ≡ 0 → first_event maps device ≡ Some event → new ≡ without_event maps (device, event)
    → ForgetsEvent now next fetched.address maps (device, event) → Forgetting old now fetched was maps device → Forgetting old next fetched was new device
forgetting_more old now next fetched was maps new device event whole found is does so =
    let same_now = so.shape in
    let same_next : shape_of next ≡ shape_of now = ap shape_of does.does.adds.new_is in
    let id = does.pair.0 in
    let there : IsTrue (has_interrupt (shape_of now) (Lpi id)) = so.lpis.each (device, event) does.pair does.is in
    let left : lpis_of_device maps device ≡ id ∷ lpis_of_device new device = first_lpi maps device event does.pair found does.is ∙ ap (λ m. id ∷ lpis_of_device m device) (sym is) in
    let split : lpis_of_device was device ≡ so.done ++ id ∷ lpis_of_device new device = so.all ∙ ap (λ ids. so.done ++ ids) left in
    let Sound : Maps → Type 0 = IsSound in
    let Lpis : Maps → Type 0 = λ m. HasLpis (shape_of next) m in
    let Shaped : GuestShape → Type 0 = λ shape. HasLpis shape (without_event maps (device, event)) in
    record {
      done = so.done ++ id ∷ [];
      shape = same_next ∙ same_now;
      all = split ∙ sym (append_assoc so.done (id ∷ []) (lpis_of_device new device));
      rest = ap (λ m. without_events m device) is ∙ without_events-without_event maps device event ∙ so.rest;
      sound = subst Sound (sym is) (sound-without_event maps (device, event) so.sound);
      lpis = subst Lpis (sym is) (subst Shaped (sym same_next) (lpis_without (shape_of now) maps (device, event) so.sound so.lpis));
      ease = ease_after now.local next.local does.does.local_is so.ease;
      holds = holds_on now next fetched does.does.steps does.does.adds (ap (λ l. l.shut) does.does.local_is.same) does.does.keeps so.holds;
      does = λ known command are.
          (let early = so.does known command are in
          let Ends : GuestShape → Type 0 = λ shape. DoesParts now next fetched.address known command (lpis_end shape) (Forget id ∷ []) in
          let Low : GuestShape → Type 0 = λ shape. id < lpis_end shape in
          let among : IsAmong now known command id
          = record { each = λ later more add within. ap (has_part id) (ap (λ shape. parts shape known (view_by later).targets command) same_now ∙ are (view_by later).targets ∙ ap (λ ids. each ids Forget) split) ∙ has_forgotten so.done (lpis_of_device new device) id } in
          let late : DoesParts now next fetched.address known command (lpis_end (shape_of now)) (Forget id ∷ [])
          = parts_one now next fetched.address known command (lpis_end (shape_of now)) (Forget id) (ap (λ shape. shape.ram % 8) same_now ∙ whole) (below_end (shape_of now) id there) tt among does.does in
          let All : List Part → Type 0 = λ done. DoesParts old next fetched.address known command (lpis_end (shape_of old)) done in
          subst All (sym (map-append Forget so.done (id ∷ [])))
          (parts_join old now next fetched.address known command (lpis_end (shape_of old)) (lpis_end (shape_of old)) (each so.done Forget) (Forget id ∷ []) whole (omega arith) early (subst Ends same_now late)));
    }

pub forgetting_over : (old now : Seen) (fetched : Fetched) (was maps : Maps) (device : ℕ) → first_event maps device ≡ None → Forgetting old now fetched was maps device → ForgetsAll old now fetched.address (lpis_of_device was device)
forgetting_over old now fetched was maps device none so =
    let all : lpis_of_device was device ≡ so.done = so.all ∙ ap (λ ids. so.done ++ ids) (lpis_over maps device none) ∙ append-nil so.done in
    let By : List ℕ → Type 0 = λ ids. ForgetsAll old now fetched.address ids in
    subst By (sym all) (record { does = λ known command are. so.does known command (λ targets. are targets ∙ ap (λ ids. each ids Forget) (sym all)) })

pub forgotten_rest : (was maps : Maps) (device : ℕ) → first_event maps device ≡ None → without_events maps device ≡ without_events was device → maps ≡ without_events was device
forgotten_rest was maps device none rest = sym (without_events-none maps device none) ∙ rest

-- there are fewer
pub fewer : (maps new : Maps) (event : ℕ × ℕ) → IsSome (pair_of maps event) → new ≡ without_event maps event → length new.events < length maps.events
fewer maps new event there is = let less = fewer_events maps event there in let same = ap (λ m. length m.events) is in omega (arith, less, same)

pub no_event_left : (maps new : Maps) (device : ℕ) → new ≡ without_events maps device → first_event new device ≡ None
no_event_left maps new device is = ap (λ m. first_event m device) is ∙ first_event-without_events maps device
