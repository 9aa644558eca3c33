-- A message that misses its line goes by the ITS: both together are the one call.
use Rattle.std.proofs.Common.{◌≡◌, ℕ, inl, inr, false, Bool, IsTrue, List, [], ◌∷◌, ◌++◌, slice_index_or, Option, None, Some, Err, is_none, refl, sym, ap, subst, ◌∙◌}
use Rattle.std.specs.List.{filter_map, cons_option}
use Rattle.std.proofs.lemmas.Bool.{and_parts}
use Rattle.std.proofs.lemmas.List.Elements.{filter_map-append}
use Rattle.gic_msi.specs.Words.{GuestShape, DeviceOp, Msi}
use Rattle.gic_msi.specs.Calls.{Device, Happened, IsCall}
use Rattle.gic_msi.specs.Registers.{Maps}
use Rattle.gic_msi.specs.Core.{Made, is_vcpu, is_settled, Seen, IsPort, Adds, shape_of, part_events, no_maps, MakesCall, vcpu_of_actor, maps_taken}
use Rattle.gic_msi.specs.PortCall.Piece.{takes_none}
use Rattle.gic_msi.specs.DevPort.Device.{CanCall, SendsMsi}
use Rattle.gic_msi.specs.Message.{is_short_message}
use Rattle.gic_msi.specs.declared.posts.MsiMiss.{MsiMiss}
use Rattle.gic_msi.specs.declared.posts.MsiMiss.TheVariants.{NoLine, Changed}
use Rattle.gic_msi.specs.Post.{ChangesNothing, Posts, PostsAs}
use Rattle.gic_msi.specs.Fill.{IsFillPart, SendsAndFills}
use Rattle.gic_msi.specs.Send.{IsMessageBy, IsMiss, IsMissAndFill, SendsMessage}
use Rattle.gic_msi.proofs.PortCore.PortLemmas.{adds_join}
use Rattle.gic_msi.proofs.PortCall.SettleLemmas.{adds_actor, adds_shape}
use Rattle.gic_msi.proofs.PortCall.TurnLemmas.{piece_then, events_then}
use Rattle.gic_msi.proofs.DevPort.CallLemmas.{part_ends}

-- steps none of which takes the ITS take no maps
none_in : (part : List Made) → IsTrue (takes_none part) → filter_map (λ made. made.tables) part ≡ []
none_in [] h = refl
none_in (made ∷ part) h =
    let parts = and_parts (is_none made.tables) (takes_none part) h in
    ap (λ tables. cons_option tables (filter_map (λ made. made.tables) part)) (none_is made.tables parts.0) ∙ none_in part parts.1
  where
    none_is : (o : Option Maps) → IsTrue (is_none o) → o ≡ None
    none_is None h = refl
    none_is (Some maps) h = absurd (cc)

maps_after_none : (early late : List Made) → IsTrue (takes_none early) → maps_taken (early ++ late) ≡ maps_taken late
maps_after_none early late none =
    ap (λ all. slice_index_or all 0 no_maps) (filter_map-append (λ made. made.tables) early late ∙ ap (λ all. all ++ filter_map (λ made. made.tables) late) (none_in early none))

-- the device after a miss
pub still_ready : (old mid : Seen) (miss : List Made) → CanCall old → ChangesNothing old mid miss → CanCall mid
still_ready old mid miss can nothing =
    record {
      device = ap (λ seen. is_vcpu (shape_of seen) seen.actor) nothing.unseen.adds.new_is ∙ can.device;
      settled = ap is_settled nothing.local_is ∙ can.settled;
    }

-- a call after it is the call of both
call_after : (old mid : Seen) (miss part : List Made) (op : DeviceOp) → ChangesNothing old mid miss → MakesCall mid part (Device op) None → MakesCall old (miss ++ part) (Device op) None
call_after old mid miss part op nothing call =
    let adds = nothing.unseen.adds in
    let events : part_events old (miss ++ part) ≡ part_events mid part = events_then old mid miss part adds ∙ ap (λ events. events ++ part_events mid part) nothing.unseen.silent in
    let CallOf : Seen → List Happened → Type 0 = λ seen events. IsCall (shape_of seen) call.beside (vcpu_of_actor (shape_of seen) seen.actor) (Device op) events None in
    let by_mid : CallOf mid (part_events old (miss ++ part)) = subst (CallOf mid) (sym events) call.call in
    let ByShape : GuestShape → Type 0 = λ shape. IsCall shape call.beside (vcpu_of_actor shape mid.actor) (Device op) (part_events old (miss ++ part)) None in
    let ByActor : ℕ → Type 0 = λ actor. IsCall (shape_of old) call.beside (vcpu_of_actor (shape_of old) actor) (Device op) (part_events old (miss ++ part)) None in
    record {
      beside = call.beside;
      maps = call.maps ∙ sym (maps_after_none miss part nothing.unseen.none_taken);
      signals = call.signals;
      call = subst ByActor (adds_actor old mid miss adds) (subst ByShape (adds_shape old mid miss adds) by_mid);
    }

-- a missed post, and then the fill
pub missed_then_filled : (old mid new : Seen) (device event : ℕ) (miss : List Made) → IsTrue (is_short_message device event) → IsPort old → IsPort new → CanCall old → IsMiss device event miss → ChangesNothing old mid miss → SendsAndFills mid new device event
    → SendsMessage old new device event
missed_then_filled old mid new device event miss short is_old is_new can missed nothing fills =
    let part = miss ++ fills.part in
    let adds : Adds old new part = adds_join old mid new miss fills.part nothing.unseen.adds fills.done.adds in
    let piece = piece_then old mid miss fills.part nothing.unseen.adds nothing.unseen.piece fills.piece in
    let ends = part_ends old new (Msi device event) part is_old is_new can adds piece (λ cands. fills.done.after.settled) fills.done.tables in
    let FormBy : GuestShape → Type 0 = λ shape. IsFillPart shape device event fills.part in
    let filled = subst FormBy (adds_shape old mid miss nothing.unseen.adds) fills.form in
    let both : IsMissAndFill (shape_of old) device event part = record { miss = miss; fill = fills.part; part_is = refl; missed = missed; filled = filled } in
    let By : Bool → Type 0 = λ b. IsMessageBy b (shape_of old) device event part in
    record {
      part = part;
      form = subst By (sym short) (inr both);
      adds = adds;
      call = inl (call_after old mid miss fills.part (Msi device event) nothing fills.done.call);
      proper = ends.proper;
      tables = ends.tables;
      after = ends.after;
    }

pub posted_alone : (old new : Seen) (device event : ℕ) → IsTrue (is_short_message device event) → Posts old new device event → SendsMessage old new device event
posted_alone old new device event short posts =
    let By : Bool → Type 0 = λ b. IsMessageBy b (shape_of old) device event posts.part in
    record {
      part = posts.part;
      form = subst By (sym short) (inl posts.form);
      adds = posts.done.adds;
      call = inr posts.done.call;
      proper = posts.done.proper;
      tables = posts.done.tables;
      after = posts.done.after;
    }

-- one whose numbers fit no line
pub sent_alone : (old new : Seen) (device event : ℕ) → is_short_message device event ≡ false → SendsMsi old new device event → SendsMessage old new device event
sent_alone old new device event long sends =
    let By : Bool → Type 0 = λ b. IsMessageBy b (shape_of old) device event sends.part in
    record {
      part = sends.part;
      form = subst By (sym long) sends.form;
      adds = sends.done.adds;
      call = inl sends.done.call;
      proper = sends.done.proper;
      tables = sends.done.tables;
      after = sends.done.after;
    }

-- By what a post answered.

record HasMissed (old new : Seen) (device event : ℕ) : Type 0 where
  part : List Made
  missed : IsMiss device event part
  nothing : ChangesNothing old new part

missed_by : (old new : Seen) (device event : ℕ) (miss : MsiMiss) → PostsAs old new device event (Err miss) → HasMissed old new device event
missed_by old new device event (NoLine found) finds = record { part = finds.part; missed = record { found = found; form = inl finds.form }; nothing = finds.nothing }
missed_by old new device event (Changed found) finds = record { part = finds.part; missed = record { found = found; form = inr finds.form }; nothing = finds.nothing }

pub miss_ready : (old mid : Seen) (device event : ℕ) (miss : MsiMiss) → CanCall old → PostsAs old mid device event (Err miss) → CanCall mid
miss_ready old mid device event miss can posts = let so = missed_by old mid device event miss posts in still_ready old mid so.part can so.nothing

pub sent_by_fill : (old mid new : Seen) (device event : ℕ) (miss : MsiMiss) → IsTrue (is_short_message device event) → IsPort old → IsPort new → CanCall old → PostsAs old mid device event (Err miss) → SendsAndFills mid new device event → SendsMessage old new device event
sent_by_fill old mid new device event miss short is_old is_new can posts fills =
    let so = missed_by old mid device event miss posts in
    missed_then_filled old mid new device event so.part short is_old is_new can so.missed so.nothing fills
