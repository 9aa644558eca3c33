-- An actor goes on by one part.
use Rattle.std.proofs.Common.{◌≡◌, ℕ, IsTrue, List, [], ◌∷◌, ◌++◌, append-nil, refl, sym, ap, subst, ◌∙◌}
use Rattle.std.proofs.lemmas.Grind.{flat_map-append}
use Rattle.std.proofs.lemmas.List.Elements.{All-nil, All-cons, All-append}
use Rattle.std.proofs.lemmas.List.Sums.{fold-append}
use Rattle.pe_place.specs.Core.{has_registers, Progress, opening_progress, progressed, progress_of, IsProper, Seen, Adds, shape_of}
use Rattle.pe_place.proofs.CoreProper.PartLemmas.{proper_append}
use Rattle.pe_place.specs.LawEagerIsHistory.Calls.{Made, made_of}
use Rattle.pe_place.specs.Parts.{Part, AreCalls, IsPartFound, IsSent, acts_in, acts_of, steps_in}
use Rattle.pe_place.proofs.MoveLemmas.{calls_join}
use Rattle.port_table.proofs.PortCore.PortLemmas.{adds_join}
use Rattle.thr_trip.specs.Gone.{HasGone}
use Rattle.thr_trip.proofs.CallLemmas.{calls_more}

-- it did one part, wherever its protocol was so, and it is so after that
pub goes_on_by :
    (lrs : ℕ) (from old new : Seen) (Before After : Progress → Type 0) (calls : List Made) (part : Part) → part.lrs ≡ lrs → IsSent (shape_of from) part.operation part.steps → Adds old new part.steps → IsPartFound old part
    → ((p : Progress) → Before p → IsProper (shape_of old) old.actor p (acts_of part)) → ((p : Progress) → Before p → After (progress_of (shape_of old) old.actor p (acts_of part))) → HasGone lrs from old Before calls
    → HasGone lrs from new After (calls ++ made_of part.operation part.answer [])
goes_on_by lrs from old new Before After calls part on sent adds call proper goes_on gone =
    let shape = shape_of from in
    let actor = from.actor in
    let here = gone.adds.new_is in
    let start = opening_progress from.guest from.number actor in
    let more : List Part = part ∷ [] in
    let acts : acts_in (gone.parts ++ more) ≡ acts_in gone.parts ++ acts_of part = flat_map-append acts_of gone.parts more ∙ ap (λ late. acts_in gone.parts ++ late) (append-nil (acts_of part)) in
    let steps : steps_in (gone.parts ++ more) ≡ steps_in gone.parts ++ part.steps = flat_map-append (λ (part : Part). part.steps) gone.parts more ∙ ap (λ late. steps_in gone.parts ++ late) (append-nil part.steps) in
    let middle = progress_of shape actor start (acts_in gone.parts) in
    let On : Part → Type 0 = λ part. part.lrs ≡ lrs in
    let Sent : Part → Type 0 = λ part. IsSent shape part.operation part.steps in
    record {
      parts = gone.parts ++ more;
      adds = subst (Adds from new) (sym steps) (adds_join from old new (steps_in gone.parts) part.steps gone.adds adds);
      registers = gone.registers;
      on = All-append On gone.parts more gone.on (All-cons On part [] on (All-nil On));
      sent = All-append Sent gone.parts more gone.sent (All-cons Sent part [] sent (All-nil Sent));
      are = calls_join from gone.parts more gone.are (subst (λ seen. AreCalls seen more) here (call, tt));
      proper =
          subst (IsProper shape actor start) (sym acts)
          ((proper_append shape actor start (acts_in gone.parts) (acts_of part)).1
          (gone.proper, subst (λ (seen : Seen). IsProper (shape_of seen) seen.actor middle (acts_of part)) here (proper middle gone.followed)));
      calls_are = calls_more gone.parts part ∙ ap (λ calls. calls ++ made_of part.operation part.answer []) gone.calls_are;
      followed =
          subst After (sym (ap (progress_of shape actor start) acts ∙ fold-append (progressed shape actor) start (acts_in gone.parts) (acts_of part)))
          (subst (λ (seen : Seen). After (progress_of (shape_of seen) seen.actor middle (acts_of part))) here (goes_on middle gone.followed));
    }

-- an actor that has done nothing
pub gone_nowhere : (lrs : ℕ) (from : Seen) (Followed : Progress → Type 0) → IsTrue (has_registers (shape_of from) from.actor lrs) → Adds from from [] → Followed (opening_progress from.guest from.number from.actor) → HasGone lrs from from Followed []
gone_nowhere lrs from Followed registers adds so = record { parts = []; adds = adds; registers = registers; on = All-nil (λ (part : Part). part.lrs ≡ lrs); sent = All-nil (λ (part : Part). IsSent (shape_of from) part.operation part.steps); are = tt; proper = tt; calls_are = refl; followed = so }
