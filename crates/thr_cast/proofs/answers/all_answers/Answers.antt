use Rattle.std.proofs.Common.{◌≡◌, ◌<◌, ◌+◌, ℕ, List, [], ◌∷◌, ◌++◌, ap, sym, subst, set, take, length, Some, None, get_or, slice_get, inl, inr, ◌∙◌}
use Rattle.std.specs.Global.{Vec}
use Rattle.std.proofs.lemmas.List.{length-append, length-set, with_items_is}
use Rattle.std.proofs.lemmas.Option.{slice_get-get_or}
use Rattle.thr_trip.specs.LawEagerIsHistory.Calls.{answer_of}
use Rattle.guest_end.specs.Outcome.{answer_by}
use Rattle.guest_end.specs.GicGuest.declared.outcome.Answer.{Answer}
use Rattle.guest_end.specs.GicGuest.declared.outcome.Answer.TheVariants.{Nothing}
use Rattle.guest_end.specs.ScnBase.declared.step.Step.TheVariants.{Vcpu as VcpuStep, Device as DeviceStep, Pe as PeStep}
use Rattle.thr_trip.specs.Script.{vcpu_ops}
use Rattle.thr_cast.specs.Answers.{heard_by, next_of, place_by}
use Rattle.thr_cast.proofs.AnswerLemmas.{CountsAre, answer_same, are_at, counts_at, counts_device, counts_more, counts_pe, device_answered, each_at, next_there, pe_answered, vcpu_answered}
use Rattle.thr_cast.proofs.answers.all_answers.Goals as goal
use Rattle.thr_cast.proofs.answers.all_answers.Goals.{in-Vcpu, in-Device}

pub next_answer-answer-requires-clause-there : goal.next_answer-answer-requires-clause-there
next_answer-answer-requires-clause-there c =
    (next_there c.args.steps.now c.args.heard.now c.loop-step.next.items c.loop-step.step-index c.in-Vcpu.guest c.in-Vcpu.vcpu c.in-Vcpu.op _ c.requires c.loop-step.invariant.counts c.loop-step-test.true c.in-Vcpu.is).0

pub next_answer-answer-requires-clause-more : goal.next_answer-answer-requires-clause-more
next_answer-answer-requires-clause-more c =
    subst (λ (next : List ℕ). next_of c.in-Vcpu.guest c.in-Vcpu.vcpu c.args.heard.now next < length (heard_by c.in-Vcpu.guest c.in-Vcpu.vcpu c.args.heard.now)) (sym c.as_mut_slice.ensures.value)
    (next_there c.args.steps.now c.args.heard.now c.loop-step.next.items c.loop-step.step-index c.in-Vcpu.guest c.in-Vcpu.vcpu c.in-Vcpu.op _ c.requires c.loop-step.invariant.counts c.loop-step-test.true c.in-Vcpu.is).1

pub loop-step-preserved : goal.loop-step-preserved
loop-step-preserved c =
    let steps = c.args.steps.now in
    let i = c.loop-step.step-index in
    let heard = c.args.heard.now in
    let answers = c.loop-step.answers in
    let next = c.loop-step.next.items in
    let so = c.loop-step.invariant in
    let here = c.loop-step-test.true in
    let early = each_at steps i answers here so.each in
    let pushed : c.push.new.self ≡ answers ++ c.match-step.answer ∷ [] = c.in_ok-push.ensures.ok in
    let longer : length c.push.new.self ≡ i + 1 = ap length pushed ∙ length-append answers (c.match-step.answer ∷ []) ∙ ap (λ (n : ℕ). n + 1) so.each in
    elim c.match-step.branch [
      | in-Vcpu w ↦
          (let g = w.in-Vcpu.guest in
          let v = w.in-Vcpu.vcpu in
          let step = VcpuStep g v w.in-Vcpu.op in
          let free = next_there steps heard next i g v w.in-Vcpu.op _ c.requires so.counts here w.in-Vcpu.is in
          let count : next_of g v heard next ≡ length (vcpu_ops g v (take i steps)) = so.counts g v free.0 in
          let read = get_or (heard_by g v heard) (next_of g v heard next) None in
          let found : slice_get (heard_by g v heard) (length (vcpu_ops g v (take i steps))) ≡ Some read =
          ap (slice_get (heard_by g v heard)) (sym count) ∙ slice_get-get_or (heard_by g v heard) (next_of g v heard next) None free.1 in
          let lent = w.as_mut_slice.ensures.value in
          let answer_is : c.match-step.answer ≡ answer_of read =
          w.answer-is ∙ w.next_answer-answer.ensures.answer ∙ ap (λ (list : List ℕ). answer_by (get_or (heard_by g v heard) (next_of g v heard list) None)) lent ∙ answer_same read in
          let told : w.next_answer-answer.new.next ≡ set next (place_by g v heard) (next_of g v heard next + 1) =
          w.next_answer-answer.ensures.next ∙ ap (λ (list : List ℕ). set list (place_by g v heard) (next_of g v heard list + 1)) lent in
          let long : length w.next_answer-answer.new.next ≡ c.loop-step.next.len = ap length told ∙ length-set next (place_by g v heard) (next_of g v heard next + 1) ∙ sym c.loop-step.next.ok.0 in
          let next_is : c.match-step.next.items ≡ set next (place_by g v heard) (next_of g v heard next + 1) = ap (λ (vec : Vec ℕ). vec.items) w.next-is ∙ with_items_is c.loop-step.next w.next_answer-answer.new.next long ∙ told in
          record {
            each = longer;
            room = ap length next_is ∙ length-set next (place_by g v heard) (next_of g v heard next + 1) ∙ so.room;
            are = are_at steps i step _ heard answers c.push.new.self (answer_of read) here w.in-Vcpu.is (pushed ∙ ap (λ (a : Answer). answers ++ a ∷ []) answer_is) (vcpu_answered (take i steps) heard answers g v w.in-Vcpu.op read early found so.are);
            counts = counts_at steps i step _ heard c.match-step.next.items here w.in-Vcpu.is (counts_more (take i steps) heard next c.match-step.next.items g v w.in-Vcpu.op free.0 so.room so.counts next_is);
          })
      | in-Device w ↦
          (let next_is : c.match-step.next.items ≡ next = ap (λ (vec : Vec ℕ). vec.items) w.next-is in
          let last : c.push.new.self ≡ answers ++ Nothing ∷ [] = pushed ∙ ap (λ (a : Answer). answers ++ a ∷ []) w.answer-is in
          let counts : CountsAre (take i steps) heard c.match-step.next.items = subst (CountsAre (take i steps) heard) (sym next_is) so.counts in
          elim w.in-Device.is [
            | inl d ↦
                (record {
                  each = longer;
                  room = ap length next_is ∙ so.room;
                  are = are_at steps i (DeviceStep d.0 d.1 d.2) _ heard answers c.push.new.self Nothing here d.3 last (device_answered (take i steps) heard answers d.0 d.1 d.2 early so.are);
                  counts = counts_at steps i (DeviceStep d.0 d.1 d.2) _ heard c.match-step.next.items here d.3 (counts_device (take i steps) heard c.match-step.next.items d.0 d.1 d.2 counts);
                })
            | inr p ↦
                (record {
                  each = longer;
                  room = ap length next_is ∙ so.room;
                  are = are_at steps i (PeStep p.0 p.1) _ heard answers c.push.new.self Nothing here p.2 last (pe_answered (take i steps) heard answers p.0 p.1 early so.are);
                  counts = counts_at steps i (PeStep p.0 p.1) _ heard c.match-step.next.items here p.2 (counts_pe (take i steps) heard c.match-step.next.items p.0 p.1 counts);
                })
          ])
    ]
