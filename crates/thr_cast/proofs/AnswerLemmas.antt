-- One step more, and what it answered; and what a run knows of its vCPUs' answers.
use Rattle.std.proofs.Common.{◌≡◌, ℕ, zero, suc, ◌+◌, ◌<◌, ◌==◌, ◌&&◌, inl, inr, All, Bool, true, false, IsTrue, nat_lt, List, [], ◌∷◌, ◌++◌, length, map, take, drop, drop-cons, take-append-drop, get_or, set, if◌then◌else◌, Option, Some, None, refl, sym, ap, subst, ◌∙◌, add-one, arith}
use Rattle.std.specs.Prelude.{slice_get}
use Rattle.std.proofs.lemmas.Bool.{and_parts, cases_Bool, cases_lt, eqb-true, eq-eqb, ltb-true}
use Rattle.std.proofs.lemmas.Bool.Decides.{nat_tests}
use Rattle.std.proofs.lemmas.List.{append-nil, get_or-set_other, get_or-set_same, length-append, length-take-le, take_more}
use Rattle.std.proofs.lemmas.List.Elements.{All-head, All-tail}
use Rattle.std.proofs.lemmas.Option.{get_or_from_slice_get, slice_get-get_or}
use Rattle.thr_trip.specs.LawEagerIsHistory.Calls.{Made, answer_of, own_steps}
use Rattle.guest_end.specs.Words.{DeviceOp, GuestOp, PeOp, GuestShape}
use Rattle.guest_end.specs.Calls.{Access, Device, GuestSpec, is_good_op, passes, shapes_of}
use Rattle.guest_end.specs.Outcome.{answer_by}
use Rattle.thr_trip.specs.PortOps.Opened.{no_guest}
use Rattle.thr_trip.specs.PortOps.PortCore.IdealGuests.declared.guest.IdealGuest.{IdealGuest}
use Rattle.thr_trip.specs.PortOps.PortCore.IdealGuests.Opening.{opening as opening_guest}
use Rattle.thr_trip.specs.PortTable.Told.{WordsTold, words_at}
use Rattle.guest_end.specs.GicGuest.declared.outcome.Answer.{Answer}
use Rattle.guest_end.specs.GicGuest.declared.outcome.Answer.TheVariants.{Nothing}
use Rattle.guest_end.specs.ScnBase.declared.pes.VcpuName.{VcpuName}
use Rattle.guest_end.specs.ScnBase.declared.step.Mode.{Mode}
use Rattle.guest_end.specs.ScnBase.declared.step.Step.{Step}
use Rattle.guest_end.specs.ScnBase.declared.step.Step.TheVariants.{Vcpu as VcpuStep, Device as DeviceStep, Pe as PeStep}
use Rattle.guest_end.specs.ScnBase.Good.{is_formed}
use Rattle.guest_end.specs.ScnBase.Standing.{has_vcpu, vcpu_name}
use Rattle.thr_trip.specs.Script.{all_vcpus, calls_answered, calls_received, device_ops, vcpu_ops}
use Rattle.thr_cast.specs.declared.answers.Heard.{Heard}
use Rattle.thr_cast.specs.Answers.{AllHeard, AnswersAre, heard_by, is_of, next_of, place_by}
use Rattle.thr_cast.proofs.NameLemmas.{AreNumbered, from_either, of_first, of_second, vcpu_place, vcpus_apart}

-- The steps so far, and one more.

taken : {X : Type 0} (b : Bool) (x : X) (early late : List X) → (if b then x ∷ (early ++ late) else (early ++ late)) ≡ (if b then x ∷ early else early) ++ late
taken true x early late = refl
taken false x early late = refl

pub vcpu_more : (number vcpu : ℕ) (done rest : List Step) → vcpu_ops number vcpu (done ++ rest) ≡ vcpu_ops number vcpu done ++ vcpu_ops number vcpu rest
vcpu_more number vcpu [] rest = refl
vcpu_more number vcpu (VcpuStep g v op ∷ done) rest =
    ap (λ (ops : List GuestOp). if g == number && v == vcpu then op ∷ ops else ops) (vcpu_more number vcpu done rest) ∙ taken (g == number && v == vcpu) op (vcpu_ops number vcpu done) (vcpu_ops number vcpu rest)
vcpu_more number vcpu (DeviceStep g d op ∷ done) rest = vcpu_more number vcpu done rest
vcpu_more number vcpu (PeStep pe op ∷ done) rest = vcpu_more number vcpu done rest

pub vcpu_own : (n vcpu : ℕ) (done : List Step) (g v : ℕ) (op : GuestOp) → (g == n && v == vcpu) ≡ true → vcpu_ops n vcpu (done ++ VcpuStep g v op ∷ []) ≡ vcpu_ops n vcpu done ++ op ∷ []
vcpu_own n vcpu done g v op holds =
    let here : vcpu_ops n vcpu (VcpuStep g v op ∷ []) ≡ op ∷ [] = rw holds refl in
    vcpu_more n vcpu done (VcpuStep g v op ∷ []) ∙ ap (λ (late : List GuestOp). vcpu_ops n vcpu done ++ late) here

pub vcpu_other : (n vcpu : ℕ) (done : List Step) (g v : ℕ) (op : GuestOp) → (g == n && v == vcpu) ≡ false → vcpu_ops n vcpu (done ++ VcpuStep g v op ∷ []) ≡ vcpu_ops n vcpu done
vcpu_other n vcpu done g v op fails =
    let here : vcpu_ops n vcpu (VcpuStep g v op ∷ []) ≡ [] = rw fails refl in
    vcpu_more n vcpu done (VcpuStep g v op ∷ []) ∙ ap (λ (late : List GuestOp). vcpu_ops n vcpu done ++ late) here ∙ append-nil (vcpu_ops n vcpu done)

pub device_more : (number device : ℕ) (done rest : List Step) → device_ops number device (done ++ rest) ≡ device_ops number device done ++ device_ops number device rest
device_more number device [] rest = refl
device_more number device (VcpuStep g v op ∷ done) rest = device_more number device done rest
device_more number device (DeviceStep g d op ∷ done) rest =
    ap (λ (ops : List DeviceOp). if g == number && d == device then op ∷ ops else ops) (device_more number device done rest) ∙ taken (g == number && d == device) op (device_ops number device done) (device_ops number device rest)
device_more number device (PeStep pe op ∷ done) rest = device_more number device done rest

abbrev acted : GuestOp → Answer → Made
acted op answer = record { operation = Access op; answer = answer }

abbrev came : DeviceOp → Made
came op = record { operation = Device op; answer = Nothing }

own_more : (shape : GuestShape) (n actor : ℕ) (done : List Step) (answers : List Answer) (step : Step) (answer : Answer) → length answers ≡ length done
    → own_steps shape n actor (done ++ step ∷ []) (answers ++ answer ∷ []) ≡ own_steps shape n actor done answers ++ own_steps shape n actor (step ∷ []) (answer ∷ [])
own_more shape n actor [] [] step answer e = refl
own_more shape n actor [] (a ∷ answers) step answer e = absurd (omega (arith, e))
own_more shape n actor (s ∷ done) [] step answer e = absurd (omega (arith, e))
own_more shape n actor (VcpuStep g v op ∷ done) (a ∷ answers) step answer e =
    let one : Made = record { operation = Access op; answer = a } in
    ap (λ (rest : List Made). if g == n && v == actor then one ∷ rest else rest) (own_more shape n actor done answers step answer (omega (arith, e)))
    ∙ taken (g == n && v == actor) one (own_steps shape n actor done answers) (own_steps shape n actor (step ∷ []) (answer ∷ []))
own_more shape n actor (DeviceStep g d op ∷ done) (a ∷ answers) step answer e =
    let one : Made = record { operation = Device op; answer = a } in
    ap (λ (rest : List Made). if g == n && shape.vcpus + d == actor then one ∷ rest else rest) (own_more shape n actor done answers step answer (omega (arith, e)))
    ∙ taken (g == n && shape.vcpus + d == actor) one (own_steps shape n actor done answers) (own_steps shape n actor (step ∷ []) (answer ∷ []))
own_more shape n actor (PeStep pe op ∷ done) (a ∷ answers) step answer e = own_more shape n actor done answers step answer (omega (arith, e))

answered_one :
    (script : List GuestOp) (op : GuestOp) (answers : List (Option ℕ)) (answer : Option ℕ) → slice_get answers (length script) ≡ Some answer
    → calls_answered (script ++ op ∷ []) answers ≡ calls_answered script answers ++ acted op (answer_of answer) ∷ []
answered_one [] op [] answer e = absurd (cc)
answered_one (first ∷ script) op [] answer e = absurd (cc)
answered_one [] op (one ∷ answers) answer e =
    let same : one ≡ answer = cc in
    ap (λ (a : Option ℕ). acted op (answer_of a) ∷ []) same
answered_one (first ∷ script) op (one ∷ answers) answer e = ap (λ (rest : List Made). acted first (answer_of one) ∷ rest) (answered_one script op answers answer e)

received_one :
    (script : List DeviceOp) (op : DeviceOp)
    → calls_received (script ++ op ∷ []) ≡ calls_received script ++ came op ∷ []
received_one [] op = refl
received_one (first ∷ script) op = ap (λ (rest : List Made). came first ∷ rest) (received_one script op)

own_test : (g v : ℕ) → (g == g && v == v) ≡ true
own_test g v = rw (eq-eqb g g refl, eq-eqb v v refl) refl

-- Which of a vCPU's answers is the next.

-- for each vCPU that has an entry: how many operations it did
abbrev pub CountsAre : List Step → List Heard → List ℕ → Type 0
CountsAre done heard next = (guest vcpu : ℕ) → place_by guest vcpu heard < length heard → next_of guest vcpu heard next ≡ length (vcpu_ops guest vcpu done)

-- at the first entry of a vCPU is what it heard
pub heard_at : (guest vcpu : ℕ) (heard : List Heard) (other : Heard) → place_by guest vcpu heard < length heard → heard_by guest vcpu heard ≡ (get_or heard (place_by guest vcpu heard) other).answers
heard_at guest vcpu [] other there = absurd (omega (arith, there))
heard_at guest vcpu (one ∷ heard) other there = elim (cases_Bool (is_of guest vcpu one)) [
  | inl holds ↦ rw holds refl
  | inr fails ↦ (let past = rw fails at there in let below : place_by guest vcpu heard < length heard = omega (arith, past) in rw (fails, add-one) (heard_at guest vcpu heard other below))
]

pub heard_in :
    (guest vcpu place : ℕ) (heard : List Heard) (other : Heard) (answers : List (Option ℕ)) → place_by guest vcpu heard < length heard → place ≡ place_by guest vcpu heard → answers ≡ (get_or heard place other).answers
    → heard_by guest vcpu heard ≡ answers
heard_in guest vcpu place heard other answers there at is = heard_at guest vcpu heard other there ∙ ap (λ (n : ℕ). (get_or heard n other).answers) (sym at) ∙ sym is

-- who heard something has an entry
pub heard_there : (guest vcpu : ℕ) (heard : List Heard) → 0 < length (heard_by guest vcpu heard) → place_by guest vcpu heard < length heard
heard_there guest vcpu [] some = absurd (omega (arith, some))
heard_there guest vcpu (one ∷ heard) some = elim (cases_Bool (is_of guest vcpu one)) [
  | inl holds ↦ rw holds (omega arith)
  | inr fails ↦ (let there = heard_there guest vcpu heard (rw fails at some) in rw fails (omega (arith, there)))
]

-- each vCPU has its own place
pub place_apart : (heard : List Heard) (g v guest vcpu : ℕ) → place_by g v heard < length heard → place_by g v heard ≡ place_by guest vcpu heard → (g ≡ guest) × (v ≡ vcpu)
place_apart [] g v guest vcpu there same = absurd (omega (arith, there))
place_apart (one ∷ heard) g v guest vcpu there same = elim (cases_Bool (is_of g v one)) [
  | inl holds ↦
      (elim (cases_Bool (is_of guest vcpu one)) [
        | inl also ↦
            (let a = and_parts (one.name.guest == g) (one.name.vcpu == v) holds in
            let b = and_parts (one.name.guest == guest) (one.name.vcpu == vcpu) also in
            (sym (eqb-true one.name.guest g a.0) ∙ eqb-true one.name.guest guest b.0, sym (eqb-true one.name.vcpu v a.1) ∙ eqb-true one.name.vcpu vcpu b.1))
        | inr not ↦ (let e = rw (holds, not) at same in absurd (omega (arith, e)))
      ])
  | inr fails ↦
      (elim (cases_Bool (is_of guest vcpu one)) [
        | inl also ↦ (let e = rw (fails, also) at same in absurd (omega (arith, e)))
        | inr not ↦ (let e = rw (fails, not) at same in let t = rw fails at there in place_apart heard g v guest vcpu (omega (arith, t)) (omega (arith, e)))
      ])
]

-- while a vCPU's step comes, it has an answer that it did not take
pub next_there :
    (steps : List Step) (heard : List Heard) (next : List ℕ) (i g v : ℕ) (op : GuestOp) (other : Step) → AllHeard steps heard → CountsAre (take i steps) heard next → i < length steps → get_or steps i other ≡ VcpuStep g v op
    → (place_by g v heard < length heard) × (next_of g v heard next < length (heard_by g v heard))
next_there steps heard next i g v op other all counts within is =
    let rest = drop (suc i) steps in
    let split : steps ≡ take i steps ++ VcpuStep g v op ∷ rest = sym (take-append-drop i steps) ∙ ap (λ (late : List Step). take i steps ++ late) (drop-cons steps i other within ∙ ap (λ (s : Step). s ∷ rest) is) in
    let here : vcpu_ops g v (VcpuStep g v op ∷ rest) ≡ op ∷ vcpu_ops g v rest = rw (own_test g v) refl in
    let ops : vcpu_ops g v steps ≡ vcpu_ops g v (take i steps) ++ op ∷ vcpu_ops g v rest = ap (vcpu_ops g v) split ∙ vcpu_more g v (take i steps) (VcpuStep g v op ∷ rest) ∙ ap (λ (late : List GuestOp). vcpu_ops g v (take i steps) ++ late) here in
    let long : length (heard_by g v heard) ≡ length (vcpu_ops g v (take i steps)) + suc (length (vcpu_ops g v rest)) = all g v ∙ ap length ops ∙ length-append (vcpu_ops g v (take i steps)) (op ∷ vcpu_ops g v rest) in
    let there : place_by g v heard < length heard = heard_there g v heard (omega (arith, long)) in
    let count : next_of g v heard next ≡ length (vcpu_ops g v (take i steps)) = counts g v there in
    (there, omega (arith, long, count))

-- it takes that one
pub counts_more :
    (done : List Step) (heard : List Heard) (next new : List ℕ) (g v : ℕ) (op : GuestOp) → place_by g v heard < length heard → length next ≡ length heard → CountsAre done heard next
    → new ≡ set next (place_by g v heard) (next_of g v heard next + 1) → CountsAre (done ++ VcpuStep g v op ∷ []) heard new
counts_more done heard next new g v op there each counts is guest vcpu also = elim (cases_Bool (g == guest && v == vcpu)) [
  | inl holds ↦
      (let both = and_parts (g == guest) (v == vcpu) holds in
      let same : next_of g v heard new ≡ length (vcpu_ops g v (done ++ VcpuStep g v op ∷ [])) =
      ap (λ (list : List ℕ). get_or list (place_by g v heard) 0) is ∙ get_or-set_same next (place_by g v heard) (next_of g v heard next + 1) 0 (omega (arith, there, each)) ∙ ap (λ (n : ℕ). n + 1) (counts g v there)
      ∙ sym (ap length (vcpu_own g v done g v op (own_test g v)) ∙ length-append (vcpu_ops g v done) (op ∷ [])) in
      subst (λ (n : ℕ). next_of n vcpu heard new ≡ length (vcpu_ops n vcpu (done ++ VcpuStep g v op ∷ []))) (eqb-true g guest both.0)
      (subst (λ (n : ℕ). next_of g n heard new ≡ length (vcpu_ops g n (done ++ VcpuStep g v op ∷ []))) (eqb-true v vcpu both.1) same))
  | inr fails ↦
      (let apart : place_by guest vcpu heard ≡ place_by g v heard → ⊥ = λ at. (let names = place_apart heard g v guest vcpu there (sym at) in let holds : (g == guest && v == vcpu) ≡ true = rw (eq-eqb g guest names.0, eq-eqb v vcpu names.1) refl in absurd (cc)) in
      ap (λ (list : List ℕ). get_or list (place_by guest vcpu heard) 0) is ∙ get_or-set_other next (place_by g v heard) (place_by guest vcpu heard) (next_of g v heard next + 1) 0 apart ∙ counts guest vcpu also
      ∙ ap length (sym (vcpu_other guest vcpu done g v op fails)))
]

-- other steps take none
pub counts_device : (done : List Step) (heard : List Heard) (next : List ℕ) (g d : ℕ) (op : DeviceOp) → CountsAre done heard next → CountsAre (done ++ DeviceStep g d op ∷ []) heard next
counts_device done heard next g d op counts guest vcpu there = counts guest vcpu there ∙ ap length (sym (vcpu_more guest vcpu done (DeviceStep g d op ∷ []) ∙ append-nil (vcpu_ops guest vcpu done)))

pub counts_pe : (done : List Step) (heard : List Heard) (next : List ℕ) (pe : ℕ) (op : PeOp) → CountsAre done heard next → CountsAre (done ++ PeStep pe op ∷ []) heard next
counts_pe done heard next pe op counts guest vcpu there = counts guest vcpu there ∙ ap length (sym (vcpu_more guest vcpu done (PeStep pe op ∷ []) ∙ append-nil (vcpu_ops guest vcpu done)))

-- What one step more answered.

nil_parts : {X : Type 0} (xs ys : List X) → xs ++ ys ≡ [] → (xs ≡ []) × (ys ≡ [])
nil_parts [] ys e = (refl, e)
nil_parts (x ∷ xs) ys e = absurd (cc)

-- no device has the number of a vCPU
far : (n g d s vcpu : ℕ) → vcpu < s → (g == n && s + d == vcpu) ≡ false
far n g d s vcpu below = elim (cases_Bool (g == n && s + d == vcpu)) [
  | inl holds ↦ (let e = eqb-true (s + d) vcpu (and_parts (g == n) (s + d == vcpu) holds).1 in absurd (omega (arith, e, below)))
  | inr fails ↦ fails
]

same_test : (s d device : ℕ) → (s + d == s + device) ≡ (d == device)
same_test s d device = grind (arith, nat_tests)

pub answer_same : (read : Option ℕ) → answer_by read ≡ answer_of read
answer_same None = refl
answer_same (Some value) = refl

-- each step of a PE is answered nothing
abbrev pub PesAre : List Step → List Answer → Type 0
PesAre steps answers = (place pe : ℕ) (op : PeOp) → slice_get steps place ≡ Some (PeStep pe op) → slice_get answers place ≡ Some Nothing

pes_more : (done : List Step) (answers : List Answer) (step : Step) (answer : Answer) → length answers ≡ length done → PesAre done answers → ((pe : ℕ) (op : PeOp) → Some step ≡ Some (PeStep pe op) → answer ≡ Nothing) → PesAre (done ++ step ∷ []) (answers ++ answer ∷ [])
pes_more done answers step answer each are last place pe op e = elim (from_either done (step ∷ []) place (PeStep pe op) e) [
  | inl early ↦ of_first answers (answer ∷ []) place Nothing (are place pe op early)
  | inr late ↦
      (let at : place ≡ length answers + late.0 = omega (arith, late.1, each) in
      ap (slice_get (answers ++ answer ∷ [])) at ∙ of_second answers (answer ∷ []) late.0 Nothing (only late.0 late.2))
]
  where
    only : (q : ℕ) → slice_get (step ∷ []) q ≡ Some (PeStep pe op) → slice_get (answer ∷ []) q ≡ Some Nothing
    only zero h = ap Some (last pe op h)
    only (suc q) h = absurd (cc)

pub vcpu_answered :
    (done : List Step) (heard : List Heard) (answers : List Answer) (g v : ℕ) (op : GuestOp) (read : Option ℕ) → length answers ≡ length done → slice_get (heard_by g v heard) (length (vcpu_ops g v done)) ≡ Some read → AnswersAre done heard answers
    → AnswersAre (done ++ VcpuStep g v op ∷ []) heard (answers ++ answer_of read ∷ [])
vcpu_answered done heard answers g v op read each next are =
    let step = VcpuStep g v op in
    record {
      vcpus = λ shape n vcpu below.
          own_more shape n vcpu done answers step (answer_of read) each
          ∙ ap (λ (early : List Made). early ++ own_steps shape n vcpu (step ∷ []) (answer_of read ∷ [])) (are.vcpus shape n vcpu below)
          ∙ (elim (cases_Bool (g == n && v == vcpu)) [
            | inl holds ↦
                (let both = and_parts (g == n) (v == vcpu) holds in
                let here : own_steps shape n vcpu (step ∷ []) (answer_of read ∷ []) ≡ acted op (answer_of read) ∷ [] = rw holds refl in
                let found : slice_get (heard_by n vcpu heard) (length (vcpu_ops n vcpu done)) ≡ Some read =
                subst (λ (k : ℕ). slice_get (heard_by k vcpu heard) (length (vcpu_ops k vcpu done)) ≡ Some read) (eqb-true g n both.0)
                (subst (λ (k : ℕ). slice_get (heard_by g k heard) (length (vcpu_ops g k done)) ≡ Some read) (eqb-true v vcpu both.1) next) in
                let early = calls_answered (vcpu_ops n vcpu done) (heard_by n vcpu heard) in
                ap (λ (late : List Made). early ++ late) here ∙ sym (ap (λ (script : List GuestOp). calls_answered script (heard_by n vcpu heard)) (vcpu_own n vcpu done g v op holds)
                ∙ answered_one (vcpu_ops n vcpu done) op (heard_by n vcpu heard) read found))
            | inr fails ↦
                (let here : own_steps shape n vcpu (step ∷ []) (answer_of read ∷ []) ≡ [] = rw fails refl in
                let early = calls_answered (vcpu_ops n vcpu done) (heard_by n vcpu heard) in
                ap (λ (late : List Made). early ++ late) here ∙ append-nil early ∙ ap (λ (script : List GuestOp). calls_answered script (heard_by n vcpu heard)) (sym (vcpu_other n vcpu done g v op fails)))
          ]);
      devices = λ shape n device none.
          let actor = shape.vcpus + device in
          let parts = nil_parts (vcpu_ops n actor done) (vcpu_ops n actor (step ∷ [])) (sym (vcpu_more n actor done (step ∷ [])) ∙ none) in
          let here : own_steps shape n actor (step ∷ []) (answer_of read ∷ []) ≡ [] = elim (cases_Bool (g == n && v == actor)) [
            | inl holds ↦ (let some = rw holds at parts.1 in absurd (cc))
            | inr fails ↦ rw fails refl
          ] in
          own_more shape n actor done answers step (answer_of read) each ∙ ap (λ (late : List Made). own_steps shape n actor done answers ++ late) here ∙ append-nil (own_steps shape n actor done answers)
          ∙ are.devices shape n device parts.0 ∙ ap calls_received (sym (device_more n device done (step ∷ []) ∙ append-nil (device_ops n device done)));
      pes = pes_more done answers step (answer_of read) each are.pes (λ pe op same. absurd (cc));
    }

pub device_answered :
    (done : List Step) (heard : List Heard) (answers : List Answer) (g d : ℕ) (op : DeviceOp) → length answers ≡ length done → AnswersAre done heard answers
    → AnswersAre (done ++ DeviceStep g d op ∷ []) heard (answers ++ Nothing ∷ [])
device_answered done heard answers g d op each are =
    let step = DeviceStep g d op in
    record {
      vcpus = λ shape n vcpu below.
          let here : own_steps shape n vcpu (step ∷ []) (Nothing ∷ []) ≡ [] = rw (far n g d shape.vcpus vcpu below) refl in
          own_more shape n vcpu done answers step Nothing each ∙ ap (λ (late : List Made). own_steps shape n vcpu done answers ++ late) here ∙ append-nil (own_steps shape n vcpu done answers)
          ∙ are.vcpus shape n vcpu below ∙ ap (λ (script : List GuestOp). calls_answered script (heard_by n vcpu heard)) (sym (vcpu_more n vcpu done (step ∷ []) ∙ append-nil (vcpu_ops n vcpu done)));
      devices = λ shape n device none.
          let actor = shape.vcpus + device in
          let before : vcpu_ops n actor done ≡ [] = sym (vcpu_more n actor done (step ∷ []) ∙ append-nil (vcpu_ops n actor done)) ∙ none in
          own_more shape n actor done answers step Nothing each ∙ ap (λ (early : List Made). early ++ own_steps shape n actor (step ∷ []) (Nothing ∷ [])) (are.devices shape n device before)
          ∙ (elim (cases_Bool (g == n && d == device)) [
            | inl holds ↦
                (let test : (g == n && shape.vcpus + d == actor) ≡ true = rw (same_test shape.vcpus d device) holds in
                let here : own_steps shape n actor (step ∷ []) (Nothing ∷ []) ≡ came op ∷ [] = rw test refl in
                let ops : device_ops n device (step ∷ []) ≡ op ∷ [] = rw holds refl in
                let early = device_ops n device done in
                ap (λ (late : List Made). calls_received early ++ late) here
                ∙ sym (ap calls_received (device_more n device done (step ∷ []) ∙ ap (λ (late : List DeviceOp). early ++ late) ops) ∙ received_one early op))
            | inr fails ↦
                (let test : (g == n && shape.vcpus + d == actor) ≡ false = rw (same_test shape.vcpus d device) fails in
                let here : own_steps shape n actor (step ∷ []) (Nothing ∷ []) ≡ [] = rw test refl in
                let ops : device_ops n device (step ∷ []) ≡ [] = rw fails refl in
                let early = device_ops n device done in
                ap (λ (late : List Made). calls_received early ++ late) here ∙ append-nil (calls_received early)
                ∙ sym (ap calls_received (device_more n device done (step ∷ []) ∙ ap (λ (late : List DeviceOp). early ++ late) ops ∙ append-nil early)))
          ]);
      pes = pes_more done answers step Nothing each are.pes (λ pe op same. refl);
    }

pub pe_answered :
    (done : List Step) (heard : List Heard) (answers : List Answer) (pe : ℕ) (op : PeOp) → length answers ≡ length done → AnswersAre done heard answers
    → AnswersAre (done ++ PeStep pe op ∷ []) heard (answers ++ Nothing ∷ [])
pe_answered done heard answers pe op each are =
    let step = PeStep pe op in
    record {
      vcpus = λ shape n vcpu below.
          own_more shape n vcpu done answers step Nothing each ∙ append-nil (own_steps shape n vcpu done answers) ∙ are.vcpus shape n vcpu below
          ∙ ap (λ (script : List GuestOp). calls_answered script (heard_by n vcpu heard)) (sym (vcpu_more n vcpu done (step ∷ []) ∙ append-nil (vcpu_ops n vcpu done)));
      devices = λ shape n device none.
          let before : vcpu_ops n (shape.vcpus + device) done ≡ [] = sym (vcpu_more n (shape.vcpus + device) done (step ∷ []) ∙ append-nil (vcpu_ops n (shape.vcpus + device) done)) ∙ none in
          own_more shape n (shape.vcpus + device) done answers step Nothing each ∙ append-nil (own_steps shape n (shape.vcpus + device) done answers) ∙ are.devices shape n device before
          ∙ ap calls_received (sym (device_more n device done (step ∷ []) ∙ append-nil (device_ops n device done)));
      pes = pes_more done answers step Nothing each are.pes (λ pe op same. refl);
    }

-- The step at a place.

-- the steps up to it
pub take_is : (steps : List Step) (i : ℕ) (step other : Step) → i < length steps → get_or steps i other ≡ step → take (i + 1) steps ≡ take i steps ++ step ∷ []
take_is steps i step other within is = take_more steps i other within ∙ ap (λ (s : Step). take i steps ++ s ∷ []) is

pub are_at :
    (steps : List Step) (i : ℕ) (step other : Step) (heard : List Heard) (answers new : List Answer) (answer : Answer) → i < length steps → get_or steps i other ≡ step → new ≡ answers ++ answer ∷ []
    → AnswersAre (take i steps ++ step ∷ []) heard (answers ++ answer ∷ []) → AnswersAre (take (i + 1) steps) heard new
are_at steps i step other heard answers new answer within is pushed are =
    subst (λ (s : List Step). AnswersAre s heard new) (sym (take_is steps i step other within is)) (subst (λ (a : List Answer). AnswersAre (take i steps ++ step ∷ []) heard a) (sym pushed) are)

pub counts_at : (steps : List Step) (i : ℕ) (step other : Step) (heard : List Heard) (next : List ℕ) → i < length steps → get_or steps i other ≡ step → CountsAre (take i steps ++ step ∷ []) heard next → CountsAre (take (i + 1) steps) heard next
counts_at steps i step other heard next within is counts = subst (λ (s : List Step). CountsAre s heard next) (sym (take_is steps i step other within is)) counts

pub each_at : (steps : List Step) (i : ℕ) (answers : List Answer) → i < length steps → length answers ≡ i → length answers ≡ length (take i steps)
each_at steps i answers within each = each ∙ sym (length-take-le i steps (omega (arith, within)))

-- What a run knows of its vCPUs.

-- of which vCPUs something was heard
abbrev pub names_in : List Heard → List VcpuName
names_in heard = map (λ one. one.name) heard

-- each has one entry
abbrev pub AreApart : List Heard → Type 0
AreApart heard = (i j : ℕ) (name : VcpuName) → slice_get (names_in heard) i ≡ Some name → slice_get (names_in heard) j ≡ Some name → i ≡ j

-- as many answers are in each entry as its vCPU has operations among the steps
abbrev pub EachHeard : List Step → List Heard → Type 0
EachHeard steps heard = (p : ℕ) (one : Heard) → slice_get heard p ≡ Some one → length one.answers ≡ length (vcpu_ops one.name.guest one.name.vcpu steps)

nobody : Heard
nobody = record { name = vcpu_name 0 0; answers = [] }

entry_of : (heard : List Heard) (p : ℕ) (name : VcpuName) → slice_get (names_in heard) p ≡ Some name → (one : Heard) × (slice_get heard p ≡ Some one) × (one.name ≡ name)
entry_of [] p name e = absurd (cc)
entry_of (first ∷ heard) zero name e = (first, refl, cc)
entry_of (first ∷ heard) (suc p) name e = entry_of heard p name e

name_of : (heard : List Heard) (p : ℕ) (one : Heard) → slice_get heard p ≡ Some one → slice_get (names_in heard) p ≡ Some one.name
name_of [] p one e = absurd (cc)
name_of (first ∷ heard) zero one e = let same : first ≡ one = cc in ap (λ (o : Heard). Some o.name) same
name_of (first ∷ heard) (suc p) one e = name_of heard p one e

-- who has an entry has a first one, which is of the vCPU
entry_there : (heard : List Heard) (p : ℕ) (one : Heard) → slice_get heard p ≡ Some one → place_by one.name.guest one.name.vcpu heard < length heard
entry_there [] p one e = absurd (cc)
entry_there (first ∷ heard) zero one e =
    let same : first ≡ one = cc in
    let own : is_of one.name.guest one.name.vcpu first ≡ true = subst (λ (o : Heard). is_of o.name.guest o.name.vcpu first ≡ true) same (own_test first.name.guest first.name.vcpu) in
    rw own (omega arith)
entry_there (first ∷ heard) (suc p) one e = elim (cases_Bool (is_of one.name.guest one.name.vcpu first)) [
  | inl holds ↦ rw holds (omega arith)
  | inr fails ↦ (let there = entry_there heard p one e in rw fails (omega (arith, there)))
]

entry_is : (g v : ℕ) (heard : List Heard) → place_by g v heard < length heard → slice_get (names_in heard) (place_by g v heard) ≡ Some (vcpu_name g v)
entry_is g v [] there = absurd (omega (arith, there))
entry_is g v (first ∷ heard) there = elim (cases_Bool (is_of g v first)) [
  | inl holds ↦
      (let both = and_parts (first.name.guest == g) (first.name.vcpu == v) holds in
      rw holds (ap (λ (n : ℕ). Some (vcpu_name n first.name.vcpu)) (eqb-true first.name.guest g both.0) ∙ ap (λ (n : ℕ). Some (vcpu_name g n)) (eqb-true first.name.vcpu v both.1)))
  | inr fails ↦ (let past = rw fails at there in let below : place_by g v heard < length heard = omega (arith, past) in rw (fails, add-one) (entry_is g v heard below))
]

-- what a vCPU heard is in its entry
pub heard_own : (heard : List Heard) (p : ℕ) (one : Heard) → AreApart heard → slice_get heard p ≡ Some one → heard_by one.name.guest one.name.vcpu heard ≡ one.answers
heard_own heard p one apart e =
    let g = one.name.guest in
    let v = one.name.vcpu in
    let there = entry_there heard p one e in
    let same : place_by g v heard ≡ p = apart (place_by g v heard) p one.name (entry_is g v heard there) (name_of heard p one e) in
    heard_at g v heard one there ∙ ap (λ (n : ℕ). (get_or heard n one).answers) same ∙ ap (λ (o : Heard). o.answers) (get_or_from_slice_get heard p one one e)

-- all was heard where each entry has as many answers as its vCPU has operations, and no other vCPU has any
pub heard_all :
    (steps : List Step) (heard : List Heard) → EachHeard steps heard → ((g v : ℕ) → ((p : ℕ) → slice_get (names_in heard) p ≡ Some (vcpu_name g v) → ⊥) → vcpu_ops g v steps ≡ []) → AllHeard steps heard
heard_all steps heard each others g v = elim (cases_lt (place_by g v heard) (length heard)) [
  | inl there ↦
      (let one = get_or heard (place_by g v heard) nobody in
      let at : slice_get heard (place_by g v heard) ≡ Some one = slice_get-get_or heard (place_by g v heard) nobody there in
      let named : one.name ≡ vcpu_name g v = some_is one.name (vcpu_name g v) (sym (name_of heard (place_by g v heard) one at) ∙ entry_is g v heard there) in
      ap length (heard_at g v heard nobody there) ∙ each (place_by g v heard) one at ∙ ap (λ (n : VcpuName). length (vcpu_ops n.guest n.vcpu steps)) named)
  | inr past ↦
      (let none : vcpu_ops g v steps ≡ [] = others g v (λ p at. (let entry = entry_of heard p (vcpu_name g v) at in
      let there : place_by g v heard < length heard = subst (λ (n : VcpuName). place_by n.guest n.vcpu heard < length heard) entry.2 (entry_there heard p entry.0 entry.1) in
      omega (arith, past, there))) in
      let empty : length (heard_by g v heard) ≡ 0 = elim (cases_lt 0 (length (heard_by g v heard))) [
        | inl some ↦ (let there = heard_there g v heard some in absurd (omega (arith, past, there)))
        | inr few ↦ omega (arith, few)
      ] in
      empty ∙ sym (ap length none))
]
  where
    some_is : (x y : VcpuName) → Some x ≡ Some y → x ≡ y
    some_is x y e = cc

weaker : (test weak : GuestShape → Bool) (found : Option GuestShape) → ((shape : GuestShape) → test shape ≡ true → weak shape ≡ true) → passes test found ≡ true → passes weak found ≡ true
weaker test weak None all e = absurd (cc)
weaker test weak (Some shape) all e = all shape e

-- among steps that are formed, only a vCPU that is there has operations
pub formed_ops :
    (mode : Mode) (pes : ℕ) (shapes : List GuestShape) (steps : List Step) (g v : ℕ) → All (λ step. IsTrue (is_formed mode pes shapes step)) steps → has_vcpu shapes g v ≡ false → vcpu_ops g v steps ≡ []
formed_ops mode pes shapes [] g v formed none = refl
formed_ops mode pes shapes (VcpuStep guest vcpu op ∷ steps) g v formed none =
    let first = All-head (λ step. IsTrue (is_formed mode pes shapes step)) (VcpuStep guest vcpu op) steps formed in
    let rest = formed_ops mode pes shapes steps g v (All-tail (λ step. IsTrue (is_formed mode pes shapes step)) (VcpuStep guest vcpu op) steps formed) none in
    elim (cases_Bool (guest == g && vcpu == v)) [
      | inl holds ↦
          (let both = and_parts (guest == g) (vcpu == v) holds in
          let there : has_vcpu shapes guest vcpu ≡ true =
          weaker (λ shape. nat_lt vcpu shape.vcpus && is_good_op shape op) (λ shape. nat_lt vcpu shape.vcpus) (slice_get shapes guest) (λ shape e. (and_parts (nat_lt vcpu shape.vcpus) (is_good_op shape op) e).0) first in
          let own : has_vcpu shapes g v ≡ true =
          subst (λ (n : ℕ). has_vcpu shapes n v ≡ true) (eqb-true guest g both.0) (subst (λ (n : ℕ). has_vcpu shapes guest n ≡ true) (eqb-true vcpu v both.1) there) in
          absurd (cc))
      | inr fails ↦ rw fails rest
    ]
formed_ops mode pes shapes (DeviceStep guest device op ∷ steps) g v formed none = formed_ops mode pes shapes steps g v (All-tail (λ step. IsTrue (is_formed mode pes shapes step)) (DeviceStep guest device op) steps formed) none
formed_ops mode pes shapes (PeStep pe op ∷ steps) g v formed none = formed_ops mode pes shapes steps g v (All-tail (λ step. IsTrue (is_formed mode pes shapes step)) (PeStep pe op) steps formed) none

guests_have : (guests : List GuestSpec) (g v : ℕ) → has_vcpu (shapes_of guests) g v ≡ true → (g < length guests) × (v < (get_or guests g no_guest).shape.vcpus)
guests_have [] g v e = absurd (cc)
guests_have (guest ∷ guests) zero v e = (omega arith, ltb-true v guest.shape.vcpus e)
guests_have (guest ∷ guests) (suc g) v e = let rest = guests_have guests g v e in (omega (arith, rest.0), rest.1)

-- so in a run, whose entries are its vCPUs', each heard what its operations answered
pub heard_in_run :
    (mode : Mode) (pes : ℕ) (guests : List GuestSpec) (words : List WordsTold) (steps : List Step) (heard : List Heard) → length words ≡ length guests → ((number : ℕ) → number < length words → (words_at words number).guest ≡ opening_guest (get_or guests number no_guest)) → AreNumbered words
    → All (λ step. IsTrue (is_formed mode pes (shapes_of guests) step)) steps → names_in heard ≡ all_vcpus words → EachHeard steps heard
    → AllHeard steps heard
heard_in_run mode pes guests words steps heard count guest numbered formed named each =
    heard_all steps heard each
    (λ g v none. formed_ops mode pes (shapes_of guests) steps g v formed (elim (cases_Bool (has_vcpu (shapes_of guests) g v)) [
      | inl holds ↦
          (let has = guests_have guests g v holds in
          let there : g < length words = omega (arith, has.0, count) in
          let few : v < (words_at words g).guest.shape.vcpus = subst (λ (opened : IdealGuest). v < opened.shape.vcpus) (sym (guest g there)) has.1 in
          let place = length (all_vcpus (take g words)) + v in
          absurd (none place (ap (λ (names : List VcpuName). slice_get names place) named ∙ vcpu_place words g v numbered there few)))
      | inr fails ↦ fails
    ]))

pub apart_in_run : (words : List WordsTold) (heard : List Heard) → AreNumbered words → names_in heard ≡ all_vcpus words → AreApart heard
apart_in_run words heard numbered named i j name at_i at_j =
    vcpus_apart words i j name numbered (ap (λ (names : List VcpuName). slice_get names i) (sym named) ∙ at_i) (ap (λ (names : List VcpuName). slice_get names j) (sym named) ∙ at_j)

-- so the calls that the steps give a vCPU are those of its script, with the answers in its entry
pub vcpu_calls :
    (steps : List Step) (heard : List Heard) (answers : List Answer) (shape : GuestShape) (p : ℕ) (one : Heard) → AnswersAre steps heard answers → AreApart heard → slice_get heard p ≡ Some one → one.name.vcpu < shape.vcpus
    → own_steps shape one.name.guest one.name.vcpu steps answers ≡ calls_answered (vcpu_ops one.name.guest one.name.vcpu steps) one.answers
vcpu_calls steps heard answers shape p one are apart at few = are.vcpus shape one.name.guest one.name.vcpu few ∙ ap (calls_answered (vcpu_ops one.name.guest one.name.vcpu steps)) (heard_own heard p one apart at)

-- and those of a device are of its own script, none of which reads anything
pub device_calls :
    (mode : Mode) (pes : ℕ) (shapes : List GuestShape) (steps : List Step) (heard : List Heard) (answers : List Answer) (shape : GuestShape) (number device : ℕ) → All (λ step. IsTrue (is_formed mode pes shapes step)) steps → AnswersAre steps heard answers → slice_get shapes number ≡ Some shape
    → own_steps shape number (shape.vcpus + device) steps answers ≡ calls_received (device_ops number device steps)
device_calls mode pes shapes steps heard answers shape number device formed are at =
    let past : nat_lt (shape.vcpus + device) shape.vcpus ≡ false = grind (arith, nat_tests) in
    let none : has_vcpu shapes number (shape.vcpus + device) ≡ false = ap (passes (λ (s : GuestShape). nat_lt (shape.vcpus + device) s.vcpus)) at ∙ past in
    are.devices shape number device (formed_ops mode pes shapes steps number (shape.vcpus + device) formed none)
