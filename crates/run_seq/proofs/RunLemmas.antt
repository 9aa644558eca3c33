-- The steps of a schedule, one after the other.
use Rattle.std.proofs.Common.{◌≡◌, ℕ, zero, suc, ◌+◌, ◌<◌, ◌≤◌, IsTrue, All, List, [], ◌∷◌, ◌++◌, length, take, drop, get_or, Option, Some, refl, sym, ap, ◌∙◌, subst, arith}
use Rattle.std.specs.Prelude.{slice_get}
use Rattle.std.proofs.lemmas.Bool.{and_parts}
use Rattle.std.proofs.lemmas.List.{append_assoc, append-nil, length-append, length-set, take_more}
use Rattle.std.proofs.lemmas.Option.{slice_get-get_or}
use Rattle.std.specs.List.{flat_map}
use Rattle.std.proofs.lemmas.Grind.{flat_map-append}
use Rattle.std.proofs.lemmas.List.Elements.{All-head, All-tail}
use Rattle.law_ends_agree.specs.Words.{Enter, Exit, Lrs}
use Rattle.law_ends_agree.specs.Histories.{IdealGuest}
use Rattle.law_ends_agree.specs.GicIdeal.Eager.{after_step, after_steps, answers_of, state_shapes, step_answer}
use Rattle.law_ends_agree.specs.GicGuest.declared.outcome.Answer.{Answer}
use Rattle.law_ends_agree.specs.ScnBase.declared.pes.VcpuName.{VcpuName}
use Rattle.law_ends_agree.specs.ScnBase.declared.standing.Standing.{Standing}
use Rattle.law_ends_agree.specs.ScnBase.declared.step.Mode.TheVariants.{Schedule}
use Rattle.law_ends_agree.specs.ScnBase.declared.step.Step.{Step}
use Rattle.law_ends_agree.specs.ScnBase.declared.step.Step.TheVariants.{Vcpu, Device, Pe}
use Rattle.law_ends_agree.specs.ScnBase.Good.{is_formed, stand_in_turn, stands}
use Rattle.law_ends_agree.specs.ScnBase.Standing.{pes_after, standing_after}
use Rattle.law_one_thread_is_eager.specs.PortSeq.Told.{SeqTold}
use Rattle.law_one_thread_is_eager.specs.LawSerialIsEager.Serial.{WholePart}
use Rattle.run_seq.specs.declared.machine.Machine.{Machine}
use Rattle.run_seq.specs.StepCalls.{calls_among}
use Rattle.run_seq.specs.Steps.{AreOfStep, AreOfSteps, StandSo}
use Rattle.run_seq.specs.Machine.{CanDo, DoesStep, HasDoneStep, IsMachineAt, IsReady, OpensMachine}
use Rattle.run_seq.proofs.StandLemmas.{all_stand}
use Rattle.law_ends_agree.proofs.GuestEnd.EndsLemmas.{drop_next}
use Rattle.run_seq.specs.Agenda.{Agenda, CanBeDone, answers_by}

-- a step leaves as many PEs
pub pes_each : (step : Step) (pes : List (Option VcpuName)) → length (pes_after step pes) ≡ length pes
pes_each (Vcpu guest vcpu op) pes = refl
pes_each (Device guest device op) pes = refl
pes_each (Pe pe (Enter guest vcpu)) pes = length-set pes pe _
pes_each (Pe pe Exit) pes = length-set pes pe _
pes_each (Pe pe Lrs) pes = refl

-- The parts of one more step.

-- the PEs after some steps
abbrev pub pes_then : List Step → List (Option VcpuName) → List (Option VcpuName)
pes_then [] pes = pes
pes_then (step ∷ steps) pes = pes_then steps (pes_after step pes)

pes_more : (steps : List Step) (step : Step) (pes : List (Option VcpuName)) → pes_then (steps ++ step ∷ []) pes ≡ pes_after step (pes_then steps pes)
pes_more [] step pes = refl
pes_more (one ∷ steps) step pes = pes_more steps step (pes_after one pes)

-- the parts of all of them
abbrev pub all_parts : List (List WholePart) → List WholePart
all_parts each = flat_map (λ more. more) each

parts_more : (each : List (List WholePart)) (more : List WholePart) → all_parts (each ++ more ∷ []) ≡ all_parts each ++ more
parts_more each more = flat_map-append (λ (more : List WholePart). more) each (more ∷ []) ∙ ap (λ last. all_parts each ++ last) (append-nil more)

module _ (guest : IdealGuest) (number lrs : ℕ) (step : Step) (answer : Answer) (more : List WholePart) where
  abbrev Last : List (Option VcpuName) → List WholePart → Type 0
  Last pes early = AreOfStep guest number lrs pes step answer early more

  steps_more : (pes : List (Option VcpuName)) (early : List WholePart) (steps : List Step) (answers : List Answer) (each : List (List WholePart)) → AreOfSteps guest number lrs pes early steps answers each → Last (pes_then steps pes) (early ++ all_parts each)
      → AreOfSteps guest number lrs pes early (steps ++ step ∷ []) (answers ++ answer ∷ []) (each ++ more ∷ [])
  steps_more pes early [] [] [] so last = (subst (Last pes) (append-nil early) last, tt)
  steps_more pes early [] [] (one ∷ each) so last = absurd so
  steps_more pes early [] (other ∷ answers) [] so last = absurd so
  steps_more pes early [] (other ∷ answers) (one ∷ each) so last = absurd so
  steps_more pes early (first ∷ steps) [] [] so last = absurd so
  steps_more pes early (first ∷ steps) [] (one ∷ each) so last = absurd so
  steps_more pes early (first ∷ steps) (other ∷ answers) [] so last = absurd so
  steps_more pes early (first ∷ steps) (other ∷ answers) (one ∷ each) so last =
      (so.0, steps_more (pes_after first pes) (early ++ one) steps answers each so.1 (subst (Last (pes_then (first ∷ steps) pes)) (sym (append_assoc early one (all_parts each))) last))

-- So far.

-- as a guest opened nothing was called, and its vCPUs are on their PEs
pub record Opened (agenda : Agenda) (guest : IdealGuest) (number : ℕ) (first : List WholePart) : Type 0 where
  pub calls : calls_among first ≡ []
  pub stand : ∥ StandSo guest number agenda.lrs agenda.pes first ∥₁

-- some steps are done, and others are left
pub record RunsSoFar (agenda : Agenda) (machine : Machine) (told : SeqTold) (answers : List Answer) (done rest : List Step) : Type 0 where
  pub first : ℕ → List WholePart
  pub by_step : ℕ → List (List WholePart)
  pub parts : ℕ → List WholePart
  pub ideals : List IdealGuest
  pub standing : Standing
  pub all : done ++ rest ≡ agenda.steps
  pub each : length answers ≡ length done
  pub at : IsMachineAt agenda.states agenda.lrs machine told parts ideals
  pub count : length machine.pes ≡ length agenda.pes
  pub pes : standing.pes ≡ machine.pes
  pub in_turn : IsTrue (stand_in_turn Schedule standing rest)
  pub formed : All (λ step. IsTrue (is_formed Schedule (length agenda.pes) (state_shapes agenda.states) step)) rest
  pub answers_are : answers ++ answers_of agenda.lrs machine.pes rest ideals ≡ answers_by agenda
  pub ends_are : after_steps rest ideals ≡ after_steps agenda.steps agenda.states
  pub split : (number : ℕ) → parts number ≡ first number ++ all_parts (by_step number)
  pub pes_are : machine.pes ≡ pes_then done agenda.pes
  pub opened : (number : ℕ) (guest : IdealGuest) → slice_get agenda.states number ≡ Some guest → Opened agenda guest number (first number)
  pub of_steps : (number : ℕ) (guest : IdealGuest) → slice_get agenda.states number ≡ Some guest → AreOfSteps guest number agenda.lrs agenda.pes (first number) done answers (by_step number)

pub runs_open : (agenda : Agenda) (machine : Machine) (told : SeqTold) → CanBeDone agenda → OpensMachine agenda.lrs agenda.states agenda.pes machine told → RunsSoFar agenda machine told [] [] agenda.steps
runs_open agenda machine told can opens = record {
  first = opens.parts;
  by_step = λ number. [];
  parts = opens.parts;
  ideals = agenda.states;
  standing = can.standing;
  all = refl;
  each = refl;
  at = opens.at;
  count = ap length opens.pes_are;
  pes = can.stands ∙ sym opens.pes_are;
  in_turn = can.in_turn;
  formed = can.each_step;
  answers_are = ap (λ pes. answers_of agenda.lrs pes agenda.steps agenda.states) opens.pes_are;
  ends_are = refl;
  split = λ number. sym (append-nil (opens.parts number));
  pes_are = opens.pes_are;
  opened = λ number guest is.
      record {
        calls = opens.calls number guest is;
        stand = subst (λ pes. ∥ StandSo guest number agenda.lrs pes (opens.parts number) ∥₁) opens.pes_are (all_stand agenda.states agenda.lrs machine told opens.parts agenda.states opens.at number guest is);
      };
  of_steps = λ number guest is. tt;
}

module _ (agenda : Agenda) (machine : Machine) (told : SeqTold) (answers : List Answer) (done : List Step) (step : Step) (rest : List Step) (so : RunsSoFar agenda machine told answers done (step ∷ rest)) where
  turn : IsTrue (stands Schedule so.standing step) × IsTrue (stand_in_turn Schedule (standing_after step so.standing) rest)
  turn = and_parts (stands Schedule so.standing step) (stand_in_turn Schedule (standing_after step so.standing) rest) so.in_turn

  pub can_do : CanDo agenda.states machine step
  can_do = record {
    standing = so.standing;
    pes = so.pes;
    formed = subst (λ n. IsTrue (is_formed Schedule n (state_shapes agenda.states) step)) (sym so.count) (All-head (λ (step : Step). IsTrue (is_formed Schedule (length agenda.pes) (state_shapes agenda.states) step)) step rest so.formed);
    stands = turn.0;
  }

  pub is_ready : IsReady machine told step
  is_ready = record { of = record { states = agenda.states; lrs = agenda.lrs; parts = so.parts; ideals = so.ideals; at = so.at }; can = can_do }

  of_step : (next : Machine) (later : SeqTold) (answer : Answer) (does : HasDoneStep agenda.states agenda.lrs machine next later so.parts so.ideals step answer) (number : ℕ) (guest : IdealGuest) → slice_get agenda.states number ≡ Some guest
      → AreOfStep guest number agenda.lrs machine.pes step answer (so.parts number) (does.more number)
  of_step next later answer does number guest is =
      let parts : ℕ → List WholePart = λ number. so.parts number ++ does.more number in
      record {
        calls = does.calls number guest is;
        of_pe = does.of_pe number guest is;
        stand = subst (λ pes. ∥ StandSo guest number agenda.lrs pes (parts number) ∥₁) does.pes (all_stand agenda.states agenda.lrs next later parts (after_step step so.ideals) does.at number guest is);
      }

  pub runs_more : (next : Machine) (later : SeqTold) (answer : Answer) → HasDoneStep agenda.states agenda.lrs machine next later so.parts so.ideals step answer → RunsSoFar agenda next later (answers ++ answer ∷ []) (done ++ step ∷ []) rest
  runs_more next later answer does = record {
    first = so.first;
    by_step = λ number. so.by_step number ++ does.more number ∷ [];
    parts = λ number. so.parts number ++ does.more number;
    ideals = after_step step so.ideals;
    standing = standing_after step so.standing;
    all = append_assoc done (step ∷ []) rest ∙ so.all;
    each = omega (arith, length-append answers (answer ∷ []), length-append done (step ∷ []), so.each);
    at = does.at;
    count = ap length does.pes ∙ pes_each step machine.pes ∙ so.count;
    pes = ap (pes_after step) so.pes ∙ sym does.pes;
    in_turn = turn.1;
    formed = All-tail (λ (step : Step). IsTrue (is_formed Schedule (length agenda.pes) (state_shapes agenda.states) step)) step rest so.formed;
    answers_are =
        append_assoc answers (answer ∷ []) (answers_of agenda.lrs next.pes rest (after_step step so.ideals))
        ∙ ap (λ answer. answers ++ answer ∷ answers_of agenda.lrs next.pes rest (after_step step so.ideals)) does.answer_is
        ∙ ap (λ pes. answers ++ step_answer agenda.lrs machine.pes step so.ideals ∷ answers_of agenda.lrs pes rest (after_step step so.ideals)) does.pes
        ∙ so.answers_are;
    ends_are = so.ends_are;
    split = λ number.
        ap (λ parts. parts ++ does.more number) (so.split number)
        ∙ append_assoc (so.first number) (all_parts (so.by_step number)) (does.more number)
        ∙ ap (λ parts. so.first number ++ parts) (sym (parts_more (so.by_step number) (does.more number)));
    pes_are = does.pes ∙ ap (pes_after step) so.pes_are ∙ sym (pes_more done step agenda.pes);
    opened = so.opened;
    of_steps = λ number guest is.
        steps_more guest number agenda.lrs step answer (does.more number) agenda.pes (so.first number) done answers (so.by_step number) (so.of_steps number guest is)
        (subst (λ pes. AreOfStep guest number agenda.lrs pes step answer (so.first number ++ all_parts (so.by_step number)) (does.more number)) so.pes_are
        (subst (λ early. AreOfStep guest number agenda.lrs machine.pes step answer early (does.more number)) (so.split number) (of_step next later answer does number guest is)));
  }

-- The steps of a list, by a number.

pub runs_start : (agenda : Agenda) (machine : Machine) (told : SeqTold) (answers : List Answer) (items : List Step) → CanBeDone agenda → OpensMachine agenda.lrs agenda.states agenda.pes machine told → answers ≡ [] → items ≡ agenda.steps → RunsSoFar agenda machine told answers [] items
runs_start agenda machine told answers items can opens none items_are =
    subst (λ items. RunsSoFar agenda machine told answers [] items) (sym items_are) (subst (λ answers. RunsSoFar agenda machine told answers [] agenda.steps) (sym none) (runs_open agenda machine told can opens))

module _ (agenda : Agenda) (machine : Machine) (told : SeqTold) (answers : List Answer) (items : List Step) (number : ℕ) (so : RunsSoFar agenda machine told answers (take number items) (drop number items)) where
  module _ (first : Step) (there : number < length items) where
    abbrev now : Step
    now = get_or items number first

    so_now : RunsSoFar agenda machine told answers (take number items) (now ∷ drop (suc number) items)
    so_now = subst (RunsSoFar agenda machine told answers (take number items)) (drop_next items number now (slice_get-get_or items number first there)) so

    pub next_ready : IsReady machine told now
    next_ready = is_ready agenda machine told answers (take number items) now (drop (suc number) items) so_now

    pub next_runs : (next : Machine) (later : SeqTold) (answer : Answer) (all : List Answer) → all ≡ answers ++ answer ∷ [] → DoesStep machine next told later now answer → RunsSoFar agenda next later all (take (number + 1) items) (drop (number + 1) items)
    next_runs next later answer all pushed steps =
        let does = steps agenda.states agenda.lrs so_now.parts so_now.ideals so_now.at (can_do agenda machine told answers (take number items) now (drop (suc number) items) so_now) in
        let more = runs_more agenda machine told answers (take number items) now (drop (suc number) items) so_now next later answer does in
        subst (λ done. RunsSoFar agenda next later all done (drop (number + 1) items)) (sym (take_more items number first there))
        (subst (λ n. RunsSoFar agenda next later all (take number items ++ now ∷ []) (drop n items)) one_more
        (subst (λ answers. RunsSoFar agenda next later answers (take number items ++ now ∷ []) (drop (suc number) items)) (sym pushed) more))
      where
        one_more : suc number ≡ number + 1
        one_more = omega arith

  pub runs_last : length items ≤ number → items ≡ agenda.steps → RunsSoFar agenda machine told answers agenda.steps []
  runs_last past items_are =
      subst (λ rest. RunsSoFar agenda machine told answers agenda.steps rest) (dropped_past items number past)
      (subst (λ done. RunsSoFar agenda machine told answers done (drop number items)) (taken_past items number past ∙ items_are) so)
    where
      taken_past : (xs : List Step) (n : ℕ) → length xs ≤ n → take n xs ≡ xs
      taken_past [] zero h = refl
      taken_past [] (suc n) h = refl
      taken_past (x ∷ xs) zero h = absurd (omega (arith, h))
      taken_past (x ∷ xs) (suc n) h = ap (λ rest. x ∷ rest) (taken_past xs n (omega (arith, h)))

      dropped_past : (xs : List Step) (n : ℕ) → length xs ≤ n → drop n xs ≡ []
      dropped_past [] zero h = refl
      dropped_past [] (suc n) h = refl
      dropped_past (x ∷ xs) zero h = absurd (omega (arith, h))
      dropped_past (x ∷ xs) (suc n) h = dropped_past xs n (omega (arith, h))
