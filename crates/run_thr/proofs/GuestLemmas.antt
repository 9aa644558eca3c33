-- What a guest did in a run on threads is one history of it.
use Rattle.std.proofs.Common.{◌≡◌, ℕ, ◌+◌, ◌<◌, ◌≤◌, ◌⊎◌, zero, suc, inl, inr, IsTrue, All, List, [], ◌∷◌, length, map, Some, refl, sym, ap, subst, ◌∙◌, arith}
use Rattle.std.specs.Prelude.{slice_get}
use Rattle.std.specs.List.{range_with_len}
use Rattle.std.proofs.Math.Logic.{∥∥₁_elim, ∥∥₁_map}
use Rattle.std.proofs.Props.{props}
use Rattle.std.proofs.lemmas.Bool.{cases_lt}
use Rattle.std.proofs.lemmas.List.{length-map}
use Rattle.std.proofs.lemmas.List.FromFn.{length-range_with_len}
use Rattle.law_threads_are_history.specs.Core.{ideal_of, GuestWords, Local, Made, actor_count, local_by, CoreState, Seat, end_of, opening, opening_local_of, own_steps, seat_at}
use Rattle.law_threads_are_history.specs.LawEagerIsHistory.Calls.{Made as MadeCall, calls_of, own_steps as steps_for}
use Rattle.law_threads_are_history.specs.LawEndsAgree.End.{AreEmpty, cpus_in, told_in, words_in}
use Rattle.law_threads_are_history.specs.Words.{GuestShape}
use Rattle.law_threads_are_history.specs.Calls.{Moment}
use Rattle.law_threads_are_history.proofs.GicFrame.TestLemmas.{is_under}
use Rattle.law_threads_are_history.specs.Histories.{IsFresh, IsHistory, IsWhole, last_of, home, IdealGuest, CanOpen}
use Rattle.law_threads_are_history.specs.GicIdeal.Ends.{end_of as end_between}
use Rattle.law_threads_are_history.specs.Registers.{CpuRec}
use Rattle.law_threads_are_history.specs.GuestEnd.Home.{IsAtEnd, guest_of}
use Rattle.law_threads_are_history.proofs.GuestEnd.PropLemmas.{end_prop}
use Rattle.law_threads_are_history.specs.PePlace.Calls.{calls_in}
use Rattle.law_threads_are_history.specs.PePlace.Parts.{Part}
use Rattle.law_threads_are_history.proofs.PortCore.OpeningLemmas.{seat_opens}
use Rattle.law_threads_are_history.proofs.PortCore.RunLemmas.{local_of_run}
use Rattle.law_threads_are_history.proofs.PortOps.WorldLemmas.{each_seat}
use Rattle.thr_cast.specs.PortTable.Told.{EndsRun, RootTold, WordsTold}
use Rattle.law_threads_are_history.specs.GicGuest.declared.outcome.Answer.{Answer}
use Rattle.law_threads_are_history.specs.ScnBase.declared.step.Mode.TheVariants.{Threads}
use Rattle.law_threads_are_history.specs.ScnBase.declared.step.Step.{Step}
use Rattle.law_threads_are_history.specs.ScnBase.Good.{is_formed}
use Rattle.law_threads_are_history.specs.History.{HasHistory}
use Rattle.law_threads_are_history.specs.Woven.{ActorHasDone}
use Rattle.law_threads_are_history.proofs.HistoryRuns.{threads_are_a_history}
use Rattle.run_thr.specs.Run.{ActorHasRun, GuestHasRun, local_of}
use Rattle.run_thr.proofs.ActorLemmas.{Chosen, One, actor_done, actor_local, choose}
use Rattle.run_thr.proofs.StrangerLemmas.{no_steps}

-- One row for another.
row_same : {X : Type 0} (f g : ℕ → X) (count from : ℕ) → ((n : ℕ) → n < from + count → f n ≡ g n) → map f (range_with_len from count) ≡ map g (range_with_len from count)
row_same f g zero from same = refl
row_same {X = X} f g (suc count) from same =
    ap (λ (x : X). x ∷ map f (range_with_len (from + 1) count)) (same from (omega arith))
    ∙ ap (λ (xs : List X). g from ∷ xs) (row_same f g count (from + 1) (λ n few. same n (omega (arith, few))))

-- a fresh history of a guest, in which all calls ended and each actor made its calls of these steps, which ends as this guest does, whatever state that is compared with
pub record HasHistoryOf (guest : IdealGuest) (number : ℕ) (steps : List Step) (answers : List Answer) (ideal : IdealGuest) : Type 0 where
  pub moments : List Moment
  pub history : IsHistory guest moments
  pub fresh : IsFresh guest moments
  pub whole : IsWhole guest moments
  pub calls : (actor : ℕ) → calls_of actor moments ≡ steps_for guest.shape number actor steps answers
  pub lines : (opened : IdealGuest) → end_between opened ideal ≡ end_between opened (home (last_of guest moments))

-- the CPU records of a guest's vCPUs
abbrev pub cpus_by : GuestShape → WordsTold → RootTold → List CpuRec
cpus_by shape words root = map (λ vcpu. (local_of words root vcpu).cpu) (range_with_len 0 shape.vcpus)

-- what is told of the end of a guest, and of what there was before
pub record TellsHistory (guest : IdealGuest) (number : ℕ) (steps : List Step) (answers : List Answer) (left : GuestWords) (cpus : List CpuRec) : Type 0 where
  pub ended : IsAtEnd guest.shape left cpus
  pub vcpus : length left.vcpus ≡ guest.shape.vcpus
  pub history : ∥ HasHistoryOf guest number steps answers (guest_of guest.shape left cpus) ∥₁

module _ (words : WordsTold) (root : RootTold) (left : GuestWords) (ended : EndsRun words root left) (pes lrs : ℕ) (shapes : List GuestShape) (steps : List Step) (answers : List Answer) (formed : All (λ step. IsTrue (is_formed Threads pes shapes step)) steps) where
  module _ (here : slice_get shapes words.number ≡ Some words.guest.shape) (good : CanOpen words.guest) (run : GuestHasRun words.guest words.number lrs steps answers words root) where
    abbrev shape : GuestShape
    shape = words.guest.shape

    abbrev opens : CoreState
    opens = opening words.guest words.number

    abbrev state : CoreState
    state = end_of shape opens ended.world

    abbrev calls_for : ℕ → List MadeCall
    calls_for actor = steps_for shape words.number actor steps answers

    -- Each actor.

    each : (actor : ℕ) → actor < actor_count shape → ∥ ActorHasRun words lrs actor (own_steps actor ended.world) (calls_for actor) ∥₁
    each actor there = subst (λ (own : List Made). ∥ ActorHasRun words lrs actor own (calls_for actor) ∥₁) (ended.lists actor) (run.each actor there)

    abbrev Did : ℕ → List Part → Type 0
    Did actor parts = ActorHasDone words.guest words.number actor (own_steps actor ended.world) parts × (calls_in parts ≡ calls_for actor)

    parted : ∥ Chosen Did (actor_count shape) ∥₁
    parted = choose [] Did (actor_count shape) (λ actor there. ∥∥₁_map (each actor there) (λ (one : ActorHasRun words lrs actor (own_steps actor ended.world) (calls_for actor)). record {
      one = one.gone.parts;
      is = (actor_done words lrs actor (own_steps actor ended.world) (calls_for actor) one, one.gone.calls_are);
    }))

    local_at : (actor : ℕ) → actor < actor_count shape → (seat_at state actor).local ≡ local_by shape actor (opening_local_of words.guest words.number actor) (own_steps actor ended.world)
    local_at actor there =
        local_of_run shape opens ended.world actor (each_seat words.guest words.number []) ended.run
        ∙ ap (λ (seat : Seat). local_by shape actor seat.local (own_steps actor ended.world)) (seat_opens words.guest words.number actor there)

    -- The end.

    empty : AreEmpty shape state
    empty vcpu few =
        let there : vcpu < actor_count shape = omega (arith, few) in
        ∥∥₁_elim (each vcpu there) (Prim.hlevel props)
        (λ (one : ActorHasRun words lrs vcpu (own_steps vcpu ended.world) (calls_for vcpu)).
        ap (λ (local : Local). local.at) (local_at vcpu there ∙ sym (actor_local words lrs vcpu (own_steps vcpu ended.world) (calls_for vcpu) one)) ∙ one.empty (is_under vcpu shape.vcpus few))

    cpus_are : cpus_in shape state ≡ cpus_by shape words root
    cpus_are =
        row_same (λ vcpu. (seat_at state vcpu).local.cpu) (λ vcpu. (local_of words root vcpu).cpu) shape.vcpus 0
        (λ vcpu few. ap (λ (local : Local). local.cpu) (local_at vcpu (omega (arith, few)) ∙ ap (local_by shape vcpu (opening_local_of words.guest words.number vcpu)) (sym (ended.lists vcpu))))

    -- The history.

    history : ∥ One (λ parts. HasHistory words.guest words.number ended.world parts × ((actor : ℕ) → actor < actor_count shape → calls_in (parts actor) ≡ calls_for actor)) ∥₁
    history = ∥∥₁_map parted (λ (chosen : Chosen Did (actor_count shape)). record {
      one = chosen.choice;
      is = (threads_are_a_history words.guest words.number ended.world chosen.choice good ended.run (λ actor there. (chosen.each actor there).0), λ actor there. (chosen.each actor there).1);
    })

    history_of : (parts : ℕ → List Part) → HasHistory words.guest words.number ended.world parts → ((actor : ℕ) → actor < actor_count shape → calls_in (parts actor) ≡ calls_for actor) → HasHistoryOf words.guest words.number steps answers (told_in words.guest state)
    history_of parts has own = record {
      moments = ideal_of shape opens has.moments;
      history = has.is.history;
      fresh = has.fresh;
      whole = has.whole;
      calls = λ actor. of actor (cases_lt actor (actor_count shape));
      lines = λ opened. subst (λ (s : CoreState). end_between opened (told_in words.guest s) ≡ end_between opened (home (last_of words.guest (ideal_of shape opens has.moments)))) has.state ((has.end empty).lines opened);
    }
      where
        of : (actor : ℕ) → (actor < actor_count shape) ⊎ (actor_count shape ≤ actor) → calls_of actor (ideal_of shape opens has.moments) ≡ calls_for actor
        of actor (inl there) = has.calls.each actor there ∙ own actor there
        of actor (inr past) = has.calls.others actor past ∙ sym (no_steps Threads pes shapes words.number actor shape here past steps answers formed)

    ended_here : IsAtEnd shape (words_in shape state) (cpus_in shape state)
    ended_here =
        ∥∥₁_elim history (end_prop shape (words_in shape state) (cpus_in shape state)) (λ one. subst (λ (s : CoreState). IsAtEnd shape (words_in shape s) (cpus_in shape s)) one.is.0.state (one.is.0.end empty).told)

    tells : TellsHistory words.guest words.number steps answers left (cpus_by shape words root)
    tells =
        subst (TellsHistory words.guest words.number steps answers left) cpus_are
        (subst (λ (w : GuestWords). TellsHistory words.guest words.number steps answers w (cpus_in shape state)) (sym ended.left_is)
        (record { ended = ended_here; vcpus = length-map (range_with_len 0 shape.vcpus) _ ∙ length-range_with_len 0 shape.vcpus; history = ∥∥₁_map history (λ one. history_of one.one one.is.0 one.is.1) }))

  abbrev Tells : IdealGuest → ℕ → Type 0
  Tells guest number = slice_get shapes number ≡ Some guest.shape → CanOpen guest → GuestHasRun guest number lrs steps answers words root → TellsHistory guest number steps answers left (cpus_by guest.shape words root)

  pub guest_tells : (guest : IdealGuest) (number : ℕ) → Tells guest number
  guest_tells guest number here good run = subst (λ g. Tells g number) run.guest_is (subst (Tells words.guest) run.number_is tells) here good run
