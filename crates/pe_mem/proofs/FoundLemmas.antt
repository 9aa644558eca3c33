-- What an access found stays so among more steps of its actor.
use Rattle.std.proofs.Common.{◌≡◌, ℕ, true, false, IsTrue, List, ◌++◌, Option, None, sym, ap, ◌∙◌}
use Rattle.std.proofs.lemmas.Bool.{and_from}
use Rattle.std.proofs.lemmas.List.{append_assoc}
use Rattle.std.proofs.lemmas.List.Folds.{list_all-append}
use Rattle.its_exec.specs.Calls.{Operation, Beside, Happened, IsCall}
use Rattle.its_exec.specs.Core.{Made, Seen, Adds, local_by, part_events, shape_of, maps_taken, vcpu_of_actor}
use Rattle.its_exec.proofs.PortCore.PortLemmas.{local_joins}
use Rattle.its_exec.proofs.PortCall.TurnLemmas.{events_then}
use Rattle.its_exec.specs.Queue.{Taken}
use Rattle.pe_mem.specs.Found.{IsCallAsFound, TookAmong, are_before, by_looks, is_before, takes_its_by}

pub before_both : (first next : List Happened) → IsTrue (are_before first) → IsTrue (are_before next) → are_before (first ++ next) ≡ true
before_both first next one two = list_all-append (λ (happened : Happened). is_before happened.event) first next ∙ and_from (are_before first) (are_before next) one two

pub among_after : (old mid : Seen) (front part : List Made) (commands : List Taken) → Adds old mid front → IsTrue (are_before (part_events old front)) → TookAmong mid part commands → TookAmong old (front ++ part) commands
among_after old mid front part commands adds before among =
    let own : mid.own ≡ old.own ++ front = ap (λ (seen : Seen). seen.own) adds.new_is in
    record {
      from = among.from;
      to = among.to;
      are = among.are;
      guest = among.guest ∙ ap (λ (seen : Seen). seen.guest) adds.new_is;
      actor = among.actor ∙ ap (λ (seen : Seen). seen.actor) adds.new_is;
      early = front ++ among.early;
      late = among.late;
      before = ap are_before (events_then old mid front among.early adds) ∙ before_both (part_events old front) (part_events mid among.early) before among.before;
      local =
          among.local ∙ ap (λ (seen : Seen). local_by (shape_of seen) seen.actor seen.local among.early) adds.new_is
          ∙ sym (local_joins (shape_of old) old.actor old.local front among.early);
      begins = among.begins ∙ ap (λ xs. xs ++ among.early) own ∙ append_assoc old.own front among.early;
      ends = sym (append_assoc old.own front part) ∙ ap (λ xs. xs ++ part) (sym own) ∙ among.ends;
    }

pub among_before : (old : Seen) (part more : List Made) (commands : List Taken) → TookAmong old part commands → TookAmong old (part ++ more) commands
among_before old part more commands among =
    record {
      from = among.from;
      to = among.to;
      are = among.are;
      guest = among.guest;
      actor = among.actor;
      early = among.early;
      late = among.late ++ more;
      before = among.before;
      local = among.local;
      begins = among.begins;
      ends = sym (append_assoc old.own part more) ∙ ap (λ xs. xs ++ more) among.ends ∙ append_assoc among.to.own among.late more;
    }

-- a call that goes by no vCPU that an LPI is for
pub found_by_none : (seen : Seen) (part : List Made) (operation : Operation) (answer : Option ℕ) → takes_its_by (shape_of seen) operation ≡ false
    → ((beside : Beside) → beside.maps ≡ maps_taken part → IsCall (shape_of seen) beside (vcpu_of_actor (shape_of seen) seen.actor) operation (part_events seen part) answer) → IsCallAsFound seen part operation answer
found_by_none seen part operation answer free call = record { finding = by_looks (λ id. false) (λ id. None); kind = sym free; is_finding = λ id going. absurd (cc); call = λ beside maps agrees. call beside maps }
