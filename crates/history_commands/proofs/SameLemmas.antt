-- Of the vCPUs that LPIs were for only those count that were noted as a command began.
use Rattle.std.proofs.Common.{◌≡◌, ℕ, zero, suc, ◌+◌, ◌<◌, ◌≤◌, not, Bool, true, false, cond, List, [], ◌∷◌, ◌++◌, length, filter, Option, Some, None, refl, sym, ap, ◌∙◌, subst, arith}
use Rattle.std.specs.Option.{option_map_or}
use Rattle.std.proofs.lemmas.List.{length-append}
use Rattle.std.proofs.lemmas.List.Elements.{filter-append}
use Rattle.history_commands.specs.Words.{GuestShape}
use Rattle.history_commands.specs.Registers.{Maps, fault_number}
use Rattle.history_commands.specs.LegalLists.ItsCmd.Command.{decoded}
use Rattle.history_commands.specs.Calls.{Event, Done, Stalls, Happened, View, Part, is_beside, command_parts, command_words, next_offset, queue_event, takes_command, words_read}
use Rattle.history_commands.specs.GicCall.declared.event.Event.TheVariants.{Queue}
use Rattle.history_commands.specs.declared.its.Its.{Its}
use Rattle.history_commands.specs.Known.{view_by}
use Rattle.history_commands.specs.Stage.{Stage, Between, Within, Ending, Over, FitsParts, FitsTaken, FitsNamed, Follow, noting, named_after, parts_after}
use Rattle.history_commands.specs.Begun.{begins_command, begun_by}
use Rattle.history_commands.proofs.StepLemmas.{Goes, goes_beside, goes_named, went_beside, went_named}

pub begun_cons : (one : Happened) (piece : List Happened) → begun_by (one ∷ piece) ≡ cond (begins_command one.event) (suc (begun_by piece)) (begun_by piece)
begun_cons one piece = of (begins_command one.event)
  where
    of : (b : Bool) → length (cond b (one ∷ filter (λ (h : Happened). begins_command h.event) piece) (filter (λ (h : Happened). begins_command h.event) piece)) ≡ cond b (suc (begun_by piece)) (begun_by piece)
    of true = refl
    of false = refl

pub begun_more : (one : Happened) (piece : List Happened) → begun_by piece ≤ begun_by (one ∷ piece)
begun_more one piece = subst (λ n. begun_by piece ≤ n) (sym (begun_cons one piece)) (of (begins_command one.event))
  where
    of : (b : Bool) → begun_by piece ≤ cond b (suc (begun_by piece)) (begun_by piece)
    of true = omega arith
    of false = omega arith

pub begun_both : (one two : List Happened) → begun_by (one ++ two) ≡ begun_by one + begun_by two
begun_both one two =
    ap length (filter-append (λ (h : Happened). begins_command h.event) one two) ∙ length-append (filter (λ (h : Happened). begins_command h.event) one) (filter (λ (h : Happened). begins_command h.event) two)

queue_begins : (offset next : ℕ) (o : Option ℕ) (words : List ℕ) → begins_command (option_map_or (λ fault. Queue offset (Stalls fault)) o (Queue next (Done words))) ≡ true
queue_begins offset next None words = refl
queue_begins offset next (Some fault) words = refl

module _ (shape : GuestShape) (actor bound : ℕ) (one_of other_of : ℕ → ℕ → Option ℕ) (agree : (number : ℕ) → number < bound → one_of number ≡ other_of number) (is_open : Bool) where
  -- the commands that are still to come were noted as they began
  abbrev pub IsBounded : Stage → ℕ → Type 0
  IsBounded (Between number its maps reads) left = number + left < bound
  IsBounded (Within number its maps fetch parts reads) left = number + left < bound
  IsBounded stage left = Unit {0}

  less : (stage : Stage) (left more : ℕ) → left ≤ more → IsBounded stage more → IsBounded stage left
  less (Between number its maps reads) left more h b = omega (arith, h, b)
  less (Within number its maps fetch parts reads) left more h b = omega (arith, h, b)
  less Ending left more h b = tt
  less Over left more h b = tt

  bounded_noting : (stage : Stage) (one : Happened) (left : ℕ) → IsBounded stage left → IsBounded (noting stage one) left
  bounded_noting (Between number its maps reads) one left b = b
  bounded_noting (Within number its maps fetch parts reads) one left b = b
  bounded_noting Ending one left b = tt
  bounded_noting Over one left b = tt

  parts_same : (number : ℕ) (its : Its) (maps : Maps) (fetch : List Happened) (parts : List Part) (one : Happened) → one_of number ≡ other_of number → parts_after shape one_of number its maps fetch parts one ≡ parts_after shape other_of number its maps fetch parts one
  parts_same number its maps fetch [] one e = refl
  parts_same number its maps fetch (part ∷ parts) one e = ap (λ (targets : ℕ → Option ℕ). Within number its maps fetch parts (words_read shape (view_by its maps targets fetch))) e

  named_same : (stage : Stage) (one : Happened) (left : ℕ) → IsBounded stage left → named_after shape one_of stage one ≡ named_after shape other_of stage one
  named_same (Between number its maps reads) one left b =
      let e : one_of number ≡ other_of number = agree number (omega (arith, b)) in
      ap (λ (targets : ℕ → Option ℕ). cond (takes_command (view_by its maps targets reads)) (parts_after shape one_of number its maps reads (command_parts shape (view_by its maps targets reads)) one) Over) e
      ∙ ap (λ stage. cond (takes_command (view_by its maps (other_of number) reads)) stage Over) (parts_same number its maps reads (command_parts shape (view_by its maps (other_of number) reads)) one e)
  named_same (Within number its maps fetch parts reads) one left b = parts_same number its maps fetch parts one (agree number (omega (arith, b)))
  named_same Ending one left b = refl
  named_same Over one left b = refl

  fits_same : (stage : Stage) (one : Happened) (left : ℕ) → IsBounded stage left → FitsNamed shape one_of stage one → FitsNamed shape other_of stage one
  fits_same (Between number its maps reads) one left b fits =
      subst (λ (targets : ℕ → Option ℕ). FitsTaken shape (view_by its maps targets reads) reads (takes_command (view_by its maps targets reads)) one) (agree number (omega (arith, b))) fits
  fits_same (Within number its maps fetch parts reads) one left b fits = subst (λ (targets : ℕ → Option ℕ). FitsParts shape (view_by its maps targets fetch) parts reads one) (agree number (omega (arith, b))) fits
  fits_same Ending one left b fits = fits
  fits_same Over one left b fits = fits

  -- the end of a command lets the next one begin
  bounded_parts : (view : View) (number : ℕ) (its : Its) (maps : Maps) (fetch : List Happened) (parts : List Part) (reads : List Happened) (one : Happened) (piece : List Happened) → FitsParts shape view parts reads one → number + begun_by (one ∷ piece) < bound
      → IsBounded (parts_after shape other_of number its maps fetch parts one) (begun_by piece)
  bounded_parts view number its maps fetch [] reads one piece fits b =
      let begins : begins_command one.event ≡ true =
      ap begins_command fits.event_is ∙ queue_begins view.offset (next_offset view) (fault_number shape view.maps (decoded (command_words shape view))) (command_words shape view) in
      let count : begun_by (one ∷ piece) ≡ suc (begun_by piece) = begun_cons one piece ∙ ap (λ c. cond c (suc (begun_by piece)) (begun_by piece)) begins in
      omega (arith, b, count)
  bounded_parts view number its maps fetch (part ∷ parts) reads one piece fits b = let more = begun_more one piece in omega (arith, b, more)

  bounded_taken : (view : View) (number : ℕ) (its : Its) (maps : Maps) (reads : List Happened) (c : Bool) (one : Happened) (piece : List Happened) → FitsTaken shape view reads c one → number + begun_by (one ∷ piece) < bound
      → IsBounded (cond c (parts_after shape other_of number its maps reads (command_parts shape view) one) Over) (begun_by piece)
  bounded_taken view number its maps reads true one piece fits b = bounded_parts view number its maps reads (command_parts shape view) reads one piece fits.1 b
  bounded_taken view number its maps reads false one piece fits b = tt

  bounded_named : (stage : Stage) (one : Happened) (piece : List Happened) → FitsNamed shape other_of stage one → IsBounded stage (begun_by (one ∷ piece)) → IsBounded (named_after shape other_of stage one) (begun_by piece)
  bounded_named (Between number its maps reads) one piece fits b = bounded_taken (view_by its maps (other_of number) reads) number its maps reads (takes_command (view_by its maps (other_of number) reads)) one piece fits b
  bounded_named (Within number its maps fetch parts reads) one piece fits b = bounded_parts (view_by its maps (other_of number) fetch) number its maps fetch parts reads one piece fits b
  bounded_named Ending one piece fits b = tt
  bounded_named Over one piece fits b = tt

  pub follow_same : (piece : List Happened) (stage : Stage) → IsBounded stage (begun_by piece) → Follow shape one_of actor is_open stage piece → Follow shape other_of actor is_open stage piece
  follow_same [] stage b h = h
  follow_same (one ∷ piece) stage b h = of (is_beside (Some actor) one.event) refl (λ s c k. follow_same piece s c k)
    where
      of : (c : Bool) → is_beside (Some actor) one.event ≡ c → ((s : Stage) → IsBounded s (begun_by piece) → Follow shape one_of actor is_open s piece → Follow shape other_of actor is_open s piece) → Follow shape other_of actor is_open stage (one ∷ piece)
      of true e rest =
          goes_beside shape other_of actor is_open stage one piece e
          (rest (noting stage one) (bounded_noting stage one (begun_by piece) (less stage (begun_by piece) (begun_by (one ∷ piece)) (begun_more one piece) b)) (went_beside shape one_of actor is_open stage one piece e h))
      of false e rest =
          let went = went_named shape one_of actor is_open stage one piece e h in
          let fits = fits_same stage one (begun_by (one ∷ piece)) b went.0 in
          goes_named shape other_of actor is_open stage one piece e fits
          (rest (named_after shape other_of stage one) (bounded_named stage one piece fits b) (subst (λ s. Follow shape one_of actor is_open s piece) (named_same stage one (begun_by (one ∷ piece)) b) went.1))
