-- A call goes by the vCPUs of LPIs as they were found, between moves too.
use Rattle.std.proofs.Common.{◌≡◌, ℕ, Bool, true, IsTrue, List, [], ◌∷◌, ◌++◌, Option, Some, None, refl}
use Rattle.std.proofs.lemmas.Bool.{and_from, and_parts}
use Rattle.pe_icc.specs.Words.{IccReg, Icc, GuestShape}
use Rattle.pe_icc.specs.Calls.{Event, Enable, Touch, Access, Beside, Happened, IsCall}
use Rattle.pe_icc.specs.GicCall.declared.event.Event.TheVariants.{Queue}
use Rattle.pe_icc.specs.Core.{Made, Seen, Adds, part_events, shape_of, MakesCall, vcpu_of_actor}
use Rattle.pe_icc.specs.PeLoop.Moves.{are_moves, is_move}
use Rattle.pe_its.specs.PeMem.Found.{Finding, IsCallAsFound, IsFinding, by_commands, by_looks, is_before}
use Rattle.pe_its.specs.PeMem.Looked.{all_events, comes_after, comes_before}
use Rattle.pe_its.proofs.PeMem.FoundLemmas.{among_after, among_before, found_by_none}
use Rattle.pe_its.proofs.PeMem.LookedLemmas.{looked_after, looked_before}

-- a move touches no interrupt, and ends no command
move_before : (actor : ℕ) (event : Event) → IsTrue (is_move actor event) → is_before event ≡ true
move_before actor (Touch key touching) h = absurd (cc)
move_before actor (Queue offset change) h = absurd (cc)
move_before actor event h = refl

-- nor does it store EnableLPIs: it may stand before a look at an LPI and after one
move_early : (id actor : ℕ) (event : Event) → IsTrue (is_move actor event) → comes_before id event ≡ true
move_early id actor (Touch key touching) h = absurd (cc)
move_early id actor event h = refl

move_late : (id actor : ℕ) (event : Event) → IsTrue (is_move actor event) → comes_after id event ≡ true
move_late id actor (Touch key touching) h = absurd (cc)
move_late id actor (Enable vcpu) h = absurd (cc)
move_late id actor event h = refl

moves_all : (test : Event → Bool) (actor : ℕ) → ((event : Event) → IsTrue (is_move actor event) → test event ≡ true) → (events : List Happened) → IsTrue (are_moves actor events) → IsTrue (all_events test events)
moves_all test actor each [] h = refl
moves_all test actor each (one ∷ events) h =
    let parts = and_parts (is_move actor one.event) (are_moves actor events) h in
    and_from (test one.event) (all_events test events) (each one.event parts.0) (moves_all test actor each events parts.1)

-- what an access found is found between moves too
pub finding_between :
    (old mid mid2 : Seen) (front access back : List Made) (finding : Finding) → Adds old mid front → IsTrue (are_moves old.actor (part_events old front)) → Adds mid mid2 access → IsTrue (are_moves old.actor (part_events mid2 back)) → IsFinding mid access finding
    → IsFinding old (front ++ (access ++ back)) finding
finding_between old mid mid2 front access back (by_looks goes_by targets) first moves adds last is =
    λ id going.
    looked_after old mid front (access ++ back) id (targets id) first (moves_all (comes_before id) old.actor (move_early id old.actor) (part_events old front) moves)
    (looked_before mid mid2 access back id (targets id) adds (moves_all (comes_after id) old.actor (move_late id old.actor) (part_events mid2 back) last) (is id going))
finding_between old mid mid2 front access back (by_commands commands) first moves adds last is =
    among_after old mid front (access ++ back) commands first (moves_all is_before old.actor (move_before old.actor) (part_events old front) moves) (among_before mid access back commands is)

-- An access of the CPU interface goes by none.

any_icc :
    (shape : GuestShape) (one other : Beside) (actor : Option ℕ) (reg : IccReg) (write : Option ℕ) (piece : List Happened) (answer : Option ℕ) → IsCall shape one actor (Access (Icc reg write)) piece answer → IsCall shape other actor (Access (Icc reg write)) piece answer
any_icc shape one other (Some vcpu) reg write piece answer is = is
any_icc shape one other None reg write piece answer is = absurd is

pub icc_found : (seen : Seen) (part : List Made) (reg : IccReg) (write answer : Option ℕ) → MakesCall seen part (Access (Icc reg write)) answer → IsCallAsFound seen part (Access (Icc reg write)) answer
icc_found seen part reg write answer makes =
    found_by_none seen part (Access (Icc reg write)) answer refl
    (λ beside maps. any_icc (shape_of seen) makes.beside beside (vcpu_of_actor (shape_of seen) seen.actor) reg write (part_events seen part) answer makes.call)
