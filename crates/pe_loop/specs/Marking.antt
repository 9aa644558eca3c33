-- A vCPU marks the candidates that are left to itself (own choice).
use Rattle.std.specs.Prelude.{◌≡◌, ℕ, ◌<◌, false, IsTrue, List, [], map}
use Rattle.port_call.specs.Core.{Made, has_no_cand, is_cand, Seen, Adds, shape_of, part_events, makes, Progress, progress_of, IsProper, claiming, ended_scan}
use Rattle.port_call.specs.Piece.{takes_none}
use Rattle.pe_loop.specs.Counting.{are_quiet}
use Rattle.pe_loop.specs.Scanning.{told_by}
use Rattle.pe_loop.specs.Steps.{all_are, is_mark}

-- a scan that has nothing to claim and to take, with what a port tells
abbrev pub claimed_by : Seen → Progress → Progress
claimed_by seen p = record (told_by seen p) { scan = ended_scan seen.local (claiming [] []) }

-- a vCPU marked its candidates before a bit to itself: nothing else of it changed
pub record IsMarking (old now : Seen) (from : ℕ) : Type 0 where
  pub part : List Made
  pub adds : Adds old now part
  pub steps_are : IsTrue (all_are is_mark part)
  pub same : record now.local { cands = old.local.cands } ≡ old.local
  pub none_taken : IsTrue (takes_none part)
  pub quiet : IsTrue (are_quiet part)
  pub silent : part_events old part ≡ []
  pub proper : (p : Progress) → IsProper (shape_of old) old.actor (claimed_by old p) (map makes part)
  pub goes_on : (p : Progress) → progress_of (shape_of old) old.actor (claimed_by old p) (map makes part) ≡ claimed_by now p
  pub none : (i : ℕ) → i < from → is_cand now.local.cands i ≡ false

-- it marked all: its scan is over
pub record MarksRest (old new : Seen) : Type 0 where
  pub from : ℕ
  pub marking : IsMarking old new from
  pub none : IsTrue (has_no_cand new.local)
