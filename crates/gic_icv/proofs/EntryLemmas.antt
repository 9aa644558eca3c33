-- The candidates of one more list register.
use Rattle.std.proofs.Common.{◌≡◌, ◌<◌, ◌+◌, ℕ, Some, None, List, [], ◌∷◌, ◌++◌, take, length, get_or, append-nil, ap, ◌∙◌}
use Rattle.std.specs.List.{cons_option}
use Rattle.std.proofs.lemmas.List.{take_more}
use Rattle.std.proofs.lemmas.List.Elements.{filter_map-append}
use Rattle.gic_ich.specs.GicPrio.declared.cpu.CpuRec.{CpuRec}
use Rattle.gic_ich.specs.GicPrio.declared.candidate.Candidate.{Candidate}
use Rattle.gic_icv.specs.Entries.{candidate_in, candidates_in}

one_more : (cpu : CpuRec) (words : List ℕ) (i : ℕ) → i < length words → candidates_in cpu (take (i + 1) words) ≡ candidates_in cpu (take i words) ++ cons_option (candidate_in cpu (get_or words i 0)) []
one_more cpu words i within =
    ap (candidates_in cpu) (take_more words i 0 within)
    ∙ filter_map-append (candidate_in cpu) (take i words) (get_or words i 0 ∷ [])

-- one that is a candidate
pub with_candidate : (cpu : CpuRec) (words : List ℕ) (i : ℕ) (one : Candidate) → i < length words → candidate_in cpu (get_or words i 0) ≡ Some one → candidates_in cpu (take (i + 1) words) ≡ candidates_in cpu (take i words) ++ one ∷ []
with_candidate cpu words i one within e = one_more cpu words i within ∙ ap (λ o. candidates_in cpu (take i words) ++ cons_option o []) e

-- one that is none
pub without_candidate : (cpu : CpuRec) (words : List ℕ) (i : ℕ) → i < length words → candidate_in cpu (get_or words i 0) ≡ None → candidates_in cpu (take (i + 1) words) ≡ candidates_in cpu (take i words)
without_candidate cpu words i within e = one_more cpu words i within ∙ ap (λ o. candidates_in cpu (take i words) ++ cons_option o []) e ∙ append-nil (candidates_in cpu (take i words))
