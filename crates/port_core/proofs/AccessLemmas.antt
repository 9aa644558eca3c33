use Rattle.std.proofs.Common.{◌≡◌, ◌<◌, ◌+◌, ℕ, false, List, [], ◌∷◌, ◌++◌, map, take, length, get_or, Option, filter_map, sym, ap, ◌∙◌}
use Rattle.std.proofs.lemmas.List.{map-append, take_more}
use Rattle.std.proofs.lemmas.List.Elements.{filter_map-append}
use Rattle.core_words.specs.Words.{Private, G0}
use Rattle.core_words.specs.Registers.{Candidate, CpuRec, first_of, candidate_of}
use Rattle.port_core.specs.declared.at_list.AtIrq.{AtIrq}
use Rattle.port_core.specs.After.{shown}

-- the candidates among the first interrupts of a list
abbrev pub candidates_in : CpuRec → List AtIrq → ℕ → List Candidate
candidates_in cpu at i = filter_map (candidate_of cpu) (map shown (take i at))

-- the candidates of one interrupt more
pub candidates_more : (cpu : CpuRec) (at : List AtIrq) (i : ℕ) (entry : AtIrq) → i < length at → candidates_in cpu at (i + 1) ≡ candidates_in cpu at i ++ filter_map (candidate_of cpu) (shown (get_or at i entry) ∷ [])
candidates_more cpu at i entry within =
    ap (λ xs. filter_map (candidate_of cpu) (map shown xs)) (take_more at i entry within)
    ∙ ap (filter_map (candidate_of cpu)) (map-append shown (take i at) (get_or at i entry ∷ []))
    ∙ filter_map-append (candidate_of cpu) (map shown (take i at)) (shown (get_or at i entry) ∷ [])

-- what stands past the end of a list of interrupts
abbrev pub no_irq : AtIrq
no_irq = record { key = Private 0 0; entry_prio = 0; group = G0; pending = false; active = false; rise = false; soft = false; consumed = false; given = false }

-- so is the first of them
pub first_more : (cpu : CpuRec) (at items : List AtIrq) (i : ℕ) (first : Option Candidate) → items ≡ at → i < length at → first ≡ first_of (candidates_in cpu at i ++ filter_map (candidate_of cpu) (shown (get_or items i no_irq) ∷ [])) → first ≡ first_of (candidates_in cpu at (i + 1))
first_more cpu at items i first is within h =
    h
    ∙ ap (λ xs. first_of (candidates_in cpu at i ++ filter_map (candidate_of cpu) (shown (get_or xs i no_irq) ∷ []))) is
    ∙ ap first_of (sym (candidates_more cpu at i no_irq within))
