-- What the words and the roots of all guests tell, where one root changes and where guests come.
use Rattle.std.proofs.Common.{◌≡◌, ℕ, zero, suc, arith, ◌<◌, inl, inr, List, [], ◌∷◌, ◌++◌, map, length, set, get_or, refl, sym, ap, subst, ◌∙◌}
use Rattle.std.proofs.lemmas.Bool.{cases_eq}
use Rattle.std.proofs.lemmas.List.{map-append, map-set, length-set, length-map, get_or-set_same, get_or-set_other}
use Rattle.port_ops.specs.PortCore.declared.end.GuestWords.{GuestWords}
use Rattle.port_ops.proofs.MapLemmas.{mapped_at}
use Rattle.port_table.specs.declared.guest.GuestTable.{GuestTable}
use Rattle.port_table.specs.declared.guest.GuestRoot.{GuestRoot}
use Rattle.port_table.specs.Ports.{words_told, root_told}
use Rattle.port_table.specs.Told.{WordsTold, RootTold, EndsRun, EndsRuns, AreRoots, opening_root, no_words, words_at, root_at}

-- the roots after one changed
pub root_set :
    (roots : List GuestRoot) (number guest : ℕ) (before next : GuestRoot) (change : RootTold → RootTold) → number ≡ guest → guest < length roots → before ≡ get_or roots number before → root_told next ≡ change (root_told before)
    → map root_told (set roots number next) ≡ set (map root_told roots) guest (change (root_at (map root_told roots) guest))
root_set roots number guest before next change same there at is =
    let was : root_told before ≡ root_at (map root_told roots) guest = sym (mapped_at root_told (opening_root no_words) roots guest before there (at ∙ ap (λ n. get_or roots n before) same)) in
    ap (λ n. map root_told (set roots n next)) same ∙ map-set root_told roots guest next ∙ ap (set (map root_told roots) guest) (is ∙ ap change was)

-- they are of the same words where that one is
pub roots_stay : (words : List WordsTold) (root : List RootTold) (guest : ℕ) (next : RootTold) → AreRoots words root → next.home ≡ (root_at root guest).home → AreRoots words (set root guest next)
roots_stay words root guest next are home =
    record {
      each = length-set root guest next ∙ are.each;
      home = λ n there.
          elim (cases_eq n guest) [
            | inl same ↦
                (ap (λ k. (root_at (set root guest next) k).home) same
                ∙ ap (λ (r : RootTold). r.home) (get_or-set_same root guest next (opening_root no_words) (subst (λ k. k < length root) same (subst (λ k. n < k) (sym are.each) there))) ∙ home ∙ ap (λ k. (root_at root k).home) (sym same) ∙ are.home n there)
            | inr differ ↦ ap (λ (r : RootTold). r.home) (get_or-set_other root guest n next (opening_root no_words) differ) ∙ are.home n there
          ];
    }

-- roots as they open are of the words
pub opening_roots : (words : List WordsTold) → AreRoots words (map opening_root words)
opening_roots words = record { each = length-map words opening_root; home = of words }
  where
    of : (words : List WordsTold) (n : ℕ) → n < length words → (root_at (map opening_root words) n).home ≡ (words_at words n).home
    of [] n there = refl
    of (one ∷ others) zero there = refl
    of (one ∷ others) (suc n) there = of others n (omega arith)

-- one more guest ended
pub ends_more : (words : List WordsTold) (roots : List RootTold) (ends : List GuestWords) (one : WordsTold) (root : RootTold) (left : GuestWords) → EndsRuns words roots ends → EndsRun one root left → EndsRuns (words ++ one ∷ []) (roots ++ root ∷ []) (ends ++ left ∷ [])
ends_more [] [] [] one root left before here = (here, tt)
ends_more (w ∷ words) (r ∷ roots) (e ∷ ends) one root left before here = (before.0, ends_more words roots ends one root left before.1 here)
ends_more words roots ends one root left before here = absurd before

-- what is true of the words and the root of each guest is true of those in the middle
middle_is :
    (P : WordsTold → RootTold → Type 0) (yielded : List GuestTable) (early : List GuestRoot) (table : GuestTable) (root : GuestRoot) (later : List GuestTable) (rest : List GuestRoot) → length early ≡ length yielded
    → ((n : ℕ) → n < length (map words_told (yielded ++ table ∷ later)) → P (words_at (map words_told (yielded ++ table ∷ later)) n) (root_at (map root_told (early ++ root ∷ rest)) n)) → P (words_told table) (root_told root)
middle_is P [] [] table root later rest each all = all 0 (omega arith)
middle_is P (y ∷ yielded) (e ∷ early) table root later rest each all = middle_is P yielded early table root later rest (omega (arith, each)) (λ n h. all (suc n) (omega (arith, h)))
middle_is P [] (e ∷ early) table root later rest each all = absurd (omega (arith, each))
middle_is P (y ∷ yielded) [] table root later rest each all = absurd (omega (arith, each))

pub next_is :
    (P : WordsTold → RootTold → Type 0) (tables yielded later : List GuestTable) (roots early rest : List GuestRoot) (table : GuestTable) (root : GuestRoot) → yielded ++ table ∷ later ≡ tables → early ++ root ∷ rest ≡ roots → length early ≡ length yielded
    → ((n : ℕ) → n < length (map words_told tables) → P (words_at (map words_told tables) n) (root_at (map root_told roots) n)) → P (words_told table) (root_told root)
next_is P tables yielded later roots early rest table root are_tables are_roots each all =
    middle_is P yielded early table root later rest each
    (subst (λ ts. (n : ℕ) → n < length (map words_told ts) → P (words_at (map words_told ts) n) (root_at (map root_told (early ++ root ∷ rest)) n)) (sym are_tables)
    (subst (λ rs. (n : ℕ) → n < length (map words_told tables) → P (words_at (map words_told tables) n) (root_at (map root_told rs) n)) (sym are_roots) all))

-- one more guest ended, of those that are left
pub ends_next :
    (yielded : List GuestTable) (early : List GuestRoot) (table : GuestTable) (root : GuestRoot) (ends : List GuestWords) (left : GuestWords) → EndsRuns (map words_told yielded) (map root_told early) ends → EndsRun (words_told table) (root_told root) left
    → EndsRuns (map words_told (yielded ++ table ∷ [])) (map root_told (early ++ root ∷ [])) (ends ++ left ∷ [])
ends_next yielded early table root ends left before here =
    subst (λ ws. EndsRuns ws (map root_told (early ++ root ∷ [])) (ends ++ left ∷ [])) (sym (map-append words_told yielded (table ∷ [])))
    (subst (λ rs. EndsRuns (map words_told yielded ++ words_told table ∷ []) rs (ends ++ left ∷ [])) (sym (map-append root_told early (root ∷ []))) (ends_more (map words_told yielded) (map root_told early) ends (words_told table) (root_told root) left before here))
