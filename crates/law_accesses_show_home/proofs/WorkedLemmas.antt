-- The worked history that is up to date: each test computes.
use Rattle.std.proofs.Common.{◌≡◌, ◌||◌, not, inl, inr, Bool, true, false, IsTrue, List, [], ◌∷◌, ◌++◌, Contains, refl, subst, arith}
use Rattle.std.specs.List.{list_all, range_with_len}
use Rattle.std.proofs.lemmas.Bool.{and_parts, not-true}
use Rattle.law_home_commutes.specs.Words.{Key, GuestShape, has_interrupt, interrupt_count, key_at, place_of, IsShape}
use Rattle.law_home_commutes.specs.Calls.{Moment}
use Rattle.law_home_commutes.proofs.GicOpen.KeyLemmas.{key_at_place, place_within}
use Rattle.law_home_commutes.specs.Histories.{Turn, changes_of, comes_first, keys_in, is_home, worked_guest, message, reach}
use Rattle.law_home_commutes.specs.Registers.{least_in, with_level, without_level}
use Rattle.law_home_commutes.proofs.WorkedLemmas.{shows}
use Rattle.law_scans_miss_none.proofs.VcpuRefill.ElementLemmas.{Contains-cases, Contains-map, Contains-nothing}
use Rattle.law_scans_miss_none.specs.LawRegistersStand.Followed.{followed_by}
use Rattle.law_accesses_show_home.specs.Worked.{AVcpuFindsAll}
use Rattle.law_accesses_show_home.proofs.ListLemmas.{range_has}

-- what all pass, each passes
each_passes : {X : Type 0} (p : X → Bool) (xs : List X) (x : X) → list_all p xs ≡ true → Contains xs x → p x ≡ true
each_passes p [] x h has = absurd (Contains-nothing x has)
each_passes p (y ∷ xs) x h has =
    let both = and_parts (p y) (list_all p xs) h in
    elim (Contains-cases y x xs has) [ inl e ↦ subst (λ z. p z ≡ true) e both.0 | inr later ↦ each_passes p xs x both.1 later ]

each_key : (shape : GuestShape) (p : Key → Bool) → IsShape shape → list_all p (keys_in shape) ≡ true → (key : Key) → IsTrue (has_interrupt shape key) → p key ≡ true
each_key shape p good h key there =
    each_passes p (keys_in shape) key h
    (subst (Contains (keys_in shape)) (key_at_place shape key good there) (Contains-map (key_at shape) (range_with_len 0 (interrupt_count shape)) (place_of shape key) (range_has (interrupt_count shape) (place_of shape key) (place_within shape key good there))))

abbrev nobody : List Turn → Bool
nobody [] = true
nobody (turn ∷ turns) = false

abbrev there : List Moment
there = message 40 ++ reach 0 40

abbrev is_quiet : Key → Bool
is_quiet key = is_home (followed_by worked_guest there).ideal key || nobody (changes_of worked_guest.shape (followed_by worked_guest there).track key).since

all_quiet : list_all is_quiet (keys_in worked_guest.shape) ≡ true
all_quiet = refl

none_first : list_all (λ key. not (comes_first (followed_by worked_guest there).ideal 0 key)) (keys_in worked_guest.shape) ≡ true
unfolding least_in with_level without_level
none_first = refl

worked_shape : IsShape worked_guest.shape
worked_shape = record { some_vcpu = omega arith; vcpus = omega arith; spis = omega arith; spi_blocks = refl; espis = omega arith; espi_blocks = refl; devices = omega arith; lpis = omega arith; ram = omega arith; ram_words = refl }

quiet_is : (list : List Turn) → (b : Bool) → (b || nobody list) ≡ true → b ≡ false → list ≡ []
quiet_is [] b h e = refl
quiet_is (turn ∷ turns) b h e = absurd (cc)

pub finds : AVcpuFindsAll
finds = record {
  history = shows.acknowledges;
  up_to_date = record {
    unchanged = λ key has away. quiet_is (changes_of worked_guest.shape (followed_by worked_guest there).track key).since (is_home (followed_by worked_guest there).ideal key) (each_key worked_guest.shape is_quiet worked_shape all_quiet key has) away;
    none_late = λ vcpu there. refl;
  };
  all = record {
    first = λ asks key has. not-true (comes_first (followed_by worked_guest there).ideal 0 key) (each_key worked_guest.shape (λ k. not (comes_first (followed_by worked_guest there).ideal 0 k)) worked_shape none_first key has);
    end = λ key e. absurd (cc);
  };
}
