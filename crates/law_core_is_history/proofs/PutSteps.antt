-- A plain word is stored.
use Rattle.std.proofs.Common.{◌≡◌, ◌≢◌, ℕ, ◌<◌, ◌≤◌, ◌+◌, ◌-◌, ◌/◌, ◌%◌, ◌==◌, Bool, true, false, cond, IsTrue, Option, None, nat_lt, zero, suc, arith, true≢false, refl, sym, ap, ◌∙◌, subst, length, slice_set, slice_index}
use Rattle.std.proofs.lemmas.Bool.{ltb-true, ltb-false, eqb-true, eq-eqb}
use Rattle.std.proofs.lemmas.Option.{same_Some}
use Rattle.std.proofs.lemmas.List.{get_or-set_same, get_or-set_other, length-set}
use Rattle.law_lines_translate.specs.Words.{GuestShape}
use Rattle.law_lines_translate.specs.Calls.{Put, is_stored, PlainWord, Ram, Propbaser, Pendbaser, ItsCtlr, Cbaser, Cwriter, Baser0, Baser1, Fault, has_plain, plain_count, vcpus_from, its_from, its_word_of, vcpu_word_of, plain_at, place_of_plain}
use Rattle.law_lines_translate.specs.GicCall.declared.event.Found.TheVariants.{Word as FoundWord}
use Rattle.law_lines_translate.specs.Registers.{queue_of, Maps}
use Rattle.law_lines_translate.specs.Histories.{word_at, with_word, Ideal}
use Rattle.law_lines_translate.specs.Core.{Local, RamPut, WordId, Irq as IrqWord, Vcpu, Queue, Ctlr, Plain, Index, Line, fault_place, CanPut, has_word, CoreState, seat_at, word_in, with_found}
use Rattle.law_core_is_history.specs.Known.{IsKnown}
use Rattle.law_core_is_history.specs.Related.{WordSays, locals_of}
use Rattle.law_core_is_history.specs.Simulates.{IsSimulated, IsSimulatedAs}
use Rattle.law_core_is_history.proofs.ReadSteps.{plain_there}
use Rattle.law_core_is_history.proofs.RelatedLemmas.{locals_after, at_kept, says_same, frame, quiet, HasPlaces, places_of}
use Rattle.law_core_is_history.proofs.StepContext.{one, IsStep, has, says_found}
use Rattle.law_core_is_history.proofs.TriedSteps.{tried, left_as}

-- the place of the plain word of a number is that number
pub plain_back : (shape : GuestShape) (index : ℕ) → index < plain_count shape → place_of_plain shape (plain_at shape index) ≡ index
plain_back shape index there = of (nat_lt index (vcpus_from shape)) refl (nat_lt index (its_from shape)) refl
  where
    vcpu : (n : ℕ) (b : Bool) → (n % 2 == 0) ≡ b → place_of_plain shape (cond b (Propbaser (n / 2)) (Pendbaser (n / 2))) ≡ vcpus_from shape + n
    vcpu n true e = let even : n % 2 ≡ 0 = eqb-true (n % 2) 0 e in omega (arith, even)
    vcpu n false e = let odd : n % 2 ≢ 0 = λ h. absurd (cc) in omega (arith, odd)

    its : (n : ℕ) → n < 6 → place_of_plain shape (its_word_of n) ≡ its_from shape + n
    its zero l = omega arith
    its (suc zero) l = omega arith
    its (suc (suc zero)) l = omega arith
    its (suc (suc (suc zero))) l = omega arith
    its (suc (suc (suc (suc zero)))) l = omega arith
    its (suc (suc (suc (suc (suc zero))))) l = omega arith
    its (suc (suc (suc (suc (suc (suc n)))))) l = absurd (omega (arith, l))

    of : (a : Bool) → nat_lt index (vcpus_from shape) ≡ a → (b : Bool) → nat_lt index (its_from shape) ≡ b
        → place_of_plain shape (cond a (Ram index) (cond b (vcpu_word_of (index - vcpus_from shape)) (its_word_of (index - its_from shape)))) ≡ index
    of true e b f = refl
    of false e true f =
        let from : vcpus_from shape ≤ index = ltb-false index (vcpus_from shape) e in
        vcpu (index - vcpus_from shape) ((index - vcpus_from shape) % 2 == 0) refl ∙ omega (arith, from)
    of false e false f =
        let from : its_from shape ≤ index = ltb-false index (its_from shape) f in
        its (index - its_from shape) (omega (arith, from, there)) ∙ omega (arith, from)

-- it is stored by a call, unless it is the number of a fault
stored_is : (shape : GuestShape) (word : PlainWord) → place_of_plain shape word ≢ place_of_plain shape Fault → IsTrue (is_stored word)
stored_is shape (Ram index) differ = refl
stored_is shape (Propbaser vcpu) differ = refl
stored_is shape (Pendbaser vcpu) differ = refl
stored_is shape ItsCtlr differ = refl
stored_is shape Cbaser differ = refl
stored_is shape Cwriter differ = refl
stored_is shape Baser0 differ = refl
stored_is shape Baser1 differ = refl
stored_is shape Fault differ = absurd (differ refl)

-- the ideal controller with another plain word
abbrev pub with_plain : PlainWord → ℕ → Ideal → Ideal
with_plain word value ideal = record ideal { guest = with_word ideal.guest word value }

module _ (shape : GuestShape) (index value : ℕ) (ideal : Ideal) (places : HasPlaces shape ideal) (there : index < plain_count shape) where
  abbrev plain : PlainWord
  plain = plain_at shape index

  has_here : IsTrue (has_plain ideal.guest.shape plain)
  has_here = subst (λ s. IsTrue (has_plain s plain)) (sym places.shape_is) (plain_there shape index there)

  place_here : place_of_plain ideal.guest.shape plain ≡ index
  place_here = ap (λ s. place_of_plain s plain) places.shape_is ∙ plain_back shape index there

  -- all words with the one changed
  pub words_are : (with_plain plain value ideal).guest.words ≡ slice_set ideal.guest.words index value
  words_are = ap (λ b. cond b (slice_set ideal.guest.words (place_of_plain ideal.guest.shape plain) value) ideal.guest.words) has_here ∙ ap (λ n. slice_set ideal.guest.words n value) place_here

  -- the word, and every other one
  pub put_here : word_at (with_plain plain value ideal).guest plain ≡ value
  put_here =
      ap (λ b. cond b (slice_index (with_plain plain value ideal).guest.words (place_of_plain ideal.guest.shape plain)) 0) has_here
      ∙ ap (λ ws. slice_index ws (place_of_plain ideal.guest.shape plain)) words_are
      ∙ ap (slice_index (slice_set ideal.guest.words index value)) place_here
      ∙ get_or-set_same ideal.guest.words index value 0 (subst (λ n. index < n) (sym places.words) there)

  pub put_other : (other : PlainWord) → place_of_plain shape other ≢ index → word_at (with_plain plain value ideal).guest other ≡ word_at ideal.guest other
  put_other other differ =
      ap (λ ws. cond (has_plain ideal.guest.shape other) (slice_index ws (place_of_plain ideal.guest.shape other)) 0) words_are
      ∙ ap (λ n. cond (has_plain ideal.guest.shape other) n 0) (get_or-set_other ideal.guest.words index (place_of_plain ideal.guest.shape other) value 0 (λ e. differ (sym (ap (λ s. place_of_plain s other) places.shape_is) ∙ e)))

  pub places_with_plain : HasPlaces shape (with_plain plain value ideal)
  places_with_plain = record { shape_is = places.shape_is; irqs = places.irqs; cpus = places.cpus; words = ap length words_are ∙ length-set ideal.guest.words index value ∙ places.words; at = places.at }

  -- every other word says the same, where the number of a fault stays
  put_elsewhere : place_of_plain shape Fault ≢ index → (locals : ℕ → Local) (w : WordId) (n : ℕ) → w ≢ Plain index → IsTrue (has_word shape w) → WordSays shape locals ideal w n → WordSays shape locals (with_plain plain value ideal) w n
  put_elsewhere apart locals (IrqWord key) n differ h says = record { home = says.home; held = says.held }
  put_elsewhere apart locals (Vcpu vcpu) n differ h says = says
  put_elsewhere apart locals Queue n differ h says = record { turn = says.turn; offset = says.offset; stalled = says.stalled }
  put_elsewhere apart locals Ctlr n differ h says = record { enables = says.enables; spreads = says.spreads }
  put_elsewhere apart locals (Plain other) n differ h says = record {
    stored = λ e. put_other (plain_at shape other) (λ same. differ (ap Plain (sym (plain_back shape other (ltb-true other (plain_count shape) h)) ∙ same))) ∙ says.stored e;
    fault = λ e stalled. put_other Fault apart ∙ says.fault e stalled;
  }
  put_elsewhere apart locals (Index vcpu number) n differ h says = tt
  put_elsewhere apart locals (Line number) n differ h says = tt

module _ {shape : GuestShape} {state : CoreState} {ideal : Ideal} {actor found left : ℕ} {tables : Option Maps} where
  pub simulates_ram_put : (index seen value : ℕ) → IsKnown shape state → IsStep shape state ideal actor (RamPut index seen value) found left tables → IsSimulated shape state ideal (one actor (RamPut index seen value) found left tables)
  simulates_ram_put index seen value known is = tried (RamPut index seen value) is refl (λ done stores. of (index == fault_place shape) refl stores)
    where
      local : Local
      local = locals_of state actor

      places : HasPlaces shape ideal
      places = places_of shape state ideal is.related

      there : index < plain_count shape
      there = is.takes.can.0

      core : CoreState
      core = left_as shape state actor (RamPut index seen value) left local (one actor (RamPut index seen value) found left tables).made state.maps

      of : (b : Bool) → (index == fault_place shape) ≡ b → left ≡ value → IsSimulatedAs shape core ideal actor (cond b None (with_found (Put (plain_at shape index) value) (FoundWord found)))
      of true e stores =
          let put = subst (λ b. CanPut b shape actor local (seat_at state actor).own) e is.takes.meets.fault in
          let knows = known actor is.takes.actor put.turn in
          let queue : put.runs.word ≡ word_in shape state Queue = same_Some put.runs.word (word_in shape state Queue) (sym put.runs.known_as ∙ knows.queue) in
          let runs : ideal.guest.is_stalled ≡ false = (is.related.words Queue refl).stalled ∙ ap (λ n. (queue_of n).stalled) (sym queue) ∙ put.runs.runs in
          quiet shape state ideal actor _ (Plain index) left is.good is.sound is.related is.takes.actor (has is)
          (record {
            says = record { stored = λ f. absurd (true≢false (sym e ∙ f)); fault = λ f stalled. absurd (true≢false (sym stalled ∙ runs)) };
            at = refl;
            mine = λ l. is.related.seats actor l;
          })
      of false e stores =
          let apart : place_of_plain shape Fault ≢ index = λ same. true≢false (sym (eq-eqb index (fault_place shape) (sym same)) ∙ e) in
          let within : actor < length state.seats = subst (λ n. actor < n) (sym is.sound.actors) is.takes.actor in
          let same = says_same shape (locals_of state) (locals_after state actor _) (at_kept state actor _ within refl) ideal in
          record {
            can = (plain_there shape index there, stored_is shape (plain_at shape index) (λ h. apart (sym h ∙ plain_back shape index there)));
            allowed = refl;
            hands = ap FoundWord (sym ((says_found is).stored e));
            related = frame shape state ideal (with_plain (plain_at shape index) value ideal) actor _ (Plain index) left state.maps is.good is.sound is.related is.takes.actor (has is)
                (record {
                  here = record { stored = λ f. put_here shape index value ideal places there ∙ sym stores; fault = λ f stalled. absurd (true≢false (sym f ∙ e)) };
                  elsewhere = λ w n differ h says. put_elsewhere shape index value ideal places there apart (locals_after state actor _) w n differ h (same w n says);
                  mine = λ l. let says = is.related.seats actor l in record { at = says.at; cpu = says.cpu; given = says.given };
                  others = λ vcpu other differ l says. record { at = says.at; cpu = says.cpu; given = says.given };
                })
                is.related.maps (places_with_plain shape index value ideal places there);
          }
