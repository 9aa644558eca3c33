-- An access on the packed registers.
use Rattle.std.proofs.Common.{◌≡◌, ℕ, ◌+◌, ◌/◌, ◌%◌, ◌^◌, ◌<◌, ◌==◌, Bool, true, false, if◌then◌else◌, IsTrue, List, Option, Some, None, get_or, set, position, refl, sym, ap, subst, ◌∙◌, arith}
use Rattle.std.specs.Option.{option_map_or}
use Rattle.pe_loop.specs.Words.{HeldIrq, IccReg, Iar0, Iar1, Hppir0, Hppir1, Eoir0, Eoir1, Dir, Rpr, Pmr, Bpr0, Bpr1, Ctlr, Igrpen0, Igrpen1, Ap0r0, Ap1r0, Sgi1r, Sre, is_readable, has_bit}
use Rattle.pe_loop.specs.Lists.{IchRegs, hcr_en, hcr_tc, StandFor, listed_of, Agrees, Follows, Outcome, Dir as DirAlone, Common, All0, All1, has_active, has_candidate, acknowledged_word, deactivated_word, HasDirection, is_counted, counted, first_changed, after_acknowledge, after_deactivation, registers_after, answered, outcome_of, after_access, cpu_in, candidates_of, trap_cause, where_set}
use Rattle.pe_loop.proofs.GicIcv.PlaceLemmas.{places_agree}
use Rattle.pe_loop.proofs.GicIcv.RegisterLemmas.{same_registers}
use Rattle.pe_loop.specs.Registers.{Candidate, taken_by, deactivated_by, InterfaceState, IsInterface, interface_after, interface_answer}
use Rattle.pe_loop.specs.VcpuState.declared.loaded.Loaded.{Loaded}
use Rattle.pe_loop.specs.Stay.{IsOpen}
use Rattle.pe_icc.specs.Operate.{opened, read_by, Operates}

-- Traps.

open_cause : (hcr : ℕ) (reg : IccReg) → IsOpen hcr → (reg ≡ Sgi1r → ⊥) → trap_cause hcr reg ≡ None
open_cause hcr Sgi1r is other = absurd (other refl)
open_cause hcr Dir is other = ap (λ b. if b then Some DirAlone else where_set hcr hcr_tc Common) is.deactivate ∙ ap (λ b. if b then Some Common else None) is.common
open_cause hcr Ctlr is other = ap (λ b. if b then Some Common else None) is.common
open_cause hcr Pmr is other = ap (λ b. if b then Some Common else None) is.common
open_cause hcr Rpr is other = ap (λ b. if b then Some Common else None) is.common
open_cause hcr Iar0 is other = ap (λ b. if b then Some All0 else None) is.group_0
open_cause hcr Eoir0 is other = ap (λ b. if b then Some All0 else None) is.group_0
open_cause hcr Hppir0 is other = ap (λ b. if b then Some All0 else None) is.group_0
open_cause hcr Bpr0 is other = ap (λ b. if b then Some All0 else None) is.group_0
open_cause hcr Ap0r0 is other = ap (λ b. if b then Some All0 else None) is.group_0
open_cause hcr Igrpen0 is other = ap (λ b. if b then Some All0 else None) is.group_0
open_cause hcr Iar1 is other = ap (λ b. if b then Some All1 else None) is.group_1
open_cause hcr Eoir1 is other = ap (λ b. if b then Some All1 else None) is.group_1
open_cause hcr Hppir1 is other = ap (λ b. if b then Some All1 else None) is.group_1
open_cause hcr Bpr1 is other = ap (λ b. if b then Some All1 else None) is.group_1
open_cause hcr Ap1r0 is other = ap (λ b. if b then Some All1 else None) is.group_1
open_cause hcr Igrpen1 is other = ap (λ b. if b then Some All1 else None) is.group_1
open_cause hcr Sre is other = refl

-- the registers as the access finds them
opened_open : (vcpu : Loaded) → (vcpu.trapping ≡ false → IsOpen vcpu.regs.hcr) → IsOpen (opened vcpu).regs.hcr
opened_open vcpu free = of vcpu.trapping refl
  where
    of : (b : Bool) → vcpu.trapping ≡ b → IsOpen (if b then record vcpu.regs { hcr = 2 ^ hcr_en } else vcpu.regs).hcr
    of true e = record { common = refl; group_0 = refl; group_1 = refl; deactivate = refl }
    of false e = free e

pub opened_enabled : (vcpu : Loaded) → has_bit vcpu.regs.hcr hcr_en ≡ true → has_bit (opened vcpu).regs.hcr hcr_en ≡ true
opened_enabled vcpu is = of vcpu.trapping
  where
    of : (b : Bool) → has_bit (if b then record vcpu.regs { hcr = 2 ^ hcr_en } else vcpu.regs).hcr hcr_en ≡ true
    of true = refl
    of false = is

pub opened_count : (vcpu : Loaded) → (opened vcpu).regs.n ≡ vcpu.regs.n
opened_count vcpu = of vcpu.trapping
  where
    of : (b : Bool) → (if b then record vcpu.regs { hcr = 2 ^ hcr_en } else vcpu.regs).n ≡ vcpu.regs.n
    of true = refl
    of false = refl

opened_stands : (vcpu : Loaded) (interface : InterfaceState) → StandFor vcpu.regs vcpu.held interface → StandFor (opened vcpu).regs (opened vcpu).held interface
opened_stands vcpu interface is = of vcpu.trapping
  where
    of : (b : Bool) → StandFor (if b then record vcpu.regs { hcr = 2 ^ hcr_en } else vcpu.regs) vcpu.held interface
    of true = record { holds = record { enabled = refl; vmcr = is.holds.vmcr; ap0 = is.holds.ap0; ap1 = is.holds.ap1 }; places = is.places }
    of false = is

-- An access leaves the traps.

counted_open : (hcr : ℕ) → IsOpen hcr → IsOpen ((hcr + 2 ^ 27) % 2 ^ 32)
counted_open hcr is =
    let ten : (hcr + 2 ^ 27) % 2 ^ 32 / 2 ^ 10 % 2 ≡ hcr / 2 ^ 10 % 2 = omega arith in
    let eleven : (hcr + 2 ^ 27) % 2 ^ 32 / 2 ^ 11 % 2 ≡ hcr / 2 ^ 11 % 2 = omega arith in
    let twelve : (hcr + 2 ^ 27) % 2 ^ 32 / 2 ^ 12 % 2 ≡ hcr / 2 ^ 12 % 2 = omega arith in
    let fourteen : (hcr + 2 ^ 27) % 2 ^ 32 / 2 ^ 14 % 2 ≡ hcr / 2 ^ 14 % 2 = omega arith in
    record {
      common = ap (λ n. n == 1) ten ∙ is.common;
      group_0 = ap (λ n. n == 1) eleven ∙ is.group_0;
      group_1 = ap (λ n. n == 1) twelve ∙ is.group_1;
      deactivate = ap (λ n. n == 1) fourteen ∙ is.deactivate;
    }

first_open : (is_so : ℕ → Bool) (change : ℕ → ℕ) (regs otherwise : IchRegs) → IsOpen regs.hcr → IsOpen otherwise.hcr → IsOpen (first_changed is_so change regs otherwise).hcr
first_open is_so change regs otherwise is other = of (position is_so (listed_of regs))
  where
    of : (o : Option ℕ) → IsOpen (option_map_or (λ place. record regs { lr = set regs.lr place (change (get_or regs.lr place 0)) }) o otherwise).hcr
    of None = other
    of (Some place) = is

acknowledge_open : (taken : Option Candidate) (regs : IchRegs) → IsOpen regs.hcr → IsOpen (after_acknowledge taken regs).hcr
acknowledge_open None regs is = is
acknowledge_open (Some found) regs is = first_open (has_candidate found) acknowledged_word regs regs is is

deactivation_open : (ended : Option ℕ) (regs : IchRegs) → IsOpen regs.hcr → IsOpen (after_deactivation ended regs).hcr
deactivation_open None regs is = is
deactivation_open (Some id) regs is = first_open (has_active id) deactivated_word regs (if is_counted id then counted regs else regs) is (of (is_counted id))
  where
    of : (b : Bool) → IsOpen (if b then counted regs else regs).hcr
    of true = counted_open regs.hcr is
    of false = is

after_open : (reg : IccReg) (write : Option ℕ) (regs : IchRegs) → IsOpen regs.hcr → IsOpen (registers_after reg write regs).hcr
after_open reg write regs is =
    let taken = taken_by reg write (cpu_in regs) (candidates_of regs) in
    deactivation_open (deactivated_by reg write (cpu_in regs)) (after_acknowledge taken regs) (acknowledge_open taken regs is)

-- and the number of list registers
first_count : (is_so : ℕ → Bool) (change : ℕ → ℕ) (regs otherwise : IchRegs) → otherwise.n ≡ regs.n → (first_changed is_so change regs otherwise).n ≡ regs.n
first_count is_so change regs otherwise other = of (position is_so (listed_of regs))
  where
    of : (o : Option ℕ) → (option_map_or (λ place. record regs { lr = set regs.lr place (change (get_or regs.lr place 0)) }) o otherwise).n ≡ regs.n
    of None = other
    of (Some place) = refl

acknowledge_count : (taken : Option Candidate) (regs : IchRegs) → (after_acknowledge taken regs).n ≡ regs.n
acknowledge_count None regs = refl
acknowledge_count (Some found) regs = first_count (has_candidate found) acknowledged_word regs regs refl

deactivation_count : (ended : Option ℕ) (regs : IchRegs) → (after_deactivation ended regs).n ≡ regs.n
deactivation_count None regs = refl
deactivation_count (Some id) regs = first_count (has_active id) deactivated_word regs (if is_counted id then counted regs else regs) (of (is_counted id))
  where
    of : (b : Bool) → (if b then counted regs else regs).n ≡ regs.n
    of true = refl
    of false = refl

after_count : (reg : IccReg) (write : Option ℕ) (regs : IchRegs) → (registers_after reg write regs).n ≡ regs.n
after_count reg write regs =
    let taken = taken_by reg write (cpu_in regs) (candidates_of regs) in
    deactivation_count (deactivated_by reg write (cpu_in regs)) (after_acknowledge taken regs) ∙ acknowledge_count taken regs

-- The access.

-- what it did by its own contract
pub record IsAccess (reg : IccReg) (write : Option ℕ) (before : IchRegs) (outcome : Outcome) (after : IchRegs) : Type 0 where
  pub outcome_is : outcome ≡ outcome_of reg write before
  pub after_is : after ≡ after_access reg write before
  pub follows : (interface : InterfaceState) → IsInterface interface → Agrees before interface → trap_cause before.hcr reg ≡ None → Follows reg write interface outcome after
  pub places : (interface : InterfaceState) (held : List (Option HeldIrq)) → IsInterface interface → StandFor before held interface → trap_cause before.hcr reg ≡ None → StandFor after held (interface_after reg write interface)

answered_back : (value : Option ℕ) → read_by (answered value) ≡ value
answered_back (Some value) = refl
answered_back None = refl

-- a register that is not trapped
plain_operates : (reg : IccReg) (write : Option ℕ) (before after : Loaded) (outcome : Outcome) (answer : Option ℕ) → (before.trapping ≡ false → IsOpen before.regs.hcr) → (reg ≡ Sgi1r → ⊥) → IsAccess reg write (opened before).regs outcome after.regs
    → record after { regs = before.regs } ≡ before → answer ≡ read_by outcome → Operates reg write before after answer
plain_operates reg write before after outcome answer free other is same answer_is =
    let regs = (opened before).regs in
    let none : trap_cause regs.hcr reg ≡ None = open_cause regs.hcr reg (opened_open before free) other in
    let after_so : after.regs ≡ registers_after reg write regs = is.after_is ∙ ap (λ o. option_map_or (λ cause. regs) o (registers_after reg write regs)) none in
    let held : after.held ≡ before.held = ap (λ (vcpu : Loaded). vcpu.held) same in
    let follow = λ (interface : InterfaceState) (ok : IsInterface interface) (stands : StandFor before.regs before.held interface). is.follows interface ok (places_agree regs before.held interface ok (opened_stands before interface stands)) none in
    record {
      regs = after_so;
      same = same;
      answers = λ interface ok stands. answer_is ∙ ap read_by (follow interface ok stands).answer ∙ answered_back (interface_answer reg write interface);
      stands = λ interface ok stands. subst (λ held. StandFor after.regs held (interface_after reg write interface)) (sym held) (is.places interface before.held ok (opened_stands before interface stands) none);
      points = λ interface ok stands. (follow interface ok stands).stays.points;
      opens = λ none. subst IsOpen (sym (ap (λ (regs : IchRegs). regs.hcr) after_so)) (after_open reg write regs (opened_open before free));
      lrs = ap (λ (regs : IchRegs). regs.n) after_so ∙ after_count reg write regs ∙ opened_count before;
    }

-- ICC_SGI1R changes nothing of the interface
sgi_operates : (value : ℕ) (before after : Loaded) (outcome : Outcome) (answer : Option ℕ) → (before.trapping ≡ false → IsOpen before.regs.hcr) → (opened before).regs.vmcr < 2 ^ 32 → IsAccess Sgi1r (Some value) (opened before).regs outcome after.regs
    → record after { regs = before.regs } ≡ before → answer ≡ read_by outcome → Operates Sgi1r (Some value) before after answer
sgi_operates value before after outcome answer free fits is same answer_is =
    let regs = (opened before).regs in
    let held : after.held ≡ before.held = ap (λ (vcpu : Loaded). vcpu.held) same in
    record {
      regs = is.after_is ∙ sym (same_registers regs fits);
      same = same;
      answers = λ interface ok stands. answer_is ∙ ap read_by is.outcome_is;
      stands = λ interface ok stands.
          subst (λ held. StandFor after.regs held interface) (sym held) (subst (λ regs. StandFor regs before.held interface) (sym is.after_is) (opened_stands before interface stands));
      points = λ interface ok stands. ok.points;
      opens = λ none. subst IsOpen (sym (ap (λ (regs : IchRegs). regs.hcr) is.after_is)) (opened_open before free);
      lrs = ap (λ (regs : IchRegs). regs.n) is.after_is ∙ opened_count before;
    }

pub operates : (reg : IccReg) (write : Option ℕ) (before after : Loaded) (outcome : Outcome) (answer : Option ℕ) → HasDirection reg write → (before.trapping ≡ false → IsOpen before.regs.hcr) → (opened before).regs.vmcr < 2 ^ 32 → IsAccess reg write (opened before).regs outcome after.regs
    → record after { regs = before.regs } ≡ before → answer ≡ read_by outcome → Operates reg write before after answer
operates Sgi1r None before after outcome answer way free fits is same answer_is = let read : IsTrue (is_readable Sgi1r) = way.readable refl in absurd (cc)
operates Sgi1r (Some value) before after outcome answer way free fits is same answer_is = sgi_operates value before after outcome answer free fits is same answer_is
operates reg write before after outcome answer way free fits is same answer_is = plain_operates reg write before after outcome answer free (λ e. cc) is same answer_is
