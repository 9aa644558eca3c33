-- ICH_HCR of a plan.
use Rattle.std.proofs.Common.{◌≡◌, ◌^◌, ◌+◌, ℕ, Bool, true, false, Option, None, List, refl, ap, ◌∙◌, subst, sym}
use Rattle.std.specs.Prelude.{IsTrue, if◌then◌else◌}
use Rattle.std.proofs.lemmas.Bool.{false≢true}
use Rattle.gic_ich.specs.Words.{GuestShape, IccReg, Iar0, Iar1, Hppir0, Hppir1, Eoir0, Eoir1, Dir, Rpr, Pmr, Bpr0, Bpr1, Ctlr, Igrpen0, Igrpen1, Ap0r0, Ap1r0, Sgi1r, Sre, has_bit}
use Rattle.gic_ich.specs.GicPrio.declared.cpu.CpuRec.{CpuRec}
use Rattle.floor_lists.specs.Lists.{Offer, Fill, plan, hcr_of, trap_cause}
use Rattle.gic_host.specs.Good.{is_usable}

-- En is 1
control_on : (cpu : CpuRec) (cut trapping : Bool) → has_bit (hcr_of cpu cut trapping) 0 ≡ true
control_on cpu cut trapping = by_flags cut cpu.en0 cpu.en1 trapping
  where
    by_flags : (cut en0 en1 trapping : Bool) → has_bit (2 ^ 0 + (if cut then 2 ^ 3 else 0) + (if en0 then 2 ^ 5 else 2 ^ 4) + (if en1 then 2 ^ 7 else 2 ^ 6) + (if trapping then 2 ^ 10 + 2 ^ 11 + 2 ^ 12 + 2 ^ 14 else 0)) 0 ≡ true
    by_flags true true true true = refl
    by_flags true true true false = refl
    by_flags true true false true = refl
    by_flags true true false false = refl
    by_flags true false true true = refl
    by_flags true false true false = refl
    by_flags true false false true = refl
    by_flags true false false false = refl
    by_flags false true true true = refl
    by_flags false true true false = refl
    by_flags false true false true = refl
    by_flags false true false false = refl
    by_flags false false true true = refl
    by_flags false false true false = refl
    by_flags false false false true = refl
    by_flags false false false false = refl

-- no access is trapped
record IsOpen (hcr : ℕ) : Type 0 where
  tc : has_bit hcr 10 ≡ false
  tall0 : has_bit hcr 11 ≡ false
  tall1 : has_bit hcr 12 ≡ false
  tdir : has_bit hcr 14 ≡ false

control_open : (cpu : CpuRec) (cut : Bool) → IsOpen (hcr_of cpu cut false)
control_open cpu cut = by_flags cut cpu.en0 cpu.en1
  where
    by_flags : (cut en0 en1 : Bool) → IsOpen (2 ^ 0 + (if cut then 2 ^ 3 else 0) + (if en0 then 2 ^ 5 else 2 ^ 4) + (if en1 then 2 ^ 7 else 2 ^ 6) + (if false then 2 ^ 10 + 2 ^ 11 + 2 ^ 12 + 2 ^ 14 else 0))
    by_flags true true true = record { tc = refl; tall0 = refl; tall1 = refl; tdir = refl }
    by_flags true true false = record { tc = refl; tall0 = refl; tall1 = refl; tdir = refl }
    by_flags true false true = record { tc = refl; tall0 = refl; tall1 = refl; tdir = refl }
    by_flags true false false = record { tc = refl; tall0 = refl; tall1 = refl; tdir = refl }
    by_flags false true true = record { tc = refl; tall0 = refl; tall1 = refl; tdir = refl }
    by_flags false true false = record { tc = refl; tall0 = refl; tall1 = refl; tdir = refl }
    by_flags false false true = record { tc = refl; tall0 = refl; tall1 = refl; tdir = refl }
    by_flags false false false = record { tc = refl; tall0 = refl; tall1 = refl; tdir = refl }

untrapped : (hcr : ℕ) (reg : IccReg) (write : Option ℕ) → IsOpen hcr → IsTrue (is_usable reg write) → trap_cause hcr reg ≡ None
untrapped hcr Sgi1r write is usable = absurd (false≢true usable)
untrapped hcr Dir write is usable = rw (is.tdir, is.tc) refl
untrapped hcr Ctlr write is usable = rw is.tc refl
untrapped hcr Pmr write is usable = rw is.tc refl
untrapped hcr Rpr write is usable = rw is.tc refl
untrapped hcr Iar0 write is usable = rw is.tall0 refl
untrapped hcr Eoir0 write is usable = rw is.tall0 refl
untrapped hcr Hppir0 write is usable = rw is.tall0 refl
untrapped hcr Bpr0 write is usable = rw is.tall0 refl
untrapped hcr Ap0r0 write is usable = rw is.tall0 refl
untrapped hcr Igrpen0 write is usable = rw is.tall0 refl
untrapped hcr Iar1 write is usable = rw is.tall1 refl
untrapped hcr Eoir1 write is usable = rw is.tall1 refl
untrapped hcr Hppir1 write is usable = rw is.tall1 refl
untrapped hcr Bpr1 write is usable = rw is.tall1 refl
untrapped hcr Ap1r0 write is usable = rw is.tall1 refl
untrapped hcr Igrpen1 write is usable = rw is.tall1 refl
untrapped hcr Sre write is usable = refl

-- of a plan
pub plan_on : (fill : Fill) (offers : List Offer) (vcpu : ℕ) (cpu : CpuRec) (shape : GuestShape) (n : ℕ) → fill ≡ plan offers vcpu cpu shape n → has_bit fill.hcr 0 ≡ true
plan_on fill offers vcpu cpu shape n e =
    ap (λ (f : Fill). has_bit f.hcr 0) e ∙ control_on cpu (plan offers vcpu cpu shape n).cut (plan offers vcpu cpu shape n).trapping

pub plan_untrapped : (fill : Fill) (offers : List Offer) (vcpu : ℕ) (cpu : CpuRec) (shape : GuestShape) (n : ℕ) (reg : IccReg) (write : Option ℕ) → fill ≡ plan offers vcpu cpu shape n → fill.trapping ≡ false → IsTrue (is_usable reg write) → trap_cause fill.hcr reg ≡ None
plan_untrapped fill offers vcpu cpu shape n reg write e off usable =
    ap (λ (f : Fill). trap_cause f.hcr reg) e
    ∙ ap (λ (b : Bool). trap_cause (hcr_of cpu (plan offers vcpu cpu shape n).cut b) reg) (sym (ap (λ (f : Fill). f.trapping) e) ∙ off)
    ∙ untrapped (hcr_of cpu (plan offers vcpu cpu shape n).cut false) reg write (control_open cpu (plan offers vcpu cpu shape n).cut) usable

-- of En alone
pub alone_on : (hcr : ℕ) → hcr ≡ 2 ^ 0 → has_bit hcr 0 ≡ true
alone_on hcr e = rw e refl

pub alone_untrapped : (hcr : ℕ) (reg : IccReg) (write : Option ℕ) → hcr ≡ 2 ^ 0 → IsTrue (is_usable reg write) → trap_cause hcr reg ≡ None
alone_untrapped hcr reg write e usable = untrapped hcr reg write (subst IsOpen (sym e) (record { tc = refl; tall0 = refl; tall1 = refl; tdir = refl })) usable
