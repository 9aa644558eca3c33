-- Which accesses of a guest are trapped to the hypervisor (IHI 0069, ICH_HCR_EL2).
use Rattle.std.specs.Prelude.{ℕ, Option, Some, None, if◌then◌else◌}
use Rattle.gic_ich.specs.Words.{IccReg, Iar0, Iar1, Hppir0, Hppir1, Eoir0, Eoir1, Dir, Rpr, Pmr, Bpr0, Bpr1, Ctlr, Igrpen0, Igrpen1, Ap0r0, Ap1r0, Sgi1r, Sre, has_bit}
use Rattle.gic_ich.specs.Hcr.{hcr_tc, hcr_tall0, hcr_tall1, hcr_tdir}
use Rattle.gic_icv.specs.declared.trap.TrapCause.{TrapCause}
use Rattle.gic_icv.specs.declared.trap.TrapCause.TheVariants.{Sgi, Dir as DirAlone, Common, All0, All1}

-- the cause, where the bit of ICH_HCR at this place is 1
abbrev pub where_set : ℕ → ℕ → TrapCause → Option TrapCause
where_set hcr place cause = if has_bit hcr place then Some cause else None

-- why an access of a register is trapped, or none where it is not
abbrev pub trap_cause : ℕ → IccReg → Option TrapCause
trap_cause hcr Sgi1r = Some Sgi
trap_cause hcr Dir = if has_bit hcr hcr_tdir then Some DirAlone else where_set hcr hcr_tc Common
trap_cause hcr Ctlr = where_set hcr hcr_tc Common
trap_cause hcr Pmr = where_set hcr hcr_tc Common
trap_cause hcr Rpr = where_set hcr hcr_tc Common
trap_cause hcr Iar0 = where_set hcr hcr_tall0 All0
trap_cause hcr Eoir0 = where_set hcr hcr_tall0 All0
trap_cause hcr Hppir0 = where_set hcr hcr_tall0 All0
trap_cause hcr Bpr0 = where_set hcr hcr_tall0 All0
trap_cause hcr Ap0r0 = where_set hcr hcr_tall0 All0
trap_cause hcr Igrpen0 = where_set hcr hcr_tall0 All0
trap_cause hcr Iar1 = where_set hcr hcr_tall1 All1
trap_cause hcr Eoir1 = where_set hcr hcr_tall1 All1
trap_cause hcr Hppir1 = where_set hcr hcr_tall1 All1
trap_cause hcr Bpr1 = where_set hcr hcr_tall1 All1
trap_cause hcr Ap1r0 = where_set hcr hcr_tall1 All1
trap_cause hcr Igrpen1 = where_set hcr hcr_tall1 All1
trap_cause hcr Sre = None
