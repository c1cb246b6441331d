-- What the check refuses is refused, and where it finds a free slot a registration may begin.
use Rattle.lent.proofs.Laws.{same_self}
use Rattle.reclaimer.proofs.Laws.{register_refuses, may_register, registered}
use Rattle.reclaimer.proofs.register.Goals as goal

pub returns-in_default : goal.returns-in_default
returns-in_default c =
    let r = c.read.ensures in
    let e = simp (r.n, r.m, r.lists) at c.check_register-checked.ensures in
    record { outcome = register_refuses _ _ _ _ e _ c.in_default.is _ c.refused.ensures; same = same_self _ }

pub enroll-requires : goal.enroll-requires
enroll-requires c =
    let r = c.read.ensures in
    let e = simp (r.n, r.m, r.lists) at c.check_register-checked.ensures in
    may_register _ _ _ _ e _ c.in-Ok.is

pub returns : goal.returns
returns c =
    let r = c.read.ensures in
    let e = simp (r.n, r.m, r.lists) at c.check_register-checked.ensures in
    record { outcome = registered _ _ _ _ e _ c.in-Ok.is _ _ c.enroll.ensures.enrolled; same = c.enroll.ensures.same }
