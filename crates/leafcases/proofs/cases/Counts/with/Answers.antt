use Rattle.leafcases.specs.Compare.{counted_as}
use Rattle.leafcases.proofs.cases.Counts.with.Goals as goal

pub returns-in-Expired : goal.returns-in-Expired
unfolding counted_as
returns-in-Expired c = rw (c.with.ensures, c.in-Expired.is)

pub returns-in-Redelivered : goal.returns-in-Redelivered
unfolding counted_as
returns-in-Redelivered c = rw (c.with-in-Redelivered.ensures, c.in-Redelivered.is)

pub returns-in-AdmitMemory : goal.returns-in-AdmitMemory
unfolding counted_as
returns-in-AdmitMemory c = rw (c.with-in-AdmitMemory.ensures, c.in-AdmitMemory.is)

pub returns-in-ApplyExpiryOptions : goal.returns-in-ApplyExpiryOptions
unfolding counted_as
returns-in-ApplyExpiryOptions c = rw (c.with-in-ApplyExpiryOptions.ensures, c.in-ApplyExpiryOptions.is)

pub returns-in-Audit : goal.returns-in-Audit
unfolding counted_as
returns-in-Audit c = rw (c.with-in-Audit.ensures, c.in-Audit.is)

pub returns-in-AuditNew : goal.returns-in-AuditNew
unfolding counted_as
returns-in-AuditNew c = rw (c.more_of.ensures, c.in-AuditNew.is)

pub returns-in-Bad : goal.returns-in-Bad
unfolding counted_as
returns-in-Bad c = rw (c.more_of-in-Bad.ensures, c.in-Bad.is)
