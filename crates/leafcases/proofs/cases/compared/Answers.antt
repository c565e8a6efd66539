use Rattle.leafcases.specs.Compare.{compared}
use Rattle.leafcases.proofs.cases.compared.Goals as goal

pub returns-in-Expired : goal.returns-in-Expired
unfolding compared
returns-in-Expired c = rw (c.in-Expired.is, c.expired_same.ensures)

pub returns-in-Redelivered : goal.returns-in-Redelivered
unfolding compared
returns-in-Redelivered c = rw (c.in-Redelivered.is, c.redelivered_same.ensures)

pub returns-in-AdmitMemory : goal.returns-in-AdmitMemory
unfolding compared
returns-in-AdmitMemory c = rw (c.in-AdmitMemory.is, c.admit_memory_same.ensures)

pub returns-in-ApplyExpiryOptions : goal.returns-in-ApplyExpiryOptions
unfolding compared
returns-in-ApplyExpiryOptions c = rw (c.in-ApplyExpiryOptions.is, c.apply_expiry_options_same.ensures)

pub returns-in-AuditNew : goal.returns-in-AuditNew
unfolding compared
returns-in-AuditNew c = rw (c.in-AuditNew.is, c.new.ensures)

pub returns-in-Audit : goal.returns-in-Audit
unfolding compared
returns-in-Audit c = rw c.in-Audit.is c.audit_compared.ensures

pub returns-in-Bad : goal.returns-in-Bad
unfolding compared
returns-in-Bad c = rw c.in-Bad.is
