use Rattle.jd_engine.proofs.reporting.refusal.Goals as goal

pub returns-clause-ok : goal.returns-clause-ok
returns-clause-ok g c = rw (← c.name.ensures, ← c.as_bytes.ensures.value, ← c.format.ensures.text, ← c.as_bytes-digits.ensures.value) c.five.ensures.ok

pub returns-clause-err : goal.returns-clause-err
returns-clause-err g c = rw (← c.name.ensures, ← c.as_bytes.ensures.value, ← c.format.ensures.text, ← c.as_bytes-digits.ensures.value) c.five.ensures.err
