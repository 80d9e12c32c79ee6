use Rattle.gc_command.proofs.eval.read_given.Goals as goal

pub returns-clause-given : goal.returns-clause-given
returns-clause-given g c =
    rw (← c.as_str.ensures.value, ← c.deref.ensures.value) c.read_named.ensures.given

pub returns-clause-fault : goal.returns-clause-fault
returns-clause-fault g c =
    rw (← c.as_str.ensures.value, ← c.deref.ensures.value) c.read_named.ensures.fault
