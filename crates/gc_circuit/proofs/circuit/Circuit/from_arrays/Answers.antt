use Rattle.gc_circuit.proofs.Names.{inl, inr, Err, sym, ◌∙◌, text_of}
use Rattle.gc_netlist.proofs.CanonLemmas.{canonical_law}
use Rattle.gc_netlist.proofs.ReadingLaws.{reading_law, read_exactly}
use Rattle.gc_circuit.proofs.circuit.Circuit.from_arrays.Goals as goal

pub returns-in-Ok-clause-exactly : goal.returns-in-Ok-clause-exactly
returns-in-Ok-clause-exactly g c = λ d lawful same.
    (canonical_law d lawful).one_circuit _ c.in-Ok.ensures.lawful
    (c.in-Ok.ensures.canonical ∙ sym same)

pub returns-in-Err-clause-first_fault : goal.returns-in-Err-clause-first_fault
returns-in-Err-clause-first_fault g c = λ other. elim c.in-Err.ensures.stops [
  | inl refused ↦ absurd (other refused.0)
  | inr found ↦ found
]

pub returns-in-Err-clause-exactly : goal.returns-in-Err-clause-exactly
returns-in-Err-clause-exactly g c = λ d lawful same.
    read_exactly (text_of c.args.arrays) (Err c.in-Err.stop.fault)
    (λ other. ((reading_law (text_of c.args.arrays)).faults _).1
    (returns-in-Err-clause-first_fault g c other).first)
    d lawful (rw (← same) (canonical_law d lawful).spells)
