-- Each text spells one lawful circuit or has one first fault.
use Rattle.gc_netlist.proofs.CommonNames.{◌≢◌, MatchResult, ◌≡◌, ℕ, ◌⊎◌, inl, inr, List, [], Result, Ok, Err, arith, ReadFault, Memory, Netlist, IsLawful, tokens, Spells, circuit_of, FirstFault, ReadingLaw}
use Rattle.gc_netlist.proofs.ReadingBack.{lawful_back}
use Rattle.gc_netlist.proofs.CircuitFaults.{IsAnswer, circuit_of-read}
use Rattle.gc_netlist.proofs.CircuitFaultsBack.{first_fault-met}

-- Reading gives a circuit or a fault.
given : (text : List ℕ) (r : Result Netlist ReadFault) → IsAnswer (tokens text) r →
    ((c : Netlist) × IsLawful c × Spells text c) ⊎ ((e : ReadFault) × FirstFault (tokens text) e)
given text (Ok c) is = inl (c, is.0, is.1)
given text (Err e) is = inr (e, is)

pub reading_law : (text : List ℕ) → ReadingLaw text
reading_law text =
    let read = circuit_of-read (tokens text) in
    let back = lawful_back (tokens text) [] in
    let first = first_fault-met (tokens text) in
    record {
      either = given text (circuit_of (tokens text)) read;
      not_both = λ c e lawful spelled fault.
          let p = back c lawful spelled in let q = first e fault in cc;
      one_circuit = λ c d lawful_c spelled_c lawful_d spelled_d.
          let p = back c lawful_c spelled_c in let q = back d lawful_d spelled_d in cc;
      one_fault = λ e f fault_e fault_f. let p = first e fault_e in let q = first f fault_f in cc;
      reads = λ c. (λ h. rw h at read, λ p. back c p.0 p.1);
      faults = λ e. (λ h. rw h at read, first e);
    }

-- A lawful circuit that the text spells is read, memory aside.
pub read_exactly : (text : List ℕ) (r : Result Netlist ReadFault) →
    MatchResult r (λ c. circuit_of (tokens text) ≡ Ok c)
    (λ e. e ≢ Memory → circuit_of (tokens text) ≡ Err e) →
    (c : Netlist) → IsLawful c → Spells text c → MatchResult r (λ d. d ≡ c) (λ e. e ≡ Memory)
read_exactly text r read c lawful spelled =
    let back = lawful_back (tokens text) [] c lawful spelled in grind arith
