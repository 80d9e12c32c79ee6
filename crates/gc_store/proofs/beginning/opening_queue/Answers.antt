use Rattle.std.proofs.Common.{◌∙◌, arith}
use Rattle.gc_store.proofs.TableLemmas.{opening_count, opening_positive}
use Rattle.gc_store.proofs.beginning.opening_queue.Goals as goal

pub open-requires-clause-few : goal.open-requires-clause-few
open-requires-clause-few g c =
    let count = opening_count c.args.circuit.now _ c.in_ok-opening_countdowns.ensures in
    omega (arith, count, c.law_lawful.ensures.few_gates)

pub open-requires-clause-positive : goal.open-requires-clause-positive
open-requires-clause-positive g c =
    opening_positive c.args.circuit.now _ c.in_ok-opening_countdowns.ensures

pub returns : goal.returns
returns g c =
    let opening = c.in_ok-opening_countdowns.ensures in
    let count = opening_count c.args.circuit.now _ opening in
    record {
      lawful = c.law_lawful.ensures;
      marks = rw count at c.in_ok-queue.ensures.marks;
      countdowns = record {
        count = c.in_ok-queue.ensures.count ∙ count;
        counted = λ i n opened. c.in_ok-queue.ensures.countdowns i n (rw opening opened);
      };
    }
