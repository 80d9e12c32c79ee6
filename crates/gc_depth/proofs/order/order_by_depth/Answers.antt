use Rattle.gc_depth.proofs.Names.{◌≡◌, ◌<◌, ℕ, List, map, refl, All, Gate, Netlist, IsLawful, with_gates, rank_in, IsByDepth, IsOrdered, by_rank}
use Rattle.std.proofs.lemmas.Result.{IfOk-weaker}
use Rattle.gc_depth.proofs.CountLemmas.{ranks_below, ranks_low}
use Rattle.gc_depth.proofs.DepthLemmas.{by_rank_lawful, by_rank_reorders, by_rank_by_depth}
use Rattle.gc_depth.proofs.LawLemmas.{computes_same}
use Rattle.gc_depth.proofs.order.order_by_depth.Goals as goal

-- What comes of putting the gates of a circuit in order of their ranks.
ordered : (c : Netlist) → IsLawful c → (ranks : List ℕ) (n : ℕ) (gates : List Gate) →
    ranks ≡ map (rank_in c) c.gates → All (λ k. k < n) ranks →
    gates ≡ by_rank (rank_in c) n c.gates → (d : Netlist) → d ≡ with_gates c gates → IsLawful d × IsOrdered c d × IsByDepth d
ordered c lawful ranks n gates are below same d is =
    let low = ranks_low (rank_in c) c.gates ranks n are below in
    let reorders = by_rank_reorders c lawful n low in
    rw (is, same) (
      by_rank_lawful c lawful n low,
      record {
        reordering = reorders;
        sorted = record {
          end = n;
          below = ranks_below (rank_in c) c.gates ranks n are below;
          gates = refl;
        };
        same = computes_same c _ reorders;
      },
      by_rank_by_depth c lawful n low,
    )

pub with_gates-requires-clause-lawful : goal.with_gates-requires-clause-lawful
with_gates-requires-clause-lawful g c = (ordered _ c.law_lawful.ensures _ _ _
    c.in_ok-ranks.ensures.ranks c.in_ok-ranks.ensures.below c.in_ok-gates.ensures _ refl).0

pub with_gates-requires-clause-ands : goal.with_gates-requires-clause-ands
with_gates-requires-clause-ands g c = (ordered _ c.law_lawful.ensures _ _ _
    c.in_ok-ranks.ensures.ranks c.in_ok-ranks.ensures.below c.in_ok-gates.ensures
    _ refl).1.same.ands

pub returns : goal.returns
returns g c =
    let all = ordered _ c.law_lawful.ensures _ _ _ c.in_ok-ranks.ensures.ranks
    c.in_ok-ranks.ensures.below c.in_ok-gates.ensures in
    record {
      reordering = IfOk-weaker c.with_gates.result _ _ (λ d is. (all d is).1.reordering)
          c.with_gates.ensures;
      by_depth = IfOk-weaker c.with_gates.result _ _ (λ d is. (all d is).2) c.with_gates.ensures;
      exactly = IfOk-weaker c.with_gates.result _ _ (λ d is. (all d is).1.sorted)
          c.with_gates.ensures;
      same = IfOk-weaker c.with_gates.result _ _ (λ d is. (all d is).1.same) c.with_gates.ensures;
    }
