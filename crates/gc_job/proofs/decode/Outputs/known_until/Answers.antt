use Rattle.gc_job.proofs.Names.{◌≡◌, ◌↔◌, length, IsTrue, refl, sym, ◌∙◌, arith, rules, slice_get_read, IsRecognised}
use Rattle.gc_job.proofs.DecodeLemmas.{hash_in_part, known_more}
use Rattle.gc_job.proofs.decode.Outputs.known_until.Goals.{After-is_entry-is_known}
use Rattle.gc_job.proofs.decode.Outputs.known_until.Goals as goal

-- The comparison says whether the label is recognised.
compared : (c : After-is_entry-is_known) → IsTrue c.is_entry-is_known.result
    ↔ IsRecognised c.args.self.now.and_gates c.args.self.now.entries.now c.loop-i.i
    c.index-labels-i.result
compared c =
    let and_gates = c.args.self.now.and_gates in
    let hashes = c.output_hashes-hashes.result in
    let count : length hashes ≡ 8 = search rules in
    c.is_entry-is_known.ensures and_gates (sym c.index-hashes-i.is
    ∙ hash_in_part and_gates c.args.self.now.labels.now hashes c.args.first c.args.end c.loop-i.i
    _ _ (omega arith) (omega arith) (omega arith) (omega arith) c.index-labels-i.is
    c.index-hashes-i.is c.output_hashes-hashes.ensures)

pub loop-i-preserved : goal.loop-i-preserved
loop-i-preserved c =
    let is = compared (goal.at.loop-i-preserved c).After-is_entry-is_known in
    let at = slice_get_read _ (length c.args.self.now.labels.now) _ _ refl (omega arith)
    c.index-labels-i.is in
    let before = c.loop-i.invariant in
    record {
      within = grind arith;
      known = λ known. rw c.from-known.ensures
          (known_more _ _ _ c.loop-i.i c.loop-i.known c.index-labels-i.result
          c.is_entry-is_known.result at is (before.known known));
    }
