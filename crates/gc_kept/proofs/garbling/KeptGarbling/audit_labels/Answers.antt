use Rattle.gc_kept.proofs.Names.{refl, slice_index}
use Rattle.gc_kept.proofs.garbling.KeptGarbling.audit_labels.Goals as goal

pub returns-in-Ok-clause-ok : goal.returns-in-Ok-clause-ok
returns-in-Ok-clause-ok c =
    let is = c.reference.ensures in
    let labels = c.args.self.now.garbling.zero_labels in
    record {
      parts = c.in_ok-file.file;
      file = c.in_ok-file.ensures;
      index_is = c.index.ensures;
      found = (rw (is.circuit, is.garbling, is.offset)
          at c.in-Ok.ensures.verdict (slice_index labels) (λ w h. refl));
    }
