use Rattle.gc_audit.proofs.Names.{◌+◌, [], ◌∷◌, length, refl, arith, ap, ◌∙◌, length-append, slice_get_read}
use Rattle.gc_audit.proofs.LabelsLemmas.{encoded-more, by_labels, none_by_labels}
use Rattle.gc_audit.proofs.labels.compare.Goals as goal

pub loop-i-preserved : goal.loop-i-preserved
loop-i-preserved g c =
    let a = c.args in let of = a.of.now in let i = c.loop-i.i in let label = c.index-filed-i.result in
    let at = slice_get_read a.filed.now (length a.filed.now) i label refl
    (omega arith) c.index-filed-i.is in
    record {
      read = λ zero_label has.
          (encoded-more of.offset zero_label a.first a.filed.now c.loop-i.bits.items _ i label
          c.in-Some.bit
          (c.loop-i.invariant.read zero_label has) c.loop-i.invariant.count at
          (by_labels of.circuit.now of.offset zero_label of.garbling.now has (a.first + i) _
          (omega arith)
          c.zero_label.ensures label _ c.in-Some.ensures) c.in_ok-push.ensures.items).0;
      count = ap length c.in_ok-push.ensures.items
          ∙ omega (arith, length-append c.loop-i.bits.items (c.in-Some.bit ∷ []));
    }

pub returns-in_default : goal.returns-in_default
returns-in_default g c zero_label has =
    let a = c.args in let of = a.of.now in let i = c.loop-i.i in let label = c.index-filed-i.result in
    record {
      place = i;
      wire_at = refl;
      bits = c.loop-i.bits.items;
      before = c.loop-i.invariant.read zero_label has;
      label = label;
      at = slice_get_read a.filed.now (length a.filed.now) i label refl
          (omega arith) c.index-filed-i.is;
      wrong = none_by_labels of.circuit.now of.offset zero_label of.garbling.now has (a.first + i) _
          (omega arith)
          c.zero_label.ensures label c.in_default.ensures;
    }
