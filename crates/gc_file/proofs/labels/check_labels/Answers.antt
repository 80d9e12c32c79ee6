use Rattle.gc_file.proofs.ReaderNames.{arith, bad_label_magic, too_many_labels, labels_trailing, header_truncated, labels_truncated}
use Rattle.gc_file.proofs.labels.check_labels.Goals as goal

pub returns-then-not-is_begun : goal.returns-then-not-is_begun
returns-then-not-is_begun c = search (arith, bad_label_magic)

pub returns-then-bytes-lt-LABEL_HEADER : goal.returns-then-bytes-lt-LABEL_HEADER
returns-then-bytes-lt-LABEL_HEADER c = search (arith, header_truncated)

pub returns-then-count-gt-MAX_WIRES : goal.returns-then-count-gt-MAX_WIRES
returns-then-count-gt-MAX_WIRES c = search (arith, too_many_labels)

pub returns-then-bytes-end : goal.returns-then-bytes-end
returns-then-bytes-end c = search (arith, labels_truncated)

pub returns-then-bytes-end-2 : goal.returns-then-bytes-end-2
returns-then-bytes-end-2 c = search (arith, labels_trailing)
