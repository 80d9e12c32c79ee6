-- The tables among the fields of the store's progress.
use Rattle.gc_store.specs.declared.partial.PartialGarbling.TheInside.{Inside}
use Rattle.gc_store.specs.Kept.{Tables}

abbrev pub tables_of : {A : Type 0} → Inside A → Tables
tables_of s = record {
  marks = s.queue.marks;
  countdowns = s.queue.countdowns;
  firsts = s.readers.firsts;
  nexts = s.readers.nexts;
  zero_labels = s.zero_labels.items;
  and_numbers = s.and_numbers.items;
  rows = s.rows;
  finished = s.finished;
  finished_ands = s.finished_ands;
}
