use Rattle.gc_kept.proofs.Names.{◌≡◌, ◌++◌, map, flat_map, take, All, file_length, IsOwnFile}
use Rattle.gc_file.specs.LabelFile.{label_file}
use Rattle.gc_kept.proofs.label_files.read_label_files.Given as goal

abbrev pub invariant-loop-length : goal.invariant-loop-length
invariant-loop-length l = record {
  spelled : l.bytes ≡ flat_map label_file l.files.items ++ l.rest;
  lengths_of : take l.length-index l.lengths ≡ map file_length l.files.items;
  whole : All IsOwnFile l.files.items;
}
