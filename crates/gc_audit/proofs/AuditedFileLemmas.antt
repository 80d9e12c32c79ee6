-- Files that were read are honest in their parts exactly where they are in their bytes.
use Rattle.gc_audit.proofs.Names.{ℕ, List, ap, ◌∙◌, Netlist, IsLawful, garbling_of, Version, One, Two, GarbledParts, IsGarbledFile, garbled_file, label_file, label_parts_of, honest_parts}
use Rattle.gc_file.proofs.WrittenFiles.{are_files}
use Rattle.gc_file.proofs.OneFile.{one_file}
use Rattle.gc_file.proofs.LabelFileLemmas.{one_label_file}
use Rattle.gc_audit.specs.AuditedFileLaw.{AuditedFileLaw}

module _ (c : Netlist) (lawful : IsLawful c) (seed : List ℕ) where
  abbrev honest : Version → GarbledParts
  honest version = honest_parts version c (garbling_of c seed) seed

  honest_file : (version : Version) → IsGarbledFile (garbled_file (honest version)) (honest version)
  honest_file One = (are_files c lawful seed).one
  honest_file Two = (are_files c lawful seed).two

  pub audited_files : AuditedFileLaw c seed
  audited_files = record {
    counts = λ bytes file is. (
      λ right. (right.rows, right.decode_bits),
      λ right. record { rows = right.0; decode_bits = right.1; entries = is.entry_pairs },
    );
    garbled = λ bytes file is. (
      λ same. is.spelled ∙ ap garbled_file same,
      λ same. one_file bytes file (honest file.version) is (rw same (honest_file file.version)),
    );
    labels = λ bytes file is bits width. (
      λ dealt. is.spelled ∙ ap label_file dealt.parts,
      λ same. record {
        width = width;
        parts = one_label_file bytes file (label_parts_of c seed file.index bits) is
            (rw same ((are_files c lawful seed).labels file.index bits is.index width));
      },
    );
  }
