-- How many bytes the files have.
use Rattle.gc_file.proofs.Names.{◌≡◌, ℕ, ◌+◌, ◌*◌, ◌^◌, ◌<◌, ◌≤◌, List, length, length-append, refl, arith, sha256, length-sha256, Netlist, canonical_text, GarblingParts, One, Two, EntryPair, bytes_for, GarbledParts, body, row_bytes, entry_bytes, garbled_file, parts_of, IsSmall, Version, IsLawful, and_count, output_wires, FitsCircuit, entry_count, honest_parts_with, version_entries}
use Rattle.gc_file.proofs.NumberLemmas.{length-number_bytes}
use Rattle.gc_file.proofs.PackLemmas.{length-packed}
use Rattle.gc_file.proofs.ByteLemmas.{length-decode_bits, length-entry_pairs}
use Rattle.gc_file.proofs.LabelBytesLemmas.{length-row_bytes, length-entry_bytes}
use Rattle.gc_file.proofs.PlaceLemmas.{length-magic}
pub use Rattle.gc_file.proofs.PairLemmas.{length-flat_map, length-pairs}

-- The bytes of a garbled file: header, row pairs, decode bits, entry pairs and trailer.
pub length-garbled_file : (p : GarbledParts) → length p.digest ≡ 32 →
    length (garbled_file p)
    ≡ 48 + 32 * length p.rows + bytes_for (length p.decode_bits) + 32 * length p.entries + 32
unfolding garbled_file
length-garbled_file p digest =
    simp (
      length-append,
      length-magic p.version,
      digest,
      length-number_bytes,
      length-pairs row_bytes length-row_bytes,
      length-packed,
      length-pairs entry_bytes length-entry_bytes,
      length-sha256,
    ) (omega arith)

-- The garbled files of a garbling have fewer than 2 ^ 64 bytes.
pub garbled_file-size : (version : Version) (c : Netlist) (g : GarblingParts)
    (entries : List EntryPair) → IsSmall g → length entries ≤ g.outputs
    → length (garbled_file (parts_of version c g entries)) < 2 ^ 64
garbled_file-size version c g entries small few = omega (
  arith,
  length-garbled_file (parts_of version c g entries) (length-sha256 (canonical_text c)),
  length-decode_bits g small.fits,
  small.rows,
  small.outputs,
)

-- The entry pairs of a file of a version are as many as it has.
length-version_entries : (version : Version) (offset : ℕ) (g : GarblingParts) →
    length (version_entries version offset g) ≡ entry_count version g.outputs
length-version_entries One offset g = refl
length-version_entries Two offset g = length-entry_pairs offset g

pub few-version_entries : (version : Version) (offset : ℕ) (g : GarblingParts) →
    length (version_entries version offset g) ≤ g.outputs
few-version_entries One offset g = omega arith
few-version_entries Two offset g = omega (arith, length-entry_pairs offset g)

-- So the bytes before the trailer of its file are fewer than 2 ^ 64.
pub body-size : (version : Version) (c : Netlist) (offset : ℕ) (g : GarblingParts) → IsSmall g
    → length (body (honest_parts_with version c g offset)) < 2 ^ 64
unfolding garbled_file
body-size version c offset g small =
    let parts = honest_parts_with version c g offset in
    omega (
      arith,
      length-append (body parts) (sha256 (body parts)),
      garbled_file-size version c g (version_entries version offset g) small
          (few-version_entries version offset g),
    )

-- The bytes of a garbling's file, from the numbers of the circuit.
pub length-honest : (version : Version) (c : Netlist) → IsLawful c
    → (offset : ℕ) (g : GarblingParts) →
    FitsCircuit c g →
    length (garbled_file (honest_parts_with version c g offset))
    ≡ 48 + 32 * and_count c + bytes_for (output_wires c) + 32 * entry_count version (output_wires c)
    + 32
length-honest version c lawful offset g fits =
    rw (
      length-garbled_file (honest_parts_with version c g offset) (length-sha256 (canonical_text c)),
      length-decode_bits g (omega (arith, fits.wires, fits.outputs, lawful.outputs_fit)),
      length-version_entries version offset g,
      fits.and_gates,
      fits.outputs,
    )
