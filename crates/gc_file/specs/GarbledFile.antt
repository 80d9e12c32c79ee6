-- The garbled file: what it holds, and its bytes.
use Rattle.std.specs.Prelude.{◌≡◌, ℕ, ◌<◌, ◌≤◌, ◌^◌, Bool, List, ◌++◌, length, flat_map, codes, All}
use Rattle.sha2.specs.Sha256.{sha256}
use Rattle.gc_netlist.specs.declared.limits.TheConstants.{MAX_GATES, MAX_WIRES}
use Rattle.gc_netlist.specs.Circuit.{Netlist}
use Rattle.gc_netlist.specs.Canon.{canonical_text}
use Rattle.gc_label.specs.Label.{bytes_of_label}
use Rattle.gc_half.specs.declared.garbling.RowPair.{RowPair}
use Rattle.gc_half.specs.Garbling.{GarblingParts, decode_bits_of}
use Rattle.gc_file.specs.declared.parts.Version.{Version}
use Rattle.gc_file.specs.declared.parts.Version.TheVariants.{One, Two}
use Rattle.gc_file.specs.declared.parts.EntryPair.{EntryPair}
use Rattle.gc_file.specs.Number.{number_bytes}
use Rattle.gc_file.specs.DecodeBits.{packed}

-- What a garbled file holds: its version, the digest of the circuit's canonical text, the row pair of each AND gate in
-- file order, the decode bit of each output wire and, in version 2, the entry pair of each output wire.
pub record GarbledParts : Type 0 where
  pub version : Version
  pub digest : List ℕ
  pub rows : List RowPair
  pub decode_bits : List Bool
  pub entries : List EntryPair

-- The first eight bytes give the version.
abbrev pub magic : Version → List ℕ
magic One = codes "HGARBLE1"
magic Two = codes "HGARBLE2"

-- The bytes of a row pair: the generator's row, and then the evaluator's.
abbrev pub row_bytes : RowPair → List ℕ
row_bytes row = bytes_of_label row.generator ++ bytes_of_label row.evaluator

-- The bytes of an entry pair: entry 0, and then entry 1.
abbrev pub entry_bytes : EntryPair → List ℕ
entry_bytes pair = bytes_of_label pair.entry_zero ++ bytes_of_label pair.entry_one

-- The header: the version, the digest, and how many AND gates and output wires there are.
abbrev pub header : GarbledParts → List ℕ
header p =
    magic p.version ++ p.digest
    ++ number_bytes (length p.rows) ++ number_bytes (length p.decode_bits)

-- The bytes before the trailer.
abbrev pub body : GarbledParts → List ℕ
body p =
    header p ++ flat_map row_bytes p.rows ++ packed p.decode_bits ++ flat_map entry_bytes p.entries

-- The garbled file. The trailer is the SHA-256 (FIPS 180-4) of the bytes before it.
unfoldable pub garbled_file : GarbledParts → List ℕ
garbled_file p = body p ++ sha256 (body p)

-- The number of entry pairs for a given number of output wires.
abbrev pub entry_count : Version → ℕ → ℕ
entry_count One outputs = 0
entry_count Two outputs = outputs

-- The number is that of the 16 bytes of a label.
abbrev pub IsLabel : ℕ → Type 0
IsLabel label = label < 2 ^ 128

-- So are those of both rows of a pair.
abbrev pub IsRowPair : RowPair → Type 0
IsRowPair row = IsLabel row.generator × IsLabel row.evaluator

-- The bytes are the garbled file with these parts.
pub record IsGarbledFile (bytes : List ℕ) (p : GarbledParts) : Type 0 where
  pub few_rows : length p.rows ≤ MAX_GATES
  pub few_outputs : length p.decode_bits ≤ MAX_WIRES
  pub digest : length p.digest ≡ 32
  pub rows : All IsRowPair p.rows
  pub entries : All (λ pair. IsLabel pair.entry_zero × IsLabel pair.entry_one) p.entries
  pub entry_pairs : length p.entries ≡ entry_count p.version (length p.decode_bits)
  pub spelled : bytes ≡ garbled_file p

-- The parts of a circuit's garbled file: the digest of its canonical text, and its garbling's rows and decode bits. The
-- entries are those of the version.
abbrev pub parts_of : Version → Netlist → GarblingParts → List EntryPair → GarbledParts
parts_of version c g entries = record {
  version = version;
  digest = sha256 (canonical_text c);
  rows = g.rows;
  decode_bits = decode_bits_of g;
  entries = entries;
}
