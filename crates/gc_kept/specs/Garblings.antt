-- Lists of garblings.
use Rattle.std.specs.Prelude.{◌≡◌, ◌⊎◌, ◌<◌, ◌≤◌, ℕ, IsTrue, List, ◌++◌, length, flat_map, All}
use Rattle.sha2.specs.Sha256.{sha256}
use Rattle.gc_file.specs.declared.parts.Version.{Version}
use Rattle.gc_file.specs.GarbledFile.{body}
use Rattle.gc_file.specs.Honest.{honest_parts_with}
use Rattle.gc_kept.specs.declared.fault.KeptFault.{KeptFault}
use Rattle.gc_kept.specs.declared.fault.KeptFault.TheVariants.{BadArgument, SmallBuffer, Memory, NoDigest}
use Rattle.gc_kept.specs.Files.{IsFileAt, file_of}
use Rattle.gc_kept.specs.Garbling.{GarblingWith}

-- The AND gates of each garbling are numbered from 0 on,
abbrev pub AreFromZero : List GarblingWith → Type 0
AreFromZero garblings = All (λ g. g.first ≡ 0) garblings

-- and the circuit of each had its digest.
abbrev pub HaveDigests : List GarblingWith → Type 0
HaveDigests garblings = All (λ g. IsTrue g.has_digest) garblings

-- The garbled files of the garblings, one after another.
abbrev pub files_of : Version → List GarblingWith → List ℕ
files_of version garblings = flat_map (λ g. file_of g version) garblings

-- Each garbling has garbled files, and the buffer begins with those of this version.
pub record AreAllGarbledAt (garblings : List GarblingWith) (version : Version)
    (old new : List ℕ) : Type 0 where
  pub from_zero : AreFromZero garblings
  pub digests : HaveDigests garblings
  pub files : IsFileAt (files_of version garblings) old new

-- The fault where some garbling has none: the AND gates of some aren't numbered from 0 on, else a digest is missing.
abbrev pub HaveNoFiles : List GarblingWith → KeptFault → Type 0
HaveNoFiles garblings BadArgument = ¬ AreFromZero garblings
HaveNoFiles garblings NoDigest = AreFromZero garblings × (¬ HaveDigests garblings)
HaveNoFiles garblings _ = ⊥

-- The buffer has too little room for all files. Memory may be missing instead.
abbrev pub HasFilesRoomFault : List ℕ → ℕ → KeptFault → Type 0
HasFilesRoomFault files room SmallBuffer = room < length files
HasFilesRoomFault files room Memory = length files ≤ room
HasFilesRoomFault files room _ = ⊥

-- The fault of writing them: that of garblings without files, else that of writing these.
abbrev pub HasAllGarbledFault : List GarblingWith → Version → ℕ → KeptFault → Type 0
HasAllGarbledFault garblings version room fault = HaveNoFiles garblings fault
    ⊎ (AreFromZero garblings × HaveDigests garblings
    × HasFilesRoomFault (files_of version garblings) room fault)

-- The bytes of a garbling's file before its trailer.
abbrev pub body_of : Version → GarblingWith → List ℕ
body_of version g = body (honest_parts_with version g.circuit g.garbling g.offset)

-- Bytes, and their SHA-256 (FIPS 180-4) as a trailer.
abbrev pub with_trailer : List ℕ → List ℕ
with_trailer bytes = bytes ++ sha256 bytes
