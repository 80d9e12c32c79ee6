-- The files that a run makes for itself are honest.
use Rattle.gc_command.proofs.Names.{◌≡◌, ◌≢◌, ℕ, ◌+◌, ◌<◌, ◌^◌, ◌++◌, ◌∙◌, Bool, List, [], ◌∷◌, length, map, take, get_or, slice_get, Some, inl, inr, refl, arith, common_steps, length-take-le, slice_get-map, slice_get_within, slice_get-get_or, slice_get_read, gets, Netlist, IsLawful, Fits, GarbledParts, IsGarbledFile, LabelFileParts, IsLabelFile, label_file, label_parts_of, honest_parts, one_file, IsHonestGarbled, AreHonestFiles, AreGarbledBytes, AreLabelFilesOf, cases_eq, IsGarbled-same}
use Rattle.gc_command.proofs.Names.{length-append}
use Rattle.gc_file.specs.declared.fault.FileFault.{FileFault}
use Rattle.gc_file.specs.declared.fault.FileFault.TheVariants as file
use Rattle.gc_file.specs.declared.parts.Version.TheVariants.{Two}
use Rattle.gc_file.proofs.WrittenFiles.{are_files}
use Rattle.gc_job.proofs.TakeLemmas.{slice_get-take, slice_get_taken}

-- The bytes of the garbled file are a garbled file,
pub own-garbled : (c : Netlist) (seed bytes : List ℕ) → IsLawful c
    → (are : AreGarbledBytes c seed bytes)
    → IsGarbledFile bytes (honest_parts Two c are.garbling seed)
own-garbled c seed bytes lawful are =
    rw (are.spelled, IsGarbled-same c seed lawful are.garbling are.garbled)
    (are_files c lawful seed).two

-- and the parts that are read are its own.
pub own-parts : (c : Netlist) (seed bytes : List ℕ) → IsLawful c → AreGarbledBytes c seed bytes
    → (parts : GarbledParts) → IsGarbledFile bytes parts → IsHonestGarbled c seed parts
own-parts c seed bytes lawful are parts read = record {
  version = Two;
  garbling = are.garbling;
  garbled = are.garbled;
  parts = one_file bytes parts _ read (own-garbled c seed bytes lawful are);
}

-- The bytes of a label file are a label file.
pub own-label-file : (c : Netlist) (seed : List ℕ) (index : ℕ) (bits : List Bool) (bytes : List ℕ)
    → IsLawful c → index < 2 ^ 32 → slice_get c.input_widths index ≡ Some (length bits)
    → bytes ≡ label_file (label_parts_of c seed index bits)
    → IsLabelFile bytes (label_parts_of c seed index bits)
own-label-file c seed index bits bytes lawful small at is =
    rw is ((are_files c lawful seed).labels index bits small at)

-- A value by its index, where an iterator gives it.
pub value-at : {X : Type 0} (v : X → List Bool) (values : List X) (i : ℕ) (value : X)
    → i < length values → value ≡ get_or values i value
    → slice_get (map v values) i ≡ Some (v value)
value-at v values i value within is =
    rw (slice_get-map v values i, slice_get_read values (length values) i value refl within is) refl

-- The width of a value is that of the circuit's input value.
pub own-width : (c : Netlist) (values : List (List Bool)) → Fits c values → (i : ℕ)
    (bits : List Bool) → slice_get values i ≡ Some bits
    → slice_get c.input_widths i ≡ Some (length bits)
own-width c values fits i bits at = rw (← fits, slice_get-map length values i, at) refl

-- One more label file.
pub labels-more : {c : Netlist} {seed : List ℕ} (values : List (List Bool)) (i : ℕ)
    {files : List LabelFileParts} {bits : List Bool} {file : LabelFileParts}
    → AreLabelFilesOf c seed (take i values) files → slice_get values i ≡ Some bits
    → file ≡ label_parts_of c seed i bits
    → AreLabelFilesOf c seed (take (i + 1) values) (files ++ file ∷ [])
labels-more {c} {seed} values i {files} {bits} {file} are at is =
    let inside = slice_get_within values i bits at in
    let front = length-take-le i values (omega arith) in
    let longer = length-take-le (i + 1) values (omega arith) in
    let before : length files ≡ i = omega (arith, are.count) in
    record {
      count = omega (arith, length-append files (file ∷ []));
      each = λ k others at_k.
          let taken = slice_get_taken (i + 1) k values others at_k in
          elim (cases_eq k i) [
            | inl same ↦
                let end : slice_get (files ++ file ∷ []) (length files) ≡ Some file =
                grind (arith, common_steps, gets) in
                cc
            | inr other ↦
                let here = are.each k others
                (slice_get-take i k values (omega (arith, taken.0)) ∙ taken.1) in
                grind (arith, common_steps, gets)
          ];
    }

-- The files are honest.
pub own-honest : {c : Netlist} {seed : List ℕ} {values : List (List Bool)} {g : GarbledParts}
    {files : List LabelFileParts} → Fits c values → IsHonestGarbled c seed g
    → AreLabelFilesOf c seed values files → AreHonestFiles c seed values g files
own-honest {c} {seed} {values} {g} {files} fits garbled are = record {
  garbled = garbled;
  fits = fits;
  labels = λ i file at.
      let here = file-at i file at in
      rw here.1 record { bits = get_or values i []; value = here.0; parts = refl };
  each = λ value inside. record {
    place = value;
    file = label_parts_of c seed value (get_or values value []);
    at = are.each value _ (slice_get-get_or values value [] inside);
    index = refl;
  };
  once = λ i k file other at at_k same.
      let first = file-at i file at in
      let second = file-at k other at_k in
      cc;
}
  where
    file-at : (i : ℕ) (file : LabelFileParts) → slice_get files i ≡ Some file →
        (slice_get values i ≡ Some (get_or values i []))
        × (file ≡ label_parts_of c seed i (get_or values i []))
    file-at i file at =
        let within = slice_get_within files i file at in
        let bits = slice_get-get_or values i [] (omega (arith, are.count)) in
        let is = are.each i (get_or values i []) bits in
        (bits, cc)

-- Where no fault holds, one that holds unless it is Memory is Memory.
pub file-memory : (Holds : FileFault → Type 0) → ((e : FileFault) → Holds e → ⊥) → (e : FileFault)
    → (e ≢ file.Memory → Holds e) → e ≡ file.Memory
file-memory Holds none file.Memory h = refl
file-memory Holds none e h = absurd (none e (h (λ same. cc)))
