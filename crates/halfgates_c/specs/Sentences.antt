-- Why a text is no circuit.
use Rattle.std.specs.Prelude.{◌≡◌, ℕ, ◌-◌, List, [], ◌++◌, Option, MatchOption, length, replicate}
use Rattle.gc_netlist.specs.Circuit.{Netlist, IsLawful}
use Rattle.gc_netlist.specs.Spelling.{Spells}
use Rattle.gc_netlist.specs.Place.{IsLocated}
use Rattle.gc_circuit.specs.declared.locate.Located.{Located}
use Rattle.gc_circuit.specs.Sentence.{IsSentence}

-- a sentence of up to 255 bytes, with zeros up to 256
abbrev pub filled : List ℕ → List ℕ
filled sentence = sentence ++ replicate (256 - length sentence) 0

-- The bytes are a sentence on what is found, and empty where no fault is.
abbrev pub IsSentenceOn : Option Located → List ℕ → Type 0
IsSentenceOn found bytes =
    (sentence : List ℕ) × (bytes ≡ filled sentence)
    × MatchOption found (sentence ≡ []) (λ l. IsSentence l sentence)

-- The bytes are empty where the text spells a lawful circuit, or else a sentence on its first fault.
pub record IsExplained (text bytes : List ℕ) : Type 0 where
  pub found : Option Located
  pub meaning : MatchOption found ((c : Netlist) × IsLawful c × Spells text c)
      (λ l. IsLocated text l.fault l.line l.column l.gate l.wire)
  pub says : IsSentenceOn found bytes
