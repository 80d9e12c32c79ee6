-- A store as a whole: its content, and how many tallies it has dealt.
use Rattle.std.specs.Prelude.{◌≡◌, ℕ, ◌≤◌, List}
use Rattle.std.specs.declared.sync.ledger.Blank.{Blank}
use Rattle.gc_netlist.specs.Circuit.{Netlist}
use Rattle.gc_workers.specs.declared.TheConstants.{MAX_WORKERS}
use Rattle.gc_store.specs.Content.{Content, IsLawfulContent, opened}

pub record Account : Type 0 where
  pub content : Content
  pub tallies : ℕ

-- What holds of every store.
pub record IsLawfulAccount (s : Account) : Type 0 where
  pub content : IsLawfulContent s.content
  pub tallies : s.tallies ≤ MAX_WORKERS

-- A ledger, not begun, for a store whose type gives the ledger this name and this many parts: a part for each tally.
pub record IsForStore (type_name type_parts : ℕ) (ledger : Blank) : Type 0 where
  pub name : ledger.name ≡ type_name
  pub parts : ledger.parts ≡ type_parts
  pub tallies : ledger.parts ≡ MAX_WORKERS

-- A store of a circuit and a seed as it is opened: every gate is free, and no tally is dealt.
pub record IsOpened (c : Netlist) (seed : List ℕ) (s : Account) : Type 0 where
  pub content : s.content ≡ opened c seed
  pub tallies : s.tallies ≡ 0
