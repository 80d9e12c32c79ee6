-- A reference to a `Borrow` holds a share of its right to read.
use Rattle.halfgates_c.proofs.Walk.{RattleType, Laws, RawPtr-copy, of_Lends}
use denote.Param.Shared.{copy_shared}
use denote.Struct.Field.{RawPtr-field}
use Rattle.halfgates_c.specs.contracts.borrow.Borrow as C
use Rattle.halfgates_c.proofs.BorrowSteps.{shares_laws, lends}
use Rattle.halfgates_c.proofs.borrow.Borrow.TheLaw.Statement.{statement}

pub shares : (T : RattleType) (L : Laws T) → statement T L
shares T L = of_Lends (C.struct T) (C.the_codes T.Denot T.coded) (C.the_heap T) (C.the_lent T)
    (λ d p. shares_laws T L.shr_laws d.at d.value d.round)
    (copy_shared RawPtr-field RawPtr-copy, tt)
    (λ M 𝓤 𝓛 d p. lends T L.shr_laws 𝓛 d.at d.value d.round d.parts (C.the_row T).lives)
