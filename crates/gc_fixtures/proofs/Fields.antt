-- A `&` to a `Refusing` holds a `&` to each of its fields. Assumes `Logic`.
-- It passes on the names of the kit that the walks cite.
pub use Rattle.std.proofs.Common.{List, [], ◌∷◌, refl, ap, w64, Bool, Err, false, ℕ, ◌+◌}
pub use mir.Syntax.{a_type, dnil, dcons}
pub use mir.Val.{Val, vptr, vunit}
pub use mir.MapTy.{inst_fn}
pub use base.Logic.{id⊢, ent, sep}
pub use base.Fml.{ftrue, flft, Lft}
pub use contract.Running.{tables}
pub use types.Kit.{‵, raw, ◌⊛◌, some, later, ◌$◌, ◌∵◌, !, qed, by, move, drop, use1, split, join}
pub use types.Kit.{pick, fsplit, fjoin, feq_i, feq_l, await, Sq, prop, at_ret, keep, use0, use2}
pub use types.Kit.{done}
pub use types.Run.{stop, fld, addr, no_more, and_then, of_opd, unit_lit, returns, enter, lit, first}
pub use types.Run.{branches, skips, exec, returns_within}
pub use types.ByLocal.{alloc_all, pass_all, free_all, look_at, get, through, sets, lands_as, env}
pub use denote.Exit.{yes}
pub use denote.RattleType.{owns, RattleType}
pub use denote.Ref.{shr_vals}
pub use denote.Builtin.{RawPtr, RefOf, unit, usize, bool}
pub use denote.Param.{bounded, param, layout}
pub use denote.Plain.{uint_vals, uint_Tells}
pub use denote.Signature.{plain, types_at}
pub use denote.Steps.{nothing, only, peeks}
pub use denote.Triple.Call.{calls_at}
pub use denote.Triple.Clauses.{Lasts, lasts}
pub use denote.Triple.Entry.{alive, Vals}
pub use denote.Triple.Table.{framed}
pub use denote.Triple.Walked.{Stays, stay_dropped, walk_of, Goes-dropped}
pub use Rattle.std.proofs.alloc.Calls.{Al, Gives, Answer, answer_val, Answer-err, Answer-typed}
pub use Rattle.std.proofs.alloc.Calls.{Takes, token}
pub use Rattle.std.proofs.raw_atomic.Walks.{proved, leaves}
pub use denote.Memory.{hidden_shr}
use seplogic.Ra.Ura.{Ura}
use prog.Memory.{size, align, up}
use types.Logic.{Logic, sem}
use denote.Opens.{unhide}
use denote.Param.Laws.{Laws, of_field}
use denote.Param.Shared.{copy_shared}
use denote.Struct.Field.{RawPtr-field}
use denote.Struct.Laws.{RawPtr-laws, RawPtr-copy}
use Rattle.gc_fixtures.specs.contracts.refusing.Refusing as refusing
use Rattle.gc_fixtures.specs.contracts.refusing.Tally as tally

-- a raw pointer is plain data
pub pointer_laws : Laws RawPtr
pointer_laws = of_field RawPtr-field RawPtr-laws refl (copy_shared RawPtr-field RawPtr-copy)

module _ (B : RattleType) where
  abbrev pub Refuser : RattleType
  Refuser = refusing.the_row (param 0 B)

  -- where the two fields of a `Refusing` at p stand
  abbrev pub inner_at : ℕ × ℕ → ℕ × ℕ
  inner_at p = (p.0, p.1 + up (align (layout B)) 0)

  abbrev pub tally_at : ℕ × ℕ → ℕ × ℕ
  tally_at p = (p.0, p.1 + up 8 (up (align (layout B)) 0 + size (layout B)))

  module _ {M : Type 1} {𝓤 : Ura M} (𝓛 : Logic 𝓤) (κ : Lft) (r : Refuser.Denot) (p : ℕ × ℕ) where
    pub lends_fields : ent 𝓤 (sem 𝓛 (hidden_shr Refuser κ r p.0 p.1))
        (sep 𝓤 (sem 𝓛 (hidden_shr B κ r.inner (inner_at p).0 (inner_at p).1))
        (sem 𝓛 (hidden_shr tally.the_row κ r.tally (tally_at p).0 (tally_at p).1)))
    lends_fields =
        qed 𝓛 (‵ (hidden_shr Refuser κ r p.0 p.1) ∷ []) ∵ unhide ! $ fsplit ! $ fsplit ! $
        move ! (1 ∷ []) $ fsplit ! $ keep ! (2 ∷ 0 ∷ []) $ join ! $ done !
