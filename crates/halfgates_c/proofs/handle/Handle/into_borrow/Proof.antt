-- `into_borrow` casts the pointer. The right to read what lies behind it stays.
use Rattle.halfgates_c.proofs.Walk.{◌≡◌, refl, RattleType, borrow_owns, handle_of, Handle}
use Rattle.gc_kept.specs.contracts.held.Held as held_type
use Rattle.halfgates_c.specs.contracts.borrow.Borrow as borrow_type
use Rattle.halfgates_c.specs.contracts.handle.Handle as handle_type
use Rattle.halfgates_c.proofs.Recast.{Recast, recast_word}
use Rattle.halfgates_c.specs.contracts.handle.Handle.into_borrow as spec
use Rattle.halfgates_c.proofs.handle.Handle.into_borrow as own

is_handle_of : (x : Handle)
    → x ≡ handle_of (record { at = x.at; value = x.held; round = x.round; parts = x.parts })
unfolding handle_of
is_handle_of x = refl

pub into_borrow_spec : {M : Type 1} → own.Statement.statement M
into_borrow_spec 𝓤 𝓛 𝓜 𝓡 wired =
    let held_row : RattleType = held_type.the_row in
    let borrow_row : RattleType = borrow_type.the_row held_row in
    let handle_row : RattleType = handle_type.the_row in
    let it : Recast handle_row borrow_row = record {
      at = λ x. x.at;
      owned = λ x. borrow_owns held_row x.at x.held x.round x.parts;
      made = λ x. record { at = x.at; value = x.held; round = x.round; parts = x.parts };
      says = λ x y. (y.value ≡ x.held) × (x ≡ handle_of y);
      holds = λ x. (refl, is_handle_of x);
      given_owns = λ x values. refl;
      made_owns = λ x values. refl;
      last = λ x. tt;
      silent = λ x end. refl;
    } in
    recast_word handle_row borrow_row it 𝓤 𝓛 𝓜 𝓡 spec.Key.name _ _
    (own.Code.unfolded 𝓤 𝓛.H 𝓜 𝓡 wired)
