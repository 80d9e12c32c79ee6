-- What lies behind C's pointer to a handle: nothing at null, or a value.
use Rattle.std.specs.Prelude.{ℕ}
use Rattle.std.specs.declared.option.Option.{Option}
use Rattle.std.specs.declared.option.Option.TheVariants.{None, Some}
use Rattle.std.specs.declared.alloc.Global.{Global}
use Rattle.std.specs.contracts.impls.GlobalAllocator.TheImpl.{ghosts}
use Rattle.std_alloc.specs.Box.Ownership.{box_owns}
use base.Fml.{Lft, Fml, ftrue, ffalse, fsep, fex}
use denote.RattleType.{RattleType}
use denote.RawPtr.{Ptr, Testable, block_ptr, null_ptr}
use denote.Sharing.{beside, nothing, said}
use Rattle.left_right.specs.Parted.{part_owns, part_shares}

-- the box of a value, which the pointer owns
abbrev pub box_behind : (R : RattleType) → Global → Ptr → Option R.Denot → Fml
box_behind R alloc null_ptr None = ftrue
box_behind R alloc null_ptr (Some x) = ffalse
box_behind R alloc (block_ptr b o) None = ffalse
box_behind R alloc (block_ptr b o) (Some x) =
    box_owns (ghosts.dealloc_token alloc) R (block_ptr b o) x

-- the pointer may be compared with null
abbrev pub may_test : Ptr → Fml
may_test p = fex (Testable p) (λ _. ftrue)

-- a value that the pointer borrows: `parts` of the 2 ^ 63 parts of the right to read it, in a round of borrowing
abbrev pub borrow_owns : (R : RattleType) → Ptr → Option R.Denot → (round parts : ℕ) → Fml
borrow_owns R null_ptr None round parts = ftrue
borrow_owns R null_ptr (Some x) round parts = ffalse
borrow_owns R (block_ptr b o) None round parts = ffalse
borrow_owns R (block_ptr b o) (Some x) round parts =
    fsep (may_test (block_ptr b o)) (part_owns R (block_ptr b o) x round parts)

-- what a reference to such a pointer holds
abbrev pub borrow_shares : (R : RattleType) → Ptr → Option R.Denot → (round : ℕ) → Lft → Fml
borrow_shares R null_ptr None round = nothing
borrow_shares R null_ptr (Some x) round = said ffalse
borrow_shares R (block_ptr b o) None round = said ffalse
borrow_shares R (block_ptr b o) (Some x) round =
    beside (said (may_test (block_ptr b o))) (part_shares R (block_ptr b o) x round)
