use Rattle.gc_file.proofs.ReaderNames.{◌≡◌, ◌++◌, List, ℕ, IsHashed, IfErr-weaker, on_ok_weaker, hashed_more}
use Rattle.gc_file.proofs.body.add_hashed.Goals.{After-update-in_default-2}
use Rattle.gc_file.proofs.body.add_hashed.Goals as goal

-- What the hasher holds after the piece.
hashed : (c : After-update-in_default-2) (m n : List ℕ) →
    let cuts = c.args.cuts.now in
    IsHashed m c.args.trailer.now.items c.args.hasher.now
    → n ≡ m ++ cuts.rows.now ++ cuts.decode_bytes.now ++ cuts.entries.now
    → IsHashed n c.args.trailer.now.items c.update-in_default-2.new.self
hashed c m n before is =
    let q1 = c.args.cuts.now.rows.now in
    rw is (hashed_more (λ p holds.
    c.update-in_default-2.ensures (p ++ q1 ++ c.args.cuts.now.decode_bytes.now)
    (c.update-in_default.ensures (p ++ q1) (c.update.ensures p holds))) c.requires.order before)

pub returns-in_default-clause-hashed : goal.returns-in_default-clause-hashed
returns-in_default-clause-hashed c =
    let now = (goal.at.returns-in_default-clause-hashed c).After-update-in_default-2 in
    on_ok_weaker c.add_trailer.result (λ right m n before is given.
    right n (hashed now m n before is)) c.add_trailer.ensures.hashed

pub returns-in_default-clause-err : goal.returns-in_default-clause-err
returns-in_default-clause-err c =
    let now = (goal.at.returns-in_default-clause-err c).After-update-in_default-2 in
    IfErr-weaker c.add_trailer.result _ _ (λ e fault.
    (fault.0, fault.1, λ m n before is given. fault.2 n (hashed now m n before is)))
    c.add_trailer.ensures.err
