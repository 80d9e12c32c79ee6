use Rattle.gc_tokens.proofs.Names.{◌≡◌, ◌-◌, ◌<◌, [], ◌∷◌, take, drop, get_or, slice_index, inl, inr, refl, arith, both_ways, cases_lt, common_steps, get_or-take, length-take-le, tokens}
use Rattle.gc_tokens.proofs.BackLemmas.{last_run, take_take, front_of, some_before}
use Rattle.gc_tokens.proofs.back.last_start.Goals as goal

pub returns : goal.returns
returns c =
    let text = c.args.text.now in
    let end = c.last_end-end.result in
    let s = c.run_start.result in
    let before = c.last_end-end.ensures in
    let start = c.run_start.ensures in
    let len = length-take-le end text before.within in
    let any = some_before text end (rw before.same c.requires) in
    let below : s < end = elim (cases_lt s end) [
      | inl below ↦ below
      | inr past ↦
          let at_end : s ≡ end = omega arith in
          let byte = get_or-take end text (end - 1) 0 (omega arith) in
          let blank = rw (at_end, byte) at (start.ends (omega arith)) in
          absurd (both_ways _ (before.ends any) blank)
    ] in
    let run = last_run (take end text) s (omega arith) start.run start.ends in
    let parted = rw (before.same, take_take s end text (omega arith)) at run in
    let first : slice_index text s ≡ get_or (drop s (take end text)) 0 0 =
    grind (arith, common_steps) in
    record {
      within = omega arith;
      front = rw (parted, front_of (tokens (take s text)) (drop s (take end text) ∷ [])) refl;
      begins = rw first (start.run 0 0 (grind (arith, common_steps)));
    }
