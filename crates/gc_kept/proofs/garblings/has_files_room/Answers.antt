use Rattle.gc_kept.proofs.Names.{take-map, refl, arith, file_of}
use Rattle.gc_kept.proofs.GarblingsLemmas.{count_within}
use Rattle.gc_kept.proofs.garblings.has_files_room.Goals as goal

pub returns-then-room-size-clause-fault : goal.returns-then-room-size-clause-fault
returns-then-room-size-clause-fault c =
    let it = c.garbling-item.result in
    let within = count_within (λ g. g.now) c.args.garblings.now c.loop-garbling.garbling-index it it
    (omega arith) c.garbling-item.is (λ g. file_of g c.args.version) in
    (refl, omega (arith, rw take-map at within))
