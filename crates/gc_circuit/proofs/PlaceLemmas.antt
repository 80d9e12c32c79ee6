-- From where a reader is to the place of the fault.
use Rattle.gc_circuit.proofs.Names.{◌≡◌, ◌≢◌, ℕ, ◌+◌, ◌-◌, ◌<◌, ◌≤◌, List, length, Option, arith, ReadFault, Truncated, OutputUnset, IsMet}
use Rattle.gc_netlist.specs.Place.{Token, Behind, place_of}
use Rattle.gc_netlist.proofs.PlaceLemmas.{spot_behind, spot_token}

module _ (ts left : List (List ℕ)) (e : ReadFault) (back : ℕ) (gate wire : Option ℕ)
    (m : IsMet ts e left back gate wire) where
  -- The fault is a token's end, and the token comes before those that are left.
  pub met_behind : e ≡ OutputUnset →
      ((place_of m.first).spot ≡ Behind (length ts - length left)) × (length left < length ts)
  met_behind is =
      let (k, stands, some) = spot_behind ts e m.first is in
      let before : k + length left ≡ length ts = rw stands at m.spot in
      let place : length ts - length left ≡ k = omega arith in
      (rw place stands, omega arith)

  -- The fault is a token so far back.
  pub met_token : e ≢ Truncated → e ≢ OutputUnset →
      ((place_of m.first).spot ≡ Token (length ts - length left - back))
      × (back + length left ≤ length ts) × (back ≡ 0 → 0 < length left)
  met_token more whole =
      let (k, stands, within) = spot_token ts e m.first more whole in
      let before : k + back + length left ≡ length ts = rw stands at m.spot in
      let place : length ts - length left - back ≡ k = omega arith in
      (rw place stands, omega arith, λ none. omega arith)
