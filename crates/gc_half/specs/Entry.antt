-- The entries of the outputs: for each output wire the hashes of its two labels, by which an output label is
-- recognised.
use Rattle.std.specs.Prelude.{ℕ, ◌+◌, ◌-◌, ◌*◌, Bool, true, false, length, slice_index}
use Rattle.gc_circuit.specs.Meaning.{xor}
use Rattle.gc_label.specs.Label.{colour}
use Rattle.gc_half.specs.Hash.{hash}
use Rattle.gc_half.specs.Garbling.{GarblingParts}
use Rattle.gc_half.specs.Evaluation.{encode}

-- That one of a wire's two labels whose colour is s: the label that stands for the bit which s decodes to.
abbrev pub label_of_colour : ℕ → ℕ → Bool → ℕ
label_of_colour offset zero_label s = encode offset zero_label (xor (colour zero_label) s)

-- The tweak of output i. Those of the AND gates, 2 * k and 2 * k + 1, come before it.
abbrev pub output_tweak : ℕ → ℕ → ℕ
output_tweak and_gates i = 2 * and_gates + i

-- Entry s of output i: the hash of the label of its wire that has the colour s.
abbrev pub entry_of : ℕ → GarblingParts → ℕ → Bool → ℕ
entry_of offset g i s =
    hash
    (label_of_colour offset (slice_index g.zero_labels (length g.zero_labels - g.outputs + i)) s)
    (output_tweak (length g.rows) i)

-- Entries 0 and 1 of output i.
abbrev pub entries_of : ℕ → GarblingParts → ℕ → ℕ × ℕ
entries_of offset g i = (entry_of offset g i false, entry_of offset g i true)
