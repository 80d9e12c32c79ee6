-- What the steps of a command hand on to the next.
use Rattle.gc_command.proofs.Names.{◌≡◌, ℕ, Bool, List, [], ◌∷◌, map, refl, ap₂, SpellValues, value_text_law, length, Option, Some, None, sum, sym, ap, ◌∙◌, length-map-range_with_len, Netlist, IsLawful, output_wires, AreOutputs, GarbledParts, LabelFileParts, DecodeTo, IfSome, Result, Ok, Err, IfErr, IsErrAnd, GivesFile, JobParts}
use Rattle.gc_job.proofs.OutputLemmas.{bound-whole, length-evaluated}

-- What the exit of a `?` returns has what is known of its error.
pub IfErr-exit : {T E : Type 0} (r : Result T E) (e : E) (P : E → Type 0)
    → IsErrAnd r (λ y. y ≡ e) → P e → IfErr r P
IfErr-exit (Ok x) e P is p = tt
IfErr-exit (Err y) e P is p = rw is p

-- What is found of the bytes that were read of a file is so where its bytes are known.
pub found_where_known : (P : List ℕ → Type 0) (known : Option (List ℕ)) (held : List ℕ)
    → GivesFile known held → P held → IfSome known P
found_where_known P None held given found = tt
found_where_known P (Some bytes) held given found = rw (← given) found

-- outputs have the output widths
pub length-outputs : (c : Netlist) (x outputs : List Bool) → AreOutputs c x outputs
    → sum c.output_widths ≡ length outputs
length-outputs c x outputs are =
    sym (ap length are.last ∙ length-map-range_with_len are.bits _ (output_wires c))

-- and so have those that files decode to
pub length-decoded : (c : Netlist) → IsLawful c → (g : GarbledParts) (files : List LabelFileParts)
    (bits : List Bool) → DecodeTo c g files bits → sum c.output_widths ≡ length bits
length-decoded c lawful g files bits is =
    sym (length-evaluated is.job (bound-whole c lawful g files is.job is.bound) bits is.evaluated
    ∙ ap (λ (j : JobParts). output_wires j.circuit) is.bound.parts)

-- Values that texts spell have their widths.
pub SpellValues-widths : (widths : List ℕ) (texts : List (List ℕ)) (values : List (List Bool))
    → SpellValues widths texts values → map length values ≡ widths
SpellValues-widths [] [] [] spelled = refl
SpellValues-widths (w ∷ widths) (t ∷ texts) (v ∷ values) spelled =
    let value = ((value_text_law t w).value v).0 spelled.0 in
    ap₂ (λ n ns. n ∷ ns)
    (ap length value.in_wire_order ∙ length-map-range_with_len _ 0 w)
    (SpellValues-widths widths texts values spelled.1)
SpellValues-widths _ _ _ spelled = absurd spelled
