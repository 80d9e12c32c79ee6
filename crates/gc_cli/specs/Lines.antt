-- The lines of an order.
use Rattle.std.specs.Prelude.{ℕ, List}
use Rattle.gc_cli.specs.declared.order_result.Left.{Left}
use Rattle.gc_cli.specs.declared.order_result.Left.TheVariants.{Made, Labels}

-- their bytes
abbrev pub left_bytes : {A : Type 0} → Left A → List ℕ
left_bytes (Made bytes) = bytes.items
left_bytes (Labels lines) = lines
