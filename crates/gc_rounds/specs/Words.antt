-- The word of a bank: bits 0 to 15 are the number of seats counted in, bit 16 is the mark of a sealed bank, and bits 32
-- to 63 are the round.
use Rattle.std.specs.Prelude.{ℕ, ◌+◌, ◌*◌, ◌/◌, ◌%◌}
use Rattle.gc_rounds.specs.declared.words.TheConstants.{MARK, ROUND}

-- how many seats are counted in
abbrev pub count_of : ℕ → ℕ
count_of n = n % MARK

-- bits 16 to 31: 1 in a sealed bank, and else 0
abbrev pub mark_of : ℕ → ℕ
mark_of n = n / MARK % MARK

-- the round
abbrev pub round_of : ℕ → ℕ
round_of n = n / ROUND

-- the bank that serves a round
abbrev pub bank_of : ℕ → ℕ
bank_of r = r % 2

-- the word with this number in bits 0 to 31, and round r above
abbrev pub stamp : ℕ → ℕ → ℕ
stamp r n = ROUND * r + n

-- the word of a bank that is open in round r, with nobody inside
abbrev pub open_word : ℕ → ℕ
open_word r = stamp r 0

-- the word of a bank that is sealed in round r, with nobody inside
abbrev pub shut_word : ℕ → ℕ
shut_word r = stamp r MARK
