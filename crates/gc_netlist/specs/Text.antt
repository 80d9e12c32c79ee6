-- Texts as tokens, and tokens as numbers (the Bristol Fashion page, and this project's profile of it).
use Rattle.std.specs.Prelude.{ℕ, ◌+◌, ◌-◌, ◌*◌, ◌^◌, ◌||◌, ◌&&◌, ◌==◌, Bool, true, false, List, [], ◌∷◌, fold, filter, nat_lt, nat_le, Option, Some, None, if◌then◌else◌}
use Rattle.std.specs.List.{slice_split, list_all}

-- a tab, a line feed, a carriage return or a space
abbrev pub is_blank : ℕ → Bool
is_blank b = b == 9 || b == 10 || b == 13 || b == 32

abbrev pub is_some_run : List ℕ → Bool
is_some_run [] = false
is_some_run (b ∷ bs) = true

-- The tokens of a text are its longest runs of other bytes.
unfoldable pub tokens : List ℕ → List (List ℕ)
tokens text = filter is_some_run (slice_split is_blank text)

abbrev pub is_digit : ℕ → Bool
is_digit b = nat_le 48 b && nat_le b 57

-- the value of decimal digits, leading zeros among them
unfoldable pub value_of : List ℕ → ℕ
value_of token = fold (λ n b. n * 10 + (b - 48)) 0 token

-- The number that a token spells: its value, where it is all digits and not above 4,294,967,295.
abbrev pub number_of : List ℕ → Option ℕ
number_of token =
    if list_all is_digit token && nat_lt (value_of token) (2 ^ 32) then Some (value_of token)
    else None
