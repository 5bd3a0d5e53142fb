-- Document 01, "The program": the numbers in a line, "decimal, eight lower-case hex digits". A text is a list of bytes.
use Rattle.std.specs.Prelude.{ℕ, ◌+◌, ◌-◌, ◌*◌, Bool, true, ◌&&◌, ◌||◌, cond, List, [], ◌∷◌, leb, ltb, eqb, length, get_or, Option, Some, None}

-- the digit that a byte is: `0` to `9` and `a` to `f`; 16 where it is none
abbrev pub digit_of : ℕ → ℕ
digit_of c = cond (leb 48 c && leb c 57) (c - 48) (cond (leb 97 c && leb c 102) (c - 87) 16)

-- every byte is a digit of the base
unfoldable pub all_digits : ℕ → List ℕ → Bool
all_digits base [] = true
all_digits base (c ∷ s) = ltb (digit_of c) base && all_digits base s

-- the number that the digits n and then s stand for
unfoldable pub value_from : ℕ → ℕ → List ℕ → ℕ
value_from base n [] = n
value_from base n (c ∷ s) = value_from base (n * base + digit_of c) s

-- the number that a text of digits stands for, if it "fits u32"
abbrev pub numeral_of : ℕ → List ℕ → Option ℕ
numeral_of base s = cond (all_digits base s && leb (value_from base 0 s) 4294967295) (Some (value_from base 0 s)) None

-- "Decimals have no leading zero and fit u32."
abbrev pub decimal_of : List ℕ → Option ℕ
decimal_of s = cond (eqb (length s) 0 || (eqb (get_or s 0 0) 48 && ltb 1 (length s))) None (numeral_of 10 s)

-- "eight lower-case hex digits"
abbrev pub bits_of : List ℕ → Option ℕ
bits_of s = cond (eqb (length s) 8) (numeral_of 16 s) None
