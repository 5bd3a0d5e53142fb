-- Two bits, two vectors and two words put together by AND, OR or XOR.
use Rattle.std.specs.Prelude.{ℕ, Bool, not, ◌&&◌, ◌||◌, List}
use Rattle.std.specs.Bool.{beq}
use Rattle.std.specs.Int.Bits.{bit_and, bit_or, bit_xor}
use Rattle.bits.specs.Bits.{bit_at}
use Rattle.bit_words.specs.declared.Op.{Op}
use Rattle.bit_words.specs.declared.Op.TheVariants.{And, Or, Xor}

-- two bits put together
abbrev pub both : Op → Bool → Bool → Bool
both And x y = x && y
both Or x y = x || y
both Xor x y = not (beq x y)

-- what two vectors put together have at the place i
abbrev pub meets : Op → List ℕ → List ℕ → ℕ → Bool
meets op a b i = both op (bit_at a i) (bit_at b i)

-- two words put together, as the machine does it
abbrev pub join : Op → ℕ → ℕ → ℕ
join And x y = bit_and x y
join Or x y = bit_or x y
join Xor x y = bit_xor x y
