-- Request #103, "Cutting bit vectors by the word": what its loop joins, and what it is handed. A user's promises do not cite it; they
-- stay with `Cuts` of `bvect`.
use Rattle.std.specs.Prelude.{ℕ, ◌+◌, ◌-◌, ◌*◌, ◌/◌, ◌%◌, ◌^◌, ◌≤◌, ◌<◌, List, ◌≡◌, length}
use Rattle.bits.specs.Bits.{words_for}

-- "whole words, joined from two neighbours when the start isn't a multiple of 64": the upper part of a word, from bit s on, and above it
-- the lower s bits of the word after it
unfoldable pub joined : ℕ → ℕ → ℕ → ℕ
joined low high s = high % 2 ^ s * 2 ^ (64 - s) + low / 2 ^ s

-- what makes the last word is handed: from 1 to 64 bits, from place `from` up to `end`, all inside the words
pub record Last (ws : List ℕ) (from end : ℕ) : Type 0 where
  pub some : from < end
  pub few : end ≤ from + 64
  pub there : end ≤ 64 * length ws

-- what makes all words is handed: bits inside the words, the number n of words that hold them, and room for so many
pub record Gathers (ws : List ℕ) (start end n : ℕ) (old : List ℕ) : Type 0 where
  pub some : start < end
  pub there : end ≤ 64 * length ws
  pub size : n ≡ words_for (end - start)
  pub room : n ≤ length old
