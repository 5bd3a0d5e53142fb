-- Document 01, "The program": what the first line of some bytes is, and what it means. "Each line ends in a newline and has at most 4,096
-- bytes with it".
use Rattle.std.specs.Prelude.{ℕ, suc, Bool, ◌&&◌, cond, List, ltb, length, take, drop, Option, None}
use Rattle.finding.specs.Finding.{index_of}
use Rattle.merges.specs.declared.Op.{Op}
use Rattle.lines.specs.Lines.{Line, bad_line, line_of, named_of}

-- the bytes start with a line: "ends in a newline and has at most 4,096 bytes with it"
abbrev pub has_line : List ℕ → Bool
has_line s = ltb (index_of 10 s) (length s) && ltb (index_of 10 s) 4096

-- what stands before the first newline, and what stands after it
abbrev pub first_line : List ℕ → List ℕ
first_line s = take (index_of 10 s) s

abbrev pub rest : List ℕ → List ℕ
rest s = drop (suc (index_of 10 s)) s

-- what the first line means that is to be a vector's, and that is to name the operation
abbrev pub first_vector : List ℕ → Line
first_vector s = cond (has_line s) (line_of (first_line s)) bad_line

abbrev pub first_name : List ℕ → Option Op
first_name s = cond (has_line s) (named_of (first_line s)) None
