-- What the text of a word is, wherever its bytes stand.
use Rattle.std.specs.Prelude.{ℕ, ◌≤◌, List, take}
use Rattle.grammar.specs.declared.text.Bytes.{Bytes}
use Rattle.grammar.specs.declared.text.Bytes.TheVariants.{Short, Long}

abbrev pub bytes_in : Bytes → List ℕ
bytes_in (Short n bytes) = take n bytes
bytes_in (Long bytes) = bytes

-- so many are there
abbrev pub FitsIn : Bytes → Type 0
FitsIn (Short n bytes) = n ≤ 14
FitsIn (Long bytes) = Unit {0}
