-- The text of a value of arithmetic.
use Rattle.std.specs.Prelude.{ℕ, List, codes}
use Rattle.std.specs.Fmt.{signed_decimal}
use Rattle.kb_logic.specs.declared.elements.ExtInt.{ExtInt}
use Rattle.kb_logic.specs.declared.elements.ExtInt.TheVariants.{NegInf, Num, PosInf}

-- an integer in decimal digits, with a minus where it is below 0; an infinite value with its sign
abbrev pub decimal_text : ExtInt → List ℕ
decimal_text NegInf = codes "-inf"
decimal_text (Num z) = signed_decimal z
decimal_text PosInf = codes "+inf"
