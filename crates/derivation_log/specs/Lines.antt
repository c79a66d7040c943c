-- The bytes of an entry's line.
use Rattle.std.specs.Prelude.{ℕ, List, ◌++◌, flat_map, codes, if◌then◌else◌}
use Rattle.std.specs.Fmt.{decimal}
use Rattle.kb_logic.specs.Decimals.{decimal_text}
use Rattle.lit_core.specs.declared.literals.Lit.{Lit}
use Rattle.derivation_log.specs.declared.entries.Entry.{Entry}
use Rattle.derivation_log.specs.declared.entries.Entry.TheVariants.{Mark, Learnt, Sum, Bound, Exclude, Inconsistent}
use Rattle.derivation_log.specs.declared.entries.Entry.TheVariants.{Forced, Least}

abbrev pub literal_text : Lit → List ℕ
literal_text l = if l.positive then decimal l.var.0 else codes "-" ++ decimal l.var.0

abbrev pub literals_text : List Lit → List ℕ
literals_text ls = flat_map (λ l. literal_text l ++ codes " ") ls ++ codes "0"

abbrev pub numbers_text : List ℕ → List ℕ
numbers_text ns = flat_map (λ n. decimal n ++ codes " ") ns ++ codes "0"

abbrev pub body_text : Entry → List ℕ
body_text (Mark n) = codes "q " ++ decimal n
body_text (Learnt lits hints) = codes "l " ++ (literals_text lits ++ (codes " " ++ numbers_text hints))
body_text (Sum n lits) = codes "c " ++ (decimal n ++ (codes " " ++ literals_text lits))
body_text (Bound s t k) = codes "b " ++ (decimal s.0 ++ (codes " " ++ (decimal t ++ (codes " " ++ decimal_text k))))
body_text (Exclude s lits) = codes "n " ++ (decimal s.0 ++ (codes " " ++ literals_text lits))
body_text (Inconsistent lits c) = codes "i " ++ (literals_text lits ++ (codes " " ++ decimal c))
body_text (Forced l lits c) =
    codes "f " ++ (literal_text l ++ (codes " " ++ (literals_text lits ++ (codes " " ++ decimal c))))
body_text (Least t k lits c) =
    codes "m "
    ++ (decimal t ++ (codes " " ++ (decimal_text k ++ (codes " " ++ (literals_text lits ++ (codes " " ++ decimal c))))))

abbrev pub entry_text : Entry → List ℕ
entry_text e = body_text e ++ codes "\n"
