use Rattle.std.proofs.Common.{ℕ, pos, true, false, List, [], ◌∷◌, refl}
use Rattle.std.specs.Fmt.{digits}
use Rattle.std.proofs.lemmas.List.Elements.{All-from_recursion}
use Rattle.kb_logic.specs.declared.elements.ExtInt.TheVariants.{Num}
use Rattle.lit_core.specs.declared.literals.Lit.{Lit}
use Rattle.derivation_log.specs.declared.entries.Entry.{Entry}
use Rattle.derivation_log.specs.declared.entries.Entry.TheVariants.{Learnt, Sum, Bound}
use Rattle.search_log.specs.Entries.{IsOfSearch}
use Rattle.tightened_entries.proofs.tests.search.Goals as goal

abbrev plain : ℕ → Lit
plain n = record { var = record { 0 = n }; positive = true }

abbrev minus : ℕ → Lit
minus n = record { var = record { 0 = n }; positive = false }

-- the entries of the search
abbrev entries : List Entry
entries = Bound (record { 0 = 5 }) 1 (Num (pos 10))
    ∷ Learnt (minus 5 ∷ plain 1 ∷ []) (2 ∷ 3 ∷ [])
    ∷ Bound (record { 0 = 6 }) 1 (Num (pos 7))
    ∷ Sum 4 (plain 2 ∷ minus 5 ∷ [])
    ∷ Sum 5 (minus 6 ∷ plain 3 ∷ [])
    ∷ Sum 3 (plain 1 ∷ [])
    ∷ Learnt (plain 1 ∷ minus 5 ∷ plain 4 ∷ minus 6 ∷ []) (8 ∷ [])
    ∷ []

pub returns : goal.returns
unfolding digits
returns c = (entries, All-from_recursion IsOfSearch entries (tt, (tt, (tt, (tt, (tt, (tt, (tt, tt))))))), refl)
