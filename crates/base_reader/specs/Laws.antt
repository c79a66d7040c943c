-- A file means one knowledge base, or is refused in one way, and never both.
use Rattle.std.specs.Prelude.{◌≡◌, ℕ, List}
use Rattle.kb_text.specs.declared.fault.KbFault.{KbFault}
use Rattle.base_reader.specs.FileMeanings.{Choice, Meaning, FileMeans, IsRefused}

abbrev pub HasOneMeaning : Type 0
HasOneMeaning = (c : Choice) (bytes : List ℕ) (m n : Meaning) → FileMeans c bytes m → FileMeans c bytes n → m ≡ n

abbrev pub HasOneRefusal : Type 0
HasOneRefusal = (c : Choice) (bytes : List ℕ) (q r : KbFault) → IsRefused c bytes q → IsRefused c bytes r → q ≡ r

abbrev pub MeansOrIsRefused : Type 0
MeansOrIsRefused = (c : Choice) (bytes : List ℕ) (m : Meaning) (q : KbFault) → FileMeans c bytes m
    → IsRefused c bytes q → ⊥
