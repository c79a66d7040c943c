-- A log that a search writes.
use Rattle.std.specs.Prelude.{◌≡◌, ℕ, ◌+◌, ◌<◌, Bool, true, false, List, [], ◌∷◌, ◌++◌, length, map}
use Rattle.std.specs.Prelude.{◌==◌, if◌then◌else◌, slice_index_or}
use Rattle.lit_core.specs.declared.literals.Lit.{Lit}
use Rattle.lit_core.specs.Literals.{negated}
use Rattle.derivation_log.specs.declared.entries.Entry.{Entry}
use Rattle.derivation_log.specs.declared.entries.Entry.TheVariants.{Learnt}
use Rattle.derivation_log.specs.Lines.{entry_text}

pub record LogState : Type 0 where
  -- whether a log is kept
  pub on : Bool
  -- for each clause of the store its number in the log, or 0
  pub numbers : List ℕ
  -- how many clauses have numbers
  pub borne : ℕ
  -- the number of the empty clause, or 0
  pub empty : ℕ
  -- the number of the clause that says why the last search found no values, or 0
  pub refutation : ℕ
  -- the bytes of the entries since they were last taken away
  pub entries : List ℕ

-- nothing is kept
abbrev pub no_log : LogState
no_log = record { on = false; numbers = []; borne = 0; empty = 0; refutation = 0; entries = [] }

-- the number of the clause with this place in the store, or 0
abbrev pub number_of : LogState → ℕ → ℕ
number_of s id = slice_index_or s.numbers id 0

-- those of several clauses, without zeros
abbrev pub numbers_of : LogState → List ℕ → List ℕ
numbers_of s [] = []
numbers_of s (id ∷ ids) = if number_of s id == 0 then numbers_of s ids else number_of s id ∷ numbers_of s ids

-- the numbers of clauses stay
abbrev pub SameNumbers : LogState → LogState → Type 0
SameNumbers old new = (id : ℕ) → number_of new id ≡ number_of old id

-- all that is seen stays
pub record Stays (old new : LogState) : Type 0 where
  pub on : new.on ≡ old.on
  pub numbers : SameNumbers old new
  pub borne : new.borne ≡ old.borne
  pub empty : new.empty ≡ old.empty
  pub refutation : new.refutation ≡ old.refutation
  pub entries : new.entries ≡ old.entries

-- a log is kept from now on, in which the first clauses of the store have the first numbers
pub record Begins (old : LogState) (count : ℕ) (new : LogState) : Type 0 where
  pub on : new.on ≡ true
  pub first : (id : ℕ) → id < count → number_of new id ≡ id + 1
  pub numbered : length new.numbers ≡ count
  pub borne : new.borne ≡ count
  pub empty : new.empty ≡ 0
  pub refutation : new.refutation ≡ 0
  pub entries : new.entries ≡ old.entries

-- an entry was written, by which the clause with this place in the store got the next number
pub record Bears (old : LogState) (id : ℕ) (e : Entry) (new : LogState) : Type 0 where
  pub on : new.on ≡ old.on
  pub borne : new.borne ≡ old.borne + 1
  pub here : number_of new id ≡ new.borne
  pub others : (k : ℕ) → (k ≡ id → ⊥) → number_of new k ≡ number_of old k
  pub empty : new.empty ≡ old.empty
  pub refutation : new.refutation ≡ old.refutation
  pub entries : new.entries ≡ old.entries ++ entry_text e

-- an entry was written that bears no clause
abbrev pub with_entry : LogState → Entry → LogState
with_entry s e = record {
  on = s.on;
  numbers = s.numbers;
  borne = s.borne;
  empty = s.empty;
  refutation = s.refutation;
  entries = s.entries ++ entry_text e;
}

-- this clause says why there are no values
abbrev pub refuted_by : LogState → ℕ → LogState
refuted_by s number = record {
  on = s.on;
  numbers = s.numbers;
  borne = s.borne;
  empty = s.empty;
  refutation = number;
  entries = s.entries;
}

-- an entry was written for the negation of the core, which is the reason
abbrev pub with_refutation : LogState → List Lit → List ℕ → LogState
with_refutation s core hints = record {
  on = s.on;
  numbers = s.numbers;
  borne = s.borne + 1;
  empty = if length core == 0 then s.borne + 1 else s.empty;
  refutation = s.borne + 1;
  entries = s.entries ++ entry_text (Learnt (map negated core) (numbers_of s hints));
}

-- a core without hints has a literal with its negation and needs no clause; the empty clause is written once
abbrev pub refuted : LogState → List Lit → List ℕ → LogState
refuted s core [] = refuted_by s 0
refuted s [] (h ∷ hs) = if s.empty == 0 then with_refutation s [] (h ∷ hs) else refuted_by s s.empty
refuted s (l ∷ ls) (h ∷ hs) = with_refutation s (l ∷ ls) (h ∷ hs)

-- the empty clause's number is given up
abbrev pub forgotten : LogState → LogState
forgotten s = record {
  on = s.on;
  numbers = s.numbers;
  borne = s.borne;
  empty = 0;
  refutation = s.refutation;
  entries = s.entries;
}

-- the entries so far were taken away
abbrev pub cleared : LogState → LogState
cleared s = record {
  on = s.on;
  numbers = s.numbers;
  borne = s.borne;
  empty = s.empty;
  refutation = s.refutation;
  entries = [];
}
