-- What calls of devices do to what is observable of them and to their counts of faults.
use Rattle.std.specs.Prelude.{◌≡◌, ℕ, ◌+◌, ◌-◌, ◌^◌, ◌<◌, ◌≤◌, min, List, [], ◌∷◌, ◌++◌, OnOk, OnErr, Option, Some}
use Rattle.std.specs.Prelude.{None, Result, Ok, Err}

-- the count rose, or stands at its greatest value
abbrev pub Rose : ℕ → ℕ → Type 0
Rose before now = min (before + 1) (2 ^ 64 - 1) ≤ now

-- a count of faults over one call: it never falls, an answer Ok leaves it, and an Err comes only where it rose
pub record HasCause {T E : Type 0} (before now : ℕ) (result : Result T E) : Type 0 where
  pub later : before ≤ now
  pub ok : OnOk result (now ≡ before)
  pub failed : OnErr result (Rose before now)

-- the list that is observable after a call was so before, and grew by this name
abbrev pub GrewByName : Option (List (List ℕ)) → Option (List (List ℕ)) → List ℕ → Type 0
GrewByName before None name = Unit {0}
GrewByName None (Some now) name = ⊥
GrewByName (Some before) (Some now) name = now ≡ before ++ name ∷ []

-- the list that is observable after a call was so before, and is the same
abbrev pub KeptNames : Option (List (List ℕ)) → Option (List (List ℕ)) → Type 0
KeptNames before None = Unit {0}
KeptNames None (Some now) = ⊥
KeptNames (Some before) (Some now) = now ≡ before

-- the number that is observable after a call was so before, and is one more
abbrev pub RaisedByOne : Option ℕ → Option ℕ → Type 0
RaisedByOne before None = Unit {0}
RaisedByOne None (Some now) = ⊥
RaisedByOne (Some before) (Some now) = now ≡ before + 1

-- the number that is observable after a call was so before, and is one less
abbrev pub LoweredByOne : Option ℕ → Option ℕ → Type 0
LoweredByOne before None = Unit {0}
LoweredByOne None (Some now) = ⊥
LoweredByOne (Some before) (Some now) = before ≡ now + 1

-- the number that is observable after a call was so before, and is the same
abbrev pub KeptNumber : Option ℕ → Option ℕ → Type 0
KeptNumber before None = Unit {0}
KeptNumber None (Some now) = ⊥
KeptNumber (Some before) (Some now) = now ≡ before

-- one source more is open after an Ok, and as many as before after an Err
abbrev pub OpensOne : {T E : Type 0} → Result T E → Option ℕ → Option ℕ → Type 0
OpensOne (Ok src) before now = RaisedByOne before now
OpensOne (Err e) before now = KeptNumber before now

-- a source is closed: the shelf's count rises exactly where the source's is above 0
pub record Closes (faults before now : ℕ) : Type 0 where
  pub later : before ≤ now
  pub none : faults ≡ 0 → now ≡ before
  pub some : 0 < faults → Rose before now
