-- One call after another, on the bytes, names and numbers that are observable.
use Rattle.std.specs.Prelude.{◌≡◌, ℕ, ◌+◌, List, [], ◌++◌, Option, Some, None}
use Rattle.std.proofs.Common.{refl, sym, ◌∙◌, ap, append_assoc, arith}
use Rattle.std.proofs.lemmas.List.{append-nil}
use Rattle.std.specs.Io.KnownBytes.{Appends, Consumes, Keeps}
use Rattle.kb_io.specs.Outside.{KeptNames, GrewByName, RaisedByOne, LoweredByOne, KeptNumber}

-- nothing was taken
pub consumes_none : (a : Option (List ℕ)) → Consumes a a []
consumes_none None = tt
consumes_none (Some xs) = refl

-- one taking after another
pub consumes_more : (a b c : Option (List ℕ)) (xs ys : List ℕ) → Consumes a b xs → Consumes b c ys
    → Consumes a c (xs ++ ys)
consumes_more None b c xs ys p q = tt
consumes_more (Some ps) None c xs ys p q = absurd p
consumes_more (Some ps) (Some bs) None xs ys p q = absurd q
consumes_more (Some ps) (Some bs) (Some cs) xs ys p q = p ∙ ap (λ (l : List ℕ). xs ++ l) q ∙ sym (append_assoc xs ys cs)

-- a taking, and then a call that keeps
pub consumes_kept : (a b c : Option (List ℕ)) (xs : List ℕ) → Consumes a b xs → Keeps b c → Consumes a c xs
consumes_kept None b c xs p q = tt
consumes_kept (Some ps) None c xs p q = absurd p
consumes_kept (Some ps) (Some bs) None xs p q = absurd q
consumes_kept (Some ps) (Some bs) (Some cs) xs p q = p ∙ ap (λ (l : List ℕ). xs ++ l) (sym q)

-- nothing was appended
pub appends_none : (a : Option (List ℕ)) → Appends a a []
appends_none None = tt
appends_none (Some xs) = sym (append-nil xs)

-- one appending after another
pub appends_more : (a b c : Option (List ℕ)) (xs ys : List ℕ) → Appends a b xs → Appends b c ys → Appends a c (xs ++ ys)
appends_more None b c xs ys p q = tt
appends_more (Some ps) None c xs ys p q = absurd p
appends_more (Some ps) (Some bs) None xs ys p q = absurd q
appends_more (Some ps) (Some bs) (Some cs) xs ys p q = q ∙ ap (λ (l : List ℕ). l ++ ys) p ∙ append_assoc ps xs ys

-- an appending, and then a call that keeps
pub appends_kept : (a b c : Option (List ℕ)) (xs : List ℕ) → Appends a b xs → Keeps b c → Appends a c xs
appends_kept None b c xs p q = tt
appends_kept (Some ps) None c xs p q = absurd p
appends_kept (Some ps) (Some bs) None xs p q = absurd q
appends_kept (Some ps) (Some bs) (Some cs) xs p q = q ∙ p

pub keeps_none : (a : Option (List ℕ)) → Keeps a a
keeps_none None = tt
keeps_none (Some xs) = refl

-- one call that keeps after another
pub keeps_more : (a b c : Option (List ℕ)) → Keeps a b → Keeps b c → Keeps a c
keeps_more None b c p q = tt
keeps_more (Some ps) None c p q = absurd p
keeps_more (Some ps) (Some bs) None p q = absurd q
keeps_more (Some ps) (Some bs) (Some cs) p q = q ∙ p

-- the names grew, and then stayed
pub names_kept : (a b c : Option (List (List ℕ))) (name : List ℕ) → GrewByName a b name → KeptNames b c
    → GrewByName a c name
names_kept a b None name p q = tt
names_kept None None (Some cs) name p q = absurd q
names_kept None (Some bs) (Some cs) name p q = absurd p
names_kept (Some ps) None (Some cs) name p q = absurd q
names_kept (Some ps) (Some bs) (Some cs) name p q = q ∙ p

-- one source was opened, and one closed
pub opened_closed : (a b c : Option ℕ) → RaisedByOne a b → LoweredByOne b c → KeptNumber a c
opened_closed a b None p q = tt
opened_closed None None (Some n) p q = absurd q
opened_closed None (Some m) (Some n) p q = absurd p
opened_closed (Some k) None (Some n) p q = absurd q
opened_closed (Some k) (Some m) (Some n) p q = let same : n + 1 ≡ k + 1 = sym q ∙ p in omega (arith, same)
