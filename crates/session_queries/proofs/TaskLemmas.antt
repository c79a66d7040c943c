-- A task that is opened.
use Rattle.std.proofs.Common.{Result, Ok, Err, IfOk}

-- what two facts say of what was found
pub if_ok : {A E : Type 0} {P Q R : A → Type 0} (r : Result A E) → ((x : A) → P x → Q x → R x) → IfOk r P
    → IfOk r Q → IfOk r R
if_ok (Ok x) f p q = f x p q
if_ok (Err e) f p q = tt
