-- The key of a row: the places of its elements, each times a step that its argument has.
use Rattle.std.specs.Prelude.{◌≡◌, ℕ, suc, ◌+◌, ◌*◌, ◌/◌, ◌%◌}
use Rattle.std.specs.Prelude.{List, [], ◌∷◌, length, unwrap_or}
use Rattle.std.specs.Prelude.{if◌then◌else◌, ◌==◌, ⊤}
use Rattle.kb_logic.specs.declared.elements.Elem.{Elem}
use Rattle.kb_logic.specs.declared.vocabularies.Bound.{Bound}
use Rattle.kb_logic.specs.Trees.{TermTree, variable, integer, constructed, application, summation, product, aggregate}
use Rattle.kb_logic.specs.Trees.{TermTrees, no_terms, more_terms}
use Rattle.kb_logic.specs.Structures.{domain_at, tuples_of}
use Rattle.term_values.specs.DomainIndexes.{elem_index}
use Rattle.row_ranges.specs.Arguments.{argument_value}

-- the key of the row with this index
abbrev pub key_of : List (List Elem) → List ℕ → List ℕ → ℕ → ℕ
key_of domains [] steps i = 0
key_of domains (ty ∷ types) [] i = 0
key_of domains (ty ∷ types) (s ∷ steps) i =
    let n = length (tuples_of domains types) in (i / n) * s + key_of domains types steps (i % n)

-- the place of an argument's element in the domain of its type; 0 where there is none, as for a variable without one
abbrev pub argument_place : List (List Elem) → ℕ → TermTree → List Elem → ℕ
argument_place domains ty t e = unwrap_or (elem_index (domain_at domains ty) (argument_value domains t e)) 0

-- what the arguments that have elements under the assignment come to
abbrev pub key_under : List (List Elem) → List ℕ → List ℕ → TermTrees → List Elem → ℕ
key_under domains [] steps ts e = 0
key_under domains (ty ∷ types) [] ts e = 0
key_under domains (ty ∷ types) (s ∷ steps) no_terms e = 0
key_under domains (ty ∷ types) (s ∷ steps) (more_terms t ts) e =
    argument_place domains ty t e * s + key_under domains types steps ts e

-- the step of an argument for a variable: none where it is another term
abbrev pub own_step : ℕ → TermTree → ℕ → ℕ
own_step s (variable m) n = if m == n then s else 0
own_step s (integer z) n = 0
own_step s (constructed ty m) n = 0
own_step s (application f ts) n = 0
own_step s (summation ss) n = 0
own_step s (product ts) n = 0
own_step s (aggregate k bs f t) n = 0

-- the step of a variable: those of all arguments that it is
abbrev pub step_of : List ℕ → List ℕ → TermTrees → ℕ → ℕ
step_of [] own ts n = 0
step_of (ty ∷ types) [] ts n = 0
step_of (ty ∷ types) (s ∷ own) no_terms n = 0
step_of (ty ∷ types) (s ∷ own) (more_terms t ts) n = own_step s t n + step_of types own ts n

-- where the argument is the variable, its type is this one
abbrev pub HasType : ℕ → ℕ → TermTree → ℕ → Type 0
HasType own ty t n = t ≡ variable n → own ≡ ty

-- so for all arguments
abbrev pub HaveType : List ℕ → ℕ → TermTrees → ℕ → Type 0
HaveType [] ty ts n = ⊤
HaveType (own ∷ types) ty no_terms n = ⊤
HaveType (own ∷ types) ty (more_terms t ts) n = HasType own ty t n × HaveType types ty ts n

-- the variables from number n on have these steps, and the types of the arguments that they are
abbrev pub HaveSteps : List ℕ → List ℕ → TermTrees → ℕ → List Bound → List ℕ → Type 0
HaveSteps types own ts n [] steps = ⊤
HaveSteps types own ts n (b ∷ bs) [] = ⊥
HaveSteps types own ts n (b ∷ bs) (s ∷ steps) =
    (s ≡ step_of types own ts n) × HaveType types b.ty ts n × HaveSteps types own ts (suc n) bs steps
