-- What a step of the walk over a formula does.
use Rattle.std.specs.Prelude.{◌≡◌, List, fold, Result, IfOk}
use Rattle.stage_definitions.specs.NamedTrees as tree
use Rattle.stage_definitions.specs.NamedViews.{formula_view, term_view}
use Rattle.stage_definitions.specs.Names.{Names}
use Rattle.stage_definitions.specs.NamesStage.{name_noted}
use Rattle.stage_definitions.specs.Scopes.{Text}
use Rattle.stage_definitions.specs.Uses.{Context, Use}
use Rattle.stage_definitions.specs.declared.named.NamedFormula.{NamedFormula}
use Rattle.stage_definitions.specs.declared.named.NamedTerm.{NamedTerm}
use Rattle.formula_names.specs.Meanings.{names_in}
use Rattle.formula_names.specs.declared.resolver.Resolver.{Resolver}

-- the names that the walk knows
abbrev pub names_known : Resolver → Names
names_known walk = names_in walk.known.table.now

-- what is known where the walk stands
abbrev pub context_of : Resolver → Context
context_of walk = record { scope = walk.scope; defined = walk.known.defined.now }

-- A step from one state of the walk to the next: what it made is right, the same is known, these variables are in
-- scope after it, and the earliest refusal of its uses is noted. One record in place of four clauses, since each clause
-- of a function is a goal at each of its ways out.
pub record IsStep {T : Type 0} (old new : Resolver) (made right : T) (inner : List Text) (uses : List Use)
    : Type 0 where
  pub tree : made ≡ right
  pub known : new.known ≡ old.known
  pub scope : new.scope ≡ inner
  pub noted : new.earliest.first ≡ fold (name_noted (names_known old)) old.earliest.first uses

-- the step over a part of a formula: `named` says what stands for the part, `uses` which words it uses, and the scope
-- is as before
abbrev pub Resolves : {M T P : Type 0} → Resolver → Resolver → (M → T) → P → (Names → List Text → P → T)
    → (Context → P → List Use) → M → Type 0
Resolves old new view part named uses made =
    IsStep old new (view made) (named (names_known old) old.scope part) old.scope (uses (context_of old) part)

-- where there was memory for it
abbrev pub ResolvesFormula : {P E : Type 0} → Resolver → Resolver → P → (Names → List Text → P → tree.NamedFormula)
    → (Context → P → List Use) → Result NamedFormula E → Type 0
ResolvesFormula old new part named uses result = IfOk result (Resolves old new formula_view part named uses)

abbrev pub ResolvesTerm : {P E : Type 0} → Resolver → Resolver → P → (Names → List Text → P → tree.NamedTerm)
    → (Context → P → List Use) → Result NamedTerm E → Type 0
ResolvesTerm old new part named uses result = IfOk result (Resolves old new term_view part named uses)
