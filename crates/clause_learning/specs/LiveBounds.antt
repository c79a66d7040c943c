-- Bounds that may be assumed where a tighter one is.
use Rattle.std.specs.Prelude.{◌≡◌, ◌<◌, true, not, eqb, List, length, All, Contains, filter}
use Rattle.lit_core.specs.declared.literals.Lit.{Lit}
use Rattle.lit_core.specs.Literals.{negated}
use Rattle.ground_core.specs.declared.parts.AggCon.{AggCon}
use Rattle.ground_core.specs.declared.parts.Gate.{Gate}
use Rattle.ground_core.specs.declared.parts.GroundTerm.{GroundTerm}
use Rattle.ground_core.specs.declared.parts.Part.{Part}
use Rattle.ground_core.specs.declared.parts.TermBound.{TermBound}
use Rattle.ground_core.specs.Problems.{ProblemState}
use Rattle.ground_core.specs.Growing.{IsApart}
use Rattle.ground_core.specs.Solving.{IsSublist}
use Rattle.term_bounds.specs.Breaking.{IsNoTighter}

-- a bound of the problem whose output stands nowhere but in the bound, and is not retired
pub record IsLive (p : ProblemState) (b : TermBound) : Type 0 where
  pub there : Contains p.bounds b
  pub positive : b.out.positive ≡ true
  pub atoms : length p.atoms < b.out.var.0
  pub gates : All (λ (g : Gate). IsApart b.out g.out × All (IsApart b.out) g.parts) p.gates
  pub clauses : All (All (IsApart b.out)) p.clauses
  pub sums : All (λ (s : AggCon). IsApart b.out s.out × All (λ (u : Part). IsApart b.out u.lit) s.parts) p.sums
  pub terms : All (λ (t : GroundTerm). All (λ (u : Part). IsApart b.out u.lit) t.parts) p.terms
  pub bounds : All (λ (c : TermBound). c.out.var.0 ≡ b.out.var.0 → c ≡ b) p.bounds
  pub retired : All (IsApart b.out) p.retired

-- one of these bounds that follows from one of them which is assumed, and may be assumed, too
pub record IsWider (live : List TermBound) (assumed : List Lit) (b : TermBound) : Type 0 where
  pub among : Contains live b
  pub open_yet : Contains assumed (negated b.out) → ⊥
  pub tight : TermBound
  pub tight_among : Contains live tight
  pub tight_assumed : Contains assumed tight.out
  pub follows : IsNoTighter b tight

-- the literal is the output of such a bound
abbrev pub IsOutputOfWider : List TermBound → List Lit → Lit → Type 0
IsOutputOfWider live assumed l = (b : TermBound) × (b.out ≡ l) × IsWider live assumed b

-- those of the assumptions, in their order, that are in the core or the output of one of these bounds
pub record IsNarrowed (live : List TermBound) (assumed core narrow : List Lit) : Type 0 where
  pub sublist : IsSublist narrow assumed
  pub covers : (l : Lit) → Contains assumed l → Contains core l → Contains narrow l
  pub outputs : (b : TermBound) → Contains live b → Contains assumed b.out → Contains narrow b.out

-- the bounds whose outputs have other variables
abbrev pub without_output : Lit → List TermBound → List TermBound
without_output l bs = filter (λ (b : TermBound). not (eqb b.out.var.0 l.var.0)) bs
