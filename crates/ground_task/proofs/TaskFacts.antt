-- What the values and cores of a task's solver say of models.
use Rattle.std.proofs.Common.{◌≡◌, ℕ, ◌<◌, ◌≤◌, Bool, List, [], length, get_or}
use Rattle.std.proofs.Common.{All, sym, ap, ◌∙◌, subst, arith}
use Rattle.std.proofs.Common.{Err}
use Rattle.std.specs.List.{AllByRecursion}
use Rattle.std.proofs.lemmas.List.Elements.{All-nil, All-contains}
use Rattle.kb_logic.specs.declared.structures.Literal.{Literal}
use Rattle.kb_logic.specs.declared.structures.Structure.{Structure}
use Rattle.kb_logic.specs.declared.vocabularies.Vocabulary.{Vocabulary}
use Rattle.kb_logic.specs.Bases.{Base, IsModelUnder}
use Rattle.kb_logic.specs.KnownAtoms.{KnownAtoms, atoms_over}
use Rattle.kb_logic.specs.Models.{HoldsIn}
use Rattle.kb_logic.specs.Domains.{AreDomainsOf}
use Rattle.kb_logic.specs.Structures.{EachWith}
use Rattle.lit_core.specs.declared.literals.Lit.{Lit}
use Rattle.ground_core.specs.Problems.{ProblemState, IsProblem, IsLitOf, AreLitsOf}
use Rattle.ground_core.specs.Meaning.{Satisfies, MakesTrue, RefutesAll}
use Rattle.ground_core.specs.declared.solving.Halt.{Halt}
use Rattle.ground_core.specs.declared.solving.Halt.TheVariants.{Spent, Memory}
use Rattle.ground_core.specs.Solving as solving
use Rattle.ground_core.specs.Solving.{AreUnretired, HasCoreWithin}
use Rattle.term_values.specs.GroundBases.{GroundBase, structure_of}
use Rattle.term_values.specs.KnownBases.{IsGroundBase, AreDataOf}
use Rattle.term_values.proofs.TypedLaws.{domains-ground}
use Rattle.def_ground.specs.Groundings.{IsGroundingOf}
use Rattle.def_ground.proofs.StartLaws.{atoms-length}
use Rattle.atom_numbers.specs.Numbers.{HasNumber, bare_base}
pub use Rattle.atom_numbers.proofs.LiteralFacts.{holds-true, true-holds, of-atoms, all-chosen, all-true, one-list}
use Rattle.ground_task.specs.Tasks.{atom_base, IsTaskOf, IsRefusal}

module _ (base : Base) (b : GroundBase) (p : ProblemState) (h : IsTaskOf base b p) where
  pub fine : IsGroundBase b
  fine = subst IsGroundBase (sym h.numbers) h.fine

  pub atoms-number : length p.atoms ≡ length (atoms_over b.vocabulary.symbols b.domains)
  atoms-number = h.represents.atoms ∙ ap (λ (x : GroundBase). length (atoms_over x.vocabulary.symbols x.domains))
      (sym h.numbers)

  module _ (choices : List Literal) (lits : List Lit) (each : EachWith (HasNumber b) choices lits) where
    atom-lits : AreLitsOf (length p.atoms) lits
    atom-lits = of-atoms b (length p.atoms) atoms-number choices lits each

    pub problem-lits : IsProblem p → AreLitsOf p.vars lits
    problem-lits problem = λ k d lt. (
      (atom-lits k d lt).0,
      let x : (get_or lits k d).var.0 ≤ length p.atoms =
          (atom-lits k d lt).1 in let y : length p.atoms ≤ p.vars = problem.atoms in omega (arith, x, y),
    )

    pub not-retired : AreUnretired p lits
    not-retired = λ l gone has.
        let x : length p.atoms < l.var.0 =
        All-contains (λ (k : Lit). length p.atoms < k.var.0) p.retired l h.unretired gone in
        let y : l.var.0 ≤ length p.atoms = (All-contains (IsLitOf (length p.atoms)) lits l atom-lits has).1 in
        omega (arith, x, y)

    pub is-model : (v : ℕ → Bool) → Satisfies p v → MakesTrue v lits → IsModelUnder base choices (structure_of b v)
    is-model v s t =
        let m : IsModelUnder base [] (structure_of b v) =
        subst (λ (x : GroundBase). IsModelUnder base [] (structure_of x v)) (sym h.numbers)
        (h.represents.gives v s) in
        record {
          structure = m.structure;
          extends = m.extends;
          theory = m.theory;
          chosen = all-chosen b fine v choices lits each t;
        }

  -- each model under the choices is the structure of a valuation that makes their literals true
  pub valued : (choices : List Literal) (lits : List Lit) → EachWith (HasNumber b) choices lits → (m : Structure)
      → IsModelUnder base choices m
      → (v : ℕ → Bool) × Satisfies p v × MakesTrue v lits × (structure_of b v ≡ m)
  valued choices lits each m under =
      let e = h.represents.extends m
      (record { structure = under.structure; extends = under.extends; theory = under.theory; chosen = tt }) in
      let same : structure_of b e.0 ≡ m = ap (λ (x : GroundBase). structure_of x e.0) h.numbers ∙ e.2 in (
        e.0,
        e.1,
        all-true b fine e.0 choices lits each
            (subst (λ (x : Structure). AllByRecursion (HoldsIn x) choices) (sym same) under.chosen),
        same,
      )

  -- what is shown of one list of the choices' literals is shown of the other, which is the same
  pub shown-of : (choices : List Literal) (ls ms : List Lit) → EachWith (HasNumber b) choices ls
      → EachWith (HasNumber b) choices ms → (cores : List (List Lit)) → HasCoreWithin cores ls → HasCoreWithin cores ms
  shown-of choices ls ms x y cores shown = subst (HasCoreWithin cores) (one-list b fine choices ls ms x y) shown

  pub has-none : (core : List Lit) (some : List Literal) → EachWith (HasNumber b) some core → RefutesAll p core
      → (m : Structure) → IsModelUnder base some m → ⊥
  has-none core some each refuted m under = let e = valued some core each m under in refuted e.0 e.1 e.2

-- what halts at once halts for memory
pub halted : (halt : Halt) → solving.IsRefusal (Err halt) → IsRefusal (Err halt)
halted Spent h = h
halted Memory h = h

abbrev AreDomains : Vocabulary → KnownAtoms → Type 0
AreDomains v k = AreDomainsOf v k.domains

-- the task over a solver of a ground problem
pub opened : (v : Vocabulary) (k : KnownAtoms) (p : ProblemState) (b : GroundBase) → AreDataOf v k
    → b ≡ bare_base v k.domains → p.retired ≡ [] → (base : Base) → base.vocabulary ≡ v → base.known ≡ k
    → IsGroundingOf base p → IsTaskOf base b p
opened v k p b data_of is none base voc known g = record {
  numbers = is ∙ ap (λ (x : Vocabulary). bare_base x k.domains) (sym voc)
      ∙ ap (λ (x : KnownAtoms). bare_base base.vocabulary x.domains) (sym known);
  fine = domains-ground (atom_base base)
      (subst (λ (x : KnownAtoms). AreDomains base.vocabulary x) (sym known)
      (subst (λ (x : Vocabulary). AreDomains x k) (sym voc) data_of.domains));
  represents = record {
    atoms = ap length g.atoms ∙ atoms-length base.vocabulary.symbols base.known.domains;
    gives = g.gives;
    extends = g.extends;
    number = g.number;
    terms = g.terms;
  };
  unretired = subst (λ (ls : List Lit). All (λ (l : Lit). length p.atoms < l.var.0) ls) (sym none)
      (All-nil (λ (l : Lit). length p.atoms < l.var.0));
}
