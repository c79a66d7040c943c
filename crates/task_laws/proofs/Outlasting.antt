-- A task after additions.
use Rattle.std.proofs.Common.{◌≡◌, ℕ, ◌<◌, Bool, List, [], length, get_or, Contains, sym, ap, ◌∙◌, arith}
use Rattle.std.proofs.Common.{⊎_elim, slice_get}
use Rattle.std.proofs.lemmas.List.Elements.{All-contains, Contains-get_or}
use Rattle.kb_logic.specs.declared.structures.Structure.{Structure}
use Rattle.kb_logic.specs.Bases.{Base, IsModelUnder}
use Rattle.lit_core.specs.declared.literals.Lit.{Lit}
use Rattle.ground_core.specs.declared.parts.GroundTerm.{GroundTerm}
use Rattle.ground_core.specs.Problems.{ProblemState, IsProblem}
use Rattle.ground_core.specs.Meaning.{Satisfies}
use Rattle.ground_core.specs.Growing.{value_of_term}
use Rattle.ground_core.specs.Calls.{GrowsByAdditions}
use Rattle.term_values.specs.GroundBases.{GroundBase, structure_of}
use Rattle.term_values.specs.Laws.{OnlyAtomsMatter}
use Rattle.ground_task.specs.Tasks.{atom_base, IsTaskOf}

module _ (matter : OnlyAtomsMatter) (base : Base) (b : GroundBase) (p q : ProblemState) (is : IsProblem p)
    (task : IsTaskOf base b p) (grows : GrowsByAdditions p q) where
  same-atoms : length q.atoms ≡ length p.atoms
  same-atoms = ap length grows.conserves.atoms

  -- the atoms' variables are all among those that the additions leave as they are
  extends : (m : Structure) → IsModelUnder base [] m
      → (v : ℕ → Bool) × Satisfies q v × (structure_of (atom_base base) v ≡ m)
  extends m model =
      let old = task.represents.extends m model in
      let new = grows.conserves.extends old.0 old.1 in
      let few = task.represents.atoms in
      let within = is.atoms in
      let same : structure_of (atom_base base) old.0 ≡ structure_of (atom_base base) new.0 =
      matter (atom_base base) old.0 new.0 task.fine (λ n from to. new.1 n from (omega (arith, to, few, within))) in
      (new.0, new.3, sym same ∙ old.2)

  -- what was retired before is no atom's, and no more is what was retired since
  kept : (l : Lit) → Contains q.retired l → length q.atoms < l.var.0
  kept l has =
      let within = is.atoms in
      let same = same-atoms in
      ⊎_elim
      (λ before.
      let old : length p.atoms < l.var.0 =
      All-contains (λ (k : Lit). length p.atoms < k.var.0) p.retired l task.unretired before in
      omega (arith, old, same))
      (λ since. omega (arith, since, within, same))
      (grows.retired l has)

  pub outlasts : IsTaskOf base b q
  outlasts = record {
    numbers = task.numbers;
    fine = task.fine;
    represents = record {
      atoms = same-atoms ∙ task.represents.atoms;
      gives = λ v s. task.represents.gives v (grows.conserves.restricts v s);
      extends = extends;
      number = ap length grows.conserves.terms ∙ task.represents.number;
      terms = λ n t is v s.
          ap (λ (ts : List GroundTerm). value_of_term (slice_get ts n) v) grows.conserves.terms
          ∙ task.represents.terms n t is v (grows.conserves.restricts v s);
    };
    unretired = λ k d lt. kept (get_or q.retired k d) (Contains-get_or q.retired k d lt);
  }
