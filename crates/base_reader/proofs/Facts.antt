-- Numbers of blocks that are there.
use Rattle.std.proofs.Common.{◌≡◌, ◌<◌, ℕ, zero, suc, List, [], ◌∷◌, length, map, ap, ◌∙◌, arith, Option, None, Some}
use Rattle.std.specs.List.{slice_get}
use Rattle.std.proofs.lemmas.List.{length-map}
use Rattle.std.proofs.lemmas.List.Quantifiers.{position-Some}
use Rattle.grammar.specs.Trees.{Name, name}
use Rattle.stage_definitions.specs.Scopes.{Text}
use Rattle.stage_definitions.specs.Files.{File}
use Rattle.stage_definitions.specs.BlocksStage.{chosen, is_called}
use Rattle.stage_definitions.specs.Numbering.{IsNamed, NamedFile}
use Rattle.stage_definitions.specs.TypedFiles.{TypedFile}
use Rattle.stage_definitions.specs.TypesStage.{IsTyped}

pub chosen_within : (ns : List Name) (o : Option Text) (n : ℕ) → chosen ns o ≡ Some n → n < length ns
chosen_within [] None n e = absurd (cc)
chosen_within (x ∷ xs) None n e = let z : 0 ≡ n = cc in omega (arith, z)
chosen_within ns (Some word) n e = (position-Some (is_called word) ns n (name [] 0) e).0

-- the file has as many theories as the text
pub theories_many : (f : File) (named : NamedFile) (typed : TypedFile) → IsNamed f named → IsTyped named typed
    → length typed.theories ≡ length f.theories
theories_many f named typed is types =
    ap (λ (t : TypedFile). length t.theories) types.tree ∙ (length-map named.theories _
    ∙ (ap (λ (n : NamedFile). length n.theories) is.tree ∙ length-map f.theories _))

pub read_map : {A B : Type 0} (g : A → B) (xs : List A) (n : ℕ) (x : A) → slice_get xs n ≡ Some x
    → slice_get (map g xs) n ≡ Some (g x)
read_map g [] n x e = absurd (cc)
read_map {A} {B} g (y ∷ xs) zero x e = let f : y ≡ x = cc in ap (λ (z : A). Some (g z)) f
read_map g (y ∷ xs) (suc n) x e = read_map g xs n x e
