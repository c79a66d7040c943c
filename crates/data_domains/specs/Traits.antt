-- What is known of a type beside a structure.
use Rattle.std.specs.Prelude.{◌≡◌, ℕ, List}
use Rattle.kb_logic.specs.declared.vocabularies.TypeDecl.{TypeDecl}
use Rattle.stage_definitions.specs.Kinship.{is_number_type}
use Rattle.stage_definitions.specs.DataEntries.{Said}
use Rattle.stage_definitions.specs.DataDomains.{has_what_occurs, is_constructed, is_listed, is_natural_type}
use Rattle.stage_definitions.specs.DataDomains.{parent_of_type}
use Rattle.data_domains.specs.declared.traits.Traits.{Traits}

-- these are the traits of the type with this number, which is declared so
pub record AreTraitsOf (types : List TypeDecl) (es : List Said) (t : ℕ) (d : TypeDecl) (x : Traits) : Type 0 where
  pub constructed : x.constructed ≡ is_constructed d
  pub listed : x.listed ≡ is_listed es t
  pub occurs : x.occurs ≡ has_what_occurs es t d
  pub number : x.number ≡ is_number_type types t
  pub natural : x.natural ≡ is_natural_type types t
  pub above : x.above ≡ parent_of_type types t
