-- The traits of the type with a number, where there is one.
use Rattle.std.specs.Prelude.{◌≡◌, ℕ, List, slice_get}
use Rattle.kb_logic.specs.declared.vocabularies.TypeDecl.{TypeDecl}
use Rattle.stage_definitions.specs.Kinship.{is_number_type}
use Rattle.stage_definitions.specs.DataEntries.{Said}
use Rattle.stage_definitions.specs.DataDomains.{has_what_occurs, is_constructed, is_natural_type, parent_of_type}
use Rattle.stage_definitions.specs.DataStage.{type_is}
use Rattle.data_domains.specs.declared.traits.Traits.{Traits}

pub record AreTraitsAt (types : List TypeDecl) (es : List Said) (t : ℕ) (x : Traits) : Type 0 where
  pub constructed : x.constructed ≡ type_is is_constructed (slice_get types t)
  pub occurs : x.occurs ≡ type_is (has_what_occurs es t) (slice_get types t)
  pub number : x.number ≡ is_number_type types t
  pub natural : x.natural ≡ is_natural_type types t
  pub above : x.above ≡ parent_of_type types t
