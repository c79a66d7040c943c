-- Rows of words alone, and types that any word may be of.
use Rattle.std.specs.Prelude.{ℕ, Bool, true, false, not, ◌&&◌, List, Option, None, Some, slice_get}
use Rattle.std.specs.List.{list_all}
use Rattle.kb_logic.specs.declared.elements.Elem.{Elem}
use Rattle.kb_logic.specs.declared.elements.Elem.TheVariants.{Named, Num}
use Rattle.kb_logic.specs.declared.vocabularies.TypeDecl.{TypeDecl}
use Rattle.grammar.specs.BlockTrees as raw
use Rattle.stage_definitions.specs.Kinship.{is_number_type}
use Rattle.stage_definitions.specs.DataEntries.{Said, Subject, nothing_named, an_element, a_type, a_symbol, WrittenRow}
use Rattle.stage_definitions.specs.DataEntries.{element_of}
use Rattle.stage_definitions.specs.DataDomains.{has_what_occurs, is_natural_type}
use Rattle.stage_definitions.specs.DataStage.{type_is}

abbrev pub is_word : Elem → Bool
is_word (Named n) = true
is_word (Num z) = false

-- the item is a word, and no range
abbrev pub is_plain_word : raw.RowItem → Bool
is_plain_word (raw.item e None) = is_word (element_of e)
is_plain_word (raw.item e (Some to)) = false

-- the value is a word, if there is one
abbrev pub is_word_if : Option raw.Element → Bool
is_word_if None = true
is_word_if (Some e) = is_word (element_of e)

abbrev pub has_words_alone : WrittenRow → Bool
has_words_alone r = is_word_if r.value && list_all is_plain_word r.items

-- the type has the elements that occur, and not integers alone
abbrev pub is_open : List TypeDecl → List Said → ℕ → Bool
is_open types es t = type_is (has_what_occurs es t) (slice_get types t)
    && (not (is_number_type types t) && not (is_natural_type types t))

abbrev pub is_open_if : List TypeDecl → List Said → Option ℕ → Bool
is_open_if types es None = true
is_open_if types es (Some t) = is_open types es t

-- the types of the positions of an entry are such, and it is no type's own
abbrev pub are_open : List TypeDecl → List Said → Subject → Bool
are_open types es nothing_named = true
are_open types es an_element = true
are_open types es (a_type t d) = false
are_open types es (a_symbol s d) = list_all (is_open types es) d.args && is_open_if types es d.value
