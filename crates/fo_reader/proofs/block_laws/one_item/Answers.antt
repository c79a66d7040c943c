use Rattle.block_reader.proofs.BlockFormats.{declaration_law}
use Rattle.block_reader.proofs.StructureFormats.{entry_law}
use Rattle.fo_reader.proofs.TheoryFormats.{block_law, theory_item_law, rule_law}
use Rattle.fo_reader.proofs.block_laws.one_item.Goals as goal

pub returns : goal.returns
returns c = record {
  blocks = block_law.only;
  declarations = declaration_law.law.only;
  theory_items =
      theory_item_law.only;
  rules = rule_law.only;
  entries = entry_law.law.only;
}
