use Rattle.reading_laws.proofs.Products.{product_counts_tuples}
use Rattle.reading_laws.proofs.size_laws.product_counts_tuples.Goals as goal

pub returns : goal.returns
returns c = product_counts_tuples
