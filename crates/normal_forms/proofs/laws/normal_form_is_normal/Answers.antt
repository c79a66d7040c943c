use Rattle.normal_forms.proofs.NormalFacts.{normal-form-normal}
use Rattle.normal_forms.proofs.laws.normal_form_is_normal.Goals as goal

pub returns : goal.returns
returns c = normal-form-normal
