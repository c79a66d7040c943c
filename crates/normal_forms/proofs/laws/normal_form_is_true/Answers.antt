use Rattle.normal_forms.proofs.NormalFacts.{normal-form-true}
use Rattle.normal_forms.proofs.laws.normal_form_is_true.Goals as goal

pub returns : goal.returns
returns c = normal-form-true
