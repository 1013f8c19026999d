use Rattle.esb_literal_laws.proofs.TemplateParts.{template_rule}
use Rattle.esb_literal_laws.proofs.laws.templates.Goals as goal

pub returns : goal.returns
returns c = template_rule
