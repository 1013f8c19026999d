use Rattle.std.proofs.Common.{◌≡◌, true, List, Option, None, Some, IfSome, Bor, sym}
use Rattle.std.specs.Option.{option_copied}
use Rattle.esb_ask.specs.declared.question.Question.{Question}
use Rattle.esb_ask.specs.declared.answer.Answer.{Answer}
use Rattle.esb_ask.specs.Table.{answer_to, fits, all_fit}
use Rattle.esb_ask.proofs.Tables.{fits-from_all}
use Rattle.esb_ask.proofs.table.Table.get.Goals as goal

fitting : (table : List (Question × Answer)) (asked : Question) → all_fit table ≡ true → (r : Option (Bor Answer)) → option_copied r ≡ answer_to table asked → IfSome r (λ first. fits asked first.now ≡ true)
fitting table asked h None e = tt
fitting table asked h (Some first) e = fits-from_all table asked first.now h (sym e)

pub returns-clause-fitting : goal.returns-clause-fitting
returns-clause-fitting c = fitting c.self.inside.answers.entries c.args.question.now c.self.invariant c.get.result c.get.ensures.value
