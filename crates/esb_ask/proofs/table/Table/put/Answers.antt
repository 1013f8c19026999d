use Rattle.std.proofs.Common.{◌≡◌, None, [], ◌∷◌, ◌++◌, sym, ap, ◌∙◌}
use Rattle.indexmap.proofs.CallerLemmas.{insert_entry-new}
use Rattle.esb_ask.specs.Table.{same_question, answer_to, all_fit}
use Rattle.esb_ask.proofs.Tables.{kept-absent, all_fit-push}
use Rattle.esb_ask.proofs.table.Table.put.Goals as goal

pub returns-clause-ok : goal.returns-clause-ok
returns-clause-ok c =
    let none : answer_to c.self.inside.answers.entries c.args.question ≡ None = sym c.in_default.ensures.value in
    let e = insert_entry-new same_question c.self.inside.answers c.args.question c.args.answer none in
    rw (← c.self.view_is) (c.in_ok-insert.ensures.entries ∙ e ∙ sym (kept-absent c.self.inside.answers.entries c.args.question c.args.answer none))

pub invariant_of-self-2 : goal.invariant_of-self-2
invariant_of-self-2 c =
    let none : answer_to c.self.inside.answers.entries c.args.question ≡ None = sym c.in_default.ensures.value in
    let pushed : c.insert.new.self.entries ≡ c.self.inside.answers.entries ++ (c.args.question, c.args.answer) ∷ [] =
    c.in_ok-insert.ensures.entries ∙ insert_entry-new same_question c.self.inside.answers c.args.question c.args.answer none in
    ap all_fit pushed ∙ all_fit-push c.self.inside.answers.entries (c.args.question, c.args.answer) c.self.invariant c.requires
