use Rattle.std.proofs.Common.{List, ap, sym, ◌∙◌}
use Rattle.esb_ask.specs.declared.question.Question.{Question}
use Rattle.esb_ask.specs.declared.answer.Answer.{Answer}
use Rattle.esb_scan.specs.Run.{run}
use Rattle.esb_top.proofs.Working.{asked-step}
use Rattle.esb_top.proofs.work.product_of.Goals as goal

pub returns-then-branch-clause-over : goal.returns-then-branch-clause-over
returns-then-branch-clause-over g c = λ none. (asked-step g.H.Host.tells (g.H.Host.world c.args.host.now) (g.H.Host.faults c.args.host.now) (g.H.Host.faults c.answer.new.host) c.args.history.now c.answer.new.history c.args.build c.in-Asks.question c.args.task.now c.args.options.now
    c.in_ok-answer-in-Asks.field-0 c.is_legal.ensures c.requires.going (ap (λ (t : List (Question × Answer)). run c.args.options.now t c.args.task.now) (sym c.table.ensures) ∙ sym c.in-Asks.ensures) c.in_ok-answer-in-Asks.ensures.ok c.in_ok-answer-in-Asks.ensures.never_falls).over c.if-branch.true

pub returns-then-branch-clause-worked : goal.returns-then-branch-clause-worked
returns-then-branch-clause-worked g c = (asked-step g.H.Host.tells (g.H.Host.world c.args.host.now) (g.H.Host.faults c.args.host.now) (g.H.Host.faults c.answer.new.host) c.args.history.now c.answer.new.history c.args.build c.in-Asks.question c.args.task.now c.args.options.now
    c.in_ok-answer-in-Asks.field-0 c.is_legal.ensures c.requires.going (ap (λ (t : List (Question × Answer)). run c.args.options.now t c.args.task.now) (sym c.table.ensures) ∙ sym c.in-Asks.ensures) c.in_ok-answer-in-Asks.ensures.ok c.in_ok-answer-in-Asks.ensures.never_falls).worked

pub table-requires-in-Asks : goal.table-requires-in-Asks
table-requires-in-Asks g c = ((asked-step g.H.Host.tells (g.H.Host.world c.args.host.now) (g.H.Host.faults c.args.host.now) (g.H.Host.faults c.answer.new.host) c.args.history.now c.answer.new.history c.args.build c.in-Asks.question c.args.task.now c.args.options.now
    c.in_ok-answer-in-Asks.field-0 c.is_legal.ensures c.requires.going (ap (λ (t : List (Question × Answer)). run c.args.options.now t c.args.task.now) (sym c.table.ensures) ∙ sym c.in-Asks.ensures) c.in_ok-answer-in-Asks.ensures.ok c.in_ok-answer-in-Asks.ensures.never_falls).going c.if-branch.false).at.begun

pub returns-in-Done-run_task-clause-going : goal.returns-in-Done-run_task-clause-going
returns-in-Done-run_task-clause-going g c = (asked-step g.H.Host.tells (g.H.Host.world c.args.host.now) (g.H.Host.faults c.args.host.now) (g.H.Host.faults c.answer.new.host) c.args.history.now c.answer.new.history c.args.build c.in-Asks.question c.args.task.now c.args.options.now
    c.in_ok-answer-in-Asks.field-0 c.is_legal.ensures c.requires.going (ap (λ (t : List (Question × Answer)). run c.args.options.now t c.args.task.now) (sym c.table.ensures) ∙ sym c.in-Asks.ensures) c.in_ok-answer-in-Asks.ensures.ok c.in_ok-answer-in-Asks.ensures.never_falls).going c.if-branch.false

pub returns-in-Done-run_task-clause-worked : goal.returns-in-Done-run_task-clause-worked
returns-in-Done-run_task-clause-worked g c = (asked-step g.H.Host.tells (g.H.Host.world c.args.host.now) (g.H.Host.faults c.args.host.now) (g.H.Host.faults c.answer.new.host) c.args.history.now c.answer.new.history c.args.build c.in-Asks.question c.args.task.now c.args.options.now
    c.in_ok-answer-in-Asks.field-0 c.is_legal.ensures c.requires.going (ap (λ (t : List (Question × Answer)). run c.args.options.now t c.args.task.now) (sym c.table.ensures) ∙ sym c.in-Asks.ensures) c.in_ok-answer-in-Asks.ensures.ok c.in_ok-answer-in-Asks.ensures.never_falls).worked

pub returns : goal.returns
returns g c =
    let s = asked-step g.H.Host.tells (g.H.Host.world c.args.host.now) (g.H.Host.faults c.args.host.now) (g.H.Host.faults c.answer.new.host) c.args.history.now c.answer.new.history c.args.build c.in-Asks.question c.args.task.now c.args.options.now
    c.in_ok-answer-in-Asks.field-0 c.is_legal.ensures c.requires.going (ap (λ (t : List (Question × Answer)). run c.args.options.now t c.args.task.now) (sym c.table.ensures) ∙ sym c.in-Asks.ensures) c.in_ok-answer-in-Asks.ensures.ok c.in_ok-answer-in-Asks.ensures.never_falls in
    record {
      over = tt;
      going = tt;
      product = tt;
      err = s.going c.if-branch.false;
      worked = s.worked;
      room = s.room;
      world = c.in_ok-answer-in-Asks.ensures.world;
      puts = c.in_ok-answer-in-Asks.ensures.puts;
      never_falls = c.in_ok-answer-in-Asks.ensures.never_falls;
    }
