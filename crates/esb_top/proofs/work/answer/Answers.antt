use Rattle.esb_top.proofs.Working.{answered-puts}
use Rattle.esb_top.proofs.work.answer.Goals as goal

pub returns-clause-puts : goal.returns-clause-puts
returns-clause-puts g c =
    answered-puts g.H.Host.tells (g.H.Host.put_at c.args.host.now) (g.H.Host.put_at c.ask.new.host) (g.H.Host.put_faults c.args.host.now) (g.H.Host.put_faults c.ask.new.host)
    c.args.history.now c.record.new.self c.args.build c.args.question.now c.in_ok-answer.answer c.record.result c.record.ensures.ok c.record.ensures.err c.in_ok-answer.ensures.puts c.in_ok-answer.ensures.put_never_falls
