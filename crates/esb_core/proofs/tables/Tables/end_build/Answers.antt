use Rattle.esb_core.proofs.tables.Tables.end_build.Goals as goal

pub returns-clause-spare : goal.returns-clause-spare
returns-clause-spare c = λ more room. c.close_build.ensures.spare more (c.settle_build.ensures.spare more room)
