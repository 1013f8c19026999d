use Rattle.std.proofs.Common.{ap, sym, ◌∙◌}
use Rattle.esb_early.specs.Rules.{is_loop_of_statement}
use Rattle.esb_early.proofs.RuleLines.{loop_BlockStatement, loop_Variables, loop_Empty, loop_ExpressionStatement, loop_If, loop_DoWhile, loop_While, loop_For, loop_ForEach, loop_Continue, loop_Break, loop_Return, loop_Switch, loop_Labelled, loop_Throw, loop_Try, loop_Debugger, loop_FunctionDeclaration, loop_ClassDeclaration}
use Rattle.esb_early.proofs.walk.+is_loop.Goals as goal

pub returns-in-BlockStatement : goal.returns-in-BlockStatement
returns-in-BlockStatement t c = sym (loop_BlockStatement _ _ c.in-BlockStatement.is)

pub returns-in-Variables : goal.returns-in-Variables
returns-in-Variables t c = sym (loop_Variables _ _ _ c.in-Variables.is)

pub returns-in-Empty : goal.returns-in-Empty
returns-in-Empty t c = sym (loop_Empty _ _ c.in-Empty.is)

pub returns-in-ExpressionStatement : goal.returns-in-ExpressionStatement
returns-in-ExpressionStatement t c = sym (loop_ExpressionStatement _ _ _ c.in-ExpressionStatement.is)

pub returns-in-If : goal.returns-in-If
returns-in-If t c = sym (loop_If _ _ _ _ c.in-If.is)

pub returns-in-DoWhile : goal.returns-in-DoWhile
returns-in-DoWhile t c = sym (loop_DoWhile _ _ _ _ _ _ _ _ c.in-DoWhile.is)

pub returns-in-While : goal.returns-in-While
returns-in-While t c = sym (loop_While _ _ _ _ _ _ c.in-While.is)

pub returns-in-For : goal.returns-in-For
returns-in-For t c = sym (loop_For _ _ _ _ _ _ _ _ _ _ c.in-For.is)

pub returns-in-ForEach : goal.returns-in-ForEach
returns-in-ForEach t c = sym (loop_ForEach _ _ _ _ _ _ _ _ _ c.in-ForEach.is)

pub returns-in-Continue : goal.returns-in-Continue
returns-in-Continue t c = sym (loop_Continue _ _ _ _ c.in-Continue.is)

pub returns-in-Break : goal.returns-in-Break
returns-in-Break t c = sym (loop_Break _ _ _ _ c.in-Break.is)

pub returns-in-Return : goal.returns-in-Return
returns-in-Return t c = sym (loop_Return _ _ _ _ c.in-Return.is)

pub returns-in-Switch : goal.returns-in-Switch
returns-in-Switch t c = sym (loop_Switch _ _ _ _ _ _ _ _ c.in-Switch.is)

pub returns-in-Labelled : goal.returns-in-Labelled
returns-in-Labelled t c = c.is_loop.ensures ∙ ap is_loop_of_statement c.get.ensures ∙ sym (loop_Labelled _ _ _ _ c.in-Labelled.is)

pub returns-in-Throw : goal.returns-in-Throw
returns-in-Throw t c = sym (loop_Throw _ _ _ _ c.in-Throw.is)

pub returns-in-Try : goal.returns-in-Try
returns-in-Try t c = sym (loop_Try _ _ _ _ _ c.in-Try.is)

pub returns-in-Debugger : goal.returns-in-Debugger
returns-in-Debugger t c = sym (loop_Debugger _ _ _ c.in-Debugger.is)

pub returns-in-FunctionDeclaration : goal.returns-in-FunctionDeclaration
returns-in-FunctionDeclaration t c = sym (loop_FunctionDeclaration _ _ c.in-FunctionDeclaration.is)

pub returns-in-ClassDeclaration : goal.returns-in-ClassDeclaration
returns-in-ClassDeclaration t c = sym (loop_ClassDeclaration _ _ c.in-ClassDeclaration.is)
