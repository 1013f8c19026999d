use Rattle.std.proofs.Common.{ap, sym, ◌∙◌}
use Rattle.esb_early.specs.Directives.{directive_of}
use Rattle.esb_early.proofs.RuleLines.{directive_BlockStatement, directive_Variables, directive_Empty, directive_ExpressionStatement, directive_If, directive_DoWhile, directive_While, directive_For, directive_ForEach, directive_Continue, directive_Break, directive_Return, directive_Switch, directive_Labelled, directive_Throw, directive_Try, directive_Debugger, directive_FunctionDeclaration, directive_ClassDeclaration}
use Rattle.esb_early.proofs.directives.directive.Goals as goal

pub returns-in-BlockStatement : goal.returns-in-BlockStatement
returns-in-BlockStatement c = sym (directive_BlockStatement _ _ c.in-BlockStatement.is)

pub returns-in-Variables : goal.returns-in-Variables
returns-in-Variables c = sym (directive_Variables _ _ _ c.in-Variables.is)

pub returns-in-Empty : goal.returns-in-Empty
returns-in-Empty c = sym (directive_Empty _ _ c.in-Empty.is)

pub returns-in-ExpressionStatement : goal.returns-in-ExpressionStatement
returns-in-ExpressionStatement c = c.directive_of.ensures ∙ ap directive_of c.token_of.ensures ∙ sym (directive_ExpressionStatement _ _ _ c.in-ExpressionStatement.is)

pub returns-in-If : goal.returns-in-If
returns-in-If c = sym (directive_If _ _ _ _ c.in-If.is)

pub returns-in-DoWhile : goal.returns-in-DoWhile
returns-in-DoWhile c = sym (directive_DoWhile _ _ _ _ _ _ _ _ c.in-DoWhile.is)

pub returns-in-While : goal.returns-in-While
returns-in-While c = sym (directive_While _ _ _ _ _ _ c.in-While.is)

pub returns-in-For : goal.returns-in-For
returns-in-For c = sym (directive_For _ _ _ _ _ _ _ _ _ _ c.in-For.is)

pub returns-in-ForEach : goal.returns-in-ForEach
returns-in-ForEach c = sym (directive_ForEach _ _ _ _ _ _ _ _ _ c.in-ForEach.is)

pub returns-in-Continue : goal.returns-in-Continue
returns-in-Continue c = sym (directive_Continue _ _ _ _ c.in-Continue.is)

pub returns-in-Break : goal.returns-in-Break
returns-in-Break c = sym (directive_Break _ _ _ _ c.in-Break.is)

pub returns-in-Return : goal.returns-in-Return
returns-in-Return c = sym (directive_Return _ _ _ _ c.in-Return.is)

pub returns-in-Switch : goal.returns-in-Switch
returns-in-Switch c = sym (directive_Switch _ _ _ _ _ _ _ _ c.in-Switch.is)

pub returns-in-Labelled : goal.returns-in-Labelled
returns-in-Labelled c = sym (directive_Labelled _ _ _ _ c.in-Labelled.is)

pub returns-in-Throw : goal.returns-in-Throw
returns-in-Throw c = sym (directive_Throw _ _ _ _ c.in-Throw.is)

pub returns-in-Try : goal.returns-in-Try
returns-in-Try c = sym (directive_Try _ _ _ _ _ c.in-Try.is)

pub returns-in-Debugger : goal.returns-in-Debugger
returns-in-Debugger c = sym (directive_Debugger _ _ _ c.in-Debugger.is)

pub returns-in-FunctionDeclaration : goal.returns-in-FunctionDeclaration
returns-in-FunctionDeclaration c = sym (directive_FunctionDeclaration _ _ c.in-FunctionDeclaration.is)

pub returns-in-ClassDeclaration : goal.returns-in-ClassDeclaration
returns-in-ClassDeclaration c = sym (directive_ClassDeclaration _ _ c.in-ClassDeclaration.is)
