-- How each kind of expression ends: with `++` or `--` behind what it changes, or not.
use Rattle.std.proofs.Common.{◌≡◌, Bool, true, false, List, map, ap, sym, ◌∙◌}
use Rattle.esb_token.specs.declared.token.Token.{Token}
use Rattle.esb_tree.specs.declared.classes.ClassElement.TheOpen.{Expression-F, ConciseBody-F}
use Rattle.esb_tree.specs.declared.classes.ClassElement.TheFolds.{fold-roll-Expression, fold-roll-ConciseBody, fold-roll-Operand}
use Rattle.esb_tree.specs.declared.statements.Block.{Block}
use Rattle.esb_tree.specs.declared.patterns.Bracketed.{Bracketed}
use Rattle.esb_tree.specs.declared.classes.Class.{Class}
use Rattle.esb_tree.specs.declared.functions.ConciseBody.{ConciseBody}
use Rattle.esb_tree.specs.declared.functions.ConciseBody.TheVariants as cb
use Rattle.esb_tree.specs.declared.functions.Function.{Function}
use Rattle.esb_tree.specs.declared.expressions.Expression.{Expression}
use Rattle.esb_tree.specs.declared.expressions.Expression.TheVariants as e
use Rattle.esb_tree.specs.declared.expressions.Link.{Link}
use Rattle.esb_tree.specs.declared.expressions.Operand.{Operand, roll-Operand}
use Rattle.esb_tree.specs.declared.expressions.Substitutions.{Substitutions}
use Rattle.esb_grammar.specs.Edges.{last_of, operand_edge}
use Rattle.esb_operator_laws.specs.Postfix.{value_edge, postfix_edge, ends_postfix, body_ends_postfix, operand_ends_postfix}

pub postfix_Primary : (t : Token) → ends_postfix (e.Primary t) ≡ false
unfolding ends_postfix
postfix_Primary t = ap ends_postfix (sym (e.rolls-Primary t)) ∙ fold-roll-Expression (Unit {0}) (Unit {0}) Bool (Unit {0}) Bool (Unit {0}) (Unit {0}) (Unit {0}) (Unit {0}) (Unit {0}) (Unit {0}) (Unit {0}) (Unit {0}) (Unit {0}) (Unit {0}) Bool (Unit {0}) (Unit {0}) (Unit {0}) (Unit {0}) (Unit {0}) (Unit {0}) (Unit {0}) (Unit {0}) (Unit {0}) (Unit {0}) (Unit {0}) (λ _. tt) (λ _. tt) postfix_edge (λ _. tt) value_edge (λ _. tt) (λ _. tt) (λ _. tt) (λ _. tt) (λ _. tt) (λ _. tt) (λ _. tt) (λ _. tt) (λ _. tt) (λ _. tt) operand_edge (λ _. tt) (λ _. tt) (λ _. tt) (λ _. tt) (λ _. tt) (λ _. tt) (λ _. tt) (λ _. tt) (λ _. tt) (λ _. tt) (λ _. tt) (Expression-F.Primary t)

pub postfix_MetaProperty : (word : Token) (dot : Token) (name : Token) → ends_postfix (e.MetaProperty word dot name) ≡ false
unfolding ends_postfix
postfix_MetaProperty word dot name = ap ends_postfix (sym (e.rolls-MetaProperty word dot name)) ∙ fold-roll-Expression (Unit {0}) (Unit {0}) Bool (Unit {0}) Bool (Unit {0}) (Unit {0}) (Unit {0}) (Unit {0}) (Unit {0}) (Unit {0}) (Unit {0}) (Unit {0}) (Unit {0}) (Unit {0}) Bool (Unit {0}) (Unit {0}) (Unit {0}) (Unit {0}) (Unit {0}) (Unit {0}) (Unit {0}) (Unit {0}) (Unit {0}) (Unit {0}) (Unit {0}) (λ _. tt) (λ _. tt) postfix_edge (λ _. tt) value_edge (λ _. tt) (λ _. tt) (λ _. tt) (λ _. tt) (λ _. tt) (λ _. tt) (λ _. tt) (λ _. tt) (λ _. tt) (λ _. tt) operand_edge (λ _. tt) (λ _. tt) (λ _. tt) (λ _. tt) (λ _. tt) (λ _. tt) (λ _. tt) (λ _. tt) (λ _. tt) (λ _. tt) (λ _. tt) (Expression-F.MetaProperty word dot name)

pub postfix_ArrayLiteral : (list : Bracketed) → ends_postfix (e.ArrayLiteral list) ≡ false
unfolding ends_postfix
postfix_ArrayLiteral list = ap ends_postfix (sym (e.rolls-ArrayLiteral list)) ∙ fold-roll-Expression (Unit {0}) (Unit {0}) Bool (Unit {0}) Bool (Unit {0}) (Unit {0}) (Unit {0}) (Unit {0}) (Unit {0}) (Unit {0}) (Unit {0}) (Unit {0}) (Unit {0}) (Unit {0}) Bool (Unit {0}) (Unit {0}) (Unit {0}) (Unit {0}) (Unit {0}) (Unit {0}) (Unit {0}) (Unit {0}) (Unit {0}) (Unit {0}) (Unit {0}) (λ _. tt) (λ _. tt) postfix_edge (λ _. tt) value_edge (λ _. tt) (λ _. tt) (λ _. tt) (λ _. tt) (λ _. tt) (λ _. tt) (λ _. tt) (λ _. tt) (λ _. tt) (λ _. tt) operand_edge (λ _. tt) (λ _. tt) (λ _. tt) (λ _. tt) (λ _. tt) (λ _. tt) (λ _. tt) (λ _. tt) (λ _. tt) (λ _. tt) (λ _. tt) (Expression-F.ArrayLiteral list)

pub postfix_ObjectLiteral : (list : Bracketed) → ends_postfix (e.ObjectLiteral list) ≡ false
unfolding ends_postfix
postfix_ObjectLiteral list = ap ends_postfix (sym (e.rolls-ObjectLiteral list)) ∙ fold-roll-Expression (Unit {0}) (Unit {0}) Bool (Unit {0}) Bool (Unit {0}) (Unit {0}) (Unit {0}) (Unit {0}) (Unit {0}) (Unit {0}) (Unit {0}) (Unit {0}) (Unit {0}) (Unit {0}) Bool (Unit {0}) (Unit {0}) (Unit {0}) (Unit {0}) (Unit {0}) (Unit {0}) (Unit {0}) (Unit {0}) (Unit {0}) (Unit {0}) (Unit {0}) (λ _. tt) (λ _. tt) postfix_edge (λ _. tt) value_edge (λ _. tt) (λ _. tt) (λ _. tt) (λ _. tt) (λ _. tt) (λ _. tt) (λ _. tt) (λ _. tt) (λ _. tt) (λ _. tt) operand_edge (λ _. tt) (λ _. tt) (λ _. tt) (λ _. tt) (λ _. tt) (λ _. tt) (λ _. tt) (λ _. tt) (λ _. tt) (λ _. tt) (λ _. tt) (Expression-F.ObjectLiteral list)

pub postfix_Parenthesized : (list : Bracketed) → ends_postfix (e.Parenthesized list) ≡ false
unfolding ends_postfix
postfix_Parenthesized list = ap ends_postfix (sym (e.rolls-Parenthesized list)) ∙ fold-roll-Expression (Unit {0}) (Unit {0}) Bool (Unit {0}) Bool (Unit {0}) (Unit {0}) (Unit {0}) (Unit {0}) (Unit {0}) (Unit {0}) (Unit {0}) (Unit {0}) (Unit {0}) (Unit {0}) Bool (Unit {0}) (Unit {0}) (Unit {0}) (Unit {0}) (Unit {0}) (Unit {0}) (Unit {0}) (Unit {0}) (Unit {0}) (Unit {0}) (Unit {0}) (λ _. tt) (λ _. tt) postfix_edge (λ _. tt) value_edge (λ _. tt) (λ _. tt) (λ _. tt) (λ _. tt) (λ _. tt) (λ _. tt) (λ _. tt) (λ _. tt) (λ _. tt) (λ _. tt) operand_edge (λ _. tt) (λ _. tt) (λ _. tt) (λ _. tt) (λ _. tt) (λ _. tt) (λ _. tt) (λ _. tt) (λ _. tt) (λ _. tt) (λ _. tt) (Expression-F.Parenthesized list)

pub postfix_TemplateLiteral : (template : Substitutions) → ends_postfix (e.TemplateLiteral template) ≡ false
unfolding ends_postfix
postfix_TemplateLiteral template = ap ends_postfix (sym (e.rolls-TemplateLiteral template)) ∙ fold-roll-Expression (Unit {0}) (Unit {0}) Bool (Unit {0}) Bool (Unit {0}) (Unit {0}) (Unit {0}) (Unit {0}) (Unit {0}) (Unit {0}) (Unit {0}) (Unit {0}) (Unit {0}) (Unit {0}) Bool (Unit {0}) (Unit {0}) (Unit {0}) (Unit {0}) (Unit {0}) (Unit {0}) (Unit {0}) (Unit {0}) (Unit {0}) (Unit {0}) (Unit {0}) (λ _. tt) (λ _. tt) postfix_edge (λ _. tt) value_edge (λ _. tt) (λ _. tt) (λ _. tt) (λ _. tt) (λ _. tt) (λ _. tt) (λ _. tt) (λ _. tt) (λ _. tt) (λ _. tt) operand_edge (λ _. tt) (λ _. tt) (λ _. tt) (λ _. tt) (λ _. tt) (λ _. tt) (λ _. tt) (λ _. tt) (λ _. tt) (λ _. tt) (λ _. tt) (Expression-F.TemplateLiteral template)

pub postfix_FunctionExpression : (function : Function) → ends_postfix (e.FunctionExpression function) ≡ false
unfolding ends_postfix
postfix_FunctionExpression function = ap ends_postfix (sym (e.rolls-FunctionExpression function)) ∙ fold-roll-Expression (Unit {0}) (Unit {0}) Bool (Unit {0}) Bool (Unit {0}) (Unit {0}) (Unit {0}) (Unit {0}) (Unit {0}) (Unit {0}) (Unit {0}) (Unit {0}) (Unit {0}) (Unit {0}) Bool (Unit {0}) (Unit {0}) (Unit {0}) (Unit {0}) (Unit {0}) (Unit {0}) (Unit {0}) (Unit {0}) (Unit {0}) (Unit {0}) (Unit {0}) (λ _. tt) (λ _. tt) postfix_edge (λ _. tt) value_edge (λ _. tt) (λ _. tt) (λ _. tt) (λ _. tt) (λ _. tt) (λ _. tt) (λ _. tt) (λ _. tt) (λ _. tt) (λ _. tt) operand_edge (λ _. tt) (λ _. tt) (λ _. tt) (λ _. tt) (λ _. tt) (λ _. tt) (λ _. tt) (λ _. tt) (λ _. tt) (λ _. tt) (λ _. tt) (Expression-F.FunctionExpression function)

pub postfix_ClassExpression : (class : Class) → ends_postfix (e.ClassExpression class) ≡ false
unfolding ends_postfix
postfix_ClassExpression class = ap ends_postfix (sym (e.rolls-ClassExpression class)) ∙ fold-roll-Expression (Unit {0}) (Unit {0}) Bool (Unit {0}) Bool (Unit {0}) (Unit {0}) (Unit {0}) (Unit {0}) (Unit {0}) (Unit {0}) (Unit {0}) (Unit {0}) (Unit {0}) (Unit {0}) Bool (Unit {0}) (Unit {0}) (Unit {0}) (Unit {0}) (Unit {0}) (Unit {0}) (Unit {0}) (Unit {0}) (Unit {0}) (Unit {0}) (Unit {0}) (λ _. tt) (λ _. tt) postfix_edge (λ _. tt) value_edge (λ _. tt) (λ _. tt) (λ _. tt) (λ _. tt) (λ _. tt) (λ _. tt) (λ _. tt) (λ _. tt) (λ _. tt) (λ _. tt) operand_edge (λ _. tt) (λ _. tt) (λ _. tt) (λ _. tt) (λ _. tt) (λ _. tt) (λ _. tt) (λ _. tt) (λ _. tt) (λ _. tt) (λ _. tt) (Expression-F.ClassExpression class)

pub postfix_Member : (object : Expression) (links : List Link) → ends_postfix (e.Member object links) ≡ false
unfolding ends_postfix
postfix_Member object links = ap ends_postfix (sym (e.rolls-Member object links)) ∙ fold-roll-Expression (Unit {0}) (Unit {0}) Bool (Unit {0}) Bool (Unit {0}) (Unit {0}) (Unit {0}) (Unit {0}) (Unit {0}) (Unit {0}) (Unit {0}) (Unit {0}) (Unit {0}) (Unit {0}) Bool (Unit {0}) (Unit {0}) (Unit {0}) (Unit {0}) (Unit {0}) (Unit {0}) (Unit {0}) (Unit {0}) (Unit {0}) (Unit {0}) (Unit {0}) (λ _. tt) (λ _. tt) postfix_edge (λ _. tt) value_edge (λ _. tt) (λ _. tt) (λ _. tt) (λ _. tt) (λ _. tt) (λ _. tt) (λ _. tt) (λ _. tt) (λ _. tt) (λ _. tt) operand_edge (λ _. tt) (λ _. tt) (λ _. tt) (λ _. tt) (λ _. tt) (λ _. tt) (λ _. tt) (λ _. tt) (λ _. tt) (λ _. tt) (λ _. tt) (Expression-F.Member object links)

pub postfix_New : (word : Token) (callee : Expression) (arguments : Bracketed) → ends_postfix (e.New word callee arguments) ≡ false
unfolding ends_postfix
postfix_New word callee arguments = ap ends_postfix (sym (e.rolls-New word callee arguments)) ∙ fold-roll-Expression (Unit {0}) (Unit {0}) Bool (Unit {0}) Bool (Unit {0}) (Unit {0}) (Unit {0}) (Unit {0}) (Unit {0}) (Unit {0}) (Unit {0}) (Unit {0}) (Unit {0}) (Unit {0}) Bool (Unit {0}) (Unit {0}) (Unit {0}) (Unit {0}) (Unit {0}) (Unit {0}) (Unit {0}) (Unit {0}) (Unit {0}) (Unit {0}) (Unit {0}) (λ _. tt) (λ _. tt) postfix_edge (λ _. tt) value_edge (λ _. tt) (λ _. tt) (λ _. tt) (λ _. tt) (λ _. tt) (λ _. tt) (λ _. tt) (λ _. tt) (λ _. tt) (λ _. tt) operand_edge (λ _. tt) (λ _. tt) (λ _. tt) (λ _. tt) (λ _. tt) (λ _. tt) (λ _. tt) (λ _. tt) (λ _. tt) (λ _. tt) (λ _. tt) (Expression-F.New word callee arguments)

pub postfix_NewPlain : (word : Token) (callee : Expression) → ends_postfix (e.NewPlain word callee) ≡ false
unfolding ends_postfix
postfix_NewPlain word callee = ap ends_postfix (sym (e.rolls-NewPlain word callee)) ∙ fold-roll-Expression (Unit {0}) (Unit {0}) Bool (Unit {0}) Bool (Unit {0}) (Unit {0}) (Unit {0}) (Unit {0}) (Unit {0}) (Unit {0}) (Unit {0}) (Unit {0}) (Unit {0}) (Unit {0}) Bool (Unit {0}) (Unit {0}) (Unit {0}) (Unit {0}) (Unit {0}) (Unit {0}) (Unit {0}) (Unit {0}) (Unit {0}) (Unit {0}) (Unit {0}) (λ _. tt) (λ _. tt) postfix_edge (λ _. tt) value_edge (λ _. tt) (λ _. tt) (λ _. tt) (λ _. tt) (λ _. tt) (λ _. tt) (λ _. tt) (λ _. tt) (λ _. tt) (λ _. tt) operand_edge (λ _. tt) (λ _. tt) (λ _. tt) (λ _. tt) (λ _. tt) (λ _. tt) (λ _. tt) (λ _. tt) (λ _. tt) (λ _. tt) (λ _. tt) (Expression-F.NewPlain word callee)

pub postfix_ImportCall : (word : Token) (begin : Token) (x : Expression) (ending : Token) → ends_postfix (e.ImportCall word begin x ending) ≡ false
unfolding ends_postfix
postfix_ImportCall word begin x ending = ap ends_postfix (sym (e.rolls-ImportCall word begin x ending)) ∙ fold-roll-Expression (Unit {0}) (Unit {0}) Bool (Unit {0}) Bool (Unit {0}) (Unit {0}) (Unit {0}) (Unit {0}) (Unit {0}) (Unit {0}) (Unit {0}) (Unit {0}) (Unit {0}) (Unit {0}) Bool (Unit {0}) (Unit {0}) (Unit {0}) (Unit {0}) (Unit {0}) (Unit {0}) (Unit {0}) (Unit {0}) (Unit {0}) (Unit {0}) (Unit {0}) (λ _. tt) (λ _. tt) postfix_edge (λ _. tt) value_edge (λ _. tt) (λ _. tt) (λ _. tt) (λ _. tt) (λ _. tt) (λ _. tt) (λ _. tt) (λ _. tt) (λ _. tt) (λ _. tt) operand_edge (λ _. tt) (λ _. tt) (λ _. tt) (λ _. tt) (λ _. tt) (λ _. tt) (λ _. tt) (λ _. tt) (λ _. tt) (λ _. tt) (λ _. tt) (Expression-F.ImportCall word begin x ending)

pub postfix_PrefixUpdate : (operator : Token) (x : Expression) → ends_postfix (e.PrefixUpdate operator x) ≡ ends_postfix x
unfolding ends_postfix
postfix_PrefixUpdate operator x = ap ends_postfix (sym (e.rolls-PrefixUpdate operator x)) ∙ fold-roll-Expression (Unit {0}) (Unit {0}) Bool (Unit {0}) Bool (Unit {0}) (Unit {0}) (Unit {0}) (Unit {0}) (Unit {0}) (Unit {0}) (Unit {0}) (Unit {0}) (Unit {0}) (Unit {0}) Bool (Unit {0}) (Unit {0}) (Unit {0}) (Unit {0}) (Unit {0}) (Unit {0}) (Unit {0}) (Unit {0}) (Unit {0}) (Unit {0}) (Unit {0}) (λ _. tt) (λ _. tt) postfix_edge (λ _. tt) value_edge (λ _. tt) (λ _. tt) (λ _. tt) (λ _. tt) (λ _. tt) (λ _. tt) (λ _. tt) (λ _. tt) (λ _. tt) (λ _. tt) operand_edge (λ _. tt) (λ _. tt) (λ _. tt) (λ _. tt) (λ _. tt) (λ _. tt) (λ _. tt) (λ _. tt) (λ _. tt) (λ _. tt) (λ _. tt) (Expression-F.PrefixUpdate operator x)

pub postfix_PostfixUpdate : (x : Expression) (operator : Token) → ends_postfix (e.PostfixUpdate x operator) ≡ true
unfolding ends_postfix
postfix_PostfixUpdate x operator = ap ends_postfix (sym (e.rolls-PostfixUpdate x operator)) ∙ fold-roll-Expression (Unit {0}) (Unit {0}) Bool (Unit {0}) Bool (Unit {0}) (Unit {0}) (Unit {0}) (Unit {0}) (Unit {0}) (Unit {0}) (Unit {0}) (Unit {0}) (Unit {0}) (Unit {0}) Bool (Unit {0}) (Unit {0}) (Unit {0}) (Unit {0}) (Unit {0}) (Unit {0}) (Unit {0}) (Unit {0}) (Unit {0}) (Unit {0}) (Unit {0}) (λ _. tt) (λ _. tt) postfix_edge (λ _. tt) value_edge (λ _. tt) (λ _. tt) (λ _. tt) (λ _. tt) (λ _. tt) (λ _. tt) (λ _. tt) (λ _. tt) (λ _. tt) (λ _. tt) operand_edge (λ _. tt) (λ _. tt) (λ _. tt) (λ _. tt) (λ _. tt) (λ _. tt) (λ _. tt) (λ _. tt) (λ _. tt) (λ _. tt) (λ _. tt) (Expression-F.PostfixUpdate x operator)

pub postfix_Unary : (operator : Token) (x : Expression) → ends_postfix (e.Unary operator x) ≡ ends_postfix x
unfolding ends_postfix
postfix_Unary operator x = ap ends_postfix (sym (e.rolls-Unary operator x)) ∙ fold-roll-Expression (Unit {0}) (Unit {0}) Bool (Unit {0}) Bool (Unit {0}) (Unit {0}) (Unit {0}) (Unit {0}) (Unit {0}) (Unit {0}) (Unit {0}) (Unit {0}) (Unit {0}) (Unit {0}) Bool (Unit {0}) (Unit {0}) (Unit {0}) (Unit {0}) (Unit {0}) (Unit {0}) (Unit {0}) (Unit {0}) (Unit {0}) (Unit {0}) (Unit {0}) (λ _. tt) (λ _. tt) postfix_edge (λ _. tt) value_edge (λ _. tt) (λ _. tt) (λ _. tt) (λ _. tt) (λ _. tt) (λ _. tt) (λ _. tt) (λ _. tt) (λ _. tt) (λ _. tt) operand_edge (λ _. tt) (λ _. tt) (λ _. tt) (λ _. tt) (λ _. tt) (λ _. tt) (λ _. tt) (λ _. tt) (λ _. tt) (λ _. tt) (λ _. tt) (Expression-F.Unary operator x)

pub postfix_Await : (word : Token) (x : Expression) → ends_postfix (e.Await word x) ≡ ends_postfix x
unfolding ends_postfix
postfix_Await word x = ap ends_postfix (sym (e.rolls-Await word x)) ∙ fold-roll-Expression (Unit {0}) (Unit {0}) Bool (Unit {0}) Bool (Unit {0}) (Unit {0}) (Unit {0}) (Unit {0}) (Unit {0}) (Unit {0}) (Unit {0}) (Unit {0}) (Unit {0}) (Unit {0}) Bool (Unit {0}) (Unit {0}) (Unit {0}) (Unit {0}) (Unit {0}) (Unit {0}) (Unit {0}) (Unit {0}) (Unit {0}) (Unit {0}) (Unit {0}) (λ _. tt) (λ _. tt) postfix_edge (λ _. tt) value_edge (λ _. tt) (λ _. tt) (λ _. tt) (λ _. tt) (λ _. tt) (λ _. tt) (λ _. tt) (λ _. tt) (λ _. tt) (λ _. tt) operand_edge (λ _. tt) (λ _. tt) (λ _. tt) (λ _. tt) (λ _. tt) (λ _. tt) (λ _. tt) (λ _. tt) (λ _. tt) (λ _. tt) (λ _. tt) (Expression-F.Await word x)

pub postfix_Binary : (first : Expression) (rest : List Operand) → ends_postfix (e.Binary first rest) ≡ last_of (map operand_ends_postfix rest)
unfolding ends_postfix operand_ends_postfix
postfix_Binary first rest = ap ends_postfix (sym (e.rolls-Binary first rest)) ∙ fold-roll-Expression (Unit {0}) (Unit {0}) Bool (Unit {0}) Bool (Unit {0}) (Unit {0}) (Unit {0}) (Unit {0}) (Unit {0}) (Unit {0}) (Unit {0}) (Unit {0}) (Unit {0}) (Unit {0}) Bool (Unit {0}) (Unit {0}) (Unit {0}) (Unit {0}) (Unit {0}) (Unit {0}) (Unit {0}) (Unit {0}) (Unit {0}) (Unit {0}) (Unit {0}) (λ _. tt) (λ _. tt) postfix_edge (λ _. tt) value_edge (λ _. tt) (λ _. tt) (λ _. tt) (λ _. tt) (λ _. tt) (λ _. tt) (λ _. tt) (λ _. tt) (λ _. tt) (λ _. tt) operand_edge (λ _. tt) (λ _. tt) (λ _. tt) (λ _. tt) (λ _. tt) (λ _. tt) (λ _. tt) (λ _. tt) (λ _. tt) (λ _. tt) (λ _. tt) (Expression-F.Binary first rest)

pub postfix_Conditional : (test : Expression) (question : Token) (x : Expression) (colon : Token) (other : Expression) → ends_postfix (e.Conditional test question x colon other) ≡ ends_postfix other
unfolding ends_postfix
postfix_Conditional test question x colon other = ap ends_postfix (sym (e.rolls-Conditional test question x colon other)) ∙ fold-roll-Expression (Unit {0}) (Unit {0}) Bool (Unit {0}) Bool (Unit {0}) (Unit {0}) (Unit {0}) (Unit {0}) (Unit {0}) (Unit {0}) (Unit {0}) (Unit {0}) (Unit {0}) (Unit {0}) Bool (Unit {0}) (Unit {0}) (Unit {0}) (Unit {0}) (Unit {0}) (Unit {0}) (Unit {0}) (Unit {0}) (Unit {0}) (Unit {0}) (Unit {0}) (λ _. tt) (λ _. tt) postfix_edge (λ _. tt) value_edge (λ _. tt) (λ _. tt) (λ _. tt) (λ _. tt) (λ _. tt) (λ _. tt) (λ _. tt) (λ _. tt) (λ _. tt) (λ _. tt) operand_edge (λ _. tt) (λ _. tt) (λ _. tt) (λ _. tt) (λ _. tt) (λ _. tt) (λ _. tt) (λ _. tt) (λ _. tt) (λ _. tt) (λ _. tt) (Expression-F.Conditional test question x colon other)

pub postfix_Assignment : (target : Expression) (operator : Token) (x : Expression) → ends_postfix (e.Assignment target operator x) ≡ ends_postfix x
unfolding ends_postfix
postfix_Assignment target operator x = ap ends_postfix (sym (e.rolls-Assignment target operator x)) ∙ fold-roll-Expression (Unit {0}) (Unit {0}) Bool (Unit {0}) Bool (Unit {0}) (Unit {0}) (Unit {0}) (Unit {0}) (Unit {0}) (Unit {0}) (Unit {0}) (Unit {0}) (Unit {0}) (Unit {0}) Bool (Unit {0}) (Unit {0}) (Unit {0}) (Unit {0}) (Unit {0}) (Unit {0}) (Unit {0}) (Unit {0}) (Unit {0}) (Unit {0}) (Unit {0}) (λ _. tt) (λ _. tt) postfix_edge (λ _. tt) value_edge (λ _. tt) (λ _. tt) (λ _. tt) (λ _. tt) (λ _. tt) (λ _. tt) (λ _. tt) (λ _. tt) (λ _. tt) (λ _. tt) operand_edge (λ _. tt) (λ _. tt) (λ _. tt) (λ _. tt) (λ _. tt) (λ _. tt) (λ _. tt) (λ _. tt) (λ _. tt) (λ _. tt) (λ _. tt) (Expression-F.Assignment target operator x)

pub postfix_Arrow : (head : Expression) (arrow : Token) (body : ConciseBody) → ends_postfix (e.Arrow head arrow body) ≡ body_ends_postfix body
unfolding ends_postfix body_ends_postfix
postfix_Arrow head arrow body = ap ends_postfix (sym (e.rolls-Arrow head arrow body)) ∙ fold-roll-Expression (Unit {0}) (Unit {0}) Bool (Unit {0}) Bool (Unit {0}) (Unit {0}) (Unit {0}) (Unit {0}) (Unit {0}) (Unit {0}) (Unit {0}) (Unit {0}) (Unit {0}) (Unit {0}) Bool (Unit {0}) (Unit {0}) (Unit {0}) (Unit {0}) (Unit {0}) (Unit {0}) (Unit {0}) (Unit {0}) (Unit {0}) (Unit {0}) (Unit {0}) (λ _. tt) (λ _. tt) postfix_edge (λ _. tt) value_edge (λ _. tt) (λ _. tt) (λ _. tt) (λ _. tt) (λ _. tt) (λ _. tt) (λ _. tt) (λ _. tt) (λ _. tt) (λ _. tt) operand_edge (λ _. tt) (λ _. tt) (λ _. tt) (λ _. tt) (λ _. tt) (λ _. tt) (λ _. tt) (λ _. tt) (λ _. tt) (λ _. tt) (λ _. tt) (Expression-F.Arrow head arrow body)

pub postfix_AsyncArrow : (word : Token) (name : Token) (arrow : Token) (body : ConciseBody) → ends_postfix (e.AsyncArrow word name arrow body) ≡ body_ends_postfix body
unfolding ends_postfix body_ends_postfix
postfix_AsyncArrow word name arrow body = ap ends_postfix (sym (e.rolls-AsyncArrow word name arrow body)) ∙ fold-roll-Expression (Unit {0}) (Unit {0}) Bool (Unit {0}) Bool (Unit {0}) (Unit {0}) (Unit {0}) (Unit {0}) (Unit {0}) (Unit {0}) (Unit {0}) (Unit {0}) (Unit {0}) (Unit {0}) Bool (Unit {0}) (Unit {0}) (Unit {0}) (Unit {0}) (Unit {0}) (Unit {0}) (Unit {0}) (Unit {0}) (Unit {0}) (Unit {0}) (Unit {0}) (λ _. tt) (λ _. tt) postfix_edge (λ _. tt) value_edge (λ _. tt) (λ _. tt) (λ _. tt) (λ _. tt) (λ _. tt) (λ _. tt) (λ _. tt) (λ _. tt) (λ _. tt) (λ _. tt) operand_edge (λ _. tt) (λ _. tt) (λ _. tt) (λ _. tt) (λ _. tt) (λ _. tt) (λ _. tt) (λ _. tt) (λ _. tt) (λ _. tt) (λ _. tt) (Expression-F.AsyncArrow word name arrow body)

pub postfix_Yield : (word : Token) → ends_postfix (e.Yield word) ≡ false
unfolding ends_postfix
postfix_Yield word = ap ends_postfix (sym (e.rolls-Yield word)) ∙ fold-roll-Expression (Unit {0}) (Unit {0}) Bool (Unit {0}) Bool (Unit {0}) (Unit {0}) (Unit {0}) (Unit {0}) (Unit {0}) (Unit {0}) (Unit {0}) (Unit {0}) (Unit {0}) (Unit {0}) Bool (Unit {0}) (Unit {0}) (Unit {0}) (Unit {0}) (Unit {0}) (Unit {0}) (Unit {0}) (Unit {0}) (Unit {0}) (Unit {0}) (Unit {0}) (λ _. tt) (λ _. tt) postfix_edge (λ _. tt) value_edge (λ _. tt) (λ _. tt) (λ _. tt) (λ _. tt) (λ _. tt) (λ _. tt) (λ _. tt) (λ _. tt) (λ _. tt) (λ _. tt) operand_edge (λ _. tt) (λ _. tt) (λ _. tt) (λ _. tt) (λ _. tt) (λ _. tt) (λ _. tt) (λ _. tt) (λ _. tt) (λ _. tt) (λ _. tt) (Expression-F.Yield word)

pub postfix_YieldValue : (word : Token) (x : Expression) → ends_postfix (e.YieldValue word x) ≡ ends_postfix x
unfolding ends_postfix
postfix_YieldValue word x = ap ends_postfix (sym (e.rolls-YieldValue word x)) ∙ fold-roll-Expression (Unit {0}) (Unit {0}) Bool (Unit {0}) Bool (Unit {0}) (Unit {0}) (Unit {0}) (Unit {0}) (Unit {0}) (Unit {0}) (Unit {0}) (Unit {0}) (Unit {0}) (Unit {0}) Bool (Unit {0}) (Unit {0}) (Unit {0}) (Unit {0}) (Unit {0}) (Unit {0}) (Unit {0}) (Unit {0}) (Unit {0}) (Unit {0}) (Unit {0}) (λ _. tt) (λ _. tt) postfix_edge (λ _. tt) value_edge (λ _. tt) (λ _. tt) (λ _. tt) (λ _. tt) (λ _. tt) (λ _. tt) (λ _. tt) (λ _. tt) (λ _. tt) (λ _. tt) operand_edge (λ _. tt) (λ _. tt) (λ _. tt) (λ _. tt) (λ _. tt) (λ _. tt) (λ _. tt) (λ _. tt) (λ _. tt) (λ _. tt) (λ _. tt) (Expression-F.YieldValue word x)

pub postfix_YieldEach : (word : Token) (star : Token) (x : Expression) → ends_postfix (e.YieldEach word star x) ≡ ends_postfix x
unfolding ends_postfix
postfix_YieldEach word star x = ap ends_postfix (sym (e.rolls-YieldEach word star x)) ∙ fold-roll-Expression (Unit {0}) (Unit {0}) Bool (Unit {0}) Bool (Unit {0}) (Unit {0}) (Unit {0}) (Unit {0}) (Unit {0}) (Unit {0}) (Unit {0}) (Unit {0}) (Unit {0}) (Unit {0}) Bool (Unit {0}) (Unit {0}) (Unit {0}) (Unit {0}) (Unit {0}) (Unit {0}) (Unit {0}) (Unit {0}) (Unit {0}) (Unit {0}) (Unit {0}) (λ _. tt) (λ _. tt) postfix_edge (λ _. tt) value_edge (λ _. tt) (λ _. tt) (λ _. tt) (λ _. tt) (λ _. tt) (λ _. tt) (λ _. tt) (λ _. tt) (λ _. tt) (λ _. tt) operand_edge (λ _. tt) (λ _. tt) (λ _. tt) (λ _. tt) (λ _. tt) (λ _. tt) (λ _. tt) (λ _. tt) (λ _. tt) (λ _. tt) (λ _. tt) (Expression-F.YieldEach word star x)

pub postfix_ConciseValue : (x : Expression) → body_ends_postfix (cb.ConciseValue x) ≡ ends_postfix x
unfolding body_ends_postfix ends_postfix
postfix_ConciseValue x = ap body_ends_postfix (sym (cb.rolls-ConciseValue x)) ∙ fold-roll-ConciseBody (Unit {0}) (Unit {0}) Bool (Unit {0}) Bool (Unit {0}) (Unit {0}) (Unit {0}) (Unit {0}) (Unit {0}) (Unit {0}) (Unit {0}) (Unit {0}) (Unit {0}) (Unit {0}) Bool (Unit {0}) (Unit {0}) (Unit {0}) (Unit {0}) (Unit {0}) (Unit {0}) (Unit {0}) (Unit {0}) (Unit {0}) (Unit {0}) (Unit {0}) (λ _. tt) (λ _. tt) postfix_edge (λ _. tt) value_edge (λ _. tt) (λ _. tt) (λ _. tt) (λ _. tt) (λ _. tt) (λ _. tt) (λ _. tt) (λ _. tt) (λ _. tt) (λ _. tt) operand_edge (λ _. tt) (λ _. tt) (λ _. tt) (λ _. tt) (λ _. tt) (λ _. tt) (λ _. tt) (λ _. tt) (λ _. tt) (λ _. tt) (λ _. tt) (ConciseBody-F.ConciseValue x)

pub postfix_ConciseBlock : (block : Block) → body_ends_postfix (cb.ConciseBlock block) ≡ false
unfolding body_ends_postfix
postfix_ConciseBlock block = ap body_ends_postfix (sym (cb.rolls-ConciseBlock block)) ∙ fold-roll-ConciseBody (Unit {0}) (Unit {0}) Bool (Unit {0}) Bool (Unit {0}) (Unit {0}) (Unit {0}) (Unit {0}) (Unit {0}) (Unit {0}) (Unit {0}) (Unit {0}) (Unit {0}) (Unit {0}) Bool (Unit {0}) (Unit {0}) (Unit {0}) (Unit {0}) (Unit {0}) (Unit {0}) (Unit {0}) (Unit {0}) (Unit {0}) (Unit {0}) (Unit {0}) (λ _. tt) (λ _. tt) postfix_edge (λ _. tt) value_edge (λ _. tt) (λ _. tt) (λ _. tt) (λ _. tt) (λ _. tt) (λ _. tt) (λ _. tt) (λ _. tt) (λ _. tt) (λ _. tt) operand_edge (λ _. tt) (λ _. tt) (λ _. tt) (λ _. tt) (λ _. tt) (λ _. tt) (λ _. tt) (λ _. tt) (λ _. tt) (λ _. tt) (λ _. tt) (ConciseBody-F.ConciseBlock block)

pub postfix_Operand : (operator : Token) (value : Expression) → operand_ends_postfix (roll-Operand (record { operator = operator; value = value })) ≡ ends_postfix value
unfolding ends_postfix operand_ends_postfix
postfix_Operand operator value = fold-roll-Operand (Unit {0}) (Unit {0}) Bool (Unit {0}) Bool (Unit {0}) (Unit {0}) (Unit {0}) (Unit {0}) (Unit {0}) (Unit {0}) (Unit {0}) (Unit {0}) (Unit {0}) (Unit {0}) Bool (Unit {0}) (Unit {0}) (Unit {0}) (Unit {0}) (Unit {0}) (Unit {0}) (Unit {0}) (Unit {0}) (Unit {0}) (Unit {0}) (Unit {0}) (λ _. tt) (λ _. tt) postfix_edge (λ _. tt) value_edge (λ _. tt) (λ _. tt) (λ _. tt) (λ _. tt) (λ _. tt) (λ _. tt) (λ _. tt) (λ _. tt) (λ _. tt) (λ _. tt) operand_edge (λ _. tt) (λ _. tt) (λ _. tt) (λ _. tt) (λ _. tt) (λ _. tt) (λ _. tt) (λ _. tt) (λ _. tt) (λ _. tt) (λ _. tt) (record { operator = operator; value = value })
