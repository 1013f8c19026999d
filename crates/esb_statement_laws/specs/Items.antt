-- Statements and declarations of all kinds, and lists of them (ECMA-262, clause 13).
use Rattle.std.specs.Prelude.{ℕ, Bool, true, false, List}
use Rattle.esb_token.specs.declared.kind.Kind.{Kind}
use Rattle.esb_token.specs.declared.kind.Kind.TheVariants as k
use Rattle.esb_tree.specs.declared.statements.Statement.{Statement}
use Rattle.esb_grammar.specs.declared.context.Context.{Context}
use Rattle.esb_grammar.specs.Grammar.{IsItem, IsStatement}
use Rattle.esb_grammar.specs.Kinds.{is_lexical}
use Rattle.esb_reader.specs.declared.node.Node.{Node}
use Rattle.esb_reader.specs.Places.{Text}
use Rattle.esb_reader.specs.Reader.{Reader, choose, fail}
use Rattle.esb_reader.specs.Parts.{many}
use Rattle.esb_statement_laws.specs.declared.sort.Sort.{Sort}
use Rattle.esb_statement_laws.specs.declared.sort.Sort.TheVariants as o
use Rattle.esb_statement_laws.specs.Sequels.{sorted}
use Rattle.esb_statement_laws.specs.Marks.{begins_item, sort_at}
use Rattle.esb_statement_laws.specs.Handed.{Handed}
use Rattle.esb_statement_laws.specs.Statements.{block_statement, empty_statement, expression_statement, debugger, continue_statement, break_statement, return_statement, throw_statement, while_statement, do_statement, labelled_statement, if_statement}
use Rattle.esb_statement_laws.specs.Compounds.{switch_statement, try_statement, function_declaration, class_declaration}
use Rattle.esb_statement_laws.specs.Declarations.{variables}
use Rattle.esb_statement_laws.specs.Loops.{for_statement}

abbrev pub is_var : Kind → Bool
is_var k.Var = true
is_var _ = false

-- a StatementListItem, or where the flag says that no declaration may stand there, a Statement (13)
abbrev pub IsAllowed : Bool → Text → Context → Statement → Type 0
IsAllowed true text c x = IsItem text c x
IsAllowed false text c x = IsStatement text c x

module _ (text : Text) (c : Context) (n : ℕ) (r : Handed) (declarations : Bool) where
  abbrev pub of_sort : Sort → Reader (Node Statement)
  of_sort o.Block = block_statement text c n r
  of_sort o.Variables = variables text c n r is_var
  of_sort o.Lexical = choose declarations (variables text c n r is_lexical) fail
  of_sort o.Empty = empty_statement text c n r
  of_sort o.If = if_statement text c n r
  of_sort o.Do = do_statement text c n r
  of_sort o.While = while_statement text c n r
  of_sort o.For = for_statement text c n r
  of_sort o.Continue = continue_statement text c n r
  of_sort o.Break = break_statement text c n r
  of_sort o.Return = return_statement text c n r
  of_sort o.Switch = switch_statement text c n r
  of_sort o.Labelled = labelled_statement text c n r
  of_sort o.Throw = throw_statement text c n r
  of_sort o.Try = try_statement text c n r
  of_sort o.Debugger = debugger text c n r
  of_sort o.Function = choose declarations (function_declaration text c n r) fail
  of_sort o.Class = choose declarations (class_declaration text c n r) fail
  of_sort o.Expression = expression_statement text c n r

  -- Statement and StatementListItem (13)
  unfoldable pub statement : Reader (Node Statement)
  statement = sorted (sort_at text c) of_sort

-- StatementList (13.2)
unfoldable pub items : Text → Context → ℕ → Handed → Reader (Node (List Statement))
items text c n r = many text (λ t. begins_item t.kind) (statement text c n r true)
