-- Lists, before it is asked whether they may stand as they do, and the words before them.
use Rattle.std.specs.Prelude.{ℕ, Bool, true, false, List}
use Rattle.esb_token.specs.declared.kind.Kind.{Kind}
use Rattle.esb_token.specs.declared.goal.Goal.TheVariants as goal
use Rattle.esb_tree.specs.declared.patterns.NextElement.{NextElement}
use Rattle.esb_tree.specs.declared.patterns.Elements.{Elements}
use Rattle.esb_tree.specs.declared.statements.CaseClause.{CaseClause}
use Rattle.esb_tree.specs.declared.statements.Declaration.{Declaration}
use Rattle.esb_grammar.specs.declared.context.Context.{Context}
use Rattle.esb_grammar.specs.Grammar.{is_variable}
use Rattle.esb_grammar.specs.Kinds.{is_comma, is_lexical}
use Rattle.esb_reader.specs.declared.node.Node.{Node}
use Rattle.esb_reader.specs.Places.{Text}
use Rattle.esb_reader.specs.Reader.{Reader}
use Rattle.esb_reader.specs.Parts.{both, made, many, token_in}
use Rattle.esb_statement_laws.specs.Marks.{is_clause}
use Rattle.esb_statement_laws.specs.Handed.{Handed}
use Rattle.esb_statement_laws.specs.Compounds.{clause}
use Rattle.esb_statement_laws.specs.Declarations.{next_binding, make_bindings, make_declaration, loose_list}
use Rattle.esb_statement_laws.specs.Items.{is_var}

-- the clauses of a `switch`
unfoldable pub clause_list : Text → Context → ℕ → Handed → Reader (Node (List CaseClause))
clause_list text c n r = many text (λ t. is_clause t.kind) (clause text c n r)

-- the bindings behind the first
unfoldable pub next_bindings : Text → Context → ℕ → Handed → Reader (Node (List NextElement))
next_bindings text c n r = many text (λ t. is_comma t.kind) (next_binding text c n r)

-- bindings, of which it is not asked that a pattern has a value
unfoldable pub loose_bindings : Text → Context → ℕ → Handed → Reader (Node Elements)
loose_bindings text c n r = made make_bindings 0 (loose_list text c n r)

-- a word that declares, and such bindings
unfoldable pub loose_declaration : Text → Context → ℕ → Handed → Reader (Node Declaration)
loose_declaration text c n r = made make_declaration 0 (both (token_in text goal.Div (λ t. is_variable t.kind)) (loose_bindings text c n r))

-- the words of LexicalDeclarations, and of VariableStatements
abbrev pub declares : Bool → Kind → Bool
declares true = is_lexical
declares false = is_var
