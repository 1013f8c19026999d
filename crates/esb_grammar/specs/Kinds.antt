-- Classes of tokens by their kinds (ECMA-262, 12.1, 12.2, 12.2.6).
use Rattle.std.specs.Prelude.{Bool, true, false, not, ◌||◌, nat_lt}
use Rattle.esb_token.specs.declared.kind.Kind.{Kind}
use Rattle.esb_token.specs.declared.kind.Kind.TheVariants as k
use Rattle.esb_grammar.specs.declared.context.Context.{Context}
use Rattle.esb_tree.specs.Operators.{level_of, is_assignment}

-- Identifier (12.1). The words that only strict rules reserve are identifiers by the grammar.
abbrev pub is_identifier : Kind → Bool
is_identifier k.Name = true
is_identifier k.Implements = true
is_identifier k.Interface = true
is_identifier k.Let = true
is_identifier k.Package = true
is_identifier k.Private = true
is_identifier k.Protected = true
is_identifier k.Public = true
is_identifier k.Static = true
is_identifier _ = false

-- IdentifierReference and LabelIdentifier (12.1): `yield` and `await` where they are no operators
abbrev pub is_reference : Context → Kind → Bool
is_reference c k.Yield = not c.has_yield
is_reference c k.Await = not c.has_await
is_reference c kind = is_identifier kind

-- BindingIdentifier (12.1)
abbrev pub is_binding : Kind → Bool
is_binding k.Yield = true
is_binding k.Await = true
is_binding kind = is_identifier kind

-- `this`, Literal, RegularExpressionLiteral, and a template without substitutions (12.2)
abbrev pub is_literal : Kind → Bool
is_literal k.This = true
is_literal k.Null = true
is_literal k.True = true
is_literal k.False = true
is_literal k.Number = true
is_literal k.BigInt = true
is_literal k.Text = true
is_literal k.RegExp = true
is_literal k.TemplateWhole = true
is_literal _ = false

-- reserved words of statements (11.6.2)
abbrev pub is_statement_word : Kind → Bool
is_statement_word k.Break = true
is_statement_word k.Case = true
is_statement_word k.Catch = true
is_statement_word k.Continue = true
is_statement_word k.Debugger = true
is_statement_word k.Default = true
is_statement_word k.Do = true
is_statement_word k.Else = true
is_statement_word k.Finally = true
is_statement_word k.For = true
is_statement_word k.If = true
is_statement_word k.Return = true
is_statement_word k.Switch = true
is_statement_word k.Throw = true
is_statement_word k.Try = true
is_statement_word k.While = true
is_statement_word k.With = true
is_statement_word _ = false

-- of declarations
abbrev pub is_declaration_word : Kind → Bool
is_declaration_word k.Class = true
is_declaration_word k.Const = true
is_declaration_word k.Enum = true
is_declaration_word k.Export = true
is_declaration_word k.Extends = true
is_declaration_word k.Function = true
is_declaration_word k.Import = true
is_declaration_word k.Let = true
is_declaration_word k.Static = true
is_declaration_word k.Var = true
is_declaration_word _ = false

-- of expressions
abbrev pub is_expression_word : Kind → Bool
is_expression_word k.Await = true
is_expression_word k.Delete = true
is_expression_word k.False = true
is_expression_word k.In = true
is_expression_word k.Instanceof = true
is_expression_word k.New = true
is_expression_word k.Null = true
is_expression_word k.Super = true
is_expression_word k.This = true
is_expression_word k.True = true
is_expression_word k.Typeof = true
is_expression_word k.Void = true
is_expression_word k.Yield = true
is_expression_word _ = false

-- that strict rules alone reserve
abbrev pub is_strict_word : Kind → Bool
is_strict_word k.Implements = true
is_strict_word k.Interface = true
is_strict_word k.Package = true
is_strict_word k.Private = true
is_strict_word k.Protected = true
is_strict_word k.Public = true
is_strict_word _ = false

-- IdentifierName (11.6): a name or any reserved word
abbrev pub is_identifier_name : Kind → Bool
is_identifier_name k.Name = true
is_identifier_name kind = is_statement_word kind || (is_declaration_word kind || (is_expression_word kind || is_strict_word kind))

-- LiteralPropertyName (12.2.6)
abbrev pub is_property_word : Kind → Bool
is_property_word k.Text = true
is_property_word k.Number = true
is_property_word k.BigInt = true
is_property_word kind = is_identifier_name kind

-- the operators of UpdateExpression (12.4)
abbrev pub is_update : Kind → Bool
is_update k.PlusPlus = true
is_update k.MinusMinus = true
is_update _ = false

-- LetOrConst (13.3.1)
abbrev pub is_lexical : Kind → Bool
is_lexical k.Let = true
is_lexical k.Const = true
is_lexical _ = false

-- what goes on with a chain of members and calls (12.3)
abbrev pub begins_link : Kind → Bool
begins_link k.LeftParenthesis = true
begins_link k.LeftBracket = true
begins_link k.Dot = true
begins_link k.QuestionDot = true
begins_link k.TemplateWhole = true
begins_link k.TemplateHead = true
begins_link _ = false

-- What goes on with a complete expression, also on the next line.
abbrev pub goes_on : Kind → Bool
goes_on k.Comma = true
goes_on k.Question = true
goes_on kind = begins_link kind || is_assignment kind || nat_lt 0 (level_of true kind)

abbrev pub is_comma : Kind → Bool
is_comma k.Comma = true
is_comma _ = false

abbrev pub is_semicolon : Kind → Bool
is_semicolon k.Semicolon = true
is_semicolon _ = false

abbrev pub is_right_brace : Kind → Bool
is_right_brace k.RightBrace = true
is_right_brace _ = false

abbrev pub is_end : Kind → Bool
is_end k.End = true
is_end _ = false

abbrev pub is_left_brace : Kind → Bool
is_left_brace k.LeftBrace = true
is_left_brace _ = false

abbrev pub is_left_bracket : Kind → Bool
is_left_bracket k.LeftBracket = true
is_left_bracket _ = false

abbrev pub is_star : Kind → Bool
is_star k.Star = true
is_star _ = false

abbrev pub is_assign : Kind → Bool
is_assign k.Assign = true
is_assign _ = false

abbrev pub is_let : Kind → Bool
is_let k.Let = true
is_let _ = false

abbrev pub is_function : Kind → Bool
is_function k.Function = true
is_function _ = false

abbrev pub is_class : Kind → Bool
is_class k.Class = true
is_class _ = false

abbrev pub is_name : Kind → Bool
is_name k.Name = true
is_name _ = false

abbrev pub is_static : Kind → Bool
is_static k.Static = true
is_static _ = false
