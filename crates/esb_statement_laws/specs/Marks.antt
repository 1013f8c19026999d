-- The tokens by which statements are told apart, and at which they end.
use Rattle.std.specs.Prelude.{ℕ, Bool, true, false, not, ◌&&◌, ◌||◌, if◌then◌else◌, codes}
use Rattle.esb_token.specs.declared.kind.Kind.{Kind}
use Rattle.esb_token.specs.declared.kind.Kind.TheVariants as k
use Rattle.esb_token.specs.declared.token.Token.{Token}
use Rattle.esb_tree.specs.declared.statements.Statement.{Statement}
use Rattle.esb_tree.specs.Operators.{is_unary}
use Rattle.esb_grammar.specs.declared.context.Context.{Context}
use Rattle.esb_grammar.specs.Edges.{takes_else}
use Rattle.esb_grammar.specs.Kinds.{is_identifier, is_reference, is_binding, is_literal, is_function, is_semicolon, is_right_brace, is_end}
use Rattle.esb_grammar.specs.Words.{is_word, is_async}
use Rattle.esb_reader.specs.Places.{Text}
use Rattle.esb_reader.specs.Parts.{behind}
use Rattle.esb_statement_laws.specs.declared.sort.Sort.{Sort}
use Rattle.esb_statement_laws.specs.declared.sort.Sort.TheVariants as o

abbrev pub is_else : Kind → Bool
is_else k.Else = true
is_else _ = false

abbrev pub is_if_word : Kind → Bool
is_if_word k.If = true
is_if_word _ = false

abbrev pub is_colon : Kind → Bool
is_colon k.Colon = true
is_colon _ = false

abbrev pub is_case : Kind → Bool
is_case k.Case = true
is_case _ = false

abbrev pub is_clause : Kind → Bool
is_clause k.Case = true
is_clause k.Default = true
is_clause _ = false

abbrev pub is_catch : Kind → Bool
is_catch k.Catch = true
is_catch _ = false

abbrev pub is_finally : Kind → Bool
is_finally k.Finally = true
is_finally _ = false

abbrev pub is_parenthesis : Kind → Bool
is_parenthesis k.LeftParenthesis = true
is_parenthesis _ = false

abbrev pub is_in : Kind → Bool
is_in k.In = true
is_in _ = false

abbrev pub is_arrow : Kind → Bool
is_arrow k.Arrow = true
is_arrow _ = false

abbrev pub is_of : Text → Token → Bool
is_of text t = is_word text (codes "of") t

-- ---- expressions

-- with which an expression begins
abbrev pub begins_expression : Kind → Bool
begins_expression k.LeftParenthesis = true
begins_expression k.LeftBracket = true
begins_expression k.LeftBrace = true
begins_expression k.TemplateHead = true
begins_expression k.Function = true
begins_expression k.Class = true
begins_expression k.New = true
begins_expression k.Super = true
begins_expression k.Import = true
begins_expression k.PlusPlus = true
begins_expression k.MinusMinus = true
begins_expression k.Await = true
begins_expression k.Yield = true
begins_expression kind = is_identifier kind || is_literal kind || is_unary kind

-- that end each expression, wherever they stand
abbrev pub ends_expression : Kind → Bool
ends_expression k.RightParenthesis = true
ends_expression k.RightBracket = true
ends_expression k.RightBrace = true
ends_expression k.Semicolon = true
ends_expression k.Colon = true
ends_expression k.End = true
ends_expression _ = false

-- with which what is bound begins
abbrev pub begins_target : Kind → Bool
begins_target k.LeftBracket = true
begins_target k.LeftBrace = true
begins_target kind = is_binding kind

-- ---- statements

-- with which a Statement begins
abbrev pub begins_statement : Kind → Bool
begins_statement k.Var = true
begins_statement k.Semicolon = true
begins_statement k.If = true
begins_statement k.Do = true
begins_statement k.While = true
begins_statement k.For = true
begins_statement k.Continue = true
begins_statement k.Break = true
begins_statement k.Return = true
begins_statement k.Switch = true
begins_statement k.Throw = true
begins_statement k.Try = true
begins_statement k.Debugger = true
begins_statement k.Const = true
begins_statement kind = begins_expression kind

-- which stand behind a list of statements
abbrev pub ends_items : Kind → Bool
ends_items k.RightBrace = true
ends_items k.Case = true
ends_items k.Default = true
ends_items k.End = true
ends_items _ = false

-- which follow no statement: a name alone before `:` is a label, and `catch` and `finally` belong to the `try` before them
abbrev pub never_follows : Kind → Bool
never_follows k.Colon = true
never_follows k.Catch = true
never_follows k.Finally = true
never_follows _ = false

-- A token with which a statement may begin. The others end a list of statements, whatever they belong to.
abbrev pub begins_item : Kind → Bool
begins_item k.Else = false
begins_item kind = not (ends_items kind || never_follows kind)

-- An `else` is not left behind a statement in which an `if` could take it (13.6).
abbrev pub nearest : Bool → Token → Bool
nearest takes t = not (takes && is_else t.kind)

-- A statement stops before a token unless that is an `else` of an `if` in it, or follows no statement.
abbrev pub stops_before : Bool → Token → Bool
stops_before takes t = not (never_follows t.kind) && nearest takes t

abbrev pub statement_stops : Statement → Token → Bool
statement_stops x t = stops_before (takes_else x) t

-- a label, and what is none since it stands on the next line
abbrev pub is_label : Context → Token → Bool
is_label c t = is_reference c t.kind && not t.after_line

-- behind `return`, where no expression stands
abbrev pub returns_nothing : Token → Bool
returns_nothing t = t.after_line || (is_semicolon t.kind || (is_right_brace t.kind || is_end t.kind))

-- ---- what a statement is

-- by a name and the token behind it
abbrev pub named_sort : Text → Context → Token → Token → Sort
named_sort text c t u =
    if is_reference c t.kind && is_colon u.kind then o.Labelled
    else if is_async text t && (is_function u.kind && not u.after_line) then o.Function
    else o.Expression

abbrev pub let_sort : Text → Context → Token → Token → Sort
let_sort text c t u = if begins_target u.kind then o.Lexical else named_sort text c t u

abbrev pub sort_by : Text → Context → Kind → Token → Token → Sort
sort_by text c k.LeftBrace t u = o.Block
sort_by text c k.Var t u = o.Variables
sort_by text c k.Const t u = o.Lexical
sort_by text c k.Let t u = let_sort text c t u
sort_by text c k.Semicolon t u = o.Empty
sort_by text c k.If t u = o.If
sort_by text c k.Do t u = o.Do
sort_by text c k.While t u = o.While
sort_by text c k.For t u = o.For
sort_by text c k.Continue t u = o.Continue
sort_by text c k.Break t u = o.Break
sort_by text c k.Return t u = o.Return
sort_by text c k.Switch t u = o.Switch
sort_by text c k.Throw t u = o.Throw
sort_by text c k.Try t u = o.Try
sort_by text c k.Debugger t u = o.Debugger
sort_by text c k.Function t u = o.Function
sort_by text c k.Class t u = o.Class
sort_by text c _ t u = named_sort text c t u

-- by its first two tokens
unfoldable pub sort_of : Text → Context → Token → Token → Sort
sort_of text c t u = sort_by text c t.kind t u

-- at a place of a text
abbrev pub sort_at : Text → Context → ℕ → Sort
sort_at text c i = sort_of text c (behind text i) (behind text (behind text i).end)
