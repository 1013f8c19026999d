-- Where the semicolon at the end of a statement may be left out.
use Rattle.std.specs.Prelude.{◌≡◌, ℕ, Bool, true, false, not, ◌&&◌, ◌||◌, if◌then◌else◌, List, [], ◌∷◌, Option, Some, None, Result, Ok, Err, codes}
use Rattle.esb_token.specs.declared.kind.Kind.{Kind}
use Rattle.esb_token.specs.declared.kind.Kind.TheVariants as k
use Rattle.esb_token.specs.declared.token.Token.{Token}
use Rattle.esb_token.specs.declared.goal.Goal.TheVariants as goal
use Rattle.esb_token.specs.Tokens.{next}
use Rattle.esb_tree.specs.declared.expressions.Expression.{Expression}
use Rattle.esb_tree.specs.declared.patterns.Elements.{Elements}
use Rattle.esb_tree.specs.Trees.{written}
use Rattle.esb_tree.specs.Yields.{Tokens, tokens_of_expression}
use Rattle.esb_grammar.specs.Kinds.{goes_on, begins_link, is_update, is_binding, is_comma, is_assign, is_semicolon, is_right_brace, is_left_brace, is_end, is_let}
use Rattle.esb_grammar.specs.Edges.{ends_assignment, is_token, last_binding}
use Rattle.esb_grammar.specs.Words.{is_word}

-- where tokens end, which begin at a place
abbrev pub end_from : ℕ → Tokens → ℕ
end_from at [] = at
end_from at (t ∷ ts) = end_from t.end ts

abbrev pub ends_with : (Kind → Bool) → Tokens → Bool
ends_with test [] = false
ends_with test (t ∷ []) = test t.kind
ends_with test (t ∷ ts) = ends_with test ts

abbrev pub is_one : (Kind → Bool) → Tokens → Bool
is_one test [] = false
is_one test (t ∷ []) = test t.kind
is_one test (t ∷ ts) = false

-- ---- what goes on with what stands before it

-- Whether tokens that are an expression go on with a token. Behind a block of an arrow function and behind a `yield` without an
-- operand only a comma does; behind `++` and `--` no link does.
abbrev pub tokens_go_on : Bool → Tokens → Kind → Bool
tokens_go_on ends ts kind =
    if ends then is_comma kind
    else if ends_with is_update ts then goes_on kind && not (begins_link kind)
    else goes_on kind

unfoldable pub expression_goes_on : Expression → Token → Bool
expression_goes_on x t = tokens_go_on (ends_assignment x) (tokens_of_expression written x) t.kind

-- An expression that is a statement. Where it is `let` alone, it would be a declaration with what may be bound behind it.
unfoldable pub statement_goes_on : Expression → Token → Bool
statement_goes_on x t = expression_goes_on x t || (is_one is_let (tokens_of_expression written x) && (is_binding t.kind || is_left_brace t.kind))

-- a binding without a value, or its value
abbrev pub binding_goes_on : Option Expression → Token → Bool
binding_goes_on None t = false
binding_goes_on (Some x) t = if is_token x then is_comma t.kind || is_assign t.kind else expression_goes_on x t

unfoldable pub bindings_go_on : Elements → Token → Bool
bindings_go_on list t = binding_goes_on (last_binding list) t

abbrev pub nothing_goes_on : Token → Bool
nothing_goes_on t = false

-- `export` of names, which may be those of a module
abbrev pub from_goes_on : List ℕ → Token → Bool
from_goes_on text t = is_word text (codes "from") t

-- ---- the end of a statement

-- a token before which a semicolon may be left out, where it does not go on with what stands before it
abbrev pub lets_end : (Token → Bool) → Result Token ℕ → Bool
lets_end on (Err at) = false
lets_end on (Ok t) = (not (on t) && not (is_semicolon t.kind)) && (t.after_line || is_right_brace t.kind || is_end t.kind)

-- The semicolon behind a statement's tokens: one is there, or may be left out.
abbrev pub Ends : List ℕ → (Token → Bool) → Tokens → Option Token → Type 0
Ends text on ts (Some semicolon) = semicolon.kind ≡ k.Semicolon
Ends text on ts None = lets_end on (next text (end_from 0 ts) goal.Div) ≡ true

abbrev pub is_other : Result Token ℕ → Bool
is_other (Err at) = false
is_other (Ok t) = not (is_semicolon t.kind)

-- the same behind `do` `while`, where one may be left out before each other token
abbrev pub EndsLoop : List ℕ → Tokens → Option Token → Type 0
EndsLoop text ts (Some semicolon) = semicolon.kind ≡ k.Semicolon
EndsLoop text ts None = is_other (next text (end_from 0 ts) goal.Div) ≡ true
