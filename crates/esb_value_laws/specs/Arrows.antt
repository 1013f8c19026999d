-- Arrow functions (ECMA-262, 14.2 and 14.8), over readers of their lists and bodies.
use Rattle.std.specs.Prelude.{ℕ, Bool, not, ◌&&◌, [], ◌∷◌}
use Rattle.esb_token.specs.declared.token.Token.{Token}
use Rattle.esb_token.specs.declared.goal.Goal.TheVariants as goal
use Rattle.esb_tree.specs.declared.expressions.Expression.{Expression}
use Rattle.esb_tree.specs.declared.expressions.Expression.TheVariants as e
use Rattle.esb_tree.specs.declared.expressions.Link.TheVariants as l
use Rattle.esb_tree.specs.declared.functions.ConciseBody.{ConciseBody}
use Rattle.esb_tree.specs.declared.patterns.Bracketed.{Bracketed}
use Rattle.esb_grammar.specs.declared.context.Context.{Context}
use Rattle.esb_grammar.specs.Kinds.{is_reference, is_binding}
use Rattle.esb_grammar.specs.Words.{is_async}
use Rattle.esb_reader.specs.declared.node.Node.{Node}
use Rattle.esb_reader.specs.Places.{Text}
use Rattle.esb_reader.specs.Reader.{Reader}
use Rattle.esb_reader.specs.Parts.{behind, token_in, both, made, above}
use Rattle.esb_assignment_laws.specs.Values.{is_arrow}
use Rattle.esb_literal_laws.specs.Forks.{guard, second, reads_before, on_one_line}

-- ---- tokens

abbrev pub is_arrow_on_line : Token → Bool
is_arrow_on_line t = is_arrow t.kind && not t.after_line

abbrev pub is_name_on_line : Token → Bool
is_name_on_line t = is_binding t.kind && not t.after_line

abbrev pub refers : Context → Token → Bool
refers c t = is_reference c t.kind

-- the token behind the next two
abbrev pub third : Text → ℕ → Token
third text i = behind text (second text i).end

-- ---- what is made of parts

abbrev pub make_call : Token × Bracketed → Expression
make_call p = e.Member (e.Primary p.0) (l.Call p.1 ∷ [])

abbrev pub make_arrow : Expression × (Token × ConciseBody) → Expression
make_arrow p = e.Arrow p.0 p.1.0 p.1.1

abbrev pub make_async_arrow : Token × (Token × (Token × ConciseBody)) → Expression
make_async_arrow p = e.AsyncArrow p.0 p.1.0 p.1.1.0 p.1.1.1

-- ---- heads, where `arguments` reads Arguments

unfoldable pub head_name : Text → Context → Reader (Node Expression)
head_name text c = made e.Primary 0 (token_in text goal.Div (refers c))

unfoldable pub head_list : ℕ → Reader (Node Bracketed) → Reader (Node Expression)
head_list n arguments = above n e.Parenthesized arguments

unfoldable pub head_call : Text → ℕ → Reader (Node Bracketed) → Reader (Node Expression)
head_call text n arguments = above n make_call (both (token_in text goal.Div (is_async text)) (guard (on_one_line text) arguments))

-- ---- the functions

unfoldable pub arrow : Text → ℕ → Reader (Node Expression) → Reader (Node ConciseBody) → Reader (Node Expression)
arrow text n head body = above n make_arrow (both head (both (token_in text goal.Div is_arrow_on_line) body))

unfoldable pub async_arrow : Text → ℕ → Reader (Node ConciseBody) → Reader (Node Expression)
async_arrow text n body = above n make_async_arrow (both (token_in text goal.Div (is_async text)) (both (token_in text goal.Div is_name_on_line) (both (token_in text goal.Div is_arrow_on_line) body)))

-- ---- where they stand

-- `async`, a name and `=>` on one line
unfoldable pub at_async_name : Text → ℕ → Bool
at_async_name text i = is_async text (behind text i) && (is_name_on_line (second text i) && is_arrow_on_line (third text i))

-- a name and `=>` on its line
unfoldable pub at_name : Text → Context → ℕ → Bool
at_name text c i = refers c (behind text i) && is_arrow_on_line (second text i)

-- what a reader reads, and `=>` on its line
unfoldable pub before_arrow : Text → Reader (Node Expression) → ℕ → Bool
before_arrow text head i = reads_before text is_arrow_on_line head i
