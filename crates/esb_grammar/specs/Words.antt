-- Words that mean something in a place, and tokens on one line.
use Rattle.std.specs.Prelude.{ℕ, ◌-◌, Bool, true, false, not, ◌&&◌, ◌||◌, nat_eq, List, [], ◌∷◌, take, drop, Option, Some, None, codes}
use Rattle.std.specs.Cmp.Lexicographic.{pointwise}
use Rattle.esb_token.specs.declared.kind.Kind.{Kind}
use Rattle.esb_token.specs.declared.token.Token.{Token}
use Rattle.esb_tree.specs.Yields.{Tokens}
use Rattle.esb_grammar.specs.Kinds.{is_name, is_let, is_function, is_class, is_left_brace, is_left_bracket}

-- whether a token is a name that is written so, without escapes
unfoldable pub is_word : List ℕ → List ℕ → Token → Bool
is_word text word t = is_name t.kind && pointwise nat_eq (take (t.end - t.start) (drop t.start text)) word

abbrev pub is_async : List ℕ → Token → Bool
is_async text t = is_word text (codes "async") t

-- a token that may be absent
abbrev pub if_there : (Token → Bool) → Option Token → Bool
if_there test None = true
if_there test (Some t) = test t

-- and its kind
abbrev pub kind_if_there : (Kind → Bool) → Option Token → Bool
kind_if_there test None = true
kind_if_there test (Some t) = test t.kind

-- no line terminator stands before the first token
abbrev pub on_line : Tokens → Bool
on_line [] = true
on_line (t ∷ ts) = not t.after_line

-- behind a word that may be absent
abbrev pub on_line_behind : Option Token → Tokens → Bool
on_line_behind None ts = true
on_line_behind (Some word) ts = on_line ts

-- ---- forbidden first tokens

-- `{` (14.2)
abbrev pub begins_brace : Tokens → Bool
begins_brace [] = false
begins_brace (t ∷ ts) = is_left_brace t.kind

-- `let` (13.7.5)
abbrev pub begins_let : Tokens → Bool
begins_let [] = false
begins_let (t ∷ ts) = is_let t.kind

abbrev pub begins_bracket : Tokens → Bool
begins_bracket [] = false
begins_bracket (t ∷ ts) = is_left_bracket t.kind

-- `let [` (13.5, 13.7.4, 13.7.5)
abbrev pub begins_let_bracket : Tokens → Bool
begins_let_bracket [] = false
begins_let_bracket (t ∷ ts) = is_let t.kind && begins_bracket ts

abbrev pub begins_function : Tokens → Bool
begins_function [] = false
begins_function (t ∷ ts) = is_function t.kind && not t.after_line

-- `function`, `class`, and `async function` on one line (13.5, 15.2.3)
abbrev pub begins_declaration : List ℕ → Tokens → Bool
begins_declaration text [] = false
begins_declaration text (t ∷ ts) = is_function t.kind || is_class t.kind || (is_async text t && begins_function ts)

-- what an ExpressionStatement may not begin with (13.5)
abbrev pub begins_no_expression : List ℕ → Tokens → Bool
begins_no_expression text ts = begins_brace ts || begins_let_bracket ts || begins_declaration text ts
