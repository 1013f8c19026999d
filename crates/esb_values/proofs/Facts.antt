-- Lists in parentheses may be read first where PrimaryExpressions and Arguments are read as they are defined.
use Rattle.std.proofs.Common.{◌≡◌, ℕ, ◌+◌, nat_lt, Bool, true, false, ◌||◌, Option, Some, None, refl, ap, sym, ◌∙◌}
use Rattle.esb_token.specs.declared.kind.Kind.{Kind}
use Rattle.esb_token.specs.declared.kind.Kind.TheVariants as k
use Rattle.esb_token.specs.declared.token.Token.{Token}
use Rattle.esb_token.specs.declared.goal.Goal.TheVariants as goal
use Rattle.esb_tree.specs.declared.classes.Class.{Class}
use Rattle.esb_tree.specs.declared.expressions.Expression.{Expression}
use Rattle.esb_tree.specs.declared.expressions.Expression.TheVariants as e
use Rattle.esb_tree.specs.declared.expressions.Substitutions.{Substitutions}
use Rattle.esb_tree.specs.declared.functions.Function.{Function}
use Rattle.esb_tree.specs.declared.patterns.Bracketed.{Bracketed}
use Rattle.esb_grammar.specs.declared.context.Context.{Context}
use Rattle.esb_grammar.specs.declared.form.Form.TheVariants as f
use Rattle.esb_grammar.specs.Kinds.{is_class, is_function, is_left_brace, is_left_bracket, is_name}
use Rattle.esb_grammar.specs.Words.{is_async}
use Rattle.esb_reader.specs.declared.node.Node.{Node}
use Rattle.esb_reader.specs.Kinds.{same_kind, agrees}
use Rattle.esb_reader.specs.Places.{Text, token_at, peek, or_nothing}
use Rattle.esb_reader.specs.Reader.{Reader, and_then, with_end, take, expect, choose, pure, fail, node}
use Rattle.esb_reader.specs.Parts.{behind, token, such, above}
use Rattle.esb_reader.proofs.Agreeing.{spelled-is_read, read-is_spelled}
use Rattle.esb_reader.proofs.SameKind.{same_kind-is}
use Rattle.esb_reading_laws.proofs.Steps.{if_goes, if_not}
use Rattle.esb_expression_laws.specs.Leaves.{leaf}
use Rattle.esb_expression_laws.specs.Lists.{bracketed}
use Rattle.esb_access_laws.specs.Links.{is_left_parenthesis, is_head}
use Rattle.esb_literal_laws.specs.Forks.{second}
use Rattle.esb_value_laws.specs.Once.{is_plain_list}
use Rattle.esb_value_laws.specs.Primaries.{is_function_on_line, at_function, bracket_or_leaf, primary}
use Rattle.esb_value_laws.proofs.OnceRules.{once_rule}
use Rattle.esb_values.specs.ListsFirst.{ListsFirst}
use Rattle.esb_values.proofs.Tokens.{is_parenthesis, and_first, and_second, none_first, none_second, async_kind, no_async}

or_false : (a b : Bool) → a ≡ false → b ≡ false → (a || b) ≡ false
or_false true b h g = cc
or_false false b h g = g

not_same : (kind : Kind) (same : Bool) → same_kind kind k.LeftParenthesis ≡ same → is_left_parenthesis kind ≡ false → same ≡ false
not_same kind true h g = sym (ap is_left_parenthesis (same_kind-is _ _ h)) ∙ g
not_same kind false h g = refl

-- where another token is seen, none of a kind is read
unread_of : (o : Option Token) → is_left_parenthesis (or_nothing o).kind ≡ false → and_then (with_end o) (λ t. choose (same_kind t.kind k.LeftParenthesis) (pure t) fail) ≡ None
unread_of None h = refl
unread_of (Some t) h = if_not _ _ _ (not_same t.kind (same_kind t.kind k.LeftParenthesis) refl h)

unread : (text : Text) (i : ℕ) → is_left_parenthesis (behind text i).kind ≡ false → expect text k.LeftParenthesis i ≡ None
unfolding expect take peek
unread text i h = unread_of (token_at text goal.Div i) h

no_list : (text : Text) (inner : Reader (Node Expression)) (i : ℕ) → is_left_parenthesis (behind text i).kind ≡ false → bracketed text f.Arguments inner i ≡ None
unfolding bracketed
no_list text inner i h = rw (unread text i h) refl

-- a name is read under each goal
name_of : (text : Text) (i : ℕ) (o : Option Token) → token_at text goal.Div i ≡ o → (or_nothing o).kind ≡ k.Name → token_at text goal.RegExp i ≡ Some (or_nothing o)
name_of text i None h kind = cc
name_of text i (Some t) h kind = spelled-is_read text goal.RegExp i t (read-is_spelled text goal.Div i t h (ap (agrees goal.Div) kind)) (ap (agrees goal.RegExp) kind)

name_read : (text : Text) (i : ℕ) → (behind text i).kind ≡ k.Name → token_at text goal.RegExp i ≡ Some (behind text i)
unfolding peek
name_read text i kind = name_of text i (token_at text goal.Div i) refl kind

name_leaf : (text : Text) (c : Context) (i : ℕ) → (behind text i).kind ≡ k.Name → leaf text c i ≡ Some (node (e.Primary (behind text i)) 0, (behind text i).end)
unfolding leaf take
name_leaf text c i kind = rw (name_read text i kind, kind) refl

module _ (text : Text) (c : Context) (inner : ℕ → Reader (Node Expression)) (array object : ℕ → Reader (Node Bracketed)) (template : ℕ → Reader (Node Substitutions)) (function : ℕ → Reader (Node Function)) (class : ℕ → Reader (Node Class)) where
  abbrev primary_of : ℕ → Reader (Node Expression)
  primary_of n = primary text c n (bracketed text f.Values (inner n)) (array n) (object n) (template n) (function n) (class n)

  abbrev arguments_of : ℕ → Reader (Node Bracketed)
  arguments_of n = bracketed text f.Arguments (inner n)

  listed_by : (n i : ℕ) → is_left_parenthesis (behind text i).kind ≡ true → primary_of n i ≡ above n e.Parenthesized (bracketed text f.Values (inner n)) i
  unfolding primary bracket_or_leaf at_function
  listed_by n i seen =
      let kind = is_parenthesis (behind text i).kind seen in
      if_not _ _ _ (or_false _ _ (ap is_function kind) (none_first _ _ (no_async text (behind text i) (ap is_name kind)))) ∙ if_goes _ _ _ seen

  named_by : (n i : ℕ) → is_async text (behind text i) ≡ true → is_left_parenthesis (second text i).kind ≡ true → primary_of n i ≡ leaf text c i
  unfolding primary bracket_or_leaf at_function
  named_by n i called seen =
      let kind = async_kind text (behind text i) called in
      let next = is_parenthesis (second text i).kind seen in
      if_not _ _ _ (or_false _ _ (ap is_function kind) (none_second _ _ (none_first _ _ (ap is_function next))))
      ∙ if_not _ _ _ (ap is_left_parenthesis kind) ∙ if_not _ _ _ (ap is_left_bracket kind) ∙ if_not _ _ _ (ap is_left_brace kind) ∙ if_not _ _ _ (ap is_class kind) ∙ if_not _ _ _ (ap is_head kind)

  pub lists_first : (n : ℕ) → ListsFirst text primary_of arguments_of n
  lists_first n = record {
    begins = no_list text (inner n);
    listed = λ i seen. listed_by n i seen ∙ ap (λ r. and_then r (λ a j. choose (nat_lt a.levels n) (pure (node (e.Parenthesized a.tree) (a.levels + 1))) fail j)) (once_rule text (inner n) i);
    named = λ i h. let called = and_first _ _ h in named_by n i called (and_second _ _ h) ∙ name_leaf text c i (async_kind text (behind text i) called);
  }
