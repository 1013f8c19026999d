-- What is seen where an expression without `yield` or an arrow stands.
use Rattle.std.proofs.Common.{◌≡◌, ◌⊎◌, inl, inr, ℕ, Bool, true, List, ◌++◌, refl, ap, ◌∙◌}
use Rattle.esb_token.specs.declared.kind.Kind.{Kind}
use Rattle.esb_token.specs.declared.token.Token.{Token}
use Rattle.esb_token.specs.Tokens.{SpelledBetween}
use Rattle.esb_tree.specs.declared.expressions.Expression.{Expression}
use Rattle.esb_tree.specs.Trees.{written}
use Rattle.esb_tree.specs.Yields.{tokens_of_expression}
use Rattle.esb_tree.proofs.TokenLines.{tokens_Conditional, tokens_Assignment}
use Rattle.esb_grammar.specs.declared.context.Context.{Context}
use Rattle.esb_grammar.specs.Grammar.{IsConditional, short_circuit, conditional}
use Rattle.esb_reader.specs.Places.{Text}
use Rattle.esb_reader.specs.Parts.{behind}
use Rattle.esb_operator_laws.proofs.TokenTests.{or_left}
use Rattle.esb_first_tokens.specs.First.{begins_left, begins_unary, Begins, shows}
use Rattle.esb_first_tokens.proofs.Firsts.{binary_begins, left_begins}
use Rattle.esb_first_tokens.proofs.Seen.{Plain, shown}
use Rattle.esb_assignment_laws.specs.Laws.{IsAssigned, assigns}

-- more tokens behind the first
more_behind : (test : Kind → Bool) (ts us vs : List Token) → vs ≡ ts ++ us → Begins test ts → Begins test vs
more_behind test ts us vs is b = record { first = b.first; rest = b.rest ++ us; is = is ∙ ap (λ xs. xs ++ us) b.is; kind = b.kind }

left_unary : (c : Context) (ts : List Token) → Begins (begins_left c) ts → Begins (begins_unary c) ts
left_unary c ts b = record { first = b.first; rest = b.rest; is = b.is; kind = or_left _ _ b.kind }

plain_unary : (c : Context) → Plain (begins_unary c)
plain_unary c = record { no_end = refl; no_middle = refl; no_tail = refl }

plain_begins : (text : Text) (c : Context) (x : Expression) → IsConditional text c x ⊎ IsAssigned text c x → Begins (begins_unary c) (tokens_of_expression written x)
plain_begins text c x (inl (short_circuit h)) = binary_begins text h
plain_begins text c x (inl (conditional {test = test} {question = question} {x = y} {colon = colon} {other = other} h1 h2 h3 h4 h5)) = more_behind (begins_unary c) (tokens_of_expression written test) _ _ (tokens_Conditional written test question y colon other) (binary_begins text h1)
plain_begins text c x (inr (assigns {target = target} {operator = operator} {x = y} h1 h2 h3)) = more_behind (begins_unary c) (tokens_of_expression written target) _ _ (tokens_Assignment written target operator y) (left_unary c (tokens_of_expression written target) (left_begins text h1))

pub plain_shows : (text : Text) (c : Context) (x : Expression) (i j : ℕ) → IsConditional text c x ⊎ IsAssigned text c x → SpelledBetween text i (tokens_of_expression written x) j → shows (begins_unary c) (behind text i).kind ≡ true
plain_shows text c x i j good h = shown (begins_unary c) (plain_unary c) text (tokens_of_expression written x) i j (plain_begins text c x good) h
