-- What is seen where an expression stands.
use Rattle.std.proofs.Common.{◌≡◌, ℕ, ◌⊎◌, inl, inr, Bool, true, false, not, ◌||◌, List, ◌∷◌, refl, ap, sym, ◌∙◌, subst}
use Rattle.esb_token.specs.declared.kind.Kind.{Kind}
use Rattle.esb_token.specs.declared.kind.Kind.TheVariants as k
use Rattle.esb_token.specs.declared.token.Token.{Token}
use Rattle.esb_token.specs.declared.goal.Goal.TheVariants as goal
use Rattle.esb_token.specs.Goals.{goal_of, is_division}
use Rattle.esb_token.specs.Tokens.{next, SpelledBetween}
use Rattle.esb_grammar.specs.declared.context.Context.{Context}
use Rattle.esb_grammar.specs.Kinds.{is_comma}
use Rattle.esb_reader.specs.Kinds.{agrees}
use Rattle.esb_reader.specs.Places.{Text}
use Rattle.esb_reader.specs.Parts.{behind}
use Rattle.esb_reader.proofs.Agreeing.{seen, spelled-is_read, reg_exp-shows_slash}
use Rattle.std.specs.Prelude.{Ok}
use Rattle.esb_expression_laws.specs.Lists.{is_closer, is_dots}
use Rattle.esb_operator_laws.specs.Unary.{is_prefix}
use Rattle.esb_operator_laws.proofs.TokenTests.{or_left, or_right}
use Rattle.esb_first_tokens.specs.First.{begins_primary, begins_left, begins_value, Begins, shows}
use Rattle.esb_first_tokens.specs.Laws.{Shows, ValueIsNoEnd, LeftIsNoPrefix}
use Rattle.esb_grammar.specs.Grammar.{IsPrimary, IsNew, IsLeftHandSide, IsAssignment, IsExpression}
use Rattle.esb_first_tokens.proofs.Firsts.{primary_begins, new_begins, left_begins, value_begins, expression_begins}

-- no expression begins with the end, or with a later part of a template
pub record Plain (test : Kind → Bool) : Type 0 where
  pub no_end : test k.End ≡ false
  pub no_middle : test k.TemplateMiddle ≡ false
  pub no_tail : test k.TemplateTail ≡ false

agreed : (test : Kind → Bool) → Plain test → (kind : Kind) → test kind ≡ true → (kind ≡ k.RegExp → ⊥) → agrees goal.Div kind ≡ true
agreed test p k.End h other = let bad : false ≡ true = sym p.no_end ∙ h in cc
agreed test p k.RegExp h other = absurd (other refl)
agreed test p k.TemplateMiddle h other = let bad : false ≡ true = sym p.no_middle ∙ h in cc
agreed test p k.TemplateTail h other = let bad : false ≡ true = sym p.no_tail ∙ h in cc
agreed test p _ h other = refl

is_reg_exp : (kind : Kind) → (kind ≡ k.RegExp) ⊎ (kind ≡ k.RegExp → ⊥)
is_reg_exp k.RegExp = inl refl
is_reg_exp _ = inr (λ h. cc)

pub shown : (test : Kind → Bool) → Plain test → (text : Text) (ts : List Token) (i j : ℕ) → Begins test ts → SpelledBetween text i ts j → shows test (behind text i).kind ≡ true
shown test p text ts i j b h = by_kind (is_reg_exp b.first.kind)
  where
    spelled : SpelledBetween text i (b.first ∷ b.rest) j
    spelled = subst (λ us. SpelledBetween text i us j) b.is h

    by_kind : (b.first.kind ≡ k.RegExp) ⊎ (b.first.kind ≡ k.RegExp → ⊥) → shows test (behind text i).kind ≡ true
    by_kind (inl is) = or_left _ _ (reg_exp-shows_slash text i b.first (subst (λ kind. next text i (goal_of kind) ≡ Ok b.first) is spelled.0) is)
    by_kind (inr other) =
        or_right (is_division (behind text i).kind) _ (ap (λ (t : Token). test t.kind) (seen text goal.Div i b.first (spelled-is_read text goal.Div i b.first spelled.0 (agreed test p b.first.kind b.kind other))) ∙ b.kind)

plain_primary : (c : Context) → Plain (begins_primary c)
plain_primary c = record { no_end = refl; no_middle = refl; no_tail = refl }

pub primary_shows : Shows begins_primary IsPrimary
primary_shows text c x i j good h = shown (begins_primary c) (plain_primary c) text _ i j (primary_begins text good) h

plain_left : (c : Context) → Plain (begins_left c)
plain_left c = record { no_end = refl; no_middle = refl; no_tail = refl }

plain_value : (c : Context) → Plain (begins_value c)
plain_value c = record { no_end = refl; no_middle = refl; no_tail = refl }

pub new_shows : Shows begins_left IsNew
new_shows text c x i j good h = shown (begins_left c) (plain_left c) text _ i j (new_begins text good) h

pub left_shows : Shows begins_left IsLeftHandSide
left_shows text c x i j good h = shown (begins_left c) (plain_left c) text _ i j (left_begins text good) h

pub value_shows : Shows begins_value IsAssignment
value_shows text c x i j good h = shown (begins_value c) (plain_value c) text _ i j (value_begins text good) h

pub expression_shows : Shows begins_value IsExpression
expression_shows text c x i j good h = shown (begins_value c) (plain_value c) text _ i j (expression_begins text good) h

no_end_of : (c : Context) (kind : Kind) → shows (begins_value c) kind ≡ true → ((is_comma kind || is_closer kind) || is_dots kind) ≡ false
no_end_of c k.Comma h = cc
no_end_of c k.RightParenthesis h = cc
no_end_of c k.RightBracket h = cc
no_end_of c k.RightBrace h = cc
no_end_of c k.Ellipsis h = cc
no_end_of c _ h = refl

pub value_is_no_end : ValueIsNoEnd
value_is_no_end text c x i j good h = no_end_of c (behind text i).kind (value_shows text c x i j good h)

await_not : (b : Bool) → (((not b || false) || false) || false) ≡ true → b ≡ false
await_not true h = cc
await_not false h = refl

no_prefix_of : (c : Context) (kind : Kind) → shows (begins_left c) kind ≡ true → is_prefix c kind ≡ false
no_prefix_of c k.PlusPlus h = cc
no_prefix_of c k.MinusMinus h = cc
no_prefix_of c k.Delete h = cc
no_prefix_of c k.Void h = cc
no_prefix_of c k.Typeof h = cc
no_prefix_of c k.Plus h = cc
no_prefix_of c k.Minus h = cc
no_prefix_of c k.Tilde h = cc
no_prefix_of c k.Exclamation h = cc
no_prefix_of c k.Await h = await_not c.has_await h
no_prefix_of c _ h = refl

pub left_is_no_prefix : LeftIsNoPrefix
left_is_no_prefix text c x i j good h = no_prefix_of c (behind text i).kind (left_shows text c x i j good h)
