-- Tests of tokens.
use Rattle.std.proofs.Common.{◌≡◌, ℕ, suc, Bool, true, false, not, ◌&&◌, ◌||◌, eqb, refl, ap, arith}
use Rattle.std.proofs.lemmas.Bool.{eqb-true}
use Rattle.std.proofs.lemmas.Grind.{common_steps}
use Rattle.esb_token.specs.declared.kind.Kind.{Kind}
use Rattle.esb_token.specs.declared.kind.Kind.TheVariants as k
use Rattle.esb_token.specs.declared.token.Token.{Token}
use Rattle.esb_token.specs.declared.goal.Goal.TheVariants as goal
use Rattle.esb_tree.specs.Operators.{level_of, is_unary}
use Rattle.esb_grammar.specs.declared.context.Context.{Context}
use Rattle.esb_grammar.specs.Grammar.{is_await_in}
use Rattle.esb_grammar.specs.Kinds.{begins_link, is_update, is_function}
use Rattle.esb_reader.specs.Kinds.{agrees}
use Rattle.esb_expression_laws.specs.Operators.{is_operator}
use Rattle.esb_operator_laws.specs.Ends.{left_goes_on, begins_postfix, is_within}
use Rattle.esb_operator_laws.specs.Unary.{is_prefix}

-- ---- and, or, not

pub and_left : (a b : Bool) → (a && b) ≡ true → a ≡ true
and_left true b h = refl
and_left false b h = cc

pub and_right : (a b : Bool) → (a && b) ≡ true → b ≡ true
and_right true b h = h
and_right false b h = cc

pub and_both : (a b : Bool) → a ≡ true → b ≡ true → (a && b) ≡ true
and_both true b h g = g
and_both false b h g = cc

pub or_left : (a b : Bool) → a ≡ true → (a || b) ≡ true
or_left true b h = refl
or_left false b h = cc

pub or_right : (a b : Bool) → b ≡ true → (a || b) ≡ true
or_right true b h = refl
or_right false b h = h

pub neither : (a b : Bool) → a ≡ false → b ≡ false → (a || b) ≡ false
neither false b h g = g
neither true b h g = cc

pub neither_left : (a b : Bool) → (a || b) ≡ false → a ≡ false
neither_left false b h = refl
neither_left true b h = cc

pub neither_right : (a b : Bool) → (a || b) ≡ false → b ≡ false
neither_right false b h = h
neither_right true b h = cc

pub not_true : (a : Bool) → not a ≡ true → a ≡ false
not_true true h = cc
not_true false h = refl

pub false_not : (a : Bool) → a ≡ false → not a ≡ true
false_not true h = cc
false_not false h = refl

-- ---- kinds

-- an operator between two operands goes on with no LeftHandSideExpression
plain_of : (has_in l : Bool) (own : ℕ) (kind : Kind) → level_of has_in kind ≡ suc own → ((begins_link kind || (is_function kind && l)) || (is_update kind && l)) ≡ false
plain_of has_in l own k.LeftParenthesis h = let never : 0 ≡ suc own = h in absurd (omega (arith, never))
plain_of has_in l own k.LeftBracket h = let never : 0 ≡ suc own = h in absurd (omega (arith, never))
plain_of has_in l own k.Dot h = let never : 0 ≡ suc own = h in absurd (omega (arith, never))
plain_of has_in l own k.QuestionDot h = let never : 0 ≡ suc own = h in absurd (omega (arith, never))
plain_of has_in l own k.TemplateWhole h = let never : 0 ≡ suc own = h in absurd (omega (arith, never))
plain_of has_in l own k.TemplateHead h = let never : 0 ≡ suc own = h in absurd (omega (arith, never))
plain_of has_in l own k.Function h = let never : 0 ≡ suc own = h in absurd (omega (arith, never))
plain_of has_in l own k.PlusPlus h = let never : 0 ≡ suc own = h in absurd (omega (arith, never))
plain_of has_in l own k.MinusMinus h = let never : 0 ≡ suc own = h in absurd (omega (arith, never))
plain_of has_in l own _ h = refl

pub operator_level : (c : Context) (own : ℕ) (t : Token) → is_operator c own t ≡ true → level_of c.has_in t.kind ≡ own
operator_level c own t h = eqb-true _ _ h

pub operator_plain : (c : Context) (own : ℕ) (t : Token) → is_operator c (suc own) t ≡ true → (left_goes_on t || begins_postfix t) ≡ false
operator_plain c own t h = plain_of c.has_in (not t.after_line) own t.kind (operator_level c (suc own) t h)

prefix_agrees_at : (b : Bool) (kind : Kind) → (is_update kind || (is_unary kind || b)) ≡ true → (b ≡ true → kind ≡ k.Await) → agrees goal.Div kind ≡ true
prefix_agrees_at true kind h await = ap (agrees goal.Div) (await refl)
prefix_agrees_at false k.End h await = cc
prefix_agrees_at false k.RegExp h await = cc
prefix_agrees_at false k.TemplateMiddle h await = cc
prefix_agrees_at false k.TemplateTail h await = cc
prefix_agrees_at false _ h await = refl

pub await_is : (c : Context) (kind : Kind) → is_await_in c kind ≡ true → (c.has_await ≡ true) × (kind ≡ k.Await)
await_is c k.Await h = (h, refl)
await_is c _ h = cc

pub prefix_agrees : (c : Context) (kind : Kind) → is_prefix c kind ≡ true → agrees goal.Div kind ≡ true
prefix_agrees c kind h = prefix_agrees_at (is_await_in c kind) kind h (λ g. (await_is c kind g).1)

pub update_agrees : (kind : Kind) → is_update kind ≡ true → agrees goal.Div kind ≡ true
update_agrees k.End h = cc
update_agrees k.RegExp h = cc
update_agrees k.TemplateMiddle h = cc
update_agrees k.TemplateTail h = cc
update_agrees _ h = refl

pub update_apart : (kind : Kind) (l : Bool) → is_update kind ≡ true → not (begins_link kind || (is_function kind && l)) ≡ true
update_apart k.PlusPlus l h = refl
update_apart k.MinusMinus l h = refl
update_apart _ l h = cc

pub unary_no_update : (kind : Kind) → is_unary kind ≡ true → is_update kind ≡ false
unary_no_update k.PlusPlus h = cc
unary_no_update k.MinusMinus h = cc
unary_no_update _ h = refl

-- ---- levels

pub above_within : (l tight : ℕ) → l ≡ suc tight → is_within tight l ≡ false
above_within l tight h = grind (arith, common_steps)

pub within_less : (l tight : ℕ) → is_within (suc tight) l ≡ false → is_within tight l ≡ false
within_less l tight h = grind (arith, common_steps)

pub within_not : (l tight : ℕ) → is_within (suc tight) l ≡ false → eqb l (suc tight) ≡ false
within_not l tight h = grind (arith, common_steps)
