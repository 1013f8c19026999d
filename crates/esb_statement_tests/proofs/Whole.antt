-- Each expression has a token.
use Rattle.std.proofs.Common.{◌≡◌, ◌<◌, ◌≤◌, Bool, false, List, [], ◌∷◌, ◌++◌, length, map, Option, Some, None, refl, ap, sym, ◌∙◌, subst, arith}
use Rattle.std.proofs.lemmas.List.{append-nil}
use Rattle.esb_token.specs.declared.kind.Kind.{Kind}
use Rattle.esb_token.specs.declared.token.Token.{Token}
use Rattle.esb_tree.specs.declared.classes.ClassElement.TheFolds.{ind-Expression}
use Rattle.esb_tree.specs.declared.classes.ClassElement.TheOpen.{Expression-F, Link-F}
use Rattle.esb_tree.specs.declared.classes.Class.{Class, out-Class}
use Rattle.esb_tree.specs.declared.classes.ClassElement.{ClassElement}
use Rattle.esb_tree.specs.declared.classes.Heritage.{Heritage}
use Rattle.esb_tree.specs.declared.expressions.Expression.{Expression, roll-Expression, map-Expression}
use Rattle.esb_tree.specs.declared.expressions.Link.{Link, roll-Link, out-Link, roll-out-Link}
use Rattle.esb_tree.specs.declared.expressions.Operand.{Operand}
use Rattle.esb_tree.specs.declared.expressions.Substitution.{Substitution}
use Rattle.esb_tree.specs.declared.expressions.Substitutions.{Substitutions, out-Substitutions}
use Rattle.esb_tree.specs.declared.functions.ConciseBody.{ConciseBody}
use Rattle.esb_tree.specs.declared.functions.Function.{Function, out-Function}
use Rattle.esb_tree.specs.declared.functions.Method.{Method}
use Rattle.esb_tree.specs.declared.patterns.Bracketed.{Bracketed, out-Bracketed}
use Rattle.esb_tree.specs.declared.patterns.Element.{Element}
use Rattle.esb_tree.specs.declared.patterns.Elements.{Elements}
use Rattle.esb_tree.specs.declared.patterns.NextElement.{NextElement}
use Rattle.esb_tree.specs.declared.patterns.PropertyName.{PropertyName}
use Rattle.esb_tree.specs.declared.statements.Block.{Block}
use Rattle.esb_tree.specs.declared.statements.CaseClause.{CaseClause}
use Rattle.esb_tree.specs.declared.statements.Declaration.{Declaration}
use Rattle.esb_tree.specs.declared.statements.Else.{Else}
use Rattle.esb_tree.specs.declared.statements.ElseIf.{ElseIf}
use Rattle.esb_tree.specs.declared.statements.Finalizer.{Finalizer}
use Rattle.esb_tree.specs.declared.statements.ForStart.{ForStart}
use Rattle.esb_tree.specs.declared.statements.Handler.{Handler}
use Rattle.esb_tree.specs.declared.statements.IfClause.{IfClause}
use Rattle.esb_tree.specs.declared.statements.MaybeExpression.{MaybeExpression}
use Rattle.esb_tree.specs.declared.statements.Statement.{Statement}
use Rattle.esb_tree.specs.declared.expressions.Expression.TheVariants as e
use Rattle.esb_tree.specs.declared.expressions.Link.TheVariants as l
use Rattle.std.specs.List.{flat_map}
use Rattle.esb_tree.specs.Trees.{written}
use Rattle.esb_tree.specs.Yields.{Tokens, maybe_token, tokens_of_block, tokens_of_bracketed, tokens_of_class, tokens_of_class_element, tokens_of_concise_body, tokens_of_elements, tokens_of_expression, tokens_of_function, tokens_of_heritage, tokens_of_link, tokens_of_operand, tokens_of_substitution, tokens_of_substitutions}
use Rattle.esb_tree.proofs.TokenLines.{tokens_Primary, tokens_MetaProperty, tokens_ArrayLiteral, tokens_ObjectLiteral, tokens_Parenthesized, tokens_TemplateLiteral, tokens_FunctionExpression, tokens_ClassExpression, tokens_Member, tokens_New, tokens_NewPlain, tokens_ImportCall, tokens_PrefixUpdate, tokens_PostfixUpdate, tokens_Unary, tokens_Await, tokens_Binary, tokens_Conditional, tokens_Assignment, tokens_Arrow, tokens_AsyncArrow, tokens_Yield, tokens_YieldValue, tokens_YieldEach, tokens_Dot, tokens_Index, tokens_Call, tokens_Tagged, tokens_TaggedTemplate, tokens_OptionalDot, tokens_OptionalIndex, tokens_OptionalCall, tokens_at_Bracketed, tokens_at_Class, tokens_at_Function, tokens_at_Operand, tokens_at_Substitutions}
use Rattle.esb_grammar.specs.Kinds.{is_let}
use Rattle.esb_grammar.specs.Semicolons.{is_one}
use Rattle.esb_grammar.specs.Words.{begins_let}

-- tokens of which there is a first one
pub record Led (ts : Tokens) : Type 0 where
  pub first : Token
  pub rest : Tokens
  pub is : ts ≡ first ∷ rest

pub led_by : (ts : Tokens) (t : Token) (us : Tokens) → ts ≡ t ∷ us → Led ts
led_by ts t us e = record { first = t; rest = us; is = e }

pub led_append : (xs ys : Tokens) → Led xs → Led (xs ++ ys)
led_append xs ys h = record { first = h.first; rest = h.rest ++ ys; is = ap (λ ts. ts ++ ys) h.is }

pub led_is : (xs ys : Tokens) → Led xs → ys ≡ xs → Led ys
led_is xs ys h e = record { first = h.first; rest = h.rest; is = e ∙ h.is }

pub led_behind : (xs : Tokens) (t : Token) (ys : Tokens) → Led (xs ++ (t ∷ ys))
led_behind [] t ys = led_by _ t ys refl
led_behind (x ∷ xs) t ys = led_by _ x (xs ++ (t ∷ ys)) refl

pub let_append : (xs ys : Tokens) → Led xs → begins_let (xs ++ ys) ≡ begins_let xs
let_append [] ys h = let e = h.is in cc
let_append (x ∷ xs) ys h = refl

-- two tokens or more are not one
pub two : (test : Kind → Bool) (t : Token) (ts : Tokens) → Led ts → is_one test (t ∷ ts) ≡ false
two test t [] h = let e = h.is in cc
two test t (u ∷ us) h = refl

pub both_led : (test : Kind → Bool) (xs ys : Tokens) → Led xs → Led ys → is_one test (xs ++ ys) ≡ false
both_led test [] ys h g = let e = h.is in cc
both_led test (x ∷ xs) [] h g = let e = g.is in cc
both_led test (x ∷ []) (y ∷ ys) h g = refl
both_led test (x ∷ (z ∷ zs)) (y ∷ ys) h g = refl

led_bracketed : (y : Bracketed) → Led (tokens_of_bracketed written y)
led_bracketed y = led_by (tokens_of_bracketed written y) _ _ (tokens_at_Bracketed written y)

led_more : {ys : Tokens} (xs : Tokens) → Led ys → Led (xs ++ ys)
led_more [] h = h
led_more {ys = ys} (x ∷ xs) h = led_by (x ∷ (xs ++ ys)) x (xs ++ ys) refl

-- a function behind its word
behind_word : Function → Tokens
behind_word y = maybe_token (out-Function y).star ++ (maybe_token (out-Function y).name ++ (tokens_of_bracketed written (out-Function y).parameters ++ (tokens_of_block written (out-Function y).body)))

at_word : (y : Function) → tokens_of_function written y ≡ maybe_token (out-Function y).async_word ++ ((out-Function y).word ∷ behind_word y)
unfolding behind_word
at_word y = tokens_at_Function written y

led_function : (y : Function) → Led (tokens_of_function written y)
led_function y = led_is _ _ (worded (out-Function y).async_word (out-Function y).word (behind_word y)) (at_word y)
  where
    worded : (o : Option Token) (t : Token) (ts : Tokens) → Led (maybe_token o ++ (t ∷ ts))
    worded None t ts = led_by (t ∷ ts) t ts refl
    worded (Some u) t ts = led_by (u ∷ (t ∷ ts)) u (t ∷ ts) refl

abbrev Layer : Type 0
Layer = Expression-F ClassElement Heritage Expression Link ConciseBody Element PropertyName CaseClause Else Finalizer ForStart Handler MaybeExpression Statement Class Operand Substitution Substitutions Function Method Bracketed Elements NextElement Block Declaration ElseIf IfClause

by_layer : (x y : Layer) → x ≡ y → Led (tokens_of_expression written (roll-Expression x)) → Led (tokens_of_expression written (roll-Expression y))
by_layer x y e h = subst (λ (layer : Layer). Led (tokens_of_expression written (roll-Expression layer))) e h

-- a node of an expression, and what is known of those in it
abbrev Such : Type 0 → Type 0
Such A = (x : A) × Unit {0}

abbrev Held : Type 0
Held = (x : Expression) × Led (tokens_of_expression written x)

led_at : (y : Expression-F (Such ClassElement) (Such Heritage) Held (Such Link) (Such ConciseBody) (Such Element) (Such PropertyName) (Such CaseClause) (Such Else) (Such Finalizer) (Such ForStart) (Such Handler) (Such MaybeExpression) (Such Statement) (Such Class) (Such Operand) (Such Substitution) (Such Substitutions) (Such Function) (Such Method) (Such Bracketed) (Such Elements) (Such NextElement) (Such Block) (Such Declaration) (Such ElseIf) (Such IfClause)) → Led (tokens_of_expression written (roll-Expression (map-Expression (Such ClassElement) (Such Heritage) Held (Such Link) (Such ConciseBody) (Such Element) (Such PropertyName) (Such CaseClause) (Such Else) (Such Finalizer) (Such ForStart) (Such Handler) (Such MaybeExpression) (Such Statement) (Such Class) (Such Operand) (Such Substitution) (Such Substitutions) (Such Function) (Such Method) (Such Bracketed) (Such Elements) (Such NextElement) (Such Block) (Such Declaration) (Such ElseIf) (Such IfClause) ClassElement Heritage Expression Link ConciseBody Element PropertyName CaseClause Else Finalizer ForStart Handler MaybeExpression Statement Class Operand Substitution Substitutions Function Method Bracketed Elements NextElement Block Declaration ElseIf IfClause (λ p. p.0) (λ p. p.0) (λ p. p.0) (λ p. p.0) (λ p. p.0) (λ p. p.0) (λ p. p.0) (λ p. p.0) (λ p. p.0) (λ p. p.0) (λ p. p.0) (λ p. p.0) (λ p. p.0) (λ p. p.0) (λ p. p.0) (λ p. p.0) (λ p. p.0) (λ p. p.0) (λ p. p.0) (λ p. p.0) (λ p. p.0) (λ p. p.0) (λ p. p.0) (λ p. p.0) (λ p. p.0) (λ p. p.0) (λ p. p.0) y)))
led_at (Expression-F.Primary t) = led_by _ _ _ (ap (tokens_of_expression written) (e.rolls-Primary t) ∙ tokens_Primary written t)
led_at (Expression-F.MetaProperty word dot name) = led_by _ _ _ (ap (tokens_of_expression written) (e.rolls-MetaProperty word dot name) ∙ tokens_MetaProperty written word dot name)
led_at (Expression-F.ArrayLiteral list) = led_is _ _ (led_bracketed list.0) (ap (tokens_of_expression written) (e.rolls-ArrayLiteral list.0) ∙ tokens_ArrayLiteral written list.0)
led_at (Expression-F.ObjectLiteral list) = led_is _ _ (led_bracketed list.0) (ap (tokens_of_expression written) (e.rolls-ObjectLiteral list.0) ∙ tokens_ObjectLiteral written list.0)
led_at (Expression-F.Parenthesized list) = led_is _ _ (led_bracketed list.0) (ap (tokens_of_expression written) (e.rolls-Parenthesized list.0) ∙ tokens_Parenthesized written list.0)
led_at (Expression-F.TemplateLiteral template) = led_is _ _ (led_by (tokens_of_substitutions written template.0) _ _ (tokens_at_Substitutions written template.0)) (ap (tokens_of_expression written) (e.rolls-TemplateLiteral template.0) ∙ tokens_TemplateLiteral written template.0)
led_at (Expression-F.FunctionExpression function) = led_is _ _ (led_function function.0) (ap (tokens_of_expression written) (e.rolls-FunctionExpression function.0) ∙ tokens_FunctionExpression written function.0)
led_at (Expression-F.ClassExpression class) = led_is _ _ (led_by (tokens_of_class written class.0) _ _ (tokens_at_Class written class.0)) (ap (tokens_of_expression written) (e.rolls-ClassExpression class.0) ∙ tokens_ClassExpression written class.0)
led_at (Expression-F.Member object links) = led_is _ _ (led_append (tokens_of_expression written object.0) (flat_map (tokens_of_link written) (map (λ (p : Such Link). p.0) links)) object.1) (ap (tokens_of_expression written) (e.rolls-Member object.0 (map (λ (p : Such Link). p.0) links)) ∙ tokens_Member written object.0 (map (λ (p : Such Link). p.0) links))
led_at (Expression-F.New word callee arguments) = led_by _ _ _ (ap (tokens_of_expression written) (e.rolls-New word callee.0 arguments.0) ∙ tokens_New written word callee.0 arguments.0)
led_at (Expression-F.NewPlain word callee) = led_by _ _ _ (ap (tokens_of_expression written) (e.rolls-NewPlain word callee.0) ∙ tokens_NewPlain written word callee.0)
led_at (Expression-F.ImportCall word begin z ending) = led_by _ _ _ (ap (tokens_of_expression written) (e.rolls-ImportCall word begin z.0 ending) ∙ tokens_ImportCall written word begin z.0 ending)
led_at (Expression-F.PrefixUpdate operator z) = led_by _ _ _ (ap (tokens_of_expression written) (e.rolls-PrefixUpdate operator z.0) ∙ tokens_PrefixUpdate written operator z.0)
led_at (Expression-F.PostfixUpdate z operator) = led_is _ _ (led_append (tokens_of_expression written z.0) (operator ∷ []) z.1) (ap (tokens_of_expression written) (e.rolls-PostfixUpdate z.0 operator) ∙ tokens_PostfixUpdate written z.0 operator)
led_at (Expression-F.Unary operator z) = led_by _ _ _ (ap (tokens_of_expression written) (e.rolls-Unary operator z.0) ∙ tokens_Unary written operator z.0)
led_at (Expression-F.Await word z) = led_by _ _ _ (ap (tokens_of_expression written) (e.rolls-Await word z.0) ∙ tokens_Await written word z.0)
led_at (Expression-F.Binary one more) = led_is _ _ (led_append (tokens_of_expression written one.0) (flat_map (tokens_of_operand written) (map (λ (p : Such Operand). p.0) more)) one.1) (ap (tokens_of_expression written) (e.rolls-Binary one.0 (map (λ (p : Such Operand). p.0) more)) ∙ tokens_Binary written one.0 (map (λ (p : Such Operand). p.0) more))
led_at (Expression-F.Conditional test question z colon other) = led_is _ _ (led_append (tokens_of_expression written test.0) (question ∷ (tokens_of_expression written z.0 ++ (colon ∷ tokens_of_expression written other.0))) test.1) (ap (tokens_of_expression written) (e.rolls-Conditional test.0 question z.0 colon other.0) ∙ tokens_Conditional written test.0 question z.0 colon other.0)
led_at (Expression-F.Assignment target operator z) = led_is _ _ (led_append (tokens_of_expression written target.0) (operator ∷ tokens_of_expression written z.0) target.1) (ap (tokens_of_expression written) (e.rolls-Assignment target.0 operator z.0) ∙ tokens_Assignment written target.0 operator z.0)
led_at (Expression-F.Arrow parameters arrow body) = led_is _ _ (led_append (tokens_of_expression written parameters.0) (arrow ∷ tokens_of_concise_body written body.0) parameters.1) (ap (tokens_of_expression written) (e.rolls-Arrow parameters.0 arrow body.0) ∙ tokens_Arrow written parameters.0 arrow body.0)
led_at (Expression-F.AsyncArrow word name arrow body) = led_by _ _ _ (ap (tokens_of_expression written) (e.rolls-AsyncArrow word name arrow body.0) ∙ tokens_AsyncArrow written word name arrow body.0)
led_at (Expression-F.Yield word) = led_by _ _ _ (ap (tokens_of_expression written) (e.rolls-Yield word) ∙ tokens_Yield written word)
led_at (Expression-F.YieldValue word z) = led_by _ _ _ (ap (tokens_of_expression written) (e.rolls-YieldValue word z.0) ∙ tokens_YieldValue written word z.0)
led_at (Expression-F.YieldEach word star z) = led_by _ _ _ (ap (tokens_of_expression written) (e.rolls-YieldEach word star z.0) ∙ tokens_YieldEach written word star z.0)

pub led : (x : Expression) → Led (tokens_of_expression written x)
led = ind-Expression (λ _. Unit {0}) (λ _. Unit {0}) (λ x. Led (tokens_of_expression written x)) (λ _. Unit {0}) (λ _. Unit {0}) (λ _. Unit {0}) (λ _. Unit {0}) (λ _. Unit {0}) (λ _. Unit {0}) (λ _. Unit {0}) (λ _. Unit {0}) (λ _. Unit {0}) (λ _. Unit {0}) (λ _. Unit {0}) (λ _. Unit {0}) (λ _. Unit {0}) (λ _. Unit {0}) (λ _. Unit {0}) (λ _. Unit {0}) (λ _. Unit {0}) (λ _. Unit {0}) (λ _. Unit {0}) (λ _. Unit {0}) (λ _. Unit {0}) (λ _. Unit {0}) (λ _. Unit {0}) (λ _. Unit {0}) (λ x y is. tt) (λ x y is. tt) (λ x y is. by_layer _ x is (led_at y)) (λ x y is. tt) (λ x y is. tt) (λ x y is. tt) (λ x y is. tt) (λ x y is. tt) (λ x y is. tt) (λ x y is. tt) (λ x y is. tt) (λ x y is. tt) (λ x y is. tt) (λ x y is. tt) (λ x y is. tt) (λ x y is. tt) (λ x y is. tt) (λ x y is. tt) (λ x y is. tt) (λ x y is. tt) (λ x y is. tt) (λ x y is. tt) (λ x y is. tt) (λ x y is. tt) (λ x y is. tt) (λ x y is. tt) (λ x y is. tt)

-- ---- what goes on with a chain

pub led_link : (y : Link) → Led (tokens_of_link written y)
led_link y = subst (λ (z : Link). Led (tokens_of_link written z)) (roll-out-Link y) (at (out-Link y))
  where
    at : (layer : Link-F ClassElement Heritage Expression Link ConciseBody Element PropertyName CaseClause Else Finalizer ForStart Handler MaybeExpression Statement Class Operand Substitution Substitutions Function Method Bracketed Elements NextElement Block Declaration ElseIf IfClause) → Led (tokens_of_link written (roll-Link layer))
    at (Link-F.Dot dot name) = led_by _ _ _ (ap (tokens_of_link written) (l.rolls-Dot dot name) ∙ tokens_Dot written dot name)
    at (Link-F.Index begin x ending) = led_by _ _ _ (ap (tokens_of_link written) (l.rolls-Index begin x ending) ∙ tokens_Index written begin x ending)
    at (Link-F.Call arguments) = led_is _ _ (led_bracketed arguments) (ap (tokens_of_link written) (l.rolls-Call arguments) ∙ tokens_Call written arguments)
    at (Link-F.Tagged template) = led_by _ _ _ (ap (tokens_of_link written) (l.rolls-Tagged template) ∙ tokens_Tagged written template)
    at (Link-F.TaggedTemplate template) = led_is _ _ (led_by (tokens_of_substitutions written template) _ _ (tokens_at_Substitutions written template)) (ap (tokens_of_link written) (l.rolls-TaggedTemplate template) ∙ tokens_TaggedTemplate written template)
    at (Link-F.OptionalDot dot name) = led_by _ _ _ (ap (tokens_of_link written) (l.rolls-OptionalDot dot name) ∙ tokens_OptionalDot written dot name)
    at (Link-F.OptionalIndex dot begin x ending) = led_by _ _ _ (ap (tokens_of_link written) (l.rolls-OptionalIndex dot begin x ending) ∙ tokens_OptionalIndex written dot begin x ending)
    at (Link-F.OptionalCall dot arguments) = led_by _ _ _ (ap (tokens_of_link written) (l.rolls-OptionalCall dot arguments) ∙ tokens_OptionalCall written dot arguments)

pub led_operand : (y : Operand) → Led (tokens_of_operand written y)
led_operand y = led_by (tokens_of_operand written y) _ _ (tokens_at_Operand written y)

-- a first node alone
pub alone_none : {A : Type 0} (test : Kind → Bool) (f : A → Tokens) (xs : Tokens) (ys zs : List A) → ys ≡ zs → length ys < 1 → is_one test (xs ++ flat_map f zs) ≡ is_one test xs
alone_none test f xs [] zs e h = ap (λ l. is_one test (xs ++ flat_map f l)) (sym e) ∙ ap (is_one test) (append-nil xs)
alone_none test f xs (y ∷ ys) zs e h = absurd (omega (arith, h))

-- and one with others behind it
pub alone_some : {A : Type 0} (test : Kind → Bool) (f : A → Tokens) (xs : Tokens) (ys zs : List A) → ys ≡ zs → 1 ≤ length ys → Led xs → ((y : A) → Led (f y)) → is_one test (xs ++ flat_map f zs) ≡ false
alone_some test f xs [] zs e h p q = absurd (omega (arith, h))
alone_some test f xs (y ∷ ys) zs e h p q = ap (λ l. is_one test (xs ++ flat_map f l)) (sym e) ∙ both_led test xs (f y ++ flat_map f ys) p (led_append (f y) (flat_map f ys) (q y))

-- ---- nodes of two tokens or more

pub one_bracketed : (test : Kind → Bool) (y : Bracketed) → is_one test (tokens_of_bracketed written y) ≡ false
one_bracketed test y =
    let ts = tokens_of_elements written (out-Bracketed y).list in
    ap (is_one test) (tokens_at_Bracketed written y) ∙ two test (out-Bracketed y).begin (ts ++ ((out-Bracketed y).ending ∷ [])) (led_behind ts (out-Bracketed y).ending [])

pub one_substitutions : (test : Kind → Bool) (y : Substitutions) → is_one test (tokens_of_substitutions written y) ≡ false
one_substitutions test y =
    let more = flat_map (tokens_of_substitution written) (out-Substitutions y).rest ++ ((out-Substitutions y).tail ∷ []) in
    let ts = tokens_of_expression written (out-Substitutions y).first in
    ap (is_one test) (tokens_at_Substitutions written y) ∙ two test (out-Substitutions y).head (ts ++ more) (led_append ts more (led (out-Substitutions y).first))

pub one_class : (test : Kind → Bool) (y : Class) → is_one test (tokens_of_class written y) ≡ false
one_class test y =
    let more = flat_map (tokens_of_class_element written) (out-Class y).elements ++ ((out-Class y).ending ∷ []) in
    let name = maybe_token (out-Class y).name in
    let heritage = tokens_of_heritage written (out-Class y).heritage in
    ap (is_one test) (tokens_at_Class written y)
    ∙ two test (out-Class y).word (name ++ (heritage ++ ((out-Class y).begin ∷ more))) (led_more name (led_more heritage (led_by ((out-Class y).begin ∷ more) _ _ refl)))

pub let_Some : (y : Function) (t : Token) → (out-Function y).async_word ≡ Some t → begins_let (tokens_of_function written y) ≡ is_let t.kind
let_Some y t e = ap begins_let (at_word y) ∙ ap (λ o. begins_let (maybe_token o ++ ((out-Function y).word ∷ behind_word y))) e

pub let_None : (y : Function) → (out-Function y).async_word ≡ None → begins_let (tokens_of_function written y) ≡ is_let (out-Function y).word.kind
let_None y e = ap begins_let (at_word y) ∙ ap (λ o. begins_let (maybe_token o ++ ((out-Function y).word ∷ behind_word y))) e

led_behind_word : (y : Function) → Led (behind_word y)
unfolding behind_word
led_behind_word y =
    led_more (maybe_token (out-Function y).star) (led_more (maybe_token (out-Function y).name) (led_append (tokens_of_bracketed written (out-Function y).parameters) (tokens_of_block written (out-Function y).body) (led_bracketed (out-Function y).parameters)))

one_worded : (test : Kind → Bool) (o : Option Token) (t : Token) (ts : Tokens) → Led ts → is_one test (maybe_token o ++ (t ∷ ts)) ≡ false
one_worded test None t ts h = two test t ts h
one_worded test (Some u) t ts h = refl

pub one_function : (test : Kind → Bool) (y : Function) → is_one test (tokens_of_function written y) ≡ false
one_function test y = ap (is_one test) (at_word y) ∙ one_worded test (out-Function y).async_word (out-Function y).word (behind_word y) (led_behind_word y)
