-- Whether a node fits, by whether its children do.
use Rattle.std.proofs.Common.{◌≡◌, ℕ, ◌+◌, ◌-◌, max, true, ◌&&◌, List, [], ◌∷◌, map, Option, inl, inr, refl, ap, sym, ◌∙◌, arith}
use Rattle.std.specs.Prelude.{nat_le, nat_lt}
use Rattle.std.specs.List.{list_all}
use Rattle.std.proofs.lemmas.Bool.{le-leb, lt-leb}
use Rattle.std.proofs.lemmas.Bool.Decides.{leb_tells}
use Rattle.esb_token.specs.declared.token.Token.{Token}
use Rattle.esb_tree.specs.declared.statements.CaseClause.{CaseClause}
use Rattle.esb_tree.specs.declared.statements.CaseClause.TheVariants as cc
use Rattle.esb_tree.specs.declared.classes.ClassElement.{ClassElement}
use Rattle.esb_tree.specs.declared.classes.ClassElement.TheVariants as ce
use Rattle.esb_tree.specs.declared.functions.ConciseBody.{ConciseBody}
use Rattle.esb_tree.specs.declared.functions.ConciseBody.TheVariants as cb
use Rattle.esb_tree.specs.declared.patterns.Element.{Element}
use Rattle.esb_tree.specs.declared.patterns.Element.TheVariants as el
use Rattle.esb_tree.specs.declared.statements.Else.{Else}
use Rattle.esb_tree.specs.declared.statements.Else.TheVariants as ot
use Rattle.esb_tree.specs.declared.expressions.Expression.{Expression}
use Rattle.esb_tree.specs.declared.expressions.Expression.TheVariants as e
use Rattle.esb_tree.specs.declared.statements.Finalizer.{Finalizer}
use Rattle.esb_tree.specs.declared.statements.Finalizer.TheVariants as fi
use Rattle.esb_tree.specs.declared.statements.ForStart.{ForStart}
use Rattle.esb_tree.specs.declared.statements.ForStart.TheVariants as fs
use Rattle.esb_tree.specs.declared.statements.Handler.{Handler}
use Rattle.esb_tree.specs.declared.statements.Handler.TheVariants as ha
use Rattle.esb_tree.specs.declared.classes.Heritage.{Heritage}
use Rattle.esb_tree.specs.declared.classes.Heritage.TheVariants as he
use Rattle.esb_tree.specs.declared.expressions.Link.{Link}
use Rattle.esb_tree.specs.declared.expressions.Link.TheVariants as l
use Rattle.esb_tree.specs.declared.statements.MaybeExpression.{MaybeExpression}
use Rattle.esb_tree.specs.declared.statements.MaybeExpression.TheVariants as me
use Rattle.esb_tree.specs.declared.patterns.PropertyName.{PropertyName}
use Rattle.esb_tree.specs.declared.patterns.PropertyName.TheVariants as pn
use Rattle.esb_tree.specs.declared.statements.Statement.{Statement}
use Rattle.esb_tree.specs.declared.statements.Statement.TheVariants as s
use Rattle.esb_tree.specs.declared.statements.Block.{Block, out-Block}
use Rattle.esb_tree.specs.declared.patterns.Bracketed.{Bracketed, out-Bracketed}
use Rattle.esb_tree.specs.declared.classes.Class.{Class, out-Class}
use Rattle.esb_tree.specs.declared.statements.Declaration.{Declaration, out-Declaration}
use Rattle.esb_tree.specs.declared.patterns.Elements.{Elements, out-Elements}
use Rattle.esb_tree.specs.declared.statements.ElseIf.{ElseIf, out-ElseIf}
use Rattle.esb_tree.specs.declared.functions.Function.{Function, out-Function}
use Rattle.esb_tree.specs.declared.statements.IfClause.{IfClause, out-IfClause}
use Rattle.esb_tree.specs.declared.functions.Method.{Method, out-Method}
use Rattle.esb_tree.specs.declared.patterns.NextElement.{NextElement, out-NextElement}
use Rattle.esb_tree.specs.declared.expressions.Operand.{Operand, out-Operand}
use Rattle.esb_tree.specs.declared.expressions.Substitution.{Substitution, out-Substitution}
use Rattle.esb_tree.specs.declared.expressions.Substitutions.{Substitutions, out-Substitutions}
use Rattle.esb_tree.specs.Levels.{most, depth_of_class_element, depth_of_heritage, depth_of_expression, depth_of_link, depth_of_concise_body, depth_of_element, depth_of_property_name, depth_of_case_clause, depth_of_else, depth_of_finalizer, depth_of_for_start, depth_of_handler, depth_of_maybe_expression, depth_of_statement, depth_of_class, depth_of_operand, depth_of_substitution, depth_of_substitutions, depth_of_function, depth_of_bracketed, depth_of_next_element, depth_of_block, depth_of_declaration, depth_of_else_if, depth_of_if_clause}
use Rattle.esb_tree.specs.Fits.{fits_class_element, fits_heritage, fits_expression, fits_link, fits_concise_body, fits_element, fits_property_name, fits_case_clause, fits_else, fits_finalizer, fits_for_start, fits_handler, fits_maybe_expression, fits_statement, fits_class, fits_operand, fits_substitution, fits_substitutions, fits_function, fits_method, fits_bracketed, fits_elements, fits_next_element, fits_block, fits_declaration, fits_else_if, fits_if_clause}
use Rattle.esb_tree.proofs.LevelLines.{levels_is_ClassMethod, levels_is_EmptyElement, levels_is_NoHeritage, levels_is_Extends, levels_is_Primary, levels_is_MetaProperty, levels_is_ArrayLiteral, levels_is_ObjectLiteral, levels_is_Parenthesized, levels_is_TemplateLiteral, levels_is_FunctionExpression, levels_is_ClassExpression, levels_is_Member, levels_is_New, levels_is_NewPlain, levels_is_ImportCall, levels_is_PrefixUpdate, levels_is_PostfixUpdate, levels_is_Unary, levels_is_Await, levels_is_Binary, levels_is_Conditional, levels_is_Assignment, levels_is_Arrow, levels_is_AsyncArrow, levels_is_Yield, levels_is_YieldValue, levels_is_YieldEach, levels_is_Dot, levels_is_Index, levels_is_Call, levels_is_Tagged, levels_is_TaggedTemplate, levels_is_OptionalDot, levels_is_OptionalIndex, levels_is_OptionalCall, levels_is_ConciseValue, levels_is_ConciseBlock, levels_is_Hole, levels_is_Value, levels_is_Spread, levels_is_Shorthand, levels_is_Initialized, levels_is_Property, levels_is_MethodProperty, levels_is_Named, levels_is_Computed, levels_is_Case, levels_is_Default, levels_is_NoElse, levels_is_Otherwise, levels_is_NoFinalizer, levels_is_Finally, levels_is_NoStart, levels_is_StartExpression, levels_is_StartDeclaration, levels_is_NoHandler, levels_is_Catch, levels_is_CatchParameter, levels_is_Absent, levels_is_Present, levels_is_BlockStatement, levels_is_Variables, levels_is_Empty, levels_is_ExpressionStatement, levels_is_If, levels_is_DoWhile, levels_is_While, levels_is_For, levels_is_ForEach, levels_is_Continue, levels_is_Break, levels_is_Return, levels_is_Switch, levels_is_Labelled, levels_is_Throw, levels_is_Try, levels_is_Debugger, levels_is_FunctionDeclaration, levels_is_ClassDeclaration, levels_at_Class, levels_at_Operand, levels_at_Substitution, levels_at_Substitutions, levels_at_Function, levels_at_Method, levels_at_Bracketed, levels_at_Elements, levels_at_NextElement, levels_at_Block, levels_at_Declaration, levels_at_ElseIf, levels_at_IfClause}

le_max : (a b n : ℕ) → nat_le (max a b) n ≡ nat_le a n && nat_le b n
le_max a b n = elim (leb_tells a n) [
  | inl p ↦ elim (leb_tells b n) [
    | inl q ↦ le-leb (max a b) n (omega (arith, p.1, q.1)) ∙ sym (rw (p.0, q.0) refl)
    | inr q ↦ lt-leb (max a b) n (omega (arith, p.1, q.1)) ∙ sym (rw (p.0, q.0) refl)
  ]
  | inr p ↦ lt-leb (max a b) n (omega (arith, p.1)) ∙ sym (rw p.0 refl)
]

le_more : (a n : ℕ) → nat_le (a + 1) n ≡ nat_lt 0 n && nat_le a (n - 1)
le_more a n = elim (leb_tells (a + 1) n) [
  | inl p ↦ p.0 ∙ sym (rw (le-leb 1 n (omega (arith, p.1)), le-leb a (n - 1) (omega (arith, p.1))) refl)
  | inr p ↦ elim (leb_tells 1 n) [
    | inl q ↦ p.0 ∙ sym (rw (q.0, lt-leb a (n - 1) (omega (arith, p.1, q.1))) refl)
    | inr q ↦ p.0 ∙ sym (rw q.0 refl)
  ]
]

most_fit : {A : Type 0} (f : A → ℕ) (n : ℕ) (xs : List A) → nat_le (most (map f xs)) n ≡ list_all (λ b. b) (map (λ x. nat_le (f x) n) xs)
most_fit f n [] = le-leb 0 n (omega arith)
most_fit f n (x ∷ xs) = le_max (f x) (most (map f xs)) n ∙ ap (λ b. nat_le (f x) n && b) (most_fit f n xs)

none_fit : (n : ℕ) → nat_le 0 n ≡ true
none_fit n = le-leb 0 n (omega arith)

one_fits : (n : ℕ) → nat_le 1 n ≡ nat_lt 0 n
one_fits n = refl

pub fits_is_ClassMethod : (n : ℕ) (y : ClassElement) (word : Option Token) (method : Method) → y ≡ ce.ClassMethod word method → fits_class_element n y ≡ fits_method n method
unfolding fits_class_element fits_method
fits_is_ClassMethod n y word method h = ap (λ d. nat_le d n) (levels_is_ClassMethod y word method h)

pub fits_is_EmptyElement : (n : ℕ) (y : ClassElement) (semicolon : Token) → y ≡ ce.EmptyElement semicolon → fits_class_element n y ≡ true
unfolding fits_class_element
fits_is_EmptyElement n y semicolon h = ap (λ d. nat_le d n) (levels_is_EmptyElement y semicolon h) ∙ none_fit n

pub fits_is_NoHeritage : (n : ℕ) (y : Heritage) → y ≡ he.NoHeritage → fits_heritage n y ≡ true
unfolding fits_heritage
fits_is_NoHeritage n y h = ap (λ d. nat_le d n) (levels_is_NoHeritage y h) ∙ none_fit n

pub fits_is_Extends : (n : ℕ) (y : Heritage) (word : Token) (x : Expression) → y ≡ he.Extends word x → fits_heritage n y ≡ fits_expression n x
unfolding fits_heritage fits_expression
fits_is_Extends n y word x h = ap (λ d. nat_le d n) (levels_is_Extends y word x h)

pub fits_is_Primary : (n : ℕ) (y : Expression) (t : Token) → y ≡ e.Primary t → fits_expression n y ≡ true
unfolding fits_expression
fits_is_Primary n y t h = ap (λ d. nat_le d n) (levels_is_Primary y t h) ∙ none_fit n

pub fits_is_MetaProperty : (n : ℕ) (y : Expression) (word : Token) (dot : Token) (name : Token) → y ≡ e.MetaProperty word dot name → fits_expression n y ≡ nat_lt 0 n
unfolding fits_expression
fits_is_MetaProperty n y word dot name h = ap (λ d. nat_le d n) (levels_is_MetaProperty y word dot name h) ∙ one_fits n

pub fits_is_ArrayLiteral : (n : ℕ) (y : Expression) (list : Bracketed) → y ≡ e.ArrayLiteral list → fits_expression n y ≡ nat_lt 0 n && fits_bracketed (n - 1) list
unfolding fits_expression fits_bracketed
fits_is_ArrayLiteral n y list h = ap (λ d. nat_le d n) (levels_is_ArrayLiteral y list h) ∙ le_more (depth_of_bracketed list) n

pub fits_is_ObjectLiteral : (n : ℕ) (y : Expression) (list : Bracketed) → y ≡ e.ObjectLiteral list → fits_expression n y ≡ nat_lt 0 n && fits_bracketed (n - 1) list
unfolding fits_expression fits_bracketed
fits_is_ObjectLiteral n y list h = ap (λ d. nat_le d n) (levels_is_ObjectLiteral y list h) ∙ le_more (depth_of_bracketed list) n

pub fits_is_Parenthesized : (n : ℕ) (y : Expression) (list : Bracketed) → y ≡ e.Parenthesized list → fits_expression n y ≡ nat_lt 0 n && fits_bracketed (n - 1) list
unfolding fits_expression fits_bracketed
fits_is_Parenthesized n y list h = ap (λ d. nat_le d n) (levels_is_Parenthesized y list h) ∙ le_more (depth_of_bracketed list) n

pub fits_is_TemplateLiteral : (n : ℕ) (y : Expression) (template : Substitutions) → y ≡ e.TemplateLiteral template → fits_expression n y ≡ nat_lt 0 n && fits_substitutions (n - 1) template
unfolding fits_expression fits_substitutions
fits_is_TemplateLiteral n y template h = ap (λ d. nat_le d n) (levels_is_TemplateLiteral y template h) ∙ le_more (depth_of_substitutions template) n

pub fits_is_FunctionExpression : (n : ℕ) (y : Expression) (function : Function) → y ≡ e.FunctionExpression function → fits_expression n y ≡ nat_lt 0 n && fits_function (n - 1) function
unfolding fits_expression fits_function
fits_is_FunctionExpression n y function h = ap (λ d. nat_le d n) (levels_is_FunctionExpression y function h) ∙ le_more (depth_of_function function) n

pub fits_is_ClassExpression : (n : ℕ) (y : Expression) (class : Class) → y ≡ e.ClassExpression class → fits_expression n y ≡ nat_lt 0 n && fits_class (n - 1) class
unfolding fits_expression fits_class
fits_is_ClassExpression n y class h = ap (λ d. nat_le d n) (levels_is_ClassExpression y class h) ∙ le_more (depth_of_class class) n

pub fits_is_Member : (n : ℕ) (y : Expression) (object : Expression) (links : List Link) → y ≡ e.Member object links → fits_expression n y ≡ nat_lt 0 n && (fits_expression (n - 1) object && (list_all (λ b. b) (map (fits_link (n - 1)) links)))
unfolding fits_expression fits_link
fits_is_Member n y object links h = ap (λ d. nat_le d n) (levels_is_Member y object links h) ∙ le_more (max (depth_of_expression object) (most (map depth_of_link links))) n ∙ ap (λ b. nat_lt 0 n && b) (le_max (depth_of_expression object) (most (map depth_of_link links)) (n - 1) ∙ ap (λ b. fits_expression (n - 1) object && b) (most_fit depth_of_link (n - 1) links))

pub fits_is_New : (n : ℕ) (y : Expression) (word : Token) (callee : Expression) (arguments : Bracketed) → y ≡ e.New word callee arguments → fits_expression n y ≡ nat_lt 0 n && (fits_expression (n - 1) callee && fits_bracketed (n - 1) arguments)
unfolding fits_expression fits_bracketed
fits_is_New n y word callee arguments h = ap (λ d. nat_le d n) (levels_is_New y word callee arguments h) ∙ le_more (max (depth_of_expression callee) (depth_of_bracketed arguments)) n ∙ ap (λ b. nat_lt 0 n && b) (le_max (depth_of_expression callee) (depth_of_bracketed arguments) (n - 1))

pub fits_is_NewPlain : (n : ℕ) (y : Expression) (word : Token) (callee : Expression) → y ≡ e.NewPlain word callee → fits_expression n y ≡ nat_lt 0 n && fits_expression (n - 1) callee
unfolding fits_expression
fits_is_NewPlain n y word callee h = ap (λ d. nat_le d n) (levels_is_NewPlain y word callee h) ∙ le_more (depth_of_expression callee) n

pub fits_is_ImportCall : (n : ℕ) (y : Expression) (word : Token) (begin : Token) (x : Expression) (ending : Token) → y ≡ e.ImportCall word begin x ending → fits_expression n y ≡ nat_lt 0 n && fits_expression (n - 1) x
unfolding fits_expression
fits_is_ImportCall n y word begin x ending h = ap (λ d. nat_le d n) (levels_is_ImportCall y word begin x ending h) ∙ le_more (depth_of_expression x) n

pub fits_is_PrefixUpdate : (n : ℕ) (y : Expression) (operator : Token) (x : Expression) → y ≡ e.PrefixUpdate operator x → fits_expression n y ≡ nat_lt 0 n && fits_expression (n - 1) x
unfolding fits_expression
fits_is_PrefixUpdate n y operator x h = ap (λ d. nat_le d n) (levels_is_PrefixUpdate y operator x h) ∙ le_more (depth_of_expression x) n

pub fits_is_PostfixUpdate : (n : ℕ) (y : Expression) (x : Expression) (operator : Token) → y ≡ e.PostfixUpdate x operator → fits_expression n y ≡ nat_lt 0 n && fits_expression (n - 1) x
unfolding fits_expression
fits_is_PostfixUpdate n y x operator h = ap (λ d. nat_le d n) (levels_is_PostfixUpdate y x operator h) ∙ le_more (depth_of_expression x) n

pub fits_is_Unary : (n : ℕ) (y : Expression) (operator : Token) (x : Expression) → y ≡ e.Unary operator x → fits_expression n y ≡ nat_lt 0 n && fits_expression (n - 1) x
unfolding fits_expression
fits_is_Unary n y operator x h = ap (λ d. nat_le d n) (levels_is_Unary y operator x h) ∙ le_more (depth_of_expression x) n

pub fits_is_Await : (n : ℕ) (y : Expression) (word : Token) (x : Expression) → y ≡ e.Await word x → fits_expression n y ≡ nat_lt 0 n && fits_expression (n - 1) x
unfolding fits_expression
fits_is_Await n y word x h = ap (λ d. nat_le d n) (levels_is_Await y word x h) ∙ le_more (depth_of_expression x) n

pub fits_is_Binary : (n : ℕ) (y : Expression) (first : Expression) (rest : List Operand) → y ≡ e.Binary first rest → fits_expression n y ≡ nat_lt 0 n && (fits_expression (n - 1) first && (list_all (λ b. b) (map (fits_operand (n - 1)) rest)))
unfolding fits_expression fits_operand
fits_is_Binary n y first rest h = ap (λ d. nat_le d n) (levels_is_Binary y first rest h) ∙ le_more (max (depth_of_expression first) (most (map depth_of_operand rest))) n ∙ ap (λ b. nat_lt 0 n && b) (le_max (depth_of_expression first) (most (map depth_of_operand rest)) (n - 1) ∙ ap (λ b. fits_expression (n - 1) first && b) (most_fit depth_of_operand (n - 1) rest))

pub fits_is_Conditional : (n : ℕ) (y : Expression) (test : Expression) (question : Token) (x : Expression) (colon : Token) (other : Expression) → y ≡ e.Conditional test question x colon other → fits_expression n y ≡ nat_lt 0 n && (fits_expression (n - 1) test && (fits_expression (n - 1) x && fits_expression (n - 1) other))
unfolding fits_expression
fits_is_Conditional n y test question x colon other h = ap (λ d. nat_le d n) (levels_is_Conditional y test question x colon other h) ∙ le_more (max (depth_of_expression test) (max (depth_of_expression x) (depth_of_expression other))) n ∙ ap (λ b. nat_lt 0 n && b) (le_max (depth_of_expression test) (max (depth_of_expression x) (depth_of_expression other)) (n - 1) ∙ ap (λ b. fits_expression (n - 1) test && b) (le_max (depth_of_expression x) (depth_of_expression other) (n - 1)))

pub fits_is_Assignment : (n : ℕ) (y : Expression) (target : Expression) (operator : Token) (x : Expression) → y ≡ e.Assignment target operator x → fits_expression n y ≡ nat_lt 0 n && (fits_expression (n - 1) target && fits_expression (n - 1) x)
unfolding fits_expression
fits_is_Assignment n y target operator x h = ap (λ d. nat_le d n) (levels_is_Assignment y target operator x h) ∙ le_more (max (depth_of_expression target) (depth_of_expression x)) n ∙ ap (λ b. nat_lt 0 n && b) (le_max (depth_of_expression target) (depth_of_expression x) (n - 1))

pub fits_is_Arrow : (n : ℕ) (y : Expression) (head : Expression) (arrow : Token) (body : ConciseBody) → y ≡ e.Arrow head arrow body → fits_expression n y ≡ nat_lt 0 n && (fits_expression (n - 1) head && fits_concise_body (n - 1) body)
unfolding fits_expression fits_concise_body
fits_is_Arrow n y head arrow body h = ap (λ d. nat_le d n) (levels_is_Arrow y head arrow body h) ∙ le_more (max (depth_of_expression head) (depth_of_concise_body body)) n ∙ ap (λ b. nat_lt 0 n && b) (le_max (depth_of_expression head) (depth_of_concise_body body) (n - 1))

pub fits_is_AsyncArrow : (n : ℕ) (y : Expression) (word : Token) (name : Token) (arrow : Token) (body : ConciseBody) → y ≡ e.AsyncArrow word name arrow body → fits_expression n y ≡ nat_lt 0 n && fits_concise_body (n - 1) body
unfolding fits_expression fits_concise_body
fits_is_AsyncArrow n y word name arrow body h = ap (λ d. nat_le d n) (levels_is_AsyncArrow y word name arrow body h) ∙ le_more (depth_of_concise_body body) n

pub fits_is_Yield : (n : ℕ) (y : Expression) (word : Token) → y ≡ e.Yield word → fits_expression n y ≡ nat_lt 0 n
unfolding fits_expression
fits_is_Yield n y word h = ap (λ d. nat_le d n) (levels_is_Yield y word h) ∙ one_fits n

pub fits_is_YieldValue : (n : ℕ) (y : Expression) (word : Token) (x : Expression) → y ≡ e.YieldValue word x → fits_expression n y ≡ nat_lt 0 n && fits_expression (n - 1) x
unfolding fits_expression
fits_is_YieldValue n y word x h = ap (λ d. nat_le d n) (levels_is_YieldValue y word x h) ∙ le_more (depth_of_expression x) n

pub fits_is_YieldEach : (n : ℕ) (y : Expression) (word : Token) (star : Token) (x : Expression) → y ≡ e.YieldEach word star x → fits_expression n y ≡ nat_lt 0 n && fits_expression (n - 1) x
unfolding fits_expression
fits_is_YieldEach n y word star x h = ap (λ d. nat_le d n) (levels_is_YieldEach y word star x h) ∙ le_more (depth_of_expression x) n

pub fits_is_Dot : (n : ℕ) (y : Link) (dot : Token) (name : Token) → y ≡ l.Dot dot name → fits_link n y ≡ true
unfolding fits_link
fits_is_Dot n y dot name h = ap (λ d. nat_le d n) (levels_is_Dot y dot name h) ∙ none_fit n

pub fits_is_Index : (n : ℕ) (y : Link) (begin : Token) (x : Expression) (ending : Token) → y ≡ l.Index begin x ending → fits_link n y ≡ fits_expression n x
unfolding fits_expression fits_link
fits_is_Index n y begin x ending h = ap (λ d. nat_le d n) (levels_is_Index y begin x ending h)

pub fits_is_Call : (n : ℕ) (y : Link) (arguments : Bracketed) → y ≡ l.Call arguments → fits_link n y ≡ fits_bracketed n arguments
unfolding fits_link fits_bracketed
fits_is_Call n y arguments h = ap (λ d. nat_le d n) (levels_is_Call y arguments h)

pub fits_is_Tagged : (n : ℕ) (y : Link) (template : Token) → y ≡ l.Tagged template → fits_link n y ≡ true
unfolding fits_link
fits_is_Tagged n y template h = ap (λ d. nat_le d n) (levels_is_Tagged y template h) ∙ none_fit n

pub fits_is_TaggedTemplate : (n : ℕ) (y : Link) (template : Substitutions) → y ≡ l.TaggedTemplate template → fits_link n y ≡ fits_substitutions n template
unfolding fits_link fits_substitutions
fits_is_TaggedTemplate n y template h = ap (λ d. nat_le d n) (levels_is_TaggedTemplate y template h)

pub fits_is_OptionalDot : (n : ℕ) (y : Link) (dot : Token) (name : Token) → y ≡ l.OptionalDot dot name → fits_link n y ≡ true
unfolding fits_link
fits_is_OptionalDot n y dot name h = ap (λ d. nat_le d n) (levels_is_OptionalDot y dot name h) ∙ none_fit n

pub fits_is_OptionalIndex : (n : ℕ) (y : Link) (dot : Token) (begin : Token) (x : Expression) (ending : Token) → y ≡ l.OptionalIndex dot begin x ending → fits_link n y ≡ fits_expression n x
unfolding fits_expression fits_link
fits_is_OptionalIndex n y dot begin x ending h = ap (λ d. nat_le d n) (levels_is_OptionalIndex y dot begin x ending h)

pub fits_is_OptionalCall : (n : ℕ) (y : Link) (dot : Token) (arguments : Bracketed) → y ≡ l.OptionalCall dot arguments → fits_link n y ≡ fits_bracketed n arguments
unfolding fits_link fits_bracketed
fits_is_OptionalCall n y dot arguments h = ap (λ d. nat_le d n) (levels_is_OptionalCall y dot arguments h)

pub fits_is_ConciseValue : (n : ℕ) (y : ConciseBody) (x : Expression) → y ≡ cb.ConciseValue x → fits_concise_body n y ≡ fits_expression n x
unfolding fits_expression fits_concise_body
fits_is_ConciseValue n y x h = ap (λ d. nat_le d n) (levels_is_ConciseValue y x h)

pub fits_is_ConciseBlock : (n : ℕ) (y : ConciseBody) (block : Block) → y ≡ cb.ConciseBlock block → fits_concise_body n y ≡ fits_block n block
unfolding fits_concise_body fits_block
fits_is_ConciseBlock n y block h = ap (λ d. nat_le d n) (levels_is_ConciseBlock y block h)

pub fits_is_Hole : (n : ℕ) (y : Element) → y ≡ el.Hole → fits_element n y ≡ true
unfolding fits_element
fits_is_Hole n y h = ap (λ d. nat_le d n) (levels_is_Hole y h) ∙ none_fit n

pub fits_is_Value : (n : ℕ) (y : Element) (x : Expression) → y ≡ el.Value x → fits_element n y ≡ fits_expression n x
unfolding fits_expression fits_element
fits_is_Value n y x h = ap (λ d. nat_le d n) (levels_is_Value y x h)

pub fits_is_Spread : (n : ℕ) (y : Element) (dots : Token) (x : Expression) → y ≡ el.Spread dots x → fits_element n y ≡ fits_expression n x
unfolding fits_expression fits_element
fits_is_Spread n y dots x h = ap (λ d. nat_le d n) (levels_is_Spread y dots x h)

pub fits_is_Shorthand : (n : ℕ) (y : Element) (name : Token) → y ≡ el.Shorthand name → fits_element n y ≡ true
unfolding fits_element
fits_is_Shorthand n y name h = ap (λ d. nat_le d n) (levels_is_Shorthand y name h) ∙ none_fit n

pub fits_is_Initialized : (n : ℕ) (y : Element) (name : Token) (sign : Token) (x : Expression) → y ≡ el.Initialized name sign x → fits_element n y ≡ fits_expression n x
unfolding fits_expression fits_element
fits_is_Initialized n y name sign x h = ap (λ d. nat_le d n) (levels_is_Initialized y name sign x h)

pub fits_is_Property : (n : ℕ) (y : Element) (name : PropertyName) (colon : Token) (x : Expression) → y ≡ el.Property name colon x → fits_element n y ≡ fits_property_name n name && fits_expression n x
unfolding fits_expression fits_element fits_property_name
fits_is_Property n y name colon x h = ap (λ d. nat_le d n) (levels_is_Property y name colon x h) ∙ le_max (depth_of_property_name name) (depth_of_expression x) n

pub fits_is_MethodProperty : (n : ℕ) (y : Element) (method : Method) → y ≡ el.MethodProperty method → fits_element n y ≡ fits_method n method
unfolding fits_element fits_method
fits_is_MethodProperty n y method h = ap (λ d. nat_le d n) (levels_is_MethodProperty y method h)

pub fits_is_Named : (n : ℕ) (y : PropertyName) (name : Token) → y ≡ pn.Named name → fits_property_name n y ≡ true
unfolding fits_property_name
fits_is_Named n y name h = ap (λ d. nat_le d n) (levels_is_Named y name h) ∙ none_fit n

pub fits_is_Computed : (n : ℕ) (y : PropertyName) (begin : Token) (x : Expression) (ending : Token) → y ≡ pn.Computed begin x ending → fits_property_name n y ≡ fits_expression n x
unfolding fits_expression fits_property_name
fits_is_Computed n y begin x ending h = ap (λ d. nat_le d n) (levels_is_Computed y begin x ending h)

pub fits_is_Case : (n : ℕ) (y : CaseClause) (word : Token) (x : Expression) (colon : Token) (body : List Statement) → y ≡ cc.Case word x colon body → fits_case_clause n y ≡ nat_lt 0 n && (fits_expression (n - 1) x && (list_all (λ b. b) (map (fits_statement (n - 1)) body)))
unfolding fits_expression fits_case_clause fits_statement
fits_is_Case n y word x colon body h = ap (λ d. nat_le d n) (levels_is_Case y word x colon body h) ∙ le_more (max (depth_of_expression x) (most (map depth_of_statement body))) n ∙ ap (λ b. nat_lt 0 n && b) (le_max (depth_of_expression x) (most (map depth_of_statement body)) (n - 1) ∙ ap (λ b. fits_expression (n - 1) x && b) (most_fit depth_of_statement (n - 1) body))

pub fits_is_Default : (n : ℕ) (y : CaseClause) (word : Token) (colon : Token) (body : List Statement) → y ≡ cc.Default word colon body → fits_case_clause n y ≡ nat_lt 0 n && (list_all (λ b. b) (map (fits_statement (n - 1)) body))
unfolding fits_case_clause fits_statement
fits_is_Default n y word colon body h = ap (λ d. nat_le d n) (levels_is_Default y word colon body h) ∙ le_more (most (map depth_of_statement body)) n ∙ ap (λ b. nat_lt 0 n && b) (most_fit depth_of_statement (n - 1) body)

pub fits_is_NoElse : (n : ℕ) (y : Else) → y ≡ ot.NoElse → fits_else n y ≡ true
unfolding fits_else
fits_is_NoElse n y h = ap (λ d. nat_le d n) (levels_is_NoElse y h) ∙ none_fit n

pub fits_is_Otherwise : (n : ℕ) (y : Else) (word : Token) (body : Statement) → y ≡ ot.Otherwise word body → fits_else n y ≡ fits_statement n body
unfolding fits_else fits_statement
fits_is_Otherwise n y word body h = ap (λ d. nat_le d n) (levels_is_Otherwise y word body h)

pub fits_is_NoFinalizer : (n : ℕ) (y : Finalizer) → y ≡ fi.NoFinalizer → fits_finalizer n y ≡ true
unfolding fits_finalizer
fits_is_NoFinalizer n y h = ap (λ d. nat_le d n) (levels_is_NoFinalizer y h) ∙ none_fit n

pub fits_is_Finally : (n : ℕ) (y : Finalizer) (word : Token) (block : Block) → y ≡ fi.Finally word block → fits_finalizer n y ≡ nat_lt 0 n && fits_block (n - 1) block
unfolding fits_finalizer fits_block
fits_is_Finally n y word block h = ap (λ d. nat_le d n) (levels_is_Finally y word block h) ∙ le_more (depth_of_block block) n

pub fits_is_NoStart : (n : ℕ) (y : ForStart) → y ≡ fs.NoStart → fits_for_start n y ≡ true
unfolding fits_for_start
fits_is_NoStart n y h = ap (λ d. nat_le d n) (levels_is_NoStart y h) ∙ none_fit n

pub fits_is_StartExpression : (n : ℕ) (y : ForStart) (x : Expression) → y ≡ fs.StartExpression x → fits_for_start n y ≡ fits_expression n x
unfolding fits_expression fits_for_start
fits_is_StartExpression n y x h = ap (λ d. nat_le d n) (levels_is_StartExpression y x h)

pub fits_is_StartDeclaration : (n : ℕ) (y : ForStart) (declaration : Declaration) → y ≡ fs.StartDeclaration declaration → fits_for_start n y ≡ fits_declaration n declaration
unfolding fits_for_start fits_declaration
fits_is_StartDeclaration n y declaration h = ap (λ d. nat_le d n) (levels_is_StartDeclaration y declaration h)

pub fits_is_NoHandler : (n : ℕ) (y : Handler) → y ≡ ha.NoHandler → fits_handler n y ≡ true
unfolding fits_handler
fits_is_NoHandler n y h = ap (λ d. nat_le d n) (levels_is_NoHandler y h) ∙ none_fit n

pub fits_is_Catch : (n : ℕ) (y : Handler) (word : Token) (block : Block) → y ≡ ha.Catch word block → fits_handler n y ≡ nat_lt 0 n && fits_block (n - 1) block
unfolding fits_handler fits_block
fits_is_Catch n y word block h = ap (λ d. nat_le d n) (levels_is_Catch y word block h) ∙ le_more (depth_of_block block) n

pub fits_is_CatchParameter : (n : ℕ) (y : Handler) (word : Token) (begin : Token) (x : Expression) (ending : Token) (block : Block) → y ≡ ha.CatchParameter word begin x ending block → fits_handler n y ≡ nat_lt 0 n && (fits_expression (n - 1) x && fits_block (n - 1) block)
unfolding fits_expression fits_handler fits_block
fits_is_CatchParameter n y word begin x ending block h = ap (λ d. nat_le d n) (levels_is_CatchParameter y word begin x ending block h) ∙ le_more (max (depth_of_expression x) (depth_of_block block)) n ∙ ap (λ b. nat_lt 0 n && b) (le_max (depth_of_expression x) (depth_of_block block) (n - 1))

pub fits_is_Absent : (n : ℕ) (y : MaybeExpression) → y ≡ me.Absent → fits_maybe_expression n y ≡ true
unfolding fits_maybe_expression
fits_is_Absent n y h = ap (λ d. nat_le d n) (levels_is_Absent y h) ∙ none_fit n

pub fits_is_Present : (n : ℕ) (y : MaybeExpression) (x : Expression) → y ≡ me.Present x → fits_maybe_expression n y ≡ fits_expression n x
unfolding fits_expression fits_maybe_expression
fits_is_Present n y x h = ap (λ d. nat_le d n) (levels_is_Present y x h)

pub fits_is_BlockStatement : (n : ℕ) (y : Statement) (block : Block) → y ≡ s.BlockStatement block → fits_statement n y ≡ nat_lt 0 n && fits_block (n - 1) block
unfolding fits_statement fits_block
fits_is_BlockStatement n y block h = ap (λ d. nat_le d n) (levels_is_BlockStatement y block h) ∙ le_more (depth_of_block block) n

pub fits_is_Variables : (n : ℕ) (y : Statement) (declaration : Declaration) (end : Option Token) → y ≡ s.Variables declaration end → fits_statement n y ≡ nat_lt 0 n && fits_declaration (n - 1) declaration
unfolding fits_statement fits_declaration
fits_is_Variables n y declaration end h = ap (λ d. nat_le d n) (levels_is_Variables y declaration end h) ∙ le_more (depth_of_declaration declaration) n

pub fits_is_Empty : (n : ℕ) (y : Statement) (semicolon : Token) → y ≡ s.Empty semicolon → fits_statement n y ≡ nat_lt 0 n
unfolding fits_statement
fits_is_Empty n y semicolon h = ap (λ d. nat_le d n) (levels_is_Empty y semicolon h) ∙ one_fits n

pub fits_is_ExpressionStatement : (n : ℕ) (y : Statement) (x : Expression) (end : Option Token) → y ≡ s.ExpressionStatement x end → fits_statement n y ≡ nat_lt 0 n && fits_expression (n - 1) x
unfolding fits_expression fits_statement
fits_is_ExpressionStatement n y x end h = ap (λ d. nat_le d n) (levels_is_ExpressionStatement y x end h) ∙ le_more (depth_of_expression x) n

pub fits_is_If : (n : ℕ) (y : Statement) (clause : IfClause) (rest : List ElseIf) (last : Else) → y ≡ s.If clause rest last → fits_statement n y ≡ nat_lt 0 n && (fits_if_clause (n - 1) clause && ((list_all (λ b. b) (map (fits_else_if (n - 1)) rest)) && fits_else (n - 1) last))
unfolding fits_else fits_statement fits_else_if fits_if_clause
fits_is_If n y clause rest last h = ap (λ d. nat_le d n) (levels_is_If y clause rest last h) ∙ le_more (max (depth_of_if_clause clause) (max (most (map depth_of_else_if rest)) (depth_of_else last))) n ∙ ap (λ b. nat_lt 0 n && b) (le_max (depth_of_if_clause clause) (max (most (map depth_of_else_if rest)) (depth_of_else last)) (n - 1) ∙ ap (λ b. fits_if_clause (n - 1) clause && b) (le_max (most (map depth_of_else_if rest)) (depth_of_else last) (n - 1) ∙ ap (λ b. b && nat_le (depth_of_else last) (n - 1)) (most_fit depth_of_else_if (n - 1) rest)))

pub fits_is_DoWhile : (n : ℕ) (y : Statement) (word : Token) (body : Statement) (while_word : Token) (begin : Token) (x : Expression) (ending : Token) (end : Option Token) → y ≡ s.DoWhile word body while_word begin x ending end → fits_statement n y ≡ nat_lt 0 n && (fits_statement (n - 1) body && fits_expression (n - 1) x)
unfolding fits_expression fits_statement
fits_is_DoWhile n y word body while_word begin x ending end h = ap (λ d. nat_le d n) (levels_is_DoWhile y word body while_word begin x ending end h) ∙ le_more (max (depth_of_statement body) (depth_of_expression x)) n ∙ ap (λ b. nat_lt 0 n && b) (le_max (depth_of_statement body) (depth_of_expression x) (n - 1))

pub fits_is_While : (n : ℕ) (y : Statement) (word : Token) (begin : Token) (x : Expression) (ending : Token) (body : Statement) → y ≡ s.While word begin x ending body → fits_statement n y ≡ nat_lt 0 n && (fits_expression (n - 1) x && fits_statement (n - 1) body)
unfolding fits_expression fits_statement
fits_is_While n y word begin x ending body h = ap (λ d. nat_le d n) (levels_is_While y word begin x ending body h) ∙ le_more (max (depth_of_expression x) (depth_of_statement body)) n ∙ ap (λ b. nat_lt 0 n && b) (le_max (depth_of_expression x) (depth_of_statement body) (n - 1))

pub fits_is_For : (n : ℕ) (y : Statement) (word : Token) (begin : Token) (start : ForStart) (first : Token) (test : MaybeExpression) (second : Token) (step : MaybeExpression) (ending : Token) (body : Statement) → y ≡ s.For word begin start first test second step ending body → fits_statement n y ≡ nat_lt 0 n && (fits_for_start (n - 1) start && (fits_maybe_expression (n - 1) test && (fits_maybe_expression (n - 1) step && fits_statement (n - 1) body)))
unfolding fits_for_start fits_maybe_expression fits_statement
fits_is_For n y word begin start first test second step ending body h = ap (λ d. nat_le d n) (levels_is_For y word begin start first test second step ending body h) ∙ le_more (max (depth_of_for_start start) (max (depth_of_maybe_expression test) (max (depth_of_maybe_expression step) (depth_of_statement body)))) n ∙ ap (λ b. nat_lt 0 n && b) (le_max (depth_of_for_start start) (max (depth_of_maybe_expression test) (max (depth_of_maybe_expression step) (depth_of_statement body))) (n - 1) ∙ ap (λ b. fits_for_start (n - 1) start && b) (le_max (depth_of_maybe_expression test) (max (depth_of_maybe_expression step) (depth_of_statement body)) (n - 1) ∙ ap (λ b. fits_maybe_expression (n - 1) test && b) (le_max (depth_of_maybe_expression step) (depth_of_statement body) (n - 1))))

pub fits_is_ForEach : (n : ℕ) (y : Statement) (word : Token) (await_word : Option Token) (begin : Token) (start : ForStart) (middle : Token) (x : Expression) (ending : Token) (body : Statement) → y ≡ s.ForEach word await_word begin start middle x ending body → fits_statement n y ≡ nat_lt 0 n && (fits_for_start (n - 1) start && (fits_expression (n - 1) x && fits_statement (n - 1) body))
unfolding fits_expression fits_for_start fits_statement
fits_is_ForEach n y word await_word begin start middle x ending body h = ap (λ d. nat_le d n) (levels_is_ForEach y word await_word begin start middle x ending body h) ∙ le_more (max (depth_of_for_start start) (max (depth_of_expression x) (depth_of_statement body))) n ∙ ap (λ b. nat_lt 0 n && b) (le_max (depth_of_for_start start) (max (depth_of_expression x) (depth_of_statement body)) (n - 1) ∙ ap (λ b. fits_for_start (n - 1) start && b) (le_max (depth_of_expression x) (depth_of_statement body) (n - 1)))

pub fits_is_Continue : (n : ℕ) (y : Statement) (word : Token) (label : Option Token) (end : Option Token) → y ≡ s.Continue word label end → fits_statement n y ≡ nat_lt 0 n
unfolding fits_statement
fits_is_Continue n y word label end h = ap (λ d. nat_le d n) (levels_is_Continue y word label end h) ∙ one_fits n

pub fits_is_Break : (n : ℕ) (y : Statement) (word : Token) (label : Option Token) (end : Option Token) → y ≡ s.Break word label end → fits_statement n y ≡ nat_lt 0 n
unfolding fits_statement
fits_is_Break n y word label end h = ap (λ d. nat_le d n) (levels_is_Break y word label end h) ∙ one_fits n

pub fits_is_Return : (n : ℕ) (y : Statement) (word : Token) (x : MaybeExpression) (end : Option Token) → y ≡ s.Return word x end → fits_statement n y ≡ nat_lt 0 n && fits_maybe_expression (n - 1) x
unfolding fits_maybe_expression fits_statement
fits_is_Return n y word x end h = ap (λ d. nat_le d n) (levels_is_Return y word x end h) ∙ le_more (depth_of_maybe_expression x) n

pub fits_is_Switch : (n : ℕ) (y : Statement) (word : Token) (begin : Token) (x : Expression) (ending : Token) (left : Token) (clauses : List CaseClause) (right : Token) → y ≡ s.Switch word begin x ending left clauses right → fits_statement n y ≡ nat_lt 0 n && (fits_expression (n - 1) x && (list_all (λ b. b) (map (fits_case_clause (n - 1)) clauses)))
unfolding fits_expression fits_case_clause fits_statement
fits_is_Switch n y word begin x ending left clauses right h = ap (λ d. nat_le d n) (levels_is_Switch y word begin x ending left clauses right h) ∙ le_more (max (depth_of_expression x) (most (map depth_of_case_clause clauses))) n ∙ ap (λ b. nat_lt 0 n && b) (le_max (depth_of_expression x) (most (map depth_of_case_clause clauses)) (n - 1) ∙ ap (λ b. fits_expression (n - 1) x && b) (most_fit depth_of_case_clause (n - 1) clauses))

pub fits_is_Labelled : (n : ℕ) (y : Statement) (label : Token) (colon : Token) (body : Statement) → y ≡ s.Labelled label colon body → fits_statement n y ≡ nat_lt 0 n && fits_statement (n - 1) body
unfolding fits_statement
fits_is_Labelled n y label colon body h = ap (λ d. nat_le d n) (levels_is_Labelled y label colon body h) ∙ le_more (depth_of_statement body) n

pub fits_is_Throw : (n : ℕ) (y : Statement) (word : Token) (x : Expression) (end : Option Token) → y ≡ s.Throw word x end → fits_statement n y ≡ nat_lt 0 n && fits_expression (n - 1) x
unfolding fits_expression fits_statement
fits_is_Throw n y word x end h = ap (λ d. nat_le d n) (levels_is_Throw y word x end h) ∙ le_more (depth_of_expression x) n

pub fits_is_Try : (n : ℕ) (y : Statement) (word : Token) (block : Block) (handler : Handler) (finalizer : Finalizer) → y ≡ s.Try word block handler finalizer → fits_statement n y ≡ nat_lt 0 n && (fits_block (n - 1) block && (fits_handler (n - 1) handler && fits_finalizer (n - 1) finalizer))
unfolding fits_finalizer fits_handler fits_statement fits_block
fits_is_Try n y word block handler finalizer h = ap (λ d. nat_le d n) (levels_is_Try y word block handler finalizer h) ∙ le_more (max (depth_of_block block) (max (depth_of_handler handler) (depth_of_finalizer finalizer))) n ∙ ap (λ b. nat_lt 0 n && b) (le_max (depth_of_block block) (max (depth_of_handler handler) (depth_of_finalizer finalizer)) (n - 1) ∙ ap (λ b. fits_block (n - 1) block && b) (le_max (depth_of_handler handler) (depth_of_finalizer finalizer) (n - 1)))

pub fits_is_Debugger : (n : ℕ) (y : Statement) (word : Token) (end : Option Token) → y ≡ s.Debugger word end → fits_statement n y ≡ nat_lt 0 n
unfolding fits_statement
fits_is_Debugger n y word end h = ap (λ d. nat_le d n) (levels_is_Debugger y word end h) ∙ one_fits n

pub fits_is_FunctionDeclaration : (n : ℕ) (y : Statement) (function : Function) → y ≡ s.FunctionDeclaration function → fits_statement n y ≡ nat_lt 0 n && fits_function (n - 1) function
unfolding fits_statement fits_function
fits_is_FunctionDeclaration n y function h = ap (λ d. nat_le d n) (levels_is_FunctionDeclaration y function h) ∙ le_more (depth_of_function function) n

pub fits_is_ClassDeclaration : (n : ℕ) (y : Statement) (class : Class) → y ≡ s.ClassDeclaration class → fits_statement n y ≡ nat_lt 0 n && fits_class (n - 1) class
unfolding fits_statement fits_class
fits_is_ClassDeclaration n y class h = ap (λ d. nat_le d n) (levels_is_ClassDeclaration y class h) ∙ le_more (depth_of_class class) n

pub fits_at_Class : (n : ℕ) (y : Class) → fits_class n y ≡ fits_heritage n (out-Class y).heritage && (list_all (λ b. b) (map (fits_class_element n) (out-Class y).elements))
unfolding fits_class_element fits_heritage fits_class
fits_at_Class n y = ap (λ d. nat_le d n) (levels_at_Class y) ∙ le_max (depth_of_heritage ((out-Class y).heritage)) (most (map depth_of_class_element ((out-Class y).elements))) n ∙ ap (λ b. fits_heritage n ((out-Class y).heritage) && b) (most_fit depth_of_class_element n ((out-Class y).elements))

pub fits_at_Operand : (n : ℕ) (y : Operand) → fits_operand n y ≡ fits_expression n (out-Operand y).value
unfolding fits_expression fits_operand
fits_at_Operand n y = ap (λ d. nat_le d n) (levels_at_Operand y)

pub fits_at_Substitution : (n : ℕ) (y : Substitution) → fits_substitution n y ≡ fits_expression n (out-Substitution y).value
unfolding fits_expression fits_substitution
fits_at_Substitution n y = ap (λ d. nat_le d n) (levels_at_Substitution y)

pub fits_at_Substitutions : (n : ℕ) (y : Substitutions) → fits_substitutions n y ≡ fits_expression n (out-Substitutions y).first && (list_all (λ b. b) (map (fits_substitution n) (out-Substitutions y).rest))
unfolding fits_expression fits_substitution fits_substitutions
fits_at_Substitutions n y = ap (λ d. nat_le d n) (levels_at_Substitutions y) ∙ le_max (depth_of_expression ((out-Substitutions y).first)) (most (map depth_of_substitution ((out-Substitutions y).rest))) n ∙ ap (λ b. fits_expression n ((out-Substitutions y).first) && b) (most_fit depth_of_substitution n ((out-Substitutions y).rest))

pub fits_at_Function : (n : ℕ) (y : Function) → fits_function n y ≡ fits_bracketed n (out-Function y).parameters && fits_block n (out-Function y).body
unfolding fits_function fits_bracketed fits_block
fits_at_Function n y = ap (λ d. nat_le d n) (levels_at_Function y) ∙ le_max (depth_of_bracketed ((out-Function y).parameters)) (depth_of_block ((out-Function y).body)) n

pub fits_at_Method : (n : ℕ) (y : Method) → fits_method n y ≡ nat_lt 0 n && (fits_property_name (n - 1) (out-Method y).name && (fits_bracketed (n - 1) (out-Method y).parameters && fits_block (n - 1) (out-Method y).body))
unfolding fits_property_name fits_method fits_bracketed fits_block
fits_at_Method n y = ap (λ d. nat_le d n) (levels_at_Method y) ∙ le_more (max (depth_of_property_name ((out-Method y).name)) (max (depth_of_bracketed ((out-Method y).parameters)) (depth_of_block ((out-Method y).body)))) n ∙ ap (λ b. nat_lt 0 n && b) (le_max (depth_of_property_name ((out-Method y).name)) (max (depth_of_bracketed ((out-Method y).parameters)) (depth_of_block ((out-Method y).body))) (n - 1) ∙ ap (λ b. fits_property_name (n - 1) ((out-Method y).name) && b) (le_max (depth_of_bracketed ((out-Method y).parameters)) (depth_of_block ((out-Method y).body)) (n - 1)))

pub fits_at_Bracketed : (n : ℕ) (y : Bracketed) → fits_bracketed n y ≡ fits_elements n (out-Bracketed y).list
unfolding fits_bracketed fits_elements
fits_at_Bracketed n y = ap (λ d. nat_le d n) (levels_at_Bracketed y)

pub fits_at_Elements : (n : ℕ) (y : Elements) → fits_elements n y ≡ fits_element n (out-Elements y).first && (list_all (λ b. b) (map (fits_next_element n) (out-Elements y).rest))
unfolding fits_element fits_elements fits_next_element
fits_at_Elements n y = ap (λ d. nat_le d n) (levels_at_Elements y) ∙ le_max (depth_of_element ((out-Elements y).first)) (most (map depth_of_next_element ((out-Elements y).rest))) n ∙ ap (λ b. fits_element n ((out-Elements y).first) && b) (most_fit depth_of_next_element n ((out-Elements y).rest))

pub fits_at_NextElement : (n : ℕ) (y : NextElement) → fits_next_element n y ≡ fits_element n (out-NextElement y).element
unfolding fits_element fits_next_element
fits_at_NextElement n y = ap (λ d. nat_le d n) (levels_at_NextElement y)

pub fits_at_Block : (n : ℕ) (y : Block) → fits_block n y ≡ list_all (λ b. b) (map (fits_statement n) (out-Block y).body)
unfolding fits_statement fits_block
fits_at_Block n y = ap (λ d. nat_le d n) (levels_at_Block y) ∙ most_fit depth_of_statement n ((out-Block y).body)

pub fits_at_Declaration : (n : ℕ) (y : Declaration) → fits_declaration n y ≡ fits_elements n (out-Declaration y).bindings
unfolding fits_elements fits_declaration
fits_at_Declaration n y = ap (λ d. nat_le d n) (levels_at_Declaration y)

pub fits_at_ElseIf : (n : ℕ) (y : ElseIf) → fits_else_if n y ≡ fits_if_clause n (out-ElseIf y).clause
unfolding fits_else_if fits_if_clause
fits_at_ElseIf n y = ap (λ d. nat_le d n) (levels_at_ElseIf y)

pub fits_at_IfClause : (n : ℕ) (y : IfClause) → fits_if_clause n y ≡ fits_expression n (out-IfClause y).condition && fits_statement n (out-IfClause y).body
unfolding fits_expression fits_statement fits_if_clause
fits_at_IfClause n y = ap (λ d. nat_le d n) (levels_at_IfClause y) ∙ le_max (depth_of_expression ((out-IfClause y).condition)) (depth_of_statement ((out-IfClause y).body)) n
