-- Which trees are well formed: one line for each production, with its section of ECMA-262, 11th edition.
use Rattle.std.specs.Prelude.{◌≡◌, ℕ, ◌-◌, ◌<◌, ◌≤◌, Bool, true, false, not, ◌&&◌, ◌||◌, if◌then◌else◌, ◌==◌, List, [], ◌∷◌, ◌++◌, Option, Some, None, codes}
use Rattle.esb_token.specs.declared.kind.Kind.{Kind}
use Rattle.esb_token.specs.declared.kind.Kind.TheVariants as k
use Rattle.esb_token.specs.declared.token.Token.{Token}
use Rattle.esb_tree.specs.declared.classes.Class.{Class, roll-Class}
use Rattle.esb_tree.specs.declared.classes.ClassElement.{ClassElement}
use Rattle.esb_tree.specs.declared.classes.ClassElement.TheVariants as ce
use Rattle.esb_tree.specs.declared.classes.Heritage.{Heritage}
use Rattle.esb_tree.specs.declared.classes.Heritage.TheVariants as he
use Rattle.esb_tree.specs.declared.expressions.Expression.{Expression}
use Rattle.esb_tree.specs.declared.expressions.Expression.TheVariants as e
use Rattle.esb_tree.specs.declared.expressions.Link.{Link}
use Rattle.esb_tree.specs.declared.expressions.Link.TheVariants as l
use Rattle.esb_tree.specs.declared.expressions.Operand.{Operand, roll-Operand}
use Rattle.esb_tree.specs.declared.expressions.Substitution.{Substitution, roll-Substitution}
use Rattle.esb_tree.specs.declared.expressions.Substitutions.{Substitutions, roll-Substitutions}
use Rattle.esb_tree.specs.declared.functions.ConciseBody.{ConciseBody}
use Rattle.esb_tree.specs.declared.functions.ConciseBody.TheVariants as cb
use Rattle.esb_tree.specs.declared.functions.Function.{Function, roll-Function}
use Rattle.esb_tree.specs.declared.functions.Method.{Method, roll-Method}
use Rattle.esb_tree.specs.declared.patterns.Bracketed.{Bracketed, roll-Bracketed, out-Bracketed}
use Rattle.esb_tree.specs.declared.patterns.Element.{Element}
use Rattle.esb_tree.specs.declared.patterns.Element.TheVariants as el
use Rattle.esb_tree.specs.declared.patterns.Elements.{Elements, roll-Elements}
use Rattle.esb_tree.specs.declared.patterns.NextElement.{NextElement, roll-NextElement}
use Rattle.esb_tree.specs.declared.patterns.PropertyName.{PropertyName}
use Rattle.esb_tree.specs.declared.patterns.PropertyName.TheVariants as pn
use Rattle.esb_tree.specs.declared.statements.Block.{Block, roll-Block}
use Rattle.esb_tree.specs.declared.statements.CaseClause.{CaseClause}
use Rattle.esb_tree.specs.declared.statements.CaseClause.TheVariants as cc
use Rattle.esb_tree.specs.declared.statements.Declaration.{Declaration, roll-Declaration, out-Declaration}
use Rattle.esb_tree.specs.declared.classes.ClassElement.TheOpen.{Else-F}
use Rattle.esb_tree.specs.declared.statements.Else.{Else, out-Else}
use Rattle.esb_tree.specs.declared.statements.Else.TheVariants as ot
use Rattle.esb_tree.specs.declared.statements.ElseIf.{ElseIf, roll-ElseIf}
use Rattle.esb_tree.specs.declared.statements.Finalizer.{Finalizer}
use Rattle.esb_tree.specs.declared.statements.Finalizer.TheVariants as fi
use Rattle.esb_tree.specs.declared.statements.ForStart.{ForStart}
use Rattle.esb_tree.specs.declared.statements.ForStart.TheVariants as fs
use Rattle.esb_tree.specs.declared.statements.Handler.{Handler}
use Rattle.esb_tree.specs.declared.statements.Handler.TheVariants as ha
use Rattle.esb_tree.specs.declared.statements.IfClause.{IfClause, roll-IfClause}
use Rattle.esb_tree.specs.declared.statements.MaybeExpression.{MaybeExpression}
use Rattle.esb_tree.specs.declared.statements.MaybeExpression.TheVariants as me
use Rattle.esb_tree.specs.declared.statements.Statement.{Statement}
use Rattle.esb_tree.specs.declared.statements.Statement.TheVariants as s
use Rattle.esb_tree.specs.Operators.{level_of, is_unary, is_assignment}
use Rattle.esb_tree.specs.Trees.{written}
use Rattle.esb_tree.specs.Yields.{maybe_token, tokens_of_expression, tokens_of_property_name, tokens_of_declaration}
use Rattle.esb_grammar.specs.declared.context.Context.{Context}
use Rattle.esb_grammar.specs.declared.form.Form.{Form}
use Rattle.esb_grammar.specs.declared.form.Form.TheVariants as f
use Rattle.esb_grammar.specs.Contexts.{inside, without_in, of_function, of_arrow}
use Rattle.esb_grammar.specs.Edges.{takes_else, is_if, is_optional, follows_super}
use Rattle.esb_grammar.specs.Forms.{opener, closer, takes_hole, takes_value, takes_spread, takes_binding, is_empty}
use Rattle.esb_grammar.specs.Kinds.{is_reference, is_binding, is_literal, is_identifier_name, is_property_word, is_update, is_lexical, is_star, is_static}
use Rattle.esb_grammar.specs.Semicolons.{Ends, EndsLoop, expression_goes_on, statement_goes_on, bindings_go_on, nothing_goes_on}
use Rattle.esb_grammar.specs.Words.{is_word, is_async, if_there, kind_if_there, on_line, on_line_behind, begins_brace, begins_let, begins_let_bracket, begins_no_expression}

-- the loosest binary operator, `??`
abbrev pub loosest : ℕ
loosest = 12

-- How tightly the operands of an operator bind: one level tighter than it, but those of `??` as a BitwiseORExpression (12.13).
abbrev pub operand_level : ℕ → ℕ
operand_level own = if own == loosest then 9 else own - 1

abbrev pub else_layer : Else-F ClassElement Heritage Expression Link ConciseBody Element PropertyName CaseClause Else Finalizer ForStart Handler MaybeExpression Statement Class Operand Substitution Substitutions Function Method Bracketed Elements NextElement Block Declaration ElseIf IfClause → Bool
else_layer (Else-F.NoElse) = false
else_layer (Else-F.Otherwise word body) = true

unfoldable pub has_else : Else → Bool
has_else x = else_layer (out-Else x)

-- `await` where it is an operator
abbrev pub is_await_in : Context → Kind → Bool
is_await_in c k.Await = c.has_await
is_await_in c _ = false

-- `var`, `let` or `const`
abbrev pub is_variable : Kind → Bool
is_variable k.Var = true
is_variable kind = is_lexical kind

-- no line terminator stands before a token
abbrev pub stands_on_line : Token → Bool
stands_on_line t = not t.after_line

-- Each family is over the bytes of the text, since words such as `async` are names of their own bytes, and since a semicolon may be
-- left out by what follows. A context says which words are operators.
mutual
  -- ---- expressions (clause 12)

  -- PrimaryExpression (12.2)
  pub data IsPrimary (text : List ℕ) : Context → Expression → Type 0 where
    identifier_reference : {c : Context} {t : Token} → is_reference c t.kind ≡ true → IsPrimary text c (e.Primary t)
    literal : {c : Context} {t : Token} → is_literal t.kind ≡ true → IsPrimary text c (e.Primary t)
    array_literal : {c : Context} {list : Bracketed} → IsBracketed text f.Array c list → IsPrimary text c (e.ArrayLiteral list)
    object_literal : {c : Context} {list : Bracketed} → IsBracketed text f.Object c list → IsPrimary text c (e.ObjectLiteral list)
    parenthesized : {c : Context} {list : Bracketed} → IsBracketed text f.Values c list → IsPrimary text c (e.Parenthesized list)
    template_literal : {c : Context} {template : Substitutions} → IsTemplate text c template → IsPrimary text c (e.TemplateLiteral template)
    function_expression : {c : Context} {function : Function} → IsFunction text false function → IsPrimary text c (e.FunctionExpression function)
    class_expression : {c : Context} {class : Class} → IsClass text false c class → IsPrimary text c (e.ClassExpression class)

  -- SubstitutionTemplate (12.2.9)
  pub data IsTemplate (text : List ℕ) : Context → Substitutions → Type 0 where
    substitution_template : {c : Context} (begin : Token) (first : Expression) (rest : List Substitution) (ending : Token) → begin.kind ≡ k.TemplateHead → IsExpression text (inside c) first → AreSubstitutions text c rest → ending.kind ≡ k.TemplateTail → IsTemplate text c (roll-Substitutions (record { head = begin; first = first; rest = rest; tail = ending }))

  -- TemplateMiddleList (12.2.9)
  pub data AreSubstitutions (text : List ℕ) : Context → List Substitution → Type 0 where
    no_substitutions : {c : Context} → AreSubstitutions text c []
    template_middle : {c : Context} {middle : Token} {x : Expression} {rest : List Substitution} → middle.kind ≡ k.TemplateMiddle → IsExpression text (inside c) x → AreSubstitutions text c rest → AreSubstitutions text c (roll-Substitution (record { middle = middle; value = x }) ∷ rest)

  -- PropertyName (12.2.6)
  pub data IsPropertyName (text : List ℕ) : Context → PropertyName → Type 0 where
    literal_property_name : {c : Context} {t : Token} → is_property_word t.kind ≡ true → IsPropertyName text c (pn.Named t)
    computed_property_name : {c : Context} {begin : Token} {x : Expression} {ending : Token} → begin.kind ≡ k.LeftBracket → IsAssignment text (inside c) x → ending.kind ≡ k.RightBracket → IsPropertyName text c (pn.Computed begin x ending)

  -- What a chain of members and calls begins with (12.3). The first flag says that there may be calls and optional chains, as in
  -- a CallExpression and an OptionalExpression; without it the chain is a MemberExpression.
  pub data IsOrigin (text : List ℕ) : Bool → Context → Expression → Type 0 where
    primary_expression : {calls : Bool} {c : Context} {x : Expression} → IsPrimary text c x → IsOrigin text calls c x
    -- MetaProperty (12.3.12)
    new_target : {calls : Bool} {c : Context} {word dot name : Token} → word.kind ≡ k.New → dot.kind ≡ k.Dot → is_word text (codes "target") name ≡ true → IsOrigin text calls c (e.MetaProperty word dot name)
    import_meta : {calls : Bool} {c : Context} {word dot name : Token} → word.kind ≡ k.Import → dot.kind ≡ k.Dot → is_word text (codes "meta") name ≡ true → IsOrigin text calls c (e.MetaProperty word dot name)
    -- `new` MemberExpression Arguments (12.3.5)
    new_with_arguments : {calls : Bool} {c : Context} {word : Token} {callee : Expression} {arguments : Bracketed} → word.kind ≡ k.New → IsAccess text false c callee → IsBracketed text f.Arguments c arguments → IsOrigin text calls c (e.New word callee arguments)
    -- ImportCall (12.3.10)
    import_call : {c : Context} {word begin : Token} {x : Expression} {ending : Token} → word.kind ≡ k.Import → begin.kind ≡ k.LeftParenthesis → IsAssignment text (inside c) x → ending.kind ≡ k.RightParenthesis → IsOrigin text true c (e.ImportCall word begin x ending)

  -- MemberExpression, CallExpression and OptionalExpression (12.3)
  pub data IsAccess (text : List ℕ) : Bool → Context → Expression → Type 0 where
    origin : {calls : Bool} {c : Context} {x : Expression} → IsOrigin text calls c x → IsAccess text calls c x
    member : {calls : Bool} {c : Context} (object : Expression) (first : Link) (rest : List Link) → IsOrigin text calls c object → AreLinks text calls false c (first ∷ rest) → IsAccess text calls c (e.Member object (first ∷ rest))
    -- SuperProperty and SuperCall (12.3.7)
    super_member : {calls : Bool} {c : Context} (word : Token) (first : Link) (rest : List Link) → word.kind ≡ k.Super → follows_super first ≡ true → AreLinks text calls false c (first ∷ rest) → IsAccess text calls c (e.Member (e.Primary word) (first ∷ rest))

  -- The second flag says that an OptionalChain has begun (12.3.9), in which no template stands.
  pub data AreLinks (text : List ℕ) : Bool → Bool → Context → List Link → Type 0 where
    no_links : {calls optional : Bool} {c : Context} → AreLinks text calls optional c []
    more_links : {calls optional : Bool} {c : Context} {first : Link} {rest : List Link} → IsLink text calls optional c first → AreLinks text calls (optional || is_optional first) c rest → AreLinks text calls optional c (first ∷ rest)

  pub data IsLink (text : List ℕ) : Bool → Bool → Context → Link → Type 0 where
    -- property accessors (12.3.2)
    dot_name : {calls optional : Bool} {c : Context} {dot name : Token} → dot.kind ≡ k.Dot → is_identifier_name name.kind ≡ true → IsLink text calls optional c (l.Dot dot name)
    index : {calls optional : Bool} {c : Context} {begin : Token} {x : Expression} {ending : Token} → begin.kind ≡ k.LeftBracket → IsExpression text (inside c) x → ending.kind ≡ k.RightBracket → IsLink text calls optional c (l.Index begin x ending)
    -- CallExpression Arguments (12.3.6)
    call : {optional : Bool} {c : Context} {arguments : Bracketed} → IsBracketed text f.Arguments c arguments → IsLink text true optional c (l.Call arguments)
    -- MemberExpression TemplateLiteral (12.3.11)
    tagged : {calls : Bool} {c : Context} {template : Token} → template.kind ≡ k.TemplateWhole → IsLink text calls false c (l.Tagged template)
    tagged_template : {calls : Bool} {c : Context} {template : Substitutions} → IsTemplate text c template → IsLink text calls false c (l.TaggedTemplate template)
    -- OptionalChain (12.3.9)
    optional_dot : {optional : Bool} {c : Context} {dot name : Token} → dot.kind ≡ k.QuestionDot → is_identifier_name name.kind ≡ true → IsLink text true optional c (l.OptionalDot dot name)
    optional_index : {optional : Bool} {c : Context} {dot begin : Token} {x : Expression} {ending : Token} → dot.kind ≡ k.QuestionDot → begin.kind ≡ k.LeftBracket → IsExpression text (inside c) x → ending.kind ≡ k.RightBracket → IsLink text true optional c (l.OptionalIndex dot begin x ending)
    optional_call : {optional : Bool} {c : Context} {dot : Token} {arguments : Bracketed} → dot.kind ≡ k.QuestionDot → IsBracketed text f.Arguments c arguments → IsLink text true optional c (l.OptionalCall dot arguments)

  -- NewExpression (12.3.5)
  pub data IsNew (text : List ℕ) : Context → Expression → Type 0 where
    member_expression : {c : Context} {x : Expression} → IsAccess text false c x → IsNew text c x
    new_expression : {c : Context} {word : Token} {callee : Expression} → word.kind ≡ k.New → IsNew text c callee → IsNew text c (e.NewPlain word callee)

  -- LeftHandSideExpression (12.3)
  pub data IsLeftHandSide (text : List ℕ) : Context → Expression → Type 0 where
    access : {c : Context} {x : Expression} → IsAccess text true c x → IsLeftHandSide text c x
    new_without_arguments : {c : Context} {word : Token} {callee : Expression} → word.kind ≡ k.New → IsNew text c callee → IsLeftHandSide text c (e.NewPlain word callee)

  -- UpdateExpression (12.4)
  pub data IsUpdate (text : List ℕ) : Context → Expression → Type 0 where
    left_hand_side : {c : Context} {x : Expression} → IsLeftHandSide text c x → IsUpdate text c x
    postfix : {c : Context} {x : Expression} {operator : Token} → IsLeftHandSide text c x → is_update operator.kind ≡ true → operator.after_line ≡ false → IsUpdate text c (e.PostfixUpdate x operator)
    prefix : {c : Context} {operator : Token} {x : Expression} → is_update operator.kind ≡ true → IsUnary text c x → IsUpdate text c (e.PrefixUpdate operator x)

  -- UnaryExpression (12.5)
  pub data IsUnary (text : List ℕ) : Context → Expression → Type 0 where
    update : {c : Context} {x : Expression} → IsUpdate text c x → IsUnary text c x
    unary : {c : Context} {operator : Token} {x : Expression} → is_unary operator.kind ≡ true → IsUnary text c x → IsUnary text c (e.Unary operator x)
    -- AwaitExpression (14.7)
    await : {c : Context} {word : Token} {x : Expression} → c.has_await ≡ true → word.kind ≡ k.Await → IsUnary text c x → IsUnary text c (e.Await word x)

  -- Binary operators that bind at least as tightly as a level: ExponentiationExpression (12.6) at 1, MultiplicativeExpression (12.7)
  -- at 2, and so on up to ShortCircuitExpression (12.13) at 12.
  pub data IsBinary (text : List ℕ) : ℕ → Context → Expression → Type 0 where
    unary_expression : {level : ℕ} {c : Context} {x : Expression} → IsUnary text c x → IsBinary text level c x
    exponentiation : {level : ℕ} {c : Context} (first : Expression) (second : Operand) (rest : List Operand) → 1 ≤ level → IsUpdate text c first → ArePowers text c (second ∷ rest) → IsBinary text level c (e.Binary first (second ∷ rest))
    operators : {level : ℕ} (own : ℕ) {c : Context} (first : Expression) (second : Operand) (rest : List Operand) → 1 < own → own ≤ level → IsBinary text (operand_level own) c first → AreOperands text own c (second ∷ rest) → IsBinary text level c (e.Binary first (second ∷ rest))

  -- `**` binds to the right: only its last operand may be a unary expression (12.6).
  pub data ArePowers (text : List ℕ) : Context → List Operand → Type 0 where
    last_power : {c : Context} {operator : Token} {x : Expression} → operator.kind ≡ k.StarStar → IsUnary text c x → ArePowers text c (roll-Operand (record { operator = operator; value = x }) ∷ [])
    more_powers : {c : Context} {operator : Token} {x : Expression} {second : Operand} {rest : List Operand} → operator.kind ≡ k.StarStar → IsUpdate text c x → ArePowers text c (second ∷ rest) → ArePowers text c (roll-Operand (record { operator = operator; value = x }) ∷ (second ∷ rest))

  pub data AreOperands (text : List ℕ) : ℕ → Context → List Operand → Type 0 where
    no_operands : {own : ℕ} {c : Context} → AreOperands text own c []
    more_operands : {own : ℕ} {c : Context} {operator : Token} {x : Expression} {rest : List Operand} → level_of c.has_in operator.kind ≡ own → IsBinary text (operand_level own) c x → AreOperands text own c rest → AreOperands text own c (roll-Operand (record { operator = operator; value = x }) ∷ rest)

  -- ConditionalExpression (12.14)
  pub data IsConditional (text : List ℕ) : Context → Expression → Type 0 where
    short_circuit : {c : Context} {x : Expression} → IsBinary text loosest c x → IsConditional text c x
    conditional : {c : Context} {test : Expression} {question : Token} {x : Expression} {colon : Token} {other : Expression} → IsBinary text loosest c test → question.kind ≡ k.Question → IsAssignment text (inside c) x → colon.kind ≡ k.Colon → IsAssignment text c other → IsConditional text c (e.Conditional test question x colon other)

  -- AssignmentExpression (12.15)
  pub data IsAssignment (text : List ℕ) : Context → Expression → Type 0 where
    conditional_expression : {c : Context} {x : Expression} → IsConditional text c x → IsAssignment text c x
    assignment : {c : Context} {target : Expression} {operator : Token} {x : Expression} → IsLeftHandSide text c target → is_assignment operator.kind ≡ true → IsAssignment text c x → IsAssignment text c (e.Assignment target operator x)
    -- YieldExpression (14.4)
    yield_alone : {c : Context} {word : Token} → c.has_yield ≡ true → word.kind ≡ k.Yield → IsAssignment text c (e.Yield word)
    yield_value : {c : Context} {word : Token} {x : Expression} → c.has_yield ≡ true → word.kind ≡ k.Yield → on_line (tokens_of_expression written x) ≡ true → IsAssignment text c x → IsAssignment text c (e.YieldValue word x)
    yield_each : {c : Context} {word star : Token} {x : Expression} → c.has_yield ≡ true → word.kind ≡ k.Yield → star.kind ≡ k.Star → star.after_line ≡ false → IsAssignment text c x → IsAssignment text c (e.YieldEach word star x)
    -- ArrowFunction (14.2)
    arrow_function : {c : Context} {parameters : Expression} {arrow : Token} {body : ConciseBody} → IsArrowHead text c parameters → arrow.kind ≡ k.Arrow → arrow.after_line ≡ false → IsConciseBody text (of_arrow c false) body → IsAssignment text c (e.Arrow parameters arrow body)
    -- AsyncArrowFunction (14.8)
    async_arrow_function : {c : Context} {parameters : Expression} {arrow : Token} {body : ConciseBody} → IsAsyncArrowHead text c parameters → arrow.kind ≡ k.Arrow → arrow.after_line ≡ false → IsConciseBody text (of_arrow c true) body → IsAssignment text c (e.Arrow parameters arrow body)
    async_arrow_of_name : {c : Context} {word name arrow : Token} {body : ConciseBody} → is_async text word ≡ true → is_binding name.kind ≡ true → name.after_line ≡ false → arrow.kind ≡ k.Arrow → arrow.after_line ≡ false → IsConciseBody text (of_arrow c true) body → IsAssignment text c (e.AsyncArrow word name arrow body)

  -- ArrowParameters (14.2): a name, or a list in parentheses that covers FormalParameters
  pub data IsArrowHead (text : List ℕ) : Context → Expression → Type 0 where
    arrow_name : {c : Context} {t : Token} → is_reference c t.kind ≡ true → IsArrowHead text c (e.Primary t)
    arrow_parameters : {c : Context} {list : Bracketed} → IsBracketed text f.Arguments c list → IsBracketed text f.Parameters c list → IsArrowHead text c (e.Parenthesized list)

  -- CoverCallExpressionAndAsyncArrowHead (14.8): `async` and, on its line, a list that covers FormalParameters
  pub data IsAsyncArrowHead (text : List ℕ) : Context → Expression → Type 0 where
    async_arrow_parameters : {c : Context} (word : Token) (list : Bracketed) → is_async text word ≡ true → (out-Bracketed list).begin.after_line ≡ false → IsBracketed text f.Arguments c list → IsBracketed text f.Parameters c list → IsAsyncArrowHead text c (e.Member (e.Primary word) (l.Call list ∷ []))

  -- ConciseBody (14.2) and AsyncConciseBody (14.8)
  pub data IsConciseBody (text : List ℕ) : Context → ConciseBody → Type 0 where
    concise_value : {c : Context} {x : Expression} → begins_brace (tokens_of_expression written x) ≡ false → IsAssignment text c x → IsConciseBody text c (cb.ConciseValue x)
    concise_block : {c : Context} {block : Block} → IsBlock text (inside c) block → IsConciseBody text c (cb.ConciseBlock block)

  -- Expression (12.16)
  pub data IsExpression (text : List ℕ) : Context → Expression → Type 0 where
    assignment_expression : {c : Context} {x : Expression} → IsAssignment text c x → IsExpression text c x
    commas : {c : Context} (first : Expression) (second : Operand) (rest : List Operand) → IsAssignment text c first → AreCommaOperands text c (second ∷ rest) → IsExpression text c (e.Binary first (second ∷ rest))

  pub data AreCommaOperands (text : List ℕ) : Context → List Operand → Type 0 where
    no_comma_operands : {c : Context} → AreCommaOperands text c []
    comma_operand : {c : Context} {comma : Token} {x : Expression} {rest : List Operand} → comma.kind ≡ k.Comma → IsAssignment text c x → AreCommaOperands text c rest → AreCommaOperands text c (roll-Operand (record { operator = comma; value = x }) ∷ rest)

  -- ---- lists of elements

  -- a list of some form in its brackets
  pub data IsBracketed (text : List ℕ) : Form → Context → Bracketed → Type 0 where
    bracketed : {form : Form} {c : Context} (begin : Token) (list : Elements) (ending : Token) → begin.kind ≡ opener form → AreElements text form c list → ending.kind ≡ closer form → IsBracketed text form c (roll-Bracketed (record { begin = begin; list = list; ending = ending }))

  pub data AreElements (text : List ℕ) : Form → Context → Elements → Type 0 where
    elements : {form : Form} {c : Context} (first : Element) (rest : List NextElement) → IsElement text form (is_empty rest) c first → AreNextElements text form c rest → AreElements text form c (roll-Elements (record { first = first; rest = rest }))

  pub data AreNextElements (text : List ℕ) : Form → Context → List NextElement → Type 0 where
    no_elements : {form : Form} {c : Context} → AreNextElements text form c []
    more_elements : {form : Form} {c : Context} {comma : Token} {element : Element} {rest : List NextElement} → comma.kind ≡ k.Comma → IsElement text form (is_empty rest) c element → AreNextElements text form c rest → AreNextElements text form c (roll-NextElement (record { comma = comma; element = element }) ∷ rest)

  -- what stands between two commas of a list of some form; the flag says that no comma is behind it
  pub data IsElement (text : List ℕ) : Form → Bool → Context → Element → Type 0 where
    hole : {form : Form} {last : Bool} {c : Context} → takes_hole form last ≡ true → IsElement text form last c el.Hole
    -- ParenthesizedExpression (12.2.10), ElementList (12.2.5), ArgumentList (12.3.8)
    value : {form : Form} {last : Bool} {c : Context} {x : Expression} → takes_value form ≡ true → IsAssignment text (inside c) x → IsElement text form last c (el.Value x)
    spread : {form : Form} {last : Bool} {c : Context} {dots : Token} {x : Expression} → takes_spread form ≡ true → dots.kind ≡ k.Ellipsis → IsAssignment text (inside c) x → IsElement text form last c (el.Spread dots x)
    -- PropertyDefinition (12.2.6)
    shorthand : {last : Bool} {c : Context} {name : Token} → is_reference c name.kind ≡ true → IsElement text f.Object last c (el.Shorthand name)
    cover_initialized_name : {last : Bool} {c : Context} {name sign : Token} {x : Expression} → is_reference c name.kind ≡ true → sign.kind ≡ k.Assign → IsAssignment text (inside c) x → IsElement text f.Object last c (el.Initialized name sign x)
    property : {last : Bool} {c : Context} {name : PropertyName} {colon : Token} {x : Expression} → IsPropertyName text c name → colon.kind ≡ k.Colon → IsAssignment text (inside c) x → IsElement text f.Object last c (el.Property name colon x)
    method_property : {last : Bool} {c : Context} {method : Method} → IsMethod text c method → IsElement text f.Object last c (el.MethodProperty method)
    -- FormalParameter (14.1), BindingElement (13.3.3)
    binding_element : {form : Form} {last : Bool} {c : Context} {x : Expression} → takes_binding form ≡ true → IsBindingElement text c x → IsElement text form last c (el.Value x)
    -- FunctionRestParameter (14.1), BindingRestElement (13.3.3)
    rest_element : {form : Form} {c : Context} {dots : Token} {x : Expression} → takes_binding form ≡ true → dots.kind ≡ k.Ellipsis → IsTarget text c x → IsElement text form true c (el.Spread dots x)
    -- BindingProperty, SingleNameBinding and BindingRestProperty (13.3.3)
    single_name : {last : Bool} {c : Context} {name : Token} → is_binding name.kind ≡ true → IsElement text f.ObjectPattern last c (el.Shorthand name)
    single_name_initialized : {last : Bool} {c : Context} {name sign : Token} {x : Expression} → is_binding name.kind ≡ true → sign.kind ≡ k.Assign → IsAssignment text (inside c) x → IsElement text f.ObjectPattern last c (el.Initialized name sign x)
    binding_property : {last : Bool} {c : Context} {name : PropertyName} {colon : Token} {x : Expression} → IsPropertyName text c name → colon.kind ≡ k.Colon → IsBindingElement text c x → IsElement text f.ObjectPattern last c (el.Property name colon x)
    rest_property : {c : Context} {dots name : Token} → dots.kind ≡ k.Ellipsis → is_binding name.kind ≡ true → IsElement text f.ObjectPattern true c (el.Spread dots (e.Primary name))
    -- LexicalBinding (13.3.1), VariableDeclaration (13.3.2)
    binding : {last : Bool} {c : Context} {x : Expression} → IsBinding text c x → IsElement text f.Bindings last c (el.Value x)

  -- BindingIdentifier (12.1) or BindingPattern (13.3.3)
  pub data IsTarget (text : List ℕ) : Context → Expression → Type 0 where
    binding_identifier : {c : Context} {t : Token} → is_binding t.kind ≡ true → IsTarget text c (e.Primary t)
    array_pattern : {c : Context} {list : Bracketed} → IsBracketed text f.ArrayPattern c list → IsTarget text c (e.ArrayLiteral list)
    object_pattern : {c : Context} {list : Bracketed} → IsBracketed text f.ObjectPattern c list → IsTarget text c (e.ObjectLiteral list)

  -- BindingElement (13.3.3): what is bound, and maybe its default
  pub data IsBindingElement (text : List ℕ) : Context → Expression → Type 0 where
    without_default : {c : Context} {x : Expression} → IsTarget text c x → IsBindingElement text c x
    with_default : {c : Context} {target : Expression} {sign : Token} {x : Expression} → IsTarget text c target → sign.kind ≡ k.Assign → IsAssignment text (inside c) x → IsBindingElement text c (e.Assignment target sign x)

  -- LexicalBinding (13.3.1) and VariableDeclaration (13.3.2): a pattern has a value
  pub data IsBinding (text : List ℕ) : Context → Expression → Type 0 where
    without_value : {c : Context} {t : Token} → is_binding t.kind ≡ true → IsBinding text c (e.Primary t)
    with_value : {c : Context} {target : Expression} {sign : Token} {x : Expression} → IsTarget text c target → sign.kind ≡ k.Assign → IsAssignment text c x → IsBinding text c (e.Assignment target sign x)

  -- ---- functions and classes (clause 14)

  -- FunctionExpression (14.1), GeneratorExpression (14.4), AsyncGeneratorExpression (14.5), AsyncFunctionExpression (14.7), and the
  -- declarations, whose names are there: the flag says so.
  pub data IsFunction (text : List ℕ) : Bool → Function → Type 0 where
    nameless_function : (async_word : Option Token) (word : Token) (star : Option Token) (parameters : Bracketed) (body : Block) → if_there (is_async text) async_word ≡ true → word.kind ≡ k.Function → on_line_behind async_word (word ∷ []) ≡ true → kind_if_there is_star star ≡ true → IsBracketed text f.Parameters (of_function async_word star) parameters → IsBlock text (of_function async_word star) body → IsFunction text false (roll-Function (record { async_word = async_word; word = word; star = star; name = None; parameters = parameters; body = body }))
    named_function : {is_named : Bool} (async_word : Option Token) (word : Token) (star : Option Token) (name : Token) (parameters : Bracketed) (body : Block) → if_there (is_async text) async_word ≡ true → word.kind ≡ k.Function → on_line_behind async_word (word ∷ []) ≡ true → kind_if_there is_star star ≡ true → is_binding name.kind ≡ true → IsBracketed text f.Parameters (of_function async_word star) parameters → IsBlock text (of_function async_word star) body → IsFunction text is_named (roll-Function (record { async_word = async_word; word = word; star = star; name = Some name; parameters = parameters; body = body }))

  -- MethodDefinition (14.3)
  pub data IsMethod (text : List ℕ) : Context → Method → Type 0 where
    -- also GeneratorMethod (14.4)
    plain_method : {c : Context} (star : Option Token) (name : PropertyName) (parameters : Bracketed) (body : Block) → kind_if_there is_star star ≡ true → IsPropertyName text c name → IsBracketed text f.Parameters (of_function None star) parameters → IsBlock text (of_function None star) body → IsMethod text c (roll-Method (record { word = None; star = star; name = name; parameters = parameters; body = body }))
    -- AsyncMethod (14.7) and AsyncGeneratorMethod (14.5)
    async_method : {c : Context} (word : Token) (star : Option Token) (name : PropertyName) (parameters : Bracketed) (body : Block) → is_async text word ≡ true → kind_if_there is_star star ≡ true → on_line (maybe_token star ++ tokens_of_property_name written name) ≡ true → IsPropertyName text c name → IsBracketed text f.Parameters (of_function (Some word) star) parameters → IsBlock text (of_function (Some word) star) body → IsMethod text c (roll-Method (record { word = Some word; star = star; name = name; parameters = parameters; body = body }))
    -- getters and setters
    accessor : {c : Context} (word : Token) (name : PropertyName) (parameters : Bracketed) (body : Block) → is_word text (codes "get") word || is_word text (codes "set") word ≡ true → IsPropertyName text c name → IsBracketed text f.Parameters (of_function None None) parameters → IsBlock text (of_function None None) body → IsMethod text c (roll-Method (record { word = Some word; star = None; name = name; parameters = parameters; body = body }))

  -- ClassExpression and ClassDeclaration (14.6); the flag says that the name is there
  pub data IsClass (text : List ℕ) : Bool → Context → Class → Type 0 where
    nameless_class : {c : Context} (word : Token) (heritage : Heritage) (begin : Token) (members : List ClassElement) (ending : Token) → word.kind ≡ k.Class → IsHeritage text c heritage → begin.kind ≡ k.LeftBrace → AreClassElements text c members → ending.kind ≡ k.RightBrace → IsClass text false c (roll-Class (record { word = word; name = None; heritage = heritage; begin = begin; elements = members; ending = ending }))
    named_class : {is_named : Bool} {c : Context} (word name : Token) (heritage : Heritage) (begin : Token) (members : List ClassElement) (ending : Token) → word.kind ≡ k.Class → is_binding name.kind ≡ true → IsHeritage text c heritage → begin.kind ≡ k.LeftBrace → AreClassElements text c members → ending.kind ≡ k.RightBrace → IsClass text is_named c (roll-Class (record { word = word; name = Some name; heritage = heritage; begin = begin; elements = members; ending = ending }))

  -- ClassHeritage (14.6)
  pub data IsHeritage (text : List ℕ) : Context → Heritage → Type 0 where
    no_heritage : {c : Context} → IsHeritage text c he.NoHeritage
    class_heritage : {c : Context} {word : Token} {x : Expression} → word.kind ≡ k.Extends → IsLeftHandSide text c x → IsHeritage text c (he.Extends word x)

  -- ClassElementList (14.6)
  pub data AreClassElements (text : List ℕ) : Context → List ClassElement → Type 0 where
    no_class_elements : {c : Context} → AreClassElements text c []
    class_method : {c : Context} {word : Option Token} {method : Method} {rest : List ClassElement} → kind_if_there is_static word ≡ true → IsMethod text c method → AreClassElements text c rest → AreClassElements text c (ce.ClassMethod word method ∷ rest)
    class_semicolon : {c : Context} {semicolon : Token} {rest : List ClassElement} → semicolon.kind ≡ k.Semicolon → AreClassElements text c rest → AreClassElements text c (ce.EmptyElement semicolon ∷ rest)

  -- ---- statements (clause 13)

  -- Block (13.2) and FunctionBody (14.1)
  pub data IsBlock (text : List ℕ) : Context → Block → Type 0 where
    braces : {c : Context} (begin : Token) (body : List Statement) (ending : Token) → begin.kind ≡ k.LeftBrace → AreItems text c body → ending.kind ≡ k.RightBrace → IsBlock text c (roll-Block (record { begin = begin; body = body; ending = ending }))

  -- StatementList (13.2)
  pub data AreItems (text : List ℕ) : Context → List Statement → Type 0 where
    no_items : {c : Context} → AreItems text c []
    more_items : {c : Context} {first : Statement} {rest : List Statement} → IsItem text c first → AreItems text c rest → AreItems text c (first ∷ rest)

  -- StatementListItem (13.2): a Statement or a Declaration
  pub data IsItem (text : List ℕ) : Context → Statement → Type 0 where
    statement : {c : Context} {x : Statement} → IsStatement text c x → IsItem text c x
    function_declaration : {c : Context} {function : Function} → IsFunction text true function → IsItem text c (s.FunctionDeclaration function)
    class_declaration : {c : Context} {class : Class} → IsClass text true c class → IsItem text c (s.ClassDeclaration class)
    -- LexicalDeclaration (13.3.1)
    lexical_declaration : {c : Context} {declaration : Declaration} {semicolon : Option Token} → IsDeclaration text true c declaration → Ends text (bindings_go_on (out-Declaration declaration).bindings) (tokens_of_declaration written declaration) semicolon → IsItem text c (s.Variables declaration semicolon)

  -- `let` or `const` and its bindings (13.3.1), which the flag says, or `var` (13.3.2)
  pub data IsDeclaration (text : List ℕ) : Bool → Context → Declaration → Type 0 where
    lexical_bindings : {c : Context} (word : Token) (list : Elements) → is_lexical word.kind ≡ true → AreElements text f.Bindings c list → IsDeclaration text true c (roll-Declaration (record { word = word; bindings = list }))
    variable_bindings : {c : Context} (word : Token) (list : Elements) → word.kind ≡ k.Var → AreElements text f.Bindings c list → IsDeclaration text false c (roll-Declaration (record { word = word; bindings = list }))

  -- Statement (13)
  pub data IsStatement (text : List ℕ) : Context → Statement → Type 0 where
    block_statement : {c : Context} {block : Block} → IsBlock text c block → IsStatement text c (s.BlockStatement block)
    -- VariableStatement (13.3.2)
    variable_statement : {c : Context} {declaration : Declaration} {semicolon : Option Token} → IsDeclaration text false c declaration → Ends text (bindings_go_on (out-Declaration declaration).bindings) (tokens_of_declaration written declaration) semicolon → IsStatement text c (s.Variables declaration semicolon)
    -- EmptyStatement (13.4)
    empty_statement : {c : Context} {semicolon : Token} → semicolon.kind ≡ k.Semicolon → IsStatement text c (s.Empty semicolon)
    -- ExpressionStatement (13.5)
    expression_statement : {c : Context} {x : Expression} {semicolon : Option Token} → begins_no_expression text (tokens_of_expression written x) ≡ false → IsExpression text (inside c) x → Ends text (statement_goes_on x) (tokens_of_expression written x) semicolon → IsStatement text c (s.ExpressionStatement x semicolon)
    -- IfStatement (13.6)
    if_statement : {c : Context} (clause : IfClause) (rest : List ElseIf) (last : Else) → IsIfClause text (not (is_empty rest) || has_else last) c clause → AreElseIfs text (has_else last) c rest → IsElse text c last → IsStatement text c (s.If clause rest last)
    -- IterationStatement (13.7.2, 13.7.3)
    do_while : {c : Context} {word : Token} {body : Statement} {while_word begin : Token} {x : Expression} {ending : Token} {semicolon : Option Token} → word.kind ≡ k.Do → IsStatement text c body → while_word.kind ≡ k.While → begin.kind ≡ k.LeftParenthesis → IsExpression text (inside c) x → ending.kind ≡ k.RightParenthesis → EndsLoop text (ending ∷ []) semicolon → IsStatement text c (s.DoWhile word body while_word begin x ending semicolon)
    while : {c : Context} {word begin : Token} {x : Expression} {ending : Token} {body : Statement} → word.kind ≡ k.While → begin.kind ≡ k.LeftParenthesis → IsExpression text (inside c) x → ending.kind ≡ k.RightParenthesis → IsStatement text c body → IsStatement text c (s.While word begin x ending body)
    -- `for` with two semicolons (13.7.4)
    for : {c : Context} {word begin : Token} {start : ForStart} {first : Token} {test : MaybeExpression} {second : Token} {step : MaybeExpression} {ending : Token} {body : Statement} → word.kind ≡ k.For → begin.kind ≡ k.LeftParenthesis → IsForStart text c start → first.kind ≡ k.Semicolon → IsMaybeExpression text (inside c) test → second.kind ≡ k.Semicolon → IsMaybeExpression text (inside c) step → ending.kind ≡ k.RightParenthesis → IsStatement text c body → IsStatement text c (s.For word begin start first test second step ending body)
    -- `for` `in`, `for` `of` and `for await` (13.7.5)
    for_in : {c : Context} {word begin : Token} {start : ForStart} {middle : Token} {x : Expression} {ending : Token} {body : Statement} → word.kind ≡ k.For → begin.kind ≡ k.LeftParenthesis → IsForTarget text begins_let_bracket c start → middle.kind ≡ k.In → IsExpression text (inside c) x → ending.kind ≡ k.RightParenthesis → IsStatement text c body → IsStatement text c (s.ForEach word None begin start middle x ending body)
    for_of : {c : Context} {word : Token} {await_word : Option Token} {begin : Token} {start : ForStart} {middle : Token} {x : Expression} {ending : Token} {body : Statement} → word.kind ≡ k.For → kind_if_there (is_await_in c) await_word ≡ true → begin.kind ≡ k.LeftParenthesis → IsForTarget text begins_let c start → is_word text (codes "of") middle ≡ true → IsAssignment text (inside c) x → ending.kind ≡ k.RightParenthesis → IsStatement text c body → IsStatement text c (s.ForEach word await_word begin start middle x ending body)
    -- ContinueStatement (13.8), BreakStatement (13.9)
    continue_statement : {c : Context} {word : Token} {label semicolon : Option Token} → word.kind ≡ k.Continue → kind_if_there (is_reference c) label ≡ true → if_there stands_on_line label ≡ true → Ends text nothing_goes_on (word ∷ maybe_token label) semicolon → IsStatement text c (s.Continue word label semicolon)
    break_statement : {c : Context} {word : Token} {label semicolon : Option Token} → word.kind ≡ k.Break → kind_if_there (is_reference c) label ≡ true → if_there stands_on_line label ≡ true → Ends text nothing_goes_on (word ∷ maybe_token label) semicolon → IsStatement text c (s.Break word label semicolon)
    -- ReturnStatement (13.10)
    return_alone : {c : Context} {word : Token} {semicolon : Option Token} → word.kind ≡ k.Return → Ends text nothing_goes_on (word ∷ []) semicolon → IsStatement text c (s.Return word me.Absent semicolon)
    return_value : {c : Context} {word : Token} {x : Expression} {semicolon : Option Token} → word.kind ≡ k.Return → on_line (tokens_of_expression written x) ≡ true → IsExpression text (inside c) x → Ends text (expression_goes_on x) (tokens_of_expression written x) semicolon → IsStatement text c (s.Return word (me.Present x) semicolon)
    -- SwitchStatement (13.12)
    switch_statement : {c : Context} (word begin : Token) (x : Expression) (ending left : Token) (clauses : List CaseClause) (right : Token) → word.kind ≡ k.Switch → begin.kind ≡ k.LeftParenthesis → IsExpression text (inside c) x → ending.kind ≡ k.RightParenthesis → left.kind ≡ k.LeftBrace → AreCaseClauses text true c clauses → right.kind ≡ k.RightBrace → IsStatement text c (s.Switch word begin x ending left clauses right)
    -- LabelledStatement (13.13)
    labelled : {c : Context} {label colon : Token} {body : Statement} → is_reference c label.kind ≡ true → colon.kind ≡ k.Colon → IsStatement text c body → IsStatement text c (s.Labelled label colon body)
    -- ThrowStatement (13.14)
    throw : {c : Context} {word : Token} {x : Expression} {semicolon : Option Token} → word.kind ≡ k.Throw → on_line (tokens_of_expression written x) ≡ true → IsExpression text (inside c) x → Ends text (expression_goes_on x) (tokens_of_expression written x) semicolon → IsStatement text c (s.Throw word x semicolon)
    -- TryStatement (13.15)
    try_catch : {c : Context} {word : Token} {block : Block} {handler : Handler} {finalizer : Finalizer} → word.kind ≡ k.Try → IsBlock text c block → IsCatch text c handler → IsFinalizer text c finalizer → IsStatement text c (s.Try word block handler finalizer)
    try_finally : {c : Context} {word : Token} {block : Block} {finally_word : Token} {last : Block} → word.kind ≡ k.Try → IsBlock text c block → finally_word.kind ≡ k.Finally → IsBlock text c last → IsStatement text c (s.Try word block ha.NoHandler (fi.Finally finally_word last))
    -- DebuggerStatement (13.16)
    debugger : {c : Context} {word : Token} {semicolon : Option Token} → word.kind ≡ k.Debugger → Ends text nothing_goes_on (word ∷ []) semicolon → IsStatement text c (s.Debugger word semicolon)

  -- `if` (Expression) Statement (13.6); the flag says that an `else` is behind it, which is that of no other `if`
  pub data IsIfClause (text : List ℕ) : Bool → Context → IfClause → Type 0 where
    if_clause : {followed : Bool} {c : Context} {word begin : Token} {condition : Expression} {ending : Token} {body : Statement} → word.kind ≡ k.If → begin.kind ≡ k.LeftParenthesis → IsExpression text (inside c) condition → ending.kind ≡ k.RightParenthesis → IsStatement text c body → followed && takes_else body ≡ false → IsIfClause text followed c (roll-IfClause (record { word = word; begin = begin; condition = condition; ending = ending; body = body }))

  -- each `else if`; the flag says that an `else` is behind them
  pub data AreElseIfs (text : List ℕ) : Bool → Context → List ElseIf → Type 0 where
    no_else_ifs : {followed : Bool} {c : Context} → AreElseIfs text followed c []
    else_if : {followed : Bool} {c : Context} (word : Token) (clause : IfClause) (rest : List ElseIf) → word.kind ≡ k.Else → IsIfClause text (not (is_empty rest) || followed) c clause → AreElseIfs text followed c rest → AreElseIfs text followed c (roll-ElseIf (record { else_word = word; clause = clause }) ∷ rest)

  pub data IsElse (text : List ℕ) : Context → Else → Type 0 where
    no_else : {c : Context} → IsElse text c ot.NoElse
    otherwise : {c : Context} {word : Token} {body : Statement} → word.kind ≡ k.Else → IsStatement text c body → is_if body ≡ false → IsElse text c (ot.Otherwise word body)

  -- what stands before the first semicolon of a `for` (13.7.4)
  pub data IsForStart (text : List ℕ) : Context → ForStart → Type 0 where
    no_start : {c : Context} → IsForStart text c fs.NoStart
    start_expression : {c : Context} {x : Expression} → begins_let_bracket (tokens_of_expression written x) ≡ false → IsExpression text (without_in c) x → IsForStart text c (fs.StartExpression x)
    start_declaration : {is_lexical_declaration : Bool} {c : Context} {declaration : Declaration} → IsDeclaration text is_lexical_declaration (without_in c) declaration → IsForStart text c (fs.StartDeclaration declaration)

  -- what stands before `in` or `of` (13.7.5), which does not begin as the test says; a ForBinding has no value
  pub data IsForTarget (text : List ℕ) : (List Token → Bool) → Context → ForStart → Type 0 where
    for_expression : {begins : List Token → Bool} {c : Context} {x : Expression} → begins (tokens_of_expression written x) ≡ false → IsLeftHandSide text c x → IsForTarget text begins c (fs.StartExpression x)
    for_binding : {begins : List Token → Bool} {c : Context} (word : Token) (x : Expression) → is_variable word.kind ≡ true → IsTarget text c x → IsForTarget text begins c (fs.StartDeclaration (roll-Declaration (record { word = word; bindings = roll-Elements (record { first = el.Value x; rest = [] }) })))

  pub data IsMaybeExpression (text : List ℕ) : Context → MaybeExpression → Type 0 where
    absent : {c : Context} → IsMaybeExpression text c me.Absent
    present : {c : Context} {x : Expression} → IsExpression text c x → IsMaybeExpression text c (me.Present x)

  -- CaseBlock (13.12); the flag says that a DefaultClause may come
  pub data AreCaseClauses (text : List ℕ) : Bool → Context → List CaseClause → Type 0 where
    no_clauses : {has_default : Bool} {c : Context} → AreCaseClauses text has_default c []
    case_clause : {has_default : Bool} {c : Context} (word : Token) (x : Expression) (colon : Token) (body : List Statement) (rest : List CaseClause) → word.kind ≡ k.Case → IsExpression text (inside c) x → colon.kind ≡ k.Colon → AreItems text c body → AreCaseClauses text has_default c rest → AreCaseClauses text has_default c (cc.Case word x colon body ∷ rest)
    default_clause : {c : Context} (word colon : Token) (body : List Statement) (rest : List CaseClause) → word.kind ≡ k.Default → colon.kind ≡ k.Colon → AreItems text c body → AreCaseClauses text false c rest → AreCaseClauses text true c (cc.Default word colon body ∷ rest)

  -- Catch (13.15)
  pub data IsCatch (text : List ℕ) : Context → Handler → Type 0 where
    catch_alone : {c : Context} {word : Token} {block : Block} → word.kind ≡ k.Catch → IsBlock text c block → IsCatch text c (ha.Catch word block)
    catch_parameter : {c : Context} {word begin : Token} {x : Expression} {ending : Token} {block : Block} → word.kind ≡ k.Catch → begin.kind ≡ k.LeftParenthesis → IsTarget text c x → ending.kind ≡ k.RightParenthesis → IsBlock text c block → IsCatch text c (ha.CatchParameter word begin x ending block)

  -- Finally (13.15), which may be absent
  pub data IsFinalizer (text : List ℕ) : Context → Finalizer → Type 0 where
    no_finalizer : {c : Context} → IsFinalizer text c fi.NoFinalizer
    finally : {c : Context} {word : Token} {block : Block} → word.kind ≡ k.Finally → IsBlock text c block → IsFinalizer text c (fi.Finally word block)
