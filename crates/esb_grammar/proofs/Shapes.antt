-- What a node may be by what it is on the outside.
use Rattle.std.proofs.Common.{◌≡◌, ℕ, ◌<◌, ◌≤◌, Bool, true, false, List, ◌∷◌, ◌⊎◌, inl, inr, refl, ap, sym, ◌∙◌, subst, Option, Some, None, unwrap_or}
use Rattle.esb_tree.specs.declared.classes.ClassElement.TheOpen.{Expression-F}
use Rattle.esb_tree.specs.declared.classes.ClassElement.{ClassElement}
use Rattle.esb_tree.specs.declared.classes.Heritage.{Heritage}
use Rattle.esb_tree.specs.declared.expressions.Expression.{Expression, out-Expression, out-roll-Expression}
use Rattle.esb_tree.specs.declared.expressions.Expression.TheVariants as e
use Rattle.esb_tree.specs.declared.expressions.Link.{Link}
use Rattle.esb_tree.specs.declared.functions.ConciseBody.{ConciseBody}
use Rattle.esb_tree.specs.declared.patterns.Element.{Element}
use Rattle.esb_tree.specs.declared.patterns.PropertyName.{PropertyName}
use Rattle.esb_tree.specs.declared.statements.CaseClause.{CaseClause}
use Rattle.esb_tree.specs.declared.statements.Else.{Else}
use Rattle.esb_tree.specs.declared.statements.Finalizer.{Finalizer}
use Rattle.esb_tree.specs.declared.statements.ForStart.{ForStart}
use Rattle.esb_tree.specs.declared.statements.Handler.{Handler}
use Rattle.esb_tree.specs.declared.statements.MaybeExpression.{MaybeExpression}
use Rattle.esb_tree.specs.declared.statements.Statement.{Statement}
use Rattle.esb_tree.specs.declared.classes.Class.{Class}
use Rattle.esb_tree.specs.declared.expressions.Operand.{Operand}
use Rattle.esb_tree.specs.declared.expressions.Substitution.{Substitution}
use Rattle.esb_tree.specs.declared.expressions.Substitutions.{Substitutions}
use Rattle.esb_tree.specs.declared.functions.Function.{Function}
use Rattle.esb_tree.specs.declared.functions.Method.{Method}
use Rattle.esb_tree.specs.declared.patterns.Bracketed.{Bracketed}
use Rattle.esb_tree.specs.declared.patterns.Elements.{Elements}
use Rattle.esb_tree.specs.declared.patterns.NextElement.{NextElement}
use Rattle.esb_tree.specs.declared.statements.Block.{Block}
use Rattle.esb_tree.specs.declared.statements.Declaration.{Declaration}
use Rattle.esb_tree.specs.declared.statements.ElseIf.{ElseIf}
use Rattle.esb_tree.specs.declared.statements.IfClause.{IfClause}
use Rattle.esb_grammar.specs.declared.context.Context.{Context}
use Rattle.esb_grammar.specs.Grammar.{IsPrimary, identifier_reference, literal, array_literal, object_literal, parenthesized, template_literal, function_expression, class_expression, IsOrigin, primary_expression, new_target, import_meta, new_with_arguments, import_call, IsAccess, origin, member, super_member, IsLeftHandSide, access, new_without_arguments, IsUpdate, left_hand_side, postfix, prefix, IsUnary, update, unary, await, IsBinary, unary_expression, exponentiation, operators, ArePowers, AreOperands, operand_level, short_circuit, conditional, IsAssignment, conditional_expression, assignment, yield_alone, yield_value, yield_each, arrow_function, async_arrow_function, async_arrow_of_name, AreLinks}

abbrev pub Layer : Type 0
Layer = Expression-F ClassElement Heritage Expression Link ConciseBody Element PropertyName CaseClause Else Finalizer ForStart Handler MaybeExpression Statement Class Operand Substitution Substitutions Function Method Bracketed Elements NextElement Block Declaration ElseIf IfClause

abbrev pub is_origin_layer : Layer → Bool
is_origin_layer (Expression-F.Primary t) = true
is_origin_layer (Expression-F.MetaProperty word dot name) = true
is_origin_layer (Expression-F.ArrayLiteral list) = true
is_origin_layer (Expression-F.ObjectLiteral list) = true
is_origin_layer (Expression-F.Parenthesized list) = true
is_origin_layer (Expression-F.TemplateLiteral template) = true
is_origin_layer (Expression-F.FunctionExpression function) = true
is_origin_layer (Expression-F.ClassExpression class) = true
is_origin_layer (Expression-F.New word callee arguments) = true
is_origin_layer (Expression-F.ImportCall word begin x ending) = true
is_origin_layer _ = false

abbrev pub is_access_layer : Layer → Bool
is_access_layer (Expression-F.Member object links) = true
is_access_layer x = is_origin_layer x

abbrev pub is_left_layer : Layer → Bool
is_left_layer (Expression-F.NewPlain word callee) = true
is_left_layer x = is_access_layer x

abbrev pub is_update_layer : Layer → Bool
is_update_layer (Expression-F.PrefixUpdate operator x) = true
is_update_layer (Expression-F.PostfixUpdate x operator) = true
is_update_layer x = is_left_layer x

abbrev pub is_unary_layer : Layer → Bool
is_unary_layer (Expression-F.Unary operator x) = true
is_unary_layer (Expression-F.Await word x) = true
is_unary_layer x = is_update_layer x

-- the operands of a chain
abbrev pub chain_layer : Layer → Option (Expression × List Operand)
chain_layer (Expression-F.Binary first rest) = Some (first, rest)
chain_layer _ = None

pub primary_shape : {text : List ℕ} {c : Context} {x : Expression} → IsPrimary text c x → is_origin_layer (out-Expression x) ≡ true
unfolding out-Expression denote.Hole.Carrier.out
primary_shape (identifier_reference h) = refl
primary_shape (literal h) = refl
primary_shape (array_literal h) = refl
primary_shape (object_literal h) = refl
primary_shape (parenthesized h) = refl
primary_shape (template_literal h) = refl
primary_shape (function_expression h) = refl
primary_shape (class_expression h) = refl

pub origin_shape : {text : List ℕ} {calls : Bool} {c : Context} {x : Expression} → IsOrigin text calls c x → is_origin_layer (out-Expression x) ≡ true
unfolding out-Expression denote.Hole.Carrier.out
origin_shape (primary_expression h) = primary_shape h
origin_shape (new_target h1 h2 h3) = refl
origin_shape (import_meta h1 h2 h3) = refl
origin_shape (new_with_arguments h1 h2 h3) = refl
origin_shape (import_call h1 h2 h3 h4) = refl

origin_access : (x : Layer) → is_origin_layer x ≡ true → is_access_layer x ≡ true
origin_access (Expression-F.Member object links) h = refl
origin_access _ h = h

access_left : (x : Layer) → is_access_layer x ≡ true → is_left_layer x ≡ true
access_left (Expression-F.NewPlain word callee) h = refl
access_left _ h = h

left_update : (x : Layer) → is_left_layer x ≡ true → is_update_layer x ≡ true
left_update (Expression-F.PrefixUpdate operator x) h = refl
left_update (Expression-F.PostfixUpdate x operator) h = refl
left_update _ h = h

update_unary : (x : Layer) → is_update_layer x ≡ true → is_unary_layer x ≡ true
update_unary (Expression-F.Unary operator x) h = refl
update_unary (Expression-F.Await word x) h = refl
update_unary _ h = h

pub access_shape : {text : List ℕ} {calls : Bool} {c : Context} {x : Expression} → IsAccess text calls c x → is_access_layer (out-Expression x) ≡ true
unfolding out-Expression denote.Hole.Carrier.out
access_shape {x = x} (origin h) = origin_access (out-Expression x) (origin_shape h)
access_shape (member object first rest h1 h2) = refl
access_shape (super_member word first rest h1 h2 h3) = refl

pub left_shape : {text : List ℕ} {c : Context} {x : Expression} → IsLeftHandSide text c x → is_left_layer (out-Expression x) ≡ true
unfolding out-Expression denote.Hole.Carrier.out
left_shape {x = x} (access h) = access_left (out-Expression x) (access_shape h)
left_shape (new_without_arguments h1 h2) = refl

pub update_shape : {text : List ℕ} {c : Context} {x : Expression} → IsUpdate text c x → is_update_layer (out-Expression x) ≡ true
unfolding out-Expression denote.Hole.Carrier.out
update_shape {x = x} (left_hand_side h) = left_update (out-Expression x) (left_shape h)
update_shape (postfix h1 h2 h3) = refl
update_shape (prefix h1 h2) = refl

pub unary_shape : {text : List ℕ} {c : Context} {x : Expression} → IsUnary text c x → is_unary_layer (out-Expression x) ≡ true
unfolding out-Expression denote.Hole.Carrier.out
unary_shape {x = x} (update h) = update_unary (out-Expression x) (update_shape h)
unary_shape (unary h1 h2) = refl
unary_shape (await h1 h2 h3) = refl

none_is_not : {A : Type 0} {x : A} → None ≡ Some x → ⊥
none_is_not is = cc

false_is_not : false ≡ true → ⊥
false_is_not is = cc

pub some_is : {A : Type 0} {p q : A} → Some p ≡ Some q → p ≡ q
some_is {p = p} is = ap (λ o. unwrap_or o p) is

pub some_first : {A B : Type 0} {p q : A × B} → Some p ≡ Some q → p.0 ≡ q.0
some_first {p = p} is = ap (λ o. (unwrap_or o p).0) is

pub some_second : {A B : Type 0} {p q : A × B} → Some p ≡ Some q → p.1 ≡ q.1
some_second {p = p} is = ap (λ o. (unwrap_or o p).1) is

no_chain : {p : Expression × List Operand} (x : Layer) → is_unary_layer x ≡ true → chain_layer x ≡ Some p → ⊥
no_chain (Expression-F.Binary first rest) h is = absurd (false_is_not h)
no_chain _ h is = absurd (none_is_not is)

-- the object and the links of a chain
abbrev pub member_layer : Layer → Option (Expression × List Link)
member_layer (Expression-F.Member object links) = Some (object, links)
member_layer _ = None

no_origin : {p : Expression × List Link} (x : Layer) → is_origin_layer x ≡ true → member_layer x ≡ Some p → ⊥
no_origin (Expression-F.Member object links) h is = absurd (false_is_not h)
no_origin _ h is = absurd (none_is_not is)

-- ---- the other way: what a node of some outside is

module _ {text : List ℕ} {c : Context} where
  unary_at : {n : ℕ} {x : Expression} → IsBinary text n c x → is_unary_layer (out-Expression x) ≡ true → IsUnary text c x
  unfolding out-Expression denote.Hole.Carrier.out
  unary_at (unary_expression h) shape = h
  unary_at (exponentiation first second rest h1 h2 h3) shape = cc
  unary_at (operators own first second rest h1 h2 h3 h4) shape = cc

  pub unary_of : {x : Expression} → IsAssignment text c x → is_unary_layer (out-Expression x) ≡ true → IsUnary text c x
  unfolding out-Expression denote.Hole.Carrier.out
  unary_of (conditional_expression (short_circuit h)) shape = unary_at h shape
  unary_of (conditional_expression (conditional h1 h2 h3 h4 h5)) shape = cc
  unary_of (assignment h1 h2 h3) shape = cc
  unary_of (yield_alone h1 h2) shape = cc
  unary_of (yield_value h1 h2 h3 h4) shape = cc
  unary_of (yield_each h1 h2 h3 h4 h5) shape = cc
  unary_of (arrow_function h1 h2 h3 h4) shape = cc
  unary_of (async_arrow_function h1 h2 h3 h4) shape = cc
  unary_of (async_arrow_of_name h1 h2 h3 h4 h5 h6) shape = cc

  pub update_of : {x : Expression} → IsUnary text c x → is_update_layer (out-Expression x) ≡ true → IsUpdate text c x
  unfolding out-Expression denote.Hole.Carrier.out
  update_of (update h) shape = h
  update_of (unary h1 h2) shape = cc
  update_of (await h1 h2 h3) shape = cc

  pub left_of : {x : Expression} → IsUpdate text c x → is_left_layer (out-Expression x) ≡ true → IsLeftHandSide text c x
  unfolding out-Expression denote.Hole.Carrier.out
  left_of (left_hand_side h) shape = h
  left_of (postfix h1 h2 h3) shape = cc
  left_of (prefix h1 h2) shape = cc

  pub access_of : {x : Expression} → IsLeftHandSide text c x → is_access_layer (out-Expression x) ≡ true → IsAccess text true c x
  unfolding out-Expression denote.Hole.Carrier.out
  access_of (access h) shape = h
  access_of (new_without_arguments h1 h2) shape = cc

  pub origin_of : {calls : Bool} {x : Expression} → IsAccess text calls c x → is_origin_layer (out-Expression x) ≡ true → IsOrigin text calls c x
  unfolding out-Expression denote.Hole.Carrier.out
  origin_of (origin h) shape = h
  origin_of (member object first rest h1 h2) shape = cc
  origin_of (super_member word first rest h1 h2 h3) shape = cc

  pub access_in : {x : Expression} → IsAssignment text c x → is_access_layer (out-Expression x) ≡ true → IsAccess text true c x
  access_in {x} h shape =
      let left = access_left (out-Expression x) shape in
      let updated = left_update (out-Expression x) left in
      access_of (left_of (update_of (unary_of h (update_unary (out-Expression x) updated)) updated) left) shape

  pub origin_in : {x : Expression} → IsAssignment text c x → is_origin_layer (out-Expression x) ≡ true → IsOrigin text true c x
  origin_in {x} h shape = origin_of (access_in h (origin_access (out-Expression x) shape)) shape

pub out_member : (object : Expression) (links : List Link) → out-Expression (e.Member object links) ≡ Expression-F.Member object links
out_member object links = ap out-Expression (sym (e.rolls-Member object links)) ∙ out-roll-Expression (Expression-F.Member object links)

pub out_binary : (first : Expression) (rest : List Operand) → out-Expression (e.Binary first rest) ≡ Expression-F.Binary first rest
out_binary first rest = ap out-Expression (sym (e.rolls-Binary first rest)) ∙ out-roll-Expression (Expression-F.Binary first rest)

-- the links of a chain
links_at : (text : List ℕ) (calls : Bool) (c : Context) (x object : Expression) (links : List Link) → IsAccess text calls c x → member_layer (out-Expression x) ≡ Some (object, links) → AreLinks text calls false c links
links_at text calls c x object links (origin h) is = absurd (no_origin (out-Expression x) (origin_shape h) is)
links_at text calls c x object links (member o first rest h1 h2) is = subst (AreLinks text calls false c) (some_second (sym (ap member_layer (out_member o (first ∷ rest))) ∙ is)) h2
links_at text calls c x object links (super_member word first rest h1 h2 h3) is = subst (AreLinks text calls false c) (some_second (sym (ap member_layer (out_member (e.Primary word) (first ∷ rest))) ∙ is)) h3

pub links_of : (text : List ℕ) (calls : Bool) (c : Context) (object : Expression) (links : List Link) → IsAccess text calls c (e.Member object links) → AreLinks text calls false c links
links_of text calls c object links h = links_at text calls c (e.Member object links) object links h (ap member_layer (out_member object links))

-- the operands of a chain, by the two productions

pub record ArePowersOf (text : List ℕ) (c : Context) (first : Expression) (rest : List Operand) : Type 0 where
  pub base : IsUpdate text c first
  pub powers : ArePowers text c rest

pub record AreOperandsOf (text : List ℕ) (n : ℕ) (c : Context) (first : Expression) (rest : List Operand) : Type 0 where
  pub own : ℕ
  pub above : 1 < own
  pub within : own ≤ n
  pub head_is : IsBinary text (operand_level own) c first
  pub operands : AreOperands text own c rest

chain_at : (text : List ℕ) (n : ℕ) (c : Context) (x first : Expression) (rest : List Operand) → IsBinary text n c x → chain_layer (out-Expression x) ≡ Some (first, rest) → ArePowersOf text c first rest ⊎ AreOperandsOf text n c first rest
chain_at text n c x first rest (unary_expression h) is = absurd (no_chain (out-Expression x) (unary_shape h) is)
chain_at text n c x first rest (exponentiation p q qs h1 h2 h3) is =
    let same = sym (ap chain_layer (out_binary p (q ∷ qs))) ∙ is in
    inl (record { base = subst (IsUpdate text c) (some_first same) h2; powers = subst (ArePowers text c) (some_second same) h3 })
chain_at text n c x first rest (operators own p q qs h1 h2 h3 h4) is =
    let same = sym (ap chain_layer (out_binary p (q ∷ qs))) ∙ is in
    inr (record { own = own; above = h1; within = h2; head_is = subst (IsBinary text (operand_level own) c) (some_first same) h3; operands = subst (AreOperands text own c) (some_second same) h4 })

pub chain_within : (text : List ℕ) (n : ℕ) (c : Context) (first : Expression) (rest : List Operand) → IsBinary text n c (e.Binary first rest) → ArePowersOf text c first rest ⊎ AreOperandsOf text n c first rest
chain_within text n c first rest h = chain_at text n c (e.Binary first rest) first rest h (ap chain_layer (out_binary first rest))

pub chain_of : (text : List ℕ) (c : Context) (first : Expression) (rest : List Operand) → IsAssignment text c (e.Binary first rest) → ArePowersOf text c first rest ⊎ AreOperandsOf text 12 c first rest
chain_of text c first rest (conditional_expression (short_circuit h)) = chain_within text 12 c first rest h
