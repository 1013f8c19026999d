-- Classes of tokens of which none is open.
use Rattle.std.proofs.Common.{◌≡◌, ℕ, ◌<◌, Bool, true, List, Option, Some, None, refl, sym, subst, arith}
use Rattle.std.proofs.lemmas.Bool.{and_parts}
use Rattle.esb_token.specs.declared.kind.Kind.{Kind}
use Rattle.esb_token.specs.declared.kind.Kind.TheVariants as k
use Rattle.esb_token.specs.declared.token.Token.{Token}
use Rattle.esb_tree.specs.Operators.{level_of, is_unary, is_assignment}
use Rattle.esb_grammar.specs.declared.context.Context.{Context}
use Rattle.esb_grammar.specs.declared.form.Form.{Form}
use Rattle.esb_grammar.specs.declared.form.Form.TheVariants as f
use Rattle.esb_grammar.specs.Forms.{opener, closer}
use Rattle.esb_grammar.specs.Grammar.{is_await_in, is_variable}
use Rattle.esb_grammar.specs.Kinds.{is_reference, is_binding, is_literal, is_identifier_name, is_property_word, is_update, is_lexical, is_star, is_static, is_name}
use Rattle.esb_grammar.specs.Words.{is_word, if_there, kind_if_there}
use Rattle.esb_print.specs.Again.{may_follow}
use Rattle.esb_print_tree.proofs.Joints.{is_closed, closed_if_there}

-- a token of a kind
pub of_kind : {kind : Kind} (t : Token) → t.kind ≡ kind → is_closed kind ≡ true → is_closed t.kind ≡ true
of_kind t h c = subst (λ x. is_closed x ≡ true) (sym h) c

pub reference-closed : (c : Context) (kind : Kind) → is_reference c kind ≡ true → is_closed kind ≡ true
reference-closed c k.Dot h = cc
reference-closed c k.QuestionDot h = cc
reference-closed c k.Question h = cc
reference-closed c _ h = refl

pub binding-closed : (kind : Kind) → is_binding kind ≡ true → is_closed kind ≡ true
binding-closed k.Dot h = cc
binding-closed k.QuestionDot h = cc
binding-closed k.Question h = cc
binding-closed _ h = refl

pub literal-closed : (kind : Kind) → is_literal kind ≡ true → is_closed kind ≡ true
literal-closed k.Dot h = cc
literal-closed k.QuestionDot h = cc
literal-closed k.Question h = cc
literal-closed _ h = refl

pub property-closed : (kind : Kind) → is_property_word kind ≡ true → is_closed kind ≡ true
property-closed k.Dot h = cc
property-closed k.QuestionDot h = cc
property-closed k.Question h = cc
property-closed _ h = refl

pub update-closed : (kind : Kind) → is_update kind ≡ true → is_closed kind ≡ true
update-closed k.Dot h = cc
update-closed k.QuestionDot h = cc
update-closed k.Question h = cc
update-closed _ h = refl

pub unary-closed : (kind : Kind) → is_unary kind ≡ true → is_closed kind ≡ true
unary-closed k.Dot h = cc
unary-closed k.QuestionDot h = cc
unary-closed k.Question h = cc
unary-closed _ h = refl

pub assignment-closed : (kind : Kind) → is_assignment kind ≡ true → is_closed kind ≡ true
assignment-closed k.Dot h = cc
assignment-closed k.QuestionDot h = cc
assignment-closed k.Question h = cc
assignment-closed _ h = refl

pub lexical-closed : (kind : Kind) → is_lexical kind ≡ true → is_closed kind ≡ true
lexical-closed k.Dot h = cc
lexical-closed k.QuestionDot h = cc
lexical-closed k.Question h = cc
lexical-closed _ h = refl

pub variable-closed : (kind : Kind) → is_variable kind ≡ true → is_closed kind ≡ true
variable-closed k.Dot h = cc
variable-closed k.QuestionDot h = cc
variable-closed k.Question h = cc
variable-closed _ h = refl

pub star-closed : (kind : Kind) → is_star kind ≡ true → is_closed kind ≡ true
star-closed k.Dot h = cc
star-closed k.QuestionDot h = cc
star-closed k.Question h = cc
star-closed _ h = refl

pub static-closed : (kind : Kind) → is_static kind ≡ true → is_closed kind ≡ true
static-closed k.Dot h = cc
static-closed k.QuestionDot h = cc
static-closed k.Question h = cc
static-closed _ h = refl

pub await-closed : (c : Context) (kind : Kind) → is_await_in c kind ≡ true → is_closed kind ≡ true
await-closed c k.Dot h = cc
await-closed c k.QuestionDot h = cc
await-closed c k.Question h = cc
await-closed c _ h = refl

name-closed : (kind : Kind) → is_name kind ≡ true → is_closed kind ≡ true
name-closed k.Dot h = cc
name-closed k.QuestionDot h = cc
name-closed k.Question h = cc
name-closed _ h = refl

pub word-closed : (text word : List ℕ) (t : Token) → is_word text word t ≡ true → is_closed t.kind ≡ true
unfolding is_word
word-closed text word t h = name-closed t.kind (and_parts _ _ h).0

pub level-closed : (has_in : Bool) (kind : Kind) (own : ℕ) → 0 < own → level_of has_in kind ≡ own → is_closed kind ≡ true
level-closed has_in k.Dot own some h = absurd (omega (arith, some, h))
level-closed has_in k.QuestionDot own some h = absurd (omega (arith, some, h))
level-closed has_in k.Question own some h = absurd (omega (arith, some, h))
level-closed has_in _ own some h = refl

pub opener-closed : (form : Form) → is_closed (opener form) ≡ true
opener-closed f.Array = refl
opener-closed f.ArrayPattern = refl
opener-closed f.Object = refl
opener-closed f.ObjectPattern = refl
opener-closed _ = refl

pub closer-closed : (form : Form) → is_closed (closer form) ≡ true
closer-closed f.Array = refl
closer-closed f.ArrayPattern = refl
closer-closed f.Object = refl
closer-closed f.ObjectPattern = refl
closer-closed _ = refl

-- a name behind `.` and `?.`
pub identifier-closed : (kind : Kind) → is_identifier_name kind ≡ true → is_closed kind ≡ true
identifier-closed k.Dot h = cc
identifier-closed k.QuestionDot h = cc
identifier-closed k.Question h = cc
identifier-closed _ h = refl

pub identifier-behind_dot : (kind : Kind) → is_identifier_name kind ≡ true → may_follow k.Dot kind ≡ true
identifier-behind_dot k.Number h = cc
identifier-behind_dot k.BigInt h = cc
identifier-behind_dot k.Dot h = cc
identifier-behind_dot k.Ellipsis h = cc
identifier-behind_dot _ h = refl

pub identifier-behind_question_dot : (kind : Kind) → is_identifier_name kind ≡ true → may_follow k.QuestionDot kind ≡ true
identifier-behind_question_dot k.Number h = cc
identifier-behind_question_dot k.BigInt h = cc
identifier-behind_question_dot _ h = refl

name-behind_dot : (kind : Kind) → is_name kind ≡ true → may_follow k.Dot kind ≡ true
name-behind_dot k.Number h = cc
name-behind_dot k.BigInt h = cc
name-behind_dot k.Dot h = cc
name-behind_dot k.Ellipsis h = cc
name-behind_dot _ h = refl

pub word-behind_dot : (text word : List ℕ) (t : Token) → is_word text word t ≡ true → may_follow k.Dot t.kind ≡ true
unfolding is_word
word-behind_dot text word t h = name-behind_dot t.kind (and_parts _ _ h).0

-- ---- tokens that may be absent

pub kind-there : (test : Kind → Bool) → ((kind : Kind) → test kind ≡ true → is_closed kind ≡ true) → (o : Option Token) → kind_if_there test o ≡ true → closed_if_there o ≡ true
kind-there test each None h = refl
kind-there test each (Some t) h = each t.kind h

pub there : (test : Token → Bool) → ((t : Token) → test t ≡ true → is_closed t.kind ≡ true) → (o : Option Token) → if_there test o ≡ true → closed_if_there o ≡ true
there test each None h = refl
there test each (Some t) h = each t h
