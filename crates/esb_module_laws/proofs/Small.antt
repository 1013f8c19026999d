-- Small facts of tests and of kinds of token.
use Rattle.std.proofs.Common.{◌≡◌, inl, inr, ℕ, Bool, true, false, ◌&&◌, List, Some, refl, ap, sym, subst}
use Rattle.esb_token.specs.declared.kind.Kind.{Kind}
use Rattle.esb_token.specs.declared.kind.Kind.TheVariants as k
use Rattle.esb_token.specs.declared.token.Token.{Token}
use Rattle.esb_token.specs.declared.goal.Goal.TheVariants as goal
use Rattle.esb_grammar.specs.Kinds.{is_binding, is_identifier_name, is_comma, is_name}
use Rattle.esb_grammar.specs.Words.{is_word}
use Rattle.esb_reader.specs.Kinds.{agrees}
use Rattle.esb_reader.specs.Places.{Text}
use Rattle.esb_reader.specs.Stands.{Syntax, maybe}
use Rattle.esb_module_laws.specs.Marks.{ends_specifier}

-- a part that is there
pub there : {A : Type 0} (S : Syntax A) (a : A) → (maybe S).Good (Some a) → S.Good a
there S a (inl h) = subst S.Good (sym (same h.1)) h.2
  where
    same : Some a ≡ Some h.0 → a ≡ h.0
    same e = cc
there S a (inr e) = cc

name_kind : (kind : Kind) → is_name kind ≡ true → kind ≡ k.Name
name_kind k.Name h = refl
name_kind _ h = cc

first_of : (a b : Bool) → (a && b) ≡ true → a ≡ true
first_of true b h = refl
first_of false b h = cc

no_first : (a b : Bool) → a ≡ false → (a && b) ≡ false
no_first false b h = refl
no_first true b h = cc

-- a word is a name
pub word_kind : (text : Text) (word : List ℕ) (t : Token) → is_word text word t ≡ true → t.kind ≡ k.Name
unfolding is_word
word_kind text word t h = name_kind t.kind (first_of (is_name t.kind) _ h)

pub word_agrees : (text : Text) (word : List ℕ) (t : Token) → is_word text word t ≡ true → agrees goal.Div t.kind ≡ true
word_agrees text word t h = ap (agrees goal.Div) (word_kind text word t h)

-- so a token of another kind is none
pub no_word : (text : Text) (word : List ℕ) (t : Token) → is_name t.kind ≡ false → is_word text word t ≡ false
unfolding is_word
no_word text word t h = no_first (is_name t.kind) _ h

pub name_agrees : (kind : Kind) → is_identifier_name kind ≡ true → agrees goal.Div kind ≡ true
name_agrees k.End h = cc
name_agrees k.RegExp h = cc
name_agrees k.TemplateMiddle h = cc
name_agrees k.TemplateTail h = cc
name_agrees _ h = refl

pub binding_agrees : (kind : Kind) → is_binding kind ≡ true → agrees goal.Div kind ≡ true
binding_agrees k.End h = cc
binding_agrees k.RegExp h = cc
binding_agrees k.TemplateMiddle h = cc
binding_agrees k.TemplateTail h = cc
binding_agrees _ h = refl

-- each name that is bound is a name
pub binding_is_name : (kind : Kind) → is_binding kind ≡ true → is_identifier_name kind ≡ true
binding_is_name k.Name h = refl
binding_is_name k.Yield h = refl
binding_is_name k.Await h = refl
binding_is_name k.Implements h = refl
binding_is_name k.Interface h = refl
binding_is_name k.Let h = refl
binding_is_name k.Package h = refl
binding_is_name k.Private h = refl
binding_is_name k.Protected h = refl
binding_is_name k.Public h = refl
binding_is_name k.Static h = refl
binding_is_name _ h = cc

-- what ends a specifier is no name
pub ends_no_name : (kind : Kind) → ends_specifier kind ≡ true → is_identifier_name kind ≡ false
ends_no_name k.Comma h = refl
ends_no_name k.RightBrace h = refl
ends_no_name _ h = cc

pub ends_no_word : (kind : Kind) → ends_specifier kind ≡ true → is_name kind ≡ false
ends_no_word k.Comma h = refl
ends_no_word k.RightBrace h = refl
ends_no_word _ h = cc

pub comma_ends : (kind : Kind) → is_comma kind ≡ true → ends_specifier kind ≡ true
comma_ends k.Comma h = refl
comma_ends _ h = cc

pub comma_is : (kind : Kind) → is_comma kind ≡ true → kind ≡ k.Comma
comma_is k.Comma h = refl
comma_is _ h = cc
